use Rattle.ml_queue.specs.Reading.{told}
use Rattle.ml_queue.proofs.Fronting.{no_front, no_row, out_read, row_there, row_not, out_by, same_out}
use Rattle.ml_queue.proofs.entry_text.read_out.Goals as goal

pub returns-in_default : goal.returns-in_default
returns-in_default c = no_front c.args.text.now c.in_default.ensures.none

pub returns-in_default-2 : goal.returns-in_default-2
returns-in_default-2 c = no_row c.args.text.now (told c.in-Some.front) c.in-Some.ensures.some (row_not c.in-Some.front.row.now c.in_ok-to.field-0 c.in_ok-to.ensures c.in_default-2.is)

pub returns : goal.returns
returns c =
    out_read c.args.text.now (told c.in-Some.front) c.in-Some-2.to (out_by c.in_ok-base.base c.in_ok-host.host c.in-Some.front.each c.in_ok-body.body c.in-Some-2.to) c.in-Some.ensures.some
    (row_there c.in-Some.front.row.now c.in_ok-to.field-0 c.in-Some-2.to c.in_ok-to.ensures c.in-Some-2.is)
    (same_out c.in-Some.front.each c.in-Some-2.to c.in_ok-base.base c.in_ok-host.host c.in_ok-body.body c.in-Some.front.base.now c.in-Some.front.host.now c.in-Some.front.body.now
    c.in_ok-base.ensures c.in_ok-host.ensures c.in_ok-body.ensures)

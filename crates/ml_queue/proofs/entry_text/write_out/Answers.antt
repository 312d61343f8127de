use Rattle.std.proofs.Common.{refl}
use Rattle.ml_base.specs.Splits.{ns_row}
use Rattle.ml_queue.proofs.Fronting.{text_made}
use Rattle.ml_queue.proofs.entry_text.write_out.Goals as goal

pub returns-clause-text : goal.returns-clause-text
returns-clause-text c =
    text_made c.args.out.now c.in_ok-text.text c.push_netstring.new.out c.push_netstring-2.new.out c.push_netstring-3.new.out c.push_netstring-4.new.out c.push_recipients.new.out
    c.as_slice.result.now c.as_slice-2.result.now c.letter.result.now c.as_slice-3.result.now (ns_row c.args.out.now.to)
    c.in_ok-text.ensures c.in_ok-push_netstring.ensures.ok c.in_ok-push_netstring-2.ensures.ok c.in_ok-push_netstring-3.ensures.ok c.in_ok-push_netstring-4.ensures.ok c.in_ok-push_recipients.ensures.text
    c.as_slice.ensures c.as_slice-2.ensures c.letter.ensures c.as_slice-3.ensures refl

use Rattle.std.proofs.Common.{Some, None}
use Rattle.ml_drawn.specs.declared.series.Series.TheVariants.{Tickets}
use Rattle.ml_drawn.proofs.OfFiles.{file_absent, looked_some, looking, unread}
use Rattle.ml_hold.specs.Held.{IsHeld, held_text}
use Rattle.ml_hold.specs.Reading.{told}
use Rattle.ml_hold.proofs.OfFiles.{broken}
use Rattle.ml_hold.proofs.Spelling.{held_one}
use Rattle.ml_hold.proofs.post_calls.look.Goals as goal

pub returns-in_default-clause-read : goal.returns-in_default-clause-read
returns-in_default-clause-read g c told = file_absent (g.F.Files.map c.args.files.now) Tickets c.args.ticket c.in_ok-text.field-0 (c.in_ok-text.ensures.value told) c.in_default.is

pub returns-in_default-clause-value : goal.returns-in_default-clause-value
returns-in_default-clause-value g c told pending is = looking IsHeld held_text Tickets (g.F.Files.map c.args.files.now) pending is held_one c.args.ticket None (returns-in_default-clause-read g c told)

pub returns-in-Some-parts_of-clause-read : goal.returns-in-Some-parts_of-clause-read
returns-in-Some-parts_of-clause-read g c tells =
    looked_some IsHeld held_text Tickets (g.F.Files.map c.args.files.now) c.args.ticket c.in_ok-text.field-0 c.in-Some.text c.as_slice.result.now c.in_ok-held_of-in-Some-parts_of.field-0 (told c.in-Some-parts_of.parts)
    (c.in_ok-text.ensures.value tells) c.in-Some.is c.as_slice.ensures c.in-Some-parts_of.ensures.some c.in_ok-held_of-in-Some-parts_of.ensures

pub returns-in-Some-parts_of-clause-value : goal.returns-in-Some-parts_of-clause-value
returns-in-Some-parts_of-clause-value g c told pending is =
    looking IsHeld held_text Tickets (g.F.Files.map c.args.files.now) pending is held_one c.args.ticket (Some c.in_ok-held_of-in-Some-parts_of.field-0) (returns-in-Some-parts_of-clause-read g c told)

pub returns-clause-sound : goal.returns-clause-sound
returns-clause-sound g c told pending is =
    let dir = g.F.Files.map c.args.files.now in
    let bad = unread IsHeld held_text Tickets dir c.args.ticket c.in_ok-text.field-0 c.in-Some.text c.as_slice.result.now c.name.result
    (c.in_ok-text.ensures.value told) c.in-Some.is c.as_slice.ensures c.in-None.ensures.none c.name.ensures in
    broken dir c.name.result pending bad is

use Rattle.std.proofs.Common.{refl, subst, Option, Some, None}
use Rattle.ml_drawn.specs.declared.series.Series.TheVariants.{Ids}
use Rattle.ml_drawn.proofs.OfFiles.{file_absent, looked_some, unread}
use Rattle.ml_queue.specs.declared.entries.Out.{Out}
use Rattle.ml_queue.specs.Queue.{IsOut, out_text}
use Rattle.ml_queue.specs.Reading.{IsRead}
use Rattle.ml_queue.proofs.OfFiles.{broken, looking}
use Rattle.ml_queue.proofs.entry_calls.entry.Goals as goal

pub returns-in_default-clause-read : goal.returns-in_default-clause-read
returns-in_default-clause-read g c told = file_absent (g.F.Files.map c.args.files.now) Ids c.args.id c.in_ok-text.field-0 (c.in_ok-text.ensures.value told) c.in_default.is

pub returns-in_default-clause-value : goal.returns-in_default-clause-value
returns-in_default-clause-value g c told queue is = looking (g.F.Files.map c.args.files.now) c.args.id None queue (returns-in_default-clause-read g c told) is

pub returns-in-Some-2-clause-read : goal.returns-in-Some-2-clause-read
returns-in-Some-2-clause-read g c tells =
    let spelled = subst (λ (o : Option Out). IsRead c.as_slice.result.now o) c.in-Some-2.is c.in_ok-out.ensures in
    looked_some IsOut out_text Ids (g.F.Files.map c.args.files.now) c.args.id c.in_ok-text.field-0 c.in-Some.text c.as_slice.result.now c.in-Some-2.out c.in-Some-2.out
    (c.in_ok-text.ensures.value tells) c.in-Some.is c.as_slice.ensures spelled refl

pub returns-in-Some-2-clause-value : goal.returns-in-Some-2-clause-value
returns-in-Some-2-clause-value g c told queue is = looking (g.F.Files.map c.args.files.now) c.args.id (Some c.in-Some-2.out) queue (returns-in-Some-2-clause-read g c told) is

pub returns-clause-sound : goal.returns-clause-sound
returns-clause-sound g c told queue is =
    let dir = g.F.Files.map c.args.files.now in
    let none = subst (λ (o : Option Out). IsRead c.as_slice.result.now o) c.in-None.is c.in_ok-out.ensures in
    let bad = unread IsOut out_text Ids dir c.args.id c.in_ok-text.field-0 c.in-Some.text c.as_slice.result.now c.name.result
    (c.in_ok-text.ensures.value told) c.in-Some.is c.as_slice.ensures none c.name.ensures in
    broken dir c.name.result queue bad is

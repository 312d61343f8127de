use Rattle.std.proofs.Common.{Option, Some, sym, subst, rules}
use Rattle.ml_base.specs.Dir.{Dir}
use Rattle.ml_base.specs.Drawn.{IsCounter}
use Rattle.ml_base.specs.PartErrors.{OnDamaged}
use Rattle.ml_base.specs.ReadFiles.{IsReading}
use Rattle.ml_base.proofs.ReadingLemmas.{kept_read, reading_then}
use Rattle.ml_drawn.specs.declared.series.Series.TheVariants.{Tickets}
use Rattle.ml_drawn.specs.Answers.{IsTaking}
use Rattle.ml_drawn.proofs.OfFiles.{looking, released}
use Rattle.ml_hold.specs.declared.posts.Held.{Held}
use Rattle.ml_hold.specs.Held.{IsHeld, held_text}
use Rattle.ml_hold.specs.Answers.{LooksBy, tickets_name}
use Rattle.ml_hold.proofs.Spelling.{held_one}
use Rattle.ml_hold.proofs.post_calls.take.Goals as goal

pub returns-clause-read : goal.returns-clause-read
returns-clause-read g c told =
    let same = g.met.F.Files.kept_map c.args.files.now c.look.new.files told c.look.ensures.reads.kept in
    let looks = subst (λ (o : Option Held). LooksBy (g.F.Files.map c.args.files.now) c.args.ticket o) c.in-Some.is (c.in_ok-held.ensures.read told) in
    (looks.0, looks.1, subst (λ (dir : Dir). IsTaking dir Tickets c.args.ticket c.in_ok-txn.txn) same (c.in_ok-txn.ensures.value told))

pub returns-clause-value : goal.returns-clause-value
returns-clause-value g c told pending is =
    let dir = g.F.Files.map c.args.files.now in
    let by = returns-clause-read g c told in
    let looks = looking IsHeld held_text Tickets dir pending is held_one c.args.ticket (Some c.in-Some.held) (by.0, by.1) in
    (sym looks, released IsHeld held_text Tickets dir pending is c.args.ticket c.in_ok-txn.txn c.in-Some.held by.2 (sym looks))

pub returns-in_err-held-clause-sound : goal.returns-in_err-held-clause-sound
returns-in_err-held-clause-sound g c told pending is =
    let none : OnDamaged c.in_err-held.field-0.0 (λ _. ⊥) = c.in_err-held.ensures.sound told pending is in search rules

pub returns-in_err-txn-clause-sound : goal.returns-in_err-txn-clause-sound
returns-in_err-txn-clause-sound g c told pending is =
    let same = g.met.F.Files.kept_map c.args.files.now c.look.new.files told c.look.ensures.reads.kept in
    let counted = subst (λ (dir : Dir). IsCounter (dir tickets_name) is.low pending.next) (sym same) is.counted in
    let none : OnDamaged c.in_err-txn.field-0.0 (λ _. ⊥) = c.in_err-txn.ensures.sound told is.low pending.next counted in search rules

pub returns-in_err-txn-clause-reads : goal.returns-in_err-txn-clause-reads
returns-in_err-txn-clause-reads g c =
    let first = kept_read g.F.Files c.args.files.now c.look.new.files c.look.result c.look.ensures.reads in
    let both : IsReading g.F.Files c.args.files.now c.take_out.new.files c.take_out.result = reading_then g.F.Files g.met.F.Files.kept_then c.args.files.now c.look.new.files c.take_out.new.files c.take_out.result first c.take_out.ensures.reads in
    search rules

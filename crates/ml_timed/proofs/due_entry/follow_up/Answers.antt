use Rattle.std.proofs.Common.{List, sym, ◌∙◌, subst}
use Rattle.ml_base.specs.Dir.{with_puts}
use Rattle.ml_base.specs.declared.puts.Put.{Put}
use Rattle.ml_bounce.specs.Answers.{action_key}
use Rattle.ml_plain.specs.Directory.{IsList}
use Rattle.ml_plain.specs.Plain.{Plain}
use Rattle.ml_acts.specs.Doing.{is_entry_of}
use Rattle.ml_acts.proofs.Apart.{alike_fewer}
use Rattle.ml_acts.proofs.Damages.{ok_then}
use Rattle.ml_timed.specs.Reads.{is_followed_by}
use Rattle.ml_timed.proofs.Changed.{found_action, lapsed_is}
use Rattle.ml_timed.proofs.Named.{entry_followed}
use Rattle.ml_timed.proofs.due_entry.follow_up.Goals as goal

pub returns-in-Lapse-clause-apart : goal.returns-in-Lapse-clause-apart
returns-in-Lapse-clause-apart g c tells =
    let old = g.F.Files.map c.args.files.now in
    let who = action_key c.args.action.now in
    ok_then c.add_entry_change.result
    (λ txn value dir p e alike is config keys found act.
    subst (λ (q : Plain). IsList (with_puts dir txn) q) (sym (lapsed_is c.args.now.seconds c.args.set p e c.in-Lapse.to (act ∙ c.in-Lapse.is)))
    (value dir p e (alike_fewer (is_entry_of c.args.set who) (is_followed_by c.args.set) old dir (entry_followed c.args.set who) alike) (subst (λ (t : List Put). IsList (with_puts dir t) p) (sym c.new.ensures) is) (found_action dir p c.args.set e c.requires.ledger is found c.args.action.now act)))
    (c.add_entry_change.ensures.apart tells)

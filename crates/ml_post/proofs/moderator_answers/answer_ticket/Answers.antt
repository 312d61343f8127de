use Rattle.std.proofs.Common.{◌≡◌, true, Option, Some, refl, ap, subst, sym, rules, None, inl, inr, ◌∙◌}
use Rattle.ml_base.specs.Dir.{Dir}
use Rattle.ml_hold.specs.Answers.{Breaks, IsPostName, LooksBy, post_name}
use Rattle.ml_hold.specs.declared.posts.Held.{Held}
use Rattle.ml_plain.specs.Answers.{gone}
use Rattle.ml_plain.specs.Managing.{answer, answer_held}
use Rattle.ml_acts.specs.Damaged.{waiting}
use Rattle.ml_acts.specs.Doing.{DoesList}
use Rattle.ml_acts.proofs.Asked.{named_as, other_name}
use Rattle.ml_post.specs.Answering.{IsDamagedOfHeld, IsDamagedOfTicket, accepts, is_answered_by}
use Rattle.ml_acts.proofs.Damages.{ok_then}
use Rattle.ml_acts.proofs.OfActs.{act_after}
use Rattle.ml_post.proofs.Moderated.{own_read}
use Rattle.ml_post.proofs.Outcomes.{does_nothing}
use Rattle.ml_acts.proofs.Found.{found_then}
use Rattle.ml_post.specs.Deciding.{FoundByDecision, FoundOfHeld}
use Rattle.ml_config.specs.KeyFile.{key_name}
use Rattle.ml_post.proofs.Decided.{follow_alike, follow_kept, keys_alike, look_apart, post_alike}
use Rattle.ml_base.specs.PartErrors.{OnDamaged}
use Rattle.ml_base.specs.declared.names.Name.{Name}
use Rattle.ml_base.proofs.DamagedNames.{on_both}
use Rattle.ml_post.proofs.Spared.{breaks_spared}
use Rattle.ml_post.proofs.moderator_answers.answer_ticket.Goals as goal

pub returns-in_err-held-clause-act : goal.returns-in_err-held-clause-act
returns-in_err-held-clause-act g c =
    let dir = g.F.Files.map c.args.files.now in
    let ticket = c.args.ticket in
    let accept = accepts c.args.decision in
    let names = named_as g.F.Files (λ name. is_answered_by ticket accept name ≡ true) _ dir dir (IsPostName ticket) Breaks (IsDamagedOfTicket dir c.args.config.now ticket c.args.letters.now accept) (λ told. refl)
    (own_read ticket accept) (λ name is bad. record { damaged = waiting bad; own = λ of. absurd (other_name name (post_name ticket) refl is.1 of); read = inl is })
    c.in_err-held.ensures.names in
    search rules

pub returns-clause-act : goal.returns-clause-act
returns-clause-act g c =
    let held = c.in-Some.held in
    act_after g.F.Files (λ d. IsDamagedOfHeld d c.args.config.now c.args.ticket held c.args.letters.now (accepts c.args.decision)) g.met.F.Files.kept_then g.met.F.Files.kept_map c.look.ensures.reads c.answer_held.ensures.act (λ name e. e)
    (λ told name e bad.
    let read = subst (λ (o : Option Held). LooksBy (g.F.Files.map c.args.files.now) c.args.ticket o) c.in-Some.is (c.in_ok-held.ensures.read told) in
    record { damaged = bad.damaged; own = λ of. (held, read.1, bad.own of); read = inr (held, read.1, bad.read) })

pub returns-in_default-clause-found : goal.returns-in_default-clause-found
returns-in_default-clause-found g c told = record {
  held = None;
  looked = subst (LooksBy (g.F.Files.map c.args.files.now) c.args.ticket) c.in_default.is (c.in_ok-held.ensures.read told);
  found = record { puts = c.new.ensures; is = c.plain.ensures };
}

pub returns-clause-found : goal.returns-clause-found
returns-clause-found g c told =
    let dir = g.F.Files.map c.args.files.now in
    let config = c.args.config.now in
    let accept = accepts c.args.decision in
    let kept = g.met.F.Files.kept_map c.args.files.now c.look.new.files told c.look.ensures.reads.kept in
    let read = subst (LooksBy dir c.args.ticket) c.in-Some.is (c.in_ok-held.ensures.read told) in
    found_then c.answer_held.result dir (g.F.Files.map c.look.new.files) (λ d. FoundOfHeld d config c.args.ticket accept) (FoundByDecision dir config c.args.ticket accept) kept
    (λ done is. record { held = Some c.in-Some.held; looked = read; found = is }) (c.answer_held.ensures.found told)

pub returns-in_default-clause-apart : goal.returns-in_default-clause-apart
returns-in_default-clause-apart g c told dir p alike is same =
    let old = g.F.Files.map c.args.files.now in
    let accept = accepts c.args.decision in
    let read = subst (LooksBy old c.args.ticket) c.in_default.is (c.in_ok-held.ensures.read told) in
    let found = look_apart old dir c.args.ticket None p.held (post_alike c.args.config.now c.args.ticket accept old dir alike) read is.held in
    does_nothing dir (c.new.result, c.plain.result) p gone (answer c.args.now.seconds c.args.ticket c.args.letters.now accept p)
    (ap (answer_held c.args.now.seconds c.args.ticket c.args.letters.now p accept) (sym found)) c.new.ensures c.plain.ensures is

pub returns-clause-apart : goal.returns-clause-apart
returns-clause-apart g c told =
    let old = g.F.Files.map c.args.files.now in
    let config = c.args.config.now in
    let ticket = c.args.ticket in
    let letters = c.args.letters.now in
    let accept = accepts c.args.decision in
    let held = c.in-Some.held in
    let read = subst (LooksBy old ticket) c.in-Some.is (c.in_ok-held.ensures.read told) in
    let kept = g.met.F.Files.kept_map c.args.files.now c.look.new.files told c.look.ensures.reads.kept in
    ok_then c.answer_held.result (λ done does dir p alike is same.
    let found = look_apart old dir ticket (Some held) p.held (post_alike config ticket accept old dir alike) read is.held in
    subst (λ (o : Option Held). DoesList dir done (answer_held c.args.now.seconds ticket letters p accept o)) found
    (does dir p (keys_alike config ticket accept old dir alike ∙ sym (ap (λ (d : Dir). d key_name) kept))
    (follow_kept config ticket held.message accept old (g.F.Files.map c.look.new.files) dir kept (follow_alike config ticket accept old dir held alike read.1)) is same (sym found))) (c.answer_held.ensures.apart told)

pub returns-in_err-held-clause-spared : goal.returns-in_err-held-clause-spared
returns-in_err-held-clause-spared g c told dir p alike is =
    let e = c.in_err-held.field-0.0 in
    let old = g.F.Files.map c.args.files.now in
    let ticket = c.args.ticket in
    let names = c.in_err-held.ensures.names in
    let none : OnDamaged e (λ _. ⊥) =
    on_both e (IsPostName ticket) (Breaks old) (λ _. ⊥)
    (λ name looked bad. breaks_spared old dir p is name (subst (λ (n : Name). dir n ≡ old n) (sym looked.1) (post_alike c.args.config.now ticket (accepts c.args.decision) old dir alike looked.0)) bad) names.named (names.damaged told) in
    search rules

pub returns-clause-spared : goal.returns-clause-spared
returns-clause-spared g c told dir p alike is =
    let old = g.F.Files.map c.args.files.now in
    let config = c.args.config.now in
    let ticket = c.args.ticket in
    let accept = accepts c.args.decision in
    let held = c.in-Some.held in
    let read = subst (LooksBy old ticket) c.in-Some.is (c.in_ok-held.ensures.read told) in
    let kept = g.met.F.Files.kept_map c.args.files.now c.look.new.files told c.look.ensures.reads.kept in
    c.answer_held.ensures.spared told dir p (keys_alike config ticket accept old dir alike ∙ sym (ap (λ (d : Dir). d key_name) kept))
    (follow_kept config ticket held.message accept old (g.F.Files.map c.look.new.files) dir kept (follow_alike config ticket accept old dir held alike read.1)) is

use Rattle.std.proofs.Common.{◌≡◌, Bool, true, false, refl, sym, ap, ◌∙◌, subst, codes, rules, inl, inr}
use Rattle.std.specs.Fmt.{decimal}
use Rattle.std.proofs.lemmas.Bool.{or_left, or_right}
use Rattle.ml_base.specs.Dir.{same_name}
use Rattle.ml_base.specs.declared.names.Name.{Name}
use Rattle.ml_base.specs.declared.names.Set.TheVariants as sets
use Rattle.ml_config.specs.KeyFile.{key_name}
use Rattle.ml_plain.specs.Answers.{badcookie}
use Rattle.ml_plain.specs.Mailing.{is_cookie}
use Rattle.ml_plain.specs.Managing.{if_signed}
use Rattle.ml_acts.specs.Asked.{IsDamagedOf, Next}
use Rattle.ml_acts.specs.Damaged.{IsNoKeys, keys}
use Rattle.ml_acts.specs.Doing.{DoesList}
use Rattle.ml_acts.proofs.Asked.{named_as, other_name}
use Rattle.ml_acts.proofs.Damages.{ok_then, same_self}
use Rattle.ml_acts.proofs.OfActs.{act_after}
use Rattle.ml_post.specs.Answering.{IsDamagedOfHeld, accepts, is_answered_by, is_followed_by}
use Rattle.ml_post.specs.Publishing.{sent_key}
use Rattle.ml_post.proofs.Outcomes.{does_nothing}
use Rattle.ml_acts.proofs.Found.{found_then}
use Rattle.ml_post.specs.Deciding.{FoundOfHeld, FoundToDecide}
use Rattle.ml_post.proofs.Decided.{follow_kept}
use Rattle.ml_base.specs.PartErrors.{OnDamaged}
use Rattle.ml_base.proofs.DamagedNames.{on_damaged}
use Rattle.ml_post.proofs.Spared.{no_keys_spared}
use Rattle.ml_post.proofs.moderator_answers.answer_held.Goals as goal

pub returns-in_err-keys-clause-act : goal.returns-in_err-keys-clause-act
returns-in_err-keys-clause-act g c =
    let dir = g.F.Files.map c.args.files.now in
    let ticket = c.args.ticket in
    let accept = accepts c.args.decision in
    let bad = IsDamagedOfHeld dir c.args.config.now ticket c.args.held.now c.args.letters.now accept in
    let names = named_as g.F.Files (λ name. is_answered_by ticket accept name ≡ true) _ dir dir (λ name. name ≡ key_name) (λ d _. IsNoKeys d) bad (λ told. refl)
    (λ name e. or_left (same_name name key_name) (is_followed_by ticket accept name) (subst (λ (a : Name). same_name a key_name ≡ true) (sym e) (same_self key_name)))
    (λ name e none. record { damaged = keys e none; own = λ of. absurd (other_name name key_name refl e of); read = inl e }) c.in_err-keys.ensures.names in
    search rules

pub returns-clause-act : goal.returns-clause-act
returns-clause-act g c =
    let ticket = c.args.ticket in
    let accept = accepts c.args.decision in
    let good : c.is_signed.result ≡ true = search rules in
    act_after g.F.Files (λ d. IsDamagedOf d (Next (sent_key c.args.config.now c.args.held.now.message))) g.met.F.Files.kept_then g.met.F.Files.kept_map c.list_keys.ensures.reads c.follow.ensures.act (λ name e. or_right (same_name name key_name) (is_followed_by ticket accept name) e)
    (λ told name e bad. record {
      damaged = bad.damaged;
      own = bad.own;
      read = inr (record { keys = c.in_ok-keys.keys; kept = c.in_ok-keys.ensures.held told; right = sym c.is_signed.ensures.letters ∙ good }, e);
    })

pub returns-then-not-is_signed-clause-found : goal.returns-then-not-is_signed-clause-found
returns-then-not-is_signed-clause-found g c told = record {
  keys = (c.in_ok-keys.keys, c.in_ok-keys.ensures.found told);
  answered = inl (record { puts = c.new.ensures; is = c.plain.ensures });
}

pub returns-clause-found : goal.returns-clause-found
returns-clause-found g c told =
    let dir = g.F.Files.map c.args.files.now in
    let config = c.args.config.now in
    let accept = accepts c.args.decision in
    let kept = g.met.F.Files.kept_map c.args.files.now c.list_keys.new.files told c.list_keys.ensures.reads.kept in
    found_then c.follow.result dir (g.F.Files.map c.list_keys.new.files) (λ d. FoundToDecide d config c.args.ticket accept) (FoundOfHeld dir config c.args.ticket accept) kept
    (λ done is. record { keys = (c.in_ok-keys.keys, c.in_ok-keys.ensures.found told); answered = inr is }) (c.follow.ensures.found told)

pub returns-then-not-is_signed-clause-apart : goal.returns-then-not-is_signed-clause-apart
returns-then-not-is_signed-clause-apart g c told dir p own alike is same found =
    let held = c.args.held.now in
    let keys = c.in_ok-keys.ensures.value told dir p own is in
    let bad : c.is_signed.result ≡ false = search rules in
    let wrong : is_cookie p (codes "hold") sets.Moderators held.moment (decimal c.args.ticket) c.args.letters.now ≡ false = sym (c.is_signed.ensures.value p keys) ∙ bad in
    does_nothing dir (c.new.result, c.plain.result) p badcookie
    (if_signed c.args.now.seconds c.args.ticket held p (accepts c.args.decision) (is_cookie p (codes "hold") sets.Moderators held.moment (decimal c.args.ticket) c.args.letters.now))
    (ap (if_signed c.args.now.seconds c.args.ticket held p (accepts c.args.decision)) wrong) c.new.ensures c.plain.ensures is

pub returns-clause-apart : goal.returns-clause-apart
returns-clause-apart g c told =
    let old = g.F.Files.map c.args.files.now in
    let config = c.args.config.now in
    let held = c.args.held.now in
    let accept = accepts c.args.decision in
    let kept = g.met.F.Files.kept_map c.args.files.now c.list_keys.new.files told c.list_keys.ensures.reads.kept in
    let good : c.is_signed.result ≡ true = search rules in
    ok_then c.follow.result (λ done does dir p own alike is same found.
    let keys = c.in_ok-keys.ensures.value told dir p own is in
    let right : is_cookie p (codes "hold") sets.Moderators held.moment (decimal c.args.ticket) c.args.letters.now ≡ true = sym (c.is_signed.ensures.value p keys) ∙ good in
    subst (λ (b : Bool). DoesList dir done (if_signed c.args.now.seconds c.args.ticket held p accept b)) (sym right)
    (does dir p (follow_kept config c.args.ticket held.message accept old (g.F.Files.map c.list_keys.new.files) dir kept alike) is same found)) (c.follow.ensures.apart told)

pub returns-in_err-keys-clause-spared : goal.returns-in_err-keys-clause-spared
returns-in_err-keys-clause-spared g c told dir p own alike is =
    let e = c.in_err-keys.field-0.0 in
    let old = g.F.Files.map c.args.files.now in
    let none : OnDamaged e (λ _. ⊥) = on_damaged e (λ _. IsNoKeys old) (λ _. ⊥) (λ name bad. no_keys_spared old dir p is own bad) (c.in_err-keys.ensures.names.damaged told) in
    search rules

pub returns-clause-spared : goal.returns-clause-spared
returns-clause-spared g c told dir p own alike is =
    let old = g.F.Files.map c.args.files.now in
    let kept = g.met.F.Files.kept_map c.args.files.now c.list_keys.new.files told c.list_keys.ensures.reads.kept in
    c.follow.ensures.spared told dir p (follow_kept c.args.config.now c.args.ticket c.args.held.now.message (accepts c.args.decision) old (g.F.Files.map c.list_keys.new.files) dir kept alike) is

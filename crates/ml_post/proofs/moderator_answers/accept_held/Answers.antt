use Rattle.std.proofs.Common.{◌≡◌, ℕ, true, inl, inr, IfErr, IfOk, refl, ap, arith, subst, sym, rules}
use Rattle.std.proofs.lemmas.Bool.{or_left}
use Rattle.ml_base.specs.Dir.{Dir}
use Rattle.ml_base.specs.PartErrors.{OnDamaged}
use Rattle.ml_base.proofs.DamagedNames.{on_damaged}
use Rattle.ml_filing.specs.Answers.{IsNoNumber}
use Rattle.ml_filing.specs.Archive.{IsNumberFile, number_name}
use Rattle.ml_acts.specs.Asked.{IsDamagedOf, Next}
use Rattle.ml_acts.specs.Damaged.{number}
use Rattle.ml_acts.proofs.Asked.{count_next, named_as}
use Rattle.ml_acts.proofs.Damages.{ok_then}
use Rattle.ml_acts.proofs.OfActs.{act_after}
use Rattle.ml_plain.specs.Answers as answers
use Rattle.ml_plain.specs.Managing.{accepted}
use Rattle.ml_plain.specs.Plain.{is_archive_full}
use Rattle.ml_post.specs.Alike.{AlikeToFollow}
use Rattle.ml_post.specs.Answering.{is_accepted_by, is_taken_by}
use Rattle.ml_post.specs.Deciding.{FoundToAccept}
use Rattle.ml_post.specs.Publishing.{is_published_by, sent_key}
use Rattle.ml_post.proofs.Judged.{is_full_apart}
use Rattle.ml_post.proofs.Outcomes.{does_nothing}
use Rattle.ml_post.proofs.Posts.{append_read}
use Rattle.ml_post.proofs.Spared.{number_spared}
use Rattle.ml_post.proofs.moderator_answers.accept_held.Goals as goal

pub returns-in_err-count-clause-act : goal.returns-in_err-count-clause-act
returns-in_err-count-clause-act g c =
    let dir = g.F.Files.map c.args.files.now in
    let ticket = c.args.ticket in
    let key = sent_key c.args.config.now c.args.held.now.message in
    let names = named_as g.F.Files (λ name. is_accepted_by ticket name ≡ true) _ dir dir (λ name. name ≡ number_name) (λ d _. IsNoNumber d) (IsDamagedOf dir (Next key)) (λ told. refl)
    (λ name e. or_left (is_published_by name) (is_taken_by ticket name) (append_read name (inl e)))
    (λ name e none. record { damaged = number e none; own = λ of. count_next dir key name (e, none) }) c.in_err-count.ensures.names in
    search rules

pub returns-then-count-eq-LAST_POST_NUMBER-clause-found : goal.returns-then-count-eq-LAST_POST_NUMBER-clause-found
returns-then-count-eq-LAST_POST_NUMBER-clause-found g c told =
    let full = subst (λ (n : ℕ). IsNumberFile (g.F.Files.map c.args.files.now number_name) n) c.if-count-eq-LAST_POST_NUMBER.true (c.in_ok-count.ensures.read told) in
    inr (full, record { puts = c.new.ensures; is = c.plain.ensures })

pub returns-then-count-eq-LAST_POST_NUMBER-clause-apart : goal.returns-then-count-eq-LAST_POST_NUMBER-clause-apart
returns-then-count-eq-LAST_POST_NUMBER-clause-apart g c told dir p alike is same found =
    let old = g.F.Files.map c.args.files.now in
    let file = subst (λ (n : ℕ). IsNumberFile (old number_name) n) c.if-count-eq-LAST_POST_NUMBER.true (c.in_ok-count.ensures.read told) in
    let full = is_full_apart old dir p (alike.1.placed number_name (inl refl)) is file in
    let does = accepted c.args.now.seconds c.args.ticket c.args.held.now p in
    does_nothing dir (c.new.result, c.plain.result) p answers.full (does (is_archive_full p)) (ap does full) c.new.ensures c.plain.ensures is

pub returns-in_err-count-clause-spared : goal.returns-in_err-count-clause-spared
returns-in_err-count-clause-spared g c =
    let so : OnDamaged c.in_err-count.field-0.0 (λ _. ⊥) → IfErr c.from_residual.result (λ e. OnDamaged e (λ _. ⊥)) = λ none. search rules in
    λ told dir p alike is.
    let old = g.F.Files.map c.args.files.now in
    so (on_damaged c.in_err-count.field-0.0 (λ _. IsNoNumber old) (λ _. ⊥) (λ name bad. number_spared old dir p is (alike.1.placed number_name (inl refl)) bad) (c.in_err-count.ensures.names.damaged told))

pub accept_after-requires-clause-below : goal.accept_after-requires-clause-below
accept_after-requires-clause-below g c =
    let few = c.in_ok-count.ensures.few in
    let last = c.if-count-eq-LAST_POST_NUMBER.false in
    omega (arith, few, last)

pub accept_after-requires-clause-count : goal.accept_after-requires-clause-count
accept_after-requires-clause-count g c told =
    let kept = g.met.F.Files.kept_map c.args.files.now c.count.new.files told c.count.ensures.reads.kept in
    subst (λ (d : Dir). IsNumberFile (d number_name) c.in_ok-count.count) (sym kept) (c.in_ok-count.ensures.read told)

pub returns-clause-act : goal.returns-clause-act
returns-clause-act g c =
    let key = sent_key c.args.config.now c.args.held.now.message in
    act_after g.F.Files (λ d. IsDamagedOf d (Next key)) g.met.F.Files.kept_then g.met.F.Files.kept_map c.count.ensures.reads c.accept_after.ensures.act (λ name e. e) (λ told name e bad. bad)

pub returns-clause-found : goal.returns-clause-found
returns-clause-found g c told =
    let kept = g.met.F.Files.kept_map c.args.files.now c.count.new.files told c.count.ensures.reads.kept in
    subst (λ (d : Dir). IfOk c.accept_after.result (FoundToAccept d c.args.config.now c.args.ticket)) kept (c.accept_after.ensures.found told)

pub returns-clause-apart : goal.returns-clause-apart
returns-clause-apart g c told =
    let kept = g.met.F.Files.kept_map c.args.files.now c.count.new.files told c.count.ensures.reads.kept in
    ok_then c.accept_after.result (λ done does dir p alike. does dir p (subst (λ (d : Dir). AlikeToFollow c.args.config.now c.args.ticket c.args.held.now.message true d dir) (sym kept) alike)) (c.accept_after.ensures.apart told)

pub returns-clause-spared : goal.returns-clause-spared
returns-clause-spared g c told dir p alike is =
    let kept = g.met.F.Files.kept_map c.args.files.now c.count.new.files told c.count.ensures.reads.kept in
    c.accept_after.ensures.spared told dir p (subst (λ (d : Dir). AlikeToFollow c.args.config.now c.args.ticket c.args.held.now.message true d dir) (sym kept) alike) is

use Rattle.std.proofs.Common.{◌≡◌, true, refl, ap, rules, subst, sym, ◌∙◌}
use Rattle.ml_base.specs.PartErrors.{OnDamaged}
use Rattle.ml_base.proofs.DamagedNames.{on_both}
use Rattle.ml_acts.specs.Asked.{Count, IsDamagedOf}
use Rattle.ml_acts.specs.Configured.{with_config}
use Rattle.ml_acts.proofs.UnderConfig.{config_of}
use Rattle.ml_post.specs.Found.{FoundOfPost}
use Rattle.ml_post.specs.Judging.{is_judged_by, row_of}
use Rattle.ml_post.proofs.Apart.{judged_under}
use Rattle.ml_post.proofs.Spared.{judged_spared}
use Rattle.ml_post.proofs.verdict_table.verdict.Goals as goal

pub returns-clause-value : goal.returns-clause-value
returns-clause-value g c told allowed p is =
    let config = c.args.config.now in
    let there = with_config config (g.F.Files.map c.args.files.now) in
    ap row_of c.verdict.ensures ∙ c.in_ok-found.ensures.apart told there p (λ name e. refl) is (config_of config (g.F.Files.map c.args.files.now) p allowed is)

pub returns-clause-apart : goal.returns-clause-apart
returns-clause-apart g c told dir p alike is same =
    let config = c.args.config.now in
    ap row_of c.verdict.ensures ∙ c.in_ok-found.ensures.apart told dir p (judged_under config config c.args.sender.now (g.F.Files.map c.args.files.now) dir alike) is same

pub returns-clause-found : goal.returns-clause-found
returns-clause-found g c told =
    subst (FoundOfPost (with_config c.args.config.now (g.F.Files.map c.args.files.now)) c.args.config.now c.args.sender.now c.args.message.now) (sym c.verdict.ensures) (c.in_ok-found.ensures.found told)

pub returns-in_err-found-clause-sound : goal.returns-in_err-found-clause-sound
returns-in_err-found-clause-sound g c told p is =
    let config = c.args.config.now in
    let sender = c.args.sender.now in
    let e = c.in_err-found.field-0.0 in
    let there = with_config config (g.F.Files.map c.args.files.now) in
    let names = c.in_err-found.ensures.names in
    let none : OnDamaged e (λ _. ⊥) =
    on_both e (λ name. is_judged_by config sender name ≡ true) (IsDamagedOf there Count) (λ _. ⊥)
    (λ name looked bad. judged_spared there there p is config sender (λ other e. refl) name looked bad) names.named (names.damaged told) in
    search rules

pub returns-in_err-found-clause-spared : goal.returns-in_err-found-clause-spared
returns-in_err-found-clause-spared g c told dir p alike is =
    let config = c.args.config.now in
    let sender = c.args.sender.now in
    let e = c.in_err-found.field-0.0 in
    let old = g.F.Files.map c.args.files.now in
    let there = with_config config old in
    let names = c.in_err-found.ensures.names in
    let none : OnDamaged e (λ _. ⊥) =
    on_both e (λ name. is_judged_by config sender name ≡ true) (IsDamagedOf there Count) (λ _. ⊥)
    (λ name looked bad. judged_spared there dir p is config sender (judged_under config config sender old dir alike) name looked bad) names.named (names.damaged told) in
    search rules

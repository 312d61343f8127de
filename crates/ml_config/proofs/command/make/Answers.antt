use Rattle.std.proofs.Common.{◌≡◌, ◌∙◌, true, false, ap, ap₂, codes, map}
use Rattle.std.specs.List.{fold}
use Rattle.std.proofs.lemmas.Result.{IfOk-weaker}
use Rattle.clap.specs.Words.{App, Rule, app_of, rule_of, with_rule}
use Rattle.clap.specs.declared.builder.arg.Arg.{Arg}
use Rattle.ml_config.specs.Make.{bare_make, letter_rule, letters, required_option}
use Rattle.ml_config.proofs.command.make.Goals as goal

pub returns : goal.returns
returns c =
    let flags : app_of c.in_ok-with_letters.field-0 ≡ fold with_rule bare_make (map letter_rule letters) =
    c.in_ok-with_letters.ensures ∙ ap (λ (a : App). fold with_rule a (map letter_rule letters)) c.bare.ensures in
    let prefix = c.in_ok-arg.ensures.shape c.option.ensures.global ∙ ap₂ with_rule flags c.option.ensures.rule in
    let max = c.in_ok-arg-2.ensures.shape c.option-2.ensures.global ∙ ap₂ with_rule prefix c.option-2.ensures.rule in
    let is_key : rule_of c.required.result ≡ required_option (codes "key") =
    ap rule_of c.required.ensures ∙ ap (λ (r : Rule). record r { required = true }) c.option-3.ensures.rule in
    let local_key : c.required.result.global ≡ false = ap (λ (a : Arg). a.global) c.required.ensures ∙ c.option-3.ensures.global in
    let key = c.in_ok-arg-3.ensures.shape local_key ∙ ap₂ with_rule max is_key in
    let local = c.in_ok-arg-4.ensures.shape c.word.ensures.global ∙ ap₂ with_rule key c.word.ensures.rule in
    let host = c.in_ok-arg-5.ensures.shape c.word-2.ensures.global ∙ ap₂ with_rule local c.word-2.ensures.rule in
    IfOk-weaker c.arg-6.result _ _ (λ m h. h.shape c.word-3.ensures.global ∙ ap₂ with_rule host c.word-3.ensures.rule) c.arg-6.ensures

use Rattle.std.proofs.Common.{◌≡◌, true, sym, ap, ◌∙◌, rules, Option, subst}
use Rattle.ml_base.specs.Bytes.{Text}
use Rattle.ml_base.specs.Dir.{same_name}
use Rattle.ml_config.specs.KeyFile.{key_name, IsKeyFile}
use Rattle.ml_plain.specs.Mailing.{is_good}
use Rattle.ml_acts.proofs.Damages.{keys_named, same_self}
use Rattle.ml_manage.proofs.bounces.is_cookie.Goals as goal

pub returns-in_err-keys-clause-names : goal.returns-in_err-keys-clause-names
returns-in_err-keys-clause-names g c =
    let dir = g.F.Files.map c.args.files.now in
    let names = keys_named g.F.Files (λ name. same_name name key_name ≡ true) _ dir (same_self key_name) c.in_err-keys.ensures.names in
    search rules

pub returns-clause-found : goal.returns-clause-found
returns-clause-found g c told = (c.in_ok-keys.keys, c.in_ok-keys.ensures.value told)

pub returns-clause-apart : goal.returns-clause-apart
returns-clause-apart g c told dir p same is =
    let who = c.as_slice.ensures ∙ c.in_ok-who.ensures.key in
    let own = subst (λ (f : Option Text). IsKeyFile f p.keys) same is.keys in
    c.is_good.ensures p (sym (c.in_ok-keys.ensures.read told p.keys own)) ∙ ap (λ (k : Text). is_good p c.args.kind.now c.args.set c.args.time k c.args.letters.now c.args.now) who

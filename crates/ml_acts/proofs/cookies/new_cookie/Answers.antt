use Rattle.std.proofs.Common.{◌∙◌, ap, length, ◌≡◌, rules}
use Rattle.ml_base.specs.Bytes.{Text}
use Rattle.ml_base.specs.Name.{set_word}
use Rattle.ml_address.specs.Cookies.{cookie}
use Rattle.ml_acts.proofs.Letters.{cookie_is}
use Rattle.ml_acts.proofs.cookies.new_cookie.Goals as goal

pub returns-clause-letters : goal.returns-clause-letters
returns-clause-letters c =
    let keys = c.args.keys.now in
    let size : length c.cookie.result ≡ 20 = search rules in
    cookie_is c.cookie.result keys.key c.args.kind.now (set_word c.args.set) c.args.moment c.args.what.now size
    (c.cookie.ensures ∙ ap (λ (w : Text). cookie keys.key c.args.kind.now w c.args.moment c.args.what.now) c.word.ensures.text)

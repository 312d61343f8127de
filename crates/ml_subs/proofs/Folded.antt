-- A text without a capital letter is the same in lower case, so such an address is its own key.
use Rattle.std.proofs.Common.{◌≡◌, Bool, true, false, not, refl, sym, ◌∙◌}
use Rattle.std.specs.List.{list_any}
use Rattle.std.specs.Char.{is_ascii_uppercase}
use Rattle.ml_base.specs.Bytes.{Text}
use Rattle.ml_base.specs.Address.{key}
use Rattle.ml_keyed.proofs.Keys.{own_key}

-- an address without a capital letter is its own key
pub own_by : (who : Text) (capital is : Bool) → capital ≡ list_any is_ascii_uppercase who → is ≡ not capital → is ≡ true → who ≡ key who
own_by who capital is found e own = sym (own_key who (sym found ∙ not_capital capital (sym e ∙ own)))
  where
    not_capital : (b : Bool) → not b ≡ true → b ≡ false
    not_capital true bad = absurd (cc)
    not_capital false bad = refl

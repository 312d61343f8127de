-- The order of addresses by their keys.
use Rattle.std.specs.Prelude.{Bool}
use Rattle.std.specs.Ordering.{is_lt}
use Rattle.ml_base.specs.Bytes.{Text}
use Rattle.ml_base.specs.Address.{key}
use Rattle.ml_base.specs.Sorted.{byte_cmp}

-- whether the key of one address is below that of another
abbrev pub is_below : Text → Text → Bool
is_below a b = is_lt (byte_cmp (key a) (key b))

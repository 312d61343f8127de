-- What words say of the stream that moves a part.
use Rattle.std.specs.Prelude.{ℕ, Bool}
use Rattle.ml_base.specs.Bytes.{Text}
use Rattle.ml_base.specs.declared.names.Set.{Set}

-- into a set or out of it, from which number on, the set, and the name of the part
pub record PlainMove : Type 0 where
  pub into : Bool
  pub first : ℕ
  pub set : Set
  pub name : Text

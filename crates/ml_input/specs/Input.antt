-- The whole input, and why there is none.
use Rattle.std.specs.Prelude.{◌≡◌, ◌≤◌, ◌+◌, ℕ, IfSome, [], ◌++◌, length, Option, Some}
use Rattle.ml_base.specs.Bytes.{Text}
use Rattle.ml_base.specs.Faults.{Rose}
use Rattle.ml_site.specs.declared.source.Source.{Ghosts as SourceGhosts}
use Rattle.ml_ending.specs.declared.lines.Why.{Why}
use Rattle.ml_ending.specs.declared.lines.Why.TheVariants as whys

-- bytes were taken from the front of what was left of an input, and this holds of their number
pub record TakesFront (left : Text) (after : Option Text) (P : ℕ → Type 0) : Type 0 where
  pub front : Text
  pub rest : Text
  pub split : left ≡ front ++ rest
  pub after_is : after ≡ Some rest
  pub count : P (length front)

-- as far as it is told, at most one byte more than this limit was read of the input
abbrev pub ReadsAtMost : {I : Type 0} → SourceGhosts I → ℕ → I → I → Type 0
ReadsAtMost source limit input next = IfSome (source.left input) (λ left. TakesFront left (source.left next) (λ n. n ≤ limit + 1))

-- as far as it is told, one byte more than this limit was read of the input, so it is too long
abbrev pub IsTooLong : {I : Type 0} → SourceGhosts I → ℕ → I → I → Type 0
IsTooLong source limit input next = IfSome (source.left input) (λ left. TakesFront left (source.left next) (λ n. n ≡ limit + 1))

-- bytes within the limit are, as far as it is told, the whole input
pub record IsInput {I : Type 0} (source : SourceGhosts I) (limit : ℕ) (input next : I) (bytes : Text) : Type 0 where
  pub fits : length bytes ≤ limit
  pub whole : IfSome (source.left input) (λ left. (left ≡ bytes) × (source.left next ≡ Some []))

-- why there is no whole input
abbrev pub HasNoInput : {I : Type 0} → SourceGhosts I → ℕ → I → I → Why → Type 0
HasNoInput source limit input next whys.Input = Rose (source.faults input) (source.faults next) × ReadsAtMost source limit input next
HasNoInput source limit input next whys.Long = IsTooLong source limit input next
HasNoInput source limit input next whys.Memory = ReadsAtMost source limit input next
HasNoInput source limit input next _ = ⊥

-- why no piece of an input is read
abbrev pub IsPieceFault : {I : Type 0} → SourceGhosts I → I → I → Why → Type 0
IsPieceFault source input next whys.Input = Rose (source.faults input) (source.faults next)
IsPieceFault source input next whys.Memory = Unit {0}
IsPieceFault source input next _ = ⊥

-- this number of the bytes that an input had left were added to others, and it is 0 only at the input's end
pub record Continues (left : Text) (after : Option Text) (old new : Text) (count : ℕ) : Type 0 where
  pub piece : Text
  pub rest : Text
  pub split : left ≡ piece ++ rest
  pub after_is : after ≡ Some rest
  pub added : new ≡ old ++ piece
  pub count_is : count ≡ length piece
  pub end : count ≡ 0 → rest ≡ []

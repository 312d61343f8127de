-- The reply to a number that came before, by the floor's file and the number's own slot.
use Rattle.std.specs.Prelude.{◌≡◌, ◌≢◌, ◌⊎◌, ◌<◌, ◌≤◌, ◌/◌, ◌%◌, ℕ, List, [], length, Option, Some, None}
use Rattle.ml_base.specs.Bytes.{Text}
use Rattle.ml_base.specs.Dir.{Dir}
use Rattle.ml_base.specs.declared.puts.Put.{Put}
use Rattle.ml_plain.specs.declared.Reply.{Reply}
use Rattle.ml_plain.specs.Answers.{stale}
use Rattle.ml_plain.specs.KeptFiles.{IsFloorFile, IsSlot, floor_name, replies_name, slot_at, slot_text}

-- a slot of a file of kept replies spells this reply, or that none is kept; in an absent file none is
abbrev pub HoldsReply : Option Text → ℕ → Option Reply → Type 0
HoldsReply None slot reply = reply ≡ None
HoldsReply (Some text) slot reply = (length text ≡ 4608) × (slot_at slot text ≡ slot_text reply)

-- a number below the floor is answered `stale`
pub record IsBelowFloor (floor number : ℕ) (again : Option Reply) : Type 0 where
  pub below : number < floor
  pub reply : again ≡ Some stale

-- a number from the floor on is answered with what its slot spells
pub record IsInSlot (dir : Dir) (floor number : ℕ) (again : Option Reply) : Type 0 where
  pub from : floor ≤ number
  pub fits : IsSlot number again
  pub spelled : HoldsReply (dir (replies_name (number / 512))) (number % 512) again

-- The reply to a number that came before, or None if its item counts. The floor's file is in its grammar, and so is the number's slot,
-- unless the number is below the floor. The other slots of its file aren't looked at.
pub record IsAgain (dir : Dir) (number : ℕ) (again : Option Reply) : Type 0 where
  pub floor : ℕ
  pub floor_is : IsFloorFile (dir floor_name) floor
  pub found : IsBelowFloor floor number again ⊎ IsInSlot dir floor number again

-- An item with a number was answered: the floor and the number's slot were in their grammar, and if they give the number a reply, the item
-- puts nothing and is answered with that.
pub record CountsOnce (dir : Dir) (number : ℕ) (done : List Put × Reply) : Type 0 where
  pub looked : number ≢ 0 → (again : Option Reply) × IsAgain dir number again
  pub once : (reply : Reply) → number ≢ 0 → IsAgain dir number (Some reply) → (done.0 ≡ []) × (done.1 ≡ reply)

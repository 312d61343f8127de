-- Fronts of a row that are as long as two bounds allow: one on their number, one on their size.
use Rattle.std.specs.Prelude.{◌≡◌, ◌<◌, ◌≤◌, ◌⊎◌, ℕ, List, length, take}
use Rattle.std.specs.List.{sum_by}

-- The front of a row is the longest that has at most `count` things, together of at most `room`, except that it may have the first one
-- however large it is: every longer front of the row has too many, or is too large.
pub record IsLongest {E : Type 0} (size : E → ℕ) (count room : ℕ) (row front : List E) : Type 0 where
  pub is_front : front ≡ take (length front) row
  pub few : length front ≤ count
  pub fits : (length front ≤ 1) ⊎ (sum_by size front ≤ room)
  pub longest : (k : ℕ) → length front < k → k ≤ length row → (count < k) ⊎ (room < sum_by size (take k row))

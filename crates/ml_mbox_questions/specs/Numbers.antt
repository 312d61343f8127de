-- The number of the first item of an import.
use Rattle.std.specs.Prelude.{◌≤◌, ℕ}

-- a number that leaves room after it for the mails of any mailbox that is imported
pub record IsFirst (first : ℕ) : Type 0 where
  pub low : 1 ≤ first
  pub high : first ≤ 999_900_000_000

-- The course of an address whose mail bounces: what can happen to a ledger, and what must have happened before a
-- bounced probe takes an entry out.
use Rattle.std.specs.Prelude.{◌≡◌, ◌≢◌, ◌⊎◌, ℕ, true, List, [], ◌∷◌, ◌++◌, unwrap_or, if◌then◌else◌}
use Rattle.std.specs.List.{AllByRecursion}
use Rattle.ml_base.specs.Bytes.{Text}
use Rattle.ml_bounce.specs.Ledger.{Ledger, entry_under, forget}
use Rattle.ml_bounce.specs.Changes.{note, warn_failed, probe_failed, is_old, is_due, act}

-- what can happen to a ledger: mail of a number to a key bounces now; the warning that a key got at t bounces now; the
-- probe that it got at t bounces; what is due for a key is done now; a key is forgotten
pub data Change : Type 0 where
  Bounced : (k : Text) (number now : ℕ) → Change
  WarningBounced : (k : Text) (t now : ℕ) → Change
  ProbeBounced : (k : Text) (t : ℕ) → Change
  Served : (k : Text) (now : ℕ) → Change
  Forgotten : (k : Text) → Change

-- the ledger after a change
abbrev pub after : Change → Ledger → Ledger
after (Bounced k number now) ledger = unwrap_or (note k number now ledger) ledger
after (WarningBounced k t now) ledger = unwrap_or (warn_failed k t now ledger) ledger
after (ProbeBounced k t) ledger = unwrap_or (probe_failed k t ledger) ledger
after (Served k now) ledger = if is_due now (entry_under k ledger) then act now (entry_under k ledger) ledger else ledger
after (Forgotten k) ledger = forget k ledger

-- the ledger after a row of changes, in their order
abbrev pub after_all : List Change → Ledger → Ledger
after_all [] ledger = ledger
after_all (c ∷ cs) ledger = after_all cs (after c ledger)

-- these changes come in this order in a row, with others before, between and after them
abbrev pub StandInOrder : List Change → List Change → Type 0
StandInOrder [] changes = Unit {0}
StandInOrder (w ∷ ws) [] = ⊥
StandInOrder (w ∷ ws) (c ∷ cs) = ((w ≡ c) × StandInOrder ws cs) ⊎ StandInOrder (w ∷ ws) cs

-- In a row of changes mail to the key bounced, at `first`. At least 1,000,000 seconds later it was warned; that very
-- warning bounced, at `failed`; and at least 1,000,000 seconds after that it was probed. Since `first` it wasn't
-- forgotten.
pub record IsCourse (k : Text) (probed : ℕ) (changes : List Change) : Type 0 where
  pub before : List Change
  pub number : ℕ
  pub first : ℕ
  pub since : List Change
  pub warned : ℕ
  pub failed : ℕ
  pub whole : changes ≡ before ++ Bounced k number first ∷ since
  pub order : StandInOrder (Served k warned ∷ WarningBounced k warned failed ∷ Served k probed ∷ []) since
  pub warned_late : is_old warned first ≡ true
  pub probed_late : is_old probed failed ≡ true
  pub kept : AllByRecursion (λ c. c ≢ Forgotten k) since

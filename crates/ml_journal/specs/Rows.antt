-- A log as the journal keeps it: open records, followed by a closed gate.
use Rattle.std.specs.Prelude.{◌≡◌, ◌≢◌, ◌⊎◌, ◌<◌, ◌≤◌, ℕ, List, [], ◌∷◌, ◌++◌, length, Some}
use Rattle.ml_base.specs.Bytes.{Text, nul}
use Rattle.ml_base.specs.Dir.{Dir}
use Rattle.ml_base.specs.declared.puts.Put.{Put}
use Rattle.ml_journal.specs.Records.{record_at}
use Rattle.ml_journal.specs.Log.{log_puts, laid_over}

-- open records that make this change of a directory, whatever follows them
abbrev pub IsRow : Text → (Dir → Dir) → Type 0
IsRow front change = (rest : Text) (files : Dir) → 0 < length rest → laid_over files (log_puts (front ++ rest)) ≡ laid_over (change files) (log_puts rest)

-- a record that is read as these puts, whatever follows it
abbrev pub IsRecord : Text → List Put → Type 0
IsRecord text puts = (rest : Text) → record_at (text ++ rest) ≡ Some (puts, rest)

-- open records that make this change, up to this place, followed by a closed gate
pub record Rests (log : Text) (end : ℕ) (change : Dir → Dir) : Type 0 where
  pub row : Text
  pub split : log ≡ row ++ nul ∷ []
  pub size : length row ≡ end
  pub is_row : IsRow row change
  pub first : (row ≡ []) ⊎ ((after : Text) × (row ≡ 1 ∷ after))

-- the same with a whole record after the closed gate
pub record Staged (log : Text) (end : ℕ) (body : Text) (change : Dir → Dir) : Type 0 where
  pub row : Text
  pub split : log ≡ row ++ nul ∷ (body ++ nul ∷ [])
  pub size : length row ≡ end
  pub is_row : IsRow row change
  pub first : (row ≡ []) ⊎ ((after : Text) × (row ≡ 1 ∷ after))

-- a log whose first gate is open or last, and whose records that count make this change
pub record Lays (log : Text) (change : Dir → Dir) : Type 0 where
  pub counts : (files : Dir) → laid_over files (log_puts log) ≡ Some (change files)
  pub gate : ℕ
  pub after : Text
  pub split : log ≡ gate ∷ after
  pub is_open : (after ≡ []) ⊎ (gate ≡ 1)

-- the first gate is closed, or last, or there is none
abbrev pub IsShut : Text → Type 0
IsShut log = (length log ≤ 1) ⊎ ((gate : ℕ) × (after : Text) × (log ≡ gate ∷ after) × (gate ≢ 1))

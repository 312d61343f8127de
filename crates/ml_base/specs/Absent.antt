-- Ranges of places of a kind at which no file is.
use Rattle.std.specs.Prelude.{◌≡◌, ◌<◌, ◌≤◌, ℕ, false, List, None}
use Rattle.std.specs.BTreeMap.{BTreeMap, get}
use Rattle.ml_base.specs.Dir.{Dir, touches}
use Rattle.ml_base.specs.Name.{name_cmp}
use Rattle.ml_base.specs.declared.names.Name.{Name}
use Rattle.ml_base.specs.declared.puts.Put.{Put}

-- no file of a kind is at a place from one on and before another
abbrev pub NoneOf : Dir → ℕ → ℕ → ℕ → Type 0
NoneOf dir kind from end = (at : ℕ) → from ≤ at → at < end → dir (record { kind = kind; at = at }) ≡ None

-- no put of the row is of a file of a kind at a place from one on and before another
abbrev pub NoPutOf : List Put → ℕ → ℕ → ℕ → Type 0
NoPutOf puts kind from end = (at : ℕ) → from ≤ at → at < end → touches puts (record { kind = kind; at = at }) ≡ false

-- no entry of a map is under a name of a kind at a place from one on and before another
abbrev pub NoEntryOf : {X : Type 0} → BTreeMap Name X → ℕ → ℕ → ℕ → Type 0
NoEntryOf map kind from end = (at : ℕ) → from ≤ at → at < end → get name_cmp map (record { kind = kind; at = at }) ≡ None

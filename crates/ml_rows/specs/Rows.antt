-- Texts in which records stand in a row, each read from the beginning of what is left.
use Rattle.std.specs.Prelude.{ℕ, zero, suc, ◌+◌, Bool, if◌then◌else◌, List, [], ◌∷◌, length, Option, Some, None, option_map}
use Rattle.std.specs.Option.{option_and_then}
use Rattle.ml_base.specs.Bytes.{Text}
use Rattle.ml_base.specs.Netstrings.{netstring_at}

-- one more before those that follow, if they are there
abbrev pub onto : {A : Type 0} → A → Option (List A) → Option (List A)
onto a more = option_map (λ xs. a ∷ xs) more

-- a thing that is there, if it passes a test
abbrev pub only_if : {A : Type 0} → (A → Bool) → Option A → Option A
only_if test None = None
only_if test (Some a) = if test a then Some a else None

-- both of two things, if both are there
abbrev pub both_of : {A B : Type 0} → Option A → Option B → Option (A × B)
both_of (Some a) (Some b) = Some (a, b)
both_of (Some a) None = None
both_of None b = None

module _ {A : Type 0} (record_at : ℕ → Text → Option (A × Text)) where
  -- the record that a text begins with, and those that are read after it
  abbrev pub first_and_more : (Text → Option (List A)) → Option (A × Text) → Option (List A)
  first_and_more more None = None
  first_and_more more (Some found) = onto found.0 (more found.1)

  -- the records of a text that is a row of at most so many, the first of them in place k. Which record a text begins with may
  -- depend on its place
  abbrev pub row_within : ℕ → ℕ → Text → Option (List A)
  row_within most k [] = Some []
  row_within zero k (b ∷ bs) = None
  row_within (suc most) k (b ∷ bs) = first_and_more (row_within most (k + 1)) (record_at k (b ∷ bs))

  -- the records whose row a text is, the first of them in place k. Each has at least one byte, so there are at most as many
  -- as bytes
  abbrev pub row_of : ℕ → Text → Option (List A)
  row_of k text = row_within (length text) k text

-- every thing of a row has what it should have in its place, the first of them in place k
abbrev pub EachFrom : {A : Type 0} → (ℕ → A → Type 0) → ℕ → List A → Type 0
EachFrom Is k [] = Unit {0}
EachFrom Is k (a ∷ xs) = Is k a × EachFrom Is (k + 1) xs

-- this many netstrings at the beginning of a text, and what follows them
abbrev pub netstrings_at : ℕ → Text → Option (List Text × Text)
netstrings_at zero text = Some ([], text)
netstrings_at (suc n) text =
    option_and_then (λ first. option_map (λ more. (first.0 ∷ more.0, more.1)) (netstrings_at n first.1)) (netstring_at text)

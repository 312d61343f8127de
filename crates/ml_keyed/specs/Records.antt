-- Files that are rows of records in ascending order of key.
use Rattle.std.specs.Prelude.{◌≡◌, ℕ, Bool, true, not, List, [], ◌∷◌, Option, Some, None, unwrap_or, if◌then◌else◌}
use Rattle.std.specs.List.{flat_map, AllByRecursion}
use Rattle.std.specs.Ordering.{is_lt}
use Rattle.std.specs.Str.{bytes_eq}
use Rattle.std.specs.declared.cmp.Ordering.{Ordering}
use Rattle.ml_base.specs.Bytes.{Text}
use Rattle.ml_base.specs.Sorted.{byte_cmp, is_sorted}
use Rattle.ml_rows.specs.Rows.{only_if, row_of}
use Rattle.ml_keyed.specs.Buckets.{IsOrdered}

-- the file with this number has these records, in ascending order of key; an absent one has no records
pub record IsRecordFile {R : Type 0} (IsRecord : ℕ → R → Type 0) (key_of spelling : R → Text) (n : ℕ) (file : Option Text) (records : List R) : Type 0 where
  pub each : AllByRecursion (IsRecord n) records
  pub sorted : IsOrdered key_of records
  pub spelled : unwrap_or file [] ≡ flat_map spelling records

-- the records of a file, in a row in ascending order of key, if a text is such a file
abbrev pub records_in : {F R : Type 0} → (F → ℕ → Text → Option (R × Text)) → (R → Text) → F → Text → Option (List R)
records_in record_at key_of file text = only_if (is_sorted byte_cmp key_of) (row_of (record_at file) 0 text)

-- the file that a change leaves for a row of records: no file if there are no records
abbrev pub file_of : {R : Type 0} → (R → Text) → List R → Option Text
file_of spelling [] = None
file_of spelling (r ∷ rs) = Some (flat_map spelling (r ∷ rs))

module _ {K R : Type 0} (order : K → K → Ordering) (key_of : R → K) where
  -- whether a key is below that of the first of a row of records, if there is one
  abbrev pub is_below_first : K → List R → Bool
  is_below_first k [] = true
  is_below_first k (r ∷ rs) = is_lt (order k (key_of r))

module _ {R : Type 0} (key_of : R → Text) where
  -- whether the first of a row of records, if there is one, isn't below a key
  abbrev pub is_from : Text → List R → Bool
  is_from k [] = true
  is_from k (r ∷ rs) = not (is_lt (byte_cmp (key_of r) k))

  -- the records without the first, if that has this key
  abbrev pub past_key : Text → List R → List R
  past_key k [] = []
  past_key k (r ∷ rs) = if bytes_eq (key_of r) k then rs else r ∷ rs

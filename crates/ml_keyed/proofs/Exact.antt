-- A file of records is read as exactly the records that it spells, if this holds for every single record.
use Rattle.std.proofs.Common.{◌≡◌, ◌↔◌, ◌<◌, ◌+◌, ℕ, Bool, List, [], ◌∷◌, ◌++◌, length, Option, Some, None, refl, sym, ap, ◌∙◌, subst}
use Rattle.std.specs.Prelude.{unwrap_or}
use Rattle.std.specs.List.{AllByRecursion, flat_map}
use Rattle.ml_base.specs.Bytes.{Text}
use Rattle.ml_base.specs.Sorted.{byte_cmp, is_sorted, with_entry, without_key}
use Rattle.ml_base.proofs.SortedLaws.{bytes_total, same_bytes, each_with, each_without, sorted_with, sorted_without}
use Rattle.ml_rows.specs.Rows.{row_of, EachFrom}
use Rattle.ml_rows.proofs.RowLaws.{one_some, none_some, only_read, only_there, row_read, row_written}
use Rattle.ml_keyed.specs.Records.{IsRecordFile, records_in, file_of}
use Rattle.ml_keyed.proofs.Rewritten.{file_spelled}

-- the records of a row, each at whatever place
module _ {R : Type 0} (Is : R → Type 0) where
  each_placed : (k : ℕ) (rs : List R) → AllByRecursion Is rs → EachFrom (λ place. Is) k rs
  each_placed k [] all = tt
  each_placed k (r ∷ rs) all = (all.0, each_placed (k + 1) rs all.1)

  placed_each : (k : ℕ) (rs : List R) → EachFrom (λ place. Is) k rs → AllByRecursion Is rs
  placed_each k [] all = tt
  placed_each k (r ∷ rs) all = (all.0, placed_each (k + 1) rs all.1)

module _ {R : Type 0} (IsRecord : ℕ → R → Type 0) (key_of spelling : R → Text) where
  abbrev IsFile : ℕ → Option Text → List R → Type 0
  IsFile n file rs = IsRecordFile IsRecord key_of spelling n file rs

  -- an absent file has no records
  pub file_absent : (n : ℕ) (file : Option Text) → file ≡ None → IsFile n file []
  file_absent n file none = record { each = tt; sorted = refl; spelled = ap (λ (f : Option Text). unwrap_or f []) none }

  -- the file of a row with a record added, in place of the one with its key
  pub file_added : (n : ℕ) (file : Option Text) (r : R) (rs : List R) → IsRecord n r → IsFile n file rs → IsFile n (file_of spelling (with_entry byte_cmp key_of r rs)) (with_entry byte_cmp key_of r rs)
  file_added n file r rs is there = record {
    each = each_with byte_cmp key_of (IsRecord n) r rs is there.each;
    sorted = sorted_with byte_cmp key_of same_bytes bytes_total r rs there.sorted;
    spelled = file_spelled spelling (with_entry byte_cmp key_of r rs);
  }

  -- the text of such a row
  pub text_added : (n : ℕ) (file : Option Text) (r : R) (rs : List R) → IsRecord n r → IsFile n file rs → IsFile n (Some (flat_map spelling (with_entry byte_cmp key_of r rs))) (with_entry byte_cmp key_of r rs)
  text_added n file r rs is there = let new = file_added n file r rs is there in record { each = new.each; sorted = new.sorted; spelled = refl }

  -- the file of a row without a key
  pub file_left : (n : ℕ) (file : Option Text) (k : Text) (rs : List R) → IsFile n file rs → IsFile n (file_of spelling (without_key byte_cmp key_of k rs)) (without_key byte_cmp key_of k rs)
  file_left n file k rs there = record {
    each = each_without byte_cmp key_of (IsRecord n) k rs there.each;
    sorted = sorted_without byte_cmp key_of same_bytes bytes_total k rs there.sorted;
    spelled = file_spelled spelling (without_key byte_cmp key_of k rs);
  }

  module _
      (record_at : ℕ → ℕ → Text → Option (R × Text))
      (written : (n place : ℕ) (r : R) (rest : Text) → IsRecord n r → record_at n place (spelling r ++ rest) ≡ Some (r, rest))
      (read : (n place : ℕ) (text : Text) (r : R) (rest : Text) → record_at n place text ≡ Some (r, rest) → IsRecord n r × (text ≡ spelling r ++ rest))
      (some : (r : R) → 0 < length (spelling r)) where
    abbrev in_file : ℕ → Text → Option (List R)
    in_file n text = records_in record_at key_of n text

    abbrev in_order : List R → Bool
    in_order rs = is_sorted byte_cmp key_of rs

    pub file_read : (n : ℕ) (file : Option Text) (rs : List R) → in_file n (unwrap_or file []) ≡ Some rs → IsFile n file rs
    file_read n file rs h =
        let o = only_read in_order (row_of (record_at n) 0 (unwrap_or file [])) rs h in
        let is = row_read (record_at n) spelling (λ place. IsRecord n) (written n) (read n) (λ place r is. some r) 0 (unwrap_or file []) rs o.0 in
        record { each = placed_each (IsRecord n) 0 rs is.0; sorted = o.1; spelled = is.1 }

    pub file_written : (n : ℕ) (file : Option Text) (rs : List R) → IsFile n file rs → in_file n (unwrap_or file []) ≡ Some rs
    file_written n file rs is =
        ap (in_file n) is.spelled
        ∙ only_there in_order (row_of (record_at n) 0 (flat_map spelling rs)) rs
        (row_written (record_at n) spelling (λ place. IsRecord n) (written n) (read n) (λ place r is. some r) 0 rs (each_placed (IsRecord n) 0 rs is.each)) is.sorted

    pub file_exact : (n : ℕ) (file : Option Text) (rs : List R) → (in_file n (unwrap_or file []) ≡ Some rs) ↔ IsFile n file rs
    file_exact n file rs = (file_read n file rs, file_written n file rs)

    -- a file has at most one row of records
    pub file_one : (n : ℕ) (file : Option Text) (rs ss : List R) → IsFile n file rs → IsFile n file ss → rs ≡ ss
    file_one n file rs ss is other = one_some rs ss (sym (file_written n file rs is) ∙ file_written n file ss other)

    -- a file that isn't read has no row of records
    pub file_unread : (n : ℕ) (file : Option Text) (rs : List R) → in_file n (unwrap_or file []) ≡ None → ¬ IsFile n file rs
    file_unread n file rs none is = none_some rs (sym none ∙ file_written n file rs is)

    -- a file of a directory that was read has these records, and one that wasn't read has no row of records
    pub there_read : {X : Type 0} (dir : X → Option Text) (name own : X) (n : ℕ) (file : Option Text) (text : Text) (o : Option (List R)) (rs : List R)
        → name ≡ own → file ≡ dir name → text ≡ unwrap_or file [] → o ≡ in_file n text → o ≡ Some rs → IsFile n (dir own) rs
    there_read dir name own n file text o rs named there is read found = subst (λ (f : Option Text). IsFile n f rs) (there ∙ ap dir named) (file_read n file rs (ap (in_file n) (sym is) ∙ sym read ∙ found))

    pub there_unread : {X : Type 0} (dir : X → Option Text) (name own : X) (n : ℕ) (file : Option Text) (text : Text) (o : Option (List R))
        → name ≡ own → file ≡ dir name → text ≡ unwrap_or file [] → o ≡ in_file n text → o ≡ None → (rs : List R) → ¬ IsFile n (dir own) rs
    there_unread dir name own n file text o named there is read none rs = file_unread n (dir own) rs (ap (λ (f : Option Text). in_file n (unwrap_or f [])) (sym (there ∙ ap dir named)) ∙ ap (in_file n) (sym is) ∙ sym read ∙ none)

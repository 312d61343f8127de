-- Records under keys: in the order of their keys, and spread over 53 files, the buckets, by the hash of the key.
use Rattle.std.specs.Prelude.{◌≡◌, ◌<◌, ◌+◌, ◌%◌, ℕ, zero, suc, Bool, true, ◌&&◌, List, [], ◌∷◌, ◌++◌, length, Option}
use Rattle.std.specs.Ordering.{is_lt}
use Rattle.ml_base.specs.Bytes.{Text}
use Rattle.ml_base.specs.Hash.{hash_of}
use Rattle.ml_base.specs.Sorted.{byte_cmp, entry_of, is_sorted}

-- the number of the file that has a key: the key's hash modulo 53
abbrev pub bucket_of : Text → ℕ
bucket_of k = hash_of k % 53

-- what a step makes of the first buckets, one after another, from a start on
abbrev pub through : {E X : Type 0} → X → (X → List E → X) → (ℕ → List E) → ℕ → X
through start step buckets zero = start
through start step buckets (suc n) = step (through start step buckets n) (buckets n)

-- the records of the first buckets, one bucket after another
abbrev pub gathered : {E : Type 0} → (ℕ → List E) → ℕ → List E
gathered buckets n = through [] (λ before bucket. before ++ bucket) buckets n

-- how many records the first buckets have
abbrev pub counted : {E : Type 0} → (ℕ → List E) → ℕ → ℕ
counted buckets n = through 0 (λ before bucket. before + length bucket) buckets n

-- the first so many files have these records, if `IsFile` says which records a file with a number has
abbrev pub AreFirst : {E : Type 0} → (ℕ → Option Text → List E → Type 0) → (ℕ → Option Text) → ℕ → (ℕ → List E) → Type 0
AreFirst IsFile file n buckets = (i : ℕ) → i < n → IsFile i (file i) (buckets i)

module _ {E : Type 0} (key_of : E → Text) where
  -- the record of a key, or None if there is none
  abbrev pub found : Text → List E → Option E
  found k es = entry_of byte_cmp key_of k es

  -- records in ascending order of key, no key twice
  abbrev pub IsOrdered : List E → Type 0
  IsOrdered es = is_sorted byte_cmp key_of es ≡ true

  -- whether the key of a record is above a key
  abbrev pub is_above : Text → E → Bool
  is_above k e = is_lt (byte_cmp k (key_of e))

  -- records whose keys rise, the first one above a key
  abbrev pub rises : Text → List E → Bool
  rises floor [] = true
  rises floor (e ∷ es) = is_above floor e && rises (key_of e) es

  -- the 53 files together have these records, in order: under every key is what the key's file has
  pub record IsUnion (IsFile : ℕ → Option Text → List E → Type 0) (file : ℕ → Option Text) (whole : List E) : Type 0 where
    pub sorted : IsOrdered whole
    pub buckets : ℕ → List E
    pub files : AreFirst IsFile file 53 buckets
    pub by_key : (k : Text) → found k whole ≡ found k (buckets (bucket_of k))

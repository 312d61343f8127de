-- What is pending, filled with one byte, is an image that a crash may leave.
use Rattle.std.proofs.Common.{◌≡◌, ◌⊎◌, inl, inr, ⊎_elim, ◌<◌, ◌≤◌, ℕ, ◌+◌, ◌-◌, zero, suc, min, Bool, true, false, cond, not, ◌&&◌, ◌||◌, List, [], ◌∷◌, ◌++◌, length, take, drop, get_or, replicate, Option, Some, None, refl, sym, ◌∙◌, ap, arith}
use Rattle.std.specs.Prelude.{nat_lt, nat_le}
use Rattle.std.proofs.lemmas.Bool.{cases_lt, lt-ltb, le-leb, le-ltb, lt-leb}
use Rattle.std.proofs.lemmas.List.{ext_get_or, places, length-replicate, get_or-replicate}
use Rattle.ml_base.specs.declared.names.Name.{Name}
use Rattle.ml_site.specs.Disk.{Contents, Part, Range, Cut, File, MayLeave, IsSettledAt, IsSettledFile}
use Rattle.ml_base.specs.Dir.{same_name}
use Rattle.ml_site.specs.Images.{other_name}
use Rattle.ml_site.specs.Filled.{settled_at, settled_file, log_filled, file_filled, bytes_filled}

chosen : {A : Type 0} (t u : Bool) (x y : A) → cond (t && u) x y ≡ cond u (cond (t && true) x y) y
chosen true true x y = refl
chosen true false x y = refl
chosen false true x y = refl
chosen false false x y = refl

chosen_not : {A : Type 0} (t : Bool) (x y : A) → cond (not t && true) x y ≡ cond t y x
chosen_not true x y = refl
chosen_not false x y = refl

-- the tests are true if the relations hold
pub at_settled : (place : ℕ) (parts : List Part) → IsSettledAt place parts → settled_at place parts ≡ true
at_settled place [] is = refl
at_settled place (Range at n ∷ parts) is = ⊎_elim
    (λ (below : place < at). (λ i. (lt-ltb place at below i || nat_le (at + n) place) && at_settled place parts is.1 i))
    (λ (past : at + n ≤ place). (λ i. (nat_lt place at || le-leb (at + n) place past i) && at_settled place parts is.1 i) ∙ or_true (nat_lt place at))
    is.0
  where
    or_true : (b : Bool) → ((b || true) && true) ≡ true
    or_true true = refl
    or_true false = refl
at_settled place (Cut n ∷ parts) is = λ i. lt-ltb place n is.0 i && at_settled place parts is.1 i
at_settled place (File name ∷ parts) is = at_settled place parts is

pub file_settled : (name : Name) (parts : List Part) → IsSettledFile name parts → settled_file name parts ≡ true
file_settled name [] is = refl
file_settled name (Range at n ∷ parts) is = file_settled name parts is
file_settled name (Cut n ∷ parts) is = file_settled name parts is
file_settled name (File other ∷ parts) is = λ i. not (other_name name other is.0 i) && file_settled name parts is.1 i

pub length-filled : (byte : ℕ) (parts : List Part) (from : ℕ) (log : List ℕ) → length (log_filled byte parts from log) ≡ length log
length-filled byte parts from [] = refl
length-filled byte parts from (x ∷ log) = ap suc (length-filled byte parts (from + 1) log)

pub get_or-filled : (byte : ℕ) (parts : List Part) (from : ℕ) (log : List ℕ) (place : ℕ) → place < length log
    → get_or (log_filled byte parts from log) place 0 ≡ cond (settled_at (from + place) parts) (get_or log place 0) byte
get_or-filled byte parts from [] place lt = absurd (omega arith)
get_or-filled byte parts from (x ∷ log) zero lt = ap (λ (p : ℕ). cond (settled_at p parts) x byte) (let same : from ≡ from + 0 = omega arith in same)
get_or-filled byte parts from (x ∷ log) (suc place) lt =
    get_or-filled byte parts (from + 1) log place (omega arith) ∙ ap (λ (p : ℕ). cond (settled_at p parts) (get_or log place 0) byte) (let same : from + 1 + place ≡ from + suc place = omega arith in same)

-- if nothing is pending, nothing is filled
log_none : (byte from : ℕ) (log : List ℕ) → log_filled byte [] from log ≡ log
log_none byte from [] = refl
log_none byte from (x ∷ log) = ap (λ (l : List ℕ). x ∷ l) (log_none byte (from + 1) log)

pub none_filled : (byte : ℕ) (held : Contents) → bytes_filled byte [] held ≡ held
none_filled byte held = λ i. record { log = log_none byte 0 held.log i; files = held.files }

-- a pending file leaves the log alone
pub file_log : (byte : ℕ) (name : Name) (from : ℕ) (log : List ℕ) → log_filled byte (File name ∷ []) from log ≡ log
file_log byte name from [] = refl
file_log byte name from (x ∷ log) = ap (λ (l : List ℕ). x ∷ l) (file_log byte name (from + 1) log)

-- of several parts, the first is filled first
log_more : (byte : ℕ) (part : Part) (parts : List Part) (from : ℕ) (log : List ℕ) → log_filled byte (part ∷ parts) from log ≡ log_filled byte parts from (log_filled byte (part ∷ []) from log)
log_more byte part parts from [] = refl
log_more byte part parts from (x ∷ log) = λ i. here part i ∷ log_more byte part parts (from + 1) log i
  where
    here : (part : Part) → cond (settled_at from (part ∷ parts)) x byte ≡ cond (settled_at from parts) (cond (settled_at from (part ∷ [])) x byte) byte
    here (Range at n) = chosen (nat_lt from at || nat_le (at + n) from) (settled_at from parts) x byte
    here (Cut n) = chosen (nat_lt from n) (settled_at from parts) x byte
    here (File name) = refl

pub more_filled : (byte : ℕ) (part : Part) (parts : List Part) (held : Contents) → bytes_filled byte (part ∷ parts) held ≡ bytes_filled byte parts (bytes_filled byte (part ∷ []) held)
more_filled byte part parts held = λ i. record { log = log_more byte part parts 0 held.log i; files = λ name. here part name i }
  where
    twice : (b : Bool) (file : Option (List ℕ)) → file_filled byte file ≡ file_filled byte (cond b file (file_filled byte file))
    twice true file = refl
    twice false None = refl
    twice false (Some bytes) = ap (λ (n : ℕ). Some (replicate n byte)) (sym (length-replicate (length bytes) byte))

    each : (t u : Bool) (file : Option (List ℕ)) → cond (t && u) file (file_filled byte file) ≡ cond u (cond (t && true) file (file_filled byte file)) (file_filled byte (cond (t && true) file (file_filled byte file)))
    each t true file = chosen t true file (file_filled byte file)
    each true false file = refl
    each false false file = twice false file

    here : (part : Part) (name : Name) → (bytes_filled byte (part ∷ parts) held).files name ≡ (bytes_filled byte parts (bytes_filled byte (part ∷ []) held)).files name
    here (Range at n) name = refl
    here (Cut n) name = refl
    here (File other) name = each (not (same_name name other)) (settled_file name parts) (held.files name)

-- a log with a byte at the places from one on and before another
pub places_filled : (byte : ℕ) (parts : List Part) (log : List ℕ) (from end : ℕ) → from ≤ end → end ≤ length log
    → ((place : ℕ) → from ≤ place → place < end → settled_at place parts ≡ false)
    → ((place : ℕ) → place < length log → (place < from) ⊎ (end ≤ place) → settled_at place parts ≡ true)
    → take from log ++ replicate (end - from) byte ++ drop end log ≡ log_filled byte parts 0 log
places_filled byte parts log from end le within inside outside = ext_get_or 0 (take from log ++ replicate (end - from) byte ++ drop end log) (log_filled byte parts 0 log)
    (same_length ∙ sym (length-filled byte parts 0 log))
    (λ place lt. each place (omega (arith, lt, same_length)))
  where
    same_length : length (take from log ++ replicate (end - from) byte ++ drop end log) ≡ length log
    same_length = grind (arith, places)

    is_in : (place : ℕ) → from ≤ place → place < end → get_or (take from log ++ replicate (end - from) byte ++ drop end log) place 0 ≡ byte
    is_in place le lt = grind (arith, places, get_or-replicate)

    is_out : (place : ℕ) → place < length log → (place < from) ⊎ (end ≤ place) → get_or (take from log ++ replicate (end - from) byte ++ drop end log) place 0 ≡ get_or log place 0
    is_out place lt (inl below) = grind (arith, places)
    is_out place lt (inr past) = grind (arith, places, length-replicate)

    filled : (place : ℕ) (b : Bool) → place < length log → settled_at place parts ≡ b → get_or (log_filled byte parts 0 log) place 0 ≡ cond b (get_or log place 0) byte
    filled place b lt is = get_or-filled byte parts 0 log place lt ∙ ap (λ (t : Bool). cond t (get_or log place 0) byte) (ap (λ (p : ℕ). settled_at p parts) (let same : 0 + place ≡ place = omega arith in same) ∙ is)

    each : (place : ℕ) → place < length log → get_or (take from log ++ replicate (end - from) byte ++ drop end log) place 0 ≡ get_or (log_filled byte parts 0 log) place 0
    each place lt = ⊎_elim
        (λ (below : place < from). is_out place lt (inl below) ∙ sym (filled place true lt (outside place lt (inl below))))
        (λ (late : from ≤ place). ⊎_elim
        (λ (before : place < end). is_in place late before ∙ sym (filled place false lt (inside place late before)))
        (λ (past : end ≤ place). is_out place lt (inr past) ∙ sym (filled place true lt (outside place lt (inr past))))
        (cases_lt place end))
        (cases_lt place from)

-- a pending range of the log, as far as it is inside it
pub range_filled : (byte at n : ℕ) (log : List ℕ) (from count : ℕ) → from ≡ min (length log) at → count ≡ min n (length log - from)
    → take from log ++ replicate (from + count - from) byte ++ drop (from + count) log ≡ log_filled byte (Range at n ∷ []) 0 log
range_filled byte at n log from count from_is count_is = places_filled byte (Range at n ∷ []) log from (from + count) (omega arith) (omega arith) inside outside
  where
    inside : (place : ℕ) → from ≤ place → place < from + count → settled_at place (Range at n ∷ []) ≡ false
    inside place le lt = λ i. (le-ltb place at (omega (arith, from_is, count_is, le, lt)) i || lt-leb (at + n) place (omega (arith, from_is, count_is, le, lt)) i) && true

    outside : (place : ℕ) → place < length log → (place < from) ⊎ (from + count ≤ place) → settled_at place (Range at n ∷ []) ≡ true
    outside place lt (inl below) = at_settled place (Range at n ∷ []) (inl (omega (arith, from_is, below)), tt)
    outside place lt (inr past) = ⊎_elim
        (λ (early : place < at). at_settled place (Range at n ∷ []) (inl early, tt))
        (λ (late : at ≤ place). at_settled place (Range at n ∷ []) (inr (omega (arith, from_is, count_is, past, late, lt)), tt))
        (cases_lt place at)

-- the log from a pending cut on
pub cut_filled : (byte n : ℕ) (log : List ℕ) (from end : ℕ) → end ≡ length log → from ≡ min end n
    → take from log ++ replicate (end - from) byte ++ drop end log ≡ log_filled byte (Cut n ∷ []) 0 log
cut_filled byte n log from end end_is from_is = places_filled byte (Cut n ∷ []) log from end (omega arith) (omega arith) inside outside
  where
    inside : (place : ℕ) → from ≤ place → place < end → settled_at place (Cut n ∷ []) ≡ false
    inside place le lt = λ i. le-ltb place n (omega (arith, from_is, le, lt)) i && true

    outside : (place : ℕ) → place < length log → (place < from) ⊎ (end ≤ place) → settled_at place (Cut n ∷ []) ≡ true
    outside place lt (inl below) = at_settled place (Cut n ∷ []) (omega (arith, from_is, below), tt)
    outside place lt (inr past) = absurd (omega (arith, end_is, past, lt))

-- a pending file
pub other_filled : (byte : ℕ) (name other : Name) (file now : Option (List ℕ)) → now ≡ cond (same_name other name) (file_filled byte file) file
    → now ≡ cond (settled_file other (File name ∷ [])) file (file_filled byte file)
other_filled byte name other file now is = is ∙ sym (chosen_not (same_name other name) file (file_filled byte file))

-- the log and the files as they are filled
pub both_filled : (byte : ℕ) (parts : List Part) (held : Contents) (log : List ℕ) (files : Name → Option (List ℕ)) → log ≡ log_filled byte parts 0 held.log
    → ((name : Name) → files name ≡ (bytes_filled byte parts held).files name) → (record { log = log; files = files }) ≡ bytes_filled byte parts held
both_filled byte parts held log files log_is files_is = λ i. record { log = log_is i; files = λ name. files_is name i }

-- an image stays an image if pending places are filled
pub image_filled : (byte : ℕ) (settled : Contents) (parts : List Part) (held : Contents) → MayLeave settled parts held → MayLeave settled parts (bytes_filled byte parts held)
image_filled byte settled parts held may = record {
  no_shorter = omega (arith, may.no_shorter, length-filled byte parts 0 held.log);
  no_longer = omega (arith, may.no_longer, length-filled byte parts 0 held.log);
  log = λ place lt at. kept place (omega (arith, lt, length-filled byte parts 0 held.log)) at;
  files = λ name at. ap (λ (b : Bool). cond b (held.files name) (file_filled byte (held.files name))) (file_settled name parts at) ∙ may.files name at;
}
  where
    kept : (place : ℕ) → place < length held.log → IsSettledAt place parts → get_or (log_filled byte parts 0 held.log) place 0 ≡ get_or settled.log place 0
    kept place lt at = get_or-filled byte parts 0 held.log place lt
        ∙ ap (λ (b : Bool). cond b (get_or held.log place 0) byte) (ap (λ (p : ℕ). settled_at p parts) (let same : 0 + place ≡ place = omega arith in same) ∙ at_settled place parts at)
        ∙ may.log place lt at

-- What a crash leaves of a log if one part of it is pending.
use Rattle.std.proofs.Common.{◌≡◌, ◌⊎◌, inl, inr, ◌<◌, ◌≤◌, ℕ, suc, ◌+◌, List, [], ◌∷◌, ◌++◌, length, take, drop, get_or, refl, sym, ◌∙◌, ap, arith}
use Rattle.std.proofs.lemmas.Bool.{cases_lt, cases_eq}
use Rattle.std.proofs.lemmas.List.{places, length-take, get_or-take, ext_get_or}
use Rattle.ml_site.specs.Disk.{Contents, Range, Cut, MayLeave}

-- a text that begins with the bytes of another
begins_with : (front text : List ℕ) → length front ≤ length text → ((place : ℕ) → place < length front → get_or text place 0 ≡ get_or front place 0) → text ≡ front ++ drop (length front) text
begins_with [] text le same = refl
begins_with (x ∷ front) [] le same = absurd (omega arith)
begins_with (x ∷ front) (y ∷ text) le same =
    let first : y ≡ x = same 0 (omega arith) in
    λ i. first i ∷ begins_with front text (omega arith) (λ place lt. same (suc place) (omega arith)) i

-- bytes were written after its end: the log stands, with any bytes after it
pub torn_after : (old left : Contents) (n : ℕ) → MayLeave old (Range (length old.log) n ∷ []) left → left.log ≡ old.log ++ drop (length old.log) left.log
torn_after old left n may = begins_with old.log left.log may.no_shorter (λ place lt. may.log place (omega (arith, lt, may.no_shorter)) (inl lt, tt))

length_around : (log : List ℕ) (at byte : ℕ) → at < length log → length (take at log ++ byte ∷ drop (at + 1) log) ≡ length log
length_around log at byte lt = grind (arith, places)

around : (log : List ℕ) (at byte place : ℕ) → at < length log → (place < at) ⊎ (at + 1 ≤ place) → get_or (take at log ++ byte ∷ drop (at + 1) log) place 0 ≡ get_or log place 0
around log at byte place lt (inl below) = grind (arith, places)
around log at byte place lt (inr past) = grind (arith, places)

here : (log : List ℕ) (at byte : ℕ) → at < length log → get_or (take at log ++ byte ∷ drop (at + 1) log) at 0 ≡ byte
here log at byte lt = grind (arith, places)

-- one of its bytes was written: any byte may be there, and the others stand
pub torn_byte : (old left : Contents) (at : ℕ) → at < length old.log → MayLeave old (Range at 1 ∷ []) left → left.log ≡ take at old.log ++ get_or left.log at 0 ∷ drop (at + 1) old.log
torn_byte old left at lt may = ext_get_or 0 left.log torn (size ∙ sym (length_around old.log at byte lt)) placed
  where
    byte : ℕ
    byte = get_or left.log at 0

    torn : List ℕ
    torn = take at old.log ++ byte ∷ drop (at + 1) old.log

    size : length left.log ≡ length old.log
    size = omega (arith, may.no_shorter, may.no_longer, lt)

    placed : (place : ℕ) → place < length left.log → get_or left.log place 0 ≡ get_or torn place 0
    placed place within = elim (cases_eq place at) [
      | inl same ↦ ap (λ (k : ℕ). get_or left.log k 0) same ∙ sym (ap (λ (k : ℕ). get_or torn k 0) same ∙ here old.log at byte lt)
      | inr differ ↦ elim (cases_lt place at) [
        | inl below ↦ may.log place within (inl below, tt) ∙ sym (around old.log at byte place lt (inl below))
        | inr past ↦
            let after : at + 1 ≤ place = omega (arith, past, differ) in
            may.log place within (inr after, tt) ∙ sym (around old.log at byte place lt (inr after))
      ]
    ]

-- it was cut: the part that was kept stands, with any bytes after it
pub torn_cut : (old left : Contents) (n : ℕ) → n ≤ length old.log → MayLeave old (Cut n ∷ []) left → left.log ≡ take n old.log ++ drop n left.log
torn_cut old left n le may =
    let size : length (take n old.log) ≡ n = omega (arith, length-take n old.log, le) in
    begins_with (take n old.log) left.log (omega (arith, size, may.no_shorter, le))
    (λ place lt. may.log place (omega (arith, lt, size, may.no_shorter, le)) (omega (arith, lt, size), tt) ∙ sym (get_or-take n old.log place 0 (omega (arith, lt, size))))
    ∙ ap (λ (k : ℕ). take n old.log ++ drop k left.log) size

-- no file is pending then
pub torn_log_files : (old left : Contents) (at n : ℕ) → MayLeave old (Range at n ∷ []) left → left.files ≡ old.files
torn_log_files old left at n may = λ i name. may.files name tt i

pub cut_log_files : (old left : Contents) (n : ℕ) → MayLeave old (Cut n ∷ []) left → left.files ≡ old.files
cut_log_files old left n may = λ i name. may.files name tt i

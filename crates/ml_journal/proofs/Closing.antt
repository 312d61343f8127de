-- What a crash leaves while the files of a log are laid down.
use Rattle.std.proofs.Common.{◌≡◌, inl, inr, ⊎_elim, ℕ, [], ◌∷◌, ◌++◌, length, take, drop, get_or, Option, Some, None, refl, sym, ◌∙◌, ap, subst, arith}
use Rattle.std.specs.BTreeMap.{BTreeMap}
use Rattle.std.proofs.lemmas.Bool.{cases_eq}
use Rattle.ml_base.specs.Bytes.{Text}
use Rattle.ml_base.specs.Dir.{Dir}
use Rattle.ml_base.specs.declared.names.Name.{Name}
use Rattle.ml_site.specs.Disk.{Contents, Range, Cut, MayLeave, log_with, log_cut}
use Rattle.ml_site.proofs.LogParts.{torn_byte, torn_cut, torn_log_files, cut_log_files}
use Rattle.ml_journal.specs.Log.{directory}
use Rattle.ml_journal.specs.Newest.{newest_of, left_by, with_newest}
use Rattle.ml_journal.specs.Rows.{Rests, Lays}
use Rattle.ml_journal.specs.Laying.{laid_down, Beside}
use Rattle.ml_journal.proofs.Crash.{Counts, counts_same, closed, last_row, rests_counts}

-- puts laid over two directories give the same if these differ only in files of the puts
pub laid_beside : (puts : BTreeMap Name (Option Text)) (f g : Dir) → ((name : Name) → newest_of puts name ≡ None → f name ≡ g name) → with_newest puts f ≡ with_newest puts g
laid_beside puts f g same = λ i name. one name (newest_of puts name) refl i
  where
    one : (name : Name) (found : Option (Option Text)) → newest_of puts name ≡ found → left_by found (f name) ≡ left_by found (g name)
    one name None is = same name is
    one name (Some bytes) is = refl

-- laid twice is laid once
pub laid_twice : (puts : BTreeMap Name (Option Text)) (f : Dir) → with_newest puts (with_newest puts f) ≡ with_newest puts f
laid_twice puts f = λ i name. one (newest_of puts name) (f name) i
  where
    one : (found : Option (Option Text)) (before : Option Text) → left_by found (left_by found before) ≡ left_by found before
    one None before = refl
    one (Some bytes) before = refl

pub rests_lays : (log : Text) (end : ℕ) (change : Dir → Dir) → Rests log end change → Lays log change
rests_lays log end change rests = ⊎_elim
    (λ (none : rests.row ≡ []). record { counts = rests_counts log end change rests; gate = 0; after = []; split = rests.split ∙ ap (λ (l : Text). l ++ 0 ∷ []) none; is_open = inl refl })
    (λ (some : (after : Text) × (rests.row ≡ 1 ∷ after)). record { counts = rests_counts log end change rests; gate = 1; after = some.0 ++ 0 ∷ []; split = rests.split ∙ ap (λ (l : Text). l ++ 0 ∷ []) some.1; is_open = inr refl })
    rests.first

-- files of the log's puts are written and removed
pub while_laid : (old : Contents) (puts : BTreeMap Name (Option Text)) (left : Contents) → Lays old.log (with_newest puts) → Beside puts old left → directory left ≡ directory old
while_laid old puts left held beside =
    counts_same old.log left.log (with_newest puts) beside.log held.counts left.files ∙ ap Some (laid_beside puts left.files old.files beside.files) ∙ sym (held.counts old.files)

last_gate : (gate : ℕ) → Counts (gate ∷ []) (λ d. d)
last_gate gate = last_row [] (λ d. d) gate (λ rest files some. refl)

-- the first gate is written while the files are laid down
pub while_closed : (old : Contents) (puts : BTreeMap Name (Option Text)) (left : Contents) → Lays old.log (with_newest puts) → MayLeave (laid_down puts old) (Range 0 1 ∷ []) left → directory left ≡ directory old
while_closed old puts left held may =
    let gate = get_or left.log 0 0 in
    let files : left.files ≡ with_newest puts old.files = torn_log_files (laid_down puts old) left 0 1 may in
    let torn : left.log ≡ gate ∷ held.after = torn_byte (laid_down puts old) left 0 (omega (arith, ap length held.split)) may ∙ ap (λ (l : Text). gate ∷ drop 1 l) held.split in
    let none : Counts left.log (λ d. d) → directory left ≡ directory old = λ counts. counts left.files ∙ ap Some files ∙ sym (held.counts old.files) in
    let whole : held.gate ≡ 1 → gate ≡ 1 → directory left ≡ directory old = λ was_open is_open.
    let same : left.log ≡ old.log = torn ∙ ap (λ (g : ℕ). g ∷ held.after) (is_open ∙ sym was_open) ∙ sym held.split in
    counts_same old.log left.log (with_newest puts) same held.counts left.files ∙ ap (λ (f : Dir). Some (with_newest puts f)) files ∙ ap Some (laid_twice puts old.files) ∙ sym (held.counts old.files) in
    elim (cases_eq gate 1) [
      | inl is_open ↦ ⊎_elim
          (λ (last : held.after ≡ []). none (counts_same (gate ∷ []) left.log (λ d. d) (torn ∙ ap (λ (l : Text). gate ∷ l) last) (last_gate gate)))
          (λ (was_open : held.gate ≡ 1). whole was_open is_open)
          held.is_open
      | inr shut ↦ none (counts_same (gate ∷ held.after) left.log (λ d. d) torn (closed gate held.after shut))
    ]

-- the log begins with a closed gate, and the files are laid down
pub record IsClosed (old : Contents) (puts : BTreeMap Name (Option Text)) (mid : Contents) : Type 0 where
  pub after : Text
  pub log : mid.log ≡ 0 ∷ after
  pub files : mid.files ≡ with_newest puts old.files

pub is_closed : (old : Contents) (puts : BTreeMap Name (Option Text)) → Lays old.log (with_newest puts) → IsClosed old puts (log_with (laid_down puts old) 0 (0 ∷ []))
is_closed old puts held = record { after = held.after; log = ap (λ (l : Text). take 0 l ++ 0 ∷ drop 1 l) held.split; files = refl }

-- it is so after the first gate was written over what was laid down
pub closed_then : (old : Contents) (puts : BTreeMap Name (Option Text)) (first second : Contents) → Lays old.log (with_newest puts) → first ≡ laid_down puts old → second ≡ log_with first 0 (0 ∷ []) → IsClosed old puts second
closed_then old puts first second held laid is = subst (IsClosed old puts) (sym (is ∙ ap (λ (m : Contents). log_with m 0 (0 ∷ [])) laid)) (is_closed old puts held)

closed_directory : (old : Contents) (puts : BTreeMap Name (Option Text)) (left : Contents) → Lays old.log (with_newest puts) → IsClosed old puts left → directory left ≡ directory old
closed_directory old puts left held is =
    counts_same (0 ∷ is.after) left.log (λ d. d) is.log (closed 0 is.after (omega arith)) left.files ∙ ap Some is.files ∙ sym (held.counts old.files)

-- the log is cut after its closed gate
pub while_cut : (old : Contents) (puts : BTreeMap Name (Option Text)) (mid left : Contents) → Lays old.log (with_newest puts) → IsClosed old puts mid → MayLeave mid (Cut 1 ∷ []) left → directory left ≡ directory old
while_cut old puts mid left held is may =
    let split : left.log ≡ 0 ∷ drop 1 left.log = torn_cut mid left 1 (omega (arith, ap length is.log)) may ∙ ap (λ (l : Text). take 1 l ++ drop 1 left.log) is.log in
    closed_directory old puts left held (record { after = drop 1 left.log; log = split; files = cut_log_files mid left 1 may ∙ is.files })

pub cut_down : (old : Contents) (puts : BTreeMap Name (Option Text)) (mid : Contents) → IsClosed old puts mid → (log_cut mid 1).log ≡ 0 ∷ []
cut_down old puts mid is = ap (take 1) is.log

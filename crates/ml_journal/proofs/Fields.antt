-- What a store keeps of its log, field by field.
use Rattle.std.proofs.Common.{◌≡◌, ◌⊎◌, inl, inr, ◌<◌, ℕ, List, [], ◌∷◌, ◌++◌, length, take, get_or, Option, ◌≤◌, Result, Ok, Err, IfOk, refl, sym, ◌∙◌, ap, subst, arith, length-append}
use Rattle.std.proofs.lemmas.List.{length-take, take_at}
use Rattle.ml_base.specs.Bytes.{Text}
use Rattle.std.specs.Prelude.{IsSome, is_some}
use Rattle.ml_base.specs.Absent.{NoneOf, NoEntryOf}
use Rattle.ml_base.specs.Dir.{Dir}
use Rattle.std.specs.BTreeMap.{BTreeMap}
use Rattle.ml_base.specs.declared.names.Name.{Name}
use Rattle.ml_site.specs.Disk.{Contents}
use Rattle.ml_journal.specs.Log.{log_puts, laid_over, directory}
use Rattle.ml_journal.specs.Newest.{newest_of, left_by, with_newest}
use Rattle.ml_journal.specs.Rows.{Rests, IsRow}
use Rattle.ml_journal.specs.Stores.{the_dir}
use Rattle.ml_journal.proofs.Crash.{rests_counts}

row_size : (log : Text) (end : ℕ) → log ≡ take end log ++ 0 ∷ [] → length (take end log) ≡ end
row_size log end split = omega (arith, ap length split, length-append (take end log) (0 ∷ []), length-take end log)

begins_of : (row log : Text) (end : ℕ) → length row ≡ end → log ≡ row ++ 0 ∷ [] → (0 < end → get_or log 0 0 ≡ 1) → (row ≡ []) ⊎ ((after : Text) × (row ≡ 1 ∷ after))
begins_of [] log end size split begins = inl refl
begins_of (h ∷ after) log end size split begins =
    let is_open : h ≡ 1 = sym (ap (λ (l : Text). get_or l 0 0) split) ∙ begins (omega arith) in
    inr (after, ap (λ (k : ℕ). k ∷ after) is_open)

pub rests_of : (log : Text) (end : ℕ) (change : Dir → Dir) → log ≡ take end log ++ 0 ∷ [] → (0 < end → get_or log 0 0 ≡ 1) → IsRow (take end log) change → Rests log end change
rests_of log end change split begins row = record {
  row = take end log;
  split = split;
  size = row_size log end split;
  is_row = row;
  first = begins_of (take end log) log end (row_size log end split) split begins;
}

row_is : (log : Text) (end : ℕ) (change : Dir → Dir) → (rests : Rests log end change) → take end log ≡ rests.row
row_is log end change rests = ap (take end) rests.split ∙ take_at rests.row (0 ∷ []) end rests.size

pub split_of : (log : Text) (end : ℕ) (change : Dir → Dir) → Rests log end change → log ≡ take end log ++ 0 ∷ []
split_of log end change rests = rests.split ∙ ap (λ (l : Text). l ++ 0 ∷ []) (sym (row_is log end change rests))

pub row_of_log : (log : Text) (end : ℕ) (change : Dir → Dir) → Rests log end change → IsRow (take end log) change
row_of_log log end change rests = subst (λ (l : Text). IsRow l change) (sym (row_is log end change rests)) rests.is_row

pub first_of_log : (log : Text) (end : ℕ) (change : Dir → Dir) → Rests log end change → 0 < end → get_or log 0 0 ≡ 1
first_of_log log end change rests some = begins rests.row rests.split rests.size rests.first
  where
    begins : (row : Text) → log ≡ row ++ 0 ∷ [] → length row ≡ end → (row ≡ []) ⊎ ((after : Text) × (row ≡ 1 ∷ after)) → get_or log 0 0 ≡ 1
    begins row split size (inl none) = absurd (omega (arith, ap length none, size, some))
    begins row split size (inr first) = ap (λ (l : Text). get_or l 0 0) (split ∙ ap (λ (l : Text). l ++ 0 ∷ []) first.1)

-- a row of no records changes nothing
pub no_row : (change : Dir → Dir) → ((dir : Dir) → change dir ≡ dir) → IsRow [] change
no_row change none rest files some = ap (λ (d : Dir). laid_over d (log_puts rest)) (sym (none files))

-- one closed gate
pub one_gate_rests : (log : Text) (change : Dir → Dir) → log ≡ 0 ∷ [] → ((dir : Dir) → change dir ≡ dir) → Rests log 0 change
one_gate_rests log change is none = record { row = []; split = is; size = refl; is_row = no_row change none; first = inl refl }

-- what a directory shows of a file, given the newest puts
pub shown : (held : Contents) (end : ℕ) (puts : BTreeMap Name (Option Text)) (name : Name) → Rests held.log end (with_newest puts) → the_dir (directory held) name ≡ left_by (newest_of puts name) (held.files name)
shown held end puts name rests = ap (λ (d : Option Dir). the_dir d name) (rests_counts held.log end (with_newest puts) rests held.files)

-- a directory shows no file in a range of places if no newest put is of one there and the disk holds none there
pub none_shown : {E : Type 0} (held : Contents) (end : ℕ) (puts : BTreeMap Name (Option Text)) (kind from last : ℕ) (result : Result ℕ E) → Rests held.log end (with_newest puts) → NoEntryOf puts kind from last
    → IfOk result (λ at. (from ≤ at) × (at ≤ last)) → IfOk result (NoneOf held.files kind from) → IfOk result (NoneOf (the_dir (directory held)) kind from)
none_shown held end puts kind from last (Ok n) rests named range none = λ at up below.
    shown held end puts (record { kind = kind; at = at }) rests
    ∙ ap (λ (found : Option (Option Text)). left_by found (held.files (record { kind = kind; at = at }))) (named at up (omega (arith, below, range.1))) ∙ none at up below
none_shown held end puts kind from last (Err e) rests named range none = tt

-- a store has a directory
pub whole : (held : Contents) (end : ℕ) (change : Dir → Dir) → Rests held.log end change → IsSome (directory held)
whole held end change rests = ap is_some (rests_counts held.log end change rests held.files)

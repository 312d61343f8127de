-- The due entries of a ledger are in it.
use Rattle.std.proofs.Common.{◌≡◌, ◌-◌, inl, inr, ℕ, Bool, true, false, cond, List, [], ◌∷◌, ◌++◌, Some, refl, ap, ◌∙◌, take, filter, map, length, zero, suc, arith}
use Rattle.std.proofs.lemmas.Bool.{and_parts, and_from}
use Rattle.std.specs.List.{list_all, AllByRecursion}
use Rattle.std.specs.Ordering.{is_lt}
use Rattle.ml_base.specs.Sorted.{byte_cmp, is_sorted}
use Rattle.ml_bounce.specs.Changes.{due_entries, is_due}
use Rattle.ml_bounce.specs.Ledger.{Ledger, find_entry}
use Rattle.ml_bounce.specs.declared.entries.LedgerEntry.{LedgerEntry}
use Rattle.ml_plain.proofs.Ledgers.{Elem, elem_filter, elem_found, elem_take}
use Rattle.ml_timed.specs.Ahead.{AreIn}

module _ {E : Type 0} (test : E → Bool) where
  -- what holds of all holds of those that pass, and of the first of them
  all_filter : (p : E → Bool) (es : List E) → list_all p es ≡ true → list_all p (filter test es) ≡ true
  all_filter p [] all = refl
  all_filter p (e ∷ es) all = let parts = and_parts (p e) (list_all p es) all in go (test e) parts.0 (all_filter p es parts.1)
    where
      go : (t : Bool) → p e ≡ true → list_all p (filter test es) ≡ true → list_all p (cond t (e ∷ filter test es) (filter test es)) ≡ true
      go true one more = and_from (p e) (list_all p (filter test es)) one more
      go false one more = more

all_take : {E : Type 0} (p : E → Bool) (n : ℕ) (es : List E) → list_all p es ≡ true → list_all p (take n es) ≡ true
all_take p zero es all = refl
all_take p (suc n) [] all = refl
all_take p (suc n) (e ∷ es) all = let parts = and_parts (p e) (list_all p es) all in and_from (p e) (list_all p (take n es)) parts.0 (all_take p n es parts.1)

abbrev IsRising : Ledger → Type 0
IsRising es = is_sorted byte_cmp (λ e. e.key) es ≡ true

abbrev above : LedgerEntry → LedgerEntry → Bool
above e f = is_lt (byte_cmp e.key f.key)

rising_filter : (test : LedgerEntry → Bool) (es : Ledger) → IsRising es → IsRising (filter test es)
rising_filter test [] rising = refl
rising_filter test (e ∷ es) rising =
    let parts = and_parts (list_all (above e) es) (is_sorted byte_cmp (λ f. f.key) es) rising in
    go (test e) (all_filter test (above e) es parts.0) (rising_filter test es parts.1)
  where
    go : (t : Bool) → list_all (above e) (filter test es) ≡ true → IsRising (filter test es) → IsRising (cond t (e ∷ filter test es) (filter test es))
    go true all more = and_from (list_all (above e) (filter test es)) (is_sorted byte_cmp (λ f. f.key) (filter test es)) all more
    go false all more = more

rising_take : (n : ℕ) (es : Ledger) → IsRising es → IsRising (take n es)
rising_take zero es rising = refl
rising_take (suc n) [] rising = refl
rising_take (suc n) (e ∷ es) rising =
    let parts = and_parts (list_all (above e) es) (is_sorted byte_cmp (λ f. f.key) es) rising in
    and_from (list_all (above e) (take n es)) (is_sorted byte_cmp (λ f. f.key) (take n es)) (all_take (above e) n es parts.0) (rising_take n es parts.1)

-- what holds of everything that is in a row holds of the whole row
each_among : {E : Type 0} (P : E → Type 0) (es : List E) → ((e : E) → Elem e es → P e) → AllByRecursion P es
each_among P [] f = tt
each_among P (e ∷ es) f = (f e (inl refl), each_among P es (λ g among. f g (inr among)))

-- the first due entries
pub due_in : (now n : ℕ) (ledger : Ledger) → IsRising ledger → AreIn ledger (take n (due_entries now ledger))
due_in now n ledger rising = record {
  sorted = rising_take n (due_entries now ledger) (rising_filter (is_due now) ledger rising);
  found = each_among (λ e. find_entry e.key ledger ≡ Some e) (take n (due_entries now ledger))
      (λ e among. elem_found e ledger rising (elem_filter (is_due now) e ledger (elem_take e n (due_entries now ledger) among)).0);
}

-- the first of two rows, and then of the second as many as are left
pub take_both : {E : Type 0} (n : ℕ) (a b : List E) → take n (a ++ b) ≡ take n a ++ take (n - length (take n a)) b
take_both zero a b = refl
take_both (suc n) [] b = let same : suc n ≡ suc n - 0 = omega arith in ap (λ m. take m b) same
take_both (suc n) (x ∷ a) b =
    let k = length (take n a) in
    let same : n - k ≡ suc n - suc k = omega arith in
    ap (λ t. x ∷ t) (take_both n a b ∙ ap (λ m. take n a ++ take m b) same)

pub map_take : {A B : Type 0} (f : A → B) (n : ℕ) (a : List A) → map f (take n a) ≡ take n (map f a)
map_take f zero a = refl
map_take f (suc n) [] = refl
map_take f (suc n) (x ∷ a) = ap (λ t. f x ∷ t) (map_take f n a)

pub map_length : {A B : Type 0} (f : A → B) (a : List A) → length (map f a) ≡ length a
map_length f [] = refl
map_length f (x ∷ a) = ap suc (map_length f a)

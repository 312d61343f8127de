-- What items in a row leave and answer, and that a list's files aren't damaged.
use Rattle.std.proofs.Common.{◌≡◌, ℕ, List, [], ◌∷◌, ◌++◌, refl, sym, ◌∙◌, ap, append_assoc}
use Rattle.std.proofs.lemmas.List.{append-nil}
use Rattle.ml_base.specs.Bytes.{Text}
use Rattle.ml_base.specs.Dir.{Dir}
use Rattle.ml_base.specs.declared.names.Name.{Name}
use Rattle.ml_plain.specs.declared.Item.{Item}
use Rattle.ml_plain.specs.Directory.{IsState}
use Rattle.ml_plain.specs.Histories.{State, step, fold, text, last_from}
use Rattle.ml_plain.specs.Replies.{line, status_of}
use Rattle.ml_list.specs.Damage.{IsDamagedInList}
use Rattle.ml_list.proofs.Damages.{none_damaged}

pub fold-nil : (q : State) → fold q [] ≡ q
fold-nil q = refl

pub fold-one : (q : State) (item : Item) → fold q (item ∷ []) ≡ (step q item).0
fold-one q item = refl

pub fold-append : (q : State) (xs ys : List Item) → fold q (xs ++ ys) ≡ fold (fold q xs) ys
fold-append q [] ys = refl
fold-append q (x ∷ xs) ys = fold-append (step q x).0 xs ys

pub text-nil : (q : State) → text q [] ≡ []
text-nil q = refl

pub text-one : (q : State) (item : Item) → text q (item ∷ []) ≡ line item.number (step q item).1
text-one q item = append-nil (line item.number (step q item).1)

pub text-append : (q : State) (xs ys : List Item) → text q (xs ++ ys) ≡ text q xs ++ text (fold q xs) ys
text-append q [] ys = refl
text-append q (x ∷ xs) ys =
    ap (λ (t : Text). line x.number (step q x).1 ++ t) (text-append (step q x).0 xs ys)
    ∙ sym (append_assoc (line x.number (step q x).1) (text (step q x).0 xs) (text (fold (step q x).0 xs) ys))

-- the status of the last reply
pub last-nil : (status : ℕ) (q : State) → last_from status q [] ≡ status
last-nil status q = refl

pub last-more : (status : ℕ) (q : State) (xs : List Item) (item : Item) → last_from status q (xs ++ item ∷ []) ≡ status_of (step (fold q xs) item).1.code
last-more status q [] item = refl
last-more status q (x ∷ xs) item = last-more (status_of (step q x).1.code) (step q x).0 xs item

pub last-append : (status : ℕ) (q : State) (xs ys : List Item) → last_from status q (xs ++ ys) ≡ last_from (last_from status q xs) (fold q xs) ys
last-append status q [] ys = refl
last-append status q (x ∷ xs) ys = last-append (status_of (step q x).1.code) (step q x).0 xs ys

-- no file of a directory that stands for a list is damaged
pub sound : (dir : Dir) (q : State) (name : Name) → IsState dir q → IsDamagedInList dir name → ⊥
sound dir q name is damaged = none_damaged dir q name is damaged

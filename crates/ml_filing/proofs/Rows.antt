-- How the entries of a row of posts are looked up in the indexes that were read.
use Rattle.std.proofs.Common.{◌≡◌, ◌<◌, ◌≤◌, ◌+◌, ◌-◌, ◌/◌, ℕ, suc, Bool, true, false, cond, ◌==◌, ◌||◌, List, [], ◌∷◌, ◌++◌, length, find, take, drop, get_or, Option, Some, None, refl, sym, ap, ◌∙◌, subst, arith, append_assoc, length-append, Bor, IfSome, IfNone}
use Rattle.std.specs.Option.{option_copied}
use Rattle.std.specs.List.{IsAmong}
use Rattle.std.proofs.lemmas.Bool.{eqb-true, false≢true}
use Rattle.std.proofs.lemmas.List.{take_all}
use Rattle.ml_base.specs.Dir.{Dir}
use Rattle.ml_rows.proofs.RowLaws.{one_some, none_some}
use Rattle.ml_filing.specs.Answers.{AreIndexes, AreSizes, has_group, HasNoEntry, IsEntryByFiles}
use Rattle.ml_filing.specs.Archive.{IsIndexFile, index_name}
use Rattle.ml_filing.specs.Threads.{entry_at}
use Rattle.ml_filing.specs.declared.lookups.Index.{Index}
use Rattle.ml_filing.specs.declared.posts.Entry.{Entry}
use Rattle.ml_filing.proofs.Looking.{entry_named}

pub number_of : (rest : List ℕ) → 1 ≤ length rest → rest ≡ get_or rest 0 0 ∷ take (length rest - 1) (drop 1 rest)
number_of [] some = absurd (omega arith)
number_of (n ∷ ns) some = ap (λ (more : List ℕ). n ∷ more) (sym (take_all (length (n ∷ ns) - 1) ns (omega arith)))

pub among_more : (rest more : List ℕ) (n m : ℕ) → rest ≡ n ∷ more → IsAmong more m → IsAmong rest m
among_more rest more n m is among = subst (λ (ns : List ℕ). IsAmong ns m) (sym is) (suc among.0, (let less = among.1.0 in omega (arith, less), among.1.1))

pub among_first : (rest : List ℕ) → 1 ≤ length rest → IsAmong rest (get_or rest 0 0)
among_first [] some = absurd (omega arith)
among_first (n ∷ ns) some = (0, (omega arith, refl))

pub none_sized : (dir : Dir) (rest : List ℕ) → length rest < 1 → AreSizes dir rest []
none_sized dir [] none = tt
none_sized dir (n ∷ ns) none = absurd (omega (arith, none))

pub long_more : (new sizes rest more numbers : List ℕ) (s n : ℕ) → new ≡ sizes ++ s ∷ [] → rest ≡ n ∷ more → length sizes + length rest ≡ length numbers → length new + length more ≡ length numbers
long_more new sizes rest more numbers s n made is long =
    let a = ap length made in let b = ap length is in let c = length-append sizes (s ∷ []) in omega (arith, a, b, c, long)

pub one_sized : (dir : Dir) (numbers rest more sizes new ss : List ℕ) (n : ℕ) (e : Entry) → rest ≡ n ∷ more → new ≡ sizes ++ e.size ∷ [] → IsEntryByFiles dir n e
    → ((ss : List ℕ) → AreSizes dir rest ss → AreSizes dir numbers (sizes ++ ss)) → AreSizes dir more ss → AreSizes dir numbers (new ++ ss)
one_sized dir numbers rest more sizes new ss n e is made found before zip =
    let all : AreSizes dir (n ∷ more) (e.size ∷ ss) = ((e, found, refl), zip) in
    subst (λ (t : List ℕ). AreSizes dir numbers t) (sym (ap (λ (t : List ℕ). t ++ ss) made ∙ append_assoc sizes (e.size ∷ []) ss))
    (before (e.size ∷ ss) (subst (λ (ns : List ℕ). AreSizes dir ns (e.size ∷ ss)) (sym is) all))

-- the index of a group among indexes
abbrev of_group : ℕ → List Index → Option Index
of_group g indexes = find (λ (i : Index). i.group == g) indexes

no_group_none : (g : ℕ) (indexes : List Index) → of_group g indexes ≡ None → has_group g indexes ≡ true → ⊥
no_group_none g [] none has = false≢true has
no_group_none g (i ∷ is) none has = go (i.group == g) none has (no_group_none g is)
  where
    go : (t : Bool) → cond t (Some i) (of_group g is) ≡ None → (t || has_group g is) ≡ true → (of_group g is ≡ None → has_group g is ≡ true → ⊥) → ⊥
    go true none has later = none_some i (sym none)
    go false none has later = later none has

index_is : (dir : Dir) (g : ℕ) (indexes : List Index) (i : Index) → AreIndexes dir indexes → of_group g indexes ≡ Some i → IsIndexFile g (dir (index_name g)) i.entries
index_is dir g [] i all found = absurd (none_some i found)
index_is dir g (j ∷ js) i all found = go (j.group == g) refl found (index_is dir g js i all.1)
  where
    go : (t : Bool) → (j.group == g) ≡ t → cond t (Some j) (of_group g js) ≡ Some i → (of_group g js ≡ Some i → IsIndexFile g (dir (index_name g)) i.entries) → IsIndexFile g (dir (index_name g)) i.entries
    go true same is later =
        subst (λ (x : Index). IsIndexFile g (dir (index_name g)) x.entries) (one_some j i is) (subst (λ (h : ℕ). IsIndexFile h (dir (index_name h)) j.entries) (eqb-true j.group g same) all.0)
    go false other is later = later is

pub among_some : (dir : Dir) (n : ℕ) (indexes : List Index) (i : Index) (es : List Entry) (o : Option (Bor Entry)) → AreIndexes dir indexes → Some i ≡ of_group (n / 100) indexes → es ≡ i.entries → option_copied o ≡ entry_at n es
    → IfSome o (λ e. IsEntryByFiles dir n e.now)
among_some dir n indexes i es None all found is there = tt
among_some dir n indexes i es (Some e) all found is there = (i.entries, index_is dir (n / 100) indexes i all (sym found), sym (there ∙ ap (entry_at n) is))

pub among_none : (dir : Dir) (n : ℕ) (indexes : List Index) (i : Index) (es : List Entry) (o : Option (Bor Entry)) → AreIndexes dir indexes → Some i ≡ of_group (n / 100) indexes → es ≡ i.entries → option_copied o ≡ entry_at n es
    → IfNone o (HasNoEntry dir n)
among_none dir n indexes i es (Some e) all found is there = tt
among_none dir n indexes i es None all found is there = (i.entries, index_is dir (n / 100) indexes i all (sym found), sym (there ∙ ap (entry_at n) is))

pub among_named : (n : ℕ) (es : List Entry) (o : Option (Bor Entry)) → option_copied o ≡ entry_at n es → IfSome o (λ e. e.now.number ≡ n)
among_named n es None there = tt
among_named n es (Some e) there = entry_named n es e.now (sym there)

pub among_absent : (dir : Dir) (n : ℕ) (indexes : List Index) → None ≡ of_group (n / 100) indexes → has_group (n / 100) indexes ≡ true → HasNoEntry dir n
among_absent dir n indexes none has = absurd (no_group_none (n / 100) indexes (sym none) has)

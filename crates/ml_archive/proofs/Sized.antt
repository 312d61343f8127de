-- The entries of all groups, one after another, each with a post of its size.
use Rattle.std.proofs.Common.{◌≡◌, ◌≢◌, ◌<◌, ◌≤◌, ◌+◌, ◌/◌, ℕ, zero, suc, cond, ◌==◌, List, [], ◌∷◌, ◌++◌, length, map, filter, refl, sym, ap, ◌∙◌, subst, arith, append-nil, length-append, ◌⊎◌, inl, inr}
use Rattle.std.specs.List.{AllByRecursion, IsAmong, range_with_len}
use Rattle.std.proofs.lemmas.Bool.{cases_lt, eq-eqb, ne_eqb}
use Rattle.std.proofs.lemmas.List.Elements.{filter-append}
use Rattle.ml_base.specs.Dir.{Dir}
use Rattle.ml_base.specs.declared.names.Name.{Name}
use Rattle.ml_filing.specs.Answers.{IsOtherSize}
use Rattle.ml_filing.specs.Archive.{IsEntry, IsIndexFile, index_name}
use Rattle.ml_filing.specs.declared.posts.Entry.{Entry}
use Rattle.ml_archive.specs.Breaks.{IsBadGroup}
use Rattle.ml_archive.specs.Counted.{first_of}
use Rattle.ml_filing.proofs.Exact.{index_one}
use Rattle.ml_archive.specs.Found.{AreEntries, AreNumbered, AreWhole, HasWhole, HaveSizes, IsWhole, LacksSize}

-- the entries of an index have the numbers of its group
pub index_numbered : (k : ℕ) (es : List Entry) → AllByRecursion IsEntry es → map (λ (e : Entry). e.number) es ≡ range_with_len k (length es) → AreNumbered k es
index_numbered k [] all is = tt
index_numbered k (e ∷ es) all is = (ap first is, all.0, index_numbered (k + 1) es all.1 (ap rest is))
  where
    first : List ℕ → ℕ
    first [] = 0
    first (n ∷ ns) = n

    rest : List ℕ → List ℕ
    rest [] = []
    rest (n ∷ ns) = ns

pub lacks_among : (dir : Dir) (k : ℕ) (es : List Entry) → AreNumbered k es → LacksSize dir k es → (e : Entry) × IsAmong es e × IsOtherSize dir e.number e.size
lacks_among dir k [] is lacks = absurd lacks
lacks_among dir k (e ∷ es) is (inl other) = (e, (0, (omega arith, refl)), subst (λ (n : ℕ). IsOtherSize dir n e.size) (sym is.0) other)
lacks_among dir k (e ∷ es) is (inr later) = later_on (lacks_among dir (k + 1) es is.2 later)
  where
    later_on : ((f : Entry) × IsAmong es f × IsOtherSize dir f.number f.size) → (f : Entry) × IsAmong (e ∷ es) f × IsOtherSize dir f.number f.size
    later_on (f, (i, (less, at)), other) = (f, (suc i, (omega (arith, less), at)), other)

numbered_on : (k m : ℕ) (es new : List Entry) → m ≡ k + length es → AreNumbered k es → AreNumbered m new → AreNumbered k (es ++ new)
numbered_on k m [] new e one two = let same : m ≡ k = omega (arith, e) in subst (λ (n : ℕ). AreNumbered n new) same two
numbered_on k m (x ∷ xs) new e one two = (one.0, one.1, numbered_on (k + 1) m xs new (omega (arith, e)) one.2 two)

sizes_on : (dir : Dir) (k m : ℕ) (es new : List Entry) → m ≡ k + length es → HaveSizes dir k es → HaveSizes dir m new → HaveSizes dir k (es ++ new)
sizes_on dir k m [] new e one two = let same : m ≡ k = omega (arith, e) in subst (λ (n : ℕ). HaveSizes dir n new) same two
sizes_on dir k m (x ∷ xs) new e one two = (one.0, sizes_on dir (k + 1) m xs new (omega (arith, e)) one.1 two)

abbrev in_group : ℕ → List Entry → List Entry
in_group g es = filter (λ (e : Entry). (e.number / 100) == g) es

-- which entries of a row are of a group, by their numbers
none_of : (g k : ℕ) (es : List Entry) → AreNumbered k es → ((n : ℕ) → k ≤ n → n < k + length es → n / 100 ≢ g) → in_group g es ≡ []
none_of g k [] is out = refl
none_of g k (e ∷ es) is out =
    let number = is.0 in
    ap (λ t. cond t (e ∷ in_group g es) (in_group g es)) (ne_eqb (e.number / 100) g (λ same. out k (omega arith) (omega arith) (ap (λ (n : ℕ). n / 100) (sym number) ∙ same)))
    ∙ none_of g (k + 1) es is.2 (λ n low high. out n (omega (arith, low)) (omega (arith, high)))

all_of : (g k : ℕ) (es : List Entry) → AreNumbered k es → ((n : ℕ) → k ≤ n → n < k + length es → n / 100 ≡ g) → in_group g es ≡ es
all_of g k [] is here = refl
all_of g k (e ∷ es) is here =
    ap (λ t. cond t (e ∷ in_group g es) (in_group g es)) (eq-eqb (e.number / 100) g (ap (λ (n : ℕ). n / 100) is.0 ∙ here k (omega arith) (omega arith)))
    ∙ ap (λ (t : List Entry). e ∷ t) (all_of g (k + 1) es is.2 (λ n low high. here n (omega (arith, low)) (omega (arith, high))))

pub no_entries : (dir : Dir) (count : ℕ) → AreEntries dir count 0 []
no_entries dir count = record {
  numbered = tt;
  sizes = tt;
  long = omega arith;
  indexes = λ h less. absurd (omega (arith, less));
}

module _ (dir : Dir) (count g : ℕ) (es new : List Entry) (there : first_of g ≤ count) (before : AreEntries dir count g es) (whole : IsWhole dir count g new) where
  pub begins : first_of g ≡ 1 + length es
  begins = let long = before.long in omega (arith, long, there)

  numbers : AreNumbered (first_of g) new
  numbers = index_numbered (first_of g) new (whole.index).each (whole.index).numbered

  in_new : (n : ℕ) → first_of g ≤ n → n < first_of g + length new → n / 100 ≡ g
  in_new n low high = let all = whole.all in omega (arith, low, high, all, there)

  in_old : (n : ℕ) → 1 ≤ n → n < 1 + length es → n / 100 < g
  in_old n low high = let first = begins in omega (arith, low, high, first)

  pub more_entries : AreEntries dir count (g + 1) (es ++ new)
  more_entries = record {
    numbered = numbered_on 1 (first_of g) es new begins before.numbered numbers;
    sizes = sizes_on dir 1 (first_of g) es new begins before.sizes whole.sizes;
    long = let size = length-append es new in let all = whole.all in let first = begins in omega (arith, size, all, first, there);
    indexes = λ h less. subst (λ (t : List Entry). IsIndexFile h (dir (index_name h)) t) (sym (filter-append (λ (e : Entry). (e.number / 100) == h) es new)) (go h (cases_lt h g) less);
  }
    where
      go : (h : ℕ) → ((h < g) ⊎ (g ≤ h)) → h < g + 1 → IsIndexFile h (dir (index_name h)) (in_group h es ++ in_group h new)
      go h (inl below) less =
          subst (λ (t : List Entry). IsIndexFile h (dir (index_name h)) (in_group h es ++ t)) (sym (none_of h (first_of g) new numbers (λ n low high e. let own = in_new n low high in omega (arith, own, e, below))))
          (subst (λ (t : List Entry). IsIndexFile h (dir (index_name h)) t) (sym (append-nil (in_group h es))) (before.indexes h below))
      go h (inr up) less =
          let same : h ≡ g = omega (arith, up, less) in
          subst (λ (t : List Entry). IsIndexFile h (dir (index_name h)) (t ++ in_group h new)) (sym (none_of h 1 es before.numbered (λ n low high e. let own = in_old n low high in omega (arith, own, e, up))))
          (subst (λ (t : List Entry). IsIndexFile h (dir (index_name h)) t) (sym (all_of h (first_of g) new numbers (λ n low high. in_new n low high ∙ sym same)))
          (subst (λ (j : ℕ). IsIndexFile j (dir (index_name j)) new) (sym same) whole.index))

-- the entries of all groups below a given one
pub all_entries : (dir : Dir) (count g : ℕ) → ((h : ℕ) → h < g → first_of h ≤ count) → AreWhole dir count g → (es : List Entry) × AreEntries dir count g es
all_entries dir count zero there whole = ([], no_entries dir count)
all_entries dir count (suc g) there whole =
    let before = all_entries dir count g (λ h less. there h (omega (arith, less))) (λ h less. whole h (omega (arith, less))) in
    let here = whole g (omega arith) in
    let next : g + 1 ≡ suc g = omega arith in
    (before.0 ++ here.0, subst (λ (n : ℕ). AreEntries dir count n (before.0 ++ here.0)) next (more_entries dir count g before.0 here.0 (there g (omega arith)) before.1 here.1))

-- an index that has been read is that of its whole group
pub whole_read : (dir : Dir) (count g : ℕ) (es : List Entry) → HasWhole dir count g → IsIndexFile g (dir (index_name g)) es → IsWhole dir count g es
whole_read dir count g es (entries, whole) index = subst (λ (t : List Entry). IsWhole dir count g t) (index_one g (dir (index_name g)) entries es whole.index index) whole

-- and if an entry gives another size than its post has, that index is damaged
pub sizes_bad : (dir : Dir) (count g : ℕ) (name : Name) (es entries : List Entry) → name ≡ index_name g → IsIndexFile g (dir (index_name g)) es → entries ≡ es → LacksSize dir (first_of g) entries → IsBadGroup dir count g name
sizes_bad dir count g name es entries named index same lacks =
    inr (named, inr (es, index, lacks_among dir (first_of g) es (index_numbered (first_of g) es index.each index.numbered) (subst (λ (t : List Entry). LacksSize dir (first_of g) t) same lacks)))

-- An entry above the number of posts is only in the group of the last one, and never in an archive.
use Rattle.std.proofs.Common.{◌≡◌, ◌∙◌, ◌+◌, ◌-◌, ◌*◌, ◌/◌, ◌<◌, ◌≤◌, inl, inr, ⊎_elim, max, ℕ, suc, Bool, true, false, cond, nat_lt, ◌||◌, Option, List, [], ◌∷◌, length, map, drop, get_or, refl, sym, ap, ap₂, subst, arith}
use Rattle.std.proofs.lemmas.Bool.{false≢true, leb-true, lt-leb, or_cases}
use Rattle.std.specs.List.{enumerate_from, filter, range_with_len}
use Rattle.ml_base.specs.Bytes.{Text}
use Rattle.ml_base.specs.Dir.{Dir}
use Rattle.ml_filing.specs.Answers.{HasOtherCount, IsIndexByFiles}
use Rattle.ml_filing.specs.Archive.{ArePosts, IsIndexFile, IsNumberFile, index_name, number_name}
use Rattle.ml_filing.specs.Posts.{entry}
use Rattle.ml_filing.specs.declared.posts.Entry.{Entry}
use Rattle.ml_filing.specs.declared.posts.Post.{Post}
use Rattle.ml_filing.proofs.Exact.{count_one, index_one}
use Rattle.ml_filing.proofs.Looking.{counted_is, indexed_is}
use Rattle.ml_digest.specs.Due.{IsMark, mark_name}
use Rattle.ml_digest.specs.declared.posts.Mark.{Mark}
use Rattle.ml_digest.proofs.Marks.{mark_one}
use Rattle.ml_acts.specs.Asked.{IsTooSmall, has_above}
use Rattle.ml_acts.specs.Damaged.{IsDamaged}
use Rattle.ml_acts.specs.Damaged as damage
use Rattle.ml_timed.specs.Digesting.{AgreesIfRead}
use Rattle.ml_timed.proofs.After.{in_group}

-- if one of the entries from a number on is above another number, they go beyond that
goes_beyond : (n k : ℕ) (es : List Entry) → map (λ (e : Entry). e.number) es ≡ range_with_len k (length es) → has_above n es ≡ true → n + 1 < k + length es
goes_beyond n k [] numbers above = absurd (false≢true above)
goes_beyond n k (e ∷ es) numbers above =
    let here : e.number ≡ k = ap (λ (ns : List ℕ). get_or ns 0 0) numbers in
    let rest : map (λ (e : Entry). e.number) es ≡ range_with_len (k + 1) (length es) = ap (λ (ns : List ℕ). drop 1 ns) numbers in
    ⊎_elim (λ this. let high = leb-true (suc n) e.number this in omega (arith, high, here)) (λ later. let more = goes_beyond n (k + 1) es rest later in omega (arith, more)) (or_cases (nat_lt n e.number) (has_above n es) above)

-- those of the posts of an archive are not above their number
none_above : (n g k : ℕ) (posts : List Post) → k + length posts ≤ n + 1 → has_above n (map entry (filter (in_group g) (enumerate_from k posts))) ≡ false
none_above n g k [] le = refl
none_above n g k (p ∷ ps) le = go (in_group g (k, p)) (none_above n g (k + 1) ps (omega (arith, le)))
  where
    go : (t : Bool) → has_above n (map entry (filter (in_group g) (enumerate_from (k + 1) ps))) ≡ false
        → has_above n (map entry (cond t ((k, p) ∷ filter (in_group g) (enumerate_from (k + 1) ps)) (filter (in_group g) (enumerate_from (k + 1) ps)))) ≡ false
    go true more = ap₂ (λ a b. a || b) (lt-leb (suc n) k (omega (arith, le))) more
    go false more = more

-- a group of which an index has an entry above the number of posts is the last one's, and the next one's
record IsLast (g count : ℕ) : Type 0 where
  pub last : g ≡ count / 100
  pub next : g ≡ (count + 1) / 100

last_group : (g count : ℕ) (es : List Entry) → g ≤ count / 100 → map (λ (e : Entry). e.number) es ≡ range_with_len (max 1 (100 * g)) (length es) → length es ≤ 100 * g + 100 - max 1 (100 * g) → has_above count es ≡ true → IsLast g count
last_group g count es low numbers few above =
    let beyond = goes_beyond count (max 1 (100 * g)) es numbers above in
    record { last = omega (arith, low, few, beyond); next = omega (arith, low, few, beyond) }

-- the index that a group's call answered
pub index_there : (dir : Dir) (g : ℕ) (es : List Entry) → g < 1_000_000 → IsIndexByFiles dir g es → IsIndexFile g (dir (index_name g)) es
index_there dir g es less (inl file) = file.1
index_there dir g es less (inr none) = let far = none.0 in absurd (omega (arith, less, far))

-- so the number of posts is too small, and damaged for one post more
module _ (dir : Dir) (g count : ℕ) (es : List Entry) (low : g ≤ count / 100) (counted : IsNumberFile (dir number_name) count) (index : IsIndexFile g (dir (index_name g)) es) (above : has_above count es ≡ true) where
  there : IsLast g count
  there = last_group g count es low index.numbered index.few above

  pub too_small : IsTooSmall dir
  too_small = (count, counted, es, subst (λ (k : ℕ). IsIndexFile k (dir (index_name k)) es) there.last index, above)

  other : HasOtherCount dir (count + 1)
  other =
      let beyond = goes_beyond count (max 1 (100 * g)) es index.numbered above in
      let next = there.next in
      (es, subst (λ (k : ℕ). IsIndexFile k (dir (index_name k)) es) next index, λ same. let here = subst (λ (k : ℕ). length es + max 1 (100 * k) ≡ count + 1) (sym next) same in omega (arith, here, beyond))

  pub no_posts : (posts : List Post) → ArePosts dir posts → ⊥
  no_posts posts are =
      let all = counted_is dir posts are count counted in
      let fits = counted.few in
      let one = indexed_is dir posts are g es (omega (arith, low, fits)) index in
      false≢true (sym (none_above count g 1 posts (omega (arith, all))) ∙ ap (has_above count) (sym one) ∙ above)

  pub small_damaged : IsDamaged dir number_name
  small_damaged = damage.append (inl (refl, inr (count, counted, other))) (λ prefix posts is. no_posts posts is.filed)

-- if no entry of its group is above it, it isn't
pub none_small : (dir : Dir) (g count : ℕ) (es : List Entry) → IsNumberFile (dir number_name) count → IsIndexFile g (dir (index_name g)) es → has_above count es ≡ false → g ≡ count / 100 → ¬ IsTooSmall dir
none_small dir g count es counted index none last (n, other, fs, there, above) =
    let same = count_one (dir number_name) n count other counted in
    let place : n / 100 ≡ g = ap (λ (k : ℕ). k / 100) same ∙ sym last in
    let file = subst (λ (k : ℕ). IsIndexFile k (dir (index_name k)) fs) place there in
    let one = index_one g (dir (index_name g)) fs es file index in
    false≢true (sym none ∙ ap (has_above count) (sym one) ∙ subst (λ (k : ℕ). has_above k fs ≡ true) same above)

-- by what is read of it and of the mark
pub agrees_by : (dir : Dir) (mark : Mark) (count : ℕ) → IsMark dir mark → IsNumberFile (dir number_name) count → (mark.last < count → count / 100 ≤ (mark.last + 1) / 100 + 1 → ¬ IsTooSmall dir) → AgreesIfRead dir
agrees_by dir mark count marked counted agrees m n is other some near =
    let one = mark_one dir m mark is marked in
    let same = count_one (dir number_name) n count other counted in
    let last = ap (λ (k : Mark). k.last) one in
    agrees (omega (arith, some, last, same)) (omega (arith, near, last, same))

-- the same on other files in which these are the same
pub agrees_same : (dir later : Dir) → later mark_name ≡ dir mark_name → later number_name ≡ dir number_name → ((g : ℕ) → later (index_name g) ≡ dir (index_name g)) → AgreesIfRead later → AgreesIfRead dir
agrees_same dir later mark number index agrees m n is counted some near small =
    agrees m n (record { last = is.last; issue = is.issue; text = mark ∙ is.text }) (subst (λ (f : Option Text). IsNumberFile f n) (sym number) counted) some near
    (go small)
  where
    go : IsTooSmall dir → IsTooSmall later
    go (k, is, es, there, above) = (k, subst (λ (f : Option Text). IsNumberFile f k) (sym number) is, es, subst (λ (f : Option Text). IsIndexFile (k / 100) f es) (sym (index (k / 100))) there, above)

-- The posts after a number, by the indexes of two groups.
use Rattle.std.proofs.Common.{◌≡◌, ◌≢◌, ℕ, zero, suc, ◌+◌, ◌-◌, ◌*◌, ◌/◌, ◌<◌, ◌≤◌, Bool, true, false, ◌==◌, nat_lt, cond, List, [], ◌∷◌, ◌++◌, length, map, take, drop, Some, refl, sym, ap, ap₂, ◌∙◌, arith}
use Rattle.std.proofs.Math.Seq.{take-add, take-nil, drop-nil}
use Rattle.std.proofs.lemmas.Bool.{eq-eqb, ne_eqb, le-leb, leb-true, leb-false}
use Rattle.std.proofs.lemmas.List.{take-map, drop-map}
use Rattle.std.specs.List.{enumerate_from, filter, find}
use Rattle.std.specs.Option.{option_map_or}
use Rattle.ml_filing.specs.Posts.{Numbered, entry, group, index_of, numbered}
use Rattle.ml_filing.specs.declared.posts.Entry.{Entry}
use Rattle.ml_filing.specs.declared.posts.Post.{Post}
use Rattle.ml_plain.specs.Timing.{moment_of_first}
use Rattle.ml_timed.specs.Waiting.{moment_after, sizes_after}

abbrev pub in_group : ℕ → Numbered → Bool
in_group g e = (e.0 / 100) == g

abbrev after : ℕ → Numbered → Bool
after last e = nat_lt last e.0

abbrev bytes_of : Post → ℕ
bytes_of post = length post.bytes

-- the posts of a group, of posts whose numbers begin in it
group_from : (g k : ℕ) (ys : List Post) → 100 * g ≤ k → filter (in_group g) (enumerate_from k ys) ≡ enumerate_from k (take ((100 * g + 100) - k) ys)
group_from g k [] low = sym (ap (enumerate_from k) (take-nil ((100 * g + 100) - k)))
group_from g k (y ∷ ys) low = go (group_from g (k + 1) ys (omega (arith, low))) (nat_lt k (100 * g + 100)) refl
  where
    go : filter (in_group g) (enumerate_from (k + 1) ys) ≡ enumerate_from (k + 1) (take ((100 * g + 100) - (k + 1)) ys) → (t : Bool) → nat_lt k (100 * g + 100) ≡ t
        → filter (in_group g) (enumerate_from k (y ∷ ys)) ≡ enumerate_from k (take ((100 * g + 100) - k) (y ∷ ys))
    go more true t =
        let up : k + 1 ≤ 100 * g + 100 = (let h = leb-true (suc k) (100 * g + 100) t in omega (arith, h)) in
        let here : k / 100 ≡ g = omega (arith, low, up) in
        let one : (100 * g + 100) - k ≡ suc ((100 * g + 100) - (k + 1)) = omega (arith, up) in
        ap (λ b. cond b ((k, y) ∷ filter (in_group g) (enumerate_from (k + 1) ys)) (filter (in_group g) (enumerate_from (k + 1) ys))) (eq-eqb (k / 100) g here)
        ∙ ap (λ r. (k, y) ∷ r) more ∙ sym (ap (λ n. enumerate_from k (take n (y ∷ ys))) one)
    go more false f =
        let past : 100 * g + 100 ≤ k = let h = leb-false (suc k) (100 * g + 100) f in omega (arith, h) in
        let apart : k / 100 ≢ g = λ e. omega (arith, past, e) in
        let none : (100 * g + 100) - k ≡ 0 = omega (arith, past) in
        let none_more : (100 * g + 100) - (k + 1) ≡ 0 = omega (arith, past) in
        ap (λ b. cond b ((k, y) ∷ filter (in_group g) (enumerate_from (k + 1) ys)) (filter (in_group g) (enumerate_from (k + 1) ys))) (ne_eqb (k / 100) g apart)
        ∙ more ∙ ap (λ n. enumerate_from (k + 1) (take n ys)) none_more ∙ sym (ap (λ n. enumerate_from k (take n (y ∷ ys))) none)

-- or before it
group_past : (g k : ℕ) (ys : List Post) → k ≤ 100 * g → filter (in_group g) (enumerate_from k ys) ≡ enumerate_from (100 * g) (take 100 (drop (100 * g - k) ys))
group_past g k [] low = sym (ap (λ (t : List Post). enumerate_from (100 * g) t) (ap (take 100) (drop-nil (100 * g - k))))
group_past g k (y ∷ ys) low = go (λ up. group_past g (k + 1) ys up) (nat_lt k (100 * g)) refl
  where
    go : (k + 1 ≤ 100 * g → filter (in_group g) (enumerate_from (k + 1) ys) ≡ enumerate_from (100 * g) (take 100 (drop (100 * g - (k + 1)) ys))) → (t : Bool) → nat_lt k (100 * g) ≡ t
        → filter (in_group g) (enumerate_from k (y ∷ ys)) ≡ enumerate_from (100 * g) (take 100 (drop (100 * g - k) (y ∷ ys)))
    go more true t =
        let up : k + 1 ≤ 100 * g = (let h = leb-true (suc k) (100 * g) t in omega (arith, h)) in
        let apart : k / 100 ≢ g = λ e. omega (arith, up, e) in
        let one : 100 * g - k ≡ suc (100 * g - (k + 1)) = omega (arith, up) in
        ap (λ b. cond b ((k, y) ∷ filter (in_group g) (enumerate_from (k + 1) ys)) (filter (in_group g) (enumerate_from (k + 1) ys))) (ne_eqb (k / 100) g apart)
        ∙ more up ∙ sym (ap (λ n. enumerate_from (100 * g) (take 100 (drop n (y ∷ ys)))) one)
    go more false f =
        let here : k ≡ 100 * g = let h = leb-false (suc k) (100 * g) f in omega (arith, h, low) in
        let none : 100 * g - k ≡ 0 = omega (arith, here) in
        let all : (100 * g + 100) - k ≡ 100 = omega (arith, here) in
        group_from g k (y ∷ ys) (omega (arith, here)) ∙ ap₂ (λ (n a : ℕ). enumerate_from a (take n (y ∷ ys))) all here ∙ sym (ap (λ n. enumerate_from (100 * g) (take 100 (drop n (y ∷ ys)))) none)

-- all come after a number that is below the first
all_after : (last k : ℕ) (ys : List Post) → last < k → filter (after last) (enumerate_from k ys) ≡ enumerate_from k ys
all_after last k [] up = refl
all_after last k (y ∷ ys) up = ap₂ (λ b r. cond b ((k, y) ∷ r) r) (le-leb (suc last) k (omega (arith, up))) (all_after last (k + 1) ys (omega (arith, up)))

-- those after a number
those_after : (last k : ℕ) (ys : List Post) → k ≤ last + 1 → filter (after last) (enumerate_from k ys) ≡ enumerate_from (last + 1) (drop ((last + 1) - k) ys)
those_after last k [] low = sym (ap (λ (t : List Post). enumerate_from (last + 1) t) (drop-nil ((last + 1) - k)))
those_after last k (y ∷ ys) low = go (λ up. those_after last (k + 1) ys up) (nat_lt last k) refl
  where
    go : (k + 1 ≤ last + 1 → filter (after last) (enumerate_from (k + 1) ys) ≡ enumerate_from (last + 1) (drop ((last + 1) - (k + 1)) ys)) → (t : Bool) → nat_lt last k ≡ t
        → filter (after last) (enumerate_from k (y ∷ ys)) ≡ enumerate_from (last + 1) (drop ((last + 1) - k) (y ∷ ys))
    go more true t =
        let here : k ≡ last + 1 = let h = leb-true (suc last) k t in omega (arith, h, low) in
        let none : (last + 1) - k ≡ 0 = omega (arith, here) in
        all_after last k (y ∷ ys) (omega (arith, here)) ∙ ap (λ n. enumerate_from n (y ∷ ys)) here ∙ sym (ap (λ n. enumerate_from (last + 1) (drop n (y ∷ ys))) none)
    go more false f =
        let up : k ≤ last = let h = leb-false (suc last) k f in omega (arith, h) in
        let one : (last + 1) - k ≡ suc ((last + 1) - (k + 1)) = omega (arith, up) in
        ap (λ b. cond b ((k, y) ∷ filter (after last) (enumerate_from (k + 1) ys)) (filter (after last) (enumerate_from (k + 1) ys))) f
        ∙ more (omega (arith, up)) ∙ sym (ap (λ n. enumerate_from (last + 1) (drop n (y ∷ ys))) one)

filter_turned : {A : Type 0} (p q : A → Bool) (xs : List A) → filter p (filter q xs) ≡ filter q (filter p xs)
filter_turned p q [] = refl
filter_turned p q (x ∷ xs) = go (filter_turned p q xs) (p x) (q x) refl refl
  where
    go : filter p (filter q xs) ≡ filter q (filter p xs) → (s t : Bool) → p x ≡ s → q x ≡ t → filter p (cond (q x) (x ∷ filter q xs) (filter q xs)) ≡ filter q (cond (p x) (x ∷ filter p xs) (filter p xs))
    go more true true e f =
        ap (λ b. filter p (cond b (x ∷ filter q xs) (filter q xs))) f ∙ ap (λ b. cond b (x ∷ filter p (filter q xs)) (filter p (filter q xs))) e ∙ ap (λ t. x ∷ t) more
        ∙ sym (ap (λ b. filter q (cond b (x ∷ filter p xs) (filter p xs))) e ∙ ap (λ b. cond b (x ∷ filter q (filter p xs)) (filter q (filter p xs))) f)
    go more true false e f =
        ap (λ b. filter p (cond b (x ∷ filter q xs) (filter q xs))) f ∙ more
        ∙ sym (ap (λ b. filter q (cond b (x ∷ filter p xs) (filter p xs))) e ∙ ap (λ b. cond b (x ∷ filter q (filter p xs)) (filter q (filter p xs))) f)
    go more false true e f =
        ap (λ b. filter p (cond b (x ∷ filter q xs) (filter q xs))) f ∙ ap (λ b. cond b (x ∷ filter p (filter q xs)) (filter p (filter q xs))) e ∙ more
        ∙ sym (ap (λ b. filter q (cond b (x ∷ filter p xs) (filter p xs))) e)
    go more false false e f = ap (λ b. filter p (cond b (x ∷ filter q xs) (filter q xs))) f ∙ more ∙ sym (ap (λ b. filter q (cond b (x ∷ filter p xs) (filter p xs))) e)

filter_map : {A B : Type 0} (f : A → B) (p : B → Bool) (xs : List A) → filter p (map f xs) ≡ map f (filter (λ x. p (f x)) xs)
filter_map f p [] = refl
filter_map f p (x ∷ xs) = go (p (f x)) (filter_map f p xs)
  where
    go : (t : Bool) → filter p (map f xs) ≡ map f (filter (λ x. p (f x)) xs) → cond t (f x ∷ filter p (map f xs)) (filter p (map f xs)) ≡ map f (cond t (x ∷ filter (λ x. p (f x)) xs) (filter (λ x. p (f x)) xs))
    go true more = ap (λ t. f x ∷ t) more
    go false more = more

-- the entries of a group after a number are those of the group among the posts after it
entries_after : (last g : ℕ) (posts : List Post) → filter (λ (e : Entry). nat_lt last e.number) (index_of g posts) ≡ map entry (filter (in_group g) (enumerate_from (last + 1) (drop last posts)))
entries_after last g posts =
    let one : (last + 1) - 1 ≡ last = omega arith in
    filter_map entry (λ (e : Entry). nat_lt last e.number) (group g posts)
    ∙ ap (map entry) (filter_turned (after last) (in_group g) (numbered posts) ∙ ap (filter (in_group g)) (those_after last 1 posts (omega arith) ∙ ap (λ n. enumerate_from (last + 1) (drop n posts)) one))

sizes_are : (k : ℕ) (ys : List Post) → map (λ (e : Entry). e.size) (map entry (enumerate_from k ys)) ≡ map bytes_of ys
sizes_are k [] = refl
sizes_are k (y ∷ ys) = ap (λ t. length y.bytes ∷ t) (sizes_are (k + 1) ys)

-- in the group of the first of them
sizes_first : (last g : ℕ) (posts : List Post) → g ≡ (last + 1) / 100 → sizes_after last (index_of g posts) ≡ take ((100 * g + 100) - (last + 1)) (map bytes_of (drop last posts))
sizes_first last g posts e =
    let few = (100 * g + 100) - (last + 1) in
    ap (map (λ (e : Entry). e.size)) (entries_after last g posts ∙ ap (map entry) (group_from g (last + 1) (drop last posts) (omega (arith, e))))
    ∙ sizes_are (last + 1) (take few (drop last posts)) ∙ sym (take-map bytes_of few (drop last posts))

-- and in the one after it
sizes_second : (last g : ℕ) (posts : List Post) → g ≡ (last + 1) / 100 + 1 → sizes_after last (index_of g posts) ≡ take 100 (drop (100 * g - (last + 1)) (map bytes_of (drop last posts)))
sizes_second last g posts e =
    let few = 100 * g - (last + 1) in
    ap (map (λ (e : Entry). e.size)) (entries_after last g posts ∙ ap (map entry) (group_past g (last + 1) (drop last posts) (omega (arith, e))))
    ∙ sizes_are (100 * g) (take 100 (drop few (drop last posts))) ∙ sym (take-map bytes_of 100 (drop few (drop last posts))) ∙ ap (take 100) (sym (drop-map bytes_of few (drop last posts)))

pub front_of_front : {A : Type 0} (n m : ℕ) (xs : List A) → n ≤ m → take n (take m xs) ≡ take n xs
front_of_front zero m xs low = refl
front_of_front (suc n) zero xs low = absurd (omega (arith, low))
front_of_front (suc n) (suc m) [] low = refl
front_of_front (suc n) (suc m) (x ∷ xs) low = ap (λ t. x ∷ t) (front_of_front n m xs (omega (arith, low)))

-- both together have the first hundred
pub sizes_of_both : (last g : ℕ) (posts : List Post) (sizes : List ℕ) → g ≡ (last + 1) / 100 → sizes ≡ sizes_after last (index_of g posts) ++ sizes_after last (index_of (g + 1) posts)
    → take 100 sizes ≡ take 100 (map bytes_of (drop last posts))
sizes_of_both last g posts sizes e is =
    let few = (100 * g + 100) - (last + 1) in
    let all = map bytes_of (drop last posts) in
    let same : 100 * (g + 1) - (last + 1) ≡ few = omega arith in
    ap (take 100) (
    is ∙ ap₂ (λ (a b : List ℕ). a ++ b) (sizes_first last g posts e) (sizes_second last (g + 1) posts (omega (arith, e)) ∙ ap (λ n. take 100 (drop n all)) same) ∙ sym (take-add few 100 all)
    )
    ∙ front_of_front 100 (few + 100) all (omega arith)

-- the first that passes a test
head_moment : List Entry → ℕ
head_moment [] = 0
head_moment (e ∷ es) = e.moment

found_first : (p : Entry → Bool) (es : List Entry) → option_map_or (λ (e : Entry). e.moment) (find p es) 0 ≡ head_moment (filter p es)
unfolding head_moment
found_first p [] = refl
found_first p (e ∷ es) = go (p e) (found_first p es)
  where
    go : (t : Bool) → option_map_or (λ (e : Entry). e.moment) (find p es) 0 ≡ head_moment (filter p es) → option_map_or (λ (e : Entry). e.moment) (cond t (Some e) (find p es)) 0 ≡ head_moment (cond t (e ∷ filter p es) (filter p es))
    go true more = refl
    go false more = more

head_is : (k n : ℕ) (ys : List Post) → head_moment (map entry (enumerate_from k (take (suc n) ys))) ≡ moment_of_first ys
unfolding head_moment
head_is k n [] = refl
head_is k n (y ∷ ys) = refl

-- the first of them is in the first group
pub moment_in_first : (last g : ℕ) (posts : List Post) → g ≡ (last + 1) / 100 → moment_after last (index_of g posts) ≡ moment_of_first (drop last posts)
moment_in_first last g posts e =
    let few = (100 * g + 100) - (last + 1) in
    let some : few ≡ suc (few - 1) = omega (arith, e) in
    found_first (λ (e : Entry). nat_lt last e.number) (index_of g posts)
    ∙ ap head_moment (entries_after last g posts ∙ ap (map entry) (group_from g (last + 1) (drop last posts) (omega (arith, e)) ∙ ap (λ n. enumerate_from (last + 1) (take n (drop last posts))) some))
    ∙ head_is (last + 1) (few - 1) (drop last posts)

-- no post is in a group after that of the last one
none_in : (g k : ℕ) (posts : List Post) → k + length posts ≤ 100 * g → filter (in_group g) (enumerate_from k posts) ≡ []
none_in g k [] le = refl
none_in g k (p ∷ ps) le =
    let apart : k / 100 ≢ g = λ e. omega (arith, le, e) in
    ap (λ t. cond t ((k, p) ∷ filter (in_group g) (enumerate_from (k + 1) ps)) (filter (in_group g) (enumerate_from (k + 1) ps))) (ne_eqb (k / 100) g apart) ∙ none_in g (k + 1) ps (omega (arith, le))

pub no_group : (g count : ℕ) (posts : List Post) → count ≡ length posts → count / 100 < g → [] ≡ index_of g posts
no_group g count posts e high = sym (ap (map entry) (none_in g 1 posts (omega (arith, e, high))))

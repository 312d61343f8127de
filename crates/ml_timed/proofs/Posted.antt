-- The posts of a digest, one after another, and which files are read for them.
use Rattle.std.proofs.Common.{◌≡◌, inl, inr, ⊎_elim, ◌≤◌, ◌+◌, ◌-◌, ◌/◌, ℕ, zero, suc, true, List, [], ◌∷◌, ◌++◌, map, take, drop, Option, Some, None, refl, sym, ap, ap₂, ◌∙◌, subst, arith}
use Rattle.std.specs.Prelude.{slice_get}
use Rattle.std.proofs.lemmas.Bool.{or_right}
use Rattle.ml_base.specs.Dir.{Dir, same_name}
use Rattle.ml_base.specs.declared.names.Name.{Name}
use Rattle.ml_filing.specs.Answers.{IsPostByFiles, IsPostName}
use Rattle.ml_filing.specs.Archive.{IsNumberFile, number_name}
use Rattle.ml_filing.specs.Posts.{post_at}
use Rattle.ml_filing.specs.declared.posts.Post.{Post}
use Rattle.ml_filing.proofs.Exact.{count_one}
use Rattle.ml_filing.proofs.OneMore.{map_on}
use Rattle.ml_digest.specs.declared.posts.DigestPost.{DigestPost}
use Rattle.ml_plain.specs.Timing.{digest_post}
use Rattle.ml_acts.specs.Doing.{is_index}
use Rattle.ml_acts.proofs.Placed.{index_placed}
use Rattle.ml_timed.specs.Reads.{is_of_posts_told}

-- the files that are named
pub post_read : (n : ℕ) (name : Name) → IsPostName n name → is_of_posts_told name ≡ true
post_read n name (inl e) = subst (λ (a : Name). is_of_posts_told a ≡ true) (sym e) refl
post_read n name (inr is) = let few = is.0 in or_right (same_name name number_name) (is_index name) (index_placed (n / 100) name (omega (arith, few)) is.1)

taken_more : {A : Type 0} (k i : ℕ) (xs : List A) (x : A) → slice_get xs (k + i) ≡ Some x → take (suc i) (drop k xs) ≡ take i (drop k xs) ++ x ∷ []
taken_more zero i [] x e = absurd (let bad : ◌≡◌ {A = Option _} None (Some x) = e in cc)
taken_more zero zero (y ∷ ys) x e = let same : y ≡ x = one y x e in ap (λ t. t ∷ []) same
  where
    one : {A : Type 0} (a b : A) → Some a ≡ Some b → a ≡ b
    one a b e = cc
taken_more zero (suc i) (y ∷ ys) x e = let z : suc i ≡ 0 + suc i = omega arith in ap (λ t. y ∷ t) (taken_more zero i ys x (shift i ys x (ap (slice_get (y ∷ ys)) z ∙ e)))
  where
    shift : {A : Type 0} (i : ℕ) (ys : List A) (x : A) → slice_get ys i ≡ Some x → slice_get ys (0 + i) ≡ Some x
    shift i ys x e = let z : 0 + i ≡ i = omega arith in ap (slice_get ys) z ∙ e
taken_more (suc k) i [] x e = absurd (let bad : ◌≡◌ {A = Option _} None (Some x) = e in cc)
taken_more (suc k) i (y ∷ ys) x e = let z : suc (k + i) ≡ suc k + i = omega arith in taken_more k i ys x (ap (slice_get (y ∷ ys)) z ∙ e)

-- one more post
pub one_more : (posts : List Post) (first number : ℕ) (row new : List DigestPost) (found : DigestPost) → 1 ≤ first → first ≤ number → row ≡ map digest_post (take (number - first) (drop (first - 1) posts))
    → ((post : Post) × (post_at posts number ≡ Some post) × (found ≡ digest_post post)) → new ≡ row ++ found ∷ [] → new ≡ map digest_post (take ((number + 1) - first) (drop (first - 1) posts))
one_more posts first zero row new found low up before is e = absurd (omega (arith, low, up))
one_more posts first (suc n) row new found low up before is e =
    let at : n ≡ (first - 1) + (suc n - first) = omega (arith, low, up) in
    let one : suc (suc n - first) ≡ (suc n + 1) - first = omega (arith, up) in
    e ∙ ap₂ (λ (a : List DigestPost) (b : DigestPost). a ++ b ∷ []) before is.2 ∙ sym (map_on digest_post (take (suc n - first) (drop (first - 1) posts)) is.0)
    ∙ ap (map digest_post) (sym (taken_more (first - 1) (suc n - first) posts is.0 (ap (slice_get posts) (sym at) ∙ is.1)))
    ∙ ap (λ k. map digest_post (take k (drop (first - 1) posts))) one

-- a post that the number of posts counts is there
pub not_there : (dir : Dir) (n : ℕ) → IsPostByFiles dir n None → 1 ≤ n → (count : ℕ) × IsNumberFile (dir number_name) count × (n ≤ count) → ⊥
not_there dir n (other, is, out) low (count, counted, high) =
    let same = count_one (dir number_name) count other counted is in
    ⊎_elim (λ zero. omega (arith, zero, low)) (λ over. omega (arith, over, high, same)) out

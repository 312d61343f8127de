-- The mailbox of a range, by the files, is that of the list for which they stand, and then none of these files is damaged.
use Rattle.std.proofs.Common.{◌≡◌, ◌≤◌, ◌+◌, ◌-◌, ◌/◌, min, max, ℕ, ◌&&◌, List, [], ◌∷◌, length, map, slice_get, Some, refl, sym, ap, ap₂, ◌∙◌, subst, arith, inl, inr}
use Rattle.std.specs.Prelude.{nat_le}
use Rattle.std.specs.List.{AllByRecursion, AllZip, range_with_len}
use Rattle.std.proofs.lemmas.Nat.{div_below}
use Rattle.ml_base.specs.Bytes.{Text}
use Rattle.ml_base.specs.Dir.{Dir}
use Rattle.ml_base.specs.declared.names.Name.{Name}
use Rattle.ml_filing.specs.Answers.{IsBadForPost, IsPostByFiles}
use Rattle.ml_filing.specs.Archive.{ArePosts}
use Rattle.ml_filing.specs.Posts.{Numbered, entry, in_range, numbers, post_at}
use Rattle.ml_filing.specs.declared.posts.Post.{Post}
use Rattle.ml_filing.proofs.ByFiles.{IsOne, filtered_ones}
use Rattle.ml_filing.proofs.Looking.{counted_is, no_bad_count, no_bad_index, no_missing, post_found, right_size}
use Rattle.ml_mbox_questions.specs.Mailboxes.{IsBadForMailbox, IsRangeMailbox, mailbox, numbers_of, range_mailbox}
use Rattle.ml_filing.proofs.Ranged.{ranged}

one_post : (p q : Post) → Some p ≡ Some q → p ≡ q
one_post p q e = cc

own_numbers : (a b count : ℕ) (posts : List Post) → count ≡ length posts → numbers_of a b count ≡ numbers (in_range a b posts)
own_numbers a b count posts same =
    let size : min (b + 1) (1 + length posts) - max a 1 ≡ min b count + 1 - max a 1 = omega (arith, same) in
    sym (ranged a b 1 posts ∙ ap (range_with_len (max a 1)) size)

module _ (dir : Dir) (posts : List Post) (is : ArePosts dir posts) where
  -- what the files have of a post is the list's
  own : (n : ℕ) (p : Post) → IsPostByFiles dir n (Some p) → Some p ≡ post_at posts n
  own n p by = post_found dir posts is n by.0.0 (entry (n, p)) p.bytes by.0.2 by.0.3 by.0.1 by.1 by.2

  own_all : (xs : List Numbered) (ps : List Post) → AllByRecursion (IsOne posts) xs → AllZip (λ n p. IsPostByFiles dir n (Some p)) (numbers xs) ps → ps ≡ map (λ (e : Numbered). e.1) xs
  own_all [] [] ones all = refl
  own_all [] (p ∷ ps) ones all = absurd all
  own_all (x ∷ xs) [] ones all = absurd all
  own_all (x ∷ xs) (p ∷ ps) ones all =
      let one = ones.0 in
      ap₂ (λ (q : Post) (qs : List Post). q ∷ qs) (one_post p x.1 (own x.0 p all.0 ∙ ap (post_at posts) one.1 ∙ one.2)) (own_all xs ps ones.1 all.1)

  pub own_mailbox : (a b : ℕ) (text : Text) → IsRangeMailbox dir a b text → text ≡ range_mailbox a b posts
  own_mailbox a b text by =
      let box = by.is in
      let row = own_numbers a b by.count posts (counted_is dir posts is by.count by.counted) in
      let ones = filtered_ones posts (λ (e : Numbered). nat_le a e.0 && nat_le e.0 b) 0 posts (λ j. let e : 0 + j ≡ j = omega arith in ap (slice_get posts) e) in
      box.text_is ∙ ap mailbox (own_all (in_range a b posts) box.posts ones (subst (λ (ns : List ℕ). AllZip (λ n p. IsPostByFiles dir n (Some p)) ns box.posts) row box.each))

  no_bad_one : (n count : ℕ) (name : Name) → 1 ≤ n → n ≤ count → count ≡ length posts → IsBadForPost dir n name → ⊥
  no_bad_one n count name low high same (inl (named, inl none)) = no_bad_count dir posts is none
  no_bad_one n count name low high same (inl (named, inr lacks)) = no_missing dir posts is n low (omega (arith, high, same)) (lacks.entries, lacks.index, lacks.lacks)
  no_bad_one n count name low high same (inr (named, inl none)) =
      let few = (is.counted).few in
      no_bad_index dir posts is (n / 100) (div_below n 100 1_000_000 (omega arith) (omega (arith, high, same, few))) none
  no_bad_one n count name low high same (inr (named, inr lacks)) =
      right_size dir posts is n (length posts) lacks.entry low (omega (arith, high, same)) is.counted (lacks.entries, lacks.index, lacks.found) lacks.lacks

  pub no_bad : (a b : ℕ) (name : Name) → IsBadForMailbox dir a b name → ⊥
  no_bad a b name (inl bad) = no_bad_count dir posts is bad.1
  no_bad a b name (inr one) = no_bad_one one.n one.count name one.low one.high (counted_is dir posts is one.count one.counted) one.bad

-- The entries of an index fit the posts of its group: their numbers, bytes and sizes.
use Rattle.std.proofs.Common.{◌≡◌, ◌<◌, ◌≤◌, ◌+◌, ◌/◌, ◌==◌, ℕ, refl, zero, suc, List, [], ◌∷◌, length, map, slice_get, Some, sym, ap, ◌∙◌, subst, arith}
use Rattle.std.specs.List.{AllByRecursion, IsAmong}
use Rattle.std.specs.Option.{option_map}
use Rattle.ml_base.specs.Bytes.{Text}
use Rattle.ml_base.specs.Dir.{Dir}
use Rattle.ml_rows.proofs.RowLaws.{none_some}
use Rattle.ml_filing.specs.Answers.{IsOtherSize}
use Rattle.ml_filing.specs.Archive.{ArePosts, post_name}
use Rattle.ml_filing.specs.Posts.{Numbered, entry, group, index_of, post_at}
use Rattle.ml_filing.specs.declared.posts.Entry.{Entry}
use Rattle.ml_filing.specs.declared.posts.Post.{Post}
use Rattle.ml_filing.proofs.ByFiles.{IsOne, filtered_ones}
use Rattle.ml_filing.proofs.Looking.{bytes_are}
use Rattle.ml_filing.proofs.Represented.{in_table}

-- every entry that is made of posts is made of one of them
entry_of_one : (posts : List Post) (xs : List Numbered) (e : Entry) → AllByRecursion (IsOne posts) xs → IsAmong (map entry xs) e → (i : ℕ) × ((p : Post) × (slice_get posts i ≡ Some p) × (e ≡ entry (suc i, p)))
entry_of_one posts [] e all among = absurd (let less = among.1.0 in omega (arith, less))
entry_of_one posts (x ∷ xs) e all (zero, is) = let one = all.0 in (one.0, (x.1, one.2, is.1 ∙ ap (λ (n : ℕ). entry (n, x.1)) one.1))
entry_of_one posts (x ∷ xs) e all (suc i, is) = let less = is.0 in entry_of_one posts xs e all.1 (i, (omega (arith, less), is.1))

inside : (posts : List Post) (i : ℕ) (p : Post) → slice_get posts i ≡ Some p → i < length posts
inside [] i p e = absurd (none_some p e)
inside (q ∷ posts) zero p e = omega arith
inside (q ∷ posts) (suc i) p e = let more = inside posts i p e in omega (arith, more)

module _ (dir : Dir) (posts : List Post) (is : ArePosts dir posts) where
  -- the file of a post's number has its bytes
  pub posted : (n : ℕ) (bytes : Text) → 1 ≤ n → n ≤ 99_999_999 → dir (post_name n) ≡ Some bytes → option_map (λ (p : Post). p.bytes) (post_at posts n) ≡ Some bytes
  posted n bytes low high there = sym (is.files n (in_table 9 n 1 99_999_999 refl refl low high)) ∙ there

  -- a post has as many bytes as its entry says
  pub own_size : (g : ℕ) (e : Entry) → IsAmong (index_of g posts) e → ¬ IsOtherSize dir e.number e.size
  own_size g e among =
      let ones = filtered_ones posts (λ (x : Numbered). (x.0 / 100) == g) 0 posts (λ j. let zeroth : 0 + j ≡ j = omega arith in ap (slice_get posts) zeroth) in
      let one = entry_of_one posts (group g posts) e ones among in
      let less = inside posts one.0 one.1.0 one.1.1 in
      subst (λ (x : Entry). ¬ IsOtherSize dir x.number x.size) (sym one.1.2)
      (λ other. other (ap (option_map length) (bytes_are dir posts is (suc one.0) one.1.0 (omega arith) (omega (arith, less)) one.1.1)))

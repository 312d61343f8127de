-- Every history has its issues of the digest, 1, 2, 3 and so on, and no post is in two of them.
use Rattle.std.proofs.Common.{◌≡◌, ℕ, zero, suc, ◌+◌, ◌<◌, ◌≤◌, ◌⊎◌, inl, inr, Bool, true, false, List, [], ◌∷◌, ◌++◌, Some, None, refl, sym, ap, ap₂, subst, ◌∙◌, arith, take, length, slice_get, length-append, nat_le}
use Rattle.std.proofs.lemmas.Bool.{false≢true}
use Rattle.std.proofs.lemmas.Bool.Decides.{nat_tests}
use Rattle.std.proofs.lemmas.List.{append-nil, append_assoc, take-append-le, take_at}
use Rattle.std.proofs.lemmas.Slice.Eq.{bytes_eq-Decides}
use Rattle.std.specs.Str.{bytes_eq}
use Rattle.ml_base.specs.Bytes.{Text}
use Rattle.ml_config.specs.declared.configuration.Config.{Config}
use Rattle.ml_plain.specs.declared.Item.{Item}
use Rattle.ml_plain.specs.Laws.{after, Happened, made_for, MakesDigest, MakesNoDigest, Issue, HasPost, MakesIssue, IsOneOf, IsIn, AreIssues, HasIssues}
use Rattle.ml_plain.specs.Mailing.{digest_path}
use Rattle.ml_plain.specs.Plain.{new_list}
use Rattle.ml_plain.specs.Steps.{step0}
use Rattle.ml_plain.proofs.DigestLaw.{makes_digests, fold_config}
use Rattle.ml_plain.proofs.Places.{fold_snoc, get_front, get_within, get_last, get_either, grown, happened}

-- issues that follow each other after this post, each made at this place or later
abbrev Follow : ℕ → ℕ → List Issue → Type 0
Follow last place [] = Unit {0}
Follow last place (x ∷ xs) = (x.range.first ≡ last + 1) × (x.range.first ≤ x.range.last) × (place ≤ x.at) × Follow x.range.last (x.at + 1) xs

-- the last post of issues
abbrev last_post : ℕ → List Issue → ℕ
last_post last [] = last
last_post last (x ∷ xs) = last_post x.range.last xs

-- the first place after issues
abbrev place_after : ℕ → List Issue → ℕ
place_after place [] = place
place_after place (x ∷ xs) = place_after (x.at + 1) xs

last_snoc : (last : ℕ) (xs : List Issue) (y : Issue) → last_post last (xs ++ y ∷ []) ≡ y.range.last
last_snoc last [] y = refl
last_snoc last (x ∷ xs) y = last_snoc x.range.last xs y

after_snoc : (place : ℕ) (xs : List Issue) (y : Issue) → place_after place (xs ++ y ∷ []) ≡ y.at + 1
after_snoc place [] y = refl
after_snoc place (x ∷ xs) y = after_snoc (x.at + 1) xs y

follow_snoc : (last place : ℕ) (xs : List Issue) (y : Issue) → Follow last place xs → y.range.first ≡ last_post last xs + 1 → y.range.first ≤ y.range.last → place_after place xs ≤ y.at
    → Follow last place (xs ++ y ∷ [])
follow_snoc last place [] y h from some up = (from, some, up, tt)
follow_snoc last place (x ∷ xs) y h from some up = (h.0, h.1, h.2, follow_snoc x.range.last (x.at + 1) xs y h.3 from some up)

-- the first of them
first_of_all : (last place : ℕ) (xs : List Issue) (x : Issue) → Follow last place xs → slice_get xs 0 ≡ Some x → x.range.first ≡ last + 1
first_of_all last place [] x h e = absurd (let bad : None ≡ Some x = e in cc)
first_of_all last place (y ∷ ys) x h e = let same : y ≡ x = cc in ap (λ i. i.range.first) (sym same) ∙ h.0

first_place : (last place : ℕ) (xs : List Issue) (x : Issue) → Follow last place xs → slice_get xs 0 ≡ Some x → place ≤ x.at
first_place last place [] x h e = absurd (let bad : None ≡ Some x = e in cc)
first_place last place (y ∷ ys) x h e = let same : y ≡ x = cc in subst (λ i. place ≤ i.at) same h.2

-- one of them and the next
next_of : (last place : ℕ) (xs : List Issue) (n : ℕ) (one two : Issue) → Follow last place xs → slice_get xs n ≡ Some one → slice_get xs (n + 1) ≡ Some two
    → (two.range.first ≡ one.range.last + 1) × (one.at < two.at)
next_of last place [] n one two h e f = absurd (let bad : None ≡ Some one = e in cc)
next_of last place (x ∷ xs) zero one two h e f =
    let same : x ≡ one = cc in
    let from = first_of_all x.range.last (x.at + 1) xs two h.3 f in
    let up = first_place x.range.last (x.at + 1) xs two h.3 f in (
      from ∙ ap (λ i. i.range.last + 1) same,
      let P : Issue → Type 0 = λ i. i.at < two.at in subst P same (omega (arith, up)),
    )
next_of last place (x ∷ xs) (suc n) one two h e f =
    let step : suc n + 1 ≡ suc (n + 1) = omega arith in
    next_of x.range.last (x.at + 1) xs n one two h.3 e (subst (λ m. slice_get (x ∷ xs) m ≡ Some two) step f)

-- every one begins after the post that they follow
above : (last place : ℕ) (xs : List Issue) (n : ℕ) (x : Issue) → Follow last place xs → slice_get xs n ≡ Some x → last < x.range.first
above last place [] n x h e = absurd (let bad : None ≡ Some x = e in cc)
above last place (y ∷ ys) zero x h e = let same : y ≡ x = cc in let P : Issue → Type 0 = λ i. last < i.range.first in subst P same (omega (arith, h.0))
above last place (y ∷ ys) (suc n) x h e = let up = above y.range.last (y.at + 1) ys n x h.3 e in omega (arith, up, h.0, h.1)

-- no post is in two
apart : (last place : ℕ) (xs : List Issue) (i j post : ℕ) (one two : Issue) → Follow last place xs → slice_get xs i ≡ Some one → slice_get xs j ≡ Some two
    → HasPost one post → HasPost two post → i ≡ j
apart last place [] i j post one two h e f a b = absurd (let bad : None ≡ Some one = e in cc)
apart last place (x ∷ xs) zero zero post one two h e f a b = refl
apart last place (x ∷ xs) zero (suc j) post one two h e f a b =
    let same : x ≡ one = cc in
    let up = above x.range.last (x.at + 1) xs j two h.3 f in
    let end : x.range.last ≡ one.range.last = ap (λ i. i.range.last) same in
    absurd (omega (arith, up, end, a.to, b.from))
apart last place (x ∷ xs) (suc i) zero post one two h e f a b =
    let same : x ≡ two = cc in
    let up = above x.range.last (x.at + 1) xs i one h.3 e in
    let end : x.range.last ≡ two.range.last = ap (λ i. i.range.last) same in
    absurd (omega (arith, up, end, b.to, a.from))
apart last place (x ∷ xs) (suc i) (suc j) post one two h e f a b = ap suc (apart x.range.last (x.at + 1) xs i j post one two h.3 e f a b)

-- none is left out
within : (last place : ℕ) (xs : List Issue) (post : ℕ) → Follow last place xs → last < post → post ≤ last_post last xs → IsIn xs post
within last place [] post h low high = absurd (omega (arith, low, high))
within last place (x ∷ xs) post h low high = go (nat_le post x.range.last) refl (λ later. within x.range.last (x.at + 1) xs post h.3 later high)
  where
    go : (t : Bool) → nat_le post x.range.last ≡ t → (x.range.last < post → IsIn xs post) → IsIn (x ∷ xs) post
    go true t more = record { before = 0; issue = x; listed = refl; has = record { from = omega (arith, h.0, low); to = grind (arith, nat_tests, t) } }
    go false t more =
        let later = more (grind (arith, nat_tests, t)) in
        record { before = suc later.before; issue = later.issue; listed = later.listed; has = later.has }

module _ (c : Config) (key : Text) where
  -- the entries for an issue that the step at a place made
  abbrev made_at : ℕ → ℕ → List Item → Item → Type 0
  made_at at number h item = made_for number (after c key (take at h)) (step0 (after c key (take at h)) item).0 ≡ []

  -- the issues of a history so far
  record Issued (h : List Item) (issues : List Issue) : Type 0 where
    follow : Follow 0 0 issues
    places : place_after 0 issues ≤ length h
    mark : (after c key h).mark ≡ record { last = last_post 0 issues; issue = length issues }
    made : (n : ℕ) (issue : Issue) → slice_get issues n ≡ Some issue → Happened c key h issue.at issue.moment (MakesIssue (n + 1) issue.range)
    others : (at number : ℕ) (item : Item) → slice_get h at ≡ Some item → made_at at number h item ⊎ IsOneOf c issues at number

  -- a step made the same before the history grew
  made_front : (h : List Item) (x : Item) (at number : ℕ) (item : Item) → slice_get h at ≡ Some item → made_at at number h item → made_at at number (h ++ x ∷ []) item
  made_front h x at number item e is =
      subst (λ t. made_for number (after c key t) (step0 (after c key t) item).0 ≡ [])
      (sym (take-append-le at h (x ∷ []) (let less = get_within h at item e in omega (arith, less)))) is

  made_last : (h : List Item) (x : Item) (number : ℕ) → made_for number (after c key h) (step0 (after c key h) x).0 ≡ [] → made_at (length h) number (h ++ x ∷ []) x
  made_last h x number is = subst (λ t. made_for number (after c key t) (step0 (after c key t) x).0 ≡ []) (sym (take_at h (x ∷ []) (length h) refl)) is

  -- what holds at every earlier place and at the last one holds at every place
  each_place : (h : List Item) (x : Item) (P : ℕ → Item → Type 0) → ((at : ℕ) (item : Item) → slice_get h at ≡ Some item → P at item) → P (length h) x
      → (at : ℕ) (item : Item) → slice_get (h ++ x ∷ []) at ≡ Some item → P at item
  each_place h x P front last at item e = elim (get_either h x at item e) [
    | inl there ↦ front at item there
    | inr here ↦ subst (λ n. P n item) (sym here.0) (subst (P (length h)) (sym here.1) last)
  ]

  mark_after : (h : List Item) (x : Item) → (after c key (h ++ x ∷ [])).mark ≡ (step0 (after c key h) x).0.mark
  mark_after h x = ap (λ p. p.mark) (fold_snoc (new_list c key) h x)

  -- an item that makes none
  issued_same : (h : List Item) (x : Item) (issues : List Issue) → Issued h issues → MakesNoDigest (after c key h) (step0 (after c key h) x).0 → Issued (h ++ x ∷ []) issues
  issued_same h x issues i m = record {
    follow = i.follow;
    places = omega (arith, i.places, length-append h (x ∷ []));
    mark = mark_after h x ∙ m.same ∙ i.mark;
    made = λ n issue e. grown c key h x issue.at issue.moment (MakesIssue (n + 1) issue.range) (i.made n issue e);
    others = λ at number item e. each_place h x (λ at item. made_at at number (h ++ x ∷ []) item ⊎ IsOneOf c issues at number)
        (λ at item there. elim (i.others at number item there) [ inl none ↦ inl (made_front h x at number item there none) | inr one ↦ inr one ])
        (inl (made_last h x number (m.entries number))) at item e;
  }

  -- one that was made before stays one
  one_front : (issues : List Issue) (y : Issue) (at number : ℕ) → IsOneOf c issues at number → IsOneOf c (issues ++ y ∷ []) at number
  one_front issues y at number o = record { before = o.before; issue = o.issue; listed = get_front issues y o.before o.issue o.listed; at_is = o.at_is; base_is = o.base_is }

  -- an item that makes the next one
  abbrev new_issue : (h : List Item) (x : Item) → MakesDigest (after c key h) (step0 (after c key h) x).0 x.moment → Issue
  new_issue h x m = record { at = length h; moment = x.moment; range = m.range }

  makes_it : (h : List Item) (x : Item) (n : ℕ) (m : MakesDigest (after c key h) (step0 (after c key h) x).0 x.moment) → (after c key h).mark.issue + 1 ≡ n
      → MakesIssue n m.range (after c key h) x
  makes_it h x n m is = subst (λ n. MakesIssue n m.range (after c key h) x) is (record { some = m.some; there = m.there; id = m.id; entry = m.entry })

  issued_more : (h : List Item) (x : Item) (issues : List Issue) → Issued h issues → (m : MakesDigest (after c key h) (step0 (after c key h) x).0 x.moment)
      → Issued (h ++ x ∷ []) (issues ++ new_issue h x m ∷ [])
  issued_more h x issues i m =
      let y = new_issue h x m in
      let config : (after c key h).config ≡ c = fold_config (new_list c key) h in
      let last_is : (after c key h).mark.last ≡ last_post 0 issues = ap (λ mark. mark.last) i.mark in
      let number_is : (after c key h).mark.issue ≡ length issues = ap (λ mark. mark.issue) i.mark in
      let many : length (issues ++ y ∷ []) ≡ length issues + 1 = length-append issues (y ∷ []) in
      record {
        follow = follow_snoc 0 0 issues y i.follow (m.from ∙ ap (λ n. n + 1) last_is) m.some i.places;
        places = omega (arith, after_snoc 0 issues y, length-append h (x ∷ []));
        mark = mark_after h x ∙ m.moved
            ∙ ap₂ (λ a b. record { last = a; issue = b }) (sym (last_snoc 0 issues y)) (ap (λ n. n + 1) number_is ∙ sym many);
        made = λ n issue e. elim (get_either issues y n issue e) [
          | inl there ↦ grown c key h x issue.at issue.moment (MakesIssue (n + 1) issue.range) (i.made n issue there)
          | inr here ↦ subst (λ (z : Issue). Happened c key (h ++ x ∷ []) z.at z.moment (MakesIssue (n + 1) z.range)) (sym here.1)
              (happened c key h x (MakesIssue (n + 1) m.range) (makes_it h x (n + 1) m (ap (λ n. n + 1) (number_is ∙ sym here.0))))
        ];
        others = λ at number item e. each_place h x (λ at item. made_at at number (h ++ x ∷ []) item ⊎ IsOneOf c (issues ++ y ∷ []) at number)
            (λ at item there. elim (i.others at number item there) [ inl none ↦ inl (made_front h x at number item there none) | inr one ↦ inr (one_front issues y at number one) ])
            (last_others number config number_is (bytes_eq (digest_path c number).base (digest_path c (length issues + 1)).base) refl) at item e;
      }
    where
      last_others : (number : ℕ) → (after c key h).config ≡ c → (after c key h).mark.issue ≡ length issues → (t : Bool)
          → bytes_eq (digest_path c number).base (digest_path c (length issues + 1)).base ≡ t
          → made_at (length h) number (h ++ x ∷ []) x ⊎ IsOneOf c (issues ++ new_issue h x m ∷ []) (length h) number
      last_others number config number_is true t = inr (record {
        before = length issues;
        issue = new_issue h x m;
        listed = get_last issues (new_issue h x m);
        at_is = refl;
        base_is = (bytes_eq-Decides (digest_path c number).base (digest_path c (length issues + 1)).base).0 t;
      })
      last_others number config number_is false t = inl (made_last h x number (m.others number (λ e. false≢true (sym t
          ∙ (bytes_eq-Decides (digest_path c number).base (digest_path c (length issues + 1)).base).1
          (ap (λ c. (digest_path c number).base) (sym config) ∙ e ∙ ap₂ (λ c n. (digest_path c (n + 1)).base) config number_is)))))

  -- one item more
  issued_step : (h : List Item) (x : Item) (issues : List Issue) → Issued h issues → (more : List Issue) × Issued (h ++ x ∷ []) more
  issued_step h x issues i = elim (makes_digests c key h x) [
    | inl m ↦ (issues ++ new_issue h x m ∷ [], issued_more h x issues i m)
    | inr m ↦ (issues, issued_same h x issues i m)
  ]

  -- from a history on
  issued_from : (rest h : List Item) (issues : List Issue) → Issued h issues → (more : List Issue) × Issued (h ++ rest) more
  issued_from [] h issues i = (issues, subst (λ t. Issued t issues) (sym (append-nil h)) i)
  issued_from (x ∷ rest) h issues i =
      let one = issued_step h x issues i in
      let all = issued_from rest (h ++ x ∷ []) one.0 one.1 in
      (all.0, subst (λ t. Issued t all.0) (append_assoc h (x ∷ []) rest) all.1)

  issued_none : Issued [] []
  issued_none = record {
    follow = tt;
    places = omega arith;
    mark = refl;
    made = λ n issue e. absurd (let bad : None ≡ Some issue = e in cc);
    others = λ at number item e. absurd (let bad : None ≡ Some item = e in cc);
  }

  are_issues : (h : List Item) (issues : List Issue) → Issued h issues → AreIssues c key h issues
  are_issues h issues i = record {
    made = i.made;
    first = λ issue e. first_of_all 0 0 issues issue i.follow e;
    next = λ n one two e f. next_of 0 0 issues n one two i.follow e f;
    once = λ m n post one two e f a b. apart 0 0 issues m n post one two i.follow e f a b;
    each = λ post some up. within 0 0 issues post i.follow (omega (arith, some)) (subst (λ n. post ≤ n) (ap (λ mark. mark.last) i.mark) up);
    others = i.others;
  }

pub has_issues : HasIssues
has_issues c key h = let all = issued_from c key h [] [] (issued_none c key) in (all.0, are_issues c key h all.0 all.1)

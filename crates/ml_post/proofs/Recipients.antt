-- A recipient that some field of a row names.
use Rattle.std.proofs.Common.{◌≡◌, Bool, true, false, ◌||◌, ◌&&◌, List, [], ◌∷◌, ◌++◌, refl, sym, ◌∙◌, ap, filter, cond}
use Rattle.std.specs.List.{list_any}
use Rattle.std.proofs.lemmas.List.Folds.{list_any-append}

-- what is found with one element more, which counts if it is among those that are looked at
abbrev found_with : Bool → Bool → Bool → Bool
found_with is t f = cond is (t || f) f

turn : (a b t f g : Bool) → (found_with a t f || found_with b t g) ≡ (((a || b) && t) || (f || g))
turn true true true f g = refl
turn true true false true g = refl
turn true true false false g = refl
turn true false true f g = refl
turn true false false f g = refl
turn false true true true g = refl
turn false true true false g = refl
turn false true false f g = refl
turn false false t f g = refl

module _ {X : Type 0} (a b test : X → Bool) where
  any_with : (is : Bool) (x : X) (xs : List X) → list_any test (cond is (x ∷ xs) xs) ≡ found_with is (test x) (list_any test xs)
  any_with true x xs = refl
  any_with false x xs = refl

  -- an element of one filter or the other passes a test exactly if an element that either filter takes passes it
  pub any_either : (xs : List X) → list_any test (filter a xs ++ filter b xs) ≡ list_any (λ x. (a x || b x) && test x) xs
  any_either [] = refl
  any_either (x ∷ xs) =
      let f = list_any test (filter a xs) in
      let g = list_any test (filter b xs) in
      list_any-append test (filter a (x ∷ xs)) (filter b (x ∷ xs))
      ∙ ap (λ (l : Bool). l || list_any test (filter b (x ∷ xs))) (any_with (a x) x (filter a xs))
      ∙ ap (λ (r : Bool). found_with (a x) (test x) f || r) (any_with (b x) x (filter b xs))
      ∙ turn (a x) (b x) (test x) f g
      ∙ ap (λ (r : Bool). ((a x || b x) && test x) || r) (sym (list_any-append test (filter a xs) (filter b xs)) ∙ any_either xs)

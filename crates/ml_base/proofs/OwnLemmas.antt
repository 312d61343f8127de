-- LOCAL at the beginning of a text, and what follows it.
use Rattle.std.proofs.Common.{◌≡◌, ◌<◌, ◌≤◌, ℕ, Bool, true, false, ◌&&◌, ◌||◌, ◌==◌, nat_eq, [], ◌∷◌, ◌++◌, length, take, drop, refl, sym, ap, ◌∙◌, arith, take-append-drop}
use Rattle.std.proofs.lemmas.Bool.Decides.{nat_tests}
use Rattle.std.proofs.lemmas.List.{length-take}
use Rattle.std.specs.Char.{to_ascii_lowercase}
use Rattle.std.specs.List.{starts_with}
use Rattle.std.specs.Str.{str_eq_ignore_ascii_case}
use Rattle.ml_base.specs.Bytes.{Text, lower}
use Rattle.ml_base.specs.Own.{is_own_local, is_own_rest}

hyphen : (b : ℕ) → ((45 == to_ascii_lowercase b) && true) ≡ (b == 45)
hyphen b = grind (arith, nat_tests)

shared : (a b c : Bool) → ((a && b) || (a && c)) ≡ (a && (b || c))
shared true b c = refl
shared false b c = refl

grouped : (a b c : Bool) → (a && (b && c)) ≡ ((a && b) && c)
grouped true b c = refl
grouped false b c = refl

nothing : (a : Bool) → (a && false) ≡ false
nothing true = refl
nothing false = refl

of_append : (local front rest : Text) → length front ≡ length local → is_own_local local (front ++ rest) ≡ (str_eq_ignore_ascii_case local front && is_own_rest rest)
of_append [] [] [] e = refl
of_append [] [] (b ∷ bs) e = hyphen b
of_append [] (f ∷ fs) rest e = absurd (omega arith)
of_append (x ∷ xs) [] rest e = absurd (omega arith)
of_append (x ∷ xs) (f ∷ fs) rest e =
    shared (to_ascii_lowercase x == to_ascii_lowercase f) (str_eq_ignore_ascii_case xs (fs ++ rest)) (starts_with nat_eq (lower (fs ++ rest)) (lower xs ++ 45 ∷ []))
    ∙ ap (λ b. (to_ascii_lowercase x == to_ascii_lowercase f) && b) (of_append xs fs rest (omega arith))
    ∙ grouped (to_ascii_lowercase x == to_ascii_lowercase f) (str_eq_ignore_ascii_case xs fs) (is_own_rest rest)

-- no part that is shorter than LOCAL is the list's
pub too_short : (local before : Text) → length before < length local → is_own_local local before ≡ false
too_short [] before less = absurd (omega arith)
too_short (x ∷ xs) [] less = refl
too_short (x ∷ xs) (b ∷ bs) less =
    shared (to_ascii_lowercase x == to_ascii_lowercase b) (str_eq_ignore_ascii_case xs bs) (starts_with nat_eq (lower bs) (lower xs ++ 45 ∷ []))
    ∙ ap (λ t. (to_ascii_lowercase x == to_ascii_lowercase b) && t) (too_short xs bs (omega arith)) ∙ nothing (to_ascii_lowercase x == to_ascii_lowercase b)

-- the same, in the way that the code cuts the text
pub cut_there : (local before front rest : Text) → length local ≤ length before → front ≡ take (length local) before → rest ≡ drop (length local) before
    → is_own_local local before ≡ (str_eq_ignore_ascii_case local front && is_own_rest rest)
cut_there local before front rest less first second =
    let joined : before ≡ front ++ rest = sym (ap (λ (t : Text). t ++ rest) first ∙ ap (λ (t : Text). take (length local) before ++ t) second ∙ take-append-drop (length local) before) in
    ap (is_own_local local) joined ∙ of_append local front rest (ap length first ∙ length-take (length local) before ∙ omega arith)

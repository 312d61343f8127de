-- A subject's key is not longer than the subject.
use Rattle.std.proofs.Common.{◌≤◌, ℕ, zero, suc, Bool, true, false, cond, ◌&&◌, ◌==◌, [], ◌∷◌, length, Option, Some, None, arith}
use Rattle.std.specs.Char.{to_ascii_lowercase}
use Rattle.std.proofs.lemmas.List.{length-map}
use Rattle.ml_base.specs.Bytes.{Text, lower, is_empty}
use Rattle.ml_header.specs.Lines.{begins_with}
use Rattle.ml_filing.specs.Subjects.{squeezed, without_front, without_end, after_mark, stripped, subject_key, is_space}
use Rattle.ml_filing.proofs.KeyTurns.{Below, front_within, mark_below}

squeezed_short : (text : Text) → length (squeezed text) ≤ length text
squeezed_short [] = omega arith
squeezed_short (b ∷ bs) = go (is_space b) (begins_with (32 ∷ []) (squeezed bs)) (squeezed_short bs)
  where
    go : (s t : Bool) → length (squeezed bs) ≤ length bs → length (cond s (cond t (squeezed bs) (32 ∷ squeezed bs)) (b ∷ squeezed bs)) ≤ suc (length bs)
    go true true le = omega (arith, le)
    go true false le = omega (arith, le)
    go false t le = omega (arith, le)

end_short : (text : Text) → length (without_end text) ≤ length text
end_short [] = omega arith
end_short (b ∷ bs) = go (b == 32 && is_empty (without_end bs)) (end_short bs)
  where
    go : (s : Bool) → length (without_end bs) ≤ length bs → length (cond s [] (b ∷ without_end bs)) ≤ suc (length bs)
    go true le = omega arith
    go false le = omega (arith, le)

-- a text, if there is one, has at most so many bytes
abbrev AtMost : ℕ → Option Text → Type 0
AtMost n None = Unit {0}
AtMost n (Some text) = length text ≤ n

weaker : (n : ℕ) (o : Option Text) → Below n o → AtMost n o
weaker n None is = tt
weaker n (Some text) is = omega (arith, is)

mark_short : (prefix text : Text) → AtMost (length text) (after_mark prefix text)
mark_short prefix text = weaker (length text) (after_mark prefix text) (mark_below prefix text)

stripped_short : (turns : ℕ) (prefix text : Text) → length (stripped turns prefix text) ≤ length text
unfolding stripped
stripped_short zero prefix text = omega arith
stripped_short (suc turns) prefix text = go (after_mark prefix text) (mark_short prefix text) (λ rest. stripped_short turns prefix rest)
  where
    go : (o : Option Text) → AtMost (length text) o → ((rest : Text) → length (stripped turns prefix rest) ≤ length rest)
        → length (elim o as (λ o. Text) [ None ↦ text | Some rest ↦ stripped turns prefix (without_front rest) ]) ≤ length text
    go None is later = omega arith
    go (Some rest) is later = let one = later (without_front rest) in let two = front_within rest in omega (arith, one, two, is)

pub key_short : (prefix subject : Text) → length (subject_key prefix subject) ≤ length subject
key_short prefix subject =
    let text = lower (without_end (without_front (squeezed subject))) in
    let a = squeezed_short subject in
    let b = front_within (squeezed subject) in
    let c = end_short (without_front (squeezed subject)) in
    let d = length-map (without_end (without_front (squeezed subject))) to_ascii_lowercase in
    let e = stripped_short (length text) prefix text in
    omega (arith, a, b, c, d, e)

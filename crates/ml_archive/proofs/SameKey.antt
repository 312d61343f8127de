-- Taking the key of a key gives the same key.
use Rattle.std.proofs.Common.{◌≡◌, ◌<◌, ◌≤◌, ℕ, zero, suc, Bool, true, false, cond, ◌&&◌, ◌==◌, [], ◌∷◌, ◌++◌, length, take, drop, Option, Some, None, refl, sym, ap, ap₂, ◌∙◌, subst, arith, codes, length-append, append_assoc, ◌⊎◌, inl, inr}
use Rattle.std.specs.Char.{is_ascii_digit, to_ascii_lowercase}
use Rattle.std.specs.Option.{option_and_then, option_or}
use Rattle.std.proofs.lemmas.Grind.{common_steps}
use Rattle.std.proofs.lemmas.List.{take-append-drop}
use Rattle.ml_base.specs.Bytes.{Text, lower, is_empty}
use Rattle.ml_header.specs.Lines.{begins_with}
use Rattle.ml_filing.specs.Subjects.{is_space, squeezed, without_front, without_end, after_word, after_digits, after_mark, stripped, subject_key}
use Rattle.ml_filing.proofs.KeyTurns.{turns_enough, strip_none, front_within, turn_of, step, front_lower, end_lower}

abbrev space_first : Text → Bool
space_first text = begins_with (32 ∷ []) text

-- Every space, tab, CR or LF is a space, and none comes before another.
abbrev IsSpaced : Text → Type 0
IsSpaced [] = Unit {0}
IsSpaced (b ∷ bs) = ((is_space b ≡ false) ⊎ ((b ≡ 32) × (space_first bs ≡ false))) × IsSpaced bs

squeezed_spaced : (text : Text) → IsSpaced (squeezed text)
squeezed_spaced [] = tt
squeezed_spaced (b ∷ bs) = go (is_space b) refl (space_first (squeezed bs)) refl (squeezed_spaced bs)
  where
    go : (s : Bool) → is_space b ≡ s → (t : Bool) → space_first (squeezed bs) ≡ t → IsSpaced (squeezed bs) → IsSpaced (cond s (cond t (squeezed bs) (32 ∷ squeezed bs)) (b ∷ squeezed bs))
    go true e true f is = is
    go true e false f is = (inr (refl, f), is)
    go false e t f is = (inl e, is)

spaced_squeezed : (text : Text) → IsSpaced text → squeezed text ≡ text
spaced_squeezed [] is = refl
spaced_squeezed (b ∷ bs) (inl other, is) =
    ap (λ t. cond t (cond (space_first (squeezed bs)) (squeezed bs) (32 ∷ squeezed bs)) (b ∷ squeezed bs)) other ∙ ap (λ t. b ∷ t) (spaced_squeezed bs is)
spaced_squeezed (b ∷ bs) (inr (same, alone), is) =
    ap (λ t. cond t (cond (space_first (squeezed bs)) (squeezed bs) (32 ∷ squeezed bs)) (b ∷ squeezed bs)) (ap is_space same)
    ∙ ap (λ t. cond (space_first t) t (32 ∷ t)) (spaced_squeezed bs is) ∙ ap (λ t. cond t bs (32 ∷ bs)) alone ∙ ap (λ c. c ∷ bs) (sym same)

front_spaced : (text : Text) → IsSpaced text → IsSpaced (without_front text)
front_spaced [] is = tt
front_spaced (b ∷ bs) is = go (b == 32) (front_spaced bs is.1)
  where
    go : (t : Bool) → IsSpaced (without_front bs) → IsSpaced (cond t (without_front bs) (b ∷ bs))
    go true more = more
    go false more = is

end_first : (text : Text) → space_first text ≡ false → space_first (without_end text) ≡ false
end_first [] is = is
end_first (b ∷ bs) is = go (b == 32 && is_empty (without_end bs))
  where
    go : (t : Bool) → space_first (cond t [] (b ∷ without_end bs)) ≡ false
    go true = refl
    go false = is

end_spaced : (text : Text) → IsSpaced text → IsSpaced (without_end text)
end_spaced [] is = tt
end_spaced (b ∷ bs) is = go (b == 32 && is_empty (without_end bs)) is.0 (end_spaced bs is.1)
  where
    go : (t : Bool) → ((is_space b ≡ false) ⊎ ((b ≡ 32) × (space_first bs ≡ false))) → IsSpaced (without_end bs) → IsSpaced (cond t [] (b ∷ without_end bs))
    go true here more = tt
    go false (inl other) more = (inl other, more)
    go false (inr (same, alone)) more = (inr (same, end_first bs alone), more)

low_is : (b : ℕ) → is_space (to_ascii_lowercase b) ≡ is_space b
low_is b = grind (arith, common_steps)

low_first : (text : Text) → space_first text ≡ false → space_first (lower text) ≡ false
low_first [] is = is
low_first (b ∷ bs) is = grind (arith, common_steps, is)

lower_spaced : (text : Text) → IsSpaced text → IsSpaced (lower text)
lower_spaced [] is = tt
lower_spaced (b ∷ bs) (inl other, is) = (inl (low_is b ∙ other), lower_spaced bs is)
lower_spaced (b ∷ bs) (inr (same, alone), is) = (inr (ap to_ascii_lowercase same, low_first bs alone), lower_spaced bs is)

-- a squeezed text in lower case with no space at its end, and texts cut from it
abbrev IsTidy : Text → Type 0
IsTidy text = IsSpaced text × (without_end text ≡ text) × (lower text ≡ text)

rest_of : Text → Text
rest_of [] = []
rest_of (b ∷ bs) = bs

end_rest : (b : ℕ) (bs : Text) → without_end (b ∷ bs) ≡ b ∷ bs → without_end bs ≡ bs
unfolding rest_of
end_rest b bs is = go (b == 32 && is_empty (without_end bs)) is
  where
    go : (t : Bool) → cond t [] (b ∷ without_end bs) ≡ b ∷ bs → without_end bs ≡ bs
    go true e = absurd (cc)
    go false e = ap rest_of e

lower_rest : (b : ℕ) (bs : Text) → lower (b ∷ bs) ≡ b ∷ bs → lower bs ≡ bs
unfolding rest_of
lower_rest b bs is = ap rest_of is

tidy_after : (front rest : Text) → IsTidy (front ++ rest) → IsTidy rest
tidy_after [] rest is = is
tidy_after (b ∷ bs) rest is = tidy_after bs rest (is.0.1, end_rest b (bs ++ rest) is.1, lower_rest b (bs ++ rest) is.2)

-- what comes after a mark is the text without some bytes at its beginning
abbrev IsAfter : Text → Option Text → Type 0
IsAfter text None = Unit {0}
IsAfter text (Some rest) = (front : Text) × (0 < length front) × (text ≡ front ++ rest)

word_after : (word text : Text) → IsAfter text (after_word word text)
word_after [] text = tt
word_after (w ∷ ws) [] = tt
word_after (w ∷ ws) (b ∷ bs) = go (begins_with (w ∷ ws) (b ∷ bs))
  where
    go : (t : Bool) → IsAfter (b ∷ bs) (cond t (Some (drop (length ws) bs)) None)
    go true = (b ∷ take (length ws) bs, omega arith, ap (λ t. b ∷ t) (sym (take-append-drop (length ws) bs)))
    go false = tt

one_more : (b : ℕ) (bs : Text) (o : Option Text) → IsAfter bs o → IsAfter (b ∷ bs) o
one_more b bs None is = tt
one_more b bs (Some rest) (front, some, is) = (b ∷ front, omega arith, ap (λ t. b ∷ t) is)

digits_after : (some : Bool) (text : Text) → IsAfter text (after_digits some text)
digits_after some [] = tt
digits_after some (b ∷ bs) = go (is_ascii_digit b) some (digits_after true bs)
  where
    go : (t u : Bool) → IsAfter bs (after_digits true bs) → IsAfter (b ∷ bs) (cond t (after_digits true bs) (cond u (after_word (codes "]:") (b ∷ bs)) None))
    go true u is = one_more b bs (after_digits true bs) is
    go false true is = word_after (codes "]:") (b ∷ bs)
    go false false is = tt

or_after : (text : Text) (a b : Option Text) → IsAfter text a → IsAfter text b → IsAfter text (option_or a b)
or_after text None b p q = q
or_after text (Some t) b p q = p

then_after : (text : Text) (o : Option Text) → IsAfter text o → IsAfter text (option_and_then (after_digits false) o)
then_after text None is = tt
then_after text (Some t) (front, some, is) = go (after_digits false t) (digits_after false t)
  where
    go : (o : Option Text) → IsAfter t o → IsAfter text o
    go None more = tt
    go (Some rest) (digits, _, more) = (front ++ digits, (let long = length-append front digits in omega (arith, long, some)), is ∙ ap (λ t. front ++ t) more ∙ sym (append_assoc front digits rest))

mark_after : (prefix text : Text) → IsAfter text (after_mark prefix text)
mark_after prefix text =
    or_after text _ _ (word_after (lower prefix) text)
    (or_after text _ _ (word_after (codes "re:") text)
    (or_after text _ _ (word_after (codes "fw:") text)
    (or_after text _ _ (word_after (codes "fwd:") text)
    (or_after text _ _ (word_after (codes "aw:") text) (then_after text (after_word (codes "re[") text) (word_after (codes "re[") text))))))

front_twice : (text : Text) → without_front (without_front text) ≡ without_front text
front_twice [] = refl
front_twice (b ∷ bs) = go (b == 32) refl (front_twice bs)
  where
    go : (t : Bool) → (b == 32) ≡ t → without_front (without_front bs) ≡ without_front bs → without_front (cond t (without_front bs) (b ∷ bs)) ≡ cond t (without_front bs) (b ∷ bs)
    go true e is = is
    go false e is = ap (λ t. cond t (without_front bs) (b ∷ bs)) e

front_tidy : (text : Text) → IsTidy text → IsTidy (without_front text)
front_tidy [] is = is
front_tidy (b ∷ bs) is = go (b == 32) (front_tidy bs (tidy_after (b ∷ []) bs is))
  where
    go : (t : Bool) → IsTidy (without_front bs) → IsTidy (cond t (without_front bs) (b ∷ bs))
    go true more = more
    go false more = is

-- a text that is its own key
abbrev IsKey : Text → Text → Type 0
IsKey prefix text = IsTidy text × (without_front text ≡ text) × (stripped (length text) prefix text ≡ text)

stripped_key : (turns : ℕ) (prefix text : Text) → length text ≤ turns → IsTidy text → without_front text ≡ text → IsKey prefix (stripped turns prefix text)
unfolding stripped
stripped_key zero prefix [] le is front = (is, front, turns_enough 0 0 prefix [] le le)
stripped_key zero prefix (b ∷ bs) le is front = absurd (omega (arith, le))
stripped_key (suc turns) prefix text le is front =
    subst (λ (k : Text). IsKey prefix k) (sym (step turns prefix text)) (go (after_mark prefix text) refl (mark_after prefix text) (λ rest. stripped_key turns prefix rest))
  where
    go : (o : Option Text) → after_mark prefix text ≡ o → IsAfter text o → ((rest : Text) → length rest ≤ turns → IsTidy rest → without_front rest ≡ rest → IsKey prefix (stripped turns prefix rest))
        → IsKey prefix (turn_of (stripped turns prefix) text o)
    go None none after later = (is, front, sym (strip_none prefix (lower prefix) text refl (sym none)))
    go (Some rest) there (mark, some, cut) later =
        let long = length-append mark rest in
        let short = front_within rest in
        let whole : length text ≡ length (mark ++ rest) = ap length cut in
        later (without_front rest) (omega (arith, long, short, whole, le, some)) (front_tidy rest (tidy_after mark rest (subst (λ (t : Text). IsTidy t) cut is))) (front_twice rest)

-- the text that marks are taken off from
end_twice : (text : Text) → without_end (without_end text) ≡ without_end text
end_twice [] = refl
end_twice (b ∷ bs) = go (b == 32 && is_empty (without_end bs)) refl (end_twice bs)
  where
    go : (t : Bool) → (b == 32 && is_empty (without_end bs)) ≡ t → without_end (without_end bs) ≡ without_end bs → without_end (cond t [] (b ∷ without_end bs)) ≡ cond t [] (b ∷ without_end bs)
    go true e later = refl
    go false e later = ap (λ (t : Text). cond (b == 32 && is_empty t) [] (b ∷ t)) later ∙ ap (λ t. cond t [] (b ∷ without_end bs)) e

end_front : (text : Text) → without_front text ≡ text → without_front (without_end text) ≡ without_end text
unfolding rest_of
end_front [] is = refl
end_front (b ∷ bs) is = go (b == 32) refl is
  where
    longer : without_front bs ≡ b ∷ bs → ⊥
    longer e = let short = front_within bs in let size : length (without_front bs) ≡ suc (length bs) = ap length e in omega (arith, short, size)

    kept : (t : Bool) → (b == 32) ≡ false → without_front (cond t [] (b ∷ without_end bs)) ≡ cond t [] (b ∷ without_end bs)
    kept true e = refl
    kept false e = ap (λ t. cond t (without_front (without_end bs)) (b ∷ without_end bs)) e

    go : (t : Bool) → (b == 32) ≡ t → cond t (without_front bs) (b ∷ bs) ≡ b ∷ bs → without_front (without_end (b ∷ bs)) ≡ without_end (b ∷ bs)
    go true e same = absurd (longer same)
    go false e same = kept (b == 32 && is_empty (without_end bs)) e

low_twice : (b : ℕ) → to_ascii_lowercase (to_ascii_lowercase b) ≡ to_ascii_lowercase b
low_twice b = grind (arith, common_steps)

lower_twice : (text : Text) → lower (lower text) ≡ lower text
lower_twice [] = refl
lower_twice (b ∷ bs) = ap₂ (λ (c : ℕ) (t : Text). c ∷ t) (low_twice b) (lower_twice bs)

key_is : (prefix subject : Text) → IsKey prefix (subject_key prefix subject)
key_is prefix subject =
    let inner = without_front (squeezed subject) in
    let text = lower (without_end inner) in
    stripped_key (length text) prefix text (omega arith)
    (lower_spaced (without_end inner) (end_spaced inner (front_spaced (squeezed subject) (squeezed_spaced subject))), end_lower (without_end inner) ∙ ap lower (end_twice inner), lower_twice (without_end inner))
    (front_lower (without_end inner) ∙ ap lower (end_front inner (front_twice (squeezed subject))))

pub same_key : (prefix subject : Text) → subject_key prefix (subject_key prefix subject) ≡ subject_key prefix subject
same_key prefix subject =
    let k = subject_key prefix subject in
    let is = key_is prefix subject in
    let text : lower (without_end (without_front (squeezed k))) ≡ k =
    ap (λ (t : Text). lower (without_end (without_front t))) (spaced_squeezed k is.0.0) ∙ ap (λ (t : Text). lower (without_end t)) is.1 ∙ ap lower is.0.1 ∙ is.0.2 in
    ap (λ (t : Text). stripped (length t) prefix t) text ∙ is.2

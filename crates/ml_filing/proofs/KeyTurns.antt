-- The loop that takes marks off a subject, one at a time, makes the subject's key.
use Rattle.std.proofs.Common.{◌≡◌, ◌<◌, ◌≤◌, ◌-◌, ℕ, zero, suc, Bool, true, false, cond, ◌&&◌, ◌==◌, [], ◌∷◌, ◌++◌, length, take, drop, get_or, Option, Some, None, refl, sym, ap, ap₂, ◌∙◌, arith, codes, length-drop, ◌⊎◌, inl, inr}
use Rattle.std.proofs.lemmas.Bool.{ne_eqb, cases_lt}
use Rattle.std.proofs.lemmas.Grind.{common_steps}
use Rattle.std.specs.Option.{option_and_then, option_or}
use Rattle.std.specs.Char.{is_ascii_digit, to_ascii_lowercase}
use Rattle.ml_base.specs.Bytes.{Text, lower, is_empty}
use Rattle.ml_header.specs.Lines.{begins_with}
use Rattle.ml_filing.specs.Subjects.{squeezed, without_front, without_end, after_word, after_digits, after_lower, after_mark, stripped, subject_key}

-- a text, if there is one, is shorter than so many bytes
abbrev pub Below : ℕ → Option Text → Type 0
Below n None = Unit {0}
Below n (Some text) = length text < n

word_below : (word text : Text) → Below (length text) (after_word word text)
word_below [] text = tt
word_below (w ∷ ws) [] = tt
word_below (w ∷ ws) (b ∷ bs) = go (begins_with (w ∷ ws) (b ∷ bs))
  where
    go : (t : Bool) → Below (suc (length bs)) (cond t (Some (drop (length ws) bs)) None)
    go true = let rest = length-drop (length ws) bs in omega (arith, rest)
    go false = tt

wider : (n m : ℕ) (o : Option Text) → n ≤ m → Below n o → Below m o
wider n m None le is = tt
wider n m (Some text) le is = omega (arith, le, is)

digits_below : (some : Bool) (text : Text) → Below (length text) (after_digits some text)
digits_below some [] = tt
digits_below some (b ∷ bs) = go (is_ascii_digit b) some (digits_below true bs)
  where
    go : (t u : Bool) → Below (length bs) (after_digits true bs) → Below (suc (length bs)) (cond t (after_digits true bs) (cond u (after_word (codes "]:") (b ∷ bs)) None))
    go true u is = wider (length bs) (suc (length bs)) (after_digits true bs) (omega arith) is
    go false true is = word_below (codes "]:") (b ∷ bs)
    go false false is = tt

or_below : (n : ℕ) (a b : Option Text) → Below n a → Below n b → Below n (option_or a b)
or_below n None b p q = q
or_below n (Some t) b p q = p

then_below : (n : ℕ) (o : Option Text) → Below n o → Below n (option_and_then (after_digits false) o)
then_below n None is = tt
then_below n (Some t) is = wider (length t) n (after_digits false t) (omega (arith, is)) (digits_below false t)

pub mark_below : (prefix text : Text) → Below (length text) (after_mark prefix text)
mark_below prefix text =
    let n = length text in
    or_below n _ _ (word_below (lower prefix) text)
    (or_below n _ _ (word_below (codes "re:") text)
    (or_below n _ _ (word_below (codes "fw:") text)
    (or_below n _ _ (word_below (codes "fwd:") text)
    (or_below n _ _ (word_below (codes "aw:") text) (then_below n (after_word (codes "re[") text) (word_below (codes "re[") text))))))

pub front_within : (text : Text) → length (without_front text) ≤ length text
front_within [] = omega arith
front_within (b ∷ bs) = go (b == 32) (front_within bs)
  where
    go : (s : Bool) → length (without_front bs) ≤ length bs → length (cond s (without_front bs) (b ∷ bs)) ≤ suc (length bs)
    go true le = omega (arith, le)
    go false le = omega arith

abbrev pub turn_of : (Text → Text) → Text → Option Text → Text
turn_of next text None = text
turn_of next text (Some rest) = next (without_front rest)

pub step : (turns : ℕ) (prefix text : Text) → stripped (suc turns) prefix text ≡ turn_of (stripped turns prefix) text (after_mark prefix text)
unfolding stripped
step turns prefix text = go (after_mark prefix text)
  where
    go : (o : Option Text) → elim o as (λ o. Text) [ None ↦ text | Some rest ↦ stripped turns prefix (without_front rest) ] ≡ turn_of (stripped turns prefix) text o
    go None = refl
    go (Some rest) = refl

nothing : (prefix : Text) → after_mark prefix [] ≡ None
nothing prefix = go (after_mark prefix []) refl (mark_below prefix [])
  where
    go : (o : Option Text) → after_mark prefix [] ≡ o → Below 0 o → after_mark prefix [] ≡ None
    go None is below = is
    go (Some t) is below = absurd (omega (arith, below))

-- more turns than the text has bytes change nothing
pub turns_enough : (a b : ℕ) (prefix text : Text) → length text ≤ a → length text ≤ b → stripped a prefix text ≡ stripped b prefix text
unfolding stripped
turns_enough zero zero prefix text p q = refl
turns_enough zero (suc b) prefix [] p q = sym (step b prefix [] ∙ ap (turn_of (stripped b prefix) []) (nothing prefix))
turns_enough zero (suc b) prefix (x ∷ xs) p q = absurd (omega (arith, p))
turns_enough (suc a) zero prefix [] p q = step a prefix [] ∙ ap (turn_of (stripped a prefix) []) (nothing prefix)
turns_enough (suc a) zero prefix (x ∷ xs) p q = absurd (omega (arith, q))
turns_enough (suc a) (suc b) prefix text p q =
    step a prefix text ∙ go (after_mark prefix text) (mark_below prefix text) (λ rest r s. turns_enough a b prefix rest r s) ∙ sym (step b prefix text)
  where
    go : (o : Option Text) → Below (length text) o → ((rest : Text) → length rest ≤ a → length rest ≤ b → stripped a prefix rest ≡ stripped b prefix rest)
        → turn_of (stripped a prefix) text o ≡ turn_of (stripped b prefix) text o
    go None below later = refl
    go (Some rest) below later = let w = front_within rest in later (without_front rest) (omega (arith, w, below, p)) (omega (arith, w, below, q))

-- one mark was taken off
pub strip_more : (prefix low text more rest : Text) → low ≡ lower prefix → Some more ≡ after_lower low text → rest ≡ without_front more → stripped (length rest) prefix rest ≡ stripped (length text) prefix text
strip_more prefix low [] more rest is found then = absurd (let bad : Some more ≡ None = found ∙ ap (λ l. after_lower l []) is ∙ nothing prefix in cc)
strip_more prefix low (b ∷ bs) more rest is found then =
    let there : after_mark prefix (b ∷ bs) ≡ Some more = sym (found ∙ ap (λ l. after_lower l (b ∷ bs)) is) in
    sym (step (length bs) prefix (b ∷ bs) ∙ ap (turn_of (stripped (length bs) prefix) (b ∷ bs)) there ∙ ap (stripped (length bs) prefix) (sym then)
    ∙ turns_enough (length bs) (length rest) prefix rest (below there) (omega arith))
  where
    below : after_mark prefix (b ∷ bs) ≡ Some more → length rest ≤ length bs
    below there = go (after_mark prefix (b ∷ bs)) there (mark_below prefix (b ∷ bs))
      where
        go : (o : Option Text) → o ≡ Some more → Below (suc (length bs)) o → length rest ≤ length bs
        go None is less = absurd (let bad : None ≡ Some more = is in cc)
        go (Some t) is less = let same : t ≡ more = cc in let w = front_within more in omega (arith, w, less, ap length then, ap length same)

-- no mark is left
pub strip_none : (prefix low text : Text) → low ≡ lower prefix → None ≡ after_lower low text → text ≡ stripped (length text) prefix text
unfolding stripped
strip_none prefix low [] is found = refl
strip_none prefix low (b ∷ bs) is found = sym (step (length bs) prefix (b ∷ bs) ∙ ap (turn_of (stripped (length bs) prefix) (b ∷ bs)) (sym (found ∙ ap (λ l. after_lower l (b ∷ bs)) is)))

-- spaces at the end
end_space : (xs : Text) → without_end (xs ++ 32 ∷ []) ≡ without_end xs
end_space [] = refl
end_space (b ∷ bs) = ap (λ t. cond (b == 32 && is_empty t) [] (b ∷ t)) (end_space bs)

not_empty : (xs : Text) (c : ℕ) → is_empty (xs ++ c ∷ []) ≡ false
not_empty [] c = refl
not_empty (x ∷ xs) c = refl

end_other : (xs : Text) (c : ℕ) → (c == 32) ≡ false → without_end (xs ++ c ∷ []) ≡ xs ++ c ∷ []
end_other [] c other = ap (λ t. cond (t && true) [] (c ∷ [])) other
end_other (b ∷ bs) c other =
    ap (λ t. cond (b == 32 && is_empty t) [] (b ∷ t)) (end_other bs c other) ∙ ap (λ t. cond (b == 32 && t) [] (b ∷ bs ++ c ∷ [])) (not_empty bs c) ∙ go (b == 32)
  where
    go : (t : Bool) → cond (t && false) [] (b ∷ bs ++ c ∷ []) ≡ b ∷ bs ++ c ∷ []
    go true = refl
    go false = refl

take_on : (m : ℕ) (xs : Text) → m < length xs → take (suc m) xs ≡ take m xs ++ get_or xs m 0 ∷ []
take_on m [] less = absurd (omega (arith, less))
take_on zero (x ∷ xs) less = refl
take_on (suc m) (x ∷ xs) less = ap (λ t. x ∷ t) (take_on m xs (omega (arith, less)))

take_last : (n : ℕ) (xs : Text) → 0 < n → n ≤ length xs → take n xs ≡ take (n - 1) xs ++ get_or xs (n - 1) 0 ∷ []
take_last n xs some le =
    let one : n ≡ suc (n - 1) = omega (arith, some) in
    ap (λ (k : ℕ). take k xs) one ∙ take_on (n - 1) xs (omega (arith, some, le))

pub end_turn : (n : ℕ) (text : Text) → 0 < n → n ≤ length text → get_or text (n - 1) 0 ≡ 32 → without_end (take (n - 1) text) ≡ without_end (take n text)
end_turn n text some le space = sym (ap without_end (take_last n text some le) ∙ ap (λ c. without_end (take (n - 1) text ++ c ∷ [])) space ∙ end_space (take (n - 1) text))

pub end_stop : (n : ℕ) (text : Text) → 0 < n → n ≤ length text → (get_or text (n - 1) 0 == 32) ≡ false → take n text ≡ without_end (take n text)
end_stop n text some le other = sym (ap without_end (take_last n text some le) ∙ end_other (take (n - 1) text) (get_or text (n - 1) 0) other ∙ sym (take_last n text some le))

-- lower case leaves spaces as they are
pub low_space : (b : ℕ) → (to_ascii_lowercase b == 32) ≡ (b == 32)
low_space b = grind (arith, common_steps)

pub front_lower : (text : Text) → without_front (lower text) ≡ lower (without_front text)
front_lower [] = refl
front_lower (b ∷ bs) = ap (λ t. cond t (without_front (lower bs)) (to_ascii_lowercase b ∷ lower bs)) (low_space b) ∙ go (b == 32) (front_lower bs)
  where
    go : (t : Bool) → without_front (lower bs) ≡ lower (without_front bs) → cond t (without_front (lower bs)) (to_ascii_lowercase b ∷ lower bs) ≡ lower (cond t (without_front bs) (b ∷ bs))
    go true e = e
    go false e = refl

empty_lower : (text : Text) → is_empty (lower text) ≡ is_empty text
empty_lower [] = refl
empty_lower (b ∷ bs) = refl

pub end_lower : (text : Text) → without_end (lower text) ≡ lower (without_end text)
end_lower [] = refl
end_lower (b ∷ bs) =
    ap₂ (λ t (e : Text). cond (t && is_empty e) [] (to_ascii_lowercase b ∷ e)) (low_space b) (end_lower bs)
    ∙ ap (λ e. cond (b == 32 && e) [] (to_ascii_lowercase b ∷ lower (without_end bs))) (empty_lower (without_end bs)) ∙ go (b == 32 && is_empty (without_end bs))
  where
    go : (t : Bool) → cond t [] (to_ascii_lowercase b ∷ lower (without_end bs)) ≡ lower (cond t [] (b ∷ without_end bs))
    go true = refl
    go false = refl

-- the loop over the spaces at the end
pub end_none : (n : ℕ) (text : Text) → without_end (take n text) ≡ without_end text → n ≡ 0 → take n text ≡ without_end text
end_none n text before none = ap (λ (k : ℕ). take k text) none ∙ sym (ap (λ (k : ℕ). without_end (take k text)) none) ∙ before

pub end_done : (n : ℕ) (text : Text) → without_end (take n text) ≡ without_end text → n ≤ length text → (get_or text (n - 1) 0 ≡ 32 → ⊥) → take n text ≡ without_end text
end_done n text before le other = go (cases_lt 0 n)
  where
    go : ((0 < n) ⊎ (n ≤ 0)) → take n text ≡ without_end text
    go (inl some) = end_stop n text some le (ne_eqb (get_or text (n - 1) 0) 32 other) ∙ before
    go (inr none) = end_none n text before (omega (arith, none))

-- making lower case first gives the same key
pub key_made : (prefix subject text : Text) → text ≡ without_end (without_front (lower (squeezed subject))) → stripped (length text) prefix text ≡ subject_key prefix subject
key_made prefix subject text is =
    ap (λ t. stripped (length t) prefix t) (is ∙ ap without_end (front_lower (squeezed subject)) ∙ end_lower (without_front (squeezed subject)))

-- How a text is cut at its first line of some kind, and that there is only one such cut.
use Rattle.std.proofs.Common.{◌≡◌, ◌≢◌, ◌-◌, Bool, true, false, cond, not, ◌==◌, ◌||◌, List, [], ◌∷◌, ◌++◌, length, take, Option, Some, None, refl, sym, ap, ap₂, ◌∙◌, subst, arith, append_assoc, length-append}
use Rattle.std.specs.List.{AllByRecursion}
use Rattle.std.specs.Str.{bytes_eq}
use Rattle.std.proofs.lemmas.List.{take_at}
use Rattle.std.proofs.lemmas.Slice.Eq.{bytes_eq-Decides}
use Rattle.ml_base.specs.Address.{before_at, past_at}
use Rattle.ml_base.specs.Bytes.{Text}
use Rattle.ml_base.specs.Splits.{has_byte, split_first, onto_first}
use Rattle.ml_base.specs.Texts.{lf, lines_text}
use Rattle.ml_base.proofs.SplitLaws.{first_written, first_read}
use Rattle.ml_base.proofs.Cuts.{two, no_two}
use Rattle.ml_digest.specs.Burst.{IsLine, HaveNo}
use Rattle.ml_digest.specs.Reading.{IsCut, HasNoCut, IsPassed}
use Rattle.ml_digest.proofs.Laid.{all_both}

-- the text before the first LF is determined
pub line_one : (x y a b : Text) → IsLine x → IsLine y → x ++ 10 ∷ a ≡ y ++ 10 ∷ b → (x ≡ y) × (a ≡ b)
line_one x y a b p q e =
    let both : two x a ≡ two y b = sym (first_written 10 x a p) ∙ ap (split_first 10) e ∙ first_written 10 y b q in
    (ap before_at both, ap past_at both)

pub lines_cons : (x : Text) (xs : List Text) (t : Text) → lines_text (x ∷ xs) ++ t ≡ x ++ 10 ∷ (lines_text xs ++ t)
lines_cons x xs t = append_assoc (x ++ lf) (lines_text xs) t ∙ append_assoc x lf (lines_text xs ++ t)

pub lines_push : (xs : List Text) (x t : Text) → lines_text (xs ++ x ∷ []) ++ t ≡ lines_text xs ++ (x ++ 10 ∷ t)
lines_push [] x t = lines_cons x [] t
lines_push (y ∷ ys) x t = lines_cons y (ys ++ x ∷ []) t ∙ ap (λ r. y ++ 10 ∷ r) (lines_push ys x t) ∙ sym (lines_cons y ys (x ++ 10 ∷ t))

-- what holds of all lines of two rows holds of those of each row
pub all_left : (P : Text → Type 0) (xs ys : List Text) → AllByRecursion P (xs ++ ys) → AllByRecursion P xs
all_left P [] ys all = tt
all_left P (x ∷ xs) ys all = (all.0, all_left P xs ys all.1)

pub all_right : (P : Text → Type 0) (xs ys : List Text) → AllByRecursion P (xs ++ ys) → AllByRecursion P ys
all_right P [] ys all = all
all_right P (x ∷ xs) ys all = all_right P xs ys all.1

-- lines that were passed come before the line that is wanted
pub record Onward (xs ys : List Text) (rest wanted after : Text) : Type 0 where
  pub more : List Text
  pub all : ys ≡ xs ++ more
  pub left : rest ≡ lines_text more ++ (wanted ++ 10 ∷ after)

pub onward : (wanted : Text) (xs ys : List Text) (rest after : Text) → IsLine wanted → AllByRecursion IsLine xs → AllByRecursion IsLine ys → HaveNo wanted xs
    → lines_text xs ++ rest ≡ lines_text ys ++ (wanted ++ 10 ∷ after) → Onward xs ys rest wanted after
onward wanted [] ys rest after w a b none e = record { more = ys; all = refl; left = e }
onward wanted (x ∷ xs) [] rest after w a b none e =
    absurd (none.0 (line_one x wanted (lines_text xs ++ rest) after a.0 w (sym (lines_cons x xs rest) ∙ e)).0)
onward wanted (x ∷ xs) (y ∷ ys) rest after w a b none e =
    let parts = line_one x y (lines_text xs ++ rest) (lines_text ys ++ (wanted ++ 10 ∷ after)) a.0 b.0 (sym (lines_cons x xs rest) ∙ e ∙ lines_cons y ys (wanted ++ 10 ∷ after)) in
    let on = onward wanted xs ys rest after w a.1 b.1 none.1 parts.1 in
    record { more = on.more; all = ap₂ (λ (t : Text) (ts : List Text). t ∷ ts) (sym parts.0) on.all; left = on.left }

-- two cuts at the same line are the same
pub cut_one : (v : Text) (xs ys : List Text) (a b : Text) → IsLine v → AllByRecursion IsLine xs → AllByRecursion IsLine ys → HaveNo v xs → HaveNo v ys
    → lines_text xs ++ (v ++ 10 ∷ a) ≡ lines_text ys ++ (v ++ 10 ∷ b) → (xs ≡ ys) × (a ≡ b)
cut_one v [] [] a b w p q none also e = (refl, (line_one v v a b w w e).1)
cut_one v [] (y ∷ ys) a b w p q none also e = absurd (also.0 (sym (line_one v y a (lines_text ys ++ (v ++ 10 ∷ b)) w q.0 (e ∙ lines_cons y ys (v ++ 10 ∷ b))).0))
cut_one v (x ∷ xs) [] a b w p q none also e = absurd (none.0 (line_one x v (lines_text xs ++ (v ++ 10 ∷ a)) b p.0 w (sym (lines_cons x xs (v ++ 10 ∷ a)) ∙ e)).0)
cut_one v (x ∷ xs) (y ∷ ys) a b w p q none also e =
    let parts = line_one x y (lines_text xs ++ (v ++ 10 ∷ a)) (lines_text ys ++ (v ++ 10 ∷ b)) p.0 q.0 (sym (lines_cons x xs (v ++ 10 ∷ a)) ∙ e ∙ lines_cons y ys (v ++ 10 ∷ b)) in
    let rest = cut_one v xs ys a b w p.1 q.1 none.1 also.1 parts.1 in
    (ap₂ (λ (t : Text) (ts : List Text). t ∷ ts) parts.0 rest.0, rest.1)

-- an LF is in a text
pub lf_in : (a b : Text) → has_byte 10 (a ++ 10 ∷ b) ≡ true
lf_in [] b = refl
lf_in (x ∷ xs) b = ap (λ t. (x == 10) || t) (lf_in xs b) ∙ or_true (x == 10)
  where
    or_true : (t : Bool) → (t || true) ≡ true
    or_true true = refl
    or_true false = refl

pub lf_after : (xs : List Text) (v b : Text) → has_byte 10 (lines_text xs ++ (v ++ 10 ∷ b)) ≡ true
lf_after [] v b = lf_in v b
lf_after (x ∷ xs) v b = ap (has_byte 10) (lines_cons x xs (v ++ 10 ∷ b)) ∙ lf_in x (lines_text xs ++ (v ++ 10 ∷ b))

-- one more line was passed
pub passed_more : (wanted barred text rest line more : Text) → IsPassed wanted barred text rest → Some (line, more) ≡ split_first 10 rest → line ≢ wanted → line ≢ barred → IsPassed wanted barred text more
passed_more wanted barred text rest line more was cut other also =
    let parts = first_read 10 rest line more (sym cut) in
    record {
      rows = was.rows ++ line ∷ [];
      each = all_both IsLine was.rows (line ∷ []) was.each (parts.1, tt);
      none_wanted = all_both (λ l. l ≢ wanted) was.rows (line ∷ []) was.none_wanted (other, tt);
      none_barred = all_both (λ l. l ≢ barred) was.rows (line ∷ []) was.none_barred (also, tt);
      whole = was.whole ∙ ap (λ t. lines_text was.rows ++ t) parts.0 ∙ sym (lines_push was.rows line more);
    }

-- the barred line comes first
pub barred_first : (wanted barred text rest line more : Text) → IsLine wanted → IsPassed wanted barred text rest → Some (line, more) ≡ split_first 10 rest → line ≢ wanted → line ≡ barred → HasNoCut wanted barred text
barred_first wanted barred text rest line more w was cut other same before after is =
    let on = onward wanted was.rows is.rows rest after w was.each is.each was.none_wanted (sym was.whole ∙ is.whole) in
    let parts = first_read 10 rest line more (sym cut) in
    go on.more on.all (sym parts.0 ∙ on.left) parts.1
  where
    go : (zs : List Text) → is.rows ≡ was.rows ++ zs → line ++ 10 ∷ more ≡ lines_text zs ++ (wanted ++ 10 ∷ after) → IsLine line → ⊥
    go [] all left is_line = other (line_one line wanted more after is_line w left).0
    go (z ∷ zs) all left is_line =
        let each : AllByRecursion IsLine (z ∷ zs) = all_right IsLine was.rows (z ∷ zs) (subst (λ rows. AllByRecursion IsLine rows) all is.each) in
        let none : HaveNo barred (z ∷ zs) = all_right (λ l. l ≢ barred) was.rows (z ∷ zs) (subst (λ rows. HaveNo barred rows) all is.none_barred) in
        none.0 (sym (line_one line z more (lines_text zs ++ (wanted ++ 10 ∷ after)) is_line each.0 (left ∙ lines_cons z zs (wanted ++ 10 ∷ after))).0 ∙ same)

-- the wanted line is here
pub cut_here : (wanted barred text rest line more : Text) → IsPassed wanted barred text rest → Some (line, more) ≡ split_first 10 rest → line ≡ wanted
    → IsCut wanted barred text (take (length text - length rest) text) more
cut_here wanted barred text rest line more was cut same =
    let parts = first_read 10 rest line more (sym cut) in
    record {
      rows = was.rows;
      each = was.each;
      none_wanted = was.none_wanted;
      none_barred = was.none_barred;
      front = ap (take (length text - length rest)) was.whole ∙ take_at (lines_text was.rows) rest (length text - length rest) (let whole = ap length was.whole in omega (arith, whole, length-append (lines_text was.rows) rest));
      whole = was.whole ∙ ap (λ t. lines_text was.rows ++ t) (parts.0 ∙ ap (λ t. t ++ 10 ∷ more) same);
    }

-- a text that can't be split at an LF has none
pub not_split : (rest : Text) → None ≡ split_first 10 rest → has_byte 10 rest ≡ false
not_split [] e = refl
not_split (x ∷ xs) e = go (x == 10) refl (split_first 10 xs) refl (λ same. not_split xs same)
  where
    go : (t : Bool) → (x == 10) ≡ t → (o : Option (Text × Text)) → split_first 10 xs ≡ o → (None ≡ split_first 10 xs → has_byte 10 xs ≡ false) → has_byte 10 (x ∷ xs) ≡ false
    go true is o found more = absurd (let bad : no_two ≡ two [] xs = e ∙ ap (λ t. cond t (two [] xs) (onto_first x (split_first 10 xs))) is in cc)
    go false is None found more = ap₂ (λ a b. a || b) is (more (sym found))
    go false is (Some p) found more = absurd (let bad : no_two ≡ two (x ∷ p.0) p.1 = e ∙ ap₂ (λ t o. cond t (two [] xs) (onto_first x o)) is found in cc)

-- bytes that compare equal are the same
pub same_bytes : (a b : Text) (t : Bool) → t ≡ bytes_eq a b → t ≡ true → a ≡ b
same_bytes a b t e is = (bytes_eq-Decides a b).0 (sym e ∙ is)

pub other_bytes : (a b : Text) (t : Bool) → t ≡ bytes_eq a b → t ≡ false → a ≢ b
other_bytes a b t e is same = let bad : true ≡ false = sym ((bytes_eq-Decides a b).1 same) ∙ sym e ∙ is in cc

pub not_other : (a b : Text) (t : Bool) → t ≡ not (bytes_eq a b) → t ≡ true → a ≢ b
not_other a b t e is same = let bad : false ≡ true = ap not (sym ((bytes_eq-Decides a b).1 same)) ∙ sym e ∙ is in cc

pub not_same : (a b : Text) (t : Bool) → t ≡ not (bytes_eq a b) → t ≡ false → a ≡ b
not_same a b t e is = go (bytes_eq a b) refl
  where
    go : (s : Bool) → bytes_eq a b ≡ s → a ≡ b
    go true same = (bytes_eq-Decides a b).0 same
    go false other = absurd (let bad : true ≡ false = ap not (sym other) ∙ sym e ∙ is in cc)

-- no line is left
pub no_lines_left : (wanted barred text rest : Text) → IsLine wanted → IsPassed wanted barred text rest → has_byte 10 rest ≡ false → HasNoCut wanted barred text
no_lines_left wanted barred text rest w was none before after is =
    let on = onward wanted was.rows is.rows rest after w was.each is.each was.none_wanted (sym was.whole ∙ is.whole) in
    let bad : true ≡ false = sym (lf_after on.more wanted after) ∙ ap (has_byte 10) (sym on.left) ∙ none in
    cc

-- two cuts of a text are the same
pub cuts_one : (wanted barred text a b x y : Text) → IsLine wanted → IsCut wanted barred text a b → IsCut wanted barred text x y → (a ≡ x) × (b ≡ y)
cuts_one wanted barred text a b x y w is also =
    let one = cut_one wanted is.rows also.rows b y w is.each also.each is.none_wanted also.none_wanted (sym is.whole ∙ also.whole) in
    (is.front ∙ ap lines_text one.0 ∙ sym also.front, one.1)

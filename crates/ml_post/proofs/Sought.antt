-- Finding addresses in a text, by the first place where they occur.
use Rattle.std.proofs.Common.{◌≡◌, ℕ, zero, suc, ◌+◌, ◌-◌, take, ◌<◌, ◌≤◌, Bool, true, false, ◌&&◌, ◌||◌, [], ◌∷◌, length, drop, get_or, length-drop, drop-cons, Option, Some, refl, sym, ap, subst, ◌∙◌, arith}
use Rattle.std.specs.Prelude.{slice_get}
use Rattle.std.proofs.lemmas.Bool.{and_from, and_parts, eqb-true, eq-eqb, false≢true}
use Rattle.std.proofs.lemmas.Grind.{common_steps}
use Rattle.std.proofs.lemmas.List.{get_or-drop}
use Rattle.std.proofs.lemmas.Option.{slice_get_past}
use Rattle.memchr.specs.Find.{OccursAt}
use Rattle.ml_base.specs.Bytes.{Text}
use Rattle.ml_header.specs.Lines.{begins_with}
use Rattle.ml_plain.specs.Verdicts.{has_address, is_free, goes_on_left, goes_on_right}
use Rattle.ml_post.specs.Places.{byte_before}

-- the byte before a place after the front is the last byte before it in the text
pub byte_before-suc : (before : Option ℕ) (text : Text) (at : ℕ) → at < length text → byte_before before text (suc at) ≡ Some (get_or text at 0)
byte_before-suc before [] at h = absurd (omega arith)
byte_before-suc before (b ∷ bs) zero h = refl
byte_before-suc before (b ∷ bs) (suc at) h = byte_before-suc (Some b) bs at (omega arith)

-- what occurs at a place occurs one place later once a byte stands in front
occurs_later : (b : ℕ) (bs needle : Text) (k : ℕ) → OccursAt bs needle k → OccursAt (b ∷ bs) needle (suc k)
occurs_later b bs needle k o = record {
  fits = omega (arith, o.fits);
  reads = λ j h. let e : suc k + j ≡ suc (k + j) = omega arith in ap (λ i. get_or (b ∷ bs) i 0) e ∙ o.reads j h;
}

-- a text begins with another exactly if that one occurs at its front
occurs_front : (needle text : Text) → begins_with needle text ≡ true → OccursAt text needle 0
occurs_front [] text b = record { fits = omega arith; reads = λ j h. absurd (omega arith) }
occurs_front (a ∷ rest) [] b = absurd (false≢true b)
occurs_front (a ∷ rest) (t ∷ ts) b =
    let parts = and_parts _ _ b in
    let o = occurs_front rest ts parts.1 in
    record {
      fits = omega (arith, o.fits);
      reads = read_on a rest t ts (sym (eqb-true _ _ parts.0)) o;
    }
  where
    read_on : (a : ℕ) (rest : Text) (t : ℕ) (ts : Text) → t ≡ a → OccursAt ts rest 0 → (j : ℕ) → j < length (a ∷ rest) → get_or (t ∷ ts) (0 + j) 0 ≡ get_or (a ∷ rest) j 0
    read_on a rest t ts e o zero h = e
    read_on a rest t ts e o (suc j) h = let at : 0 + suc j ≡ suc (0 + j) = omega arith in ap (λ i. get_or (t ∷ ts) i 0) at ∙ o.reads j (omega arith)

pub front_occurs : (needle text : Text) → OccursAt text needle 0 → begins_with needle text ≡ true
front_occurs [] text o = refl
front_occurs (a ∷ rest) [] o = absurd (omega (arith, o.fits))
front_occurs (a ∷ rest) (t ∷ ts) o =
    let later : OccursAt ts rest 0 = record {
      fits = omega (arith, o.fits);
      reads = λ j h. let at : suc (0 + j) ≡ 0 + suc j = omega arith in ap (λ i. get_or (t ∷ ts) i 0) at ∙ o.reads (suc j) (omega arith);
    } in
    and_from _ _ (eq-eqb _ _ (sym (o.reads 0 (omega arith)))) (front_occurs rest ts later)

-- a test that doesn't hold
never : (x : Bool) → (x ≡ true → ⊥) → x ≡ false
never true h = absurd (h refl)
never false h = refl

-- if an address doesn't stand at the front, it is one of what comes after the first byte
or_later : (f b r h : Bool) → b ≡ false → ((f && (b && r)) || h) ≡ h
or_later true true r h e = absurd (false≢true (sym e))
or_later true false r h e = refl
or_later false b r h e = refl

or_here : (f b r h : Bool) → b ≡ true → ((f && (b && r)) || h) ≡ ((f && r) || h)
or_here f true r h e = refl
or_here f false r h e = absurd (false≢true e)

-- an address that stands at no place before this one may be one of what comes from there on
pub skipped : (address : Text) (before : Option ℕ) (text : Text) (at : ℕ) → at ≤ length text → ((k : ℕ) → k < at → OccursAt text address k → ⊥)
    → has_address address before text ≡ has_address address (byte_before before text at) (drop at text)
skipped address before text zero h none = refl
skipped address before [] (suc at) h none = absurd (omega arith)
skipped address before (b ∷ bs) (suc at) h none =
    let here = never (begins_with address (b ∷ bs)) (λ is. none 0 (omega arith) (occurs_front address (b ∷ bs) is)) in
    or_later (is_free goes_on_left before) _ (is_free goes_on_right (slice_get (b ∷ bs) (length address))) _ here
    ∙ skipped address (Some b) bs at (omega arith) (λ k less o. none (suc k) (omega arith) (occurs_later b bs address k o))

drop_all : (text : Text) → drop (length text) text ≡ []
drop_all [] = refl
drop_all (b ∷ bs) = drop_all bs

pub nowhere : (address : Text) (before : Option ℕ) (text : Text) → ((k : ℕ) → k < length text + 1 → OccursAt text address k → ⊥) → has_address address before text ≡ false
nowhere address before text none =
    skipped address before text (length text) (omega arith) (λ k less o. none k (omega arith) o)
    ∙ ap (has_address address (byte_before before text (length text))) (drop_all text)

-- what occurs at a place occurs at the front of what comes from there on
occurs_after : (text needle : Text) (k : ℕ) → OccursAt text needle k → OccursAt (drop k text) needle 0
occurs_after text needle k o = record {
  fits = omega (arith, length-drop k text, o.fits);
  reads = λ j h. get_or-drop k text (0 + j) 0 ∙ (let e : k + (0 + j) ≡ k + j = omega arith in ap (λ i. get_or text i 0) e ∙ o.reads j h);
}

-- the byte at a place of what comes from a place on
got_after : (text : Text) (k i : ℕ) → slice_get (drop k text) i ≡ slice_get text (k + i)
got_after text zero i = let e : i ≡ zero + i = omega arith in ap (slice_get text) e
got_after [] (suc k) i = slice_get_past [] i (omega arith) ∙ sym (slice_get_past [] (suc k + i) (omega arith))
got_after (b ∷ bs) (suc k) i = got_after bs k i ∙ (let e : suc (k + i) ≡ suc k + i = omega arith in ap (slice_get (b ∷ bs)) e)

-- The first place at which the address occurs decides, or what comes after its first byte.
pub placed : (address : Text) (before : Option ℕ) (text : Text) (at : ℕ) → at < length text → ((k : ℕ) → k < at → OccursAt text address k → ⊥) → OccursAt text address at
    → has_address address before text
    ≡ ((is_free goes_on_left (byte_before before text at) && is_free goes_on_right (slice_get text (at + length address))) || has_address address (Some (get_or text at 0)) (drop (at + 1) text))
placed address before text at h none o =
    let first = get_or text at 0 in
    let more = drop (suc at) text in
    let e : drop at text ≡ first ∷ more = drop-cons text at 0 h in
    let stands = front_occurs address (first ∷ more) (subst (λ (t : Text). OccursAt t address 0) e (occurs_after text address at o)) in
    let left = is_free goes_on_left (byte_before before text at) in
    let right = λ (t : Text). is_free goes_on_right (slice_get t (length address)) in
    let after : right (first ∷ more) ≡ is_free goes_on_right (slice_get text (at + length address)) =
    ap right (sym e) ∙ ap (is_free goes_on_right) (got_after text at (length address)) in
    let one : suc at ≡ at + 1 = omega arith in
    skipped address before text at (omega arith) none
    ∙ (ap (has_address address (byte_before before text at)) e
    ∙ (or_here left _ (right (first ∷ more)) _ stands
    ∙ (ap (λ r. (left && r) || has_address address (Some first) more) after
    ∙ ap (λ n. (left && is_free goes_on_right (slice_get text (at + length address))) || has_address address (Some first) (drop n text)) one)))

-- what holds of the byte at a place and of what comes after it also holds of them as they are cut from the text
pub cut_after : (P : ℕ → Text → Type 0) (text : Text) (at : ℕ) → at < length text → P (get_or text at 0) (drop (at + 1) text)
    → let found = take (length text - at) (drop at text) in P (get_or found 0 0) (take (length found - 1) (drop 1 found))
cut_after P text at h holds =
    let found : take (length text - at) (drop at text) ≡ drop at text = grind (arith, common_steps) in
    let first : get_or (drop at text) 0 0 ≡ get_or text at 0 = grind (arith, common_steps) in
    let more : take (length (drop at text) - 1) (drop 1 (drop at text)) ≡ drop (at + 1) text = grind (arith, common_steps) in
    let there : P (get_or (drop at text) 0 0) (drop (at + 1) text) = subst (λ (b : ℕ). P b (drop (at + 1) text)) (sym first) holds in
    let whole : P (get_or (drop at text) 0 0) (take (length (drop at text) - 1) (drop 1 (drop at text))) = subst (P (get_or (drop at text) 0 0)) (sym more) there in
    subst (λ (t : Text). P (get_or t 0 0) (take (length t - 1) (drop 1 t))) (sym found) whole

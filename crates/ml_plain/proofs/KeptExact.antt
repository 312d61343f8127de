-- The floor's file and the slots of kept replies are read as exactly what they spell.
use Rattle.std.proofs.Common.{◌≡◌, ◌↔◌, ◌≢◌, ◌<◌, ℕ, zero, suc, Bool, true, false, cond, not, leb, ◌&&◌, ◌==◌, [], ◌∷◌, length, replicate, get_or, Option, Some, None, refl, sym, ap, ap₂, ◌∙◌, arith, subst}
use Rattle.std.proofs.lemmas.Bool.{and_parts, eqb-true, leb-true, leb-false, le-leb, lt-leb, ne_eqb}
use Rattle.std.proofs.lemmas.Nat.{be_bytes_8, from_be_bytes-to_be_bytes_8}
use Rattle.std.specs.Int.{from_be_bytes, to_be_bytes, w64}
use Rattle.std.specs.List.{AllByRecursion, list_all}
use Rattle.ml_base.specs.Bytes.{Text, is_nul}
use Rattle.ml_rows.specs.Values.{line_number, number_line}
use Rattle.ml_rows.proofs.RowLaws.{one_some, none_some, only_read, only_there}
use Rattle.ml_rows.proofs.ValueLaws.{line_read, line_written}
use Rattle.ml_plain.specs.declared.Reply.{Reply}
use Rattle.ml_plain.specs.KeptFiles.{may_be_kept, IsFloorFile, floor_file, IsSlot, slot_text}
use Rattle.ml_plain.specs.KeptRead.{floor_in, if_kept, reply_in}
use Rattle.ml_plain.proofs.Slots.{kept_small}

abbrev some : {A : Type 0} → A → Option A
some a = Some a

abbrev floor_by : ℕ → Bool → Option Text
floor_by floor t = cond t None (Some (number_line floor))

-- a floor's file
floor_there : (file : Option Text) (floor : ℕ) → IsFloorFile file floor → floor_in file ≡ Some floor
floor_there file floor is = go (leb floor 1) refl
  where
    go : (t : Bool) → leb floor 1 ≡ t → floor_in file ≡ Some floor
    go true e =
        let most = leb-true floor 1 e in
        let least = is.least in
        let one : 1 ≡ floor = omega (arith, most, least) in
        ap floor_in (is.text ∙ ap (floor_by floor) e) ∙ ap some one
    go false e =
        let up = leb-false floor 1 e in
        let at : leb 2 floor ≡ true = le-leb 2 floor up in
        ap floor_in (is.text ∙ ap (floor_by floor) e) ∙ only_there (leb 2) (line_number 999_999_999_999 (number_line floor)) floor (line_written 999_999_999_999 floor (omega arith) is.most) at

floor_is : (file : Option Text) (floor : ℕ) → floor_in file ≡ Some floor → IsFloorFile file floor
floor_is None floor e =
    let one : 1 ≡ floor = one_some 1 floor e in record {
      least = omega (arith, one);
      most = omega (arith, one);
      text = ap floor_file one;
    }
floor_is (Some text) floor e =
    let read = only_read (leb 2) (line_number 999_999_999_999 text) floor e in
    let line = line_read 999_999_999_999 text floor (omega arith) read.0 in
    let up = leb-true 2 floor read.1 in record {
      least = omega (arith, up);
      most = line.0;
      text = ap some line.1 ∙ sym (ap (floor_by floor) (lt-leb floor 1 (omega (arith, up))));
    }

pub floor_exact : (file : Option Text) (floor : ℕ) → IsFloorFile file floor ↔ (floor_in file ≡ Some floor)
floor_exact file floor = (floor_there file floor, floor_is file floor)

-- a text of zeros alone is that many zeros
all_zeros : (text : Text) → list_all is_nul text ≡ true → text ≡ replicate (length text) 0
all_zeros [] e = refl
all_zeros (b ∷ bs) e =
    let parts = and_parts (b == 0) (list_all is_nul bs) e in ap₂ (λ (x : ℕ) (t : Text). x ∷ t) (eqb-true b 0 parts.0) (all_zeros bs parts.1)

-- every place of a text of bytes has a byte
small : (text : Text) → AllByRecursion (λ b. b < 256) text → (i : ℕ) → get_or text i 0 < 256
small [] h i = omega arith
small (b ∷ bs) h zero = h.0
small (b ∷ bs) h (suc i) = small bs h.1 i

abbrev if_zeros : ℕ → Reply → Bool → Option (Option Reply)
if_zeros n r t = cond t (Some None) (if_kept n r)

abbrev if_fits : Reply → Bool → Option (Option Reply)
if_fits r t = cond t (Some (Some r)) None

-- a slot that spells a reply, or none
pub slot_there : (n : ℕ) (o : Option Reply) → IsSlot n o → reply_in n (slot_text o) ≡ Some o
unfolding slot_text
slot_there n None is = refl
slot_there n (Some r) is =
    let code = ne_eqb r.code 0 (kept_small r is.1).0 in
    let number = from_be_bytes-to_be_bytes_8 r.number (kept_small r is.1).1 in
    ap (λ t. if_zeros n (record { code = r.code; number = from_be_bytes w64 (to_be_bytes w64 r.number) }) (t && list_all is_nul (to_be_bytes w64 r.number))) code
    ∙ ap (λ m. if_kept n (record { code = r.code; number = m })) number
    ∙ ap₂ (λ s t. if_fits r (not s && t)) (ne_eqb n 0 is.0) is.1

fits_is : (n : ℕ) (r : Reply) (o : Option Reply) → if_kept n r ≡ Some o → (o ≡ Some r) × (n ≢ 0) × (may_be_kept r ≡ true)
fits_is n r o e = go (n == 0) refl (may_be_kept r) refl
  where
    go : (s : Bool) → (n == 0) ≡ s → (t : Bool) → may_be_kept r ≡ t → (o ≡ Some r) × (n ≢ 0) × (may_be_kept r ≡ true)
    go true p t q = absurd (none_some o (sym (ap (λ b. if_fits r (not b && may_be_kept r)) p) ∙ e))
    go false p false q = absurd (none_some o (sym (ap₂ (λ a b. if_fits r (not a && b)) p q) ∙ e))
    go false p true q =
        (sym (one_some (some r) o (sym (ap₂ (λ a b. if_fits r (not a && b)) p q) ∙ e)), (λ z. let bad : true ≡ false = sym (ap (λ m. m == 0) z) ∙ p in cc), q)

-- and bytes that are read as a reply, or as none, spell it
pub slot_is : (n : ℕ) (text : Text) (o : Option Reply) → AllByRecursion (λ b. b < 256) text → reply_in n text ≡ Some o → IsSlot n o × (text ≡ slot_text o)
unfolding slot_text
slot_is n [] o bytes e = absurd (none_some o e)
slot_is n (code ∷ digits) o bytes e = go (length digits == 8) refl (list_all is_nul (code ∷ digits)) refl
  where
    reply : Reply
    reply = record { code = code; number = from_be_bytes w64 digits }

    whole : (s : Bool) → (length digits == 8) ≡ s → (t : Bool) → list_all is_nul (code ∷ digits) ≡ t → cond s (if_zeros n reply t) None ≡ Some o
    whole s p t q = sym (ap₂ (λ a b. cond a (if_zeros n reply b) None) p q) ∙ e

    some_is : length digits ≡ 8 → if_kept n reply ≡ Some o → IsSlot n o × (code ∷ digits ≡ slot_text o)
    some_is size is =
        let fits = fits_is n reply o is in
        let number = be_bytes_8 digits (from_be_bytes w64 digits) size (small digits bytes.1) refl in
        subst (λ (p : Option Reply). IsSlot n p × (code ∷ digits ≡ slot_text p)) (sym fits.0) ((fits.1, fits.2), ap (λ (t : Text). code ∷ t) (sym number))

    go : (s : Bool) → (length digits == 8) ≡ s → (t : Bool) → list_all is_nul (code ∷ digits) ≡ t → IsSlot n o × (code ∷ digits ≡ slot_text o)
    go false p t q = absurd (none_some o (whole false p t q))
    go true p true q =
        let none : None ≡ o = one_some None o (whole true p true q) in
        let size : length (code ∷ digits) ≡ 9 = ap suc (eqb-true (length digits) 8 p) in
        subst (λ (x : Option Reply). IsSlot n x × (code ∷ digits ≡ slot_text x)) none (tt, all_zeros (code ∷ digits) q ∙ ap (λ m. replicate m 0) size)
    go true p false q = some_is (eqb-true (length digits) 8 p) (whole true p false q)

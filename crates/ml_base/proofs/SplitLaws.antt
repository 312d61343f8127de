-- What is split is its parts put together, and what is put together is split there again.
use Rattle.std.proofs.Common.{◌≡◌, ℕ, ◌<◌, Bool, true, false, ◌==◌, ◌||◌, cond, List, [], ◌∷◌, ◌++◌, length, Option, Some, None, refl, sym, ap, ap₂, ◌∙◌, arith, length-append}
use Rattle.std.proofs.lemmas.Bool.{eqb-true, eq-eqb}
use Rattle.std.specs.List.{concat, AllByRecursion}
use Rattle.ml_base.specs.Address.{before_at, past_at, IsAddress}
use Rattle.ml_base.specs.Bytes.{Text, split_last, onto_split}
use Rattle.ml_base.specs.Netstrings.{netstring_at}
use Rattle.ml_base.specs.Splits.{has_byte, split_first, onto_first, lines, onto_line, nul_row, ns_row, HaveNoNul, AreShort}
use Rattle.ml_base.proofs.Addresses.{address_clean, address_short}
use Rattle.ml_base.proofs.Bools.{neither}
use Rattle.ml_base.proofs.Netstrings.{netstring_written}
use Rattle.ml_base.proofs.Cuts.{two, no_two}

module _ (byte : ℕ) where
  abbrev first_of : ℕ → Text → Bool → Option (Text × Text) → Option (Text × Text)
  first_of x xs is found = cond is (two [] xs) (onto_first x found)

  pub first_read : (text before after : Text) → split_first byte text ≡ Some (before, after) → (text ≡ before ++ byte ∷ after) × (has_byte byte before ≡ false)
  first_read [] before after e = absurd (let bad : no_two ≡ two before after = e in cc)
  first_read (x ∷ xs) before after e = go (x == byte) refl (split_first byte xs) refl (first_read xs)
    where
      go : (t : Bool) → (x == byte) ≡ t → (o : Option (Text × Text)) → split_first byte xs ≡ o
          → ((a b : Text) → split_first byte xs ≡ Some (a, b) → (xs ≡ a ++ byte ∷ b) × (has_byte byte a ≡ false)) → (x ∷ xs ≡ before ++ byte ∷ after) × (has_byte byte before ≡ false)
      go true is o found more =
          let one : two [] xs ≡ two before after = sym (ap (λ t. first_of x xs t (split_first byte xs)) is) ∙ e in (
            ap₂ (λ y t. y ∷ t) (eqb-true x byte is) (ap past_at one) ∙ ap (λ (t : Text). t ++ byte ∷ after) (ap before_at one),
            sym (ap (λ (o : Option (Text × Text)). has_byte byte (before_at o)) one),
          )
      go false is (Some p) found more =
          let one : two (x ∷ p.0) p.1 ≡ two before after = sym (ap₂ (λ t o. first_of x xs t o) is found) ∙ e in
          let rest = more p.0 p.1 found in (
            ap (λ t. x ∷ t) rest.0 ∙ ap (λ (o : Option (Text × Text)). before_at o ++ byte ∷ past_at o) one,
            sym (ap (λ (o : Option (Text × Text)). has_byte byte (before_at o)) one) ∙ ap₂ (λ a b. a || b) is rest.1,
          )
      go false is None found more = absurd (let bad : no_two ≡ two before after = sym (ap₂ (λ t o. first_of x xs t o) is found) ∙ e in cc)

  pub first_written : (before after : Text) → has_byte byte before ≡ false → split_first byte (before ++ byte ∷ after) ≡ Some (before, after)
  first_written [] after e = ap (λ t. first_of byte after t (split_first byte after)) (eq-eqb byte byte refl)
  first_written (x ∷ xs) after e =
      let parts = neither (x == byte) (has_byte byte xs) e in
      ap₂ (λ t o. first_of x (xs ++ byte ∷ after) t o) parts.0 (first_written xs after parts.1)

  pub first_absent : (text : Text) → has_byte byte text ≡ false → split_first byte text ≡ None
  first_absent [] e = refl
  first_absent (x ∷ xs) e = let parts = neither (x == byte) (has_byte byte xs) e in ap₂ (λ t o. first_of x xs t o) parts.0 (first_absent xs parts.1)

  last_none : (text : Text) → split_last byte text ≡ None → has_byte byte text ≡ false
  last_none [] e = refl
  last_none (x ∷ xs) e = go (x == byte) refl (split_last byte xs) refl (last_none xs)
    where
      go : (t : Bool) → (x == byte) ≡ t → (o : Option (Text × Text)) → split_last byte xs ≡ o → (split_last byte xs ≡ None → has_byte byte xs ≡ false) → has_byte byte (x ∷ xs) ≡ false
      go t is (Some p) found more = absurd (let bad : two (x ∷ p.0) p.1 ≡ no_two = sym (ap (onto_split x (x == byte) xs) found) ∙ e in cc)
      go true is None found more = absurd (let bad : two [] xs ≡ no_two = sym (ap₂ (λ t o. onto_split x t xs o) is found) ∙ e in cc)
      go false is None found more = ap₂ (λ a b. a || b) is (more found)

  pub last_read : (text before after : Text) → split_last byte text ≡ Some (before, after) → (text ≡ before ++ byte ∷ after) × (has_byte byte after ≡ false)
  last_read [] before after e = absurd (let bad : no_two ≡ two before after = e in cc)
  last_read (x ∷ xs) before after e = go (x == byte) refl (split_last byte xs) refl (last_read xs)
    where
      go : (t : Bool) → (x == byte) ≡ t → (o : Option (Text × Text)) → split_last byte xs ≡ o
          → ((a b : Text) → split_last byte xs ≡ Some (a, b) → (xs ≡ a ++ byte ∷ b) × (has_byte byte b ≡ false)) → (x ∷ xs ≡ before ++ byte ∷ after) × (has_byte byte after ≡ false)
      go t is (Some p) found more =
          let one : two (x ∷ p.0) p.1 ≡ two before after = sym (ap (onto_split x (x == byte) xs) found) ∙ e in
          let rest = more p.0 p.1 found in (
            ap (λ t. x ∷ t) rest.0 ∙ ap (λ (o : Option (Text × Text)). before_at o ++ byte ∷ past_at o) one,
            sym (ap (λ (o : Option (Text × Text)). has_byte byte (past_at o)) one) ∙ rest.1,
          )
      go true is None found more =
          let one : two [] xs ≡ two before after = sym (ap₂ (λ t o. onto_split x t xs o) is found) ∙ e in (
            ap (λ y. y ∷ xs) (eqb-true x byte is) ∙ ap (λ (o : Option (Text × Text)). before_at o ++ byte ∷ past_at o) one,
            sym (ap (λ (o : Option (Text × Text)). has_byte byte (past_at o)) one) ∙ last_none xs found,
          )
      go false is None found more = absurd (let bad : no_two ≡ two before after = sym (ap₂ (λ t o. onto_split x t xs o) is found) ∙ e in cc)

  pub last_absent : (text : Text) → has_byte byte text ≡ false → split_last byte text ≡ None
  last_absent [] e = refl
  last_absent (x ∷ xs) e = let parts = neither (x == byte) (has_byte byte xs) e in ap₂ (λ t o. onto_split x t xs o) parts.0 (last_absent xs parts.1)

  pub last_written : (before after : Text) → has_byte byte after ≡ false → split_last byte (before ++ byte ∷ after) ≡ Some (before, after)
  last_written [] after e = ap₂ (λ t o. onto_split byte t after o) (eq-eqb byte byte refl) (last_absent after e)
  last_written (x ∷ xs) after e = ap (onto_split x (x == byte) (xs ++ byte ∷ after)) (last_written xs after e)

onto_joined : (b : ℕ) (ls : List Text) → concat (onto_line b ls) ≡ b ∷ concat ls
onto_joined b [] = refl
onto_joined b (l ∷ ls) = refl

-- the lines of a text, joined, are the text
pub lines_joined : (text : Text) → concat (lines text) ≡ text
lines_joined [] = refl
lines_joined (b ∷ bs) = go (b == 10) (lines_joined bs)
  where
    go : (t : Bool) → concat (lines bs) ≡ bs → concat (cond t ((b ∷ []) ∷ lines bs) (onto_line b (lines bs))) ≡ b ∷ bs
    go true more = ap (λ t. b ∷ t) more
    go false more = onto_joined b (lines bs) ∙ ap (λ t. b ∷ t) more

abbrev pub line_of : ℕ → Bool → List Text → List Text
line_of b is more = cond is ((b ∷ []) ∷ more) (onto_line b more)

abbrev pub has_lf : Text → Bool
has_lf text = has_byte 10 text

-- the bytes up to and with the first LF are a line
pub line_written : (line rest : Text) → has_byte 10 line ≡ false → lines (line ++ 10 ∷ rest) ≡ (line ++ 10 ∷ []) ∷ lines rest
line_written [] rest e = refl
line_written (x ∷ xs) rest e = let parts = neither (x == 10) (has_byte 10 xs) e in ap₂ (λ t ls. line_of x t ls) parts.0 (line_written xs rest parts.1)

-- if there is no LF, all that is left is a line
pub last_line : (line : Text) → has_byte 10 line ≡ false → 0 < length line → lines line ≡ line ∷ []
last_line [] e some = absurd (omega arith)
last_line (x ∷ []) e some = let parts = neither (x == 10) false e in ap (λ t. line_of x t []) parts.0
last_line (x ∷ y ∷ ys) e some =
    let parts = neither (x == 10) (has_byte 10 (y ∷ ys)) e in
    ap₂ (λ t ls. line_of x t ls) parts.0 (last_line (y ∷ ys) parts.1 (omega arith))

not_empty : (a b : Text) → [] ≡ a ++ 0 ∷ b → ⊥
not_empty a b e = let long = ap length e in omega (arith, long, length-append a (0 ∷ b))

-- texts without a NUL are known from their row
pub nul_rows : (xs ys : List Text) → HaveNoNul xs → HaveNoNul ys → nul_row xs ≡ nul_row ys → xs ≡ ys
nul_rows [] [] p q e = refl
nul_rows [] (y ∷ ys) p q e = absurd (not_empty y (nul_row ys) e)
nul_rows (x ∷ xs) [] p q e = absurd (not_empty x (nul_row xs) (sym e))
nul_rows (x ∷ xs) (y ∷ ys) p q e =
    let both : two x (nul_row xs) ≡ two y (nul_row ys) = sym (first_written 0 x (nul_row xs) p.0) ∙ ap (split_first 0) e ∙ first_written 0 y (nul_row ys) q.0 in
    ap₂ (λ t ts. t ∷ ts) (ap before_at both) (nul_rows xs ys p.1 q.1 (ap past_at both))

-- texts are known from the row of their netstrings
pub ns_rows : (xs ys : List Text) → AreShort xs → AreShort ys → ns_row xs ≡ ns_row ys → xs ≡ ys
ns_rows [] [] p q e = refl
ns_rows [] (y ∷ ys) p q e = absurd (let bad : no_two ≡ two y (ns_row ys) = ap netstring_at e ∙ netstring_written y (ns_row ys) q.0 in cc)
ns_rows (x ∷ xs) [] p q e = absurd (let bad : two x (ns_row xs) ≡ no_two = sym (netstring_written x (ns_row xs) p.0) ∙ ap netstring_at e in cc)
ns_rows (x ∷ xs) (y ∷ ys) p q e =
    let both : two x (ns_row xs) ≡ two y (ns_row ys) = sym (netstring_written x (ns_row xs) p.0) ∙ ap netstring_at e ∙ netstring_written y (ns_row ys) q.0 in
    ap₂ (λ t ts. t ∷ ts) (ap before_at both) (ns_rows xs ys p.1 q.1 (ap past_at both))

-- no address has a NUL
pub addresses_clean : (xs : List Text) → AllByRecursion IsAddress xs → HaveNoNul xs
addresses_clean [] all = tt
addresses_clean (x ∷ xs) all = (address_clean x all.0, addresses_clean xs all.1)

-- an address is short enough for a netstring
pub addresses_short : (xs : List Text) → AllByRecursion IsAddress xs → AreShort xs
addresses_short [] all = tt
addresses_short (x ∷ xs) all = (omega (arith, address_short x all.0), addresses_short xs all.1)

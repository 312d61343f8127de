-- A number that came before has only one reply, or none.
use Rattle.std.proofs.Common.{◌≡◌, ◌≢◌, ◌⊎◌, inl, inr, ◌<◌, ◌≤◌, ◌/◌, ◌%◌, ◌*◌, ◌+◌, ◌-◌, ℕ, zero, suc, List, [], ◌∷◌, ◌++◌, length, take, drop, get_or, Option, Some, None, IfSome, refl, sym, ap, ap₂, ◌∙◌, arith, subst, true}
use Rattle.std.proofs.Math.Seq.{take-add}
use Rattle.std.proofs.lemmas.List.{take-take}
use Rattle.std.proofs.lemmas.Nat.{be_bytes_8}
use Rattle.std.specs.Int.{from_be_bytes, to_be_bytes, w64}
use Rattle.std.proofs.lemmas.Option.{same_Some}
use Rattle.ml_base.specs.Bytes.{Text}
use Rattle.ml_base.specs.Dir.{Dir}
use Rattle.ml_base.specs.declared.puts.Put.{Put}
use Rattle.ml_config.proofs.KeyLemmas.{small_drop, small_take}
use Rattle.ml_plain.specs.declared.Reply.{Reply}
use Rattle.ml_plain.specs.Answers.{stale}
use Rattle.ml_plain.specs.KeptFiles.{IsFloorFile, IsSlot, floor_name, may_be_kept, replies_name, slot_text}
use Rattle.ml_plain.proofs.Slots.{slot_one}
use Rattle.ml_plain.proofs.StateFiles.{floor_one}
use Rattle.ml_list.specs.Again.{CountsOnce, HoldsReply, IsAgain, IsBelowFloor, IsInSlot}
use Rattle.ml_list.proofs.Reading.{Cut}

none_some : (r : Reply) → None ≡ Some r → ⊥
none_some r e = cc

-- a slot spells at most one reply
holds_one : (file : Option Text) (n slot : ℕ) (a b : Option Reply) → IsSlot n a → IsSlot n b → HoldsReply file slot a → HoldsReply file slot b → a ≡ b
holds_one None n slot a b p q h k = h ∙ sym k
holds_one (Some text) n slot a b p q h k = slot_one n a b p q (sym h.1 ∙ k.1)

module _ (dir : Dir) (number : ℕ) (a b : Option Reply) where
  by_both : (floor : ℕ) → IsBelowFloor floor number a ⊎ IsInSlot dir floor number a → IsBelowFloor floor number b ⊎ IsInSlot dir floor number b → a ≡ b
  by_both floor (inl p) (inl q) = p.reply ∙ sym q.reply
  by_both floor (inl p) (inr q) = absurd (omega (arith, p.below, q.from))
  by_both floor (inr p) (inl q) = absurd (omega (arith, p.from, q.below))
  by_both floor (inr p) (inr q) = holds_one (dir (replies_name (number / 512))) number (number % 512) a b p.fits q.fits p.spelled q.spelled

  -- and so does a directory
  pub again_one : IsAgain dir number a → IsAgain dir number b → a ≡ b
  again_one p q =
      let same = floor_one (dir floor_name) q.floor p.floor q.floor_is p.floor_is in
      by_both p.floor p.found (subst (λ (f : ℕ). IsBelowFloor f number b ⊎ IsInSlot dir f number b) same q.found)

-- an item that is answered again
pub again_once : (dir : Dir) (number : ℕ) (reply : Reply) (puts : List Put) → puts ≡ [] → (number ≢ 0 → IsAgain dir number (Some reply)) → CountsOnce dir number (puts, reply)
again_once dir number reply puts none found = record {
  looked = λ some. (Some reply, found some);
  once = λ other some is. (none, same_Some reply other (again_one dir number (Some reply) (Some other) (found some) is));
}

-- an item that counts
pub new_once : (dir : Dir) (number : ℕ) (done : List Put × Reply) → (number ≢ 0 → IsAgain dir number None) → CountsOnce dir number done
new_once dir number done found = record {
  looked = λ some. (None, found some);
  once = λ other some is. absurd (none_some other (again_one dir number None (Some other) (found some) is));
}

-- what was found for a number that isn't 0
pub found_below : (dir : Dir) (number floor : ℕ) (reply : Reply) → IsFloorFile (dir floor_name) floor → number < floor → reply ≡ stale → IsAgain dir number (Some reply)
found_below dir number floor reply file low is = record { floor = floor; floor_is = file; found = inl (record { below = low; reply = ap (λ (r : Reply). Some r) is }) }

slot_of : (number : ℕ) (reply : Option Reply) → number ≢ 0 → IfSome reply (λ r. may_be_kept r ≡ true) → IsSlot number reply
slot_of number None some fits = tt
slot_of number (Some r) some fits = (some, fits)

pub found_slot : (dir : Dir) (number floor : ℕ) (reply : Option Reply) → IsFloorFile (dir floor_name) floor → floor ≤ number → number ≢ 0 → IfSome reply (λ r. may_be_kept r ≡ true)
    → HoldsReply (dir (replies_name (number / 512))) (number % 512) reply → IsAgain dir number reply
found_slot dir number floor reply file high some fits holds = record { floor = floor; floor_is = file; found = inr (record { from = high; fits = slot_of number reply some fits; spelled = holds }) }

-- the bytes of a slot, by its code and its number
pub small_digits : (bytes head rest digits : Text) → Cut bytes head rest digits → ((i : ℕ) → get_or bytes i 0 < 256) → (i : ℕ) → get_or digits i 0 < 256
small_digits bytes head rest digits cut small =
    subst (λ (t : Text). (i : ℕ) → get_or t i 0 < 256) (sym (cut.number ∙ ap (λ (t : Text). take 8 t) cut.back)) (small_take 8 (drop 1 bytes) (small_drop 1 bytes small))

one_byte : (head : Text) → length head ≡ 1 → head ≡ get_or head 0 0 ∷ []
one_byte [] e = absurd (omega (arith, e))
one_byte (b ∷ []) e = refl
one_byte (b ∷ c ∷ more) e = absurd (omega (arith, e))

module _ (bytes head rest digits : Text) (cut : Cut bytes head rest digits) (one : length head ≡ 1) (eight : length digits ≡ 8) (small : (i : ℕ) → get_or digits i 0 < 256) where
  nine : take 9 bytes ≡ get_or head 0 0 ∷ to_be_bytes w64 (from_be_bytes w64 digits)
  nine = take-add 1 8 bytes
      ∙ ap₂ (λ (a b : Text). a ++ b) (sym cut.front ∙ one_byte head one) (ap (λ (t : Text). take 8 t) (sym cut.back) ∙ sym cut.number ∙ sym (be_bytes_8 digits (from_be_bytes w64 digits) eight small refl))

  pub none_spelled : (code number : ℕ) → code ≡ get_or head 0 0 → number ≡ from_be_bytes w64 digits → code ≡ 0 → number ≡ 0 → take 9 bytes ≡ slot_text None
  unfolding slot_text
  none_spelled code number code_is number_is z y = nine ∙ ap₂ (λ (c n : ℕ). c ∷ to_be_bytes w64 n) (sym code_is ∙ z) (sym number_is ∙ y)

  pub reply_spelled : (code number : ℕ) → code ≡ get_or head 0 0 → number ≡ from_be_bytes w64 digits → take 9 bytes ≡ slot_text (Some (record { code = code; number = number }))
  unfolding slot_text
  reply_spelled code number code_is number_is = nine ∙ ap₂ (λ (c n : ℕ). c ∷ to_be_bytes w64 n) (sym code_is) (sym number_is)

-- the slot of a file
pub slot_spelled : (file : Option Text) (text bytes : Text) (slot : ℕ) (found : Option Reply) → file ≡ Some text → length text ≡ 4608 → bytes ≡ take 9 (drop (9 * slot) text) → take 9 bytes ≡ slot_text found → HoldsReply file slot found
slot_spelled file text bytes slot found is size cut spelled =
    subst (λ (f : Option Text). HoldsReply f slot found) (sym is) (size, sym (take_again (drop (9 * slot) text)) ∙ ap (λ (t : Text). take 9 t) (sym cut) ∙ spelled)
  where
    take_again : (t : Text) → take 9 (take 9 t) ≡ take 9 t
    take_again t = take-take 9 9 t (omega arith)

-- what holds of a slot that was read
pub some_weaker : {A : Type 0} (o : Option A) (P Q : A → Type 0) → ((x : A) → P x → Q x) → IfSome o P → IfSome o Q
some_weaker None P Q weak h = tt
some_weaker (Some x) P Q weak h = weak x h

-- Keys are read as they are written.
use Rattle.std.proofs.Common.{◌≡◌, ◌∙◌, ◌<◌, ◌^◌, ℕ, zero, suc, subst, ◌==◌, true, false, [], ◌∷◌, ◌++◌, length, take, drop, get_or, Option, Some, None, refl, sym, ap, ap₂, arith, length-append}
use Rattle.std.proofs.Math.Seq.{drop-append_seam, take-append_seam}
use Rattle.std.proofs.lemmas.List.{append-nil, take-append-drop}
use Rattle.std.proofs.lemmas.Bool.{eqb-true}
use Rattle.std.proofs.lemmas.Nat.{be_bytes_8, from_be_bytes-to_be_bytes_8}
use Rattle.std.specs.Int.{from_be_bytes, to_be_bytes, w64}
use Rattle.std.specs.Prelude.{IfSome}
use Rattle.ml_base.specs.Bytes.{Text}
use Rattle.ml_config.specs.KeyFile.{AreKeys, IsFormer, IsKeyFile, former_text, keys_text}
use Rattle.ml_config.specs.declared.key_file.Former.{Former}
use Rattle.ml_config.specs.declared.key_file.Keys.{Keys}

-- a text of so many bytes is cut off again from what follows it
front_of : (n : ℕ) (a b bytes front : Text) → length a ≡ n → bytes ≡ a ++ b → front ≡ take n bytes → front ≡ a
front_of n a b bytes front size is e = e ∙ ap₂ (λ m t. take m t) (sym size) is ∙ take-append_seam a b

back_of : (n : ℕ) (a b bytes back : Text) → length a ≡ n → bytes ≡ a ++ b → back ≡ drop n bytes → back ≡ b
back_of n a b bytes back size is e = e ∙ ap₂ (λ m t. drop m t) (sym size) is ∙ drop-append_seam a b

pub record Cut (bytes key rest digits end : Text) : Type 0 where
  pub front : key ≡ take 32 bytes
  pub back : rest ≡ drop 32 bytes
  pub number : digits ≡ take 8 rest
  pub tail : end ≡ drop 8 rest

pub former_read : (bytes key rest digits end : Text) (changed : ℕ) (f : Former) → Cut bytes key rest digits end → changed ≡ from_be_bytes w64 digits → IsFormer f → bytes ≡ former_text (Some f)
    → (key ≡ f.key) × (changed ≡ f.changed) × (end ≡ [])
former_read bytes key rest digits end changed f cut value is e =
    let be = to_be_bytes w64 f.changed in
    let tail : rest ≡ be = back_of 32 f.key be bytes rest is.key e cut.back in
    let whole : rest ≡ be ++ [] = tail ∙ sym (append-nil be) in
    let number : digits ≡ be = front_of 8 be [] rest digits refl whole cut.number in
    let small : f.changed < 2 ^ 64 = omega (arith, is.changed) in (
      front_of 32 f.key be bytes key is.key e cut.front,
      value ∙ ap (from_be_bytes w64) number ∙ from_be_bytes-to_be_bytes_8 f.changed small,
      back_of 8 be [] rest end refl whole cut.tail,
    )

-- what is cut off a text of bytes consists of bytes
pub small_take : (n : ℕ) (xs : Text) → ((i : ℕ) → get_or xs i 0 < 256) → (i : ℕ) → get_or (take n xs) i 0 < 256
small_take zero xs h i = omega arith
small_take (suc n) [] h i = omega arith
small_take (suc n) (x ∷ xs) h zero = h 0
small_take (suc n) (x ∷ xs) h (suc i) = small_take n xs (λ j. h (suc j)) i

pub small_drop : (n : ℕ) (xs : Text) → ((i : ℕ) → get_or xs i 0 < 256) → (i : ℕ) → get_or (drop n xs) i 0 < 256
small_drop zero xs h i = h i
small_drop (suc n) [] h i = omega arith
small_drop (suc n) (x ∷ xs) h i = small_drop n xs (λ j. h (suc j)) i

pub small_number : (bytes key rest digits end : Text) → Cut bytes key rest digits end → ((i : ℕ) → get_or bytes i 0 < 256) → (i : ℕ) → get_or digits i 0 < 256
small_number bytes key rest digits end cut small =
    let number : digits ≡ take 8 (drop 32 bytes) = cut.number ∙ ap (take 8) cut.back in
    subst (λ t. (i : ℕ) → get_or t i 0 < 256) (sym number) (small_take 8 (drop 32 bytes) (small_drop 32 bytes small))

pub former_text_is : (bytes key rest digits end : Text) (changed : ℕ) → Cut bytes key rest digits end → changed ≡ from_be_bytes w64 digits → length digits ≡ 8
    → ((i : ℕ) → get_or digits i 0 < 256) → end ≡ [] → bytes ≡ key ++ to_be_bytes w64 changed
former_text_is bytes key rest digits end changed cut value size small none =
    let number : to_be_bytes w64 changed ≡ digits = be_bytes_8 digits changed size small value in
    let tail : rest ≡ digits = sym (take-append-drop 8 rest) ∙ ap₂ (λ a b. a ++ b) (sym cut.number) (sym cut.tail ∙ none) ∙ append-nil digits in
    sym (take-append-drop 32 bytes) ∙ ap₂ (λ a b. a ++ b) (sym cut.front) (sym cut.back ∙ tail ∙ sym number)

pub keys_cut : (bytes key rest : Text) (keys : Keys) → AreKeys keys → bytes ≡ keys_text keys → key ≡ take 32 bytes → rest ≡ drop 32 bytes
    → (key ≡ keys.key) × (rest ≡ former_text keys.former)
keys_cut bytes key rest keys are e front back =
    (front_of 32 keys.key (former_text keys.former) bytes key are.key e front, back_of 32 keys.key (former_text keys.former) bytes rest are.key e back)

pub no_bytes : (bytes : Text) → (length bytes == 0) ≡ true → bytes ≡ []
no_bytes [] e = refl
no_bytes (b ∷ bs) e = absurd (let none : length (b ∷ bs) ≡ 0 = eqb-true _ 0 e in omega arith)

-- if nothing follows the key, there is no former one
pub no_former : (o : Option Former) → former_text o ≡ [] → o ≡ None
no_former None e = refl
no_former (Some f) e = absurd (let none : length (f.key ++ to_be_bytes w64 f.changed) ≡ 0 = ap length e in omega (arith, none, length-append f.key (to_be_bytes w64 f.changed)))

-- if something does, there is one
pub some_former : (o : Option Former) (rest : Text) → rest ≡ former_text o → (length rest == 0) ≡ false → IfSome o IsFormer → (f : Former) × (o ≡ Some f) × IsFormer f
some_former None rest e some is = absurd (let bad : true ≡ false = sym (ap (λ (t : Text). length t == 0) e) ∙ some in cc)
some_former (Some f) rest e some is = (f, refl, is)

-- a text holds at most one former key
one_former : (f g : Former) → IsFormer f → IsFormer g → former_text (Some f) ≡ former_text (Some g) → f ≡ g
one_former f g p q e =
    let bytes = former_text (Some g) in
    let cut : Cut bytes (take 32 bytes) (drop 32 bytes) (take 8 (drop 32 bytes)) (drop 8 (drop 32 bytes)) = record { front = refl; back = refl; number = refl; tail = refl } in
    let one = former_read bytes _ _ _ _ _ f cut refl p (sym e) in
    let two = former_read bytes _ _ _ _ _ g cut refl q refl in
    ap₂ (λ (k : Text) (n : ℕ). record { key = k; changed = n }) (sym one.0 ∙ two.0) (sym one.1 ∙ two.1)

same_former : (o p : Option Former) → IfSome o IsFormer → IfSome p IsFormer → former_text o ≡ former_text p → o ≡ p
same_former None p a b e = sym (no_former p (sym e))
same_former (Some f) None a b e = no_former (Some f) e
same_former (Some f) (Some g) a b e = ap (λ (h : Former). Some h) (one_former f g a b e)

-- a file holds at most one pair of keys
pub one_key_file : (file : Option Text) (a b : Keys) → IsKeyFile file a → IsKeyFile file b → a ≡ b
one_key_file file a b p q =
    let same : Some (keys_text a) ≡ Some (keys_text b) = sym p.text ∙ q.text in
    let bytes = keys_text b in
    let text : bytes ≡ keys_text a = cc in
    let one = keys_cut bytes (take 32 bytes) (drop 32 bytes) a p.are text refl refl in
    let two = keys_cut bytes (take 32 bytes) (drop 32 bytes) b q.are refl refl refl in
    let former = same_former a.former b.former p.are.former q.are.former (sym one.1 ∙ two.1) in
    ap₂ (λ (k : Text) (o : Option Former). record { key = k; former = o }) (sym one.0 ∙ two.0) former

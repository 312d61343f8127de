-- Reading a file piece by piece, as the code does, gives what the definitions read from the whole.
use Rattle.std.proofs.Common.{◌≡◌, ◌<◌, ℕ, Bool, true, false, not, [], ◌∷◌, length, Option, Some, None, refl, sym, ap, ◌∙◌, arith}
use Rattle.std.specs.List.{list_any}
use Rattle.std.specs.Option.{option_and_then}
use Rattle.std.specs.Char.{is_ascii_uppercase}
use Rattle.std.proofs.lemmas.Bool.{false≢true}
use Rattle.ml_base.specs.Address.{IsAddress}
use Rattle.ml_base.specs.Bytes.{Text, lower}
use Rattle.ml_base.specs.Netstrings.{netstring_at}
use Rattle.ml_base.proofs.Cuts.{two}
use Rattle.ml_rows.specs.Rows.{netstrings_at}
use Rattle.ml_bounce.specs.Reading.{key_in, entry_of_content}
use Rattle.ml_bounce.proofs.Exact.{key_read, key_written, ended}
use Rattle.ml_bounce.proofs.Folded.{none_capital}
use Rattle.ml_keyed.proofs.Keys.{own_key}

-- a key is an address without capital letters
pub key_there : (text : Text) (capital : Bool) → IsAddress text → capital ≡ list_any is_ascii_uppercase text → not capital ≡ true → key_in text ≡ Some text
key_there text true is e none = absurd (false≢true none)
key_there text false is e none = key_written text is (own_key text (sym e))

pub key_not : (text : Text) (capital : Bool) → capital ≡ list_any is_ascii_uppercase text → not capital ≡ false → key_in text ≡ None
key_not text false e some = absurd (false≢true (sym some))
key_not text true e some = go (key_in text) refl
  where
    go : (o : Option Text) → key_in text ≡ o → o ≡ None
    go None found = refl
    go (Some k) found =
        let key = key_read text k found in
        let low : lower text ≡ text = ap lower (sym key.0) ∙ key.2 ∙ key.0 in
        absurd (false≢true (sym (none_capital text) ∙ ap (list_any is_ascii_uppercase) low ∙ sym e))

-- four netstrings with nothing after them, or with something
pub four_cut : (text k b f l s m d e : Text) → two k b ≡ netstring_at text → two f l ≡ netstring_at b → two s m ≡ netstring_at l → two d e ≡ netstring_at m
    → netstrings_at 4 text ≡ Some (k ∷ f ∷ s ∷ d ∷ [], e)
four_cut text k b f l s m d e p q r t = rw (sym p, sym q, sym r, sym t) refl

pub four_not : (text k b f l s m d e : Text) → two k b ≡ netstring_at text → two f l ≡ netstring_at b → two s m ≡ netstring_at l → two d e ≡ netstring_at m → 0 < length e
    → (n : ℕ) → entry_of_content n text ≡ None
four_not text k b f l s m d e p q r t some n = ap (option_and_then (ended n)) (four_cut text k b f l s m d e p q r t) ∙ go e some
  where
    go : (e : Text) → 0 < length e → ended n (k ∷ f ∷ s ∷ d ∷ [], e) ≡ None
    go [] lt = absurd (omega arith)
    go (b ∷ bs) lt = refl

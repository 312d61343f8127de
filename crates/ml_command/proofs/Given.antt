-- What words hold is in its range.
use Rattle.std.proofs.Common.{◌≡◌, ◌≤◌, ◌<◌, ℕ, ◌∙◌, ap, sym, subst, length, None, Some, Result, Ok, Err, arith, refl}
use Rattle.std.specs.Result.{result_ok}
use Rattle.hex.specs.Hex.{decode_sized, IsBytes}
use Rattle.hex.specs.declared.error.FromHexError.{FromHexError}
use Rattle.hex.proofs.HexLemmas.{decode_sized-ok, decode_sized-twice, decode_of-ok}
use Rattle.ml_base.specs.Bytes.{Text}
use Rattle.ml_base.specs.Numbers.{number_within}
use Rattle.ml_base.proofs.NumberLaws.{number_spelled}
use Rattle.ml_config.specs.MakeWords.{key_of}

-- a number is at most its largest one
pub within_given : (most : ℕ) (word : Text) (number : ℕ) → number_within most word ≡ Some number → most < 1_000_000_000_000_000_000 → number ≤ most
within_given most word number e low = (number_spelled most word number (omega (arith, low)) e).0

-- a key has 32 bytes
pub key_given : (digits key : Text) → key_of digits ≡ Some key → (length key ≡ 32) × IsBytes key
key_given digits key e = go (decode_sized digits 32) refl
  where
    go : (r : Result Text FromHexError) → decode_sized digits 32 ≡ r → (length key ≡ 32) × IsBytes key
    go (Err f) is = let bad : None ≡ Some key = sym (ap result_ok is) ∙ e in cc
    go (Ok bytes) is =
        let found : Some bytes ≡ Some key = sym (ap result_ok is) ∙ e in
        let same : bytes ≡ key = cc in
        let long = decode_sized-ok digits 32 bytes is in
        let all = decode_of-ok digits bytes (sym (decode_sized-twice digits 32 long) ∙ is) in
        subst (λ (k : Text). (length k ≡ 32) × IsBytes k) same (omega (arith, long, all.2), all.3)

-- Worked examples of words of `make` and of the files that they give.
use Rattle.std.proofs.Common.{◌≡◌, List, [], ◌∷◌, ◌++◌, Option, Some, None, refl, codes}
use Rattle.std.specs.Fmt.{digits}
use Rattle.std.specs.Option.{option_map}
use Rattle.ml_base.specs.Bytes.{Text}
use Rattle.clap.proofs.OnLiterals.{clap_on_literals}
use Rattle.hex.proofs.OnLiterals.{hex_on_literals}
use Rattle.ml_config.specs.ConfigFile.{config_text}
use Rattle.ml_config.specs.MakeWords.{are_of_make, flags_of, made_of, make_of, make_rows}

abbrev key_digits : Text
key_digits = codes "000102030405060708090A0B0C0D0E0F101112131415161718191a1b1c1d1e1f"

-- the file of the configuration that words give
abbrev file : List Text → Option Text
file words = option_map (λ made. config_text made.0) (make_of words)

plain : file (codes "--key" ∷ key_digits ∷ codes "list" ∷ codes "ex.org" ∷ codes "o@own.org" ∷ [])
    ≡ Some (codes "flags BDFGHJKLMpRSTU" ++ 10 ∷ codes "local list" ++ 10 ∷ codes "host ex.org" ++ 10 ∷ codes "owner o@own.org" ++ 10 ∷ codes "prefix " ++ 10 ∷ codes "max 1048576" ++ 10 ∷ [])
unfolding clap_on_literals hex_on_literals digits are_of_make flags_of made_of make_rows
plain = refl

key : option_map (λ made. made.1) (make_of (codes "--key" ∷ key_digits ∷ codes "list" ∷ codes "ex.org" ∷ codes "o@own.org" ∷ []))
    ≡ Some (0 ∷ 1 ∷ 2 ∷ 3 ∷ 4 ∷ 5 ∷ 6 ∷ 7 ∷ 8 ∷ 9 ∷ 10 ∷ 11 ∷ 12 ∷ 13 ∷ 14 ∷ 15 ∷ 16 ∷ 17 ∷ 18 ∷ 19 ∷ 20 ∷ 21 ∷ 22 ∷ 23 ∷ 24 ∷ 25 ∷ 26 ∷ 27 ∷ 28 ∷ 29 ∷ 30 ∷ 31 ∷ [])
unfolding clap_on_literals hex_on_literals digits are_of_make flags_of made_of make_rows
key = refl

marked : file (codes "-fm" ∷ codes "--max=7" ∷ codes "--key" ∷ key_digits ∷ codes "list" ∷ codes "EX.org" ∷ codes "o@OWN.org" ∷ [])
    ≡ Some (codes "flags BDfGHJKLmpRSTU" ++ 10 ∷ codes "local list" ++ 10 ∷ codes "host ex.org" ++ 10 ∷ codes "owner o@own.org" ++ 10 ∷ codes "prefix [list]" ++ 10 ∷ codes "max 7" ++ 10 ∷ [])
unfolding clap_on_literals hex_on_literals digits are_of_make flags_of made_of make_rows
marked = refl

both_cases : file (codes "-m" ∷ codes "-M" ∷ codes "--key" ∷ key_digits ∷ codes "list" ∷ codes "ex.org" ∷ codes "o@own.org" ∷ []) ≡ None
unfolding clap_on_literals hex_on_literals digits are_of_make flags_of made_of make_rows
both_cases = refl

twice : file (codes "-d" ∷ codes "-d" ∷ codes "--key" ∷ key_digits ∷ codes "list" ∷ codes "ex.org" ∷ codes "o@own.org" ∷ []) ≡ None
unfolding clap_on_literals hex_on_literals digits are_of_make flags_of made_of make_rows
twice = refl

own_owner : file (codes "--key" ∷ key_digits ∷ codes "list" ∷ codes "ex.org" ∷ codes "list-owner@ex.org" ∷ []) ≡ None
unfolding clap_on_literals hex_on_literals digits are_of_make flags_of made_of make_rows
own_owner = refl

no_key : file (codes "list" ∷ codes "ex.org" ∷ codes "o@own.org" ∷ []) ≡ None
unfolding clap_on_literals hex_on_literals digits are_of_make flags_of made_of make_rows
no_key = refl

-- What the words of `make` mean: the configuration and the key that they give.
use Rattle.std.specs.Prelude.{◌≡◌, ℕ, Bool, true, false, List, [], ◌∷◌, ◌++◌, map, codes, find, Option, Some, None, Result, Ok, Err, if◌then◌else◌}
use Rattle.std.specs.Str.{bytes_eq}
use Rattle.std.specs.Option.{option_map_or}
use Rattle.std.specs.Result.{result_ok}
use Rattle.std.specs.declared.string.String.{String}
use Rattle.std.specs.String.{string_bytes}
use Rattle.clap.specs.Words.{Row, first_of, matches_of, takes}
use Rattle.clap.specs.declared.parser.matches.ValueSource.{ValueSource}
use Rattle.clap.specs.declared.parser.matches.ValueSource.TheVariants.{CommandLine}
use Rattle.hex.specs.Hex.{decode_sized}
use Rattle.ml_base.specs.Bytes.{Text}
use Rattle.ml_base.specs.Numbers.{number_of}
use Rattle.ml_base.specs.Options.{◌>>=◌}
use Rattle.ml_config.specs.Configuration.{config_of, is_prefix_text}
use Rattle.ml_config.specs.Make.{make_app}
use Rattle.ml_config.specs.declared.configuration.Config.{Config}
use Rattle.ml_config.specs.declared.configuration.Flags.{Flags}
use Rattle.ml_config.specs.declared.words.ConfigError.{ConfigError}
use Rattle.ml_config.specs.declared.words.ConfigError.TheVariants.{Usage}

-- the bytes of every word
abbrev pub texts : {Z : Type 0} → List (String Z) → List Text
texts words = map string_bytes words

-- whether a value came from the words, and isn't a default
abbrev pub is_from_words : Option ValueSource → Bool
is_from_words (Some CommandLine) = true
is_from_words _ = false

-- whether the words gave the argument of this name
abbrev pub is_given : Text → List Row → Bool
is_given id rows = option_map_or (λ r. is_from_words r.source) (find (λ r. bytes_eq r.id id) rows) false

-- an option: its letter in lower case sets it, in upper case clears it; both are refused, and with neither it has its usual value
abbrev pub choice : Bool → Bool → Bool → Option Bool
choice otherwise true true = None
choice otherwise true false = Some true
choice otherwise false true = Some false
choice otherwise false false = Some otherwise

-- the option of a letter, given the flags that were found
abbrev pub option_of : List Row → Bool → Text → Text → Option Bool
option_of rows otherwise set clear = choice otherwise (is_given set rows) (is_given clear rows)

-- the fourteen options, of which only `p` is set if its letter isn't given
unfoldable pub flags_of : List Row → Option Flags
flags_of rows = do
  b ← option_of rows false (codes "b") (codes "B")
  d ← option_of rows false (codes "d") (codes "D")
  f ← option_of rows false (codes "f") (codes "F")
  g ← option_of rows false (codes "g") (codes "G")
  h ← option_of rows false (codes "h") (codes "H")
  j ← option_of rows false (codes "j") (codes "J")
  k ← option_of rows false (codes "k") (codes "K")
  l ← option_of rows false (codes "l") (codes "L")
  m ← option_of rows false (codes "m") (codes "M")
  p ← option_of rows true (codes "p") (codes "P")
  r ← option_of rows false (codes "r") (codes "R")
  s ← option_of rows false (codes "s") (codes "S")
  t ← option_of rows false (codes "t") (codes "T")
  u ← option_of rows false (codes "u") (codes "U")
  Some (record { b = b; d = d; f = f; g = g; h = h; j = j; k = k; l = l; m = m; p = p; r = r; s = s; t = t; u = u })

-- the prefix if there is no `--prefix`: the list's local part in brackets if subjects are marked, else nothing
abbrev pub default_prefix : Bool → Text → Text
default_prefix marks local = if marks then 91 ∷ local ++ 93 ∷ [] else []

-- the prefix: the text of `--prefix`, which must be one that may mark subjects, or else the usual one
abbrev pub prefix_of : Bool → Text → Option Text → Option Text
prefix_of marks local None = Some (default_prefix marks local)
prefix_of marks local (Some text) = if is_prefix_text text then Some text else None

-- the most bytes of a post: the number of `--max`, or 1,048,576
abbrev pub max_of : Option Text → Option ℕ
max_of None = Some 1_048_576
max_of (Some text) = number_of text

-- the key that 64 hexadecimal digits spell, in either case of letters
abbrev pub key_of : Text → Option Text
key_of text = result_ok (decode_sized text 32)

-- the configuration and the key that the matches of `make` give
unfoldable pub made_of : List Row → Option (Config × Text)
made_of rows = do
  flags ← flags_of rows
  local ← first_of (codes "local") rows
  host ← first_of (codes "host") rows
  owner ← first_of (codes "owner") rows
  max ← max_of (first_of (codes "max") rows)
  prefix ← prefix_of flags.f local (first_of (codes "prefix") rows)
  digits ← first_of (codes "key") rows
  key ← key_of digits
  config ← config_of flags local host owner prefix max
  Some (config, key)

-- whether the words after `make` are those of the command: `clap` takes them
unfoldable pub are_of_make : List Text → Bool
are_of_make words = takes make_app words

-- what `clap` finds in the words after `make`
unfoldable pub make_rows : List Text → List Row
make_rows words = matches_of make_app words

-- the configuration and the key that the words after `make` give, or None if they aren't those of `make`
abbrev pub make_of : List Text → Option (Config × Text)
make_of words = if are_of_make words then made_of (make_rows words) else None

-- an answer is this value, and `Usage` comes only if there is none
abbrev pub Gives : {A : Type 0} → Option A → Result A ConfigError → Type 0
Gives value (Ok x) = value ≡ Some x
Gives value (Err e) = e ≡ Usage → value ≡ None

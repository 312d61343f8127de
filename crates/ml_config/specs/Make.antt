-- The words of `make`, as rules by which `clap` reads them.
use Rattle.std.specs.Prelude.{◌++◌, ℕ, true, List, [], ◌∷◌, map, Some, codes}
use Rattle.std.specs.List.{fold}
use Rattle.clap.specs.Words.{App, Rule, Text, new_app, new_rule, with_rule}
use Rattle.clap.specs.declared.builder.ArgAction.TheVariants.{Set, SetTrue}

-- a flag of one letter, which takes no value
abbrev pub letter_rule : ℕ → Rule
letter_rule letter = record (new_rule (letter ∷ [])) { short = Some letter; action = Some SetTrue }

-- `--NAME VALUE`
abbrev pub option_rule : Text → Rule
option_rule name = record (new_rule name) { long = Some name; action = Some Set }

-- `--NAME VALUE`, which must be there
abbrev pub required_option : Text → Rule
required_option name = record (option_rule name) { required = true }

-- a word in its place, which must be there
abbrev pub word_rule : Text → Rule
word_rule name = record (new_rule name) { required = true; action = Some Set }

-- a flag for every letter, in both cases
abbrev pub letters : Text
letters = codes "bdfghjklmprstuBDFGHJKLMPRSTU"

-- `make` before its arguments are added: no help and no version, and the first word is no program's name
abbrev pub bare_make : App
bare_make =
    let a = new_app (codes "make") in
    record a { top = record a.top { disable_help_flag = true; disable_version_flag = true; no_binary_name = true } }

-- [LETTERS] [--prefix TEXT] [--max BYTES] --key HEX LOCAL HOST OWNER
abbrev pub make_rules : List Rule
make_rules =
    map letter_rule letters
    ++ (option_rule (codes "prefix") ∷ option_rule (codes "max") ∷ required_option (codes "key")
    ∷ word_rule (codes "local") ∷ word_rule (codes "host") ∷ word_rule (codes "owner") ∷ [])

-- the command `make`
abbrev pub make_app : App
make_app = fold with_rule bare_make make_rules

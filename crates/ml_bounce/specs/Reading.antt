-- How the texts of a ledger's files are read as entries.
use Rattle.std.specs.Prelude.{ℕ, Bool, not, ◌&&◌, ◌||◌, ◌==◌, nat_le, List, [], ◌∷◌, length, Option, Some, None, option_map, if◌then◌else◌}
use Rattle.std.specs.Option.{option_and_then}
use Rattle.std.specs.Str.{bytes_eq}
use Rattle.ml_base.specs.Bytes.{Text, lower, is_empty}
use Rattle.ml_base.specs.Netstrings.{netstring_at}
use Rattle.ml_base.specs.Numbers.{moment_in}
use Rattle.ml_keyed.specs.Records.{records_in}
use Rattle.ml_rows.specs.Rows.{only_if, both_of, netstrings_at}
use Rattle.ml_rows.specs.Values.{address_in, comma_numbers}
use Rattle.ml_bounce.specs.Ledger.{Stage, Unwarned, Warned, WarnFailed, Probed, LedgerEntry, Ledger, entry_key, is_blank_at}
use Rattle.ml_bounce.specs.Files.{are_distinct, bucket_of}

-- the stage that a text spells: `n` alone, or `w`, `f` or `p` and a moment
abbrev pub stage_of : Text → Option Stage
stage_of [] = None
stage_of (letter ∷ text) =
    if letter == 110 then (if is_empty text then Some Unwarned else None)
    else (if letter == 119 then option_map (λ t. Warned t) (moment_in text)
    else (if letter == 102 then option_map (λ t. WarnFailed t) (moment_in text)
    else (if letter == 112 then option_map (λ t. Probed t) (moment_in text) else None)))

-- the key that a text spells: an address in lower case
abbrev pub key_in : Text → Option Text
key_in text = only_if (λ k. bytes_eq (lower k) k) (address_in text)

-- an entry made of these values
abbrev pub entry_with : Text × (ℕ × (Stage × List ℕ)) → LedgerEntry
entry_with values = record { key = values.0; first = values.1.0; stage = values.1.1.0; missed = values.1.1.1 }

-- the values of an entry fit each other, and its key belongs to the file with this number: at most 100 numbers are
-- missed, none twice; if none is missed, the first moment is 0; and there is something to remember
abbrev pub fits : ℕ → LedgerEntry → Bool
fits n e =
    nat_le (length e.missed) 100 && are_distinct e.missed && (not (is_empty e.missed) || e.first == 0)
    && not (is_blank_at e.stage e.missed) && (bucket_of e.key == n)

-- the entry that four texts spell: its key, first moment, stage and missed numbers
abbrev pub entry_of_fields : ℕ → List Text → Option LedgerEntry
entry_of_fields n (key ∷ first ∷ stage ∷ missed ∷ []) =
    only_if (fits n) (option_map entry_with (both_of (key_in key) (both_of (moment_in first) (both_of (stage_of stage) (comma_numbers 99_999_999 missed)))))
entry_of_fields n texts = None

-- the entry that a text spells by four netstrings, with nothing after them
abbrev pub entry_of_content : ℕ → Text → Option LedgerEntry
entry_of_content n text = option_and_then (λ found. if is_empty found.1 then entry_of_fields n found.0 else None) (netstrings_at 4 text)

-- the entry at the beginning of a text, at whatever place, and what comes after it
abbrev pub entry_at : ℕ → ℕ → Text → Option (LedgerEntry × Text)
entry_at n place text = option_and_then (λ found. option_map (λ e. (e, found.1)) (entry_of_content n found.0)) (netstring_at text)

-- the entries of the file with this number, in a row in ascending order of key
abbrev pub ledger_of : ℕ → Text → Option Ledger
ledger_of = records_in entry_at entry_key

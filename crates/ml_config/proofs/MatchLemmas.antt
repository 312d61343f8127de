-- What the matches of words say, in terms of their rows.
use Rattle.std.proofs.Common.{◌≡◌, ◌∙◌, Bool, true, false, cond, List, [], ◌∷◌, Option, Some, None, map, refl, ap}
use Rattle.std.specs.Prelude.{find, option_map, option_and_then}
use Rattle.std.specs.Option.{option_map_or}
use Rattle.std.specs.Str.{bytes_eq}
use Rattle.clap.specs.Words.{Row, Text, first_of, first_value, matched_of, rows_of}
use Rattle.clap.specs.Facts.{Entry}
use Rattle.clap.specs.Walk.{row_of}
use Rattle.clap.specs.declared.parser.matches.Found.{Found}
use Rattle.clap.specs.declared.parser.matches.MatchedArg.{MatchedArg}
use Rattle.clap.proofs.WalkLemmas.{first_value-rows}
use Rattle.ml_config.specs.MakeWords.{is_from_words, is_given}

pub first_value_is : (f : Found) (id : Text) → first_value f id ≡ first_of id (rows_of f)
first_value_is f id = first_value-rows f id

pub given_is : (f : Found) (id : Text) → is_given id (rows_of f) ≡ is_from_words (option_and_then (λ a. a.source) (matched_of f id))
given_is f id = ap (λ (o : Option Row). option_map_or (λ r. is_from_words r.source) o false) (find_rows f.entries.items) ∙ go (find (λ (e : Entry). bytes_eq e.0.now id) f.entries.items)
  where
    found : (e : Entry) (es : List Entry) (t : Bool) → find (λ (r : Row). bytes_eq r.id id) (map row_of es) ≡ option_map row_of (find (λ (x : Entry). bytes_eq x.0.now id) es)
        → cond t (Some (row_of e)) (find (λ (r : Row). bytes_eq r.id id) (map row_of es)) ≡ option_map row_of (cond t (Some e) (find (λ (x : Entry). bytes_eq x.0.now id) es))
    found e es true more = refl
    found e es false more = more

    find_rows : (es : List Entry) → find (λ (r : Row). bytes_eq r.id id) (map row_of es) ≡ option_map row_of (find (λ (x : Entry). bytes_eq x.0.now id) es)
    find_rows [] = refl
    find_rows (e ∷ es) = found e es (bytes_eq e.0.now id) (find_rows es)

    go : (o : Option Entry) → option_map_or (λ (r : Row). is_from_words r.source) (option_map row_of o) false
        ≡ is_from_words (option_and_then (λ (a : MatchedArg). a.source) (option_map (λ e. e.1) o))
    go None = refl
    go (Some e) = refl

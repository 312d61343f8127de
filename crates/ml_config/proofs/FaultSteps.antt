-- If a step of reading words finds no fault, it passes: the steps, one by one.
use Rattle.std.proofs.Common.{◌≡◌, ◌⊎◌, ◌&&◌, ◌||◌, ◌==◌, ℕ, zero, suc, Bool, cond, true, false, not, nat_lt, nat_le, List, [], ◌∷◌, length, drop, min, ◌+◌, Option, Some, None, is_some, refl, inl, inr, arith}
use Rattle.std.proofs.lemmas.Bool.Decides.{nat_tests}
use Rattle.std.specs.Prelude.{slice_get, encode_utf8, codes}
use Rattle.std.specs.Option.{option_map_or}
use Rattle.std.specs.Str.{bytes_eq, chars}
use Rattle.clap.specs.Lexer.{long_of, short_of}
use Rattle.clap.specs.Matches.{count_text}
use Rattle.clap.specs.ValueTests.{accepts}
use Rattle.clap.specs.Facts.{parser_of_value, unwrap_or_range}
use Rattle.clap.specs.Kinds.{Kinds, or_else, range_kinds, value_kinds}
use Rattle.clap.specs.Walk.{Held, Names, Row, Rule, Step, Text, Waiting, Walk, action_of, next, trailing, subcommand, value, arg_by_id, arg_by_index, arg_by_long, arg_by_short, attached_value, count_of, has_row, is_pending, most_values, reacted, settled, subcommand_met, takes_several, takes_values, values_or_missing, walked, word_met}
use Rattle.clap.specs.Simple.{Shape}
use Rattle.clap.specs.Takes.{action_passes, bundle_passes, bundle_step_passes, count_passes, flag_word_passes, flags_pass, long_passes, option_passes, other_passes, positional_passes, react_passes, set_passes, settle_passes, short_passes, step_passes, turn_passes, use_passes, values_pass, walk_passes, word_passes}
use Rattle.clap.specs.Faults.{action_fault, bundle_fault, bundle_step_fault, count_fault, flag_word_fault, flags_fault, long_fault, option_fault, other_fault, positional_fault, react_fault, set_fault, settle_fault, short_fault, step_fault, stray_fault, turn_fault, use_fault, values_fault, walk_fault, word_fault}
use Rattle.clap.specs.declared.error.kind.ErrorKind.{ErrorKind}
use Rattle.clap.specs.declared.error.kind.ErrorKind.TheVariants as kind
use Rattle.clap.specs.declared.builder.action.ArgAction.{ArgAction}
use Rattle.clap.specs.declared.builder.action.ArgAction.TheVariants as action
use Rattle.ml_config.proofs.Small.{all_and}

abbrev none : Kinds
none = []

pub both_none : (a b : Kinds) → or_else a b ≡ [] → (a ≡ none) × (b ≡ none)
both_none [] b e = (refl, e)
both_none (k ∷ ks) b e = absurd cc

-- a fault that comes unless a test passes
unless : (t : Bool) (k : ErrorKind) → cond t none (k ∷ []) ≡ [] → t ≡ true
unless true k e = refl
unless false k e = absurd cc

values_ok : (a : Rule) (vs : List Text) → values_fault a vs ≡ [] → values_pass a vs ≡ true
values_ok a [] e = refl
values_ok a (v ∷ vs) e =
    let parts = both_none (value_kinds a.ignore_case (parser_of_value a.parser) v) (values_fault a vs) e in
    all_and _ _ (unless (accepts a.ignore_case (parser_of_value a.parser) v) _ parts.0) (values_ok a vs parts.1)

range_shape : (a b c d e : Bool) (k l m n : ErrorKind) → cond a (k ∷ []) (cond b (cond c none (l ∷ [])) (cond d (m ∷ []) (cond e (n ∷ []) none))) ≡ []
    → ((b ≡ true) × (c ≡ true)) ⊎ ((d ≡ false) × (e ≡ false))
range_shape true b c d e k l m n h = absurd cc
range_shape false true true d e k l m n h = inl (refl, refl)
range_shape false true false d e k l m n h = absurd cc
range_shape false false c true e k l m n h = absurd cc
range_shape false false c false true k l m n h = absurd cc
range_shape false false c false false k l m n h = inr (refl, refl)

range_ok : (least most n : ℕ) → range_kinds least most n ≡ [] → (nat_le least n ≡ true) × (nat_le n most ≡ true)
range_ok least most n e = elim (range_shape (nat_lt 0 least && n == 0) (least == most) (least == n) (nat_lt n least) (nat_lt most n) _ _ _ _ e) [
  | inl h ↦ (exact_least h.0 h.1, exact_most h.0 h.1)
  | inr h ↦ (within n least h.0, within most n h.1)
]
  where
    exact_least : (least == most) ≡ true → (least == n) ≡ true → nat_le least n ≡ true
    exact_least p q = grind (arith, nat_tests)

    exact_most : (least == most) ≡ true → (least == n) ≡ true → nat_le n most ≡ true
    exact_most p q = grind (arith, nat_tests)

    within : (a b : ℕ) → nat_lt a b ≡ false → nat_le b a ≡ true
    within a b p = grind (arith, nat_tests)

repeat_ok : (has again : Bool) (k : ErrorKind) → cond (has && not again) (k ∷ []) none ≡ [] → (not has || again) ≡ true
repeat_ok true true k e = refl
repeat_ok true false k e = absurd cc
repeat_ok false again k e = refl

set_ok : (again : Bool) (a : Rule) (vs : List Text) (rows : List Row) → set_fault again a vs rows ≡ [] → set_passes again a vs rows ≡ true
set_ok again a vs rows e =
    let parts = both_none _ (values_fault a vs) e in
    all_and _ _ (repeat_ok (has_row a.id rows) again _ parts.0) (values_ok a vs parts.1)

count_ok : (a : Rule) (vs : List Text) (rows : List Row) → count_fault a vs rows ≡ [] → count_passes a vs rows ≡ true
count_ok a [] rows e = unless (accepts a.ignore_case (parser_of_value a.parser) (count_text (min (count_of a.id rows + 1) 255))) _ e
count_ok a (v ∷ vs) rows e = values_ok a (v ∷ vs) e

action_ok : (x : ArgAction) (again : Bool) (a : Rule) (vs : List Text) (rows : List Row) → action_fault x again a vs rows ≡ [] → action_passes x again a vs rows ≡ true
action_ok action.Set again a vs rows e = set_ok again a vs rows e
action_ok action.SetTrue again a vs rows e = set_ok again a vs rows e
action_ok action.SetFalse again a vs rows e = set_ok again a vs rows e
action_ok action.Append again a vs rows e = values_ok a vs e
action_ok action.Count again a vs rows e = count_ok a vs rows e
action_ok action.Help again a vs rows e = absurd cc
action_ok action.HelpShort again a vs rows e = absurd cc
action_ok action.HelpLong again a vs rows e = absurd cc
action_ok action.Version again a vs rows e = absurd cc

use_ok : (again : Bool) (a : Rule) (vs : List Text) (rows : List Row) → use_fault again a vs rows ≡ [] → use_passes again a vs rows ≡ true
use_ok again a vs rows e =
    let parts = both_none (range_kinds (unwrap_or_range a.range).start_inclusive (most_values a) (length vs)) _ e in
    let range = range_ok (unwrap_or_range a.range).start_inclusive (most_values a) (length vs) parts.0 in
    all_and _ _ range.0 (all_and _ _ range.1 (action_ok (action_of a) again a (values_or_missing a vs) rows parts.1))

pub settle_ok : (c : List Rule) (again : Bool) (h : Held) → settle_fault c again h ≡ [] → settle_passes c again h ≡ true
settle_ok c again h e = go h.pending e
  where
    one : (vs : List Text) (o : Option Rule) → option_map_or (λ a. use_fault again a vs h.rows) o none ≡ [] → option_map_or (λ a. use_passes again a vs h.rows) o true ≡ true
    one vs None f = refl
    one vs (Some a) f = use_ok again a vs h.rows f

    go : (o : Option (Text × List Text)) → option_map_or (λ p. option_map_or (λ a. use_fault again a p.1 h.rows) (arg_by_id c p.0) none) o none ≡ []
        → option_map_or (λ p. option_map_or (λ a. use_passes again a p.1 h.rows) (arg_by_id c p.0) true) o true ≡ true
    go None f = refl
    go (Some p) f = one p.1 (arg_by_id c p.0) f

react_ok : (c : List Rule) (again : Bool) (a : Rule) (vs : List Text) (h : Held) → react_fault c again a vs h ≡ [] → react_passes c again a vs h ≡ true
react_ok c again a vs h e =
    let parts = both_none (settle_fault c again h) _ e in
    all_and _ _ (settle_ok c again h parts.0) (use_ok again a vs (settled c h).rows parts.1)

option_ok : (c : List Rule) (again : Bool) (a : Rule) (v : Option Text) (h : Held) → option_fault c again a v h ≡ [] → option_passes c again a v h ≡ true
option_ok c again a (Some v) h e = react_ok c again a (v ∷ []) h e
option_ok c again a None h e = settle_ok c again h e

long_ok : (c : List Rule) (again : Bool) (found : Option Rule) (v : Option Text) (h : Held) → long_fault c again found v h ≡ [] → long_passes c again found v h ≡ true
long_ok c again None v h e = absurd cc
long_ok c again (Some a) v h e = go (takes_values a) v e
  where
    go : (t : Bool) (w : Option Text) → cond t (option_fault c again a w h) (cond (is_some w) (kind.TooManyValues ∷ []) (react_fault c again a [] h)) ≡ []
        → cond t (option_passes c again a w h) (not (is_some w) && react_passes c again a [] h) ≡ true
    go true w f = option_ok c again a w h f
    go false None f = react_ok c again a [] h f
    go false (Some w) f = absurd cc

module _ (c : List Rule) (again : Bool) where
  short_ok : (found : Option Rule) (rest : Text) (h : Held) (f : Held → Kinds) (p : Held → Bool) → ((g : Held) → f g ≡ [] → p g ≡ true)
      → short_fault c again found rest h f ≡ [] → short_passes c again found rest h p ≡ true
  short_ok None rest h f p more e = absurd cc
  short_ok (Some a) rest h f p more e = go (takes_values a) e
    where
      go : (t : Bool) → cond t (option_fault c again a (attached_value rest) h) (or_else (react_fault c again a [] h) (f (reacted c a [] h))) ≡ []
          → cond t (option_passes c again a (attached_value rest) h) (react_passes c again a [] h && p (reacted c a [] h)) ≡ true
      go true d = option_ok c again a (attached_value rest) h d
      go false d =
          let parts = both_none (react_fault c again a [] h) _ d in
          all_and _ _ (react_ok c again a [] h parts.0) (more (reacted c a [] h) parts.1)

  bundle_step_ok : (x : Option ℕ) (flags : Text) (skip : ℕ) (h : Held) (f : Text → ℕ → Held → Kinds) (p : Text → ℕ → Held → Bool)
      → ((t : Text) (n : ℕ) (g : Held) → f t n g ≡ [] → p t n g ≡ true)
      → bundle_step_fault c again x flags skip h f ≡ [] → bundle_step_passes c again x flags skip h p ≡ true
  bundle_step_ok None flags skip h f p more e = refl
  bundle_step_ok (Some x) flags zero h f p more e =
      let rest = drop (length (encode_utf8 x)) flags in
      short_ok (arg_by_short c x) rest h (f rest 0) (p rest 0) (more rest 0) e
  bundle_step_ok (Some x) flags (suc skip) h f p more e = more (drop (length (encode_utf8 x)) flags) skip h e

  flags_ok : (k : ℕ) (flags : Text) (skip : ℕ) (h : Held) → flags_fault c again k flags skip h ≡ [] → flags_pass c again k flags skip h ≡ true
  unfolding flags_fault flags_pass
  flags_ok zero flags skip h e = refl
  flags_ok (suc k) flags skip h e = bundle_step_ok (slice_get (chars flags) 0) flags skip h (flags_fault c again k) (flags_pass c again k) (flags_ok k) e

  flag_word_ok : (long : Option (Text × Option Text)) (word : Text) (h : Held) → flag_word_fault c again long word h ≡ [] → flag_word_passes c again long word h ≡ true
  flag_word_ok (Some p) word h e = long_ok c again (arg_by_long c p.0) p.1 h e
  flag_word_ok None word h e = go (short_of word) e
    where
      go : (o : Option Text) → option_map_or (λ flags. bundle_fault c again flags h) o none ≡ [] → option_map_or (λ flags. bundle_passes c again flags h) o true ≡ true
      go None d = refl
      go (Some flags) d = flags_ok (length flags) flags h.skip (record h { skip = 0 }) d

module _ (s : Shape) (names : Names) where
  other_ok : (met : Option Text) (word : Text) (h : Held) → other_fault s met word h ≡ [] → other_passes s met word h ≡ true
  other_ok (Some name) word h e = go (bytes_eq name (codes "help")) s.disable_help_subcommand e
    where
      go : (a b : Bool) → cond (a && not b) (kind.DisplayHelp ∷ kind.InvalidSubcommand ∷ []) none ≡ [] → (not a || b) ≡ true
      go true true d = refl
      go true false d = absurd cc
      go false b d = refl
  other_ok None word h e = go (bytes_eq word (45 ∷ 45 ∷ [])) e
    where
      go : (t : Bool) → cond t none (flag_word_fault s.rules s.args_override_self (long_of word) word h) ≡ []
          → (t || flag_word_passes s.rules s.args_override_self (long_of word) word h) ≡ true
      go true d = refl
      go false d = flag_word_ok s.rules s.args_override_self (long_of word) word h d

  word_ok : (is_trailing : Bool) (waiting : Waiting) (word : Text) (h : Held) → word_fault s names is_trailing waiting word h ≡ [] → word_passes s names is_trailing waiting word h ≡ true
  word_ok true waiting word h e = refl
  word_ok false waiting word h e = other_ok (subcommand_met names waiting word) word h e

  positional_ok : (a : Rule) (h : Held) → positional_fault s.rules s.args_override_self a h ≡ [] → positional_passes s.rules s.args_override_self a h ≡ true
  positional_ok a h e = go (is_pending a h.pending && takes_several a) e
    where
      go : (t : Bool) → cond t none (settle_fault s.rules s.args_override_self h) ≡ [] → (t || settle_passes s.rules s.args_override_self h) ≡ true
      go true d = refl
      go false d = settle_ok s.rules s.args_override_self h d

  some_stray : stray_fault s ≡ [] → ⊥
  some_stray e = go s.is_leaf e
    where
      go : (t : Bool) → cond t (kind.UnknownArgument ∷ []) (kind.UnknownArgument ∷ kind.InvalidSubcommand ∷ []) ≡ none → ⊥
      go true d = cc
      go false d = cc

  step_ok : (position : ℕ) (h : Held) (step : Step) → step_fault s position h step ≡ [] → step_passes s position h step ≡ true
  step_ok position h value e = go (arg_by_index s.rules position) e
    where
      go : (o : Option Rule) → option_map_or (λ a. positional_fault s.rules s.args_override_self a h) o (stray_fault s) ≡ []
          → option_map_or (λ a. positional_passes s.rules s.args_override_self a h) o false ≡ true
      go None d = absurd (some_stray d)
      go (Some a) d = positional_ok a h d
  step_ok position h (next w) e = refl
  step_ok position h (trailing n) e = refl
  step_ok position h (subcommand t) e = refl

  turn_ok : (w : Walk) (word : Text) → turn_fault s names w word ≡ [] → turn_passes s names w word ≡ true
  turn_ok w word e = go (is_some w.stopped) e
    where
      met : Held × Step
      met = word_met s.rules names w.is_trailing w.waiting w.position word w.held

      go : (t : Bool) → cond t none (or_else (word_fault s names w.is_trailing w.waiting word w.held) (step_fault s w.position met.0 met.1)) ≡ []
          → (t || (word_passes s names w.is_trailing w.waiting word w.held && step_passes s w.position met.0 met.1)) ≡ true
      go true d = refl
      go false d =
          let parts = both_none (word_fault s names w.is_trailing w.waiting word w.held) _ d in
          all_and _ _ (word_ok w.is_trailing w.waiting word w.held parts.0) (step_ok w.position met.0 met.1 parts.1)

  pub walk_ok : (w : Walk) (words : List Text) → walk_fault s names w words ≡ [] → walk_passes s names w words ≡ true
  unfolding walk_fault walk_passes
  walk_ok w [] e = refl
  walk_ok w (word ∷ rest) e =
      let parts = both_none (turn_fault s names w word) _ e in
      all_and _ _ (turn_ok w word parts.0) (walk_ok (walked s.rules names w word) rest parts.1)

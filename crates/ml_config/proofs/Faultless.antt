-- If `clap` finds no fault in the words of `make`, it takes them.
use Rattle.std.proofs.Common.{◌≡◌, ◌∙◌, ◌&&◌, ◌||◌, Bool, cond, true, false, not, List, [], ◌∷◌, refl, sym, ap}
use Rattle.std.specs.List.{list_all, list_any}
use Rattle.clap.specs.Kinds.{Kinds}
use Rattle.clap.specs.Walk.{Held, Row, Rule, Text, finished, nothing_held, settled, walk, walk_from}
use Rattle.clap.specs.Simple.{Shape, built, is_simple}
use Rattle.clap.specs.Takes.{default_passes, is_given, is_valid, level_passes, takes}
use Rattle.clap.specs.Faults.{check_fault, defaults_fault, fault_of, is_simple_and_free, level_fault, settle_fault, walk_fault}
use Rattle.clap.specs.Facts.{explicit_source}
use Rattle.clap.specs.declared.error.kind.ErrorKind.{ErrorKind}
use Rattle.clap.specs.declared.error.kind.ErrorKind.TheVariants as kind
use Rattle.clap.proofs.OnLiterals.{clap_on_literals}
use Rattle.clap.proofs.TakesLemmas.{leaf_takes}
use Rattle.ml_config.specs.Make.{make_app}
use Rattle.ml_config.proofs.Small.{all_and}
use Rattle.ml_config.proofs.FaultSteps.{both_none, settle_ok, walk_ok}

no_kind : (a b c : Bool) (k l m : ErrorKind) → cond a (k ∷ []) (cond b (l ∷ []) (cond c (m ∷ []) [])) ≡ [] → c ≡ false
no_kind true b c k l m e = absurd cc
no_kind false true c k l m e = absurd cc
no_kind false false true k l m e = absurd cc
no_kind false false false k l m e = refl

-- if no argument is both required and missing, every one is optional or given
each_given : {X : Type 0} (required given : X → Bool) (xs : List X) → list_any (λ x. required x && not (given x)) xs ≡ false
    → list_all (λ x. not (required x) || given x) xs ≡ true
each_given required given [] e = refl
each_given {X} required given (x ∷ xs) e = go (required x) (given x) (each_given required given xs) e
  where
    go : (r g : Bool) → (list_any (λ y. required y && not (given y)) xs ≡ false → list_all (λ y. not (required y) || given y) xs ≡ true)
        → ((r && not g) || list_any (λ y. required y && not (given y)) xs) ≡ false
        → ((not r || g) && list_all (λ y. not (required y) || given y) xs) ≡ true
    go true true more d = more d
    go true false more d = absurd cc
    go false g more d = more d

-- what a command asks for besides its words
pub record IsEasy (s : Shape) : Type 0 where
  pub defaults : list_all default_passes s.rules ≡ true
  pub free : list_all (λ (a : Rule). a.is_free) s.rules ≡ true
  pub help : s.arg_required_else_help ≡ false
  pub subcommand : s.subcommand_required ≡ false
  pub negates : s.subcommand_negates_reqs ≡ false

valid : (s : Shape) (rows : List Row) (has : Bool) → IsEasy s → check_fault s rows has ≡ [] → is_valid s rows false ≡ true
valid s rows has easy e =
    let any : Bool = list_any (λ (a : Rule). a.required && not (is_given a.id rows)) s.rules in
    let all : Bool = list_all (λ (a : Rule). not a.required || is_given a.id rows) s.rules in
    let used : Bool = list_any (λ (r : Row). explicit_source r.source) rows in
    let none : (not (s.subcommand_negates_reqs && has) && any) ≡ false =
    no_kind (not has && (s.arg_required_else_help && not used)) (not has && s.subcommand_required) (not (s.subcommand_negates_reqs && has) && any)
    kind.DisplayHelpOnMissingArgumentOrSubcommand kind.MissingSubcommand kind.MissingRequiredArgument e in
    let missing : any ≡ false = sym (ap (λ n. not (n && has) && any) easy.negates) ∙ none in
    let given : all ≡ true = each_given (λ (a : Rule). a.required) (λ (a : Rule). is_given a.id rows) s.rules missing in
    let last : ((s.subcommand_negates_reqs && false) || all) ≡ true = ap (λ n. (n && false) || all) easy.negates ∙ given in
    let help : (not s.arg_required_else_help || (false || used)) ≡ true = ap (λ h. not h || (false || used)) easy.help in
    let subcommand : (not s.subcommand_required || false) ≡ true = ap (λ q. not q || false) easy.subcommand in
    all_and _ _ help (all_and _ _ subcommand (all_and _ _ easy.free last))

level_ok : (s : Shape) (h : Held) (words : List Text) (has : Bool) (below : Kinds) → IsEasy s → level_fault s [] h words has below ≡ [] → level_passes s [] h words false ≡ true
level_ok s h words has below easy e =
    let end = (walk s.rules [] h words).held in
    let a = both_none (walk_fault s [] (walk_from h) words) _ e in
    let b = both_none below _ a.1 in
    let d = both_none (settle_fault s.rules s.args_override_self end) _ b.1 in
    let f = both_none (defaults_fault (settled s.rules end).rows s.rules) _ d.1 in
    all_and _ _ (walk_ok s [] (walk_from h) words a.0)
    (all_and _ _ (settle_ok s.rules s.args_override_self end d.0) (all_and _ _ easy.defaults (valid s (finished s.rules end) has easy f.1)))

easy : IsEasy (built make_app).top
unfolding clap_on_literals
easy = record { defaults = refl; free = refl; help = refl; subcommand = refl; negates = refl }

pub make_is_simple : is_simple make_app ≡ true
unfolding clap_on_literals
make_is_simple = refl

pub make_is_free : is_simple_and_free make_app ≡ true
unfolding clap_on_literals
make_is_free = refl

pub taken : (words : List Text) → fault_of make_app words ≡ [] → takes make_app words ≡ true
taken words e = all_and _ _ make_is_simple (leaf_takes (built make_app) nothing_held words refl (level_ok (built make_app).top nothing_held words _ _ easy e))

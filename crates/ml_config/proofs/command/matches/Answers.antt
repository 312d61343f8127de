use Rattle.std.proofs.Common.{◌≡◌, ◌∙◌, sym, ap}
use Rattle.clap.specs.Words.{App, app_of, is_simple, matches_of, takes}
use Rattle.clap.specs.Faults.{fault_of, is_simple_and_free}
use Rattle.ml_base.proofs.Bools.{not_true}
use Rattle.ml_config.specs.Make.{make_app}
use Rattle.ml_config.specs.MakeWords.{are_of_make, make_rows, texts}
use Rattle.ml_config.proofs.Faultless.{make_is_free, make_is_simple, taken}
use Rattle.ml_config.proofs.command.matches.Goals as goal

pub returns-in-Ok : goal.returns-in-Ok
unfolding are_of_make make_rows
returns-in-Ok c =
    let words = texts c.args.words.now in
    let app : app_of c.in_ok-command.command ≡ make_app = c.in_ok-command.ensures in
    let none = c.in-Ok.ensures.kinds (ap is_simple_and_free app ∙ make_is_free) in
    let rows = c.in-Ok.ensures.matches (ap is_simple app ∙ make_is_simple) in
    (taken words (ap (λ (a : App). fault_of a words) (sym app) ∙ none), rows.0 ∙ ap (λ (a : App). matches_of a words) app)

pub returns : goal.returns
unfolding are_of_make
returns c = λ usage. not_true _ (λ takes_them.
    let words = texts c.args.words.now in
    let app : app_of c.in_ok-command.command ≡ make_app = c.in_ok-command.ensures in
    let memory = c.in-Err.ensures.passes (ap (λ (a : App). takes a words) app ∙ takes_them) in
    c.in_default.not-OutOfMemory (c.kind.ensures ∙ memory))

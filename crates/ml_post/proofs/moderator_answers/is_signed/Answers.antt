use Rattle.std.proofs.Common.{false, [], refl, rules}
use Rattle.ml_config.specs.declared.configuration.Config.{Config}
use Rattle.ml_config.specs.declared.configuration.Flags.{Flags}
use Rattle.ml_plain.specs.Plain.{Plain, new_list}
use Rattle.ml_post.proofs.moderator_answers.is_signed.Goals as goal

-- what is said of every list with these keys, for one with nothing else in it
pub returns-clause-letters : goal.returns-clause-letters
returns-clause-letters c =
    let none : Flags = record { b = false; d = false; f = false; g = false; h = false; j = false; k = false; l = false; m = false; p = false; r = false; s = false; t = false; u = false } in
    let config : Config = record { flags = none; local = []; host = []; owner = []; prefix = []; max = 0 } in
    let p : Plain = record (new_list config []) { keys = c.args.keys.now } in
    let said = c.is_cookie.ensures p refl in
    search rules

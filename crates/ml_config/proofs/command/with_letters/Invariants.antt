use Rattle.std.proofs.Common.{◌≡◌, map, take}
use Rattle.std.specs.List.{fold}
use Rattle.clap.specs.Words.{app_of, with_rule}
use Rattle.ml_config.specs.Flags.{flag_rule}
use Rattle.ml_config.proofs.command.with_letters.Given as goal

abbrev pub invariant-loop-id : goal.invariant-loop-id
invariant-loop-id l = app_of l.command ≡ fold with_rule (app_of l.fn.bare) (map flag_rule (take l.id-index l.table))

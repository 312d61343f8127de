use Rattle.std.proofs.Common.{◌≡◌, Some, rules}
use Rattle.ml_config.specs.MakeWords.{key_of}
use Rattle.ml_command.proofs.Given.{key_given}
use Rattle.ml_command.proofs.words.key.Goals as goal

pub returns-in-Ok-clause-range : goal.returns-in-Ok-clause-range
returns-in-Ok-clause-range c =
    let is : key_of c.args.digits.now ≡ Some c.decode_to_slice.new.out = search rules in
    key_given c.args.digits.now c.decode_to_slice.new.out is

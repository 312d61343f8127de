use Rattle.ml_command.specs.Words.{command_of, texts}
use Rattle.ml_command.proofs.Refused.{clock_kept, refused}
use Rattle.ml_command.proofs.commands.by_words.Goals as goal

pub returns-in-Err-clause-does : goal.returns-in-Err-clause-does
returns-in-Err-clause-does g c =
    refused g.I.Source g.S.Site g.K.Clock (command_of (texts c.args.words.now)) c.in-Err.error c.why_of.result c.args.input.now c.args.site c.stop.result.1 c.args.clock.now c.stop.result.0
    c.in-Err.ensures.value c.why_of.ensures.why c.stop.ensures

pub returns-in-Err-clause-clock : goal.returns-in-Err-clause-clock
returns-in-Err-clause-clock g c = clock_kept g.K.Clock (command_of (texts c.args.words.now)) c.args.clock.now

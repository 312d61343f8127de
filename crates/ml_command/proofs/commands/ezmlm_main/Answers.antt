use Rattle.ml_command.specs.Words.{texts, command_of}
use Rattle.ml_command.proofs.Printing.{prints}
use Rattle.ml_command.proofs.commands.ezmlm_main.Goals as goal

pub returns-clause-prints : goal.returns-clause-prints
returns-clause-prints g c =
    prints g.I.Source g.S.Site g.K.Clock c.law_importing.ensures (command_of (texts c.args.words.now)) c.args.input.now c.by_words.new.input c.args.site c.by_words.result.1 c.args.clock.now c.by_words.new.clock c.by_words.result.0 c.by_words.ensures.does

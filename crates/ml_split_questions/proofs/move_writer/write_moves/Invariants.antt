use Rattle.std.proofs.Common.{◌≡◌, length, take}
use Rattle.ml_plain.specs.Items.{AreNumbers, numbered}
use Rattle.ml_stream.specs.Writing.{stream_text}
use Rattle.ml_split.specs.Moves.{moves_of}
use Rattle.ml_split_questions.proofs.move_writer.write_moves.Given as goal

abbrev pub invariant-loop-i : goal.invariant-loop-i
invariant-loop-i l = AreNumbers l.first (length l.part.members) → l.text ≡ stream_text (numbered l.first l.now (moves_of l.set l.into (take l.i l.part.members)))

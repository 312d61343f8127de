use Rattle.std.proofs.Common.{◌≡◌, take}
use Rattle.ml_split.specs.Parts.{parts_text}
use Rattle.ml_split.proofs.part_writer.write_parts.Given as goal

abbrev pub invariant-loop-part : goal.invariant-loop-part
invariant-loop-part l = l.text ≡ parts_text (take l.part-index l.parts)

-- Which bytes of an exercise a source still has to give.
use Rattle.ml_base.specs.Bytes.{Text}
use Rattle.ml_generated.specs.Items.{left_of}
use Rattle.ml_generated.specs.declared.item_source.Generated.{Generated}

-- the bytes that it has left: of the item that it holds, and of those after it
abbrev pub generated_left : Generated → Text
generated_left g = left_of g.local g.host g.item g.at g.next g.ahead

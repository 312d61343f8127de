-- A layer of puts over files.
use Rattle.std.specs.Prelude.{List}
use Rattle.ml_base.specs.declared.layer.Layer.{Layer}
use Rattle.ml_base.specs.declared.puts.Put.{Put}

-- the files below the layer
abbrev pub files_below : {F : Type 0} → Layer F → F
files_below layer = layer.files

-- the puts that lie over them
abbrev pub puts_over : {F : Type 0} → Layer F → List Put
puts_over layer = layer.txn

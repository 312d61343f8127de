-- What is remembered of files that were read.
use Rattle.std.specs.Prelude.{◌≡◌, List}
use Rattle.ml_base.specs.Dir.{Dir, with_puts}
use Rattle.ml_base.specs.declared.names.Name.{Name}
use Rattle.ml_base.specs.declared.puts.Put.{Put}

-- puts that give each file the bytes that it has: laid over the files, they change nothing
abbrev pub Tells : Dir → List Put → Type 0
Tells dir puts = (name : Name) → with_puts dir puts name ≡ dir name

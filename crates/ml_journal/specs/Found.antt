-- Puts as they stand in a log.
use Rattle.std.specs.Prelude.{List, map}
use Rattle.std.specs.Option.{option_copied}
use Rattle.ml_base.specs.declared.puts.Put.{Put}
use Rattle.ml_journal.specs.declared.log_reader.FoundPut.{FoundPut}

-- the put that was found
abbrev pub put_of : FoundPut → Put
put_of found = record { name = found.name; bytes = option_copied found.bytes }

-- puts that were found
abbrev pub puts_found : List FoundPut → List Put
puts_found found = map put_of found

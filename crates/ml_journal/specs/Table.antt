-- A table of newest puts, laid over files.
use Rattle.ml_base.specs.Dir.{Dir}
use Rattle.ml_journal.specs.declared.newest_puts.Newest.{Newest}
use Rattle.ml_journal.specs.Newest.{with_newest}

-- the directory with the table's puts laid over it
abbrev pub newest_over : Newest → Dir → Dir
newest_over newest dir = with_newest newest.puts dir

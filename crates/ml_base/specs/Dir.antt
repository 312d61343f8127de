-- Directories: which bytes each file has, and what puts change.
use Rattle.std.specs.Prelude.{Bool, ◌&&◌, ◌==◌, List, [], ◌∷◌, Option, Some, None, find, reverse, if◌then◌else◌}
use Rattle.std.specs.List.{list_all, list_any}
use Rattle.ml_base.specs.Bytes.{Text}
use Rattle.ml_base.specs.Name.{is_file}
use Rattle.ml_base.specs.declared.names.Name.{Name}
use Rattle.ml_base.specs.declared.puts.Put.{Put}

-- the bytes of every file, or None if it is absent
abbrev pub Dir : Type 0
Dir = Name → Option Text

-- whether two names are one
abbrev pub same_name : Name → Name → Bool
same_name a b = (a.kind == b.kind) && (a.at == b.at)

-- the directory with a file of these bytes, or without it
abbrev pub with_file : Dir → Name → Option Text → Dir
with_file dir name bytes other = if same_name other name then bytes else dir other

-- the directory with a put laid over it
abbrev pub with_put : Dir → Put → Dir
with_put dir put = with_file dir put.name put.bytes

-- the directory with a row of puts laid over it, the first of them first, so that a later put of a name wins
abbrev pub with_puts : Dir → List Put → Dir
with_puts dir [] = dir
with_puts dir (put ∷ puts) = with_puts (with_put dir put) puts

-- whether a put of the row is of this file
abbrev pub touches : List Put → Name → Bool
touches puts name = list_any (λ put. same_name name put.name) puts

-- whether every put of the row is of a file that passes the test
abbrev pub touches_only : (Name → Bool) → List Put → Bool
touches_only test puts = list_all (λ put. test put.name) puts

-- whether every put of the row is of a file that the log may name
abbrev pub are_files : List Put → Bool
are_files puts = touches_only is_file puts

-- the newest put of a file in a row
abbrev pub newest_put : List Put → Name → Option Put
newest_put puts name = find (λ put. same_name name put.name) (reverse puts)

-- the bytes that a put leaves in its file, or those that were there before if there is no put
abbrev pub laid_by : Option Put → Option Text → Option Text
laid_by None before = before
laid_by (Some put) before = put.bytes

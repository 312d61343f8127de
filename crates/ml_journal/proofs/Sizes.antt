-- How long a record is.
use Rattle.std.proofs.Common.{◌≤◌, ◌+◌, List, [], ◌∷◌, ◌++◌, length, Option, Some, None, arith, length-append}
use Rattle.std.specs.Fmt.{decimal}
use Rattle.ml_base.specs.Bytes.{Text}
use Rattle.ml_base.specs.Netstrings.{ns}
use Rattle.ml_base.specs.declared.names.Name.{Name}
use Rattle.ml_base.specs.declared.puts.Put.{Put}
use Rattle.ml_journal.specs.Records.{spelled_name, spelled_as, spelled_put, spelled_puts, spelled_record, content_size}

ns_holds : (content : Text) → length content ≤ length (ns content)
ns_holds content = omega (arith, length-append (decimal (length content) ++ 58 ∷ content) (44 ∷ []), length-append (decimal (length content)) (58 ∷ content))

put_holds : (name : Name) (bytes : Option Text) (puts : List Put) → content_size (record { name = name; bytes = bytes } ∷ puts) ≤ length (spelled_as name bytes) + content_size puts
put_holds name None puts = omega arith
put_holds name (Some bytes) puts = omega (arith, length-append (spelled_name name) (ns bytes), ns_holds bytes)

puts_hold : (puts : List Put) → content_size puts ≤ length (spelled_puts puts)
puts_hold [] = omega arith
puts_hold (put ∷ puts) = omega (arith, put_holds put.name put.bytes puts, puts_hold puts, length-append (spelled_put put) (spelled_puts puts))

-- a record is at least as long as the contents of its puts
pub record_holds : (puts : List Put) → content_size puts ≤ length (spelled_record puts)
record_holds puts = omega (arith, puts_hold puts, ns_holds (spelled_puts puts))

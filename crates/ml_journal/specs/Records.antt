-- The records of a log: each is the netstring of a row of puts, after a gate byte.
use Rattle.std.specs.Prelude.{ℕ, zero, suc, ◌+◌, ◌==◌, List, [], ◌∷◌, ◌++◌, length, Option, Some, None, option_map, if◌then◌else◌}
use Rattle.std.specs.Option.{option_and_then}
use Rattle.std.specs.Fmt.{decimal}
use Rattle.ml_base.specs.Bytes.{Text, colon}
use Rattle.ml_base.specs.Name.{file_named}
use Rattle.ml_base.specs.Netstrings.{netstring_at, ns}
use Rattle.ml_base.specs.Numbers.{number_of}
use Rattle.ml_base.specs.declared.names.Name.{Name}
use Rattle.ml_base.specs.declared.puts.Put.{Put}

-- a file's name: its kind and its place, each a number in a netstring
abbrev pub spelled_name : Name → Text
spelled_name name = ns (decimal name.kind) ++ ns (decimal name.at)

-- `W`, the name and the bytes of a put that writes; `X` and the name of one that removes
abbrev pub spelled_as : Name → Option Text → Text
spelled_as name (Some bytes) = 87 ∷ spelled_name name ++ ns bytes
spelled_as name None = 88 ∷ spelled_name name

-- a put as a record has it
abbrev pub spelled_put : Put → Text
spelled_put put = spelled_as put.name put.bytes

-- what comes before a put's content, or all of a put that removes
abbrev pub spelled_head : Name → Option Text → Text
spelled_head name (Some bytes) = 87 ∷ spelled_name name ++ decimal (length bytes) ++ colon ∷ []
spelled_head name None = 88 ∷ spelled_name name

-- puts in a row
abbrev pub spelled_puts : List Put → Text
spelled_puts [] = []
spelled_puts (put ∷ puts) = spelled_put put ++ spelled_puts puts

-- a record, without its gate
abbrev pub spelled_record : List Put → Text
spelled_record puts = ns (spelled_puts puts)

-- how many bytes the puts give to files
abbrev pub content_size : List Put → ℕ
content_size [] = 0
content_size (put ∷ puts) = bytes_size put.bytes + content_size puts
  where
    bytes_size : Option Text → ℕ
    bytes_size None = 0
    bytes_size (Some bytes) = length bytes

-- the number whose netstring a text begins with, and what follows it
abbrev pub number_at : Text → Option (ℕ × Text)
number_at text = option_and_then (λ found. option_map (λ n. (n, found.1)) (number_of found.0)) (netstring_at text)

-- the name that a text begins with, and what follows it
abbrev pub name_at : Text → Option (Name × Text)
name_at text = option_and_then (λ kind. option_and_then (λ at. option_map (λ name. (name, at.1)) (file_named kind.0 at.0)) (number_at kind.1)) (number_at text)

-- after a `W`: the put, and what follows it
abbrev pub write_at : Text → Option (Put × Text)
write_at text = option_and_then (λ named. option_map (λ found. (record { name = named.0; bytes = Some found.0 }, found.1)) (netstring_at named.1)) (name_at text)

-- after an `X`: the put, and what follows it
abbrev pub removal_at : Text → Option (Put × Text)
removal_at text = option_map (λ named. (record { name = named.0; bytes = None }, named.1)) (name_at text)

-- the put that a text begins with, and what follows it
abbrev pub put_at : Text → Option (Put × Text)
put_at [] = None
put_at (letter ∷ text) = if letter == 87 then write_at text else (if letter == 88 then removal_at text else None)

-- puts with one more before them
abbrev pub with_first : Put → Option (List Put) → Option (List Put)
with_first put puts = option_map (λ more. put ∷ more) puts

-- the puts of a text that begins with the one that was found
abbrev pub first_and_more : (Text → Option (List Put)) → Option (Put × Text) → Option (List Put)
first_and_more more None = None
first_and_more more (Some found) = with_first found.0 (more found.1)

-- the puts whose row a text is, if it is a row of at most so many
abbrev pub puts_within : ℕ → Text → Option (List Put)
puts_within n [] = Some []
puts_within zero (letter ∷ text) = None
puts_within (suc n) (letter ∷ text) = first_and_more (puts_within n) (put_at (letter ∷ text))

-- the puts whose row a text is; each has at least one byte, so there are at most as many as bytes
abbrev pub puts_of : Text → Option (List Put)
puts_of text = puts_within (length text) text

-- the puts of the record that a text begins with, and what follows it
abbrev pub record_at : Text → Option (List Put × Text)
record_at text = option_and_then (λ found. option_map (λ puts. (puts, found.1)) (puts_of found.0)) (netstring_at text)

-- How the file of the configuration is read.
use Rattle.std.specs.Prelude.{◌==◌, length, take, drop, if◌then◌else◌, codes, Option, Some, None}
use Rattle.std.specs.Str.{bytes_eq}
use Rattle.std.specs.Option.{option_and_then}
use Rattle.ml_base.specs.Bytes.{Text, line_feed}
use Rattle.ml_base.specs.Options.{◌>>=◌}
use Rattle.ml_base.specs.Splits.{split_first}
use Rattle.ml_config.specs.ConfigFile.{Values}
use Rattle.ml_config.specs.declared.config_reader.Lines.{Lines}

-- the text after a name, if it begins with that name
abbrev pub after : Text → Text → Option Text
after name text = if bytes_eq (take (length name) text) name then Some (drop (length name) text) else None

-- the value of the line that a text begins with, if the line has this name, and the text after its LF
unfoldable pub value_at : Text → Text → Option (Text × Text)
value_at name text = option_and_then (split_first line_feed) (after name text)

-- the six values, if no text is left after them
abbrev pub with_end : Values → Text → Option Values
with_end v rest = if length rest == 0 then Some v else None

-- the values of six lines
unfoldable pub lines_of : Text → Option Values
lines_of text = do
  flags ← value_at (codes "flags ") text
  local ← value_at (codes "local ") flags.1
  host ← value_at (codes "host ") local.1
  owner ← value_at (codes "owner ") host.1
  prefix ← value_at (codes "prefix ") owner.1
  max ← value_at (codes "max ") prefix.1
  with_end (record { flags = flags.0; local = local.0; host = host.0; owner = owner.0; prefix = prefix.0; max = max.0 }) max.1

-- the texts of lines
abbrev pub texts_of : Lines → Values
texts_of v = record { flags = v.flags.now; local = v.local.now; host = v.host.now; owner = v.owner.now; prefix = v.prefix.now; max = v.max.now }

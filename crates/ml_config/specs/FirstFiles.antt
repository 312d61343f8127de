-- The files of a new list, and the puts that make them.
use Rattle.std.specs.Prelude.{ℕ, ◌&&◌, ◌||◌, ◌==◌, nat_le, if◌then◌else◌, codes, map, List, ◌∷◌, ◌++◌, [], Some, None}
use Rattle.std.specs.List.{range_with_len}
use Rattle.ml_base.specs.Bytes.{Text, line_feed}
use Rattle.ml_base.specs.Dir.{Dir}
use Rattle.ml_base.specs.declared.puts.Put.{Put}
use Rattle.ml_base.specs.Kinds.{config_kind, key_kind, count_kind, number_kind, mark_kind, tickets_kind, ids_kind}
use Rattle.ml_config.specs.ConfigFile.{config_text}
use Rattle.ml_config.specs.declared.configuration.Config.{Config}

-- a text and an LF
abbrev pub with_lf : Text → Text
with_lf text = text ++ line_feed ∷ []

-- the put that writes a file
abbrev pub file_put : ℕ → ℕ → Text → Put
file_put kind at bytes = record { name = record { kind = kind; at = at }; bytes = Some bytes }

-- the put that writes the count of a set without members
abbrev pub empty_count : ℕ → Put
empty_count set = file_put count_kind set (with_lf (codes "0"))

-- a put for each file of a new list
unfoldable pub first_puts : Config → Text → List Put
first_puts c key =
    file_put config_kind 0 (config_text c) ∷ file_put key_kind 0 key ∷ map empty_count (range_with_len 0 5)
    ++ (file_put number_kind 0 (with_lf (codes "0")) ∷ file_put mark_kind 0 (with_lf (codes "0:0")) ∷ file_put tickets_kind 0 (with_lf (codes "1:1")) ∷ file_put ids_kind 0 (with_lf (codes "1:1")) ∷ [])

-- a directory without any file
abbrev pub no_files : Dir
no_files name = None

-- The files of a new list: its configuration, its key, five sets without members, no posts and no digests, and neither held posts
-- nor queue entries, whose numbers begin at 1. No other file is there.
abbrev pub first_files : Config → Text → Dir
first_files c key name =
    if name.kind == config_kind && name.at == 0 then Some (config_text c)
    else (if name.kind == key_kind && name.at == 0 then Some key
    else (if name.kind == count_kind && nat_le name.at 4 then Some (with_lf (codes "0"))
    else (if name.kind == number_kind && name.at == 0 then Some (with_lf (codes "0"))
    else (if name.kind == mark_kind && name.at == 0 then Some (with_lf (codes "0:0"))
    else (if (name.kind == tickets_kind || name.kind == ids_kind) && name.at == 0 then Some (with_lf (codes "1:1"))
    else None)))))

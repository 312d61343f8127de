-- The fields that name recipients.
use Rattle.std.specs.Prelude.{Bool, ◌||◌, codes}
use Rattle.ml_header.specs.Fields.{FieldText, has_name}

-- a field named To or Cc
abbrev pub recipients : FieldText → Bool
recipients f = has_name (codes "to") f || has_name (codes "cc") f

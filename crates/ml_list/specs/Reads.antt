-- Which files deliveries may read.
use Rattle.std.specs.Prelude.{nat_le, Bool, ◌&&◌, ◌||◌, ◌==◌}
use Rattle.ml_base.specs.Name.{is_in_table}
use Rattle.ml_base.specs.declared.names.Name.{Name}
use Rattle.ml_base.specs.Kinds.{key_kind, digest_bounces_kind, ids_kind, thread_kind}

-- the files of the list that a delivery may name as damaged: all of the table except the log, the configuration, the entries of the queue,
-- the floor and the kept replies. The contracts of posting and managing say which of them mail to an address reads.
abbrev pub is_of_acts : Name → Bool
is_of_acts name = is_in_table name && ((nat_le key_kind name.kind && nat_le name.kind digest_bounces_kind) || (name.kind == ids_kind || name.kind == thread_kind))

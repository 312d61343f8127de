-- Posts that wait for the moderators.
use Rattle.std.specs.Prelude.{Bool, ◌||◌}
use Rattle.ml_base.specs.Dir.{same_name}
use Rattle.ml_base.specs.declared.names.Name.{Name}
use Rattle.ml_base.specs.declared.names.Set.TheVariants as sets
use Rattle.ml_config.specs.KeyFile.{key_name}
use Rattle.ml_hold.specs.Answers.{tickets_name}
use Rattle.ml_acts.specs.Doing.{is_mailed_by}

-- the files that asking the moderators reads: the keys, and those of a mail to the moderators
abbrev pub is_asked_by : Name → Bool
is_asked_by name = same_name name key_name || is_mailed_by sets.Moderators name

-- the files that holding a post reads: the next ticket, and these
abbrev pub is_held_by : Name → Bool
is_held_by name = same_name name tickets_name || is_asked_by name

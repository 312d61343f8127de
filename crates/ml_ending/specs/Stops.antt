-- Why a call ends early: the exit status of every reason, and which error gives which reason.
use Rattle.std.specs.Prelude.{ℕ}
use Rattle.ml_base.specs.declared.names.Name.{Name}
use Rattle.ml_base.specs.declared.part_error.PartError.{PartError}
use Rattle.ml_base.specs.declared.part_error.PartError.TheVariants as parts
use Rattle.ml_journal.specs.declared.errors.CommitError.{CommitError}
use Rattle.ml_journal.specs.declared.errors.CommitError.TheVariants as commits
use Rattle.ml_journal.specs.declared.errors.OpenError.{OpenError}
use Rattle.ml_journal.specs.declared.errors.OpenError.TheVariants as opens
use Rattle.ml_ending.specs.declared.lines.Why.{Why}
use Rattle.ml_ending.specs.declared.lines.Why.TheVariants as whys
pub use Rattle.ml_base.specs.Kinds.{log_name}

-- the status of a run that ends early
abbrev pub status_of_why : Why → ℕ
status_of_why whys.Usage = 64
status_of_why (whys.Bad at) = 65
status_of_why (whys.Short at) = 65
status_of_why whys.Words = 65
status_of_why whys.Long = 65
status_of_why whys.Clock = 69
status_of_why whys.Memory = 71
status_of_why whys.More = 72
status_of_why whys.Input = 74
status_of_why whys.NoList = 75
status_of_why (whys.At name) = 75
status_of_why whys.There = 100
status_of_why whys.Absent = 100
status_of_why whys.Disk = 111

-- why a run ends if a part of the list gave no answer
abbrev pub why_of_part : PartError → Why
why_of_part parts.Fault = whys.Disk
why_of_part parts.Memory = whys.Memory
why_of_part (parts.Damaged name) = whys.At name

-- why a run ends if its commit or its close was refused
abbrev pub why_of_commit : CommitError → Why
why_of_commit commits.Fault = whys.Disk
why_of_commit commits.Memory = whys.Memory

-- why a run ends if its store wasn't opened
abbrev pub why_of_open : OpenError → Why
why_of_open opens.Fault = whys.Disk
why_of_open opens.Damaged = whys.At log_name
why_of_open opens.Memory = whys.Memory

-- What a call of a store answers if a call of its site failed.
use Rattle.ml_site.specs.declared.site.SiteError.{SiteError}
use Rattle.ml_site.specs.declared.site.SiteError.TheVariants as calls
use Rattle.ml_journal.specs.declared.errors.OpenError.{OpenError}
use Rattle.ml_journal.specs.declared.errors.OpenError.TheVariants as opens
use Rattle.ml_journal.specs.declared.errors.CommitError.{CommitError}
use Rattle.ml_journal.specs.declared.errors.CommitError.TheVariants as commits

-- the error of an opening
abbrev pub open_error : SiteError → OpenError
open_error calls.Failed = opens.Fault
open_error calls.Memory = opens.Memory

-- the error of a commit or a closing
abbrev pub commit_error : SiteError → CommitError
commit_error calls.Failed = commits.Fault
commit_error calls.Memory = commits.Memory

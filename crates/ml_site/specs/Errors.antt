-- Why a file was not read, if a call of the site failed.
use Rattle.ml_base.specs.declared.files.FilesError.{FilesError}
use Rattle.ml_base.specs.declared.files.FilesError.TheVariants as files
use Rattle.ml_site.specs.declared.site.SiteError.{SiteError}
use Rattle.ml_site.specs.declared.site.SiteError.TheVariants as calls

-- the error of files whose site answered this one
abbrev pub files_error : SiteError → FilesError
files_error calls.Failed = files.Fault
files_error calls.Memory = files.Memory

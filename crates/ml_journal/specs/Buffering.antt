-- The bytes that a writer of the log has taken: they are buffered, or were handed to the log.
use Rattle.std.specs.Prelude.{◌≡◌, ◌+◌, ◌++◌, length, Result, OnOk}
use Rattle.ml_base.specs.Bytes.{Text}
use Rattle.ml_site.specs.declared.site.SiteError.{SiteError}
use Rattle.ml_site.specs.declared.site.Site.{Ghosts}
use Rattle.ml_journal.specs.Handing.{Hands}
use Rattle.ml_journal.specs.declared.log_writer.LogWriter.{LogWriter}

-- A text was added to what was buffered. Some first bytes of both were handed to the log, and at Ok the others are buffered.
pub record Buffers {S : Type 0} (ghosts : Ghosts S) (result : Result (Unit {0}) SiteError) (text : Text) (before after : LogWriter) (old new : S) : Type 0 where
  pub handed : Text
  pub left : Text
  pub all : handed ++ left ≡ before.buffered ++ text
  pub buffered : OnOk result (left ≡ after.buffered)
  pub at : OnOk result (after.at ≡ before.at + length handed)
  pub hands : Hands ghosts result before.at handed old new

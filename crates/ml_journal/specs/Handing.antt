-- Bytes that are handed to the log in several writes, each after the one before.
use Rattle.std.specs.Prelude.{◌≡◌, ◌≤◌, ◌+◌, ℕ, IsTrue, IsErrOf, List, [], ◌∷◌, length, Result, OnOk}
use Rattle.ml_base.specs.Bytes.{Text}
use Rattle.ml_site.specs.Disk.{Contents, Part, Range, Cut, File, Disk, Changes, Elapses, log_with}
use Rattle.ml_site.specs.Instants.{Within}
use Rattle.ml_site.specs.declared.site.SiteError.{SiteError}
use Rattle.ml_site.specs.declared.site.SiteError.TheVariants.{Failed as FailedCall}
use Rattle.ml_site.specs.declared.site.Site.{Ghosts}
use Rattle.ml_journal.specs.Calls.{Keeps}

-- every part is a range of the log within this one
abbrev pub AreWithin : ℕ → ℕ → List Part → Type 0
AreWithin at size [] = Unit {0}
AreWithin at size (Range from n ∷ parts) = (at ≤ from) × (from + n ≤ at + size) × AreWithin at size parts
AreWithin at size (Cut n ∷ parts) = ⊥
AreWithin at size (File name ∷ parts) = ⊥

-- only parts of this range are pending, over these contents
pub record IsPendingIn (at size : ℕ) (old : Contents) (disk : Disk) : Type 0 where
  pub settled : disk.settled ≡ old
  pub pending : AreWithin at size disk.pending

-- A text was handed to the log from this place on, in some writes. After an error nothing outside its range differs. If the text lies in
-- a range of which only parts were pending, the same holds after it, and a crash during it leaves nothing else.
pub record Hands {S : Type 0} (ghosts : Ghosts S) (result : Result (Unit {0}) SiteError) (at : ℕ) (text : Text) (old new : S) : Type 0 where
  pub reads : IsTrue ghosts.tells_reads → Changes result (Range at (length text)) (log_with (ghosts.disk old).reads at text) (ghosts.disk old).reads (ghosts.disk new).reads
  pub pends : IsTrue ghosts.tells_all → (from size : ℕ) (base : Contents) → from ≤ at → at + length text ≤ from + size
      → IsPendingIn from size base (ghosts.disk old) → IsPendingIn from size base (ghosts.disk new)
  pub time : IsTrue ghosts.tells_all → (from size : ℕ) (base : Contents) → from ≤ at → at + length text ≤ from + size
      → IsPendingIn from size base (ghosts.disk old) → Elapses (ghosts.instant old) (ghosts.instant new) (ghosts.left_since old) (ghosts.left_since new) (Within base (Range from size ∷ []) (ghosts.output old))
  pub log_bytes : IsTrue ghosts.tells_all → OnOk result (ghosts.log_bytes new ≡ ghosts.log_bytes old + length text)
  pub keeps : Keeps ghosts 0 (IsErrOf result FailedCall) old new

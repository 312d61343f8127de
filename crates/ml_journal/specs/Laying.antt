-- How files are laid down from the newest puts of a log.
use Rattle.std.specs.Prelude.{◌≡◌, ◌≢◌, IsTrue, List, [], ◌∷◌, Option, None, IsSome, Result, OnOk}
use Rattle.std.specs.BTreeMap.{BTreeMap}
use Rattle.ml_base.specs.Bytes.{Text}
use Rattle.ml_base.specs.declared.names.Name.{Name}
use Rattle.ml_site.specs.Disk.{Contents, Disk}
use Rattle.ml_site.proofs.FileParts.{AreOver}
use Rattle.ml_site.specs.declared.site.Site.{Ghosts}
use Rattle.ml_journal.specs.Calls.{Leaves}
use Rattle.ml_journal.specs.Newest.{newest_of, with_newest}

-- what is held, with the newest puts laid over the files
abbrev pub laid_down : BTreeMap Name (Option Text) → Contents → Contents
laid_down puts old = record { log = old.log; files = with_newest puts old.files }

-- the same log, and the same files except for those of these puts
pub record Beside (puts : BTreeMap Name (Option Text)) (old new : Contents) : Type 0 where
  pub log : new.log ≡ old.log
  pub files : (name : Name) → newest_of puts name ≡ None → new.files name ≡ old.files name

-- the files of these puts were laid down: at every instant, and after an error, only these files differ
pub record LaysFiles {S E : Type 0} (ghosts : Ghosts S) (result : Result (Unit {0}) E) (puts : BTreeMap Name (Option Text)) (old new : S) : Type 0 where
  pub reads : IsTrue ghosts.tells_reads → OnOk result ((ghosts.disk new).reads ≡ laid_down puts (ghosts.disk old).reads)
  pub beside : IsTrue ghosts.tells_reads → Beside puts (ghosts.disk old).reads (ghosts.disk new).reads
  pub instants : Leaves ghosts old new (λ left out. Beside puts (ghosts.disk old).reads left × (out ≡ ghosts.output old))

-- only files of these puts are pending, over these contents
abbrev pub IsOver : BTreeMap Name (Option Text) → Contents → Disk → Type 0
IsOver puts old disk = AreOver (λ name. IsSome (newest_of puts name)) old disk

-- none of these entries is of this file
abbrev pub IsBeside : Name → List (Name × Option Text) → Type 0
IsBeside name [] = Unit {0}
IsBeside name (entry ∷ entries) = (name ≢ entry.0) × IsBeside name entries

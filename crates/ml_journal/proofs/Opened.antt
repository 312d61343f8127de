-- An opening begins with a sync: what a crash leaves before it, and what after it.
use Rattle.std.proofs.Common.{◌≡◌, ◌+◌, IsTrue, ◌∙◌, ap}
use Rattle.ml_site.specs.Disk.{Contents, Elapses, IsAtRest, IsImage, Now}
use Rattle.ml_site.specs.Instants.{BeforeFirstSync, FromFirstSync}
use Rattle.ml_site.specs.declared.site.Site.{Ghosts}
use Rattle.ml_site.proofs.Steps.{after_sync, joins, not_synced, rest_contents, weaker}
use Rattle.ml_journal.specs.Log.{directory}
use Rattle.ml_journal.specs.Instants.{IsOld}
use Rattle.ml_journal.specs.Calls.{Leaves, OnlyNow, KeepsDirectory}

module _ {S : Type 0} (ghosts : Ghosts S) (only_now : OnlyNow ghosts) (all_has_reads : IsTrue ghosts.tells_all → IsTrue ghosts.tells_reads) where
  -- what a sync leaves
  pub record Syncs (old new : S) : Type 0 where
    pub reads : IsTrue ghosts.tells_reads → (ghosts.disk new).reads ≡ (ghosts.disk old).reads
    pub crash : IsTrue ghosts.tells_all → (left : Contents) → IsImage (ghosts.disk new) left → IsImage (ghosts.disk old) left
    pub output : IsTrue ghosts.tells_all → ghosts.output new ≡ ghosts.output old
    pub time : IsTrue ghosts.tells_all → Elapses (ghosts.instant old) (ghosts.instant new) (ghosts.left_since old) (ghosts.left_since new) (Now (ghosts.disk new) (ghosts.output new))

  -- a crash during it leaves what a crash before it could leave
  synced : (old new : S) → Syncs old new → Leaves ghosts old new (Now (ghosts.disk old) (ghosts.output old))
  synced old new syncs t = after_sync ghosts.instant ghosts.left_since ghosts.disk ghosts.output (λ s left out l. only_now s left out t l) old new (syncs.crash t) (syncs.output t) (syncs.time t)

  pub not_opened : (old new : S) → Syncs old new → (IsTrue ghosts.tells_all → ghosts.syncs new ≡ ghosts.syncs old) → (IsTrue ghosts.tells_all → ghosts.disk new ≡ ghosts.disk old) → IsTrue ghosts.tells_all
      → BeforeFirstSync ghosts.instant ghosts.left_since ghosts.disk ghosts.output ghosts.syncs old new (Now (ghosts.disk old) (ghosts.output old))
  not_opened old new syncs none same t = not_synced ghosts.instant ghosts.left_since ghosts.disk ghosts.output (λ s left out l. only_now s left out t l) ghosts.syncs old new (none t) (same t) (syncs.crash t) (syncs.output t) (syncs.time t)

  -- if nothing was pending, the directory stays
  pub synced_at_rest : (old new : S) → Syncs old new → IsAtRest (ghosts.disk old) → Leaves ghosts old new (IsOld (directory (ghosts.disk old).reads) (ghosts.output old))
  synced_at_rest old new syncs rest t = weaker ghosts.instant ghosts.left_since ghosts.disk ghosts.output old new (Now (ghosts.disk old) (ghosts.output old)) (IsOld (directory (ghosts.disk old).reads) (ghosts.output old)) (synced old new syncs t)
      (λ left out now. (ap directory (rest_contents (ghosts.disk old) left rest now.0), now.1))

  -- calls after it that keep the directory
  after : (old mid new : S) → Syncs old mid → KeepsDirectory ghosts mid new → Leaves ghosts mid new (IsOld (directory (ghosts.disk old).reads) (ghosts.output old))
  after old mid new syncs keeps t = weaker ghosts.instant ghosts.left_since ghosts.disk ghosts.output mid new (IsOld (directory (ghosts.disk mid).reads) (ghosts.output mid)) (IsOld (directory (ghosts.disk old).reads) (ghosts.output old))
      (keeps.instants t) (λ left out now. (now.0 ∙ ap directory (syncs.reads (all_has_reads t)), now.1 ∙ syncs.output t))

  pub opened : (old mid new : S) → Syncs old mid → (IsTrue ghosts.tells_all → ghosts.syncs mid ≡ ghosts.syncs old + 1) → (IsTrue ghosts.tells_all → IsAtRest (ghosts.disk mid)) → KeepsDirectory ghosts mid new → IsTrue ghosts.tells_all
      → FromFirstSync ghosts.instant ghosts.left_since ghosts.disk ghosts.output ghosts.syncs old new (Now (ghosts.disk old) (ghosts.output old)) (IsOld (directory (ghosts.disk old).reads) (ghosts.output old))
  opened old mid new syncs one rest keeps t = record {
    synced = mid;
    first = one t;
    rest = rest t;
    same = syncs.reads (all_has_reads t);
    until = synced old mid syncs t;
    since = after old mid new syncs keeps t;
  }

  pub opened_at_rest : (old mid new : S) → Syncs old mid → KeepsDirectory ghosts mid new → IsAtRest (ghosts.disk old) → Leaves ghosts old new (IsOld (directory (ghosts.disk old).reads) (ghosts.output old))
  opened_at_rest old mid new syncs keeps rest t = joins ghosts.instant ghosts.left_since ghosts.disk ghosts.output old mid new (IsOld (directory (ghosts.disk old).reads) (ghosts.output old)) (IsOld (directory (ghosts.disk old).reads) (ghosts.output old)) (IsOld (directory (ghosts.disk old).reads) (ghosts.output old))
      (synced_at_rest old mid syncs rest t) (after old mid new syncs keeps t) (λ left out p. p) (λ left out p. p)

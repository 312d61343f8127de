-- What is known of every store that is held.
use Rattle.std.proofs.Common.{◌≤◌, IsTrue, length, arith, ◌≡◌, true, false, Option, Some, None, refl}
use Rattle.std.specs.Prelude.{IsSome}
use Rattle.ml_base.specs.Dir.{Dir}
use Rattle.ml_site.specs.Disk.{IsAtRest}
use Rattle.ml_site.specs.declared.site.Site.{Ghosts}
use Rattle.ml_journal.specs.Log.{directory}
use Rattle.ml_journal.specs.Newest.{with_newest}
use Rattle.ml_journal.specs.Rows.{Rests}
use Rattle.ml_journal.specs.Stores.{site_of, the_dir}
use Rattle.ml_journal.specs.declared.store.Store.{Store}
use Rattle.ml_journal.proofs.Crash.{rests_size}
use Rattle.ml_journal.proofs.Fields.{rests_of, whole}

module _ {S : Type 0} {ghosts : Ghosts S} (store : Store S ghosts) where
  -- its log is open records up to its end, and a closed gate
  pub held_rests : IsTrue ghosts.tells_reads → Rests (ghosts.disk (site_of store)).reads.log store.end (with_newest store.newest.puts)
  held_rests r = rests_of (ghosts.disk store.site).reads.log store.end (with_newest store.newest.puts) (store.split r) (store.begins r) (store.row r)

  -- nothing is pending
  pub held_rest : IsTrue ghosts.tells_all → IsAtRest (ghosts.disk (site_of store))
  held_rest t = record { settled = store.settled t; pending = store.rest t }

  -- it has a directory
  pub held_whole : IsTrue ghosts.tells_reads → IsSome (directory (ghosts.disk (site_of store)).reads)
  held_whole r = whole (ghosts.disk store.site).reads store.end (with_newest store.newest.puts) (held_rests r)

  -- its log is at most LAY bytes long
  pub held_short : IsTrue ghosts.tells_reads → length (ghosts.disk (site_of store)).reads.log ≤ 8_388_608
  held_short r = omega (arith, store.small, rests_size (ghosts.disk store.site).reads.log store.end (with_newest store.newest.puts) (held_rests r))

pub some_dir : (d : Option Dir) → IsSome d → d ≡ Some (the_dir d)
some_dir None some = let h : false ≡ true = some in cc
some_dir (Some d) some = refl

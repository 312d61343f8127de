use Rattle.std.proofs.Common.{◌≡◌, ◌+◌, drop}
use Rattle.std.specs.Bool.{IsTrue}
use Rattle.ml_base.specs.Dir.{Dir, with_puts}
use Rattle.ml_base.specs.Layers.{files_below, puts_over}
use Rattle.ml_plain.specs.Directory.{IsList}
use Rattle.ml_plain.specs.Plain.{Plain}
use Rattle.ml_plain.specs.Timing.{give_old_back as gone_back}
use Rattle.ml_acts.specs.Doing.{Alike, HasIdsUpTo}
use Rattle.ml_timed.specs.Giving.{is_given}
use Rattle.ml_timed.specs.Reads.{is_of_giving_back}
use Rattle.ml_timed.proofs.Older.{GoesOn}
use Rattle.ml_timed.proofs.Parts.{HasLaid}
use Rattle.ml_timed.proofs.returned_posts.give_old_back.Given as goal

abbrev pub invariant-loop-ticket : goal.invariant-loop-ticket
invariant-loop-ticket g l = record {
  laid : HasLaid is_given g.F.Files l.fn.files l.files;
  ids : IsTrue g.F.Files.tells → HasIdsUpTo (with_puts (g.F.Files.map (files_below l.fn.files)) (puts_over l.files)) (999_999_999_997_000 + l.ticket-index);
  goes : IsTrue g.F.Files.tells → (dir : Dir) (p : Plain) → Alike is_of_giving_back (g.F.Files.map (files_below l.fn.files)) dir → IsList (with_puts dir (puts_over l.fn.files)) p → p.config ≡ l.config
      → GoesOn l.now.seconds l.config (with_puts dir (puts_over l.files)) (drop l.ticket-index l.tickets) l.room (gone_back l.now.seconds p);
}

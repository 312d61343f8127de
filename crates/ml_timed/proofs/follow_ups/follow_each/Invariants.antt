use Rattle.std.proofs.Common.{ℕ, ◌+◌, length, IsTrue}
use Rattle.ml_base.specs.Dir.{Dir, with_puts}
use Rattle.ml_base.specs.Layers.{files_below, puts_over}
use Rattle.ml_bounce.specs.Ledger.{Ledger}
use Rattle.ml_plain.specs.Plain.{Plain}
use Rattle.ml_acts.specs.Doing.{Alike}
use Rattle.ml_timed.specs.Found.{is_followed_up}
use Rattle.ml_timed.specs.Ahead.{HasIdsFor, IsAhead}
use Rattle.ml_timed.specs.Reads.{is_followed_by}
use Rattle.ml_timed.proofs.Amid.{IsAmid}
use Rattle.ml_timed.proofs.Parts.{HasLaid}
use Rattle.ml_timed.proofs.follow_ups.follow_each.Given as goal

abbrev pub decreases-loop-rest : goal.decreases-loop-rest
decreases-loop-rest g l = length l.rest

abbrev pub invariant-loop-rest : goal.invariant-loop-rest
invariant-loop-rest g l = record {
  laid : HasLaid is_followed_up g.F.Files l.fn.files l.files;
  ids : IsTrue g.F.Files.tells → (more : ℕ) → HasIdsFor (with_puts (g.F.Files.map (files_below l.fn.files)) (puts_over l.fn.files)) (length l.fn.actions + more)
      → HasIdsFor (with_puts (g.F.Files.map (files_below l.fn.files)) (puts_over l.files)) (length l.rest + more);
  amid : IsTrue g.F.Files.tells → (dir : Dir) (p : Plain) (es : Ledger) → Alike (is_followed_by l.set) (g.F.Files.map (files_below l.fn.files)) dir → IsAhead (with_puts dir (puts_over l.fn.files)) l.config l.keys l.set l.fn.actions p es
      → IsAmid l.now.seconds (with_puts dir (puts_over l.files)) l.config l.keys l.set l.rest p es;
}

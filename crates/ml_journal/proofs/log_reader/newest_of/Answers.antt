use Rattle.std.proofs.Common.{arith, ◌∙◌, sym}
use Rattle.ml_journal.specs.Table.{newest_over}
use Rattle.ml_journal.proofs.ReadSoFar.{none_older, found_file, older_so_far}
use Rattle.ml_journal.proofs.log_reader.newest_of.Goals as goal

pub loop-left-init : goal.loop-left-init
loop-left-init c = (omega arith, λ files. c.new-newest.ensures files ∙ sym (none_older c.args.found.now files))

pub add_older-requires : goal.add_older-requires
add_older-requires c = found_file c.args.found.now _ _ (omega (arith, c.loop-left-test.true, c.loop-left.invariant.0)) c.requires

pub loop-left-preserved : goal.loop-left-preserved
loop-left-preserved c = (
  omega (arith, c.loop-left.invariant.0),
  older_so_far c.args.found.now c.loop-left.left _ (newest_over c.loop-left.newest) (newest_over c.add_older.new.newest) c.loop-left-test.true c.loop-left.invariant.0 c.loop-left.invariant.1 c.in_ok-add_older.ensures,
)

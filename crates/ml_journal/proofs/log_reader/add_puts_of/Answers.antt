use Rattle.std.proofs.Common.{rules, ◌≡◌, Some}
use Rattle.ml_journal.specs.Found.{put_of}
use Rattle.ml_journal.specs.Records.{put_at}
use Rattle.ml_journal.proofs.Records.{put_shorter}
use Rattle.ml_journal.proofs.ReadSoFar.{next_put}
use Rattle.ml_journal.proofs.log_reader.add_puts_of.Goals as goal

pub loop-rest-smaller : goal.loop-rest-smaller
loop-rest-smaller c =
    let read : put_at c.loop-rest.rest.now ≡ Some (put_of c.in-Some.put, c.in-Some.after.now) = search rules in
    put_shorter _ _ _ read

pub loop-rest-preserved : goal.loop-rest-preserved
loop-rest-preserved c =
    let read : put_at c.loop-rest.rest.now ≡ Some (put_of c.in-Some.put, c.in-Some.after.now) = search rules in
    next_put _ c.loop-rest.found.items _ c.loop-rest.rest.now _ _ read c.in_ok-push.ensures.items c.loop-rest.invariant

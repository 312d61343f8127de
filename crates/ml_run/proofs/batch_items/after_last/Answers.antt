use Rattle.std.proofs.Common.{◌≡◌, true, false, refl}
use Rattle.ml_base.specs.Bytes.{is_empty}
use Rattle.ml_stream.specs.Items.{place_of}
use Rattle.ml_run.proofs.Ahead.{some_bytes, no_bytes}
use Rattle.ml_stream.proofs.Ahead.{more_ahead, none_ahead}
use Rattle.ml_run.proofs.Taking.{takes_byte, takes_end, takes_nothing}
use Rattle.ml_run.proofs.batch_items.after_last.Goals as goal

pub returns-in-Ok-true-clause-ends : goal.returns-in-Ok-true-clause-ends
returns-in-Ok-true-clause-ends g c ahead ending a =
    let left : is_empty a.bytes ≡ false = some_bytes c.in-Ok-true.field-0 (is_empty a.bytes) c.in-Ok-true.field-0-test (c.in-Ok-true.ensures.more a.bytes a.has) in
    (refl, refl, more_ahead (place_of (g.F.Feed.reader c.args.feed.now)) a.bytes ahead ending a.stream left)

pub returns-in-Ok-false-clause-ends : goal.returns-in-Ok-false-clause-ends
returns-in-Ok-false-clause-ends g c ahead ending a =
    let left : is_empty a.bytes ≡ true = no_bytes c.in-Ok-false.field-0 (is_empty a.bytes) c.in-Ok-false.field-0-test (c.in-Ok-false.ensures.more a.bytes a.has) in
    none_ahead (place_of (g.F.Feed.reader c.args.feed.now)) a.bytes ahead ending a.stream left

pub returns-in-Ok-true-clause-taken : goal.returns-in-Ok-true-clause-taken
returns-in-Ok-true-clause-taken g c bs has = takes_byte (place_of (g.F.Feed.reader c.args.feed.now)) bs (g.F.Feed.reader c.more.new.self) (g.F.Feed.left c.more.new.self) (c.in-Ok-true.ensures.left bs has)

pub returns-in-Ok-false-clause-taken : goal.returns-in-Ok-false-clause-taken
returns-in-Ok-false-clause-taken g c bs has = takes_end (place_of (g.F.Feed.reader c.args.feed.now)) bs (g.F.Feed.reader c.more.new.self) (g.F.Feed.left c.more.new.self) (c.in-Ok-false.ensures.left bs has)

pub returns-in-Err-clause-taken : goal.returns-in-Err-clause-taken
returns-in-Err-clause-taken g c bs has = takes_nothing (place_of (g.F.Feed.reader c.args.feed.now)) bs (g.F.Feed.reader c.more.new.self) (g.F.Feed.left c.more.new.self) c.in-Err.ensures.refused (c.in-Err.ensures.left bs has)

use Rattle.std.proofs.Common.{◌≡◌, ◌<◌, ◌∙◌, ℕ, length, Some, sym}
use Rattle.ml_base.proofs.Options.{some_left}
use Rattle.ml_rows.specs.Rows.{row_of}
use Rattle.ml_keyed.proofs.Parsed.{left_more, some_is}
use Rattle.ml_keyed.proofs.record_reader.read_all.Goals as goal

pub loop-rest-preserved : goal.loop-rest-preserved
loop-rest-preserved g c =
    let record_at = g.R.Keyed.record_at c.args.file in
    let rest = c.loop-rest.rest.now in
    let read = c.in_ok-record.ensures in
    let found = some_is c.in_ok-record.field-0 (c.in-Some.record, c.in-Some.more) (λ r. (place : ℕ) → record_at place rest ≡ Some (r.0, r.1.now)) c.in-Some.is read.some in
    let shorter = some_is c.in_ok-record.field-0 (c.in-Some.record, c.in-Some.more) (λ r. length r.1.now < length rest) c.in-Some.is read.shorter in
    left_more record_at (row_of record_at 0 c.args.text.now) c.loop-rest.out c.push.new.self rest c.in-Some.more.now c.in-Some.record (some_left rest (sym c.is_empty.ensures ∙ c.loop-rest-test.true)) found shorter c.in_ok-push.ensures.ok
    c.loop-rest.invariant

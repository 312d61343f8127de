use Rattle.std.proofs.Common.{◌++◌}
use Rattle.std.specs.List.{flat_map}
use Rattle.ml_base.specs.Sorted.{byte_cmp, with_entry}
use Rattle.ml_keyed.proofs.Rewritten.{with_turn, with_end}
use Rattle.ml_keyed.proofs.record_writer.push_with.Goals as goal

pub loop-first-preserved : goal.loop-first-preserved
loop-first-preserved g c =
    let key_of = g.R.Keyed.key_of in
    let spelling = g.R.Keyed.spelling in
    let parts = c.in-Some.ensures.some in
    with_turn key_of spelling c.loop-first.out c.push.new.out c.args.added.now c.in-Some.first.now c.loop-first.rest.now c.in-Some.more.now
    (c.args.out.now ++ flat_map spelling (with_entry byte_cmp key_of c.args.added.now c.args.records.now)) parts.0 parts.1 c.in_ok-push.ensures c.loop-first.invariant

pub returns : goal.returns
returns g c =
    let key_of = g.R.Keyed.key_of in
    let spelling = g.R.Keyed.spelling in
    with_end key_of spelling c.loop-first.out c.push-2.new.out c.push_all.new.out (c.args.out.now ++ flat_map spelling (with_entry byte_cmp key_of c.args.added.now c.args.records.now)) c.args.added.now c.loop-first.rest.now c.after.result.now
    c.in_default.ensures.none c.after.ensures c.in_ok-push-2.ensures c.in_ok-push_all.ensures c.loop-first.invariant

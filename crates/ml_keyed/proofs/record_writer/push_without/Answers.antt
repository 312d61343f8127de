use Rattle.std.proofs.Common.{◌∙◌, ◌-◌, length, take, drop, sym}
use Rattle.ml_base.specs.Sorted.{byte_cmp, without_key}
use Rattle.ml_rows.proofs.RowLaws.{first_of}
use Rattle.ml_keyed.proofs.Rewritten.{kept_turn, gone_turn}
use Rattle.ml_keyed.proofs.record_writer.push_without.Goals as goal

pub loop-rest-preserved-in_ok-push : goal.loop-rest-preserved-in_ok-push
loop-rest-preserved-in_ok-push g c =
    let key_of = g.R.Keyed.key_of in
    let key = g.R.Keyed.asked c.args.key.now in
    let rest = c.loop-rest.rest.now in
    let first = c.first-item.result in
    kept_turn key_of g.R.Keyed.spelling key c.args.out.now c.loop-rest.out c.push.new.out c.loop-rest.has_records first rest (take (length rest - 1) (drop 1 rest))
    (without_key byte_cmp key_of key c.args.records.now) (first_of rest first c.in-len1-up.len_at_least c.first-item.is) (sym c.has_key.ensures ∙ c.if-not-has_key.true) c.in_ok-push.ensures c.loop-rest.invariant

pub loop-rest-preserved : goal.loop-rest-preserved
loop-rest-preserved g c =
    let key_of = g.R.Keyed.key_of in
    let key = g.R.Keyed.asked c.args.key.now in
    let rest = c.loop-rest.rest.now in
    let first = c.first-item.result in
    gone_turn key_of g.R.Keyed.spelling key c.args.out.now c.loop-rest.out c.loop-rest.has_records first rest (take (length rest - 1) (drop 1 rest))
    (without_key byte_cmp key_of key c.args.records.now) (first_of rest first c.in-len1-up.len_at_least c.first-item.is) (sym c.has_key.ensures ∙ c.if-not-has_key.false) c.loop-rest.invariant

use Rattle.std.proofs.Common.{◌∙◌, ◌-◌, length, take, drop, refl}
use Rattle.ml_base.specs.Sorted.{byte_cmp}
use Rattle.ml_base.proofs.SortedLaws.{bytes_total}
use Rattle.ml_rows.proofs.RowLaws.{first_of}
use Rattle.ml_keyed.proofs.Parsed.{sorted_turn}
use Rattle.ml_keyed.proofs.record_reader.keys_rise.Goals as goal

pub loop-rest-preserved : goal.loop-rest-preserved
loop-rest-preserved g c =
    let key_of = g.R.Keyed.key_of in
    let rest = c.loop-rest.rest.now in
    let first = c.first-item.result in
    sorted_turn byte_cmp bytes_total key_of rest (take (length rest - 1) (drop 1 rest)) first (key_of first) c.is_below_first.result
    (first_of rest first c.in-len1-up.len_at_least c.first-item.is) refl c.is_below_first.ensures c.if-not-is_below_first.false ∙ c.loop-rest.invariant

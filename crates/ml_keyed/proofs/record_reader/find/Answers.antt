use Rattle.std.proofs.Common.{◌∙◌, ◌-◌, length, take, drop, refl, sym}
use Rattle.ml_rows.proofs.RowLaws.{first_of}
use Rattle.ml_keyed.proofs.Rewritten.{find_here, find_after}
use Rattle.ml_keyed.proofs.record_reader.find.Goals as goal

pub returns-then-has_key : goal.returns-then-has_key
returns-then-has_key g c =
    let key_of = g.R.Keyed.key_of in
    let rest = c.loop-rest.rest.now in
    let first = c.first-item.result in
    sym (find_here key_of c.has_key.result (g.R.Keyed.asked c.args.key.now) (key_of first) rest (take (length rest - 1) (drop 1 rest)) first
    (first_of rest first c.in-len1-up.len_at_least c.first-item.is) c.has_key.ensures refl c.if-has_key.true) ∙ c.loop-rest.invariant

pub loop-rest-preserved : goal.loop-rest-preserved
loop-rest-preserved g c =
    let key_of = g.R.Keyed.key_of in
    let rest = c.loop-rest.rest.now in
    let first = c.first-item.result in
    sym (find_after key_of c.has_key.result (g.R.Keyed.asked c.args.key.now) (key_of first) rest (take (length rest - 1) (drop 1 rest)) first
    (first_of rest first c.in-len1-up.len_at_least c.first-item.is) c.has_key.ensures refl c.if-has_key.false) ∙ c.loop-rest.invariant

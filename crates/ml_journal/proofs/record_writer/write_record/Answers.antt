use Rattle.std.proofs.Common.{◌≡◌, ◌≤◌, ◌<◌, ◌^◌, [], ◌∷◌, ◌++◌, length, Ok, Err, refl, ap, arith, length-append, rules}
use Rattle.std.proofs.lemmas.Fmt.{length-decimal-le}
use Rattle.std.specs.Fmt.{decimal}
use Rattle.ml_journal.specs.Records.{spelled_puts, spelled_record}
use Rattle.ml_journal.proofs.Buffered.{buffers_cut, buffers_on, buffers_size, hands_broken, hands_last}
use Rattle.ml_journal.proofs.Handed.{hands_as}
use Rattle.ml_journal.proofs.Spelled.{record_parts}
use Rattle.ml_journal.proofs.record_writer.write_record.Goals as goal

pub returns-in_err-add : goal.returns-in_err-add
returns-in_err-add g c =
    let puts = c.args.puts.now in
    let error = c.in_err-add.field-0.0 in
    let same : c.from_residual-in_err-add.result ≡ Err error = search rules in
    let at : c.in_ok-writer.writer.at ≡ c.args.at = search rules in
    let none : c.in_ok-writer.writer.buffered ≡ [] = search rules in
    let head : c.as_slice.result.now ≡ decimal (length (spelled_puts puts)) ++ 58 ∷ [] = search rules in
    hands_as g.S.Site (Err error) _ _ c.args.at (c.in_ok-writer.writer.buffered ++ (c.as_slice.result.now ++ spelled_puts puts) ++ 44 ∷ 0 ∷ []) (spelled_record puts ++ 0 ∷ []) c.args.site.now c.add.new.site same at
    (record_parts c.in_ok-writer.writer.buffered c.as_slice.result.now (spelled_puts puts) none head)
    (hands_broken g.S.Site error (c.as_slice.result.now ++ spelled_puts puts) (44 ∷ 0 ∷ []) c.in_ok-writer.writer c.add.new.self c.args.site.now c.add.new.site
    (buffers_cut g.S.Site error c.as_slice.result.now (spelled_puts puts) c.in_ok-writer.writer c.add.new.self c.add.new.self c.args.site.now c.add.new.site c.in_err-add.ensures))

pub add_puts-requires-clause-fits : goal.add_puts-requires-clause-fits
add_puts-requires-clause-fits g c =
    let size = length (spelled_puts c.args.puts.now) in
    let at : c.in_ok-writer.writer.at ≡ c.args.at = search rules in
    let none : c.in_ok-writer.writer.buffered ≡ [] = search rules in
    let head : c.as_slice.result.now ≡ decimal size ++ 58 ∷ [] = search rules in
    let small : size < 10 ^ 18 = omega (arith, c.requires.size, c.requires.small) in
    let few : length (decimal size) ≤ 18 = length-decimal-le 18 size (omega arith) small (omega (arith, small)) in
    omega (
      arith,
      at,
      ap length none,
      ap length head,
      few,
      length-append (decimal size) (58 ∷ []),
      c.requires.low,
      c.requires.size,
      c.requires.small,
      buffers_size g.S.Site c.as_slice.result.now c.in_ok-writer.writer c.add.new.self c.args.site.now c.add.new.site c.in_ok-add.ensures,
    )

pub returns-in_err-add_puts : goal.returns-in_err-add_puts
returns-in_err-add_puts g c =
    let puts = c.args.puts.now in
    let error = c.in_err-add_puts.field-0.0 in
    let same : c.from_residual-in_err-add_puts.result ≡ Err error = search rules in
    let at : c.in_ok-writer.writer.at ≡ c.args.at = search rules in
    let none : c.in_ok-writer.writer.buffered ≡ [] = search rules in
    let head : c.as_slice.result.now ≡ decimal (length (spelled_puts puts)) ++ 58 ∷ [] = search rules in
    hands_as g.S.Site (Err error) _ _ c.args.at (c.in_ok-writer.writer.buffered ++ (c.as_slice.result.now ++ spelled_puts puts) ++ 44 ∷ 0 ∷ []) (spelled_record puts ++ 0 ∷ []) c.args.site.now c.add_puts.new.site same at
    (record_parts c.in_ok-writer.writer.buffered c.as_slice.result.now (spelled_puts puts) none head)
    (hands_broken g.S.Site error (c.as_slice.result.now ++ spelled_puts puts) (44 ∷ 0 ∷ []) c.in_ok-writer.writer c.add_puts.new.writer c.args.site.now c.add_puts.new.site
    (buffers_on g.S.Site (Err error) c.as_slice.result.now (spelled_puts puts) c.in_ok-writer.writer c.add.new.self c.add_puts.new.writer c.args.site.now c.add.new.site c.add_puts.new.site
    (λ r. omega (arith, at, c.requires.place r)) c.in_ok-add.ensures c.in_err-add_puts.ensures))

pub returns : goal.returns
returns g c =
    let puts = c.args.puts.now in
    let at : c.in_ok-writer.writer.at ≡ c.args.at = search rules in
    let none : c.in_ok-writer.writer.buffered ≡ [] = search rules in
    let head : c.as_slice.result.now ≡ decimal (length (spelled_puts puts)) ++ 58 ∷ [] = search rules in
    hands_as g.S.Site c.finish.result _ _ c.args.at (c.in_ok-writer.writer.buffered ++ (c.as_slice.result.now ++ spelled_puts puts) ++ 44 ∷ 0 ∷ []) (spelled_record puts ++ 0 ∷ []) c.args.site.now c.finish.new.site refl at
    (record_parts c.in_ok-writer.writer.buffered c.as_slice.result.now (spelled_puts puts) none head)
    (hands_last g.S.Site c.finish.result (c.as_slice.result.now ++ spelled_puts puts) (44 ∷ 0 ∷ []) c.in_ok-writer.writer c.add_puts.new.writer c.args.site.now c.add_puts.new.site c.finish.new.site
    (λ r. omega (arith, at, c.requires.place r))
    (buffers_on g.S.Site (Ok tt) c.as_slice.result.now (spelled_puts puts) c.in_ok-writer.writer c.add.new.self c.add_puts.new.writer c.args.site.now c.add.new.site c.add_puts.new.site
    (λ r. omega (arith, at, c.requires.place r)) c.in_ok-add.ensures c.in_ok-add_puts.ensures)
    c.finish.ensures)

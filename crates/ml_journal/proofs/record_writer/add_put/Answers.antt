use Rattle.std.proofs.Common.{◌≡◌, ◌+◌, [], ◌∷◌, ◌++◌, length, Option, Some, Err, refl, sym, ◌∙◌, ap, arith, length-append, rules}
use Rattle.ml_base.specs.Bytes.{Text}
use Rattle.ml_journal.specs.Records.{spelled_head, spelled_put}
use Rattle.ml_journal.proofs.Buffered.{buffers_as, buffers_cut, buffers_on, buffers_place, buffers_size}
use Rattle.ml_journal.proofs.Spelled.{put_parts, spelled_tail}
use Rattle.ml_journal.proofs.record_writer.add_put.Goals as goal

pub returns-in_err-add : goal.returns-in_err-add
returns-in_err-add g c =
    let put = c.args.put.now in
    let error = c.in_err-add.field-0.0 in
    let same : c.from_residual-in_err-add.result ≡ Err error = search rules in
    let head : c.as_slice.result.now ≡ spelled_head put.name put.bytes = search rules in
    buffers_as g.S.Site (Err error) _ (c.as_slice.result.now ++ spelled_tail put.bytes) (spelled_put put) c.args.writer.now c.add.new.self c.args.site.now c.add.new.site same
    (ap (λ (l : Text). l ++ spelled_tail put.bytes) head ∙ put_parts put.name put.bytes)
    (buffers_cut g.S.Site error c.as_slice.result.now (spelled_tail put.bytes) c.args.writer.now c.add.new.self c.add.new.self c.args.site.now c.add.new.site c.in_err-add.ensures)

pub add-requires-in-Some-clause-place : goal.add-requires-in-Some-clause-place
add-requires-in-Some-clause-place g c = λ r. buffers_place g.S.Site c.as_slice.result.now c.args.writer.now c.add.new.self c.args.site.now c.add.new.site r (c.requires.place r) c.in_ok-add.ensures

pub add-requires-in-Some-clause-fits : goal.add-requires-in-Some-clause-fits
add-requires-in-Some-clause-fits g c =
    let put = c.args.put.now in
    let head : c.as_slice.result.now ≡ spelled_head put.name put.bytes = search rules in
    let some : put.bytes ≡ Some c.as_slice-in-Some.result.now = search rules in
    let all = ap length (sym (put_parts put.name put.bytes)) in
    let bytes : length (spelled_tail put.bytes) ≡ length c.as_slice-in-Some.result.now + 1 = ap (λ (o : Option Text). length (spelled_tail o)) some ∙ length-append c.as_slice-in-Some.result.now (44 ∷ []) in
    omega (arith, c.requires.fits, ap length head, all, length-append (spelled_head put.name put.bytes) (spelled_tail put.bytes), bytes, buffers_size g.S.Site c.as_slice.result.now c.args.writer.now c.add.new.self c.args.site.now c.add.new.site c.in_ok-add.ensures)

pub returns-in_err-add-in-Some : goal.returns-in_err-add-in-Some
returns-in_err-add-in-Some g c =
    let put = c.args.put.now in
    let error = c.in_err-add-in-Some.field-0.0 in
    let same : c.from_residual-in_err-add-in-Some.result ≡ Err error = search rules in
    let head : c.as_slice.result.now ≡ spelled_head put.name put.bytes = search rules in
    let some : put.bytes ≡ Some c.as_slice-in-Some.result.now = search rules in
    let content = c.as_slice-in-Some.result.now in
    buffers_as g.S.Site (Err error) _ (c.as_slice.result.now ++ (content ++ 44 ∷ [])) (spelled_put put) c.args.writer.now c.add-in-Some.new.self c.args.site.now c.add-in-Some.new.site same
    ((λ i. head i ++ spelled_tail (sym some i)) ∙ put_parts put.name put.bytes)
    (buffers_on g.S.Site (Err error) c.as_slice.result.now (content ++ 44 ∷ []) c.args.writer.now c.add.new.self c.add-in-Some.new.self c.args.site.now c.add.new.site c.add-in-Some.new.site c.requires.place c.in_ok-add.ensures
    (buffers_cut g.S.Site error content (44 ∷ []) c.add.new.self c.add-in-Some.new.self c.add-in-Some.new.self c.add.new.site c.add-in-Some.new.site c.in_err-add-in-Some.ensures))

pub add-requires-in-Some-2-clause-place : goal.add-requires-in-Some-2-clause-place
add-requires-in-Some-2-clause-place g c = λ r. buffers_place g.S.Site c.as_slice-in-Some.result.now c.add.new.self c.add-in-Some.new.self c.add.new.site c.add-in-Some.new.site r
    (buffers_place g.S.Site c.as_slice.result.now c.args.writer.now c.add.new.self c.args.site.now c.add.new.site r (c.requires.place r) c.in_ok-add.ensures) c.in_ok-add-in-Some.ensures

pub add-requires-in-Some-2-clause-fits : goal.add-requires-in-Some-2-clause-fits
add-requires-in-Some-2-clause-fits g c =
    let put = c.args.put.now in
    let head : c.as_slice.result.now ≡ spelled_head put.name put.bytes = search rules in
    let some : put.bytes ≡ Some c.as_slice-in-Some.result.now = search rules in
    let all = ap length (sym (put_parts put.name put.bytes)) in
    let bytes : length (spelled_tail put.bytes) ≡ length c.as_slice-in-Some.result.now + 1 = ap (λ (o : Option Text). length (spelled_tail o)) some ∙ length-append c.as_slice-in-Some.result.now (44 ∷ []) in
    omega (
      arith,
      c.requires.fits,
      ap length head,
      all,
      length-append (spelled_head put.name put.bytes) (spelled_tail put.bytes),
      bytes,
      buffers_size g.S.Site c.as_slice.result.now c.args.writer.now c.add.new.self c.args.site.now c.add.new.site c.in_ok-add.ensures,
      buffers_size g.S.Site c.as_slice-in-Some.result.now c.add.new.self c.add-in-Some.new.self c.add.new.site c.add-in-Some.new.site c.in_ok-add-in-Some.ensures,
    )

pub returns-in-Some : goal.returns-in-Some
returns-in-Some g c =
    let put = c.args.put.now in
    let head : c.as_slice.result.now ≡ spelled_head put.name put.bytes = search rules in
    let some : put.bytes ≡ Some c.as_slice-in-Some.result.now = search rules in
    let content = c.as_slice-in-Some.result.now in
    buffers_as g.S.Site c.add-in-Some-2.result _ (c.as_slice.result.now ++ (content ++ 44 ∷ [])) (spelled_put put) c.args.writer.now c.add-in-Some-2.new.self c.args.site.now c.add-in-Some-2.new.site refl
    ((λ i. head i ++ spelled_tail (sym some i)) ∙ put_parts put.name put.bytes)
    (buffers_on g.S.Site c.add-in-Some-2.result c.as_slice.result.now (content ++ 44 ∷ []) c.args.writer.now c.add.new.self c.add-in-Some-2.new.self c.args.site.now c.add.new.site c.add-in-Some-2.new.site c.requires.place c.in_ok-add.ensures
    (buffers_on g.S.Site c.add-in-Some-2.result content (44 ∷ []) c.add.new.self c.add-in-Some.new.self c.add-in-Some-2.new.self c.add.new.site c.add-in-Some.new.site c.add-in-Some-2.new.site
    (λ r. buffers_place g.S.Site c.as_slice.result.now c.args.writer.now c.add.new.self c.args.site.now c.add.new.site r (c.requires.place r) c.in_ok-add.ensures) c.in_ok-add-in-Some.ensures c.add-in-Some-2.ensures))

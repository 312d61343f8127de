use Rattle.std.proofs.Common.{◌≡◌, ◌+◌, ◌++◌, length, take, drop, get_or, Ok, Err, refl, sym, ◌∙◌, ap, arith, length-append, rules}
use Rattle.ml_base.specs.Bytes.{Text}
use Rattle.ml_base.specs.declared.puts.Put.{Put}
use Rattle.ml_journal.specs.Records.{spelled_put, spelled_puts}
use Rattle.ml_journal.proofs.Buffered.{buffers_as, buffers_cut, buffers_on, buffers_size}
use Rattle.ml_journal.proofs.Spelled.{puts_parts, spelled_next}
use Rattle.ml_journal.proofs.record_writer.add_puts.Goals as goal

pub add_put-requires-clause-fits : goal.add_put-requires-clause-fits
add_put-requires-clause-fits g c =
    let puts = c.args.puts.now in
    let i = c.loop-put.put-index in
    let put = c.put-item.result in
    let item : get_or puts i put ≡ put = search rules in
    let next = spelled_next puts i put c.loop-put-test.true ∙ ap (λ (p : Put). spelled_puts (take i puts) ++ spelled_put p) item in
    omega (
      arith,
      c.requires.fits,
      ap length next,
      length-append (spelled_puts (take i puts)) (spelled_put put),
      ap length (puts_parts puts (i + 1)),
      length-append (spelled_puts (take (i + 1) puts)) (spelled_puts (drop (i + 1) puts)),
      buffers_size g.S.Site (spelled_puts (take i puts)) c.args.writer.now c.loop-put.writer c.args.site.now c.loop-put.site c.loop-put.invariant,
    )

pub returns-in_err-add_put : goal.returns-in_err-add_put
returns-in_err-add_put g c =
    let puts = c.args.puts.now in
    let i = c.loop-put.put-index in
    let put = c.put-item.result in
    let error = c.in_err-add_put.field-0.0 in
    let same : c.from_residual.result ≡ Err error = search rules in
    let item : get_or puts i put ≡ put = search rules in
    let next = spelled_next puts i put c.loop-put-test.true ∙ ap (λ (p : Put). spelled_puts (take i puts) ++ spelled_put p) item in
    buffers_as g.S.Site (Err error) _ (spelled_puts (take i puts) ++ spelled_put put ++ spelled_puts (drop (i + 1) puts)) (spelled_puts puts) c.args.writer.now c.add_put.new.writer c.args.site.now c.add_put.new.site same
    (ap (λ (l : Text). l ++ spelled_puts (drop (i + 1) puts)) (sym next) ∙ puts_parts puts (i + 1))
    (buffers_cut g.S.Site error (spelled_puts (take i puts) ++ spelled_put put) (spelled_puts (drop (i + 1) puts)) c.args.writer.now c.add_put.new.writer c.add_put.new.writer c.args.site.now c.add_put.new.site
    (buffers_on g.S.Site (Err error) (spelled_puts (take i puts)) (spelled_put put) c.args.writer.now c.loop-put.writer c.add_put.new.writer c.args.site.now c.loop-put.site c.add_put.new.site c.requires.place c.loop-put.invariant c.in_err-add_put.ensures))

pub loop-put-preserved : goal.loop-put-preserved
loop-put-preserved g c =
    let puts = c.args.puts.now in
    let i = c.loop-put.put-index in
    let put = c.put-item.result in
    let item : get_or puts i put ≡ put = search rules in
    let next = spelled_next puts i put c.loop-put-test.true ∙ ap (λ (p : Put). spelled_puts (take i puts) ++ spelled_put p) item in
    buffers_as g.S.Site (Ok tt) _ (spelled_puts (take i puts) ++ spelled_put put) (spelled_puts (take (i + 1) puts)) c.args.writer.now c.add_put.new.writer c.args.site.now c.add_put.new.site refl (sym next)
    (buffers_on g.S.Site (Ok tt) (spelled_puts (take i puts)) (spelled_put put) c.args.writer.now c.loop-put.writer c.add_put.new.writer c.args.site.now c.loop-put.site c.add_put.new.site c.requires.place c.loop-put.invariant c.in_ok-add_put.ensures)

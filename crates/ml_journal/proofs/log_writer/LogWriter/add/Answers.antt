use Rattle.std.proofs.Common.{◌≡◌, Ok, Err, refl, rules}
use Rattle.ml_journal.proofs.Buffered.{buffers_stuck, buffers_through, buffers_as}
use Rattle.ml_journal.proofs.log_writer.LogWriter.add.Goals as goal

pub returns-in_err-flush : goal.returns-in_err-flush
returns-in_err-flush g c =
    let error = c.in_err-flush.field-0.0 in
    let same : c.from_residual-in_err-flush.result ≡ Err error = search rules in
    buffers_as g.S.Site (Err error) _ c.args.piece.now _ c.args.self.now c.flush.new.self c.args.site.now c.flush.new.site same refl
    (buffers_stuck g.S.Site error c.args.piece.now c.args.self.now c.flush.new.self c.args.site.now c.flush.new.site c.in_err-flush.ensures.hands)

pub returns-in_err-hand : goal.returns-in_err-hand
returns-in_err-hand g c =
    let error = c.in_err-hand.field-0.0 in
    let same : c.from_residual-in_err-hand.result ≡ Err error = search rules in
    buffers_as g.S.Site (Err error) _ c.args.piece.now _ c.args.self.now c.flush.new.self c.args.site.now c.hand.new.site same refl
    (buffers_through g.S.Site (Err error) c.args.piece.now c.args.self.now c.flush.new.self c.flush.new.self c.args.site.now c.flush.new.site c.hand.new.site c.requires.place
    c.in_ok-flush.ensures.hands c.in_ok-flush.ensures.ok.1 c.in_err-hand.ensures tt)

pub returns : goal.returns
returns g c = buffers_through g.S.Site (Ok tt) c.args.piece.now c.args.self.now c.flush.new.self _ c.args.site.now c.flush.new.site c.hand.new.site c.requires.place
    c.in_ok-flush.ensures.hands c.in_ok-flush.ensures.ok.1 c.in_ok-hand.ensures (c.in_ok-flush.ensures.ok.0, refl)

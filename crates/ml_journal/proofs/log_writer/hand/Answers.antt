use Rattle.ml_journal.proofs.Handed.{hands_one}
use Rattle.ml_journal.proofs.log_writer.hand.Goals as goal

pub returns : goal.returns
returns g c = hands_one g.S.Site c.write_log.result c.args.at c.args.bytes.now c.args.site.now c.write_log.new.self c.write_log.ensures.change c.write_log.ensures.keeps c.write_log.ensures.syncs c.write_log.ensures.log_bytes
    c.write_log.ensures.log_bytes_stay c.write_log.ensures.cause

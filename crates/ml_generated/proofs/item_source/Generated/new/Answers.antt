use Rattle.std.proofs.Common.{ap, length, arith}
use Rattle.ml_generated.proofs.Streams.{room}
use Rattle.ml_generated.proofs.item_source.Generated.new.Goals as goal

pub invariant_of-result-clause-room : goal.invariant_of-result-clause-room
invariant_of-result-clause-room c =
    room c.put.new.self c.put-2.new.self c.new.result 0 1 c.args.n (omega (arith, c.put.ensures.size, ap length c.new-own_local.ensures, c.requires.local))
    (omega (arith, c.put-2.ensures.size, ap length c.new-own_host.ensures, c.requires.host)) (omega (arith, c.requires.count)) (omega (arith, ap length c.new.ensures))

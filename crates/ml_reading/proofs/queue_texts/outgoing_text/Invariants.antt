use Rattle.std.proofs.Common.{◌≡◌, ◌++◌, take}
use Rattle.std.specs.List.{flat_map}
use Rattle.ml_base.specs.Netstrings.{ns}
use Rattle.ml_reading.specs.Queries.{envelope}
use Rattle.ml_reading.proofs.queue_texts.outgoing_text.Given as goal

abbrev pub invariant-loop-who : goal.invariant-loop-who
invariant-loop-who l = l.text ≡ ns l.out.body ++ flat_map (λ to. ns (envelope l.out.path to)) (take l.who-index l.out.to)

use Rattle.std.proofs.Common.{◌≡◌, length, subst, take}
use Rattle.ml_base.specs.Bytes.{Text}
use Rattle.ml_stream.proofs.Fronts.{still_front}
use Rattle.ml_stream.proofs.item_writer.add_item.Goals as goal

pub returns-clause-front : goal.returns-clause-front
returns-clause-front c =
    let new = c.push_act.new.out in
    let with_number = still_front c.push_number_netstring.new.out _ c.push_number_netstring-2.new.out new c.in_ok-push_number_netstring-2.ensures.ok c.push_act.ensures.front in
    let with_letter = still_front c.push.new.self _ c.push_number_netstring.new.out new c.in_ok-push_number_netstring.ensures.ok with_number in
    let reserved = still_front c.reserve.new.self _ c.push.new.self new c.in_ok-push.ensures.ok with_letter in
    subst (λ (t : Text). take (length t) new ≡ t) c.reserve.ensures reserved

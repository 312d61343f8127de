use Rattle.std.proofs.Common.{◌≡◌, List}
use Rattle.ml_subs.specs.declared.member_list.Member.{Member}
use Rattle.ml_subs.specs.Members.{IsOrdered}
use Rattle.ml_subs.specs.Subscribers.{AreJoined, AreSubscribers, file_in}
use Rattle.ml_subs.proofs.Gathering.{joined_in, ok_from}
use Rattle.ml_subs.proofs.Represented.{joined_one}
use Rattle.ml_subs.proofs.lists.members.Goals as goal

pub returns-clause-value : goal.returns-clause-value
returns-clause-value g c told =
    let dir = g.F.Files.map c.args.files.now in
    let texts = c.in_ok-texts.texts in
    ok_from c.sorted_members.result (AreJoined (file_in texts) c.args.set) (λ found. (ms : List Member) → AreSubscribers dir c.args.set ms → found ≡ ms)
    (λ found joined ms is. joined_one dir c.args.set found ms (joined_in dir c.args.set texts found (c.in_ok-texts.ensures.value told) joined) is.members) c.sorted_members.ensures.union

pub returns-clause-ordered : goal.returns-clause-ordered
returns-clause-ordered g c =
    ok_from c.sorted_members.result (AreJoined (file_in c.in_ok-texts.texts) c.args.set) IsOrdered (λ found joined. joined.sorted) c.sorted_members.ensures.union

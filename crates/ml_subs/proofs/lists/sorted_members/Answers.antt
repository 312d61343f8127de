use Rattle.std.proofs.Common.{sym, subst, List}
use Rattle.ml_subs.specs.declared.member_list.Member.{Member}
use Rattle.ml_subs.specs.Subscribers.{AreJoined, file_in}
use Rattle.ml_subs.proofs.Gathering.{members_joined}
use Rattle.ml_subs.proofs.lists.sorted_members.Goals as goal

pub returns-clause-union : goal.returns-clause-union
returns-clause-union c =
    let dir = file_in c.args.texts.now in
    let joined = members_joined dir c.args.set c.in_ok-found.found c.in_ok-sorted.sorted c.in_ok-found.ensures.value c.in_ok-sorted.ensures.permutation c.in_ok-sorted.ensures.sorted in
    subst (λ (l : List Member). AreJoined dir c.args.set l) (sym c.in_ok-copied_members.ensures) joined

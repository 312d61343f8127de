use Rattle.std.proofs.Common.{sym, subst, rules, List}
use Rattle.std.proofs.lemmas.List.Sorted.{ranks_by, answers_always}
use Rattle.std.specs.List.Sorted.{IsSortedByKey}
use Rattle.std.specs.Ordering.{is_lt}
use Rattle.ml_base.specs.Sorted.{byte_cmp}
use Rattle.ml_base.proofs.SortedLaws.{bytes_total}
use Rattle.ml_subs.specs.declared.member_list.Member.{Member}
use Rattle.ml_subs.specs.Members.{member_key}
use Rattle.ml_subs.proofs.lists.in_order.Goals as goal

pub returns-clause-sorted : goal.returns-clause-sorted
returns-clause-sorted c =
    let up = c.in_ok-sort_by.ensures.sorted (λ x y. is_lt (byte_cmp (member_key x) (member_key y))) (ranks_by bytes_total member_key) (answers_always _ _ _ (λ f a r g h. search rules)) in
    subst (λ (l : List Member). IsSortedByKey member_key byte_cmp l) (sym c.from_vec.ensures) up

use Rattle.std.proofs.Common.{sym, subst, rules, List}
use Rattle.std.proofs.lemmas.List.Sorted.{ranks_by, answers_always}
use Rattle.std.specs.List.Sorted.{IsSortedByKey}
use Rattle.std.specs.Ordering.{is_lt}
use Rattle.ml_base.specs.Sorted.{byte_cmp}
use Rattle.ml_base.proofs.SortedLaws.{bytes_total}
use Rattle.ml_bounce.specs.Ledger.{LedgerEntry}
use Rattle.ml_bounce.specs.Ledger.{entry_key}
use Rattle.ml_bounce.proofs.due_entries.in_order.Goals as goal

pub returns-clause-sorted : goal.returns-clause-sorted
returns-clause-sorted c =
    let up = c.in_ok-sort_by.ensures.sorted (λ x y. is_lt (byte_cmp (entry_key x) (entry_key y))) (ranks_by bytes_total entry_key) (answers_always _ _ _ (λ f a r g h. search rules)) in
    subst (λ (l : List LedgerEntry). IsSortedByKey entry_key byte_cmp l) (sym c.from_vec.ensures) up

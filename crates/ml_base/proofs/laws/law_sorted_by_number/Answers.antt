use Rattle.std.specs.Ordering.{nat_cmp}
use Rattle.ml_base.proofs.SortedLaws.{same_numbers, numbers_total, found_with, found_without, sorted_with, sorted_without, length_with, length_left, same_lists}
use Rattle.ml_base.proofs.laws.law_sorted_by_number.Goals as goal

pub returns-clause-found_with : goal.returns-clause-found_with
returns-clause-found_with g c = λ key. found_with nat_cmp key same_numbers numbers_total

pub returns-clause-found_without : goal.returns-clause-found_without
returns-clause-found_without g c = λ key. found_without nat_cmp key same_numbers numbers_total

pub returns-clause-sorted_with : goal.returns-clause-sorted_with
returns-clause-sorted_with g c = λ key. sorted_with nat_cmp key same_numbers numbers_total

pub returns-clause-sorted_without : goal.returns-clause-sorted_without
returns-clause-sorted_without g c = λ key. sorted_without nat_cmp key same_numbers numbers_total

pub returns-clause-length_with : goal.returns-clause-length_with
returns-clause-length_with g c = λ key. length_with nat_cmp key same_numbers numbers_total

pub returns-clause-length_without : goal.returns-clause-length_without
returns-clause-length_without g c = λ key. length_left nat_cmp key same_numbers numbers_total

pub returns-clause-one : goal.returns-clause-one
returns-clause-one g c = λ key. same_lists nat_cmp key same_numbers numbers_total

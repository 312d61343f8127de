use Rattle.std.proofs.Common.{◌≤◌, ◌∙◌, ap, sym, subst, ℕ, List, take}
use Rattle.std.specs.List.{AllByRecursion}
use Rattle.ml_filing.proofs.Threaded.{take_few}
use Rattle.ml_filing.proofs.thread_lookups.row_for.Goals as goal

pub returns-clause-value : goal.returns-clause-value
returns-clause-value g c told =
    let numbers = c.in_ok-numbers.ensures.value told in
    (numbers.0, numbers.1, numbers.2, c.from_vec.ensures ∙ c.truncate.ensures.items ∙ ap (take 100) (c.into_vec-row.ensures ∙ numbers.3))

pub returns-clause-few : goal.returns-clause-few
returns-clause-few g c =
    subst (λ (ns : List ℕ). AllByRecursion (λ m. m ≤ 99_999_999) ns) (sym (c.from_vec.ensures ∙ c.truncate.ensures.items ∙ ap (take 100) c.into_vec-row.ensures))
    (take_few 100 c.in_ok-numbers.numbers c.in_ok-numbers.ensures.few)

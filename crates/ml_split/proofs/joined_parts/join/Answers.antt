use Rattle.std.proofs.Common.{sym, subst, rules, List}
use Rattle.std.proofs.lemmas.List.Sorted.{ranks_by, answers_always}
use Rattle.std.specs.List.Sorted.{IsPermutation, IsStableByKey}
use Rattle.std.specs.Ordering.{is_lt}
use Rattle.ml_base.specs.Address.{key}
use Rattle.ml_base.specs.Bytes.{Text}
use Rattle.ml_base.specs.Sorted.{byte_cmp}
use Rattle.ml_base.proofs.SortedLaws.{bytes_total}
use Rattle.ml_split.specs.Parts.{AreJoined, all_members}
use Rattle.ml_split.proofs.joined_parts.join.Goals as goal

pub returns : goal.returns
returns c =
    let up = c.in_ok-sort_by.ensures.sorted (λ x y. is_lt (byte_cmp (key x) (key y))) (ranks_by bytes_total key) (answers_always _ _ _ (λ f a r g h. search rules)) in
    let still = c.in_ok-sort_by.ensures.stable (λ x y. is_lt (byte_cmp (key x) (key y))) (ranks_by bytes_total key) (answers_always _ _ _ (λ f a r g h. search rules)) in
    let moved : IsPermutation (all_members c.args.parts.now) c.sort_by.new.self.items = subst (λ (l : List Text). IsPermutation l c.sort_by.new.self.items) c.in_ok-all.ensures c.in_ok-sort_by.ensures.permutation in
    let kept : IsStableByKey key byte_cmp (all_members c.args.parts.now) c.sort_by.new.self.items = subst (λ (l : List Text). IsStableByKey key byte_cmp l c.sort_by.new.self.items) c.in_ok-all.ensures still in
    subst (λ (l : List Text). AreJoined c.args.parts.now l) (sym c.from_vec.ensures) (record { same = moved; sorted = up; stable = kept })

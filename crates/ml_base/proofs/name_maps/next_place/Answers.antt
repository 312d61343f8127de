use Rattle.std.proofs.Common.{◌≡◌, false, [], arith, rules}
use Rattle.std.specs.Ordering.{is_gt}
use Rattle.ml_base.specs.Name.{name_cmp}
use Rattle.ml_base.proofs.NameOrder.{none_before, first_of, in_order}
use Rattle.ml_base.proofs.name_maps.next_place.Goals as goal

pub returns-in-Some-clause-none : goal.returns-in-Some-clause-none
returns-in-Some-clause-none g c =
    let steps = c.in-Some.ensures.steps in
    let range = c.range.ensures.in_range tt in
    none_before c.args.map.now c.args.kind c.args.from c.in-Some.name.now.at c.in-Some.name.now
    (λ q onward some. first_of _ _ _ (λ e. is_gt (name_cmp e.0 q) ≡ false) steps (range.2 q (onward, tt) some)) ((first_of _ _ _ _ steps range.1).0).0 (λ same. omega arith)

pub returns-in_default-clause-none : goal.returns-in_default-clause-none
returns-in_default-clause-none g c =
    let steps = c.in-Some.ensures.steps in
    let range = c.range.ensures.in_range tt in
    let after = c.if-name-end.false in
    none_before c.args.map.now c.args.kind c.args.from c.args.end c.in-Some.name.now
    (λ q onward some. first_of _ _ _ (λ e. is_gt (name_cmp e.0 q) ≡ false) steps (range.2 q (onward, tt) some)) ((first_of _ _ _ _ steps range.1).0).0 (λ same. omega (arith, after))

pub returns-in_default-2-clause-none : goal.returns-in_default-2-clause-none
returns-in_default-2-clause-none g c =
    let steps = c.in-Some.ensures.steps in
    let range = c.range.ensures.in_range tt in
    none_before c.args.map.now c.args.kind c.args.from c.args.end c.in-Some.name.now
    (λ q onward some. first_of _ _ _ (λ e. is_gt (name_cmp e.0 q) ≡ false) steps (range.2 q (onward, tt) some)) ((first_of _ _ _ _ steps range.1).0).0 (λ same. absurd (c.if-name-kind.false same))

pub returns-in_default-3-clause-none : goal.returns-in_default-3-clause-none
returns-in_default-3-clause-none g c = λ at up below.
    let range = c.range.ensures.in_range tt in
    let empty : c.range.result ≡ [] = search rules in
    range.5 empty (record { kind = c.args.kind; at = at }) (in_order c.args.kind c.args.from at up, tt)

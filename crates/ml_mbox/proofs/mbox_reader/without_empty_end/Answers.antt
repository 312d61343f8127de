use Rattle.std.proofs.Common.{◌≡◌, ◌≢◌, true, false, Option, Some, [], ◌∷◌, ◌++◌, sym, subst, ◌∙◌, inl, inr, Bor}
use Rattle.std.specs.Option.{MatchOption}
use Rattle.std.proofs.lemmas.Bool.Decides.{Decides-eqb}
use Rattle.std.proofs.lemmas.Slice.Eq.{strip_suffix_is}
use Rattle.ml_base.specs.Bytes.{Text}
use Rattle.ml_mbox.proofs.Ends.{empty_end, no_end, no_empty_end, ends_in_lf, nothing}
use Rattle.ml_mbox.proofs.mbox_reader.without_empty_end.Goals as goal
use Rattle.ml_mbox.proofs.mbox_reader.without_empty_end.Goals.{then-is_empty, else-is_empty}

pub returns-in-Some : goal.returns-in-Some
returns-in-Some c =
    let whole = strip_suffix_is Decides-eqb c.args.rows.now (10 ∷ []) (Some c.in-Some.front) c.in-Some.ensures.cases in
    elim c.if-is_empty.branch [
      | then-is_empty w ↦ empty_end c.in-Some.front.now c.args.rows.now whole (inl (nothing c.in-Some.front.now (sym c.is_empty.ensures ∙ w.if-is_empty.true)))
      | else-is_empty w ↦ empty_end c.in-Some.front.now c.args.rows.now whole (inr (ends_in_lf c.in-Some.front.now (sym w.ends_with.ensures.value ∙ sym w.value-is ∙ c.if-ends_with.true)))
    ]

pub returns-in_default : goal.returns-in_default
returns-in_default c =
    let whole = strip_suffix_is Decides-eqb c.args.rows.now (10 ∷ []) (Some c.in-Some.front) c.in-Some.ensures.cases in
    elim c.if-is_empty.branch [
      | then-is_empty w ↦ absurd (let bad : true ≡ false = sym w.if-is_empty.true ∙ sym w.value-is ∙ c.if-ends_with.false in cc)
      | else-is_empty w ↦ no_empty_end c.in-Some.front.now c.args.rows.now whole (sym c.is_empty.ensures ∙ w.if-is_empty.false) (sym w.ends_with.ensures.value ∙ sym w.value-is ∙ c.if-ends_with.false)
    ]

pub returns-in_default-2 : goal.returns-in_default-2
returns-in_default-2 c =
    let rows = c.args.rows.now in
    let P : Option (Bor Text) → Type 0 = λ r. MatchOption r ((front : Text) → rows ≢ front ++ 10 ∷ []) (λ x. rows ≡ x.now ++ 10 ∷ []) in
    sym (no_end rows (subst P c.in_default.is (strip_suffix_is Decides-eqb rows (10 ∷ []) c.strip_suffix.result c.strip_suffix.ensures.cases)))

use Rattle.std.proofs.Common.{◌∙◌, [], ◌∷◌, sym, Some}
use Rattle.std.proofs.lemmas.Bool.Decides.{Decides-eqb}
use Rattle.std.proofs.lemmas.Slice.Eq.{strip_suffix_is}
use Rattle.ml_subs.proofs.Options.{if_some, if_none_from}
use Rattle.ml_subs.proofs.Counted.{count_read, count_unread}
use Rattle.ml_subs.proofs.counts.read_count.Goals as goal

pub returns-clause-some : goal.returns-clause-some
returns-clause-some c =
    let whole = strip_suffix_is Decides-eqb c.as_slice.result.now (10 ∷ []) (Some c.in-Some-strip_suffix.digits) c.in-Some-strip_suffix.ensures.cases in
    if_some _ _ (λ n e. count_read c.args.file.now c.in-Some.text c.in-Some-strip_suffix.digits.now n c.in-Some.is (sym c.as_slice.ensures ∙ whole) (sym c.number_within.ensures ∙ e))

pub returns-clause-none : goal.returns-clause-none
returns-clause-none c =
    let whole = strip_suffix_is Decides-eqb c.as_slice.result.now (10 ∷ []) (Some c.in-Some-strip_suffix.digits) c.in-Some-strip_suffix.ensures.cases in
    if_none_from _ _ (λ e. count_unread c.args.file.now c.in-Some.text c.in-Some-strip_suffix.digits.now c.in-Some.is (sym c.as_slice.ensures ∙ whole) (sym c.number_within.ensures ∙ e))

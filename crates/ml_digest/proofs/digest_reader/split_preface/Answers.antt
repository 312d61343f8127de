use Rattle.std.proofs.Common.{[], ◌∷◌}
use Rattle.std.proofs.lemmas.Bool.Decides.{Decides-eqb}
use Rattle.std.proofs.lemmas.Slice.Eq.{strip_prefix_is}
use Rattle.ml_digest.proofs.Told.{preface_by, no_preface_by, no_preface}
use Rattle.ml_digest.proofs.digest_reader.split_preface.Goals as goal

pub returns-in_err-rest-clause-none : goal.returns-in_err-rest-clause-none
returns-in_err-rest-clause-none c = no_preface c.args.text.now c.from_residual.result c.in_err-rest.ensures.none

pub returns-clause-some : goal.returns-clause-some
returns-clause-some c =
    preface_by c.args.text.now c.in_ok-rest.field-0-0.now c.in_ok-rest.rest.now c.strip_prefix.result c.in_ok-rest.ensures.some
    (strip_prefix_is Decides-eqb c.in_ok-rest.rest.now (10 ∷ []) c.strip_prefix.result c.strip_prefix.ensures.cases)

pub returns-clause-none : goal.returns-clause-none
returns-clause-none c =
    no_preface_by c.args.text.now c.in_ok-rest.field-0-0.now c.in_ok-rest.rest.now c.strip_prefix.result c.in_ok-rest.ensures.some
    (strip_prefix_is Decides-eqb c.in_ok-rest.rest.now (10 ∷ []) c.strip_prefix.result c.strip_prefix.ensures.cases)

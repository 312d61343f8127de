use Rattle.std.proofs.Common.{◌∙◌, ap}
use Rattle.ml_filing.specs.Subjects.{without_front, without_end}
use Rattle.ml_filing.proofs.KeyTurns.{key_made}
use Rattle.ml_filing.proofs.subjects.subject_key.Goals as goal

pub returns : goal.returns
returns c =
    c.in_ok-from_slice.ensures
    ∙ c.stripped.ensures c.args.prefix.now (c.as_slice-2.ensures ∙ c.in_ok-low.ensures)
    ∙ key_made c.args.prefix.now c.args.subject.now c.without_end-inner.result.now
    (c.without_end-inner.ensures ∙ ap without_end (c.without_front.ensures.value ∙ ap without_front (c.as_slice.ensures ∙ c.in_ok-text.ensures)))

use Rattle.std.proofs.Common.{[], ◌∷◌, ◌++◌, sym, ap, subst, ◌∙◌, List}
use Rattle.ml_base.specs.Bytes.{Text}
use Rattle.ml_digest.specs.Reading.{AreRead}
use Rattle.ml_digest.proofs.Cutting.{not_other, not_same}
use Rattle.ml_digest.proofs.Entries.{stops, nothing, all_read, read_more}
use Rattle.ml_digest.proofs.digest_reader.read_messages.Goals as goal

pub returns-in_default-clause-none : goal.returns-in_default-clause-none
returns-in_default-clause-none c =
    stops c.args.end.now c.requires c.args.text.now c.loop-end.rest.now c.loop-end.messages c.loop-end.invariant
    (not_other c.loop-end.rest.now c.args.end.now c.ne.result c.ne.ensures c.loop-end-test.true) c.in_default.ensures.none

pub loop-end-preserved : goal.loop-end-preserved
loop-end-preserved c =
    subst (λ (messages : List Text). AreRead c.args.text.now messages c.in-Some.more.now)
    (sym (c.in_ok-push.ensures.ok ∙ ap (λ (m : Text). c.loop-end.messages ++ m ∷ []) c.in_ok-from_slice.ensures))
    (read_more c.args.text.now c.in-Some.message.now c.in-Some.more.now c.loop-end.rest.now c.loop-end.messages c.loop-end.invariant c.in-Some.ensures.some)

pub returns-then-is_empty-clause-none : goal.returns-then-is_empty-clause-none
returns-then-is_empty-clause-none c =
    nothing c.args.end.now c.requires c.args.text.now c.loop-end.rest.now c.loop-end.messages c.loop-end.invariant
    (not_same c.loop-end.rest.now c.args.end.now c.ne.result c.ne.ensures c.loop-end-test.false)
    (rw (← c.as_slice.ensures) (sym c.is_empty.ensures ∙ c.if-is_empty.true))

pub returns-clause-some : goal.returns-clause-some
returns-clause-some c =
    all_read c.args.text.now c.loop-end.rest.now c.args.end.now c.loop-end.messages c.loop-end.invariant
    (not_same c.loop-end.rest.now c.args.end.now c.ne.result c.ne.ensures c.loop-end-test.false)
    (rw (← c.as_slice.ensures) (sym c.is_empty.ensures ∙ c.if-is_empty.false))

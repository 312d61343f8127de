use Rattle.std.proofs.Common.{◌∙◌, sym, refl}
use Rattle.ml_address.specs.Reading as spec
use Rattle.ml_address.proofs.Tables.{decides}
use Rattle.ml_address.proofs.request_reader.known_request.Goals as goal

pub returns-in-Some : goal.returns-in-Some
returns-in-Some c =
    c.ends.ensures ∙ sym (decides spec.request_rows refl 0 _ c.args.text.now c.in-Some.rest.now refl (sym c.in-Some.ensures))

pub returns-in-Some-after_word : goal.returns-in-Some-after_word
returns-in-Some-after_word c =
    c.ends-in-Some-after_word.ensures ∙ sym (decides spec.request_rows refl 1 _ c.args.text.now c.in-Some-after_word.rest.now refl (sym c.in-Some-after_word.ensures))

pub returns-in-Some-after_word-2 : goal.returns-in-Some-after_word-2
returns-in-Some-after_word-2 c =
    c.get.ensures ∙ sym (decides spec.request_rows refl 2 _ c.args.text.now c.in-Some-after_word-2.rest.now refl (sym c.in-Some-after_word-2.ensures))

pub returns-in-Some-after_word-3 : goal.returns-in-Some-after_word-3
returns-in-Some-after_word-3 c =
    c.index.ensures ∙ sym (decides spec.request_rows refl 3 _ c.args.text.now c.in-Some-after_word-3.rest.now refl (sym c.in-Some-after_word-3.ensures))

pub returns-in-Some-after_word-4 : goal.returns-in-Some-after_word-4
returns-in-Some-after_word-4 c =
    c.thread.ensures ∙ sym (decides spec.request_rows refl 4 _ c.args.text.now c.in-Some-after_word-4.rest.now refl (sym c.in-Some-after_word-4.ensures))

pub returns-in-Some-after_word-5 : goal.returns-in-Some-after_word-5
returns-in-Some-after_word-5 c =
    c.accept.ensures ∙ sym (decides spec.request_rows refl 5 _ c.args.text.now c.in-Some-after_word-5.rest.now refl (sym c.in-Some-after_word-5.ensures))

pub returns-in-Some-after_word-6 : goal.returns-in-Some-after_word-6
returns-in-Some-after_word-6 c =
    c.reject.ensures ∙ sym (decides spec.request_rows refl 6 _ c.args.text.now c.in-Some-after_word-6.rest.now refl (sym c.in-Some-after_word-6.ensures))

pub returns-in-Some-after_word-7 : goal.returns-in-Some-after_word-7
returns-in-Some-after_word-7 c =
    c.mailed_request.ensures ∙ sym (decides spec.request_rows refl 7 _ c.args.text.now c.in-Some-after_word-7.rest.now refl (sym c.in-Some-after_word-7.ensures))

pub returns-in-Some-after_word-8 : goal.returns-in-Some-after_word-8
returns-in-Some-after_word-8 c =
    c.set_request.ensures ∙ sym (decides spec.request_rows refl 8 _ c.args.text.now c.in-Some-after_word-8.rest.now refl (sym c.in-Some-after_word-8.ensures))

pub returns-in-Some-after_word-9 : goal.returns-in-Some-after_word-9
returns-in-Some-after_word-9 c =
    c.set_request-in-Some-after_word-9.ensures ∙ sym (decides spec.request_rows refl 9 _ c.args.text.now c.in-Some-after_word-9.rest.now refl (sym c.in-Some-after_word-9.ensures))

use Rattle.std.proofs.Common.{◌∙◌, sym, refl}
use Rattle.ml_address.specs.Reading as spec
use Rattle.ml_address.proofs.Tables.{decides}
use Rattle.ml_address.proofs.request_reader.set_request.Goals as goal

pub returns-in-Some-after_word : goal.returns-in-Some-after_word
returns-in-Some-after_word c =
    c.unsubscribe.ensures ∙ sym (decides (spec.set_rows c.args.set) refl 1 _ c.args.text.now c.in-Some-after_word.rest.now refl (sym c.in-Some-after_word.ensures))

pub returns-in-Some-after_word-2 : goal.returns-in-Some-after_word-2
returns-in-Some-after_word-2 c =
    c.ends.ensures ∙ sym (decides (spec.set_rows c.args.set) refl 2 _ c.args.text.now c.in-Some-after_word-2.rest.now refl (sym c.in-Some-after_word-2.ensures))

pub returns-in-Some-after_word-3 : goal.returns-in-Some-after_word-3
returns-in-Some-after_word-3 c =
    c.confirm.ensures ∙ sym (decides (spec.set_rows c.args.set) refl 3 _ c.args.text.now c.in-Some-after_word-3.rest.now refl (sym c.in-Some-after_word-3.ensures))

pub returns-in-Some-after_word-4 : goal.returns-in-Some-after_word-4
returns-in-Some-after_word-4 c =
    c.confirm-in-Some-after_word-4.ensures ∙ sym (decides (spec.set_rows c.args.set) refl 4 _ c.args.text.now c.in-Some-after_word-4.rest.now refl (sym c.in-Some-after_word-4.ensures))

pub returns-in-Some-after_word-5 : goal.returns-in-Some-after_word-5
returns-in-Some-after_word-5 c =
    c.confirm-in-Some-after_word-5.ensures ∙ sym (decides (spec.set_rows c.args.set) refl 5 _ c.args.text.now c.in-Some-after_word-5.rest.now refl (sym c.in-Some-after_word-5.ensures))

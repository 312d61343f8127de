use Rattle.std.proofs.Common.{◌∙◌, sym, ap, subst, refl, length}
use Rattle.std.proofs.lemmas.List.{take_at}
use Rattle.ml_base.specs.Bytes.{Text}
use Rattle.ml_plain.specs.KeptFiles.{IsEmptied}
use Rattle.ml_list.proofs.Reading.{emptied_put}
use Rattle.ml_list.proofs.floor_rise.emptied.Goals as goal

pub returns : goal.returns
returns c =
    let put = c.put_piece.ensures in
    let same = c.as_mut_slice.ensures.value ∙ c.into_vec-bytes.ensures in
    let w = emptied_put c.args.text c.as_mut_slice.result.now c.put_piece.new.out _ c.args.slots c.put_piece.result same c.requires.size c.requires.slots refl put.place put.text put.rest in
    let size = w.0 ∙ sym c.requires.size ∙ sym (ap (λ (t : Text). length t) same) ∙ c.as_mut_slice.ensures.len in
    subst (λ (t : Text). IsEmptied c.args.text c.args.slots t) (sym (c.from_vec.ensures ∙ take_at c.put_piece.new.out _ c.into_vec-bytes.result.len size)) w.1

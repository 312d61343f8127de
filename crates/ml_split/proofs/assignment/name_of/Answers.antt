use Rattle.std.proofs.Common.{◌∙◌, sym, ap}
use Rattle.ml_split.proofs.Places.{named_there, named_none, name_in}
use Rattle.ml_split.proofs.assignment.name_of.Goals as goal

pub returns-in-Some : goal.returns-in-Some
returns-in-Some c =
    c.as_slice-in-Some.ensures ∙ ap name_in (sym c.index-as_slice-at.is)
    ∙ named_there c.args.rules.now c.as_slice.result.now c.args.a.now c.in-Some.at c.index-as_slice-at.result c.as_slice.ensures c.in-Some.ensures c.index-as_slice-at.is

pub returns-in-None : goal.returns-in-None
returns-in-None c = named_none c.args.rules.now c.args.a.now c.in-None.ensures

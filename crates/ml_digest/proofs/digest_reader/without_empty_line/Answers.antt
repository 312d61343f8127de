use Rattle.std.proofs.Common.{Some, [], ◌∷◌, sym, ◌∙◌}
use Rattle.std.proofs.lemmas.Bool.Decides.{Decides-eqb}
use Rattle.std.proofs.lemmas.Slice.Eq.{strip_suffix_is}
use Rattle.ml_digest.proofs.Entries.{ended_empty, ended_line_end}
use Rattle.ml_digest.proofs.digest_reader.without_empty_line.Goals as goal
use Rattle.ml_digest.proofs.digest_reader.without_empty_line.Goals.{then-is_empty, else-is_empty}

pub returns-then-ends_with-clause-some : goal.returns-then-ends_with-clause-some
returns-then-ends_with-clause-some c = record {
  whole = strip_suffix_is Decides-eqb c.args.lines.now (10 ∷ []) (Some c.in_ok-front.front) c.in_ok-front.ensures.cases;
  ended = elim c.if-is_empty.branch [
    | then-is_empty w ↦ ended_empty c.in_ok-front.front.now (sym c.is_empty.ensures ∙ w.if-is_empty.true)
    | else-is_empty w ↦ ended_line_end c.in_ok-front.front.now (sym w.ends_with.ensures.value ∙ sym w.value-is ∙ c.if-ends_with.true)
  ];
}

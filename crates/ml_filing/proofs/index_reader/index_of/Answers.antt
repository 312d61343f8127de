use Rattle.std.proofs.Common.{◌≡◌, ◌∙◌, ◌+◌, ◌/◌, ◌++◌, List, ℕ, Option, IfSome, Bor, subst, sym, ap, arith, option_map}
use Rattle.ml_rows.specs.Rows.{row_of}
use Rattle.ml_filing.specs.Reading.{index_in, entry_in_place}
use Rattle.ml_filing.specs.declared.posts.Entry.{Entry}
use Rattle.ml_filing.proofs.Exact.{index_more}
use Rattle.ml_rows.proofs.Commas.{one_more}
use Rattle.ml_filing.proofs.index_reader.index_of.Goals as goal

pub loop-rest-preserved : goal.loop-rest-preserved
loop-rest-preserved c =
    let g = c.args.group in
    let k = c.loop-rest.number in
    let more = row_of (entry_in_place g) (k + 1) c.in-Some.more.now in
    let here : k / 100 ≡ g = subst (λ (o : Option (Entry × Bor (List ℕ))). IfSome o (λ _. k / 100 ≡ g)) c.in-Some.is c.in_ok-entry.ensures.here in
    record {
      read =
          one_more (index_in g c.args.text.now) c.loop-rest.out c.in-Some.entry (row_of (entry_in_place g) k c.loop-rest.rest.now) more c.loop-rest.invariant.read
          (index_more g k c.loop-rest.rest.now c.in-Some.entry c.in-Some.more.now (sym c.in_ok-entry.ensures.value ∙ ap (option_map (λ (p : Entry × Bor (List ℕ)). (p.0, p.1.now))) c.in-Some.is))
          ∙ ap (λ (out : List Entry). option_map (λ (es : List Entry). out ++ es) more) (sym c.in_ok-push.ensures.ok);
      few = omega (arith, here);
    }

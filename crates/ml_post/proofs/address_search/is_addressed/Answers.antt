use Rattle.std.proofs.Common.{◌≡◌, true, false, ◌&&◌, sym, ◌∙◌, rules}
use Rattle.std.specs.Prelude.{codes}
use Rattle.std.specs.List.{list_any}
use Rattle.ml_header.specs.Fields.{has_name}
use Rattle.ml_header.specs.Fields as words
use Rattle.ml_plain.specs.Verdicts.{names_list}
use Rattle.ml_post.specs.Recipients.{recipients}
use Rattle.ml_post.proofs.Recipients.{any_either}
use Rattle.ml_post.proofs.address_search.is_addressed.Goals as goal

pub returns-then-branch : goal.returns-then-branch
returns-then-branch c =
    let config = c.args.config.now in
    let fields = words.fields c.args.message.now in
    let found : list_any (λ f. recipients f && names_list config f) fields ≡ true = search rules in
    sym (any_either (has_name (codes "to")) (has_name (codes "cc")) (names_list config) fields ∙ found)

pub returns : goal.returns
returns c =
    let config = c.args.config.now in
    let fields = words.fields c.args.message.now in
    let none : list_any (λ f. recipients f && names_list config f) fields ≡ false = search rules in
    sym (any_either (has_name (codes "to")) (has_name (codes "cc")) (names_list config) fields ∙ none)

use Rattle.std.proofs.Common.{◌≡◌, ◌&&◌, length}
use Rattle.std.specs.List.{list_any}
use Rattle.ml_header.specs.Fields as words
use Rattle.ml_plain.specs.Verdicts.{names_list}
use Rattle.ml_post.specs.Recipients.{recipients}
use Rattle.ml_post.proofs.address_search.is_addressed.Given as goal

abbrev pub invariant-loop-field : goal.invariant-loop-field
invariant-loop-field l =
    list_any (λ f. recipients f && names_list l.config f) l.fields ≡ list_any (λ f. recipients f && names_list l.config f) (words.fields l.message)

abbrev pub decreases-loop-field : goal.decreases-loop-field
decreases-loop-field l = length l.fields

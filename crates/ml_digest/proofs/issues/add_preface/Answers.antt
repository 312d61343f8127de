use Rattle.std.proofs.Common.{◌+◌, ◌-◌, length, codes}
use Rattle.std.specs.Fmt.{decimal}
use Rattle.ml_digest.specs.Digest.{issue_title, preamble_rule}
use Rattle.ml_digest.specs.Steps.{preface_text, topics_text}
use Rattle.ml_digest.proofs.Pieces.{preface_pieces}
use Rattle.ml_digest.proofs.issues.add_preface.Goals as goal

pub returns : goal.returns
unfolding preface_text
returns c =
    rw (c.in_ok-extend-4.ensures.ok, c.in_ok-add_topics.ensures, c.in_ok-extend-3.ensures.ok, c.in_ok-push_number-2.ensures.ok, c.in_ok-extend-2.ensures.ok, c.in_ok-push_number.ensures.ok, c.in_ok-extend.ensures.ok, c.in_ok-add_title.ensures)
    (preface_pieces c.args.out.now (issue_title c.args.name.now c.args.issue) (codes ", posts ") (decimal c.args.first) (codes " to ") (decimal (c.args.first + length c.args.posts.now - 1)) (codes "Topics:") (topics_text c.args.first c.args.posts.now) preamble_rule)

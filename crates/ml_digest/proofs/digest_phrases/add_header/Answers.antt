use Rattle.std.proofs.Common.{◌++◌, codes}
use Rattle.ml_digest.specs.Digest.{issue_title}
use Rattle.ml_digest.specs.Steps.{first_text, header_text}
use Rattle.ml_digest.proofs.Pieces.{header_pieces}
use Rattle.ml_digest.proofs.digest_phrases.add_header.Goals as goal

pub returns : goal.returns
unfolding header_text
returns c =
    rw (c.in_ok-extend-2.ensures.ok, c.in_ok-add_title.ensures, c.in_ok-extend.ensures.ok, c.in_ok-add_line.ensures, c.in_ok-add_first_lines.ensures, c.as_slice.ensures)
    (header_pieces c.args.out.now (first_text c.args.config.now) (codes "Date: " ++ c.args.date.now) (codes "Subject: ") (issue_title c.args.config.now.local c.args.issue))

use Rattle.std.specs.List.{flat_map}
use Rattle.ml_base.specs.Splits.{lines}
use Rattle.ml_header.specs.Fields.{body}
use Rattle.ml_digest.specs.Digest.{kept_fields, quoted_line}
use Rattle.ml_digest.proofs.Pieces.{message_ends}
use Rattle.ml_digest.proofs.messages.add_message.Goals as goal

pub returns : goal.returns
returns c =
    rw (c.in_ok-end_text_line.ensures, c.in_ok-add_body.ensures, c.in_ok-push.ensures.ok, c.in_ok-add_kept_fields.ensures, c.body.ensures, c.scan-message.ensures)
    (message_ends c.args.out.now (kept_fields c.args.post.now) (flat_map quoted_line (lines (body c.args.post.now))))

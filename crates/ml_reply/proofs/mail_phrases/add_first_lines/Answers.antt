use Rattle.std.proofs.Common.{◌++◌, codes}
use Rattle.ml_base.specs.Texts.{list_address, mailing_list_line}
use Rattle.ml_reply.specs.Letters.{first_lines}
use Rattle.ml_reply.proofs.Pieces.{first_lines_pieces}
use Rattle.ml_reply.proofs.mail_phrases.add_first_lines.Goals as goal

pub returns : goal.returns
unfolding first_lines
returns c =
    rw (c.in_ok-add_line-2.ensures, c.in_ok-add_from.ensures, c.in_ok-add_line.ensures, c.in_ok-add_mailing_list.ensures)
    (first_lines_pieces c.args.out.now (mailing_list_line c.args.config.now.local c.args.config.now.host) (codes "Precedence: bulk")
    (codes "From: " ++ list_address c.args.config.now.local c.args.config.now.host (codes "help")) (codes "To: " ++ c.args.to.now))

use Rattle.std.proofs.Common.{◌++◌, codes}
use Rattle.ml_base.specs.Texts.{list_address, post_address, mailing_list_line}
use Rattle.ml_digest.specs.Steps.{first_text}
use Rattle.ml_digest.proofs.Pieces.{first_pieces}
use Rattle.ml_digest.proofs.digest_phrases.add_first_lines.Goals as goal

pub returns : goal.returns
unfolding first_text
returns c =
    rw (c.in_ok-add_to.ensures, c.in_ok-add_from.ensures, c.in_ok-extend.ensures.ok, c.in_ok-add_mailing_list.ensures)
    (first_pieces c.args.out.now (mailing_list_line c.args.config.now.local c.args.config.now.host) (codes "Precedence: bulk")
    (codes "From: " ++ list_address c.args.config.now.local c.args.config.now.host (codes "help")) (codes "To: " ++ post_address c.args.config.now.local c.args.config.now.host))

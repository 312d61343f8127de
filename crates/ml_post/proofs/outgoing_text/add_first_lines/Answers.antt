use Rattle.std.proofs.Common.{codes}
use Rattle.ml_base.specs.Texts.{mailing_list_line, post_address}
use Rattle.ml_post.proofs.SentText.{first_pieces}
use Rattle.ml_post.proofs.outgoing_text.add_first_lines.Goals as goal

pub returns : goal.returns
returns c =
    let config = c.args.config.now in
    rw (c.in_ok-extend-2.ensures.ok, c.in_ok-add_post_address.ensures, c.in_ok-extend.ensures.ok, c.in_ok-add_mailing_list.ensures)
    (first_pieces c.args.out.now (mailing_list_line config.local config.host) (codes "Precedence: bulk") (codes "List-Post: <mailto:") (post_address config.local config.host) (codes ">"))

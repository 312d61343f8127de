use Rattle.std.proofs.Common.{◌++◌, codes}
use Rattle.ml_base.specs.Texts.{lf, mailing_list_line, post_address}
use Rattle.ml_post.specs.SentPieces.{list_field, delivered_line}
use Rattle.ml_post.proofs.SentText.{seven_pieces}
use Rattle.ml_post.proofs.outgoing_text.list_lines.Goals as goal

pub returns : goal.returns
returns c =
    let local = c.args.config.now.local in
    let host = c.args.config.now.host in
    rw (c.in_ok-add_delivered.ensures, c.in_ok-add_list_field-3.ensures, c.in_ok-add_list_field-2.ensures, c.in_ok-add_list_field.ensures, c.in_ok-add_first_lines.ensures, c.new-out.ensures)
    (seven_pieces (mailing_list_line local host ++ lf) (codes "Precedence: bulk" ++ lf) (codes "List-Post: <mailto:" ++ post_address local host ++ codes ">" ++ lf)
    (list_field local host (codes "List-Help: <mailto:") (codes "help")) (list_field local host (codes "List-Unsubscribe: <mailto:") (codes "unsubscribe"))
    (list_field local host (codes "List-Subscribe: <mailto:") (codes "subscribe")) (delivered_line local host))

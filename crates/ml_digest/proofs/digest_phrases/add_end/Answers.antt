use Rattle.std.proofs.Common.{◌-◌, arith, ap, length, length-append, codes}
use Rattle.ml_digest.specs.Digest.{issue_title}
use Rattle.ml_digest.proofs.Pieces.{end_pieces}
use Rattle.ml_digest.proofs.digest_phrases.add_end.Goals as goal

pub returns : goal.returns
returns c =
    rw (c.in_ok-push-2.ensures.ok, c.in_ok-add_asterisks.ensures, c.in_ok-push.ensures.ok, c.in_ok-add_title.ensures, c.in_ok-extend.ensures.ok)
    (end_pieces c.args.out.now (codes "End of ") (issue_title c.args.name.now c.args.issue) (c.len.result - c.len-start.result)
    (let out = ap length c.in_ok-add_title.ensures in let start = ap length c.in_ok-extend.ensures.ok in let n = c.len.ensures.count in let m = c.len-start.ensures.count in omega (arith, out, start, n, m, length-append c.extend.new.self (issue_title c.args.name.now c.args.issue), length-append c.args.out.now (codes "End of "), length-append (codes "End of ") (issue_title c.args.name.now c.args.issue))))

use Rattle.std.proofs.Common.{◌≡◌, ◌<◌, ◌-◌, ◌*◌, min, length, arith, rules}
use Rattle.ml_pages.proofs.Listed.{on_cut}
use Rattle.ml_pages.proofs.thread_pages.on_page.Goals as goal

pub returns : goal.returns
returns c =
    let page = c.args.page in
    let ns = c.args.numbers.now in
    let zero = c.if-page-eq0.false in
    let some : 0 < page = omega (arith, zero) in
    let first : c.min-before.result ≡ min (1000 * (page - 1)) (length ns) = search rules in
    let size : c.min.result ≡ min (length ns - c.min-before.result) 1000 = search rules in
    on_cut page ns c.min-before.result c.min.result some first size

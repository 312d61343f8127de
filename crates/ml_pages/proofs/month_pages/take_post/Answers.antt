use Rattle.std.proofs.Common.{inr}
use Rattle.ml_pages.specs.Pages.{post_line}
use Rattle.ml_pages.specs.Parts.{kept}
use Rattle.ml_pages.proofs.Paged.{filled, taken}
use Rattle.ml_pages.proofs.month_pages.take_post.Goals as goal

pub returns-in_ok-push_post-clause-lines : goal.returns-in_ok-push_post-clause-lines
returns-in_ok-push_post-clause-lines c = λ es. taken c.args.page.now.before c.args.page.now.room c.args.page.now.lines c.push_post.new.out c.args.entry.now es c.if-page-gt0.false c.if-page-gt0-2.true c.in_ok-push_post.ensures

pub returns-in_ok-push_post-clause-begun : goal.returns-in_ok-push_post-clause-begun
returns-in_ok-push_post-clause-begun c = λ _. inr (filled c.args.page.now.lines (post_line (kept c.args.entry.now)) c.push_post.new.out c.in_ok-push_post.ensures)

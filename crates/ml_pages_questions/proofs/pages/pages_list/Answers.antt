use Rattle.std.proofs.Common.{subst}
use Rattle.ml_base.specs.Dir.{Dir}
use Rattle.ml_pages.specs.Reads.{AreThreadsRead}
use Rattle.ml_pages_questions.proofs.pages.pages_list.Goals as goal

pub returns-clause-read : goal.returns-clause-read
returns-clause-read g c told =
    let same = g.met.F.Files.kept_map c.args.files.now c.months.new.files told c.months.ensures.reads.kept in
    (c.in_ok-months.ensures.read told, subst (λ (d : Dir). AreThreadsRead d) same (c.in_ok-threads.ensures.read told))

use Rattle.std.proofs.Common.{sym, ◌∙◌, ap, [], ◌∷◌}
use Rattle.ml_base.specs.Dir.{Dir, with_file}
use Rattle.ml_base.proofs.Laid.{laid_joined}
use Rattle.ml_journal.specs.Newest.{with_newest}
use Rattle.ml_journal.proofs.newest_puts.Newest.set_all.Goals as goal

pub loop-put-preserved : goal.loop-put-preserved
loop-put-preserved c dir =
    let put = c.in-Some.put in
    c.in_ok-set.ensures.ok dir
    ∙ ap (λ (d : Dir). with_file d put.name put.bytes) (c.loop-put.invariant dir)
    ∙ sym (laid_joined (with_newest c.args.self.now.puts dir) c.loop-put.yielded (put ∷ []))

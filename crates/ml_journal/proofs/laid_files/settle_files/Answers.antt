use Rattle.std.proofs.Common.{◌≡◌, refl, ◌∙◌, rules}
use Rattle.ml_site.specs.Disk.{Now}
use Rattle.ml_site.proofs.Steps.{goes_on}
use Rattle.ml_journal.specs.Laying.{Beside}
use Rattle.ml_journal.proofs.Laid.{over_image}
use Rattle.ml_journal.proofs.laid_files.settle_files.Goals as goal

pub returns-clause-laid : goal.returns-clause-laid
returns-clause-laid g c =
    let old = (g.S.Site.disk c.args.site.now).reads in record {
      reads = search rules;
      beside = search rules;
      instants = λ told. goes_on g.S.Site.instant g.S.Site.left_since g.S.Site.disk g.S.Site.output c.args.site.now c.lay_files.new.site c.sync.new.self
          (λ left out. Beside c.args.newest.now.puts old left × (out ≡ g.S.Site.output c.args.site.now))
          (Now (g.S.Site.disk c.sync.new.self) (g.S.Site.output c.sync.new.self))
          (c.lay_files.ensures.laid.instants told) (c.sync.ensures.keeps.time told)
          (λ left out now. (over_image c.args.newest.now.puts old (g.S.Site.disk c.lay_files.new.site) left (c.lay_files.ensures.images told) (c.sync.ensures.crash told left now.0), now.1 ∙ c.sync.ensures.keeps.output told ∙ c.lay_files.ensures.keeps.output told)) (λ left is. (is, refl));
    }

pub returns-in_err-sync-clause-laid : goal.returns-in_err-sync-clause-laid
returns-in_err-sync-clause-laid g c =
    let old = (g.S.Site.disk c.args.site.now).reads in record {
      reads = search rules;
      beside = search rules;
      instants = λ told. goes_on g.S.Site.instant g.S.Site.left_since g.S.Site.disk g.S.Site.output c.args.site.now c.lay_files.new.site c.sync.new.self
          (λ left out. Beside c.args.newest.now.puts old left × (out ≡ g.S.Site.output c.args.site.now))
          (Now (g.S.Site.disk c.sync.new.self) (g.S.Site.output c.sync.new.self))
          (c.lay_files.ensures.laid.instants told) (c.sync.ensures.keeps.time told)
          (λ left out now. (over_image c.args.newest.now.puts old (g.S.Site.disk c.lay_files.new.site) left (c.lay_files.ensures.images told) (c.sync.ensures.crash told left now.0), now.1 ∙ c.sync.ensures.keeps.output told ∙ c.lay_files.ensures.keeps.output told)) (λ left is. (is, refl));
    }

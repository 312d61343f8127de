use Rattle.std.proofs.Common.{length, ◌∙◌, ap, arith}
use Rattle.ml_site.specs.Disk.{Contents}
use Rattle.ml_journal.specs.Calls.{KeepsDirectory}
use Rattle.ml_journal.proofs.Closing.{IsClosed, closed_then, cut_down}
use Rattle.ml_journal.proofs.Settled.{files_step, closed_step, shut_step}
use Rattle.ml_journal.proofs.log_files.lay_down.Goals as goal

pub returns-in_err-settle_files-clause-directory : goal.returns-in_err-settle_files-clause-directory
returns-in_err-settle_files-clause-directory g c = files_step g.S.Site c.settle_files.result c.args.newest.now.puts c.args.site.now c.settle_files.new.site g.met.S.Site.all_has_reads c.requires.held c.settle_files.ensures.laid

pub returns-in_err-settle_log-clause-directory : goal.returns-in_err-settle_log-clause-directory
returns-in_err-settle_log-clause-directory g c =
    let told = g.S.Site in
    let puts = c.args.newest.now.puts in
    let old = c.args.site.now in
    let first : KeepsDirectory told old c.settle_files.new.site = files_step told c.settle_files.result puts old c.settle_files.new.site g.met.S.Site.all_has_reads c.requires.held c.settle_files.ensures.laid in
    closed_step told c.settle_log.result _ puts old c.settle_files.new.site c.settle_log.new.site g.met.S.Site.all_has_reads c.requires.held c.in_ok-settle_files.ensures.laid.reads c.settle_files.ensures.keeps.output first c.settle_log.ensures.settles

pub settle_cut-requires-clause-place : goal.settle_cut-requires-clause-place
settle_cut-requires-clause-place g c = λ told.
    let puts = c.args.newest.now.puts in
    let old = (g.S.Site.disk c.args.site.now).reads in
    let first = (g.S.Site.disk c.settle_files.new.site).reads in
    let second = (g.S.Site.disk c.settle_log.new.site).reads in
    let closed : IsClosed old puts second = closed_then old puts first second (c.requires.held told) (c.in_ok-settle_files.ensures.laid.reads told) (c.in_ok-settle_log.ensures.settles.reads told).ok in
    omega (arith, ap length closed.log)

pub returns-clause-clean : goal.returns-clause-clean
returns-clause-clean g c = record {
  log = λ told.
      let puts = c.args.newest.now.puts in
      let old = (g.S.Site.disk c.args.site.now).reads in
      let second = (g.S.Site.disk c.settle_log.new.site).reads in
      let closed : IsClosed old puts second = closed_then old puts (g.S.Site.disk c.settle_files.new.site).reads second (c.requires.held told) (c.in_ok-settle_files.ensures.laid.reads told) (c.in_ok-settle_log.ensures.settles.reads told).ok in
      ap (λ (m : Contents). m.log) (c.in_ok-settle_cut.ensures.settles.reads told).ok ∙ cut_down old puts second closed;
  rest = c.in_ok-settle_cut.ensures.settles.rest;
}

pub returns-clause-directory : goal.returns-clause-directory
returns-clause-directory g c =
    let told = g.S.Site in
    let puts = c.args.newest.now.puts in
    let old = c.args.site.now in
    let first : KeepsDirectory told old c.settle_files.new.site = files_step told c.settle_files.result puts old c.settle_files.new.site g.met.S.Site.all_has_reads c.requires.held c.settle_files.ensures.laid in
    let second : KeepsDirectory told old c.settle_log.new.site = closed_step told c.settle_log.result _ puts old c.settle_files.new.site c.settle_log.new.site g.met.S.Site.all_has_reads c.requires.held c.in_ok-settle_files.ensures.laid.reads c.settle_files.ensures.keeps.output first c.settle_log.ensures.settles in
    shut_step told c.settle_cut.result _ puts old c.settle_log.new.site c.settle_cut.new.site g.met.S.Site.all_has_reads c.requires.held
    (λ r. closed_then (told.disk old).reads puts (told.disk c.settle_files.new.site).reads (told.disk c.settle_log.new.site).reads (c.requires.held r) (c.in_ok-settle_files.ensures.laid.reads r) (c.in_ok-settle_log.ensures.settles.reads r).ok)
    (λ t. c.settle_log.ensures.keeps.output t ∙ c.settle_files.ensures.keeps.output t) second c.settle_cut.ensures.settles

pub returns-in_err-settle_cut-clause-directory : goal.returns-in_err-settle_cut-clause-directory
returns-in_err-settle_cut-clause-directory g c =
    let told = g.S.Site in
    let puts = c.args.newest.now.puts in
    let old = c.args.site.now in
    let first : KeepsDirectory told old c.settle_files.new.site = files_step told c.settle_files.result puts old c.settle_files.new.site g.met.S.Site.all_has_reads c.requires.held c.settle_files.ensures.laid in
    let second : KeepsDirectory told old c.settle_log.new.site = closed_step told c.settle_log.result _ puts old c.settle_files.new.site c.settle_log.new.site g.met.S.Site.all_has_reads c.requires.held c.in_ok-settle_files.ensures.laid.reads c.settle_files.ensures.keeps.output first c.settle_log.ensures.settles in
    shut_step told c.settle_cut.result _ puts old c.settle_log.new.site c.settle_cut.new.site g.met.S.Site.all_has_reads c.requires.held
    (λ r. closed_then (told.disk old).reads puts (told.disk c.settle_files.new.site).reads (told.disk c.settle_log.new.site).reads (c.requires.held r) (c.in_ok-settle_files.ensures.laid.reads r) (c.in_ok-settle_log.ensures.settles.reads r).ok)
    (λ t. c.settle_log.ensures.keeps.output t ∙ c.settle_files.ensures.keeps.output t) second c.settle_cut.ensures.settles

use Rattle.std.proofs.Common.{ap}
use Rattle.ml_journal.specs.Log.{directory}
use Rattle.ml_journal.specs.Stores.{site_of}
use Rattle.ml_ending.specs.declared.lines.Why.TheVariants as whys
use Rattle.ml_run.proofs.MadeLists.{finished_making, read_making, read_then, read_makes}
use Rattle.ml_run.proofs.new_list.make_if_absent.Goals as goal

pub returns-in-Ok-Some-clause-instants : goal.returns-in-Ok-Some-clause-instants
returns-in-Ok-Some-clause-instants g c t =
    let start = site_of c.args.store in
    let read = site_of c.get.new.self in
    let kept = c.get.ensures.kept in
    let told = g.met.S.Site.all_has_reads t in
    finished_making g.S.Site start read c.close_unmade.result.1 (directory (g.S.Site.disk start).reads) c.args.txn.now c.args.line.now c.close_unmade.result.0 whys.There
    (read_making g.S.Site start read c.args.txn.now c.args.line.now kept.instants t) (kept.output_is t) (ap directory (kept.reads told)) c.close_unmade.ensures t

pub returns-in-Err-Fault-clause-instants : goal.returns-in-Err-Fault-clause-instants
returns-in-Err-Fault-clause-instants g c t =
    let start = site_of c.args.store in
    let read = site_of c.get.new.self in
    let kept = c.get.ensures.kept in
    let told = g.met.S.Site.all_has_reads t in
    finished_making g.S.Site start read c.close_unmade-in-Err-Fault.result.1 (directory (g.S.Site.disk start).reads) c.args.txn.now c.args.line.now c.close_unmade-in-Err-Fault.result.0 whys.Disk
    (read_making g.S.Site start read c.args.txn.now c.args.line.now kept.instants t) (kept.output_is t) (ap directory (kept.reads told)) c.close_unmade-in-Err-Fault.ensures t

pub returns-clause-instants : goal.returns-clause-instants
returns-clause-instants g c t =
    let start = site_of c.args.store in
    let read = site_of c.get.new.self in
    let kept = c.get.ensures.kept in
    let told = g.met.S.Site.all_has_reads t in
    finished_making g.S.Site start read c.close_unmade-in-Err-Memory.result.1 (directory (g.S.Site.disk start).reads) c.args.txn.now c.args.line.now c.close_unmade-in-Err-Memory.result.0 whys.Memory
    (read_making g.S.Site start read c.args.txn.now c.args.line.now kept.instants t) (kept.output_is t) (ap directory (kept.reads told)) c.close_unmade-in-Err-Memory.ensures t

pub returns-in-Ok-None-clause-makes : goal.returns-in-Ok-None-clause-makes
returns-in-Ok-None-clause-makes g c told =
    let start = site_of c.args.store in
    let read = site_of c.get.new.self in
    let kept = c.get.ensures.kept in
    read_makes g.S.Site start read c.commit_list.result.1 c.args.txn.now c.args.line.now c.commit_list.result.0 (kept.reads told) kept.output_is (c.commit_list.ensures.makes told)

pub returns-in-Ok-None-clause-instants : goal.returns-in-Ok-None-clause-instants
returns-in-Ok-None-clause-instants g c t =
    let start = site_of c.args.store in
    let read = site_of c.get.new.self in
    let kept = c.get.ensures.kept in
    let told = g.met.S.Site.all_has_reads t in
    read_then g.S.Site start read c.commit_list.result.1 c.args.txn.now c.args.line.now (kept.reads told) (kept.output_is t) kept.instants (c.commit_list.ensures.instants t) t

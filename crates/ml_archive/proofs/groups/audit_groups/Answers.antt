use Rattle.std.proofs.Common.{◌<◌, subst, rules, arith, below_more}
use Rattle.ml_base.specs.Dir.{Dir}
use Rattle.ml_base.specs.PartErrors.{OnDamaged}
use Rattle.ml_base.proofs.DamagedNames.{on_damaged}
use Rattle.ml_base.proofs.ReadingLemmas.{kept_then, kept_read}
use Rattle.ml_archive.specs.Breaks.{AreBadGroups, AreGroupNames, IsBadGroup, IsGroupName}
use Rattle.ml_archive.specs.Found.{HasWhole}
use Rattle.ml_archive.proofs.Posted.{group_there}
use Rattle.ml_archive.proofs.groups.audit_groups.Goals as goal

pub returns-in_err-audit_group-clause-names : goal.returns-in_err-audit_group-clause-names
returns-in_err-audit_group-clause-names g c =
    let e = c.in_err-audit_group.field-0.0 in
    let failed = c.in_err-audit_group.ensures.names in
    let group = c.loop-group.group in
    let there = group_there c.args.count group c.groups_of-group-end.result c.groups_of-group-end.ensures c.loop-group-test.true in
    let few = c.requires in
    let small : group < 1_000_000 = omega (arith, there, few) in
    record {
      named = let own : OnDamaged e AreGroupNames = on_damaged e (IsGroupName group) AreGroupNames (λ name is. (group, small, is)) failed.named in search rules;
      damaged = λ told.
          let dir = g.F.Files.map c.args.files.now in
          let same = g.met.F.Files.kept_map c.args.files.now c.loop-group.files told c.loop-group.invariant.read.kept in
          let one = subst (λ (d : Dir). OnDamaged e (IsBadGroup d c.args.count group)) same (failed.damaged told) in
          let bad : OnDamaged e (AreBadGroups dir c.args.count) = on_damaged e (IsBadGroup dir c.args.count group) (AreBadGroups dir c.args.count) (λ name is. (group, there, is)) one in
          search rules;
    }

pub loop-group-preserved : goal.loop-group-preserved
loop-group-preserved g c =
    let before = c.loop-group.invariant in
    let group = c.loop-group.group in
    record {
      read = kept_then g.F.Files g.met.F.Files.kept_then c.args.files.now c.loop-group.files c.audit_group.new.files before.read (kept_read g.F.Files c.loop-group.files c.audit_group.new.files c.audit_group.result c.audit_group.ensures.reads);
      whole = λ told.
          let dir = g.F.Files.map c.args.files.now in
          let same = g.met.F.Files.kept_map c.args.files.now c.loop-group.files told before.read.kept in
          below_more (λ h. HasWhole dir c.args.count h) group (before.whole told) (subst (λ (d : Dir). HasWhole d c.args.count group) same (c.in_ok-audit_group.ensures.value told));
    }

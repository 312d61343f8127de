use Rattle.std.proofs.Common.{◌<◌, ℕ, subst, rules, arith}
use Rattle.ml_base.specs.Dir.{Dir}
use Rattle.ml_base.specs.PartErrors.{OnDamaged}
use Rattle.ml_base.proofs.DamagedNames.{on_damaged}
use Rattle.ml_base.proofs.ReadingLemmas.{kept_then, kept_read}
use Rattle.ml_filing.specs.Archive.{IsIndexFile, index_name}
use Rattle.ml_archive.specs.Breaks.{AreBadGroups, AreGroupNames, IsBadGroup, IsGroupName}
use Rattle.ml_archive.proofs.Adding.{keyed_more}
use Rattle.ml_archive.proofs.Posted.{group_there}
use Rattle.ml_archive.proofs.Sized.{whole_read}
use Rattle.ml_archive.proofs.keys.keys_of.Goals as goal

pub returns-in_err-entries-clause-names : goal.returns-in_err-entries-clause-names
returns-in_err-entries-clause-names g c =
    let e = c.in_err-entries.field-0.0 in
    let failed = c.in_err-entries.ensures.names in
    let group = c.loop-group.group in
    let there = group_there c.args.count group c.groups_of-group-end.result c.groups_of-group-end.ensures c.loop-group-test.true in
    let few = c.requires.count in
    let small : group < 1_000_000 = omega (arith, there, few) in
    record {
      named = let own : OnDamaged e AreGroupNames = on_damaged e (IsGroupName group) AreGroupNames (λ name is. (group, small, is)) failed.named in search rules;
      damaged = λ told.
          let dir = g.F.Files.map c.args.files.now in
          let same = g.met.F.Files.kept_map c.args.files.now c.loop-group.files told c.loop-group.invariant.read.kept in
          let one = subst (λ (d : Dir). OnDamaged e (IsBadGroup d c.args.count group)) same (failed.damaged told) in
          let bad : OnDamaged e (AreBadGroups dir c.args.count) = on_damaged e (IsBadGroup dir c.args.count group) (AreBadGroups dir c.args.count) (λ name is. (group, there, is)) one in
          search rules;
    }

pub loop-group-preserved : goal.loop-group-preserved
loop-group-preserved g c =
    let before = c.loop-group.invariant in
    let group = c.loop-group.group in
    let entries = c.in_ok-entries.entries in
    record {
      read = kept_then g.F.Files g.met.F.Files.kept_then c.args.files.now c.loop-group.files c.full_index.new.files before.read (kept_read g.F.Files c.loop-group.files c.full_index.new.files c.full_index.result c.full_index.ensures.reads);
      ordered = c.in_ok-add_entries.ensures.ordered before.ordered;
      below = λ told.
          let dir = g.F.Files.map c.args.files.now in
          let same = g.met.F.Files.kept_map c.args.files.now c.loop-group.files told before.read.kept in
          let index = subst (λ (d : Dir). IsIndexFile group (d (index_name group)) entries) same (c.in_ok-entries.ensures.index told) in
          let there = group_there c.args.count group c.groups_of-group-end.result c.groups_of-group-end.ensures c.loop-group-test.true in
          let less = subst (λ (n : ℕ). group < n) c.groups_of-group-end.ensures c.loop-group-test.true in
          let whole = whole_read dir c.args.count group entries (c.requires.whole told group less) index in
          keyed_more dir c.args.prefix.now c.args.places c.args.count group c.first_number.result c.loop-group.keys c.add_entries.new.keys entries c.as_slice.result.now there (before.below told) whole c.as_slice.ensures c.first_number.ensures
          c.in_ok-add_entries.ensures.value;
    }

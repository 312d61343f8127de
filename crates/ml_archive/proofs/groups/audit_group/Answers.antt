use Rattle.std.proofs.Common.{◌≡◌, subst, inr}
use Rattle.ml_base.specs.Dir.{Dir}
use Rattle.ml_base.proofs.DamagedNames.{err_damaged, err_both_damaged}
use Rattle.ml_filing.specs.Archive.{index_name}
use Rattle.ml_archive.specs.Breaks.{IsBadGroup, IsGroupName}
use Rattle.ml_archive.specs.Counted.{first_of}
use Rattle.ml_archive.specs.Found.{LacksSize}
use Rattle.ml_archive.proofs.Sized.{sizes_bad}
use Rattle.ml_archive.proofs.groups.audit_group.Goals as goal

pub returns-clause-names : goal.returns-clause-names
returns-clause-names g c =
    let failed = c.audit_sizes.ensures.names in
    let group = c.args.group in
    let entries = c.as_slice.result.now in
    record {
      named = err_damaged c.audit_sizes.result (λ name. name ≡ index_name group) (IsGroupName group) (λ name is. inr is) failed.named;
      damaged = λ told.
          let dir = g.F.Files.map c.args.files.now in
          let read = g.F.Files.map c.full_index.new.files in
          let same = g.met.F.Files.kept_map c.args.files.now c.full_index.new.files told c.full_index.ensures.reads.kept in
          err_both_damaged c.audit_sizes.result (λ name. name ≡ index_name group) (λ _. LacksSize read (first_of group) entries) (IsBadGroup dir c.args.count group)
          (λ name named lacks. sizes_bad dir c.args.count group name c.in_ok-entries.entries entries named (c.in_ok-entries.ensures.index told) c.as_slice.ensures (subst (λ (d : Dir). LacksSize d (first_of group) entries) same lacks)) failed.named
          (failed.damaged told);
    }

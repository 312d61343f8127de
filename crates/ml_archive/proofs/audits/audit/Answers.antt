use Rattle.std.proofs.Common.{◌<◌, ℕ, subst, sym, rules, inl, inr}
use Rattle.std.proofs.lemmas.Result.{on_ok_weaker, IfErr-weaker}
use Rattle.ml_base.specs.Dir.{Dir}
use Rattle.ml_base.specs.PartErrors.{OnDamaged}
use Rattle.ml_base.specs.declared.part_error.PartError.{PartError}
use Rattle.ml_base.proofs.DamagedNames.{err_damaged, on_damaged}
use Rattle.ml_archive.specs.Breaks.{AreBadGroups, AreGroupNames, Breaks, HasThreads, IsAuditName}
use Rattle.ml_archive.specs.Found.{ArePosted, AreWhole, groups_of}
use Rattle.ml_archive.proofs.Agreeing.{all_right, no_breaks, whole_counted}
use Rattle.ml_archive.proofs.audits.audit.Goals as goal

pub returns-in_err-audit_groups-clause-names : goal.returns-in_err-audit_groups-clause-names
returns-in_err-audit_groups-clause-names g c =
    let e = c.in_err-audit_groups.field-0.0 in
    let failed = c.in_err-audit_groups.ensures.names in
    record {
      named = let own : OnDamaged e IsAuditName = on_damaged e AreGroupNames IsAuditName (λ name is. inr (inl is)) failed.named in search rules;
      damaged = λ told.
          let dir = g.F.Files.map c.args.files.now in
          let count = c.in_ok-count.count in
          let same = g.met.F.Files.kept_map c.args.files.now c.count.new.files told c.count.ensures.reads.kept in
          let one = subst (λ (d : Dir). OnDamaged e (AreBadGroups d count)) same (failed.damaged told) in
          let bad : OnDamaged e (Breaks dir c.args.prefix.now) = on_damaged e (AreBadGroups dir count) (Breaks dir c.args.prefix.now) (λ name is. inr (inl (count, c.in_ok-count.ensures.read told, is))) one in
          search rules;
    }

pub returns-in_err-audit_groups-clause-complete : goal.returns-in_err-audit_groups-clause-complete
returns-in_err-audit_groups-clause-complete g c told posts is =
    IfErr-weaker _ _ _ (λ (e : PartError) bad. on_damaged e (Breaks (g.F.Files.map c.args.files.now) c.args.prefix.now) (λ _. ⊥) (no_breaks (g.F.Files.map c.args.files.now) c.args.prefix.now posts is) bad)
    ((returns-in_err-audit_groups-clause-names g c).damaged told)

pub returns-in_err-audit_groups-clause-sound : goal.returns-in_err-audit_groups-clause-sound
returns-in_err-audit_groups-clause-sound g c told posts is = returns-in_err-audit_groups-clause-complete g c told posts (whole_counted (g.F.Files.map c.args.files.now) c.args.prefix.now posts is)

pub audit_threads-requires-clause-posted : goal.audit_threads-requires-clause-posted
audit_threads-requires-clause-posted g c told =
    let count = c.in_ok-count.count in
    let first = g.met.F.Files.kept_map c.args.files.now c.count.new.files told c.count.ensures.reads.kept in
    let kept = g.met.F.Files.kept_then c.args.files.now c.count.new.files c.audit_groups.new.files c.count.ensures.reads.kept c.audit_groups.ensures.reads.kept in
    let same = g.met.F.Files.kept_map c.args.files.now c.audit_groups.new.files told kept in
    let dir = g.F.Files.map c.args.files.now in
    let posted : ArePosted dir count = record {
      counted = c.in_ok-count.ensures.read told;
      groups = subst (λ (d : Dir). AreWhole d count (groups_of count)) first (c.in_ok-audit_groups.ensures.value told);
    } in
    subst (λ (d : Dir). ArePosted d count) (sym same) posted

pub returns-clause-names : goal.returns-clause-names
returns-clause-names g c =
    let failed = c.audit_threads.ensures.names in
    record {
      named = failed.named;
      damaged = λ told.
          let dir = g.F.Files.map c.args.files.now in
          let kept = g.met.F.Files.kept_then c.args.files.now c.count.new.files c.audit_groups.new.files c.count.ensures.reads.kept c.audit_groups.ensures.reads.kept in
          let same = g.met.F.Files.kept_map c.args.files.now c.audit_groups.new.files told kept in
          err_damaged c.audit_threads.result (Breaks (g.F.Files.map c.audit_groups.new.files) c.args.prefix.now) (Breaks dir c.args.prefix.now) (λ name is. subst (λ (d : Dir). Breaks d c.args.prefix.now name) same is) (failed.damaged told);
    }

pub returns-clause-complete : goal.returns-clause-complete
returns-clause-complete g c told posts is =
    err_damaged c.audit_threads.result (Breaks (g.F.Files.map c.args.files.now) c.args.prefix.now) (λ _. ⊥) (no_breaks (g.F.Files.map c.args.files.now) c.args.prefix.now posts is) ((returns-clause-names g c).damaged told)

pub returns-clause-sound : goal.returns-clause-sound
returns-clause-sound g c told posts is = returns-clause-complete g c told posts (whole_counted (g.F.Files.map c.args.files.now) c.args.prefix.now posts is)

pub returns-clause-ok : goal.returns-clause-ok
returns-clause-ok g c told =
    let dir = g.F.Files.map c.args.files.now in
    let count = c.in_ok-count.count in
    let first = g.met.F.Files.kept_map c.args.files.now c.count.new.files told c.count.ensures.reads.kept in
    let kept = g.met.F.Files.kept_then c.args.files.now c.count.new.files c.audit_groups.new.files c.count.ensures.reads.kept c.audit_groups.ensures.reads.kept in
    let same = g.met.F.Files.kept_map c.args.files.now c.audit_groups.new.files told kept in
    let posted : ArePosted dir count = record {
      counted = c.in_ok-count.ensures.read told;
      groups = subst (λ (d : Dir). AreWhole d count (groups_of count)) first (c.in_ok-audit_groups.ensures.value told);
    } in
    on_ok_weaker c.audit_threads.result
    (λ right. all_right dir c.args.prefix.now count posted (subst (λ (d : Dir). (n : ℕ) → n < 256 → HasThreads d c.args.prefix.now n) same right))
    (c.audit_threads.ensures.value told)

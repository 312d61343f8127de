use Rattle.std.proofs.Common.{◌≡◌, [], subst, rules, inl, inr}
use Rattle.std.specs.Prelude.{unwrap_or}
use Rattle.std.proofs.lemmas.Result.{on_ok_weaker}
use Rattle.ml_base.specs.Dir.{Dir}
use Rattle.ml_base.specs.PartErrors.{OnDamaged}
use Rattle.ml_base.proofs.DamagedNames.{err_damaged, on_damaged}
use Rattle.ml_filing.specs.Threads.{thread_name}
use Rattle.ml_archive.specs.Breaks.{AreBadGroups, AreGroupNames, Breaks, IsAuditName, IsThreadsName}
use Rattle.ml_archive.specs.Found.{HasOtherText, text_at}
use Rattle.ml_archive.proofs.Agreeing.{other_text, right_text}
use Rattle.ml_archive.proofs.threads.audit_places.Goals as goal

pub returns-in_err-keys-clause-names : goal.returns-in_err-keys-clause-names
returns-in_err-keys-clause-names g c =
    let e = c.in_err-keys.field-0.0 in
    let failed = c.in_err-keys.ensures.names in
    record {
      named = let own : OnDamaged e IsAuditName = on_damaged e AreGroupNames IsAuditName (λ name is. inr (inl is)) failed.named in search rules;
      damaged = λ told.
          let dir = g.F.Files.map c.args.files.now in
          let count = c.args.count in
          let bad : OnDamaged e (Breaks dir c.args.prefix.now) = on_damaged e (AreBadGroups dir count) (Breaks dir c.args.prefix.now) (λ name is. inr (inl (count, (c.requires.posted told).counted, is))) (failed.damaged told) in
          search rules;
    }

pub returns-clause-names : goal.returns-clause-names
returns-clause-names g c =
    let failed = c.audit_files.ensures.names in
    record {
      named = err_damaged c.audit_files.result IsThreadsName IsAuditName (λ name is. inr (inr is)) failed.named;
      damaged = λ told.
          let dir = g.F.Files.map c.args.files.now in
          let keys = c.in_ok-keys.keys in
          let same = g.met.F.Files.kept_map c.args.files.now c.keys_of.new.files told c.keys_of.ensures.reads.kept in
          err_damaged c.audit_files.result (HasOtherText (g.F.Files.map c.keys_of.new.files) c.args.places keys) (Breaks dir c.args.prefix.now)
          (λ name is. other_text dir c.args.prefix.now c.args.count c.args.places keys (c.requires.posted told).counted (c.in_ok-keys.ensures.value told) c.in_ok-keys.ensures.ordered c.requires.places name
          (subst (λ (d : Dir). HasOtherText d c.args.places keys name) same is))
          (failed.damaged told);
    }

pub returns-clause-value : goal.returns-clause-value
returns-clause-value g c told =
    let dir = g.F.Files.map c.args.files.now in
    let keys = c.in_ok-keys.keys in
    let same = g.met.F.Files.kept_map c.args.files.now c.keys_of.new.files told c.keys_of.ensures.reads.kept in
    on_ok_weaker c.audit_files.result
    (λ right n inside. right_text dir c.args.prefix.now c.args.count c.args.places keys (c.requires.posted told).counted (c.in_ok-keys.ensures.value told) c.in_ok-keys.ensures.ordered n inside
    (subst (λ (d : Dir). unwrap_or (d (thread_name n)) [] ≡ text_at n keys.entries) same (right n inside)))
    (c.audit_files.ensures.value told)

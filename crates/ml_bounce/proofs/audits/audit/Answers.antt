use Rattle.std.proofs.Common.{refl, subst, rules}
use Rattle.std.specs.Prelude.{IsTrue}
use Rattle.std.proofs.lemmas.Result.{on_ok_weaker, IfErr-weaker}
use Rattle.ml_base.specs.Dir.{Dir}
use Rattle.ml_base.specs.PartErrors.{OnDamaged}
use Rattle.ml_base.specs.declared.names.Set.{Set}
use Rattle.ml_base.specs.declared.names.Set.TheVariants as sets
use Rattle.ml_base.proofs.DamagedNames.{on_damaged, err_damaged}
use Rattle.ml_bounce.specs.Answers.{has_ledger, IsBadFile, IsFileName}
use Rattle.ml_bounce.proofs.Collecting.{SomeLedger, each_ledger, sound_sets}
use Rattle.ml_bounce.proofs.audits.audit.Goals as goal

pub returns-in_err-audit_set-clause-names : goal.returns-in_err-audit_set-clause-names
returns-in_err-audit_set-clause-names g c =
    let e = c.in_err-audit_set.field-0.0 in
    let failed = c.in_err-audit_set.ensures.names in
    record {
      named =
          let own : OnDamaged e (λ name. (set : Set) × IsTrue (has_ledger set) × IsFileName set name) = on_damaged e (IsFileName sets.List) (λ name. (set : Set) × IsTrue (has_ledger set) × IsFileName set name) (λ name is. (sets.List, refl, is)) failed.named in
          search rules;
      damaged = λ told.
          let dir = g.F.Files.map c.args.files.now in
          let bad : OnDamaged e (λ name. (set : Set) × IsTrue (has_ledger set) × IsBadFile dir set name) =
          on_damaged e (IsBadFile dir sets.List) (λ name. (set : Set) × IsTrue (has_ledger set) × IsBadFile dir set name) (λ name is. (sets.List, refl, is)) (failed.damaged told) in
          search rules;
    }

pub returns-in_err-audit_set-clause-sound : goal.returns-in_err-audit_set-clause-sound
returns-in_err-audit_set-clause-sound g c told all = IfErr-weaker _ _ _ (sound_sets (g.F.Files.map c.args.files.now) all) ((returns-in_err-audit_set-clause-names g c).damaged told)

pub returns-clause-ok : goal.returns-clause-ok
returns-clause-ok g c told =
    let same = g.met.F.Files.kept_map c.args.files.now c.audit_set.new.files told c.audit_set.ensures.reads.kept in
    on_ok_weaker c.audit_set-2.result
    (λ last. each_ledger (λ set. SomeLedger (g.F.Files.map c.args.files.now) set) (c.in_ok-audit_set.ensures.value told) (subst (λ (dir : Dir). SomeLedger dir sets.Digest) same last))
    (c.audit_set-2.ensures.value told)

pub returns-clause-names : goal.returns-clause-names
returns-clause-names g c = record {
  named = err_damaged c.audit_set-2.result (IsFileName sets.Digest) (λ name. (set : Set) × IsTrue (has_ledger set) × IsFileName set name) (λ name is. (sets.Digest, refl, is)) c.audit_set-2.ensures.names.named;
  damaged = λ told.
      let dir = g.F.Files.map c.args.files.now in
      let same = g.met.F.Files.kept_map c.args.files.now c.audit_set.new.files told c.audit_set.ensures.reads.kept in
      err_damaged c.audit_set-2.result (IsBadFile (g.F.Files.map c.audit_set.new.files) sets.Digest) (λ name. (set : Set) × IsTrue (has_ledger set) × IsBadFile dir set name)
      (λ name bad. (sets.Digest, refl, subst (λ (dir : Dir). IsBadFile dir sets.Digest name) same bad)) (c.audit_set-2.ensures.names.damaged told);
}

pub returns-clause-sound : goal.returns-clause-sound
returns-clause-sound g c told all = IfErr-weaker _ _ _ (sound_sets (g.F.Files.map c.args.files.now) all) ((returns-clause-names g c).damaged told)

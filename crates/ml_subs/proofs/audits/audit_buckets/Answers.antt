use Rattle.std.proofs.Common.{◌≡◌, subst, rules, length, List, IsErrOf}
use Rattle.ml_subs.proofs.Gathering.{counts_none, counts_more}
use Rattle.ml_base.specs.Dir.{Dir}
use Rattle.ml_base.specs.PartErrors.{OnDamaged}
use Rattle.ml_base.specs.declared.part_error.PartError.TheVariants.{Fault}
use Rattle.ml_base.proofs.DamagedNames.{on_damaged, on_both}
use Rattle.ml_base.proofs.ReadingLemmas.{kept_self, kept_then, kept_read, reading_then}
use Rattle.ml_subs.specs.declared.member_list.Member.{Member}
use Rattle.ml_subs.specs.Buckets.{IsBucketFile}
use Rattle.ml_subs.specs.Subscribers.{bucket_name, IsNoBucket, IsBucketName, IsBadBucket}
use Rattle.ml_subs.proofs.audits.audit_buckets.Goals as goal

pub loop-n-init : goal.loop-n-init
loop-n-init g c = record {
  read = kept_self g.F.Files g.met.F.Files.kept_self c.args.files.now;
  found = λ told. counts_none (g.F.Files.map c.args.files.now) c.args.set;
}

pub loop-n-preserved : goal.loop-n-preserved
loop-n-preserved g c =
    let before = c.loop-n.invariant in
    record {
      read = kept_then g.F.Files g.met.F.Files.kept_then c.args.files.now c.loop-n.files c.audit_bucket.new.files before.read (kept_read g.F.Files c.loop-n.files c.audit_bucket.new.files c.audit_bucket.result c.audit_bucket.ensures.reads);
      found = λ told.
          let same = g.met.F.Files.kept_map c.args.files.now c.loop-n.files told before.read.kept in
          counts_more (g.F.Files.map c.args.files.now) c.args.set c.loop-n.n c.loop-n.count c.in_ok-audit_bucket.field-0 c.saturating_add-count.result (before.found told)
          (subst (λ (dir : Dir). (ms : List Member) × IsBucketFile c.loop-n.n (dir (bucket_name c.args.set c.loop-n.n)) ms × (c.in_ok-audit_bucket.field-0 ≡ length ms)) same (c.in_ok-audit_bucket.ensures.value told)) c.saturating_add-count.ensures;
    }

pub returns-in_err-audit_bucket-clause-names : goal.returns-in_err-audit_bucket-clause-names
returns-in_err-audit_bucket-clause-names g c =
    let e = c.in_err-audit_bucket.field-0.0 in
    let failed = c.in_err-audit_bucket.ensures.names in
    let less = c.loop-n-test.true in
    record {
      named =
          let some : OnDamaged e (IsBucketName c.args.set) = on_damaged e (λ name. name ≡ bucket_name c.args.set c.loop-n.n) (IsBucketName c.args.set) (λ name is. (c.loop-n.n, less, is)) failed.named in
          search rules;
      damaged = λ told.
          let dir = g.F.Files.map c.args.files.now in
          let same = g.met.F.Files.kept_map c.args.files.now c.loop-n.files told c.loop-n.invariant.read.kept in
          let none = subst (λ (dir : Dir). OnDamaged e (λ _. IsNoBucket dir c.args.set c.loop-n.n)) same (failed.damaged told) in
          let bad : OnDamaged e (IsBadBucket dir c.args.set) =
          on_both e (λ name. name ≡ bucket_name c.args.set c.loop-n.n) (λ _. IsNoBucket dir c.args.set c.loop-n.n) (IsBadBucket dir c.args.set) (λ name is none. (c.loop-n.n, less, is, none)) failed.named none in
          search rules;
    }

pub returns-in_err-audit_bucket-clause-reads : goal.returns-in_err-audit_bucket-clause-reads
returns-in_err-audit_bucket-clause-reads g c =
    let read = reading_then g.F.Files g.met.F.Files.kept_then c.args.files.now c.loop-n.files c.audit_bucket.new.files c.audit_bucket.result c.loop-n.invariant.read c.audit_bucket.ensures.reads in
    record { kept = read.kept; later = read.later; cause = λ bad. let failed : IsErrOf c.audit_bucket.result Fault = search rules in read.cause failed }

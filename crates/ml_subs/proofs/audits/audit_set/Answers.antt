use Rattle.std.proofs.Common.{◌≡◌, ◌∙◌, ap, sym, subst, rules, true, inl, inr}
use Rattle.ml_base.specs.Dir.{Dir}
use Rattle.ml_base.specs.PartErrors.{OnDamaged}
use Rattle.ml_base.proofs.DamagedNames.{on_damaged, on_both}
use Rattle.ml_subs.specs.Subscribers.{Breaks, IsBadBucket, IsBucketName, IsNoCount, count_name, is_of_set}
use Rattle.ml_subs.proofs.Gathering.{bucket_of_set, count_of_set, counted_set, uncounted_set, no_count_breaks}
use Rattle.ml_subs.proofs.audits.audit_set.Goals as goal

pub returns-in_err-found-clause-names : goal.returns-in_err-found-clause-names
returns-in_err-found-clause-names g c =
    let e = c.in_err-found.field-0.0 in
    let failed = c.in_err-found.ensures.names in
    record {
      named =
          let own : OnDamaged e (λ name. is_of_set c.args.set name ≡ true) = on_damaged e (IsBucketName c.args.set) (λ name. is_of_set c.args.set name ≡ true) (bucket_of_set c.args.set) failed.named in
          search rules;
      damaged = λ told.
          let dir = g.F.Files.map c.args.files.now in
          let breaks : OnDamaged e (Breaks dir c.args.set) = on_damaged e (IsBadBucket dir c.args.set) (Breaks dir c.args.set) (λ name bad. inl bad) (failed.damaged told) in
          search rules;
    }

pub returns-in_err-count-clause-names : goal.returns-in_err-count-clause-names
returns-in_err-count-clause-names g c =
    let e = c.in_err-count.field-0.0 in
    let failed = c.in_err-count.ensures.names in
    record {
      named =
          let own : OnDamaged e (λ name. is_of_set c.args.set name ≡ true) = on_damaged e (λ name. name ≡ count_name c.args.set) (λ name. is_of_set c.args.set name ≡ true) (count_of_set c.args.set) failed.named in
          search rules;
      damaged = λ told.
          let dir = g.F.Files.map c.args.files.now in
          let found = c.in_ok-found.ensures.value told in
          let same = g.met.F.Files.kept_map c.args.files.now c.audit_buckets.new.files told c.audit_buckets.ensures.reads.kept in
          let none = subst (λ (dir : Dir). OnDamaged e (λ _. IsNoCount dir c.args.set 0)) same (failed.damaged told) in
          let breaks : OnDamaged e (Breaks dir c.args.set) =
          on_both e (λ name. name ≡ count_name c.args.set) (λ _. IsNoCount dir c.args.set 0) (Breaks dir c.args.set) (no_count_breaks dir c.args.set found.0 found.1) failed.named none in
          search rules;
    }

pub returns-then-found-count-clause-value : goal.returns-then-found-count-clause-value
returns-then-found-count-clause-value g c told =
    let found = c.in_ok-found.ensures.value told in
    let count = c.in_ok-count.ensures.value told in
    let same = g.met.F.Files.kept_map c.args.files.now c.audit_buckets.new.files told c.audit_buckets.ensures.reads.kept in
    counted_set (g.F.Files.map c.args.files.now) c.args.set c.in_ok-found.found c.in_ok-count.count found count.1 (sym (ap (λ (dir : Dir). dir (count_name c.args.set)) same) ∙ count.2) c.if-found-count.true

pub returns-else-found-count-clause-names : goal.returns-else-found-count-clause-names
returns-else-found-count-clause-names g c = record {
  named = count_of_set c.args.set c.count.result c.count.ensures.name;
  damaged = λ told.
      let found = c.in_ok-found.ensures.value told in
      let count = c.in_ok-count.ensures.value told in
      let same = g.met.F.Files.kept_map c.args.files.now c.audit_buckets.new.files told c.audit_buckets.ensures.reads.kept in
      inr (
        c.count.ensures.name,
        (found.0, found.1),
        uncounted_set (g.F.Files.map c.args.files.now) c.args.set c.in_ok-found.found c.in_ok-count.count found count.1 (sym (ap (λ (dir : Dir). dir (count_name c.args.set)) same) ∙ count.2) c.if-found-count.false,
      );
}

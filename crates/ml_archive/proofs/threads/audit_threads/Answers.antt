use Rattle.std.proofs.Common.{subst, sym, rules, inl, inr}
use Rattle.std.proofs.lemmas.Bool.{cases_lt}
use Rattle.ml_base.specs.Dir.{Dir}
use Rattle.ml_base.specs.PartErrors.{OnDamaged}
use Rattle.ml_base.proofs.ReadingLemmas.{kept_then, kept_read}
use Rattle.ml_archive.specs.Breaks.{Breaks, HasThreads}
use Rattle.ml_archive.specs.Found.{ArePosted}
use Rattle.ml_archive.proofs.threads.audit_threads.Goals as goal

pub audit_places-requires-clause-posted : goal.audit_places-requires-clause-posted
audit_places-requires-clause-posted g c told =
    let same = g.met.F.Files.kept_map c.args.files.now c.loop-from.files told c.loop-from.invariant.read.kept in
    subst (λ (d : Dir). ArePosted d c.args.count) (sym same) (c.requires.posted told)

pub returns-in_err-audit_places-clause-names : goal.returns-in_err-audit_places-clause-names
returns-in_err-audit_places-clause-names g c =
    let e = c.in_err-audit_places.field-0.0 in
    let failed = c.in_err-audit_places.ensures.names in
    record {
      named = let own = failed.named in search rules;
      damaged = λ told.
          let same = g.met.F.Files.kept_map c.args.files.now c.loop-from.files told c.loop-from.invariant.read.kept in
          let bad = subst (λ (d : Dir). OnDamaged e (Breaks d c.args.prefix.now)) same (failed.damaged told) in
          search rules;
    }

pub loop-from-preserved : goal.loop-from-preserved
loop-from-preserved g c =
    let before = c.loop-from.invariant in
    record {
      read = kept_then g.F.Files g.met.F.Files.kept_then c.args.files.now c.loop-from.files c.audit_places.new.files before.read (kept_read g.F.Files c.loop-from.files c.audit_places.new.files c.audit_places.result c.audit_places.ensures.reads);
      right = λ told n less.
          let dir = g.F.Files.map c.args.files.now in
          let same = g.met.F.Files.kept_map c.args.files.now c.loop-from.files told before.read.kept in
          let now = c.in_ok-audit_places.ensures.value told n in
          elim (cases_lt n c.loop-from.from) as (λ _. HasThreads dir c.args.prefix.now n) [
            | inl below ↦ before.right told n below
            | inr up ↦ subst (λ (d : Dir). HasThreads d c.args.prefix.now n) same (now (up, less))
          ];
    }

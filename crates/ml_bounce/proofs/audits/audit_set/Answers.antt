use Rattle.std.proofs.Common.{◌≡◌, ℕ, subst, rules, arith, IsErrOf}
use Rattle.ml_base.specs.Dir.{Dir}
use Rattle.ml_base.specs.PartErrors.{OnDamaged}
use Rattle.ml_base.specs.declared.part_error.PartError.TheVariants.{Fault}
use Rattle.ml_base.proofs.DamagedNames.{on_damaged, on_both}
use Rattle.ml_base.proofs.ReadingLemmas.{kept_self, kept_then, kept_read, reading_then}
use Rattle.ml_bounce.specs.Answers.{IsBadFile, IsFileName, IsNoFile, ledger_kind}
use Rattle.ml_bounce.specs.Files.{IsLedgerFile, ledger_name}
use Rattle.ml_bounce.proofs.Collecting.{Files, files_none, files_more, ledger_of_files}
use Rattle.ml_bounce.proofs.audits.audit_set.Goals as goal

pub loop-n-init : goal.loop-n-init
loop-n-init g c = record {
  read = kept_self g.F.Files g.met.F.Files.kept_self c.args.files.now;
  found = λ told. files_none (g.F.Files.map c.args.files.now) c.args.set;
}

pub loop-n-preserved : goal.loop-n-preserved
loop-n-preserved g c =
    let before = c.loop-n.invariant in
    record {
      read = kept_then g.F.Files g.met.F.Files.kept_then c.args.files.now c.loop-n.files c.read_bucket.new.files before.read (kept_read g.F.Files c.loop-n.files c.read_bucket.new.files c.read_bucket.result c.read_bucket.ensures.reads);
      found = λ told.
          let same = g.met.F.Files.kept_map c.args.files.now c.loop-n.files told before.read.kept in
          files_more (g.F.Files.map c.args.files.now) c.args.set c.loop-n.n c.in_ok-_entries._entries (before.found told)
          (subst (λ (dir : Dir). IsLedgerFile c.loop-n.n (dir (ledger_name (ledger_kind c.args.set) c.loop-n.n)) c.in_ok-_entries._entries) same (c.in_ok-_entries.ensures.value told));
    }

pub returns-in_err-_entries-clause-names : goal.returns-in_err-_entries-clause-names
returns-in_err-_entries-clause-names g c =
    let e = c.in_err-_entries.field-0.0 in
    let failed = c.in_err-_entries.ensures.names in
    let less = c.loop-n-test.true in
    record {
      named =
          let some : OnDamaged e (IsFileName c.args.set) = on_damaged e (λ name. name ≡ ledger_name (ledger_kind c.args.set) c.loop-n.n) (IsFileName c.args.set) (λ name is. (c.loop-n.n, less, is)) failed.named in
          search rules;
      damaged = λ told.
          let dir = g.F.Files.map c.args.files.now in
          let same = g.met.F.Files.kept_map c.args.files.now c.loop-n.files told c.loop-n.invariant.read.kept in
          let none = subst (λ (dir : Dir). OnDamaged e (λ _. IsNoFile dir c.args.set c.loop-n.n)) same (failed.damaged told) in
          let bad : OnDamaged e (IsBadFile dir c.args.set) =
          on_both e (λ name. name ≡ ledger_name (ledger_kind c.args.set) c.loop-n.n) (λ _. IsNoFile dir c.args.set c.loop-n.n) (IsBadFile dir c.args.set) (λ name is none. (c.loop-n.n, less, is, none)) failed.named none in
          search rules;
    }

pub returns-in_err-_entries-clause-reads : goal.returns-in_err-_entries-clause-reads
returns-in_err-_entries-clause-reads g c =
    let read = reading_then g.F.Files g.met.F.Files.kept_then c.args.files.now c.loop-n.files c.read_bucket.new.files c.read_bucket.result c.loop-n.invariant.read c.read_bucket.ensures.reads in
    record { kept = read.kept; later = read.later; cause = λ bad. let failed : IsErrOf c.read_bucket.result Fault = search rules in read.cause failed }

pub returns-clause-value : goal.returns-clause-value
returns-clause-value g c told =
    let dir = g.F.Files.map c.args.files.now in
    let all : Files dir c.args.set 53 = subst (λ (n : ℕ). Files dir c.args.set n) (omega arith) (c.loop-n.invariant.found told) in
    ledger_of_files dir c.args.set all.0 all.1

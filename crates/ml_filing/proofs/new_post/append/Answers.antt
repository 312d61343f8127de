use Rattle.std.proofs.Common.{◌≡◌, inl, ℕ, Option, rules, subst, sym}
use Rattle.ml_base.specs.Bytes.{Text}
use Rattle.ml_base.specs.Dir.{Dir}
use Rattle.ml_base.specs.PartErrors.{OnDamaged}
use Rattle.ml_base.proofs.DamagedNames.{on_both, on_damaged}
use Rattle.ml_filing.specs.Answers.{IsAppendName, IsBadForAppend, IsNoNumber}
use Rattle.ml_filing.specs.Archive.{IsNumberFile, number_name}
use Rattle.ml_filing.specs.Reads.{IsOfNext}
use Rattle.ml_filing.specs.Subjects.{subject, subject_key}
use Rattle.ml_filing.proofs.Looking.{counted_is}
use Rattle.ml_filing.proofs.new_post.append.Goals as goal

pub returns-then-count-eq-LAST_POST_NUMBER-clause-value : goal.returns-then-count-eq-LAST_POST_NUMBER-clause-value
returns-then-count-eq-LAST_POST_NUMBER-clause-value g c told dir posts is alike =
    let file = subst (λ (n : ℕ). IsNumberFile (g.F.Files.map c.args.files.now number_name) n) c.if-count-eq-LAST_POST_NUMBER.true (c.in_ok-count.ensures.value told) in
    sym (counted_is dir posts is.filed 99_999_999 (subst (λ (f : Option Text). IsNumberFile f 99_999_999) (sym alike.number) file))

pub returns-in_err-count-clause-names : goal.returns-in_err-count-clause-names
returns-in_err-count-clause-names g c =
    let e = c.in_err-count.field-0.0 in
    let failed = c.in_err-count.ensures.names in
    record {
      named = let own : OnDamaged e IsAppendName = on_damaged e (λ name. name ≡ number_name) IsAppendName (λ name is. inl is) failed.named in search rules;
      damaged = λ told.
          let dir = g.F.Files.map c.args.files.now in
          let key = subject_key c.args.prefix.now (subject c.args.bytes.now) in
          let bad : OnDamaged e (λ name. IsBadForAppend dir name × IsOfNext dir key name) =
          on_both e (λ name. name ≡ number_name) (λ _. IsNoNumber dir) (λ name. IsBadForAppend dir name × IsOfNext dir key name) (λ name is none. (inl (is, inl none), inl is)) failed.named (failed.damaged told) in
          search rules;
    }

pub returns-in_err-txn-clause-names : goal.returns-in_err-txn-clause-names
returns-in_err-txn-clause-names g c =
    let e = c.in_err-txn.field-0.0 in
    let failed = c.in_err-txn.ensures.names in
    let key = subject_key c.args.prefix.now (subject c.args.bytes.now) in
    record {
      named = search rules;
      damaged = λ told.
          let same = g.met.F.Files.kept_map c.args.files.now c.read_count.new.files told c.read_count.ensures.reads.kept in
          let bad = subst (λ (d : Dir). OnDamaged e (λ name. IsBadForAppend d name × IsOfNext d key name)) same (failed.damaged told) in
          search rules;
    }

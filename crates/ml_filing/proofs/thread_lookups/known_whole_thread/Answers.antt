use Rattle.std.proofs.Common.{◌≡◌, sym, subst, rules}
use Rattle.ml_base.specs.Bytes.{Text}
use Rattle.ml_base.specs.Dir.{Dir}
use Rattle.ml_base.specs.PartErrors.{OnDamaged}
use Rattle.ml_base.proofs.DamagedNames.{on_damaged, on_both}
use Rattle.ml_base.proofs.ReadingLemmas.{reading_ok}
use Rattle.ml_filing.specs.Answers.{AreNumbersByFiles, IsBadForEntry, IsBadForKnown, IsBadThreads, IsKeyByFiles, IsPostName, IsThreadName}
use Rattle.ml_filing.specs.Threads.{thread_name, thread_place}
use Rattle.ml_filing.proofs.Threaded.{key_named, key_bad, row_named, row_bad}
use Rattle.ml_filing.proofs.Calls.{kept_by, kept_on, read_on}
use Rattle.ml_filing.proofs.thread_lookups.known_whole_thread.Goals as goal

pub returns-in_err-key-clause-names : goal.returns-in_err-key-clause-names
returns-in_err-key-clause-names g c =
    let e = c.in_err-key.field-0.0 in
    let failed = c.in_err-key.ensures.names in
    let n = c.args.n in
    let prefix = c.args.prefix.now in
    record {
      named = let own : OnDamaged e IsThreadName = on_damaged e (IsPostName n) IsThreadName (λ name is. key_named n name c.requires.few is) failed.named in search rules;
      damaged = λ told.
          let dir = g.F.Files.map c.args.files.now in
          let bad : OnDamaged e (IsBadForKnown dir prefix n) = on_damaged e (IsBadForEntry dir n) (IsBadForKnown dir prefix n) (λ name is. key_bad dir prefix n name c.requires.few is) (failed.damaged told) in
          search rules;
    }

pub returns-in_err-numbers-clause-names : goal.returns-in_err-numbers-clause-names
returns-in_err-numbers-clause-names g c =
    let e = c.in_err-numbers.field-0.0 in
    let failed = c.in_err-numbers.ensures.names in
    let k = c.as_slice.result.now in
    let n = c.args.n in
    let prefix = c.args.prefix.now in
    record {
      named = let own : OnDamaged e IsThreadName = on_damaged e (λ name. name ≡ thread_name (thread_place k)) IsThreadName (λ name is. row_named k name is) failed.named in search rules;
      damaged = λ told.
          let dir = g.F.Files.map c.args.files.now in
          let same = g.met.F.Files.kept_map c.args.files.now c.key_for.new.files told c.key_for.ensures.reads.kept in
          let key = subst (λ (k : Text). IsKeyByFiles dir prefix n k) (sym c.as_slice.ensures) (c.in_ok-key.ensures.value told) in
          let bad : OnDamaged e (IsBadForKnown dir prefix n) =
          on_both e (λ name. name ≡ thread_name (thread_place k)) (λ _. IsBadThreads dir k n) (IsBadForKnown dir prefix n) (λ name is bad. row_bad dir prefix k n name key is bad) failed.named
          (subst (λ (d : Dir). OnDamaged e (λ _. IsBadThreads d k n)) same (failed.damaged told)) in
          search rules;
    }

pub returns-in_err-numbers-clause-reads : goal.returns-in_err-numbers-clause-reads
returns-in_err-numbers-clause-reads g c =
    let on = g.met.F.Files.kept_then in
    let read = read_on on (kept_by c.key_for.ensures.reads) c.numbers_with.ensures.reads in
    search rules

pub returns-clause-reads : goal.returns-clause-reads
returns-clause-reads g c = let on = g.met.F.Files.kept_then in reading_ok g.F.Files _ _ _ (kept_on on (kept_by c.key_for.ensures.reads) c.numbers_with.ensures.reads)

pub returns-clause-value : goal.returns-clause-value
returns-clause-value g c told =
    let dir = g.F.Files.map c.args.files.now in
    let n = c.args.n in
    let numbers = c.in_ok-numbers.numbers in
    let same = g.met.F.Files.kept_map c.args.files.now c.key_for.new.files told c.key_for.ensures.reads.kept in (
      c.in_ok-key.ensures.value told,
      subst (λ (k : Text). AreNumbersByFiles dir k n numbers) c.as_slice.ensures (subst (λ (d : Dir). AreNumbersByFiles d c.as_slice.result.now n numbers) same (c.in_ok-numbers.ensures.value told)),
    )

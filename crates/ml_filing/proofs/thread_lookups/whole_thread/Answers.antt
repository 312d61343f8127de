use Rattle.std.proofs.Common.{◌≡◌, arith, rules, subst, inl, inr}
use Rattle.ml_base.specs.Dir.{Dir}
use Rattle.ml_base.specs.PartErrors.{OnDamaged}
use Rattle.ml_base.proofs.DamagedNames.{on_damaged, on_both}
use Rattle.ml_filing.specs.Answers.{AreIndexes, IsBadForKnown, IsWholeByFiles, IsBadForThread, IsNoNumber, IsThreadName}
use Rattle.ml_filing.proofs.Looking.{counted_is}
use Rattle.ml_filing.proofs.Threaded.{no_bad_known, whole_is, whole_none, known_bad}
use Rattle.ml_filing.specs.Archive.{number_name}
use Rattle.ml_filing.proofs.thread_lookups.whole_thread.Goals as goal
use Rattle.ml_base.proofs.ReadingLemmas.{reading_ok}
use Rattle.ml_filing.proofs.Calls.{kept_by, kept_on, read_on}
use Rattle.ml_filing.proofs.thread_lookups.whole_thread.Goals.{then-n-eq0-via-then-n-eq0, then-n-eq0-via-else-n-eq0+then-n-count}

pub returns-then-n-eq0-clause-value : goal.returns-then-n-eq0-clause-value
returns-then-n-eq0-clause-value g c told posts is =
    let dir = g.F.Files.map c.args.files.now in
    let counted = c.in_ok-count.ensures.value told in
    elim c.then-n-eq0.branch [
      | then-n-eq0-via-then-n-eq0 w ↦ whole_none dir c.args.prefix.now posts c.args.n c.in_ok-count.count is counted (inl w.if-n-eq0.true)
      | then-n-eq0-via-else-n-eq0+then-n-count w ↦ whole_none dir c.args.prefix.now posts c.args.n c.in_ok-count.count is counted (inr w.if-n-count.true)
    ]

pub returns-in_err-known_whole_thread-clause-sound : goal.returns-in_err-known_whole_thread-clause-sound
returns-in_err-known_whole_thread-clause-sound g c told posts is =
    let dir = g.F.Files.map c.args.files.now in
    let e = c.in_err-known_whole_thread.field-0.0 in
    let same = g.met.F.Files.kept_map c.args.files.now c.read_count.new.files told c.read_count.ensures.reads.kept in
    let zero = c.if-n-eq0.false in
    let past = c.if-n-count.false in
    let count = counted_is dir posts is.filed c.in_ok-count.count (c.in_ok-count.ensures.value told) in
    let none : OnDamaged e (λ _. ⊥) =
    on_damaged e (IsBadForKnown dir c.args.prefix.now c.args.n) (λ _. ⊥) (λ name bad. no_bad_known dir c.args.prefix.now posts is c.args.n (omega (arith, zero)) (omega (arith, past, count)) name bad)
    (subst (λ (d : Dir). OnDamaged e (IsBadForKnown d c.args.prefix.now c.args.n)) same (c.in_err-known_whole_thread.ensures.names.damaged told)) in
    search rules

pub returns-clause-value : goal.returns-clause-value
returns-clause-value g c told posts is =
    let dir = g.F.Files.map c.args.files.now in
    let t = c.in_ok-known_whole_thread.field-0 in
    let same = g.met.F.Files.kept_map c.args.files.now c.read_count.new.files told c.read_count.ensures.reads.kept in
    let zero = c.if-n-eq0.false in
    let past = c.if-n-count.false in
    let count = counted_is dir posts is.filed c.in_ok-count.count (c.in_ok-count.ensures.value told) in
    whole_is dir c.args.prefix.now posts c.args.n t is (omega (arith, zero)) (omega (arith, past, count)) (subst (λ (d : Dir). IsWholeByFiles d c.args.prefix.now c.args.n t) same (c.in_ok-known_whole_thread.ensures.value told))

pub returns-clause-read : goal.returns-clause-read
returns-clause-read g c told =
    let t = c.in_ok-known_whole_thread.field-0 in
    let same = g.met.F.Files.kept_map c.args.files.now c.read_count.new.files told c.read_count.ensures.reads.kept in
    let zero = c.if-n-eq0.false in
    let past = c.if-n-count.false in
    ((c.in_ok-count.count, c.in_ok-count.ensures.value told, omega (arith, zero), omega (arith, past)), subst (λ (d : Dir). IsWholeByFiles d c.args.prefix.now c.args.n t) same (c.in_ok-known_whole_thread.ensures.value told))

pub returns-clause-known : goal.returns-clause-known
returns-clause-known g c told =
    let same = g.met.F.Files.kept_map c.args.files.now c.read_count.new.files told c.read_count.ensures.reads.kept in
    subst (λ (d : Dir). AreIndexes d c.known_whole_thread.new.indexes) same (c.in_ok-known_whole_thread.ensures.known told)

pub returns-in_err-known_whole_thread-clause-reads : goal.returns-in_err-known_whole_thread-clause-reads
returns-in_err-known_whole_thread-clause-reads g c =
    let on = g.met.F.Files.kept_then in
    let read = read_on on (kept_by c.read_count.ensures.reads) c.known_whole_thread.ensures.reads in
    search rules

pub returns-clause-reads : goal.returns-clause-reads
returns-clause-reads g c = let on = g.met.F.Files.kept_then in reading_ok g.F.Files _ _ _ (kept_on on (kept_by c.read_count.ensures.reads) c.known_whole_thread.ensures.reads)

pub returns-in_err-count-clause-names : goal.returns-in_err-count-clause-names
returns-in_err-count-clause-names g c =
    let e = c.in_err-count.field-0.0 in
    let failed = c.in_err-count.ensures.names in
    record {
      named = let own : OnDamaged e IsThreadName = on_damaged e (λ name. name ≡ number_name) IsThreadName (λ name is. inl is) failed.named in search rules;
      damaged = λ told.
          let dir = g.F.Files.map c.args.files.now in
          let bad : OnDamaged e (IsBadForThread dir c.args.prefix.now c.args.n) =
          on_both e (λ name. name ≡ number_name) (λ _. IsNoNumber dir) (IsBadForThread dir c.args.prefix.now c.args.n) (λ name is none. inl (is, inl none)) failed.named (failed.damaged told) in
          search rules;
    }

pub returns-in_err-known_whole_thread-clause-names : goal.returns-in_err-known_whole_thread-clause-names
returns-in_err-known_whole_thread-clause-names g c =
    let e = c.in_err-known_whole_thread.field-0.0 in
    let failed = c.in_err-known_whole_thread.ensures.names in
    let n = c.args.n in
    let prefix = c.args.prefix.now in
    let zero = c.if-n-eq0.false in
    let past = c.if-n-count.false in
    record {
      named = let own : OnDamaged e IsThreadName = failed.named in search rules;
      damaged = λ told.
          let dir = g.F.Files.map c.args.files.now in
          let same = g.met.F.Files.kept_map c.args.files.now c.read_count.new.files told c.read_count.ensures.reads.kept in
          let bad : OnDamaged e (IsBadForThread dir prefix n) =
          on_damaged e (IsBadForKnown dir prefix n) (IsBadForThread dir prefix n) (λ name is. known_bad dir prefix n c.in_ok-count.count name (c.in_ok-count.ensures.value told) (omega (arith, zero)) (omega (arith, past)) is)
          (subst (λ (d : Dir). OnDamaged e (IsBadForKnown d prefix n)) same (failed.damaged told)) in
          search rules;
    }

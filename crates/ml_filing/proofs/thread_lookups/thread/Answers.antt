use Rattle.std.proofs.Common.{◌≡◌, ◌≤◌, ◌∙◌, ℕ, List, arith, rules, subst, sym, inl, inr}
use Rattle.std.proofs.lemmas.Result.{IfOk-weaker}
use Rattle.ml_base.specs.Dir.{Dir}
use Rattle.std.specs.List.{AllByRecursion}
use Rattle.ml_base.specs.PartErrors.{OnDamaged}
use Rattle.ml_base.proofs.DamagedNames.{err_damaged, on_both, on_damaged}
use Rattle.ml_filing.specs.Answers.{IsBadForKnown, IsBadForThread, IsNoNumber, IsThreadName}
use Rattle.ml_filing.specs.Archive.{number_name}
use Rattle.ml_filing.specs.Reads.{IsOfSubject, IsOfThread}
use Rattle.ml_filing.specs.Threads.{IsThreadByFiles}
use Rattle.ml_filing.proofs.Asked.{none_among}
use Rattle.ml_filing.proofs.ByFiles.{threads_same}
use Rattle.ml_filing.proofs.Looking.{counted_is}
use Rattle.ml_filing.proofs.Threaded.{known_bad, no_bad_known, thread_none}
use Rattle.ml_filing.proofs.thread_lookups.thread.Goals as goal
use Rattle.ml_filing.proofs.Calls.{kept_by, read_on}
use Rattle.ml_filing.proofs.thread_lookups.thread.Goals.{then-n-eq0-via-then-n-eq0, then-n-eq0-via-else-n-eq0+then-n-count}

pub returns-then-n-eq0-clause-value : goal.returns-then-n-eq0-clause-value
returns-then-n-eq0-clause-value g c told posts is =
    let dir = g.F.Files.map c.args.files.now in
    let counted = c.in_ok-count.ensures.value told in
    elim c.then-n-eq0.branch [
      | then-n-eq0-via-then-n-eq0 w ↦ c.new.ensures ∙ thread_none dir c.args.prefix.now posts c.args.n c.in_ok-count.count is counted (inl w.if-n-eq0.true)
      | then-n-eq0-via-else-n-eq0+then-n-count w ↦ c.new.ensures ∙ thread_none dir c.args.prefix.now posts c.args.n c.in_ok-count.count is counted (inr w.if-n-count.true)
    ]

pub returns-clause-value : goal.returns-clause-value
returns-clause-value g c told posts is =
    let dir = g.F.Files.map c.args.files.now in
    let same = g.met.F.Files.kept_map c.args.files.now c.read_count.new.files told c.read_count.ensures.reads.kept in
    let zero = c.if-n-eq0.false in
    let past = c.if-n-count.false in
    let count = counted_is dir posts is.filed c.in_ok-count.count (c.in_ok-count.ensures.value told) in
    IfOk-weaker _ _ _
    (λ answer by. threads_same dir c.args.prefix.now posts c.args.n answer is (omega (arith, zero)) (omega (arith, past, count)) (subst (λ (d : Dir). IsThreadByFiles d c.args.prefix.now c.args.n answer) same by))
    (c.known_thread.ensures.value told)

pub returns-clause-names : goal.returns-clause-names
returns-clause-names g c = record {
  named = c.known_thread.ensures.names.named;
  damaged = λ told.
      let dir = g.F.Files.map c.args.files.now in
      let same = g.met.F.Files.kept_map c.args.files.now c.read_count.new.files told c.read_count.ensures.reads.kept in
      let zero = c.if-n-eq0.false in
      let past = c.if-n-count.false in
      let prefix = c.args.prefix.now in
      let n = c.args.n in
      err_damaged c.known_thread.result (λ name. IsBadForKnown (g.F.Files.map c.read_count.new.files) prefix n name × IsOfThread (g.F.Files.map c.read_count.new.files) prefix n name) (λ name. IsBadForThread dir prefix n name × IsOfThread dir prefix n name)
      (λ name bad. (
        known_bad dir prefix n c.in_ok-count.count name (c.in_ok-count.ensures.value told) (omega (arith, zero)) (omega (arith, past)) (subst (λ (d : Dir). IsBadForKnown d prefix n name) same bad.0),
        subst (λ (d : Dir). IsOfThread d prefix n name) same bad.1,
      ))
      (c.known_thread.ensures.names.damaged told);
}

pub returns-clause-sound : goal.returns-clause-sound
returns-clause-sound g c told posts is =
    let dir = g.F.Files.map c.args.files.now in
    let same = g.met.F.Files.kept_map c.args.files.now c.read_count.new.files told c.read_count.ensures.reads.kept in
    let zero = c.if-n-eq0.false in
    let past = c.if-n-count.false in
    let count = counted_is dir posts is.filed c.in_ok-count.count (c.in_ok-count.ensures.value told) in
    err_damaged c.known_thread.result (λ name. IsBadForKnown (g.F.Files.map c.read_count.new.files) c.args.prefix.now c.args.n name × IsOfThread (g.F.Files.map c.read_count.new.files) c.args.prefix.now c.args.n name) (λ _. ⊥)
    (λ name bad. no_bad_known dir c.args.prefix.now posts is c.args.n (omega (arith, zero)) (omega (arith, past, count)) name (subst (λ (d : Dir). IsBadForKnown d c.args.prefix.now c.args.n name) same bad.0))
    (c.known_thread.ensures.names.damaged told)

pub returns-in_err-count-clause-names : goal.returns-in_err-count-clause-names
returns-in_err-count-clause-names g c =
    let e = c.in_err-count.field-0.0 in
    let failed = c.in_err-count.ensures.names in
    let n = c.args.n in
    let prefix = c.args.prefix.now in
    record {
      named = let own : OnDamaged e IsThreadName = on_damaged e (λ name. name ≡ number_name) IsThreadName (λ name is. inl is) failed.named in search rules;
      damaged = λ told.
          let dir = g.F.Files.map c.args.files.now in
          let bad : OnDamaged e (λ name. IsBadForThread dir prefix n name × IsOfThread dir prefix n name) =
          on_both e (λ name. name ≡ number_name) (λ _. IsNoNumber dir) (λ name. IsBadForThread dir prefix n name × IsOfThread dir prefix n name) (λ name is bad. (inl (is, inl bad), inl (inl is))) failed.named (failed.damaged told) in
          search rules;
    }

pub returns-then-n-eq0-clause-among : goal.returns-then-n-eq0-clause-among
returns-then-n-eq0-clause-among g c told m among = absurd (none_among c.new.result m c.new.ensures among)

pub returns-then-n-eq0-clause-few : goal.returns-then-n-eq0-clause-few
returns-then-n-eq0-clause-few g c = subst (λ (ns : List ℕ). AllByRecursion (λ m. m ≤ 99_999_999) ns) (sym c.new.ensures) tt

pub returns-clause-among : goal.returns-clause-among
returns-clause-among g c told =
    let same = g.met.F.Files.kept_map c.args.files.now c.read_count.new.files told c.read_count.ensures.reads.kept in
    IfOk-weaker c.known_thread.result _ _ (λ answer each m among. subst (λ (d : Dir). IsOfSubject d c.args.prefix.now c.args.n m) same (each m among)) (c.known_thread.ensures.among told)

pub returns-clause-reads : goal.returns-clause-reads
returns-clause-reads g c = read_on g.met.F.Files.kept_then (kept_by c.read_count.ensures.reads) c.known_thread.ensures.reads

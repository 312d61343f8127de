use Rattle.std.proofs.Common.{◌≡◌, ◌≤◌, ◌∙◌, ap, sym, subst, rules, inl, ℕ, List, inr}
use Rattle.std.specs.List.{AllByRecursion, IsAmong}
use Rattle.ml_base.specs.PartErrors.{OnDamaged}
use Rattle.ml_base.proofs.DamagedNames.{on_damaged}
use Rattle.ml_filing.specs.Answers.{IsBadThreads, IsNoThreads}
use Rattle.ml_filing.specs.Threads.{IsThreadFile, numbers_under, thread_name, thread_place}
use Rattle.ml_filing.proofs.Threaded.{any_among, under_few, among_any}
use Rattle.std.proofs.lemmas.Bool.{false≢true}
use Rattle.ml_filing.proofs.thread_lookups.numbers_with.Goals as goal

pub returns-in_err-threads-clause-names : goal.returns-in_err-threads-clause-names
returns-in_err-threads-clause-names g c =
    let e = c.in_err-threads.field-0.0 in
    let failed = c.in_err-threads.ensures.names in
    let k = c.args.key.now in
    let place_is = c.thread_place_of-place.ensures in
    record {
      named = let own : OnDamaged e (λ name. name ≡ thread_name (thread_place k)) = subst (λ (p : ℕ). OnDamaged e (λ name. name ≡ thread_name p)) place_is failed.named in search rules;
      damaged = λ told.
          let dir = g.F.Files.map c.args.files.now in
          let bad : OnDamaged e (λ _. IsBadThreads dir k c.args.n) =
          on_damaged e (λ _. IsNoThreads dir (thread_place k)) (λ _. IsBadThreads dir k c.args.n) (λ name none. inl none) (subst (λ (p : ℕ). OnDamaged e (λ _. IsNoThreads dir p)) place_is (failed.damaged told)) in
          search rules;
    }

pub returns-clause-value : goal.returns-clause-value
returns-clause-value g c told =
    let k = c.args.key.now in
    let dir = g.F.Files.map c.args.files.now in
    let numbers = c.numbers_for-numbers.result.now in
    let under : numbers ≡ numbers_under k c.in_ok-threads.threads = c.numbers_for-numbers.ensures ∙ ap (numbers_under k) c.as_slice.ensures in (
      c.in_ok-threads.threads,
      subst (λ (p : ℕ). IsThreadFile p (dir (thread_name p)) c.in_ok-threads.threads) c.thread_place_of-place.ensures (c.in_ok-threads.ensures.value told),
      subst (λ (ns : List ℕ). IsAmong ns c.args.n) under (any_among c.args.n numbers (sym c.has_number.ensures ∙ c.if-not-has_number.false)),
      c.from_vec.ensures ∙ c.in_ok-from_slice.ensures.items ∙ under,
    )

pub returns-clause-few : goal.returns-clause-few
returns-clause-few g c =
    let k = c.args.key.now in
    let numbers = c.numbers_for-numbers.result.now in
    let under : numbers ≡ numbers_under k c.in_ok-threads.threads = c.numbers_for-numbers.ensures ∙ ap (numbers_under k) c.as_slice.ensures in
    subst (λ (ns : List ℕ). AllByRecursion (λ m. m ≤ 99_999_999) ns) (sym (c.from_vec.ensures ∙ c.in_ok-from_slice.ensures.items ∙ under))
    (under_few c.thread_place_of-place.result k c.in_ok-threads.threads c.in_ok-threads.ensures.each)

pub returns-then-not-has_number-clause-names : goal.returns-then-not-has_number-clause-names
returns-then-not-has_number-clause-names g c =
    let k = c.args.key.now in
    let place_is = c.thread_place_of-place.ensures in
    let numbers = c.numbers_for-numbers.result.now in
    let under : numbers ≡ numbers_under k c.in_ok-threads.threads = c.numbers_for-numbers.ensures ∙ ap (numbers_under k) c.as_slice.ensures in
    record {
      named = c.threads-then-not-has_number.ensures.name ∙ ap thread_name place_is;
      damaged = λ told.
          inr (
            c.in_ok-threads.threads,
            subst (λ (p : ℕ). IsThreadFile p (g.F.Files.map c.args.files.now (thread_name p)) c.in_ok-threads.threads) place_is (c.in_ok-threads.ensures.value told),
            λ among. false≢true (sym c.if-not-has_number.true ∙ c.has_number.ensures ∙ among_any c.args.n numbers (subst (λ (ns : List ℕ). IsAmong ns c.args.n) (sym under) among)),
          );
    }

use Rattle.std.proofs.Common.{◌≡◌, ◌≤◌, ◌∙◌, ℕ, List, true, Option, Some, length, ap, sym, subst, rules, arith, inr}
use Rattle.std.specs.Prelude.{IfSome}
use Rattle.std.specs.List.{AllByRecursion}
use Rattle.std.proofs.lemmas.Bool.{eqb-true, eqb-false}
use Rattle.ml_base.specs.Bytes.{Text}
use Rattle.ml_base.specs.Dir.{Dir}
use Rattle.ml_base.specs.PartErrors.{OnDamaged}
use Rattle.ml_base.proofs.DamagedNames.{on_damaged}
use Rattle.ml_base.proofs.ReadingLemmas.{kept_then, kept_read}
use Rattle.ml_filing.specs.Answers.{AreIndexes, IsBadForRow, IsBadForThread, IsRowName, IsThreadName, IsWholeAnswer}
use Rattle.ml_filing.specs.Archive.{ArePosts}
use Rattle.ml_filing.specs.Threads.{IsArchive, whole_thread, thread_name, thread_place}
use Rattle.ml_filing.specs.declared.posts.Thread.{Thread}
use Rattle.ml_filing.proofs.Looking.{counted_is}
use Rattle.ml_filing.proofs.Threaded.{no_bad_known, sizes_named}
use Rattle.ml_pages.specs.Counting.{is_first}
use Rattle.ml_pages.specs.Pages.{on_page, thread_title, title}
use Rattle.ml_pages.specs.Parts.{page_around}
use Rattle.ml_pages.proofs.Listed.{page_bad, page_few, thread_empty, thread_filled}
use Rattle.ml_pages.proofs.Reading.{page_empty, page_of_another, page_there}
use Rattle.ml_pages.proofs.thread_pages.thread_page.Goals as goal

pub thread_lines-requires-clause-few : goal.thread_lines-requires-clause-few
thread_lines-requires-clause-few g c =
    let dir = g.F.Files.map c.args.files.now in
    let prefix = c.args.config.now.prefix in
    let t = c.in-Some.thread in
    let first = c.args.first in
    let page = c.args.page in
    let row = c.on_page-numbers.result.now in
    let cut : row ≡ on_page page t.numbers = c.on_page-numbers.ensures ∙ ap (on_page page) c.as_slice-3.ensures in
    let few = subst (λ (o : Option Thread). IfSome o (λ (t : Thread). AllByRecursion (λ (m : ℕ). m ≤ 99_999_999) t.numbers)) c.in-Some.is c.in_ok-thread.ensures.few in
    subst (λ (ns : List ℕ). AllByRecursion (λ (m : ℕ). m ≤ 99_999_999) ns) (sym cut) (page_few page t.numbers few)

pub thread_lines-requires-clause-known : goal.thread_lines-requires-clause-known
thread_lines-requires-clause-known g c told =
    let same = g.met.F.Files.kept_map c.args.files.now c.whole_thread.new.files told c.whole_thread.ensures.reads.kept in
    subst (λ (d : Dir). AreIndexes d c.whole_thread.new.indexes) (sym same) (c.in_ok-thread.ensures.known told)

pub returns-then-is_empty-clause-value : goal.returns-then-is_empty-clause-value
returns-then-is_empty-clause-value g c told posts is =
    let dir = g.F.Files.map c.args.files.now in
    let prefix = c.args.config.now.prefix in
    let t = c.in-Some.thread in
    let first = c.args.first in
    let page = c.args.page in
    let row = c.on_page-numbers.result.now in
    let cut : row ≡ on_page page t.numbers = c.on_page-numbers.ensures ∙ ap (on_page page) c.as_slice-3.ensures in
    let whole : Some t ≡ whole_thread prefix first posts = sym c.in-Some.is ∙ c.in_ok-thread.ensures.value told posts (subst (λ (p : Text). IsArchive dir p posts) (sym c.as_slice.ensures) is) ∙ ap (λ (p : Text). whole_thread p first posts) c.as_slice.ensures in
    let begun : is_first first t.numbers ≡ true = ap (is_first first) (sym c.as_slice-2.ensures) ∙ sym c.is_first.ensures ∙ c.if-not-is_first.false in
    thread_empty dir c.args.config.now first page posts is.filed t whole begun row cut (eqb-true (length row) 0 (sym c.is_empty.ensures ∙ c.if-is_empty.true))

pub returns-in_err-lines-clause-names : goal.returns-in_err-lines-clause-names
returns-in_err-lines-clause-names g c =
    let e = c.in_err-lines.field-0.0 in
    let failed = c.in_err-lines.ensures.names in
    let dir = g.F.Files.map c.args.files.now in
    let prefix = c.args.config.now.prefix in
    let t = c.in-Some.thread in
    let first = c.args.first in
    let page = c.args.page in
    let row = c.on_page-numbers.result.now in
    let cut : row ≡ on_page page t.numbers = c.on_page-numbers.ensures ∙ ap (on_page page) c.as_slice-3.ensures in
    let missing = c.threads-missing.result in
    let missing_is : missing ≡ thread_name (thread_place t.key) = c.threads-missing.ensures.name ∙ ap thread_name (c.thread_place_of.ensures ∙ ap thread_place c.as_slice-4.ensures) in
    record {
      named = let own : OnDamaged e IsThreadName = on_damaged e (IsRowName missing) IsThreadName (λ name is. sizes_named t.key missing name missing_is is) failed.named in search rules;
      damaged = λ told.
          let same = g.met.F.Files.kept_map c.args.files.now c.whole_thread.new.files told c.whole_thread.ensures.reads.kept in
          let answer : IsWholeAnswer dir prefix first (Some t) = subst (λ (o : Option Thread). IsWholeAnswer dir prefix first o) c.in-Some.is (subst (λ (p : Text). IsWholeAnswer dir p first c.in_ok-thread.field-0) c.as_slice.ensures (c.in_ok-thread.ensures.read told)) in
          let bad : OnDamaged e (IsBadForThread dir prefix first) =
          on_damaged e (IsBadForRow dir missing row) (IsBadForThread dir prefix first) (λ name b. inr (page_bad dir prefix first page t row missing name missing_is cut answer.1 b))
          (subst (λ (d : Dir). OnDamaged e (IsBadForRow d missing row)) same (failed.damaged told)) in
          search rules;
    }

pub returns-in_err-lines-clause-sound : goal.returns-in_err-lines-clause-sound
returns-in_err-lines-clause-sound g c told posts is =
    let e = c.in_err-lines.field-0.0 in
    let failed = c.in_err-lines.ensures.names in
    let dir = g.F.Files.map c.args.files.now in
    let prefix = c.args.config.now.prefix in
    let t = c.in-Some.thread in
    let first = c.args.first in
    let page = c.args.page in
    let row = c.on_page-numbers.result.now in
    let cut : row ≡ on_page page t.numbers = c.on_page-numbers.ensures ∙ ap (on_page page) c.as_slice-3.ensures in
    let missing = c.threads-missing.result in
    let missing_is : missing ≡ thread_name (thread_place t.key) = c.threads-missing.ensures.name ∙ ap thread_name (c.thread_place_of.ensures ∙ ap thread_place c.as_slice-4.ensures) in
    let same = g.met.F.Files.kept_map c.args.files.now c.whole_thread.new.files told c.whole_thread.ensures.reads.kept in
    let answer : IsWholeAnswer dir prefix first (Some t) = subst (λ (o : Option Thread). IsWholeAnswer dir prefix first o) c.in-Some.is (subst (λ (p : Text). IsWholeAnswer dir p first c.in_ok-thread.field-0) c.as_slice.ensures (c.in_ok-thread.ensures.read told)) in
    let count = counted_is dir posts is.filed answer.0.0 answer.0.1 in
    let low = answer.0.2 in
    let high = answer.0.3 in
    let none : OnDamaged e (λ _. ⊥) =
    on_damaged e (IsBadForRow dir missing row) (λ _. ⊥) (λ name b. no_bad_known dir prefix posts is first low (omega (arith, high, count)) name (inr (page_bad dir prefix first page t row missing name missing_is cut answer.1 b)))
    (subst (λ (d : Dir). OnDamaged e (IsBadForRow d missing row)) same (failed.damaged told)) in
    search rules

pub returns-in_err-thread_text-clause-reads : goal.returns-in_err-thread_text-clause-reads
returns-in_err-thread_text-clause-reads g c =
    let all =
    kept_then g.F.Files g.met.F.Files.kept_then c.args.files.now c.whole_thread.new.files c.thread_lines.new.files
    (kept_read g.F.Files c.args.files.now c.whole_thread.new.files c.whole_thread.result c.whole_thread.ensures.reads)
    (kept_read g.F.Files c.whole_thread.new.files c.thread_lines.new.files c.thread_lines.result c.thread_lines.ensures.reads) in
    record { kept = all.kept; later = all.later; cause = λ bad. absurd (search rules) }

pub returns-clause-value : goal.returns-clause-value
returns-clause-value g c told posts is =
    let dir = g.F.Files.map c.args.files.now in
    let prefix = c.args.config.now.prefix in
    let t = c.in-Some.thread in
    let first = c.args.first in
    let page = c.args.page in
    let row = c.on_page-numbers.result.now in
    let cut : row ≡ on_page page t.numbers = c.on_page-numbers.ensures ∙ ap (on_page page) c.as_slice-3.ensures in
    let whole : Some t ≡ whole_thread prefix first posts = sym c.in-Some.is ∙ c.in_ok-thread.ensures.value told posts (subst (λ (p : Text). IsArchive dir p posts) (sym c.as_slice.ensures) is) ∙ ap (λ (p : Text). whole_thread p first posts) c.as_slice.ensures in
    let begun : is_first first t.numbers ≡ true = ap (is_first first) (sym c.as_slice-2.ensures) ∙ sym c.is_first.ensures ∙ c.if-not-is_first.false in
    let same = g.met.F.Files.kept_map c.args.files.now c.whole_thread.new.files told c.whole_thread.ensures.reads.kept in
    thread_filled dir c.args.config.now first page posts is.filed t whole begun row cut c.in_ok-lines.lines c.in_ok-thread_text.field-0
    (c.in_ok-lines.ensures.value told posts (subst (λ (d : Dir). ArePosts d posts) (sym same) is.filed))
    (eqb-false (length row) 0 (sym c.is_empty.ensures ∙ c.if-is_empty.false))
    (c.in_ok-thread_text.ensures ∙ ap (λ (l : Text). page_around (title c.args.config.now (thread_title first)) l) c.as_slice-5.ensures)

pub returns-then-not-is_first-clause-read : goal.returns-then-not-is_first-clause-read
returns-then-not-is_first-clause-read g c told =
    let dir = g.F.Files.map c.args.files.now in
    let prefix = c.args.config.now.prefix in
    let t = c.in-Some.thread in
    let first = c.args.first in
    let page = c.args.page in
    let answer : IsWholeAnswer dir prefix first (Some t) = subst (λ (o : Option Thread). IsWholeAnswer dir prefix first o) c.in-Some.is (subst (λ (p : Text). IsWholeAnswer dir p first c.in_ok-thread.field-0) c.as_slice.ensures (c.in_ok-thread.ensures.read told)) in
    (Some t, answer, page_of_another first page t (ap (is_first first) (sym c.as_slice-2.ensures) ∙ sym c.is_first.ensures ∙ c.if-not-is_first.true))

pub returns-then-is_empty-clause-read : goal.returns-then-is_empty-clause-read
returns-then-is_empty-clause-read g c told =
    let dir = g.F.Files.map c.args.files.now in
    let prefix = c.args.config.now.prefix in
    let t = c.in-Some.thread in
    let first = c.args.first in
    let page = c.args.page in
    let answer : IsWholeAnswer dir prefix first (Some t) = subst (λ (o : Option Thread). IsWholeAnswer dir prefix first o) c.in-Some.is (subst (λ (p : Text). IsWholeAnswer dir p first c.in_ok-thread.field-0) c.as_slice.ensures (c.in_ok-thread.ensures.read told)) in
    let row = c.on_page-numbers.result.now in
    let cut : row ≡ on_page page t.numbers = c.on_page-numbers.ensures ∙ ap (on_page page) c.as_slice-3.ensures in
    (Some t, answer, page_empty first page t row cut (eqb-true (length row) 0 (sym c.is_empty.ensures ∙ c.if-is_empty.true)))

pub returns-clause-read : goal.returns-clause-read
returns-clause-read g c told =
    let dir = g.F.Files.map c.args.files.now in
    let prefix = c.args.config.now.prefix in
    let t = c.in-Some.thread in
    let first = c.args.first in
    let page = c.args.page in
    let answer : IsWholeAnswer dir prefix first (Some t) = subst (λ (o : Option Thread). IsWholeAnswer dir prefix first o) c.in-Some.is (subst (λ (p : Text). IsWholeAnswer dir p first c.in_ok-thread.field-0) c.as_slice.ensures (c.in_ok-thread.ensures.read told)) in
    let row = c.on_page-numbers.result.now in
    let cut : row ≡ on_page page t.numbers = c.on_page-numbers.ensures ∙ ap (on_page page) c.as_slice-3.ensures in
    let begun : is_first first t.numbers ≡ true = ap (is_first first) (sym c.as_slice-2.ensures) ∙ sym c.is_first.ensures ∙ c.if-not-is_first.false in
    (Some t, answer, page_there first page t row c.in_ok-thread_text.field-0 begun cut (eqb-false (length row) 0 (sym c.is_empty.ensures ∙ c.if-is_empty.false)))

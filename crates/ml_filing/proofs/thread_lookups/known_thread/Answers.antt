use Rattle.std.proofs.Common.{◌≡◌, ◌≤◌, ◌∙◌, ap, ap₂, sym, subst, ℕ, List, take, length, rules}
use Rattle.std.specs.List.{AllByRecursion, IsAmong}
use Rattle.ml_base.specs.Bytes.{Text}
use Rattle.ml_base.specs.Cuts.{one_or_within}
use Rattle.ml_base.specs.Dir.{Dir}
use Rattle.ml_base.specs.PartErrors.{OnDamaged}
use Rattle.ml_base.proofs.DamagedNames.{on_damaged, on_both}
use Rattle.ml_base.proofs.ReadingLemmas.{reading_ok}
use Rattle.ml_filing.specs.Answers.{AreSizes, IsBadForKnown, IsBadForRow, IsBadThreads, IsBadForEntry, IsKeyByFiles, IsPostName, IsRowByFiles, IsThreadName}
use Rattle.ml_filing.specs.Reads.{IsOfRow, IsOfThread}
use Rattle.ml_filing.specs.Threads.{thread_name, thread_place}
use Rattle.ml_filing.proofs.Asked.{front_all, key_known, row_files, row_known, sizes_known}
use Rattle.ml_filing.proofs.Threaded.{among_taken, key_named, row_named, thread_by_files}
use Rattle.ml_filing.proofs.Calls.{kept_by, kept_on, read_on}
use Rattle.ml_filing.proofs.thread_lookups.known_thread.Goals as goal

pub returns-in_err-row-clause-names : goal.returns-in_err-row-clause-names
returns-in_err-row-clause-names g c =
    let e = c.in_err-row.field-0.0 in
    let failed = c.in_err-row.ensures.names in
    let k = c.as_slice.result.now in
    let n = c.args.n in
    let prefix = c.args.prefix.now in
    record {
      named = let own : OnDamaged e IsThreadName = on_damaged e (λ name. name ≡ thread_name (thread_place k)) IsThreadName (λ name is. row_named k name is) failed.named in search rules;
      damaged = λ told.
          let dir = g.F.Files.map c.args.files.now in
          let same = g.met.F.Files.kept_map c.args.files.now c.key_for.new.files told c.key_for.ensures.reads.kept in
          let key = subst (λ (k : Text). IsKeyByFiles dir prefix n k) (sym c.as_slice.ensures) (c.in_ok-key.ensures.value told) in
          let bad : OnDamaged e (λ name. IsBadForKnown dir prefix n name × IsOfThread dir prefix n name) =
          on_both e (λ name. name ≡ thread_name (thread_place k)) (λ _. IsBadThreads dir k n) (λ name. IsBadForKnown dir prefix n name × IsOfThread dir prefix n name) (λ name is bad. row_known dir prefix n name k key is bad) failed.named
          (subst (λ (d : Dir). OnDamaged e (λ _. IsBadThreads d k n)) same (failed.damaged told)) in
          search rules;
    }

pub returns-in_err-sizes-clause-names : goal.returns-in_err-sizes-clause-names
returns-in_err-sizes-clause-names g c =
    let e = c.in_err-sizes.field-0.0 in
    let failed = c.in_err-sizes.ensures.names in
    let k = c.as_slice.result.now in
    let n = c.args.n in
    let prefix = c.args.prefix.now in
    let row = c.as_slice-3.result.now in
    let missing = c.threads-missing.result in
    let missing_is : missing ≡ thread_name (thread_place k) = c.threads-missing.ensures.name ∙ ap thread_name (c.thread_place_of.ensures ∙ ap thread_place (c.as_slice-2.ensures ∙ sym c.as_slice.ensures)) in
    record {
      named = let own : OnDamaged e IsThreadName = on_damaged e (IsOfRow missing row) IsThreadName (λ name is. row_files k row missing name missing_is is) failed.named in search rules;
      damaged = λ told.
          let dir = g.F.Files.map c.args.files.now in
          let first = g.met.F.Files.kept_map c.args.files.now c.key_for.new.files told c.key_for.ensures.reads.kept in
          let same = g.met.F.Files.kept_map c.key_for.new.files c.row_for.new.files told c.row_for.ensures.reads.kept ∙ first in
          let key = subst (λ (k : Text). IsKeyByFiles dir prefix n k) (sym c.as_slice.ensures) (c.in_ok-key.ensures.value told) in
          let found = subst (λ (r : List ℕ). IsRowByFiles dir k n r) (sym c.as_slice-3.ensures) (subst (λ (d : Dir). IsRowByFiles d k n c.in_ok-row.row) first (c.in_ok-row.ensures.value told)) in
          let bad : OnDamaged e (λ name. IsBadForKnown dir prefix n name × IsOfThread dir prefix n name) =
          on_both e (IsOfRow missing row) (IsBadForRow dir missing row) (λ name. IsBadForKnown dir prefix n name × IsOfThread dir prefix n name) (λ name own is. sizes_known dir prefix n name k row missing missing_is key found own is) failed.named
          (subst (λ (d : Dir). OnDamaged e (IsBadForRow d missing row)) same (failed.damaged told)) in
          search rules;
    }

pub returns-in_err-cut_by-clause-reads : goal.returns-in_err-cut_by-clause-reads
returns-in_err-cut_by-clause-reads g c =
    let on = g.met.F.Files.kept_then in
    let all = kept_on on (kept_on on (kept_by c.key_for.ensures.reads) c.row_for.ensures.reads) c.sizes_of.ensures.reads in
    record { kept = all.kept; later = all.later; cause = λ bad. absurd (search rules) }

pub returns-clause-reads : goal.returns-clause-reads
returns-clause-reads g c = let on = g.met.F.Files.kept_then in reading_ok g.F.Files _ _ _ (kept_on on (kept_on on (kept_by c.key_for.ensures.reads) c.row_for.ensures.reads) c.sizes_of.ensures.reads)

pub returns-clause-value : goal.returns-clause-value
returns-clause-value g c told =
    let k = c.as_slice.result.now in
    let n = c.args.n in
    let prefix = c.args.prefix.now in
    let row = c.as_slice-3.result.now in
    let dir = g.F.Files.map c.args.files.now in
    let first = g.met.F.Files.kept_map c.args.files.now c.key_for.new.files told c.key_for.ensures.reads.kept in
    let same = g.met.F.Files.kept_map c.key_for.new.files c.row_for.new.files told c.row_for.ensures.reads.kept ∙ first in
    let key = subst (λ (k : Text). IsKeyByFiles dir prefix n k) (sym c.as_slice.ensures) (c.in_ok-key.ensures.value told) in
    let found = subst (λ (r : List ℕ). IsRowByFiles dir k n r) (sym c.as_slice-3.ensures) (subst (λ (d : Dir). IsRowByFiles d k n c.in_ok-row.row) first (c.in_ok-row.ensures.value told)) in
    let sizes = subst (λ (d : Dir). AreSizes d row c.in_ok-sizes.sizes) same (c.in_ok-sizes.ensures.value told) in
    thread_by_files dir prefix k n row c.in_ok-sizes.sizes c.in_ok-cut_by.field-0 key found sizes
    (c.in_ok-cut_by.ensures
    ∙ ap₂ (λ (ss ns : List ℕ). take (length (one_or_within (λ (s : ℕ). s) 100 4_194_304 ss)) ns) c.as_slice-5.ensures (c.as_slice-4.ensures ∙ sym c.as_slice-3.ensures))

pub returns-in_err-key-clause-names : goal.returns-in_err-key-clause-names
returns-in_err-key-clause-names g c =
    let e = c.in_err-key.field-0.0 in
    let failed = c.in_err-key.ensures.names in
    let n = c.args.n in
    let prefix = c.args.prefix.now in
    record {
      named = let own : OnDamaged e IsThreadName = on_damaged e (IsPostName n) IsThreadName (λ name is. key_named n name c.requires is) failed.named in search rules;
      damaged = λ told.
          let dir = g.F.Files.map c.args.files.now in
          let bad : OnDamaged e (λ name. IsBadForKnown dir prefix n name × IsOfThread dir prefix n name) =
          on_both e (IsPostName n) (IsBadForEntry dir n) (λ name. IsBadForKnown dir prefix n name × IsOfThread dir prefix n name) (λ name is bad. key_known dir prefix n name c.requires is bad) failed.named (failed.damaged told) in
          search rules;
    }

pub returns-clause-few : goal.returns-clause-few
returns-clause-few g c =
    subst (λ (ns : List ℕ). AllByRecursion (λ m. m ≤ 99_999_999) ns) (sym c.in_ok-cut_by.ensures)
    (front_all (λ m. m ≤ 99_999_999) _ c.as_slice-4.result.now (subst (λ (ns : List ℕ). AllByRecursion (λ m. m ≤ 99_999_999) ns) (sym c.as_slice-4.ensures) c.in_ok-row.ensures.few))

pub returns-clause-among : goal.returns-clause-among
returns-clause-among g c told m among =
    let k = c.as_slice.result.now in
    let n = c.args.n in
    let prefix = c.args.prefix.now in
    let row = c.in_ok-row.row in
    let dir = g.F.Files.map c.args.files.now in
    let first = g.met.F.Files.kept_map c.args.files.now c.key_for.new.files told c.key_for.ensures.reads.kept in
    record {
      key = k;
      is = subst (λ (t : Text). IsKeyByFiles dir prefix n t) (sym c.as_slice.ensures) (c.in_ok-key.ensures.value told);
      row = row;
      found = subst (λ (d : Dir). IsRowByFiles d k n row) first (c.in_ok-row.ensures.value told);
      among = among_taken _ m row (subst (λ (ns : List ℕ). IsAmong ns m) (c.in_ok-cut_by.ensures ∙ ap (take _) c.as_slice-4.ensures) among);
    }

pub returns-in_err-row-clause-reads : goal.returns-in_err-row-clause-reads
returns-in_err-row-clause-reads g c =
    let on = g.met.F.Files.kept_then in
    let read = read_on on (kept_by c.key_for.ensures.reads) c.row_for.ensures.reads in
    search rules

pub returns-in_err-sizes-clause-reads : goal.returns-in_err-sizes-clause-reads
returns-in_err-sizes-clause-reads g c =
    let on = g.met.F.Files.kept_then in
    let read = read_on on (kept_on on (kept_by c.key_for.ensures.reads) c.row_for.ensures.reads) c.sizes_of.ensures.reads in
    search rules

use Rattle.std.proofs.Common.{◌≡◌, ◌≤◌, ◌/◌, arith, rules, subst, sym, ap, ◌∙◌, inl, inr}
use Rattle.ml_base.specs.Dir.{Dir}
use Rattle.ml_base.specs.PartErrors.{OnDamaged}
use Rattle.ml_base.proofs.DamagedNames.{on_damaged, on_both}
use Rattle.ml_base.proofs.ReadingLemmas.{reading_ok}
use Rattle.ml_filing.specs.Answers.{IsBadForEntry, IsBadForPost, IsEntryByFiles, IsNoNumber, IsOtherSize, IsPostName}
use Rattle.ml_filing.specs.Archive.{index_name, number_name, post_name}
use Rattle.ml_filing.proofs.Looking.{no_bad_entry, entry_bad, size_bad, right_size, post_found, post_none, post_by_files}
use Rattle.ml_filing.proofs.post_reader.post.Goals as goal
use Rattle.ml_filing.proofs.Calls.{kept_by, kept_on, read_on}
use Rattle.ml_filing.proofs.post_reader.post.Goals.{then-n-eq0-via-then-n-eq0, then-n-eq0-via-else-n-eq0+then-n-count}

pub returns-then-n-eq0-clause-value : goal.returns-then-n-eq0-clause-value
returns-then-n-eq0-clause-value g c told posts is =
    let dir = g.F.Files.map c.args.files.now in
    let counted = c.in_ok-count.ensures.value told in
    elim c.then-n-eq0.branch [
      | then-n-eq0-via-then-n-eq0 w ↦ post_none dir posts is c.args.n c.in_ok-count.count counted (inl w.if-n-eq0.true)
      | then-n-eq0-via-else-n-eq0+then-n-count w ↦ post_none dir posts is c.args.n c.in_ok-count.count counted (inr w.if-n-count.true)
    ]

pub returns-in_err-entry-clause-sound : goal.returns-in_err-entry-clause-sound
returns-in_err-entry-clause-sound g c told posts is =
    let dir = g.F.Files.map c.args.files.now in
    let e = c.in_err-entry.field-0.0 in
    let n = c.args.n in
    let zero = c.if-n-eq0.false in
    let past = c.if-n-count.false in
    let same = g.met.F.Files.kept_map c.args.files.now c.read_count.new.files told c.read_count.ensures.reads.kept in
    let none : OnDamaged e (λ _. ⊥) =
    on_damaged e (IsBadForEntry dir n) (λ _. ⊥) (λ name bad. no_bad_entry dir posts is n c.in_ok-count.count name (omega (arith, zero)) (omega (arith, past)) (c.in_ok-count.ensures.value told) bad)
    (subst (λ (d : Dir). OnDamaged e (IsBadForEntry d n)) same (c.in_err-entry.ensures.names.damaged told)) in
    search rules

pub returns-in_err-bytes-clause-sound : goal.returns-in_err-bytes-clause-sound
returns-in_err-bytes-clause-sound g c told posts is =
    let dir = g.F.Files.map c.args.files.now in
    let e = c.in_err-bytes.field-0.0 in
    let n = c.args.n in
    let zero = c.if-n-eq0.false in
    let past = c.if-n-count.false in
    let first = g.met.F.Files.kept_map c.args.files.now c.read_count.new.files told c.read_count.ensures.reads.kept in
    let same = g.met.F.Files.kept_map c.read_count.new.files c.read_entry.new.files told c.read_entry.ensures.reads.kept ∙ first in
    let entry = subst (λ (d : Dir). IsEntryByFiles d n c.in_ok-entry.entry) first (c.in_ok-entry.ensures.value told) in
    let none : OnDamaged e (λ _. ⊥) =
    on_damaged e (λ _. IsOtherSize dir n c.in_ok-entry.entry.size) (λ _. ⊥)
    (λ name bad. right_size dir posts is n c.in_ok-count.count c.in_ok-entry.entry (omega (arith, zero)) (omega (arith, past)) (c.in_ok-count.ensures.value told) entry bad)
    (subst (λ (d : Dir). OnDamaged e (λ _. IsOtherSize d n c.in_ok-entry.entry.size)) same (c.in_err-bytes.ensures.names.damaged told)) in
    search rules

pub returns-in_err-count-clause-names : goal.returns-in_err-count-clause-names
returns-in_err-count-clause-names g c =
    let e = c.in_err-count.field-0.0 in
    let failed = c.in_err-count.ensures.names in
    let n = c.args.n in
    record {
      named = let own : OnDamaged e (IsPostName n) = on_damaged e (λ name. name ≡ number_name) (IsPostName n) (λ name is. inl is) failed.named in search rules;
      damaged = λ told.
          let dir = g.F.Files.map c.args.files.now in
          let bad : OnDamaged e (IsBadForPost dir n) = on_both e (λ name. name ≡ number_name) (λ _. IsNoNumber dir) (IsBadForPost dir n) (λ name is none. inl (is, inl none)) failed.named (failed.damaged told) in
          search rules;
    }

pub returns-in_err-entry-clause-names : goal.returns-in_err-entry-clause-names
returns-in_err-entry-clause-names g c =
    let e = c.in_err-entry.field-0.0 in
    let failed = c.in_err-entry.ensures.names in
    let n = c.args.n in
    let zero = c.if-n-eq0.false in
    let past = c.if-n-count.false in
    record {
      named = let own : OnDamaged e (IsPostName n) = failed.named in search rules;
      damaged = λ told.
          let dir = g.F.Files.map c.args.files.now in
          let same = g.met.F.Files.kept_map c.args.files.now c.read_count.new.files told c.read_count.ensures.reads.kept in
          let bad : OnDamaged e (IsBadForPost dir n) =
          on_damaged e (IsBadForEntry dir n) (IsBadForPost dir n) (λ name. entry_bad dir n c.in_ok-count.count name (c.in_ok-count.ensures.value told) (omega (arith, zero)) (omega (arith, past)))
          (subst (λ (d : Dir). OnDamaged e (IsBadForEntry d n)) same (failed.damaged told)) in
          search rules;
    }

pub returns-in_err-bytes-clause-names : goal.returns-in_err-bytes-clause-names
returns-in_err-bytes-clause-names g c =
    let e = c.in_err-bytes.field-0.0 in
    let failed = c.in_err-bytes.ensures.names in
    let n = c.args.n in
    let few = c.in_ok-count.ensures.few in
    let past = c.if-n-count.false in
    let room : n ≤ 99_999_999 = omega (arith, few, past) in
    record {
      named = let own : OnDamaged e (IsPostName n) = on_damaged e (λ name. name ≡ index_name (n / 100)) (IsPostName n) (λ name is. inr (room, is)) failed.named in search rules;
      damaged = λ told.
          let dir = g.F.Files.map c.args.files.now in
          let size = c.in_ok-entry.entry.size in
          let first = g.met.F.Files.kept_map c.args.files.now c.read_count.new.files told c.read_count.ensures.reads.kept in
          let same = g.met.F.Files.kept_map c.read_count.new.files c.read_entry.new.files told c.read_entry.ensures.reads.kept ∙ first in
          let entry = subst (λ (d : Dir). IsEntryByFiles d n c.in_ok-entry.entry) first (c.in_ok-entry.ensures.value told) in
          let bad : OnDamaged e (IsBadForPost dir n) =
          on_both e (λ name. name ≡ index_name (n / 100)) (λ _. IsOtherSize dir n size) (IsBadForPost dir n) (λ name. size_bad dir n c.in_ok-entry.entry name entry) failed.named
          (subst (λ (d : Dir). OnDamaged e (λ _. IsOtherSize d n size)) same (failed.damaged told)) in
          search rules;
    }

pub returns-in_err-entry-clause-reads : goal.returns-in_err-entry-clause-reads
returns-in_err-entry-clause-reads g c =
    let on = g.met.F.Files.kept_then in
    let read = read_on on (kept_by c.read_count.ensures.reads) c.read_entry.ensures.reads in
    search rules

pub returns-clause-reads : goal.returns-clause-reads
returns-clause-reads g c = let on = g.met.F.Files.kept_then in reading_ok g.F.Files _ _ _ (kept_on on (kept_on on (kept_by c.read_count.ensures.reads) c.read_entry.ensures.reads) c.read_bytes.ensures.reads)

pub returns-in_err-bytes-clause-reads : goal.returns-in_err-bytes-clause-reads
returns-in_err-bytes-clause-reads g c =
    let on = g.met.F.Files.kept_then in
    let read = read_on on (kept_on on (kept_by c.read_count.ensures.reads) c.read_entry.ensures.reads) c.read_bytes.ensures.reads in
    search rules

pub returns-clause-value : goal.returns-clause-value
returns-clause-value g c told posts is =
    let dir = g.F.Files.map c.args.files.now in
    let n = c.args.n in
    let zero = c.if-n-eq0.false in
    let past = c.if-n-count.false in
    let first = g.met.F.Files.kept_map c.args.files.now c.read_count.new.files told c.read_count.ensures.reads.kept in
    let same = g.met.F.Files.kept_map c.read_count.new.files c.read_entry.new.files told c.read_entry.ensures.reads.kept ∙ first in
    let entry = subst (λ (d : Dir). IsEntryByFiles d n c.in_ok-entry.entry) first (c.in_ok-entry.ensures.value told) in
    let bytes = sym (ap (λ (d : Dir). d (post_name n)) same) ∙ c.in_ok-bytes.ensures.value told in
    post_found dir posts is n c.in_ok-count.count c.in_ok-entry.entry c.in_ok-bytes.bytes (omega (arith, zero)) (omega (arith, past)) (c.in_ok-count.ensures.value told) entry bytes

pub returns-clause-read : goal.returns-clause-read
returns-clause-read g c told =
    let dir = g.F.Files.map c.args.files.now in
    let n = c.args.n in
    let zero = c.if-n-eq0.false in
    let past = c.if-n-count.false in
    let first = g.met.F.Files.kept_map c.args.files.now c.read_count.new.files told c.read_count.ensures.reads.kept in
    let same = g.met.F.Files.kept_map c.read_count.new.files c.read_entry.new.files told c.read_entry.ensures.reads.kept ∙ first in
    let entry = subst (λ (d : Dir). IsEntryByFiles d n c.in_ok-entry.entry) first (c.in_ok-entry.ensures.value told) in
    let bytes = sym (ap (λ (d : Dir). d (post_name n)) same) ∙ c.in_ok-bytes.ensures.value told in
    post_by_files dir n c.in_ok-count.count c.in_ok-entry.entry c.in_ok-bytes.bytes (c.in_ok-count.ensures.value told) (omega (arith, zero)) (omega (arith, past)) entry bytes c.in_ok-bytes.ensures.size

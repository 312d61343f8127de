use Rattle.std.proofs.Common.{inl, ◌≡◌, ◌≤◌, ◌+◌, ◌-◌, min, max, ℕ, List, length, take, arith, rules, subst, sym, ap₂, ◌∙◌}
use Rattle.std.specs.List.{AllByRecursion}
use Rattle.ml_base.specs.Cuts.{one_or_within}
use Rattle.ml_base.specs.Dir.{Dir}
use Rattle.ml_base.specs.PartErrors.{OnDamaged}
use Rattle.ml_base.proofs.DamagedNames.{on_damaged, on_both}
use Rattle.ml_base.proofs.ReadingLemmas.{reading_ok}
use Rattle.ml_filing.specs.Answers.{AreSizes, IsBadForRow, IsBadForRange, IsNoNumber, first_numbers}
use Rattle.ml_filing.specs.Archive.{number_name}
use Rattle.ml_filing.specs.Reads.{IsOfRange, IsOfRow, IsWithin}
use Rattle.ml_filing.proofs.Asked.{front_all, range_named, row_within}
use Rattle.ml_filing.proofs.Ranged.{all_few, range_is, no_bad_range, range_by_files, range_bad}
use Rattle.ml_filing.proofs.Calls.{kept_by, kept_on, read_on}
use Rattle.ml_filing.proofs.ranges.range.Goals as goal

pub sizes_of-requires-clause-few : goal.sizes_of-requires-clause-few
sizes_of-requires-clause-few g c =
    let few = c.in_ok-count.ensures.few in
    subst (λ (ns : List ℕ). AllByRecursion (λ m. m ≤ 99_999_999) ns) (sym (c.as_slice.ensures ∙ c.in_ok-row.ensures)) (all_few (max c.args.a 1) (min 100 (min c.args.b c.in_ok-count.count + 1 - max c.args.a 1)) (λ some. omega (arith, few, some)))

pub returns-in_err-count-clause-names : goal.returns-in_err-count-clause-names
returns-in_err-count-clause-names g c =
    let e = c.in_err-count.field-0.0 in
    let failed = c.in_err-count.ensures.names in
    let a = c.args.a in
    let b = c.args.b in
    record {
      named = let own : OnDamaged e (IsOfRange a b) = on_damaged e (λ name. name ≡ number_name) (IsOfRange a b) (λ name is. inl is) failed.named in search rules;
      damaged = λ told.
          let dir = g.F.Files.map c.args.files.now in
          let bad : OnDamaged e (IsBadForRange dir a b) = on_both e (λ name. name ≡ number_name) (λ _. IsNoNumber dir) (IsBadForRange dir a b) (λ name is none. inl (is, inl none)) failed.named (failed.damaged told) in
          search rules;
    }

pub returns-in_err-sizes-clause-names : goal.returns-in_err-sizes-clause-names
returns-in_err-sizes-clause-names g c =
    let e = c.in_err-sizes.field-0.0 in
    let failed = c.in_err-sizes.ensures.names in
    let a = c.args.a in
    let b = c.args.b in
    let count = c.in_ok-count.count in
    let row : c.as_slice.result.now ≡ first_numbers a b count = c.as_slice.ensures ∙ c.in_ok-row.ensures in
    record {
      named = let own : OnDamaged e (IsOfRange a b) = on_damaged e (IsOfRow number_name c.as_slice.result.now) (IsOfRange a b) (λ name is. range_named a b count c.as_slice.result.now name c.in_ok-count.ensures.few row is) failed.named in search rules;
      damaged = λ told.
          let dir = g.F.Files.map c.args.files.now in
          let same = g.met.F.Files.kept_map c.args.files.now c.read_count.new.files told c.read_count.ensures.reads.kept in
          let bad : OnDamaged e (IsBadForRange dir a b) =
          on_damaged e (IsBadForRow dir number_name c.as_slice.result.now) (IsBadForRange dir a b) (λ name is. range_bad dir a b count c.as_slice.result.now name (c.in_ok-count.ensures.value told) row is)
          (subst (λ (d : Dir). OnDamaged e (IsBadForRow d number_name c.as_slice.result.now)) same (failed.damaged told)) in
          search rules;
    }

pub returns-in_err-sizes-clause-sound : goal.returns-in_err-sizes-clause-sound
returns-in_err-sizes-clause-sound g c told posts is =
    let e = c.in_err-sizes.field-0.0 in
    let failed = c.in_err-sizes.ensures.names in
    let a = c.args.a in
    let b = c.args.b in
    let count = c.in_ok-count.count in
    let row : c.as_slice.result.now ≡ first_numbers a b count = c.as_slice.ensures ∙ c.in_ok-row.ensures in
    let dir = g.F.Files.map c.args.files.now in
    let same = g.met.F.Files.kept_map c.args.files.now c.read_count.new.files told c.read_count.ensures.reads.kept in
    let none : OnDamaged e (λ _. ⊥) =
    on_damaged e (IsBadForRow dir number_name c.as_slice.result.now) (λ _. ⊥)
    (λ name bad. no_bad_range dir posts is a b name (range_bad dir a b count c.as_slice.result.now name (c.in_ok-count.ensures.value told) row bad))
    (subst (λ (d : Dir). OnDamaged e (IsBadForRow d number_name c.as_slice.result.now)) same (failed.damaged told)) in
    search rules

pub returns-in_err-sizes-clause-reads : goal.returns-in_err-sizes-clause-reads
returns-in_err-sizes-clause-reads g c =
    let on = g.met.F.Files.kept_then in
    let read = read_on on (kept_by c.read_count.ensures.reads) c.sizes_of.ensures.reads in
    search rules

pub returns-in_err-cut_by-clause-reads : goal.returns-in_err-cut_by-clause-reads
returns-in_err-cut_by-clause-reads g c =
    let on = g.met.F.Files.kept_then in
    let all = kept_on on (kept_by c.read_count.ensures.reads) c.sizes_of.ensures.reads in
    record { kept = all.kept; later = all.later; cause = λ bad. absurd (search rules) }

pub returns-clause-reads : goal.returns-clause-reads
returns-clause-reads g c = let on = g.met.F.Files.kept_then in reading_ok g.F.Files _ _ _ (kept_on on (kept_by c.read_count.ensures.reads) c.sizes_of.ensures.reads)

pub returns-clause-read : goal.returns-clause-read
returns-clause-read g c told =
    let a = c.args.a in
    let b = c.args.b in
    let count = c.in_ok-count.count in
    let row : c.as_slice.result.now ≡ first_numbers a b count = c.as_slice.ensures ∙ c.in_ok-row.ensures in
    let dir = g.F.Files.map c.args.files.now in
    let same = g.met.F.Files.kept_map c.args.files.now c.read_count.new.files told c.read_count.ensures.reads.kept in
    let sizes = subst (λ (d : Dir). AreSizes d c.as_slice.result.now c.in_ok-sizes.sizes) same (c.in_ok-sizes.ensures.value told) in
    range_by_files dir a b count c.as_slice.result.now c.in_ok-sizes.sizes c.in_ok-cut_by.field-0 (c.in_ok-count.ensures.value told) row sizes
    (c.in_ok-cut_by.ensures
    ∙ ap₂ (λ (ss ns : List ℕ). take (length (one_or_within (λ (s : ℕ). s) 100 4_194_304 ss)) ns) c.as_slice-3.ensures (c.as_slice-2.ensures ∙ sym c.as_slice.ensures))

pub returns-clause-value : goal.returns-clause-value
returns-clause-value g c told posts is = range_is (g.F.Files.map c.args.files.now) posts is c.args.a c.args.b c.in_ok-cut_by.field-0 (returns-clause-read g c told)

pub returns-clause-within : goal.returns-clause-within
returns-clause-within g c =
    let a = c.args.a in
    let b = c.args.b in
    let count = c.in_ok-count.count in
    let row : c.as_slice-2.result.now ≡ first_numbers a b count = c.as_slice-2.ensures ∙ c.in_ok-row.ensures in
    subst (λ (ns : List ℕ). AllByRecursion (IsWithin a b) ns) (sym c.in_ok-cut_by.ensures)
    (front_all (IsWithin a b) _ c.as_slice-2.result.now (subst (λ (ns : List ℕ). AllByRecursion (IsWithin a b) ns) (sym row) (row_within a b count c.in_ok-count.ensures.few)))

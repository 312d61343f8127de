use Rattle.std.proofs.Common.{◌≡◌, ◌≤◌, ◌/◌, ◌++◌, ◌∙◌, ℕ, List, get_or, ap, sym, subst, refl, inl, inr, arith, rules}
use Rattle.std.proofs.lemmas.Nat.{div_below}
use Rattle.ml_base.specs.Bytes.{Text}
use Rattle.ml_base.specs.Dir.{Dir}
use Rattle.ml_base.specs.PartErrors.{OnDamaged}
use Rattle.ml_base.proofs.DamagedNames.{on_damaged, on_both}
use Rattle.ml_base.proofs.ReadingLemmas.{kept_then, kept_read}
use Rattle.ml_filing.specs.Answers.{AreIndexes, IsBadForRow, IsNoIndex, IsRowName, has_group}
use Rattle.ml_filing.specs.Archive.{index_name}
use Rattle.ml_filing.specs.declared.lookups.Index.{Index}
use Rattle.ml_pages.specs.Parts.{line_at}
use Rattle.ml_pages.proofs.Listed.{among_at, at_place, line_is}
use Rattle.ml_pages.proofs.thread_pages.thread_lines.Goals as goal
use Rattle.ml_rows.proofs.RowLaws.{one_more}

pub read_alone-requires : goal.read_alone-requires
read_alone-requires g c =
    let n = get_or c.args.numbers.now c.loop-number.number-index 0 in
    let few = at_place (λ (m : ℕ). m ≤ 99_999_999) c.args.numbers.now c.loop-number.number-index 0 c.loop-number-test.true c.requires.few in
    div_below n 100 1_000_000 (omega arith) (omega (arith, few))

pub returns-in_err-read_alone-clause-names : goal.returns-in_err-read_alone-clause-names
returns-in_err-read_alone-clause-names g c =
    let e = c.in_err-read_alone.field-0.0 in
    let failed = c.in_err-read_alone.ensures.names in
    let before = c.loop-number.invariant in
    let ns = c.args.numbers.now in
    let i = c.loop-number.number-index in
    let n = get_or ns i 0 in
    let few = at_place (λ (m : ℕ). m ≤ 99_999_999) ns i 0 c.loop-number-test.true c.requires.few in
    let less = div_below n 100 1_000_000 (omega arith) (omega (arith, few)) in
    let missing = c.args.missing in
    record {
      named = let own : OnDamaged e (IsRowName missing) = on_damaged e (λ name. name ≡ index_name (n / 100)) (IsRowName missing) (λ name is. inr (n / 100, less, is)) failed.named in search rules;
      damaged = λ told.
          let dir = g.F.Files.map c.args.files.now in
          let same = g.met.F.Files.kept_map c.args.files.now c.loop-number.files told before.read.kept in
          let bad : OnDamaged e (IsBadForRow dir missing ns) =
          on_both e (λ name. name ≡ index_name (n / 100)) (λ _. IsNoIndex dir (n / 100)) (IsBadForRow dir missing ns) (λ name is none. inr (n / 100, less, is, none)) failed.named
          (subst (λ (d : Dir). OnDamaged e (λ _. IsNoIndex d (n / 100))) same (failed.damaged told)) in
          search rules;
    }

pub returns-in_default-clause-names : goal.returns-in_default-clause-names
returns-in_default-clause-names g c = record {
  named = inl refl;
  damaged = λ told.
      let dir = g.F.Files.map c.args.files.now in
      let ns = c.args.numbers.now in
      let i = c.loop-number.number-index in
      let n = get_or ns i 0 in
      let before = c.loop-number.invariant in
      let same = g.met.F.Files.kept_map c.args.files.now c.loop-number.files told before.read.kept in
      let was = subst (λ (d : Dir). AreIndexes d c.loop-number.indexes) (sym same) (before.known told) in
      let known = subst (λ (d : Dir). AreIndexes d c.read_alone.new.indexes) same (c.read_alone.ensures.known told was) in
      let seen = subst (λ (is : List Index). AreIndexes dir is) (sym c.as_slice.ensures) known in
      inl (refl, (n, among_at ns i c.loop-number-test.true, c.in_default.ensures.none dir seen (ap (has_group (n / 100)) c.as_slice.ensures ∙ c.in_ok-read_alone.ensures.there)));
}

pub loop-number-preserved : goal.loop-number-preserved
loop-number-preserved g c =
    let before = c.loop-number.invariant in
    let ns = c.args.numbers.now in
    let i = c.loop-number.number-index in
    let n = get_or ns i 0 in
    let dir = g.F.Files.map c.args.files.now in
    let few = at_place (λ (m : ℕ). m ≤ 99_999_999) ns i 0 c.loop-number-test.true c.requires.few in
    record {
      read = kept_then g.F.Files g.met.F.Files.kept_then c.args.files.now c.loop-number.files c.read_alone.new.files before.read (kept_read g.F.Files c.loop-number.files c.read_alone.new.files c.read_alone.result c.read_alone.ensures.reads);
      known = λ told.
          let same = g.met.F.Files.kept_map c.args.files.now c.loop-number.files told before.read.kept in
          let was = subst (λ (d : Dir). AreIndexes d c.loop-number.indexes) (sym same) (before.known told) in
          subst (λ (d : Dir). AreIndexes d c.read_alone.new.indexes) same (c.read_alone.ensures.known told was);
      value = λ told posts is.
          let same = g.met.F.Files.kept_map c.args.files.now c.loop-number.files told before.read.kept in
          let was = subst (λ (d : Dir). AreIndexes d c.loop-number.indexes) (sym same) (before.known told) in
          let known = subst (λ (d : Dir). AreIndexes d c.read_alone.new.indexes) same (c.read_alone.ensures.known told was) in
          let seen = subst (λ (is : List Index). AreIndexes dir is) (sym c.as_slice.ensures) known in
          let line = line_is dir posts n c.in-Some.entry.now few is (c.in-Some.ensures.some dir seen) in
          one_more (line_at posts) ns i n c.loop-number.out c.push_post.new.out c.loop-number-test.true refl (before.value told posts is) (c.in_ok-push_post.ensures ∙ ap (λ (t : Text). c.loop-number.out ++ t) line);
    }

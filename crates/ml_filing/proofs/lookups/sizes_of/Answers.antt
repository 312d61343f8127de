use Rattle.std.proofs.Common.{◌≡◌, ◌-◌, ◌≤◌, ◌/◌, ◌∙◌, ℕ, List, [], length, take, drop, get_or, refl, sym, ap, subst, inl, inr, append-nil, arith, rules}
use Rattle.std.specs.List.{AllByRecursion}
use Rattle.std.proofs.lemmas.Nat.{div_below}
use Rattle.ml_base.specs.Dir.{Dir}
use Rattle.ml_base.specs.PartErrors.{OnDamaged}
use Rattle.ml_base.proofs.DamagedNames.{on_damaged, on_both}
use Rattle.ml_base.proofs.ReadingLemmas.{kept_then, kept_read, reading_ok}
use Rattle.ml_filing.specs.Answers.{AreIndexes, AreSizes, IsBadForRow, IsNoIndex, has_group}
use Rattle.ml_filing.specs.Archive.{index_name}
use Rattle.ml_filing.specs.Reads.{IsOfRow}
use Rattle.ml_filing.specs.declared.lookups.Index.{Index}
use Rattle.ml_filing.proofs.Rows.{number_of, among_more, among_first, none_sized, one_sized, long_more}
use Rattle.ml_filing.proofs.Calls.{kept_on, read_on}
use Rattle.ml_filing.proofs.lookups.sizes_of.Goals as goal

pub returns-in_err-read_once-clause-names : goal.returns-in_err-read_once-clause-names
returns-in_err-read_once-clause-names g c =
    let e = c.in_err-read_once.field-0.0 in
    let failed = c.in_err-read_once.ensures.names in
    let before = c.loop-rest.invariant in
    let rest = c.loop-rest.rest.now in
    let some = c.in-len1-up.len_at_least in
    let n = get_or rest 0 0 in
    let few = (subst (λ (ns : List ℕ). AllByRecursion (λ m. m ≤ 99_999_999) ns) (number_of rest some) before.few).0 in
    let missing = c.args.missing in
    let numbers = c.args.numbers.now in
    record {
      named =
          let own : OnDamaged e (IsOfRow missing numbers) = on_damaged e (λ name. name ≡ index_name (n / 100)) (IsOfRow missing numbers) (λ name is. inr (n, before.among n (among_first rest some), few, is)) failed.named in
          search rules;
      damaged = λ told.
          let dir = g.F.Files.map c.args.files.now in
          let same = g.met.F.Files.kept_map c.args.files.now c.loop-rest.files told before.read.kept in
          let less = div_below n 100 1_000_000 (omega arith) (omega (arith, few)) in
          let bad : OnDamaged e (IsBadForRow dir missing numbers) =
          on_both e (λ name. name ≡ index_name (n / 100)) (λ _. IsNoIndex dir (n / 100)) (IsBadForRow dir missing numbers) (λ name is none. inr (n / 100, less, is, none)) failed.named
          (subst (λ (d : Dir). OnDamaged e (λ _. IsNoIndex d (n / 100))) same (failed.damaged told)) in
          search rules;
    }

pub returns-in_err-read_once-clause-reads : goal.returns-in_err-read_once-clause-reads
returns-in_err-read_once-clause-reads g c =
    let read = read_on g.met.F.Files.kept_then c.loop-rest.invariant.read c.read_once.ensures.reads in
    search rules

pub returns-clause-reads : goal.returns-clause-reads
returns-clause-reads g c = reading_ok g.F.Files _ _ _ c.loop-rest.invariant.read

pub returns-in_default-entry_among-clause-names : goal.returns-in_default-entry_among-clause-names
returns-in_default-entry_among-clause-names g c = record {
  named = inl refl;
  damaged = λ told.
      let dir = g.F.Files.map c.args.files.now in
      let before = c.loop-rest.invariant in
      let rest = c.loop-rest.rest.now in
      let some = c.in-len1-up.len_at_least in
      let same = g.met.F.Files.kept_map c.args.files.now c.loop-rest.files told before.read.kept in
      let known = subst (λ (d : Dir). AreIndexes d c.read_once.new.indexes) same (c.in_ok-read_once.ensures.known told) in
      let seen = subst (λ (is : List Index). AreIndexes dir is) (sym c.as_slice.ensures) known in
      inl (refl, (get_or rest 0 0, before.among (get_or rest 0 0) (among_first rest some), c.in_default-entry_among.ensures.none dir seen (ap (has_group (get_or rest 0 0 / 100)) c.as_slice.ensures ∙ c.in_ok-read_once.ensures.there)));
}

pub loop-rest-preserved : goal.loop-rest-preserved
loop-rest-preserved g c =
    let before = c.loop-rest.invariant in
    let rest = c.loop-rest.rest.now in
    let n = get_or rest 0 0 in
    let more : List ℕ = take (length rest - 1) (drop 1 rest) in
    let some = c.in-len1-up.len_at_least in
    let rest_is = number_of rest some in
    record {
      read = kept_then g.F.Files g.met.F.Files.kept_then c.args.files.now c.loop-rest.files c.read_once.new.files before.read (kept_read g.F.Files c.loop-rest.files c.read_once.new.files c.read_once.result c.read_once.ensures.reads);
      known = λ told.
          let same = g.met.F.Files.kept_map c.args.files.now c.loop-rest.files told before.read.kept in
          subst (λ (d : Dir). AreIndexes d c.read_once.new.indexes) same (c.in_ok-read_once.ensures.known told);
      sizes = λ told ss zip.
          let dir = g.F.Files.map c.args.files.now in
          let same = g.met.F.Files.kept_map c.args.files.now c.loop-rest.files told before.read.kept in
          let known = subst (λ (d : Dir). AreIndexes d c.read_once.new.indexes) same (c.in_ok-read_once.ensures.known told) in
          let seen = subst (λ (is : List Index). AreIndexes dir is) (sym c.as_slice.ensures) known in
          one_sized dir c.args.numbers.now rest more c.loop-rest.sizes c.push.new.self ss n c.in-Some.entry.now rest_is c.in_ok-push.ensures.ok (c.in-Some.ensures.some dir seen) (before.sizes told) zip;
      few = (subst (λ (ns : List ℕ). AllByRecursion (λ m. m ≤ 99_999_999) ns) rest_is before.few).1;
      among = λ m is. before.among m (among_more rest more n m rest_is is);
      long = long_more c.push.new.self c.loop-rest.sizes rest more c.args.numbers.now c.in-Some.entry.now.size n c.in_ok-push.ensures.ok rest_is before.long;
    }

pub returns-clause-value : goal.returns-clause-value
returns-clause-value g c told =
    let none = c.in_default.len_below in
    subst (λ (t : List ℕ). AreSizes (g.F.Files.map c.args.files.now) c.args.numbers.now t) (append-nil c.loop-rest.sizes) (c.loop-rest.invariant.sizes told [] (none_sized (g.F.Files.map c.args.files.now) c.loop-rest.rest.now none))

pub returns-in_default-entry_among-clause-reads : goal.returns-in_default-entry_among-clause-reads
returns-in_default-entry_among-clause-reads g c =
    let all = kept_on g.met.F.Files.kept_then c.loop-rest.invariant.read c.read_once.ensures.reads in
    record { kept = all.kept; later = all.later; cause = λ bad. absurd (search rules) }

pub returns-in_err-push-clause-reads : goal.returns-in_err-push-clause-reads
returns-in_err-push-clause-reads g c =
    let all = kept_on g.met.F.Files.kept_then c.loop-rest.invariant.read c.read_once.ensures.reads in
    record { kept = all.kept; later = all.later; cause = λ bad. absurd (search rules) }

use Rattle.std.proofs.Common.{◌≡◌, inl, inr, true, ◌∙◌, refl, sym, ap, subst, arith, rules}
use Rattle.std.proofs.lemmas.Bool.{false≢true, or_right}
use Rattle.ml_base.specs.Dir.{same_name}
use Rattle.ml_base.specs.declared.names.Name.{Name}
use Rattle.ml_filing.specs.Archive.{number_name}
use Rattle.ml_acts.specs.Asked.{has_above}
use Rattle.ml_acts.specs.Doing.{is_index}
use Rattle.ml_acts.proofs.Asked.{group_named}
use Rattle.ml_acts.proofs.Placed.{index_placed}
use Rattle.ml_timed.specs.Reads.{is_of_posts_told}
use Rattle.ml_timed.specs.Waiting.{are_short}
use Rattle.ml_timed.proofs.Apart.{posts_back}
use Rattle.ml_timed.proofs.After.{no_group}
use Rattle.ml_timed.proofs.Counted.{index_there, none_small, small_damaged, too_small}
use Rattle.ml_timed.proofs.Short.{index_short}
use Rattle.ml_timed.proofs.Joined.{names_err, names_so}
use Rattle.ml_timed.proofs.undigested_posts.group_of.Goals as goal

pub returns-then-group-count-clause-apart : goal.returns-then-group-count-clause-apart
returns-then-group-count-clause-apart g c told dir p alike is size = c.new.ensures ∙ no_group c.args.group c.args.count p.posts size c.if-group-count.true

pub returns-clause-apart : goal.returns-clause-apart
returns-clause-apart g c told dir p alike is size = c.in_ok-entries.ensures.value told p.posts (posts_back (g.F.Files.map c.args.files.now) dir p.posts alike (is.archive).filed)

pub returns-in_err-entries-clause-names : goal.returns-in_err-entries-clause-names
returns-in_err-entries-clause-names g c =
    let dir = g.F.Files.map c.args.files.now in
    let group = c.args.group in
    names_err (names_so (λ name e. e) (λ name e bad. record { damaged = bad.damaged; own = λ of. inl (bad.own of); few = c.if-group-count.false })
    (group_named g.F.Files (λ name. is_of_posts_told name ≡ true) _ dir group (λ name less e. or_right (same_name name number_name) (is_index name) (index_placed group name less e)) c.in_err-entries.ensures.sound c.in_err-entries.ensures.table c.in_err-entries.ensures.names)) (search rules)

pub returns-then-not-are_short-clause-names : goal.returns-then-not-are_short-clause-names
returns-then-not-are_short-clause-names g c =
    let dir = g.F.Files.map c.args.files.now in
    let group = c.args.group in
    let few = c.requires.few in
    let up = c.if-group-count.false in
    let name : Name = record { kind = 10; at = group } in
    record {
      named = subst (λ (a : Name). is_of_posts_told a ≡ true) (sym c.index-then-not-are_short.ensures.name) (or_right (same_name name number_name) (is_index name) (index_placed group name (omega (arith, few, up)) refl));
      damaged = λ told. absurd (false≢true (sym c.if-not-are_short.true ∙ c.are_short.ensures ∙ ap are_short c.as_slice.ensures ∙ index_short dir group c.in_ok-entries.entries (c.in_ok-entries.ensures.read told)));
    }

pub returns-then-has_above-clause-names : goal.returns-then-has_above-clause-names
returns-then-has_above-clause-names g c = record {
  named = refl;
  damaged = λ told.
      let dir = g.F.Files.map c.args.files.now in
      let group = c.args.group in
      let count = c.args.count in
      let few = c.requires.few in
      let up = c.if-group-count.false in
      let entries = c.in_ok-entries.entries in
      let counted = c.requires.counted told in
      let index = index_there dir group entries (omega (arith, few, up)) (c.in_ok-entries.ensures.read told) in
      let above : has_above count entries ≡ true = ap (has_above count) (sym c.as_slice-2.ensures) ∙ sym c.has_above.ensures ∙ c.if-has_above.true in
      record { damaged = small_damaged dir group count entries up counted index above; own = λ of. inr (refl, too_small dir group count entries up counted index above); few = up };
}

pub returns-then-group-count-clause-agrees : goal.returns-then-group-count-clause-agrees
returns-then-group-count-clause-agrees g c told last small =
    let high = c.if-group-count.true in
    omega (arith, high, last)

pub returns-clause-agrees : goal.returns-clause-agrees
returns-clause-agrees g c told last =
    let dir = g.F.Files.map c.args.files.now in
    let group = c.args.group in
    let count = c.args.count in
    let few = c.requires.few in
    let up = c.if-group-count.false in
    let entries = c.in_ok-entries.entries in
    none_small dir group count entries (c.requires.counted told) (index_there dir group entries (omega (arith, few, up)) (c.in_ok-entries.ensures.read told)) (ap (has_above count) (sym c.as_slice-2.ensures) ∙ sym c.has_above.ensures ∙ c.if-has_above.false) last

use Rattle.std.proofs.Common.{◌∙◌, ◌+◌, ◌/◌, length, refl, sym, ap, ap₂, inl, inr}
use Rattle.ml_filing.proofs.Looking.{index_found, index_lost}
use Rattle.ml_filing.proofs.new_post.next_index.Goals as goal

pub returns-in_default-clause-names : goal.returns-in_default-clause-names
returns-in_default-clause-names g c = record {
  named = inr c.index-in_default.ensures.name;
  damaged = λ told.
      inr (
        c.index-in_default.ensures.name,
        index_lost (g.F.Files.map c.args.files.now) (c.args.number / 100) c.index.result c.in_ok-file.file c.text_of.result.now c.in_ok-entries.field-0 c.index.ensures.name (c.in_ok-file.ensures.value told) c.text_of.ensures
            c.in_ok-entries.ensures c.in_default.is,
      );
}

pub returns-then-as_slice-first_number-clause-names : goal.returns-then-as_slice-first_number-clause-names
returns-then-as_slice-first_number-clause-names g c = record {
  named = inl refl;
  damaged = λ told.
      inl (
        refl,
        (
          c.in-Some.entries,
          index_found (g.F.Files.map c.args.files.now) (c.args.number / 100) c.index.result c.in_ok-file.file c.text_of.result.now c.in_ok-entries.field-0 c.in-Some.entries c.index.ensures.name (c.in_ok-file.ensures.value told)
              c.text_of.ensures c.in_ok-entries.ensures c.in-Some.is,
          λ same. c.if-as_slice-first_number.true (ap₂ (λ a b. a + b) (ap length c.as_slice.ensures) c.first_number.ensures ∙ same),
        ),
      );
}

pub returns-in-Some-file-clause-before : goal.returns-in-Some-file-clause-before
returns-in-Some-file-clause-before g c told = (
  c.in-Some.entries,
  index_found (g.F.Files.map c.args.files.now) (c.args.number / 100) c.index.result c.in_ok-file.file c.text_of.result.now c.in_ok-entries.field-0 c.in-Some.entries c.index.ensures.name (c.in_ok-file.ensures.value told)
      c.text_of.ensures c.in_ok-entries.ensures c.in-Some.is,
  sym (ap₂ (λ a b. a + b) (ap length c.as_slice.ensures) c.first_number.ensures) ∙ c.if-as_slice-first_number.false,
)

pub returns-clause-before : goal.returns-clause-before
returns-clause-before g c told = (
  c.in-Some.entries,
  index_found (g.F.Files.map c.args.files.now) (c.args.number / 100) c.index.result c.in_ok-file.file c.text_of.result.now c.in_ok-entries.field-0 c.in-Some.entries c.index.ensures.name (c.in_ok-file.ensures.value told)
      c.text_of.ensures c.in_ok-entries.ensures c.in-Some.is,
  sym (ap₂ (λ a b. a + b) (ap length c.as_slice.ensures) c.first_number.ensures) ∙ c.if-as_slice-first_number.false,
)

use Rattle.std.proofs.Common.{◌≡◌, ◌∙◌, true, false, sym, ap}
use Rattle.ml_base.specs.Bytes.{Text}
use Rattle.ml_base.proofs.Bools.{both}
use Rattle.ml_config.specs.Configuration.{config_of}
use Rattle.ml_config.specs.ConfigFile.{Values}
use Rattle.ml_config.specs.Reading.{texts_of}
use Rattle.ml_config.proofs.ReadLemmas.{kept, made_again, made_spelled, max_read}
use Rattle.ml_config.proofs.config_reader.config_of_lines.Goals as goal

pub returns-in_default-read_number-clause-read : goal.returns-in_default-read_number-clause-read
returns-in_default-read_number-clause-read c = λ d is e.
    absurd (c.in_default-read_number.not-Some d.max (c.read_number.ensures ∙ max_read d _ is (ap (λ (v : Values). v.max) e)))

pub returns-in_default-made-clause-read : goal.returns-in_default-made-clause-read
returns-in_default-made-clause-read c = λ d is e.
    let v = texts_of c.args.lines.now in
    let flags = sym c.in-Some.is ∙ c.read_flags.ensures.read d.flags (ap (λ (w : Values). w.flags) e) in
    let max = sym c.in-Some-read_number.is ∙ (c.read_number.ensures ∙ max_read d _ is (ap (λ (w : Values). w.max) e)) in
    absurd (c.in_default-made.not-Some d (made_again v d _ _ _ _ c.in_ok-made.ensures c.in_ok-prefix.ensures is e flags max))

pub returns-then-not-is_canonical-clause-read : goal.returns-then-not-is_canonical-clause-read
returns-then-not-is_canonical-clause-read c = λ d is e.
    let v = texts_of c.args.lines.now in
    let flags = sym c.in-Some.is ∙ c.read_flags.ensures.read d.flags (ap (λ (w : Values). w.flags) e) in
    let max = sym c.in-Some-read_number.is ∙ (c.read_number.ensures ∙ max_read d _ is (ap (λ (w : Values). w.max) e)) in
    let made = sym c.in-Some-made.is ∙ made_again v d _ _ _ _ c.in_ok-made.ensures c.in_ok-prefix.ensures is e flags max in
    let yes : true ≡ false = sym (kept v _ d e made) ∙ (sym c.is_canonical.ensures ∙ c.if-not-is_canonical.true) in
    absurd cc

pub returns-clause-read : goal.returns-clause-read
returns-clause-read c = λ d is e.
    let v = texts_of c.args.lines.now in
    let flags = sym c.in-Some.is ∙ c.read_flags.ensures.read d.flags (ap (λ (w : Values). w.flags) e) in
    let max = sym c.in-Some-read_number.is ∙ (c.read_number.ensures ∙ max_read d _ is (ap (λ (w : Values). w.max) e)) in
    sym c.in-Some-made.is ∙ made_again v d _ _ _ _ c.in_ok-made.ensures c.in_ok-prefix.ensures is e flags max

pub returns-clause-spelled : goal.returns-clause-spelled
returns-clause-spelled c =
    let v = texts_of c.args.lines.now in
    let tests = both _ _ (sym c.is_canonical.ensures ∙ c.if-not-is_canonical.false) in
    let made = sym c.in_ok-made.ensures ∙ c.in-Some-made.is in
    let prefix : c.in_ok-prefix.prefix ≡ v.prefix = c.in_ok-prefix.ensures in
    made_spelled v _ _ _ (ap (λ (p : Text). config_of c.in-Some.flags v.local v.host v.owner p c.in-Some-read_number.max) (sym prefix) ∙ made) c.in-Some.ensures.spelled
    (sym c.read_number.ensures ∙ c.in-Some-read_number.is) tests.0 tests.1

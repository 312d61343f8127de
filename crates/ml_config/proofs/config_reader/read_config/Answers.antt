use Rattle.std.proofs.Common.{◌≡◌, ◌∙◌, Option, Some, None, sym}
use Rattle.std.proofs.lemmas.Result.{IfOk-weaker}
use Rattle.std.specs.Prelude.{IfSome}
use Rattle.ml_config.specs.Configuration.{IsConfig}
use Rattle.ml_config.specs.ConfigFile.{Spells, values_of}
use Rattle.ml_config.specs.Reading.{texts_of}
use Rattle.ml_config.specs.declared.configuration.Config.{Config}
use Rattle.ml_config.proofs.ReadLemmas.{spelled_by, spelled_lines}
use Rattle.ml_config.proofs.config_reader.read_config.Goals as goal

pub returns-in-Some-clause-read : goal.returns-in-Some-clause-read
returns-in-Some-clause-read c = λ d spells.
    let same : Some (texts_of c.in-Some.lines) ≡ Some (values_of d) = c.in-Some.ensures ∙ spelled_lines c.args.bytes.now d spells in
    c.config_of_lines.ensures.read d spells.is cc

pub returns-in-Some-clause-spelled : goal.returns-in-Some-clause-spelled
returns-in-Some-clause-spelled c = IfOk-weaker c.config_of_lines.result _ _ go c.config_of_lines.ensures.spelled
  where
    go : (found : Option Config) → IfSome found (λ d. IsConfig d × (texts_of c.in-Some.lines ≡ values_of d)) → IfSome found (Spells c.args.bytes.now)
    go None h = tt
    go (Some d) h = spelled_by c.args.bytes.now (texts_of c.in-Some.lines) d (sym c.in-Some.ensures) h.0 h.1

pub returns-in-None-clause-read : goal.returns-in-None-clause-read
returns-in-None-clause-read c = λ d spells.
    let no_lines = c.in-None.ensures in
    let lines = spelled_lines c.args.bytes.now d spells in
    absurd (cc (no_lines, lines))

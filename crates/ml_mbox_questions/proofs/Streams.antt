-- The deliveries of a mailbox make a stream.
use Rattle.std.proofs.Common.{◌≡◌, ℕ, ◌+◌, ◌≤◌, List, [], ◌∷◌, length, refl, ap, suc, arith, length-append}
use Rattle.std.specs.List.{AllByRecursion}
use Rattle.std.proofs.lemmas.Bool.{ltb-false}
use Rattle.ml_base.specs.Ranges.{IsMoment}
use Rattle.ml_config.specs.Configuration.{IsConfig}
use Rattle.ml_config.specs.declared.configuration.Config.{Config}
use Rattle.ml_plain.specs.Items.{AreNumbers, numbered}
use Rattle.ml_stream.specs.Stream.{IsStream, End}
use Rattle.ml_stream.specs.Writing.{IsGood, stream_text}
use Rattle.ml_stream.proofs.Numbered.{acts_read}
use Rattle.ml_mbox.specs.Importing.{acts_of}
use Rattle.ml_mbox.specs.declared.mails.Boxed.{Boxed}
use Rattle.ml_mbox_questions.specs.Import.{Fits}

-- one act for every mail
as_many : (c : Config) (mails : List Boxed) → length (acts_of c mails) ≡ length mails
as_many c [] = refl
as_many c (m ∷ ms) = ap suc (as_many c ms)

all_good : (c : Config) (mails : List Boxed) → IsConfig c → AllByRecursion (λ m. length m.sender ≤ 1000) mails → AllByRecursion (Fits c) mails → AllByRecursion IsGood (acts_of c mails)
all_good c [] config short fits = tt
all_good c (m ∷ ms) config short fits = (
  (record { from = short.0; to = omega (arith, config.local, config.host, length-append c.local (64 ∷ c.host)); body = ltb-false _ _ fits.0 }, tt),
  all_good c ms config short.1 fits.1,
)

pub whole_stream : (c : Config) (first moment : ℕ) (mails : List Boxed) → IsConfig c → IsMoment moment → first + length mails ≤ 1_000_000_000_000
    → AllByRecursion (λ m. length m.sender ≤ 1000) mails → AllByRecursion (Fits c) mails
    → IsStream 0 (stream_text (numbered first moment (acts_of c mails))) (numbered first moment (acts_of c mails)) End
whole_stream c first moment mails config time few short fits =
    let numbers : AreNumbers first (length (acts_of c mails)) = (let same = as_many c mails in omega (arith, few, same)) in
    acts_read 0 first moment (acts_of c mails) time numbers (all_good c mails config short fits)

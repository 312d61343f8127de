-- The streams that commands print, by the grammar of streams.
use Rattle.std.specs.Prelude.{◌≡◌, ◌≤◌, ℕ, true, IsTrue, List, ◌++◌, Some, Result, Ok}
use Rattle.ml_base.specs.Bytes.{Text}
use Rattle.ml_base.specs.Dir.{Dir}
use Rattle.ml_config.specs.declared.configuration.Config.{Config}
use Rattle.ml_split_questions.specs.Moves.{PlainMove}
use Rattle.ml_split_questions.specs.Texts.{part_under, parts_of}
use Rattle.ml_input.specs.Asking.{IsMomentOf}
use Rattle.ml_input.specs.Input.{IsInput}
use Rattle.ml_journal.specs.Log.{directory}
use Rattle.ml_mbox.specs.Importing.{acts_of}
use Rattle.ml_mbox.specs.Reading.{read}
use Rattle.ml_mbox.specs.declared.mails.Boxed.{Boxed}
use Rattle.ml_plain.specs.Directory.{IsState}
use Rattle.ml_plain.specs.Histories.{State}
use Rattle.ml_plain.specs.Items.{numbered}
use Rattle.ml_plain.specs.declared.Item.{Item}
use Rattle.ml_mbox_questions.specs.Numbers.{IsFirst}
use Rattle.ml_site.specs.declared.site.Site.{Ghosts}
use Rattle.ml_site.specs.declared.source.Clock.{Ghosts as ClockGhosts}
use Rattle.ml_site.specs.declared.source.Source.{Ghosts as SourceGhosts}
use Rattle.ml_split.specs.Moves.{moves}
use Rattle.ml_split.specs.Reading.{rules_in}
use Rattle.ml_split.specs.declared.parts.Part.{Part}
use Rattle.ml_split.specs.declared.rules.Rule.{Rule}
use Rattle.ml_stream.specs.Stream.{IsStream, End}
use Rattle.ml_subs.specs.declared.member_list.Member.{Member}
use Rattle.ml_command.specs.Inquiries.{longest_mailbox, longest_rules}
use Rattle.ml_command.specs.declared.words.Command.{Command}
use Rattle.ml_command.specs.declared.words.Command.TheVariants.{Give}
use Rattle.ml_command.specs.declared.words.WordsError.{WordsError}
use Rattle.ml_command.specs.declared.inquiries.Inquiry.{Inquiry}
use Rattle.ml_command.specs.declared.inquiries.Inquiry.TheVariants as inquiries

-- a stream of exactly these items, and its end, was put out
pub record PutsStream (before output : Text) (items : List Item) : Type 0 where
  pub stream : Text
  pub put : output ≡ before ++ stream
  pub is : IsStream 0 stream items End

-- the moves of the part that the rules of the whole input give of these members, at the clock's moment
pub record PutsMoves {I K : Type 0} (source : SourceGhosts I) (clocks : ClockGhosts K) (words : PlainMove) (members : List Member) (input next : I) (clock : K) (before output : Text) : Type 0 where
  pub text : Text
  pub input_is : IsInput source longest_rules input next text
  pub rules : List Rule
  pub rules_are : rules_in text ≡ Ok rules
  pub part : Part
  pub part_is : part_under words.name (parts_of rules members) ≡ Some part
  pub moment : ℕ
  pub moment_is : IsMomentOf clocks true clock moment
  pub puts : PutsStream before output (numbered words.first moment (moves part words.set words.into))

-- the deliveries of the mails of the whole input, at the clock's moment
pub record PutsMails {I K : Type 0} (source : SourceGhosts I) (clocks : ClockGhosts K) (first : ℕ) (config : Config) (input next : I) (clock : K) (before output : Text) : Type 0 where
  pub text : Text
  pub input_is : IsInput source longest_mailbox input next text
  pub mails : List Boxed
  pub mails_are : read text ≡ Some mails
  pub moment : ℕ
  pub moment_is : IsMomentOf clocks true clock moment
  pub puts : PutsStream before output (numbered first moment (acts_of config mails))

-- what is printed of a list for which the directory stands, if an inquiry is for a stream whose first number is in its range, and is answered
abbrev pub PrintsOf : {I S K : Type 0} → SourceGhosts I → Ghosts S → ClockGhosts K → Inquiry → State → I → I → S → S → K → Type 0
PrintsOf source ghosts clocks (inquiries.Move words) q input next old new clock =
    words.first ≤ 999_999_900_000 → PutsMoves source clocks words (q.plain.sets words.set) input next clock (ghosts.output old) (ghosts.output new)
PrintsOf source ghosts clocks (inquiries.Import first) q input next old new clock =
    IsFirst first → PutsMails source clocks first q.plain.config input next clock (ghosts.output old) (ghosts.output new)
PrintsOf source ghosts clocks _ q input next old new clock = Unit {0}

-- the same for words that end with status 0
abbrev pub Prints : {I S K : Type 0} → SourceGhosts I → Ghosts S → ClockGhosts K → Result Command WordsError → I → I → S → S → K → ℕ → Type 0
Prints source ghosts clocks (Ok (Give inquiry)) input next old new clock status =
    IsTrue ghosts.tells_reads → IsTrue ghosts.tells_all → status ≡ 0 → (files : Dir) (q : State) → directory (ghosts.disk old).reads ≡ Some files → IsState files q → PrintsOf source ghosts clocks inquiry q input next old new clock
Prints source ghosts clocks _ input next old new clock status = Unit {0}

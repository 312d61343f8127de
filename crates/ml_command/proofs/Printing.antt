-- What is printed if words ask for a stream.
use Rattle.std.proofs.Common.{◌≡◌, ⊎_elim, ℕ, ◌≤◌, Bool, true, false, cond, IsTrue, List, [], ◌∷◌, ◌++◌, length, map, filter, Option, Some, None, Result, Ok, Err, option_map, refl, sym, ap, ◌∙◌, subst, arith}
use Rattle.std.proofs.lemmas.List.{length-map}
use Rattle.std.specs.List.{AllByRecursion, find}
use Rattle.ml_base.specs.Address.{IsAddress}
use Rattle.ml_base.specs.Bytes.{Text}
use Rattle.ml_base.specs.Dir.{Dir}
use Rattle.ml_base.specs.Ranges.{IsMoment}
use Rattle.ml_config.specs.Configuration.{IsConfig}
use Rattle.ml_config.specs.declared.configuration.Config.{Config}
use Rattle.ml_split_questions.proofs.Written.{moves_read}
use Rattle.ml_split_questions.specs.Moves.{PlainMove}
use Rattle.ml_split_questions.specs.Questions.{moving_of}
use Rattle.ml_split_questions.specs.Texts.{move_text, moving_text, part_under, parts_of}
use Rattle.ml_split_questions.specs.declared.move_question.Moving.{Moving}
use Rattle.ml_ending.specs.Endings.{Says}
use Rattle.ml_ending.specs.Stops.{status_of_why}
use Rattle.ml_ending.specs.declared.lines.Why.{Why}
use Rattle.ml_ending.specs.declared.lines.Why.TheVariants as whys
use Rattle.ml_input.specs.Asking.{IsMomentOf}
use Rattle.ml_input.specs.Input.{IsInput}
use Rattle.ml_journal.specs.Log.{directory}
use Rattle.ml_mbox.specs.Importing.{acts_of}
use Rattle.ml_mbox.specs.Reading.{read}
use Rattle.ml_mbox.specs.declared.mails.Boxed.{Boxed}
use Rattle.ml_plain.specs.Directory.{IsState}
use Rattle.ml_plain.specs.Histories.{State}
use Rattle.ml_plain.specs.Items.{AreNumbers, numbered}
use Rattle.ml_mbox_questions.specs.Numbers.{IsFirst}
use Rattle.ml_mbox_questions.specs.Questions.{importing_meaning, importing_of}
use Rattle.ml_mbox_questions.specs.declared.import_question.Importing.{Importing}
use Rattle.ml_reading.specs.Giving.{GivesAnswer}
use Rattle.ml_reading.specs.Queries.{text_or_absent}
use Rattle.ml_reading.specs.Readings.{GivesFound, IsHindered}
use Rattle.ml_reading.specs.declared.question.Answer.{Answer}
use Rattle.ml_reading.specs.declared.question.Answer.TheVariants as answers
use Rattle.ml_rows.proofs.RowLaws.{none_some, one_some}
use Rattle.ml_site.specs.declared.site.Site.{Ghosts}
use Rattle.ml_site.specs.declared.source.Clock.{Ghosts as ClockGhosts}
use Rattle.ml_site.specs.declared.source.Source.{Ghosts as SourceGhosts}
use Rattle.ml_split.specs.Moves.{moves}
use Rattle.ml_split.specs.Parts.{goes_to, names, part_named}
use Rattle.ml_split.specs.Reading.{rules_in}
use Rattle.ml_split.specs.Steps.{is_named}
use Rattle.ml_split.specs.declared.parts.Part.{Part}
use Rattle.ml_split.specs.declared.rules.Rule.{Rule}
use Rattle.ml_stream.specs.Stream.{IsStream, End}
use Rattle.ml_subs.proofs.Represented.{subscribers_each}
use Rattle.ml_subs.specs.Subscribers.{AreSubscribers}
use Rattle.ml_subs.specs.declared.member_list.Member.{Member}
use Rattle.ml_command.specs.Commands.{Does}
use Rattle.ml_command.specs.Inquiries.{importing_asked, moving_asked}
use Rattle.ml_command.specs.Printing.{Prints, PutsMails, PutsMoves}
use Rattle.ml_command.specs.declared.words.Command.{Command}
use Rattle.ml_command.specs.declared.words.Command.TheVariants.{Spool, Deliver, Make, Exercise, Single, Give}
use Rattle.ml_command.specs.declared.words.WordsError.{WordsError}
use Rattle.ml_command.specs.declared.inquiries.Inquiry.TheVariants as inquiries
use Rattle.ml_split_questions.proofs.Moved.{filter_small}

-- what is proved of every stream that an import gives
abbrev pub LawImporting : Type 0
LawImporting = (first moment : ℕ) (text stream : Text) (question : Importing) (c : Config) (dir : Dir) → IsFirst first → IsMoment moment → length text ≤ 268_435_456 → IsConfig c
    → importing_of first moment text ≡ Ok question → (importing_meaning question.words question.moment question.text).by_files c dir (answers.Text stream)
    → (mails : List Boxed) × (read text ≡ Some mails) × IsStream 0 stream (numbered first moment (acts_of c mails)) End

-- no stop line has the status 0
line_not_zero : (why : Why) → status_of_why why ≡ 0 → ⊥
line_not_zero whys.Usage e = cc
line_not_zero (whys.Bad at) e = cc
line_not_zero (whys.Short at) e = cc
line_not_zero whys.Words e = cc
line_not_zero whys.Long e = cc
line_not_zero whys.Clock e = cc
line_not_zero whys.Memory e = cc
line_not_zero whys.More e = cc
line_not_zero whys.Input e = cc
line_not_zero whys.NoList e = cc
line_not_zero (whys.At name) e = cc
line_not_zero whys.There e = cc
line_not_zero whys.Absent e = cc
line_not_zero whys.Disk e = cc

is_not_zero : (status n : ℕ) → status ≡ n → 1 ≤ n → status ≡ 0 → ⊥
is_not_zero status n e low zero = omega (arith, e, low, zero)

says_not_zero : {S : Type 0} (ghosts : Ghosts S) (old new : S) (status : ℕ) (why : Why) → Says ghosts old new status None why → status ≡ 0 → ⊥
says_not_zero ghosts old new status why said zero = ⊎_elim (λ whole. line_not_zero why (sym whole.0 ∙ zero)) (λ cut. is_not_zero status 73 cut.0 (omega arith) zero) said.line

hindered_not_zero : (status : ℕ) → IsHindered status → status ≡ 0 → ⊥
hindered_not_zero status h zero =
    ⊎_elim (λ a. is_not_zero status 71 a (omega arith) zero) (λ more. ⊎_elim (λ b. is_not_zero status 73 b (omega arith) zero) (λ d. is_not_zero status 111 d (omega arith) zero) more) h

-- with status 0 the answer is a text, and all of it is out
text_put : (told : Type 0) (status : ℕ) (answer : Answer) (before output : Text) → GivesFound told status answer before output → status ≡ 0 → told → (text : Text) × (answer ≡ answers.Text text) × (output ≡ before ++ text)
text_put told status (answers.Text text) before output g zero holds = ⊎_elim (λ given. (text, refl, given.1 holds)) (λ h. absurd (hindered_not_zero status h zero)) g
text_put told status answers.Absent before output g zero holds = absurd (⊎_elim (λ r. is_not_zero status 100 r.0 (omega arith) zero) (λ h. hindered_not_zero status h zero) g)
text_put told status answers.Long before output g zero holds = absurd (⊎_elim (λ r. is_not_zero status 65 r.0 (omega arith) zero) (λ h. hindered_not_zero status h zero) g)

-- what a question of a move was made of
record IsMoveOf (words : PlainMove) (moment : ℕ) (text : Text) (question : Moving) : Type 0 where
  pub rules : List Rule
  pub are : rules_in text ≡ Ok rules
  pub is : question ≡ record { words = words; rules = rules; moment = moment }

one_move : (q r : Moving) → ◌≡◌ {A = Result Moving ℕ} (Ok q) (Ok r) → r ≡ q
one_move q r e = cc

no_move : (at : ℕ) (q : Moving) → ◌≡◌ {A = Result Moving ℕ} (Err at) (Ok q) → ⊥
no_move at q e = cc

move_made : (words : PlainMove) (moment : ℕ) (text : Text) (question : Moving) (r : Result (List Rule) ℕ) → rules_in text ≡ r → moving_of words moment r ≡ Ok question → IsMoveOf words moment text question
move_made words moment text question (Err at) found made = absurd (no_move at question made)
move_made words moment text question (Ok rules) found made = record { rules = rules; are = found; is = one_move (record { words = words; rules = rules; moment = moment }) question made }

one_text : (a b : Text) → answers.Text a ≡ answers.Text b → a ≡ b
one_text a b e = cc

no_text : (a : Text) → answers.Text a ≡ answers.Absent → ⊥
no_text a e = cc

-- the part whose stream a text is
record IsTextOf (rules : List Rule) (ms : List Member) (words : PlainMove) (moment : ℕ) (text : Text) : Type 0 where
  pub part : Part
  pub there : part_under words.name (parts_of rules ms) ≡ Some part
  pub is : text ≡ move_text words.set words.into words.first moment part

text_of : (rules : List Rule) (ms : List Member) (words : PlainMove) (moment : ℕ) (text : Text) (o : Option Part) → part_under words.name (parts_of rules ms) ≡ o
    → answers.Text text ≡ text_or_absent (option_map (move_text words.set words.into words.first moment) o) → IsTextOf rules ms words moment text
text_of rules ms words moment text None found same = absurd (no_text text same)
text_of rules ms words moment text (Some part) found same = record { part = part; there = found; is = one_text text (move_text words.set words.into words.first moment part) same }

-- a part that is found has some of the set's addresses
found_named : (rules : List Rule) (set : List Text) (name : Text) (part : Part) (ns : List Text) → find (is_named name) (map (part_named rules set) ns) ≡ Some part → (n : Text) × (part_named rules set n ≡ part)
found_named rules set name part [] e = absurd (none_some part e)
found_named rules set name part (n ∷ ns) e = go (is_named name (part_named rules set n)) e (found_named rules set name part ns)
  where
    go : (t : Bool) → cond t (Some (part_named rules set n)) (find (is_named name) (map (part_named rules set) ns)) ≡ Some part → (find (is_named name) (map (part_named rules set) ns) ≡ Some part → (n : Text) × (part_named rules set n ≡ part))
        → (n : Text) × (part_named rules set n ≡ part)
    go true is more = (n, one_some (part_named rules set n) part is)
    go false is more = more is

filter_each : (P : Text → Type 0) (test : Text → Bool) (xs : List Text) → AllByRecursion P xs → AllByRecursion P (filter test xs)
filter_each P test [] all = tt
filter_each P test (x ∷ xs) all = go (test x) (filter_each P test xs all.1)
  where
    go : (t : Bool) → AllByRecursion P (filter test xs) → AllByRecursion P (cond t (x ∷ filter test xs) (filter test xs))
    go true more = (all.0, more)
    go false more = more

each_address : (ms : List Member) → AllByRecursion (λ m. IsAddress m.who × IsMoment m.since) ms → AllByRecursion IsAddress (map (λ m. m.who) ms)
each_address [] all = tt
each_address (m ∷ ms) all = (all.0.0, each_address ms all.1)

-- reading the stream of a part's moves gives the moves again
read_again : (dir : Dir) (rules : List Rule) (ms : List Member) (words : PlainMove) (moment : ℕ) (text : Text) → AreSubscribers dir words.set ms → IsMoment moment → words.first ≤ 999_999_900_000 → (of : IsTextOf rules ms words moment text)
    → IsStream 0 text (numbered words.first moment (moves of.part words.set words.into)) End
read_again dir rules ms words moment text is time low of =
    let set = map (λ (m : Member). m.who) ms in
    let named = found_named rules set words.name of.part (names rules) of.there in
    let test = goes_to rules named.0 in
    let size : length set ≡ length ms = length-map ms (λ (m : Member). m.who) in
    let few : length ms ≤ 100_000 = is.few in
    let small : length of.part.members ≤ length set = subst (λ (p : Part). length p.members ≤ length set) named.1 (filter_small test set) in
    let numbers : AreNumbers words.first (length of.part.members) = omega (arith, low, few, size, small) in
    let all = subst (λ (p : Part). AllByRecursion IsAddress p.members) named.1 (filter_each IsAddress test set (each_address ms (subscribers_each dir words.set ms is))) in
    subst (λ (t : Text). IsStream 0 t (numbered words.first moment (moves of.part words.set words.into)) End) (sym of.is) (moves_read words.first moment of.part words.set words.into time numbers all)

module _ {I S K : Type 0} (source : SourceGhosts I) (ghosts : Ghosts S) (clocks : ClockGhosts K) (input next : I) (old new : S) (clock after : K) (status : ℕ) (reads : IsTrue ghosts.tells_reads) (all : IsTrue ghosts.tells_all) (zero : status ≡ 0)
    (files : Dir) (q : State) (dir : directory (ghosts.disk old).reads ≡ Some files) (state : IsState files q) where
  moves_put : (words : PlainMove) (moment : ℕ) (question : Moving) (text : Text) → words.first ≤ 999_999_900_000 → IsMomentOf clocks true clock moment → IsInput source 1_048_576 input next text → moving_of words moment (rules_in text) ≡ Ok question
      → GivesAnswer ghosts ((moving_asked words).meaning question) old new status → PutsMoves source clocks words (q.plain.sets words.set) input next clock (ghosts.output old) (ghosts.output new)
  moves_put words moment question text low time given made answer =
      let ms = q.plain.sets words.set in
      let of = move_made words moment text question (rules_in text) refl made in
      let found = text_put (IsTrue ghosts.tells_all) status (((moving_asked words).meaning question).of_list q.plain) (ghosts.output old) (ghosts.output new) (answer.complete reads files q dir state) zero all in
      let same : answers.Text found.0 ≡ text_or_absent (moving_text of.rules ms words.name words.set words.into words.first moment) =
      sym found.1 ∙ ap (λ (m : Moving). text_or_absent (moving_text m.rules (q.plain.sets m.words.set) m.words.name m.words.set m.words.into m.words.first m.moment)) of.is in
      let its = text_of of.rules ms words moment found.0 (part_under words.name (parts_of of.rules ms)) refl same in
      record {
        text = text;
        input_is = given;
        rules = of.rules;
        rules_are = of.are;
        part = its.part;
        part_is = its.there;
        moment = moment;
        moment_is = time;
        puts = record { stream = found.0; put = found.2; is = read_again files of.rules ms words moment found.0 (state.list.sets words.set) time.0 low its };
      }

  mails_put : LawImporting → (first moment : ℕ) (question : Importing) (text : Text) → IsFirst first → IsMomentOf clocks true clock moment → IsInput source 268_435_456 input next text → importing_of first moment text ≡ Ok question
      → GivesAnswer ghosts ((importing_asked first).meaning question) old new status → PutsMails source clocks first q.plain.config input next clock (ghosts.output old) (ghosts.output new)
  mails_put law first moment question text low time given made answer =
      let c = q.plain.config in
      let found = text_put (IsTrue ghosts.tells_all) status (((importing_asked first).meaning question).of_list q.plain) (ghosts.output old) (ghosts.output new) (answer.complete reads files q dir state) zero all in
      let is = law first moment text found.0 question c files low time.0 given.fits state.list.config.is made (sym found.1) in
      record {
        text = text;
        input_is = given;
        mails = is.0;
        mails_are = is.1;
        moment = moment;
        moment_is = time;
        puts = record { stream = found.0; put = found.2; is = is.2 };
      }

-- what a command does prints the stream that it asks for
pub prints : {I S K : Type 0} (source : SourceGhosts I) (ghosts : Ghosts S) (clocks : ClockGhosts K) → LawImporting → (wanted : Result Command WordsError) (input next : I) (old new : S) (clock after : K) (status : ℕ)
    → Does source ghosts clocks wanted input next old new clock after status → Prints source ghosts clocks wanted input next old new clock status
prints source ghosts clocks law (Ok (Spool limit)) input next old new clock after status d = tt
prints source ghosts clocks law (Ok (Deliver number sender recipient)) input next old new clock after status d = tt
prints source ghosts clocks law (Ok (Make config key)) input next old new clock after status d = tt
prints source ghosts clocks law (Ok (Exercise count)) input next old new clock after status d = tt
prints source ghosts clocks law (Ok (Single number act)) input next old new clock after status d = tt
prints source ghosts clocks law (Err error) input next old new clock after status d = tt
prints source ghosts clocks law (Ok (Give (inquiries.Query query))) input next old new clock after status d = λ reads all zero files q dir state. tt
prints source ghosts clocks law (Ok (Give inquiries.Check)) input next old new clock after status d = λ reads all zero files q dir state. tt
prints source ghosts clocks law (Ok (Give (inquiries.Pages query))) input next old new clock after status d = λ reads all zero files q dir state. tt
prints source ghosts clocks law (Ok (Give (inquiries.Mailbox query))) input next old new clock after status d = λ reads all zero files q dir state. tt
prints source ghosts clocks law (Ok (Give (inquiries.Split set))) input next old new clock after status d = λ reads all zero files q dir state. tt
prints source ghosts clocks law (Ok (Give (inquiries.Move words))) input next old new clock after status d = λ reads all zero files q dir state low.
    ⊎_elim (λ asks. ⊎_elim
    (λ now. ⊎_elim
    (λ asked. moves_put source ghosts clocks input next old new clock after status reads all zero files q dir state words now.0 asked.0 asked.1.0 low now.1 asked.1.1 asked.1.2 asked.2)
    (λ none. absurd (says_not_zero ghosts old new status none.0 none.2 zero)) now.2)
    (λ failed. absurd (says_not_zero ghosts old new status whys.Clock failed.1 zero)) asks)
    (λ memory. absurd (says_not_zero ghosts old new status whys.Memory memory.0 zero)) d
prints source ghosts clocks law (Ok (Give (inquiries.Import first))) input next old new clock after status d = λ reads all zero files q dir state low.
    ⊎_elim (λ asks. ⊎_elim
    (λ now. ⊎_elim
    (λ asked. mails_put source ghosts clocks input next old new clock after status reads all zero files q dir state law first now.0 asked.0 asked.1.0 low now.1 asked.1.1 asked.1.2 asked.2)
    (λ none. absurd (says_not_zero ghosts old new status none.0 none.2 zero)) now.2)
    (λ failed. absurd (says_not_zero ghosts old new status whys.Clock failed.1 zero)) asks)
    (λ memory. absurd (says_not_zero ghosts old new status whys.Memory memory.0 zero)) d

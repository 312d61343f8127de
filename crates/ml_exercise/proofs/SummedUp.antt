-- What is said after all answers of an exercise.
use Rattle.std.proofs.Common.{◌≡◌, inl, inr, ⊎_elim, ℕ, Bool, true, false, IsTrue, ◌+◌, ◌++◌, length, ◌≤◌, take, min, Option, None, ap, ap₂, sym, refl, subst, ◌∙◌, ◌||◌, ◌&&◌, arith}
use Rattle.std.specs.Prelude.{IsSome}
use Rattle.std.proofs.Math.Seq.{take-append-add}
use Rattle.std.proofs.lemmas.List.{append-nil, append_assoc, take_min, take-append-le}
use Rattle.ml_base.specs.Bytes.{Text}
use Rattle.ml_base.specs.Dir.{Dir}
use Rattle.ml_base.specs.Faults.{Rose}
use Rattle.ml_check.specs.Checking.{check_meaning, IsFound}
use Rattle.ml_check.specs.Sizes.{sizes_of, whole_line}
use Rattle.ml_check.proofs.Answered.{sizes_are}
use Rattle.ml_plain.specs.Directory.{IsState}
use Rattle.ml_plain.specs.Histories.{State}
use Rattle.ml_plain.specs.Plain.{Plain}
use Rattle.ml_site.specs.Disk.{Disk, Giving, IsAtRest, IsImage}
use Rattle.ml_site.specs.Instants.{LeavesOnly}
use Rattle.ml_site.specs.declared.site.Site.{Ghosts}
use Rattle.ml_site.proofs.Steps.{at_start, goes_on, joins, rest_contents}
use Rattle.ml_journal.specs.Calls.{OnlyNow}
use Rattle.ml_journal.specs.Log.{directory}
use Rattle.ml_journal.specs.Stores.{the_dir}
use Rattle.ml_ending.specs.Endings.{SaysAtMost, Tells, TellsAtMost}
use Rattle.ml_ending.specs.Lines.{stop_text}
use Rattle.ml_ending.proofs.Finished.{rose_earlier}
use Rattle.ml_ending.proofs.Said.{tells_front}
use Rattle.ml_reading.specs.declared.question.Answer.TheVariants as answers
use Rattle.ml_reading.specs.Giving.{GivesAnswer}
use Rattle.ml_reading.specs.Readings.{GivesText, IsAnswer, IsFront, IsLeftByReading, IsRefusal, Reads, is_reading_status}
use Rattle.ml_run.specs.Leaving.{HasState}
use Rattle.ml_run.proofs.Leaving.{same_state}
use Rattle.ml_exercise.specs.Summing.{exercised_line, IsLooking, IsLookingAt, IsSummingUp, NamesWhole, SumsUp, TellsOf, two_lines}
use Rattle.ml_run.proofs.MadeLists.{some_status}

-- the text of a check is the line of the list
text_is : (dir : Option Dir) (q : State) (text : Text) → HasState dir q → IsAnswer check_meaning dir text → text ≡ whole_line (sizes_of q.plain)
text_is dir q text state answer =
    let same : state.files ≡ answer.files = ap the_dir (sym state.is ∙ answer.is) in
    let found : IsFound answer.files (answers.Text text) = answer.text_is.2 in
    found.2
    ∙ ap whole_line (sizes_are answer.files q found.0 (sizes_of found.0.plain) (subst (λ (d : Dir). IsState d q) same state.stands) found.1 refl)

-- some first bytes of a text are some of a longer one
front_longer : (line more before out : Text) → TellsAtMost line before out → TellsAtMost (line ++ more) before out
front_longer line more before out front =
    let n = min front.0 (length line) in
    let few : n ≤ length line = omega arith in
    (n, front.1 ∙ ap (λ (o : Text). before ++ o) (sym (take-append-le n line more few ∙ take_min front.0 line)))

-- some first bytes after a text are, with the text, some first bytes of both
front_after : (line more before out : Text) → TellsAtMost more (before ++ line) out → TellsAtMost (line ++ more) before out
front_after line more before out front =
    (length line + front.0, front.1 ∙ append_assoc before line (take front.0 more) ∙ ap (λ (o : Text). before ++ o) (sym (take-append-add line more front.0)))

nothing_out : (lines before out : Text) → out ≡ before → TellsAtMost lines before out
nothing_out lines before out is = (0, is ∙ sym (append-nil before))

-- what is out of a check, after the line of how many items there were
front_is : (dir : Option Dir) (q : State) (count : ℕ) (before now out : Text) → HasState dir q → now ≡ before ++ exercised_line count → IsFront check_meaning dir now out → IsSummingUp count q.plain before out
front_is dir q count before now out state is front = ⊎_elim
    (λ said. inr (subst (λ (b : Text). SaysAtMost b out) is said))
    (λ given. inl (front_after (exercised_line count) (whole_line (sizes_of q.plain)) before out
    (subst (λ (t : Text). TellsAtMost t (before ++ exercised_line count) out) (text_is dir q given.0 state given.1) (subst (λ (b : Text). TellsAtMost given.0 b out) is given.2))))
    front

-- what a check gives after that line
tells_of : (told : Type 0) (status : ℕ) (dir : Option Dir) (q : State) (count : ℕ) (before now output : Text) → HasState dir q → (told → now ≡ before ++ exercised_line count)
    → GivesText told status (whole_line (sizes_of q.plain)) now output → Reads told status check_meaning dir now output → TellsOf told status count q.plain before output
tells_of told status dir q count before now output state is gives (inl whole) = inl (
  whole.status_is,
  λ t. whole.put t ∙ ap₂ (λ (b l : Text). b ++ l) (is t) (text_is dir q whole.text state whole.answer) ∙ append_assoc before (exercised_line count) (whole_line (sizes_of q.plain)),
)
tells_of told status dir q count before now output state is gives (inr (inl refused)) = inr (inl (
  refused.why,
  refused.status_is,
  ⊎_elim (λ zero. absurd (some_status refused.why (sym refused.status_is ∙ zero.0))) (λ h. h) gives,
  λ t. refused.put t ∙ ap (λ (b : Text). b ++ stop_text None status refused.why) (is t),
))
tells_of told status dir q count before now output state is gives (inr (inr cut)) = inr (inr (cut.status_is, λ t. front_is dir q count before now output state (is t) (cut.put t)))

-- the same over an output that was the same before
pub tells_before : (told : Type 0) (status count : ℕ) (list : Plain) (old new output : Text) → (told → old ≡ new) → TellsOf told status count list old output → TellsOf told status count list new output
tells_before told status count list old new output same (inl whole) = inl (whole.0, λ t. whole.1 t ∙ ap (λ (b : Text). b ++ two_lines count list) (same t))
tells_before told status count list old new output same (inr (inl line)) =
    inr (inl (line.0, line.1, line.2, λ t. line.3 t ∙ ap (λ (b : Text). (b ++ exercised_line count) ++ stop_text None status line.0) (same t)))
tells_before told status count list old new output same (inr (inr cut)) = inr (inr (cut.0, λ t. subst (λ (b : Text). IsSummingUp count list b output) (same t) (cut.1 t)))

plain_known : (b : Bool) → (b || (false && true) || (false && true)) ≡ true → b ≡ true
plain_known true is = refl
plain_known false is = is

module _ {S : Type 0} (ghosts : Ghosts S) (reads_told : IsTrue ghosts.tells_all → IsTrue ghosts.tells_reads) (only_now : OnlyNow ghosts) (count : ℕ) (old mid : S) (line : ℕ) (tells : Tells ghosts old mid line (exercised_line count)) where
  state_at : IsTrue ghosts.tells_reads → (q : State) → HasState (directory (ghosts.disk old).reads) q → HasState (directory (ghosts.disk mid).reads) q
  state_at r q state = same_state (directory (ghosts.disk old).reads) (directory (ghosts.disk mid).reads) q (ap directory (tells.reads r)) state

  -- the instants of the line of how many items there were
  line_instants : IsAtRest (ghosts.disk old) → (q : State) → IsTrue ghosts.tells_all
      → LeavesOnly ghosts.instant ghosts.left_since ghosts.disk ghosts.output old mid (IsLooking (directory (ghosts.disk old).reads) count q.plain (ghosts.output old))
  line_instants rest q t =
      let lines = two_lines count q.plain in
      let P = IsLooking (directory (ghosts.disk old).reads) count q.plain (ghosts.output old) in
      goes_on ghosts.instant ghosts.left_since ghosts.disk ghosts.output old old mid P (Giving (ghosts.disk old) (ghosts.output old) (exercised_line count))
      (at_start ghosts.instant ghosts.left_since ghosts.disk ghosts.output (λ site left out l. only_now site left out t l) old P rest (λ left is out put. (ap directory is, inl (nothing_out lines (ghosts.output old) out put))))
      (tells.time t)
      (λ left out g. (ap directory (rest_contents (ghosts.disk old) left rest g.0), inl (front_longer (exercised_line count) (whole_line (sizes_of q.plain)) (ghosts.output old) out g.1)))
      (λ left image. (subst (λ (d : Disk). IsImage d left) (tells.disk_is t) image, tells_front ghosts old mid line (exercised_line count) tells t))

  -- the same, whatever the directory holds
  any_instants : IsAtRest (ghosts.disk old) → IsTrue ghosts.tells_all
      → LeavesOnly ghosts.instant ghosts.left_since ghosts.disk ghosts.output old mid (IsLookingAt (directory (ghosts.disk old).reads) count (ghosts.output old))
  any_instants rest t =
      let P = IsLookingAt (directory (ghosts.disk old).reads) count (ghosts.output old) in
      goes_on ghosts.instant ghosts.left_since ghosts.disk ghosts.output old old mid P (Giving (ghosts.disk old) (ghosts.output old) (exercised_line count))
      (at_start ghosts.instant ghosts.left_since ghosts.disk ghosts.output (λ site left out l. only_now site left out t l) old P rest (λ left is out put. (ap directory is, inl (nothing_out (exercised_line count) (ghosts.output old) out put))))
      (tells.time t)
      (λ left out g. (ap directory (rest_contents (ghosts.disk old) left rest g.0), inl g.1))
      (λ left image. (subst (λ (d : Disk). IsImage d left) (tells.disk_is t) image, tells_front ghosts old mid line (exercised_line count) tells t))

  -- the output failed before the list was looked over
  pub cut_short : (line ≡ 0 → ⊥) → SumsUp ghosts count old mid line
  cut_short bad = ⊎_elim (λ whole. absurd (bad whole.0)) go tells.line_is
    where
      go : ((line ≡ 73) × Rose (ghosts.output_faults old) (ghosts.output_faults mid) × (IsTrue ghosts.tells_all → (n : ℕ) × (ghosts.output mid ≡ ghosts.output old ++ take n (exercised_line count)))) → SumsUp ghosts count old mid line
      go cut = record {
        known = subst (λ (n : ℕ). is_reading_status n ≡ true) (sym cut.0) refl;
        same = λ r. ap directory (tells.reads r);
        given = λ r q state. inr (inr (cut.0, λ t. inl (front_longer (exercised_line count) (whole_line (sizes_of q.plain)) (ghosts.output old) (ghosts.output mid) (cut.2 t))));
        at_rest = λ rest q state t. line_instants rest q t;
        anywhere = any_instants;
        rest = λ none one two. absurd (two cut.0);
        gate = λ some one two three. absurd (two cut.0);
        of_disk = λ e. let is = cut.0 in absurd (omega (arith, e, is));
        of_output = λ e. cut.1;
        named = λ r e. let is = cut.0 in absurd (omega (arith, e, is));
      }

  -- the list was looked over
  module _ (new : S) (status : ℕ) (gives : GivesAnswer ghosts check_meaning mid new status) (zero : line ≡ 0) where
    line_out : IsTrue ghosts.tells_all → ghosts.output mid ≡ ghosts.output old ++ exercised_line count
    line_out t = ⊎_elim (λ whole. whole.1 t) (λ cut. let is = cut.0 in absurd (omega (arith, zero, is))) tells.line_is

    read_named : IsTrue ghosts.tells_reads → status ≡ 75 → NamesWhole (IsTrue ghosts.tells_all) (directory (ghosts.disk new).reads) (ghosts.output new)
    read_named r e = go (gives.given r)
      where
        go : Reads (IsTrue ghosts.tells_all) status check_meaning (directory (ghosts.disk mid).reads) (ghosts.output mid) (ghosts.output new) → NamesWhole (IsTrue ghosts.tells_all) (directory (ghosts.disk new).reads) (ghosts.output new)
        go (inl whole) = absurd (omega (arith, whole.status_is, e))
        go (inr (inl refused)) = record {
          why = refused.why;
          before = ghosts.output mid;
          put = λ t. refused.put t ∙ ap (λ (n : ℕ). ghosts.output mid ++ stop_text None n refused.why) e;
          refusal = subst (λ (d : Option Dir). IsRefusal refused.why check_meaning d) (sym (gives.same r)) refused.refusal;
        }
        go (inr (inr cut)) = absurd (omega (arith, cut.status_is, e))

    pub looked_over : SumsUp ghosts count old new status
    looked_over = record {
      known = plain_known (is_reading_status status) gives.known;
      same = λ r. gives.same r ∙ ap directory (tells.reads r);
      given = λ r q state.
          let here = state_at r q state in
          tells_of (IsTrue ghosts.tells_all) status (directory (ghosts.disk mid).reads) q count (ghosts.output old) (ghosts.output mid) (ghosts.output new) here line_out
          (gives.complete r here.files q here.is here.stands) (gives.given r);
      at_rest = λ rest q state t.
          let r = reads_told t in
          let here = state_at r q state in
          let still : IsAtRest (ghosts.disk mid) = subst (λ (d : Disk). IsAtRest d) (sym (tells.disk_is t)) rest in
          joins ghosts.instant ghosts.left_since ghosts.disk ghosts.output old mid new (IsLooking (directory (ghosts.disk old).reads) count q.plain (ghosts.output old)) (IsLeftByReading check_meaning (directory (ghosts.disk mid).reads) (ghosts.output mid))
          (IsLooking (directory (ghosts.disk old).reads) count q.plain (ghosts.output old)) (line_instants rest q t) (gives.at_rest still t) (λ left out p. p)
          (λ left out p. (p.0 ∙ ap directory (tells.reads r), front_is (directory (ghosts.disk mid).reads) q count (ghosts.output old) (ghosts.output mid) out here (line_out t) p.1));
      anywhere = λ rest t.
          let same = ap directory (tells.reads (reads_told t)) in
          let still : IsAtRest (ghosts.disk mid) = subst (λ (d : Disk). IsAtRest d) (sym (tells.disk_is t)) rest in
          let P = IsLookingAt (directory (ghosts.disk old).reads) count (ghosts.output old) in
          joins ghosts.instant ghosts.left_since ghosts.disk ghosts.output old mid new P (IsLeftByReading check_meaning (directory (ghosts.disk mid).reads) (ghosts.output mid)) P (any_instants rest t) (gives.at_rest still t) (λ left out p. p)
          (λ left out p. (
            p.0 ∙ same,
            inr (subst (λ (d : Option Dir). IsFront check_meaning d (ghosts.output old ++ exercised_line count) out) same
                (subst (λ (b : Text). IsFront check_meaning (directory (ghosts.disk mid).reads) b out) (line_out t) p.1)),
          ));
      rest = λ none one two. gives.rest (λ rose. none (subst (λ (n : ℕ). Rose n (ghosts.disk_faults new)) tells.disk_faults rose)) one two;
      gate = λ some one two three r. gives.gate (subst (λ (d : Option Dir). IsSome d) (sym (ap directory (tells.reads r))) some) one two three r;
      of_disk = λ e. subst (λ (n : ℕ). Rose n (ghosts.disk_faults new)) tells.disk_faults (gives.of_disk e);
      of_output = λ e. rose_earlier (ghosts.output_faults old) (ghosts.output_faults mid) (ghosts.output_faults new) tells.output_faults (gives.of_output e);
      named = read_named;
    }

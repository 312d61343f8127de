-- What a run takes from the source, and that it does no more than that.
use Rattle.std.proofs.Common.{◌≡◌, ⊎_elim, ℕ, ◌+◌, ◌-◌, ◌≤◌, true, IsTrue, List, [], ◌∷◌, ◌++◌, length, take, Option, Some, None, ap, sym, refl, subst, ◌∙◌, arith, append_assoc, length-append}
use Rattle.std.proofs.Math.Seq.{take-append_seam}
use Rattle.ml_base.specs.Bytes.{Text}
use Rattle.ml_base.specs.Faults.{Rose}
use Rattle.ml_site.specs.declared.site.Site.{Ghosts}
use Rattle.ml_journal.specs.Log.{directory}
use Rattle.ml_journal.specs.Calls.{IsClean}
use Rattle.ml_plain.specs.declared.Item.{Item}
use Rattle.ml_plain.specs.Histories.{State, fold, text}
use Rattle.ml_plain.specs.Replies.{is_status}
use Rattle.ml_list.proofs.States.{fold-nil, text-nil}
use Rattle.std.proofs.lemmas.List.{append-nil}
use Rattle.ml_stream.specs.declared.items.Items.{Items}
use Rattle.ml_run.specs.declared.batches.BatchEnd.{BatchEnd}
use Rattle.ml_run.specs.declared.batches.BatchEnd.TheVariants as ends
use Rattle.ml_ending.specs.declared.lines.Why.{Why}
use Rattle.ml_ending.specs.declared.lines.Why.TheVariants as whys
use Rattle.ml_stream.specs.Stream.{got, StreamEnd, End, IsStream, item_at}
use Rattle.ml_stream.specs.Items.{place_of}
use Rattle.ml_ending.specs.Stops.{status_of_why}
use Rattle.ml_ending.specs.Lines.{stop_text}
use Rattle.ml_run.specs.Batches.{HasWhole, TakesTo, TakesSome, IsNumberOf}
use Rattle.ml_run.specs.Leaving.{HasState, IsAfterSome}
use Rattle.ml_ending.specs.Endings.{StopLine, ClosesTo, Says, Finishes}
use Rattle.ml_run.specs.Endings.{FromTaken, TakesFew}
use Rattle.ml_stream.proofs.Ahead.{stream_item}
use Rattle.ml_run.proofs.Causes.{status_not}
use Rattle.ml_run.proofs.Leaving.{same_state, other_list, reached_none, saying}
use Rattle.ml_stream.proofs.Locality.{item_local}
use Rattle.ml_ending.proofs.Said.{says_front}
use Rattle.ml_run.proofs.Streamed.{is_failing, failing_not}
use Rattle.ml_run.proofs.Taking.{spells_joined, spells_stream}

-- whole items of some bytes are items of more bytes
stream_wider : (place : ℕ) (front more : Text) (xs after all : List Item) (ending other : StreamEnd) → IsStream place front (xs ++ after) ending → IsStream place (front ++ more) all other → (later : List Item) × (all ≡ xs ++ later)
stream_wider place front more [] after all ending other s t = (all, refl)
stream_wider place front more (x ∷ xs) after all ending other s t =
    let one = item_local place front x s.0 s.1 s.2 in
    let wide : item_at place (front ++ more) ≡ got (Some x) s.0 (s.1 ++ more) = ap (item_at place) (ap (λ (b : Text). b ++ more) one.split ∙ append_assoc one.one s.1 more) ∙ one.all (s.1 ++ more) in
    let next = stream_item place s.0 (front ++ more) (s.1 ++ more) x all other t wide in
    let rest = stream_wider s.0 s.1 more xs after next.0 ending other s.3 next.2 in
    (rest.0, next.1 ∙ ap (λ (l : List Item). x ∷ l) rest.1)

prefix_same : (xs ys xs' ys' : List Item) → xs ++ ys ≡ xs' ++ ys' → length xs ≡ length xs' → xs ≡ xs'
prefix_same xs ys xs' ys' is long = sym (take-append_seam xs ys) ∙ ap (λ (n : ℕ). take n (xs ++ ys)) long ∙ ap (take (length xs')) is ∙ take-append_seam xs' ys'

-- what the end of a batch tells of the items after it that the bytes hold
abbrev pub EndsTo : BatchEnd → ℕ → List Item → Type 0
EndsTo ends.Full more after = after ≡ []
EndsTo ends.Last more after = after ≡ []
EndsTo (ends.Stopped who why) more after = IsNumberOf who (take more after) × (why ≡ whys.Input → after ≡ []) × (length after ≤ more)

takes_whole : (end : BatchEnd) (place : ℕ) (front rest : Text) (items : List Item) (more : ℕ) (reader : Items) (left : Option Text) → TakesTo end place front rest items more reader left → HasWhole place front items (EndsTo end more)
takes_whole ends.Full place front rest items more reader left t =
    record { after = []; ending = End; stream = subst (λ (b : Text). IsStream place b (items ++ []) End) (append-nil front) (spells_stream place (place_of reader) front [] items [] End t.0 refl); holds = refl }
takes_whole ends.Last place front rest items more reader left t = record { after = t.after; ending = t.ending; stream = t.stream; holds = t.holds }
takes_whole (ends.Stopped who why) place front rest items more reader left t = record { after = t.0.after; ending = t.0.ending; stream = t.0.stream; holds = t.0.holds }

-- they are no more than were to be read
ends_few : (end : BatchEnd) (more : ℕ) (after : List Item) → EndsTo end more after → length after ≤ more
ends_few ends.Full more after e = omega (arith, ap length e)
ends_few ends.Last more after e = omega (arith, ap length e)
ends_few (ends.Stopped who why) more after e = e.2

-- a batch that was read after others
pub takes_joined : (bytes : Text) (answered count m0 m1 m2 : ℕ) (reader next : Items) (left left' : Option Text) (t : TakesSome ends.Full 0 bytes answered m0 reader left) → TakesSome ends.Full (place_of reader) t.2.rest count m1 next left'
    → TakesSome ends.Full 0 bytes (answered + count) m2 next left'
takes_joined bytes answered count m0 m1 m2 reader next left left' t u = (
  t.0 ++ u.0,
  length-append t.0 u.0 ∙ (let e : length t.0 + length u.0 ≡ answered + count = omega (arith, t.1, u.1) in e),
  record {
    front = t.2.front ++ u.2.front;
    rest = u.2.rest;
    split = t.2.split ∙ ap (λ (b : Text). t.2.front ++ b) u.2.split ∙ sym (append_assoc t.2.front u.2.front u.2.rest);
    left_is = u.2.left_is;
    holds = (spells_joined 0 (place_of reader) (place_of next) t.2.front u.2.front t.0 u.0 t.2.holds.0 u.2.holds.0, u.2.holds.1, u.2.holds.2);
  },
)

-- what was taken up to the end of a batch
pub from_taken : (before left left' : Option Text) (bytes : Text) (all : List Item) (ending : StreamEnd) (done ahead items rest : List Item) (answered count m0 more : ℕ) (reader next : Items) (end : BatchEnd) (P : List Item → Type 0)
    → before ≡ Some bytes → IsStream 0 bytes all ending → all ≡ done ++ ahead → answered ≡ length done → ahead ≡ items ++ rest → count ≡ length items
    → (t : TakesSome ends.Full 0 bytes answered m0 reader left) → TakesSome end (place_of reader) t.2.rest count more next left'
    → ((after : List Item) → EndsTo end more after → P (done ++ (items ++ after))) → FromTaken before left' P
from_taken before left left' bytes all ending done ahead items rest answered count m0 more reader next end P is stream split done_is cut items_is t u f =
    let w = takes_whole end (place_of reader) u.2.front u.2.rest u.0 more next left' u.2.holds in
    let front = t.2.front ++ u.2.front in
    let parts : bytes ≡ front ++ u.2.rest = t.2.split ∙ ap (λ (b : Text). t.2.front ++ b) u.2.split ∙ sym (append_assoc t.2.front u.2.front u.2.rest) in
    let whole : IsStream 0 front ((t.0 ++ u.0) ++ w.after) w.ending =
    subst (λ (l : List Item). IsStream 0 front l w.ending) (sym (append_assoc t.0 u.0 w.after)) (spells_stream 0 (place_of reader) t.2.front u.2.front t.0 (u.0 ++ w.after) w.ending t.2.holds.0 w.stream) in
    let wider = stream_wider 0 front u.2.rest (t.0 ++ u.0) w.after all w.ending ending whole (subst (λ (b : Text). IsStream 0 b all ending) parts stream) in
    let mine : all ≡ (done ++ items) ++ rest = split ∙ ap (λ (l : List Item). done ++ l) cut ∙ sym (append_assoc done items rest) in
    let same : t.0 ++ u.0 ≡ done ++ items = prefix_same (t.0 ++ u.0) wider.0 (done ++ items) rest (sym wider.1 ∙ mine) (length-append t.0 u.0 ∙ (let e : length t.0 + length u.0 ≡ length done + length items = omega (arith, t.1, u.1, done_is, items_is) in e) ∙ sym (length-append done items)) in
    let all_of : (t.0 ++ u.0) ++ w.after ≡ done ++ (items ++ w.after) = ap (λ (l : List Item). l ++ w.after) same ∙ append_assoc done items w.after in record {
      taken = front;
      rest = u.2.rest;
      before_is = is ∙ ap (λ (b : Text). Some b) parts;
      after_is = u.2.left_is;
      items = done ++ (items ++ w.after);
      ending = w.ending;
      stream = subst (λ (l : List Item). IsStream 0 front l w.ending) all_of whole;
      holds = f w.after w.holds;
    }

-- how many items were taken up to there
pub few_taken : (before left left' : Option Text) (bytes : Text) (status limit answered count m0 more : ℕ) (reader next : Items) (end : BatchEnd) → before ≡ Some bytes → answered + count ≤ limit → more ≡ limit - answered - count
    → (t : TakesSome ends.Full 0 bytes answered m0 reader left) → TakesSome end (place_of reader) t.2.rest count more next left' → (status ≡ 72 → (who : Option ℕ) × (end ≡ ends.Stopped who whys.More)) → TakesFew status limit before left'
few_taken before left left' bytes status limit answered count m0 more reader next end is few room t u only =
    let w = takes_whole end (place_of reader) u.2.front u.2.rest u.0 more next left' u.2.holds in
    let front = t.2.front ++ u.2.front in
    let after_few = ends_few end more w.after w.holds in record {
      taken = front;
      rest = u.2.rest;
      before_is = is ∙ ap (λ (b : Text). Some b) (t.2.split ∙ ap (λ (b : Text). t.2.front ++ b) u.2.split ∙ sym (append_assoc t.2.front u.2.front u.2.rest));
      after_is = u.2.left_is;
      items = t.0 ++ (u.0 ++ w.after);
      ending = w.ending;
      stream = spells_stream 0 (place_of reader) t.2.front u.2.front t.0 (u.0 ++ w.after) w.ending t.2.holds.0 w.stream;
      few = omega (arith, length-append t.0 (u.0 ++ w.after), length-append u.0 w.after, after_few, t.1, u.1, few, room);
      more = λ e.
          let o = only e in
          let h = (subst (λ (end : BatchEnd). TakesTo end (place_of reader) u.2.front u.2.rest u.0 more next left') o.1 u.2.holds).1 refl in (
            t.2.front,
            u.2.front,
            t.0,
            refl,
            h.2,
            subst (λ (b : Text). IsStream 0 b t.0 End) (append-nil t.2.front) (subst (λ (l : List Item). IsStream 0 (t.2.front ++ []) l End) (append-nil t.0) (spells_stream 0 (place_of reader) t.2.front [] t.0 [] End t.2.holds.0 refl)),
            omega (arith, t.1, u.1, ap length h.0, h.1, few, room),
          );
    }

-- nothing was taken
pub few_none : (before : Option Text) (bytes : Text) (status limit : ℕ) → before ≡ Some bytes → is_failing status ≡ true → TakesFew status limit before before
few_none before bytes status limit is failing =
    record { taken = []; rest = bytes; before_is = is; after_is = is; items = []; ending = End; stream = refl; few = omega arith; more = λ e. absurd (failing_not status 72 refl failing e) }

pub nothing_taken : (before : Option Text) (bytes : Text) (P : List Item → Type 0) → before ≡ Some bytes → P [] → FromTaken before before P
nothing_taken before bytes P is p = record { taken = []; rest = bytes; before_is = is; after_is = is; items = []; ending = End; stream = refl; holds = p }

-- the same for equal bytes
pub taken_same : (before before' after after' : Option Text) (P : List Item → Type 0) → before' ≡ before → after' ≡ after → FromTaken before' after' P → FromTaken before after P
taken_same before before' after after' P one two t = subst (λ (o : Option Text). FromTaken before o P) two (subst (λ (o : Option Text). FromTaken o after' P) one t)

pub taken_map : (before after : Option Text) (P Q : List Item → Type 0) → FromTaken before after P → ((items : List Item) → P items → Q items) → FromTaken before after Q
taken_map before after P Q t f = record { taken = t.taken; rest = t.rest; before_is = t.before_is; after_is = t.after_is; items = t.items; ending = t.ending; stream = t.stream; holds = f t.items t.holds }

-- all items that the bytes hold are answered
pub all_answered : (count answered more : ℕ) (done items after : List Item) → count ≡ answered + more → answered ≡ length done → more ≡ length items → after ≡ [] → count ≡ length (done ++ (items ++ after))
all_answered count answered more done items after is done_is more_is none =
    let e : count ≡ length done + (length items + length after) = omega (arith, is, done_is, more_is, ap length none) in
    e ∙ ap (λ (n : ℕ). length done + n) (sym (length-append items after)) ∙ sym (length-append done (items ++ after))

-- status 74 has one reason
pub input_only : (why : Why) → status_of_why why ≡ 74 → why ≡ whys.Input
input_only whys.Input is = refl
input_only (whys.Bad at) is = absurd (omega (arith, is))
input_only (whys.Short at) is = absurd (omega (arith, is))
input_only whys.More is = absurd (omega (arith, is))
input_only whys.Memory is = absurd (omega (arith, is))
input_only whys.Disk is = absurd (omega (arith, is))
input_only whys.Usage is = absurd (omega (arith, is))
input_only whys.Words is = absurd (omega (arith, is))
input_only whys.Long is = absurd (omega (arith, is))
input_only whys.Clock is = absurd (omega (arith, is))
input_only whys.NoList is = absurd (omega (arith, is))
input_only (whys.At name) is = absurd (omega (arith, is))
input_only whys.There is = absurd (omega (arith, is))
input_only whys.Absent is = absurd (omega (arith, is))

-- and status 72 has one reason
pub more_only : (why : Why) → status_of_why why ≡ 72 → why ≡ whys.More
more_only whys.More is = refl
more_only whys.Input is = absurd (omega (arith, is))
more_only (whys.Bad at) is = absurd (omega (arith, is))
more_only (whys.Short at) is = absurd (omega (arith, is))
more_only whys.Memory is = absurd (omega (arith, is))
more_only whys.Disk is = absurd (omega (arith, is))
more_only whys.Usage is = absurd (omega (arith, is))
more_only whys.Words is = absurd (omega (arith, is))
more_only whys.Long is = absurd (omega (arith, is))
more_only whys.Clock is = absurd (omega (arith, is))
more_only whys.NoList is = absurd (omega (arith, is))
more_only (whys.At name) is = absurd (omega (arith, is))
more_only whys.There is = absurd (omega (arith, is))
more_only whys.Absent is = absurd (omega (arith, is))

abbrev why_in : StopLine → Why
why_in None = whys.Usage
why_in (Some line) = line.1

-- a line of status 74 that is said at the close is the line from before the close
line_input : (line final : StopLine) (rest disk : Type 0) (who : Option ℕ) (why : Why) → ClosesTo line final rest disk → final ≡ Some (who, why) → status_of_why why ≡ 74 → line ≡ Some (who, whys.Input)
line_input line final rest disk who why c is status =
    let input = input_only why status in
    let said : final ≡ Some (who, whys.Input) = is ∙ ap (λ (w : Why). Some (who, w)) input in
    ⊎_elim (λ same. sym same.0 ∙ said) (λ more. ⊎_elim (λ same. sym same.0 ∙ said) (λ other. ⊎_elim (λ m. absurd (memory _ who (sym m.0 ∙ said))) (λ d. absurd (disk_line _ who (sym d.0 ∙ said))) other) more) c
  where
    memory : (w who : Option ℕ) → ◌≡◌ {A = StopLine} (Some (w, whys.Memory)) (Some (who, whys.Input)) → ⊥
    memory w who e = let bad : whys.Memory ≡ whys.Input = ap why_in e in cc

    disk_line : (w who : Option ℕ) → ◌≡◌ {A = StopLine} (Some (w, whys.Disk)) (Some (who, whys.Input)) → ⊥
    disk_line w who e = let bad : whys.Disk ≡ whys.Input = ap why_in e in cc

module _ {S : Type 0} (ghosts : Ghosts S) where
  pub finished_input : (now new : S) (line : StopLine) (status last : ℕ) → Finishes ghosts now new line status last → is_status last ≡ true → status ≡ 74 → (who : Option ℕ) × (line ≡ Some (who, whys.Input))
  finished_input now new line status last f sound is = ⊎_elim
      (λ quiet. absurd (status_not last 74 sound (omega arith) (omega arith) (sym quiet.1 ∙ is)))
      (λ said. ⊎_elim
      (λ whole. (said.0, line_input line f.final (IsClean ghosts f.mid) (Rose (ghosts.disk_faults now) (ghosts.disk_faults f.mid)) said.0 said.1 f.closes said.2 (sym whole.0 ∙ is)))
      (λ cut. absurd (omega (arith, cut.0, is)))
      said.3.line)
      f.said

  pub finished_other : (now new : S) (who : Option ℕ) (why : Why) (status last : ℕ) → Finishes ghosts now new (Some (who, why)) status last → is_status last ≡ true → status ≡ 74 → why ≡ whys.Input
  finished_other now new who why status last f sound is = let h = finished_input now new (Some (who, why)) status last f sound is in some_why h.0 h.1
    where
      some_why : (w : Option ℕ) → ◌≡◌ {A = StopLine} (Some (who, why)) (Some (w, whys.Input)) → why ≡ whys.Input
      some_why w e = ap why_in e

  -- a stop line before the first item
  pub said_after : (start mid new : S) (q : State) (items : List Item) (status : ℕ) (why : Why) → HasState (directory (ghosts.disk start).reads) q → (IsTrue ghosts.tells_reads → directory (ghosts.disk mid).reads ≡ directory (ghosts.disk start).reads)
      → ghosts.output mid ≡ ghosts.output start → IsTrue ghosts.tells_reads → IsTrue ghosts.tells_all → Says ghosts mid new status None why → IsAfterSome q items (ghosts.output start) (ghosts.disk new).reads (ghosts.output new)
  said_after start mid new q items status why state same put r t s =
      let line = stop_text None (status_of_why why) why in
      let here : HasState (directory (ghosts.disk new).reads) (fold q []) = other_list (directory (ghosts.disk new).reads) q (fold q []) (sym (fold-nil q))
      (same_state (directory (ghosts.disk start).reads) (directory (ghosts.disk new).reads) q (ap directory (s.reads r) ∙ same r) state) in
      let before : ghosts.output start ≡ ghosts.output start ++ text q [] = sym (append-nil (ghosts.output start)) ∙ ap (λ (l : Text). ghosts.output start ++ l) (sym (text-nil q)) in
      let out = says_front ghosts mid new status None why s t in
      saying q items [] items (ghosts.output start) (ghosts.output new) line (ghosts.disk new).reads None why out.0 refl (reached_none q [] items (ghosts.disk new).reads here) tt refl (out.1 ∙ ap (λ (o : Text). o ++ take out.0 line) (put ∙ before))

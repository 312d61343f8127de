-- One batch of a run: what was gathered, and how the run goes on or ends after it.
use Rattle.std.proofs.Common.{◌≡◌, ◌≢◌, ◌⊎◌, inl, inr, ⊎_elim, ℕ, true, false, ◌+◌, ◌-◌, ◌<◌, ◌≤◌, IsTrue, List, [], ◌∷◌, ◌++◌, length, take, drop, Option, Some, None, ap, sym, refl, subst, ◌∙◌, arith, append_assoc, length-append}
use Rattle.std.specs.Prelude.{IsSome}
use Rattle.std.proofs.lemmas.List.{append-nil, take-append-drop}
use Rattle.ml_base.specs.Bytes.{Text}
use Rattle.ml_base.specs.declared.names.Name.{Name}
use Rattle.ml_site.specs.Disk.{Contents}
use Rattle.ml_site.specs.Instants.{LeavesOnly}
use Rattle.ml_site.specs.declared.site.Site.{Ghosts}
use Rattle.ml_journal.specs.Log.{directory}
use Rattle.ml_plain.specs.declared.Item.{Item}
use Rattle.ml_plain.specs.Histories.{State, fold, text}
use Rattle.ml_ending.specs.declared.lines.Why.{Why}
use Rattle.ml_ending.specs.declared.lines.Why.TheVariants as whys
use Rattle.ml_stream.specs.Stream.{StreamEnd, End}
use Rattle.ml_run.specs.Batches.{IsStop, IsFirst, IsNumberOf, HasReason}
use Rattle.ml_journal.specs.Calls.{Leaves}
use Rattle.ml_run.specs.Leaving.{HasState, IsAfterSome, IsServed, IsLeft, IsStopLine}
use Rattle.ml_site.proofs.Steps.{weaker}
use Rattle.ml_run.specs.Settling.{IsRefused}
use Rattle.ml_ending.specs.Endings.{Refuses}
use Rattle.ml_run.specs.Endings.{EndsEarly, HasMore, Runs, IsLine}
use Rattle.ml_run.proofs.Leaving.{take_split, same_state}
use Rattle.ml_run.proofs.Served.{said_instants, said_runs}

number_wider : (who : Option ℕ) (xs ys : List Item) → IsNumberOf who xs → IsNumberOf who (xs ++ ys)
number_wider None xs ys is = tt
number_wider (Some n) [] ys is = absurd is
number_wider (Some n) (x ∷ xs) ys is = is

line_wider : (waiting rest after : List Item) (line : Text) → IsStopLine (waiting ++ rest) line → IsStopLine (waiting ++ (rest ++ after)) line
line_wider waiting rest after line l = record {
  who = l.who;
  why = l.why;
  number = subst (λ (items : List Item). IsNumberOf l.who items) (append_assoc waiting rest after) (number_wider l.who (waiting ++ rest) after l.number);
  is = l.is;
}

-- what may be left of some items may be left of more
pub after_wider : (q : State) (items done after : List Item) (before out : Text) (left : Contents) → items ≡ done ++ after → IsAfterSome q done before left out → IsAfterSome q items before left out
after_wider q items done after before out left split p = record {
  first = p.first;
  rest = p.rest ++ after;
  split = split ∙ ap (λ (l : List Item). l ++ after) p.split ∙ append_assoc p.first p.rest after;
  state = p.state;
  put = ⊎_elim (λ a. inl a) (λ l. inr (record { answered = l.answered; waiting = l.waiting; split = l.split; front = l.front; more = l.more; line = line_wider l.waiting p.rest after (l.front ++ l.more) l.line; put = l.put })) p.put;
}

-- a stream cut after this many items
pub cut_split : (limit answered count : ℕ) (all done ahead items rest : List Item) → all ≡ done ++ ahead → answered ≡ length done → answered ≤ limit → ahead ≡ items ++ rest → count ≡ length items → count ≤ limit - answered
    → take limit all ≡ done ++ (items ++ take (limit - (answered + count)) rest)
cut_split limit answered count all done ahead items rest split count_is few next is le =
    ap (take limit) split ∙ take_split limit done ahead (omega (arith, count_is, few))
    ∙ ap (λ (l : List Item). done ++ l) (ap (λ (n : ℕ). take n ahead) (let e : limit - length done ≡ limit - answered = omega (arith, count_is) in e) ∙ ap (take (limit - answered)) next ∙ take_split (limit - answered) items rest (omega (arith, is, le))
    ∙ ap (λ (n : ℕ). items ++ take n rest) (let e : (limit - answered) - length items ≡ limit - (answered + count) = omega (arith, is) in e))

module _ {S : Type 0} (ghosts : Ghosts S) where
  -- what is served of the items that are done is served of more
  pub served_wider : (start now : S) (q : State) (items done after : List Item) → items ≡ done ++ after → IsServed ghosts start now q done done [] → IsServed ghosts start now q items done after
  served_wider start now q items done after split s = record {
    split = split;
    state = s.state;
    put = s.put;
    instants = λ t. weaker ghosts.instant ghosts.left_since ghosts.disk ghosts.output start now (IsAfterSome q done (ghosts.output start)) (IsAfterSome q items (ghosts.output start)) (s.instants t)
        (λ left out p. after_wider q items done after (ghosts.output start) out left split p);
  }

none_left : (all done rest : List Item) → all ≡ done ++ rest → rest ≡ [] → done ≡ all
none_left all done rest split is = sym (append-nil done) ∙ ap (λ (l : List Item). done ++ l) (sym is) ∙ sym split

more_left : (limit : ℕ) (all done rest : List Item) (ending : StreamEnd) → all ≡ done ++ rest → length done ≡ limit → (rest ≢ []) ⊎ (¬ (ending ≡ End)) → HasMore limit all ending
more_left limit all done rest ending split is some = ⊎_elim (λ ne. inl (longer rest split ne)) (λ other. inr other) some
  where
    longer : (rest : List Item) → all ≡ done ++ rest → rest ≢ [] → limit < length all
    longer [] split ne = absurd (ne refl)
    longer (x ∷ xs) split ne = omega (arith, is, ap length split, length-append done (x ∷ xs))

-- the stream was at its end
pub last_line : (rest : List Item) (ending : StreamEnd) (input : Type 0) (limit : ℕ) (held : Contents) (all : List Item) (q : State) (done after : List Item) → all ≡ done ++ rest → rest ≡ [] → ending ≡ End → IsLine None input limit held all ending q done after
last_line rest ending input limit held all q done after split none end = (end, none_left all done rest split none)

some_not_none : (n : ℕ) → Some n ≡ None → ⊥
some_not_none n e = cc

not_none : (who : Option ℕ) → IsSome who → who ≡ None → ⊥
not_none None some e = let h : false ≡ true = some in cc
not_none (Some n) some e = some_not_none n e

-- the batch was stopped
pub stop_line : (why : Why) (who : Option ℕ) (more : ℕ) (rest : List Item) (ending : StreamEnd) (input disk : Type 0) (damaged : Name → Type 0) (limit : ℕ) (held : Contents) (all : List Item) (q : State) (done : List Item)
    → all ≡ done ++ rest → more ≡ limit - length done → length done ≤ limit → HasState (directory held) (fold q done) → IsStop why who more rest ending → HasReason why input disk damaged
    → EndsEarly why who input limit held all ending q done (take more rest)
stop_line (whys.Bad at) who more rest ending input disk damaged limit held all q done split is few state stop reason = (stop.0, none_left all done rest split stop.2, omega (arith, stop.1, is), stop.3, state)
stop_line (whys.Short at) who more rest ending input disk damaged limit held all q done split is few state stop reason = (stop.0, none_left all done rest split stop.2, omega (arith, stop.1, is), stop.3, state)
stop_line whys.More who more rest ending input disk damaged limit held all q done split is few state stop reason =
    let full : length done ≡ limit = omega (arith, stop.1, is, few) in (stop.0, full, more_left limit all done rest ending split full stop.2, state)
stop_line whys.Input who more rest ending input disk damaged limit held all q done split is few state stop reason = (stop, reason, state)
stop_line whys.Memory who more rest ending input disk damaged limit held all q done split is few state stop reason = stop
stop_line whys.Disk who more rest ending input disk damaged limit held all q done split is few state stop reason = (stop.1, λ none. absurd (not_none who stop.0 none))
stop_line whys.Usage who more rest ending input disk damaged limit held all q done split is few state stop reason = absurd stop
stop_line whys.Words who more rest ending input disk damaged limit held all q done split is few state stop reason = absurd stop
stop_line whys.Long who more rest ending input disk damaged limit held all q done split is few state stop reason = absurd stop
stop_line whys.Clock who more rest ending input disk damaged limit held all q done split is few state stop reason = absurd stop
stop_line whys.NoList who more rest ending input disk damaged limit held all q done split is few state stop reason = absurd stop
stop_line (whys.At name) who more rest ending input disk damaged limit held all q done split is few state stop reason = absurd stop
stop_line whys.There who more rest ending input disk damaged limit held all q done split is few state stop reason = absurd stop
stop_line whys.Absent who more rest ending input disk damaged limit held all q done split is few state stop reason = absurd stop

-- the number of the first item of a batch
pub first_next : (first : Option ℕ) (items rest : List Item) → IsFirst first items → (0 < length items → IsSome first) → IsNumberOf first (items ++ rest)
first_next first [] rest is some = subst (λ (o : Option ℕ). IsNumberOf o rest) (sym is) tt
first_next first (x ∷ xs) rest is some = subst (λ (o : Option ℕ). IsNumberOf o (x ∷ xs ++ rest)) (sym is) refl

module _ {S : Type 0} (ghosts : Ghosts S) where
  -- the stop line of a refused batch says why the run ends early
  pub refused_line : (read mid : S) (reason : Why) (first : Option ℕ) (input : Type 0) (limit : ℕ) (held : Contents) (all : List Item) (ending : StreamEnd) (q : State) (done after : List Item) → IsRefused ghosts (Some reason) read mid → IsNumberOf first after → IsSome first
      → IsLine (Some (first, reason)) input limit held all ending q done after
  refused_line read mid whys.Memory first input limit held all ending q done after r number some = number
  refused_line read mid whys.Disk first input limit held all ending q done after r number some = (number, λ none. absurd (not_none first some none))
  refused_line read mid (whys.Bad at) first input limit held all ending q done after r number some = absurd r
  refused_line read mid (whys.Short at) first input limit held all ending q done after r number some = absurd r
  refused_line read mid whys.More first input limit held all ending q done after r number some = absurd r
  refused_line read mid whys.Input first input limit held all ending q done after r number some = absurd r
  refused_line read mid whys.Usage first input limit held all ending q done after r number some = absurd r
  refused_line read mid whys.Words first input limit held all ending q done after r number some = absurd r
  refused_line read mid whys.Long first input limit held all ending q done after r number some = absurd r
  refused_line read mid whys.Clock first input limit held all ending q done after r number some = absurd r
  refused_line read mid whys.NoList first input limit held all ending q done after r number some = absurd r
  refused_line read mid (whys.At name) first input limit held all ending q done after r number some = absurd r
  refused_line read mid whys.There first input limit held all ending q done after r number some = absurd r
  refused_line read mid whys.Absent first input limit held all ending q done after r number some = absurd r

  -- a run whose batch was refused
  pub refused_runs : (start read mid new : S) (q : State) (all : List Item) (ending : StreamEnd) (input : Type 0) (limit answered status : ℕ) (done more rest : List Item) (first : Option ℕ) (why : Option Why) → IsTrue ghosts.tells_reads
      → take limit all ≡ done ++ (more ++ rest) → answered ≡ length done → ((reason : Why) → why ≡ Some reason → IsLeft ghosts start mid q (take limit all) done (more ++ rest))
      → (why ≡ None → HasState (directory (ghosts.disk mid).reads) (fold q (done ++ more)))
      → (IsTrue ghosts.tells_all → (n : ℕ) × (ghosts.output mid ≡ (ghosts.output start ++ text q done) ++ take n (text (fold q done) more)))
      → IsNumberOf first (more ++ rest) → ((reason : Why) → why ≡ Some reason → IsSome first) → IsRefused ghosts why read mid → Refuses ghosts mid new first why status
      → Runs (IsTrue ghosts.tells_all) input status limit answered (ghosts.disk new).reads (ghosts.output new) all ending q (ghosts.output start)
  refused_runs start read mid new q all ending input limit answered status done more rest first None r split count left state put number some refused f =
      let quiet = f.quiet refl in
      inr (inr (record {
        status_is = quiet.0;
        done = done;
        after = more ++ rest;
        split = split;
        count = count;
        reached = record { waiting = more; next = rest; split = refl; state = same_state (directory (ghosts.disk mid).reads) (directory (ghosts.disk new).reads) (fold q (done ++ more)) (ap (λ (x : S). directory (ghosts.disk x).reads) quiet.1) (state refl) };
        put = λ t. let p = put t in (
          take p.0 (text (fold q done) more),
          drop p.0 (text (fold q done) more),
          ap ghosts.output quiet.1 ∙ p.1,
          inl (more, rest, refl, same_state (directory (ghosts.disk mid).reads) (directory (ghosts.disk new).reads) (fold q (done ++ more)) (ap (λ (x : S). directory (ghosts.disk x).reads) quiet.1) (state refl), take-append-drop p.0 (text (fold q done) more)),
        );
      }))
  refused_runs start read mid new q all ending input limit answered status done more rest first (Some reason) r split count left state put number some refused f =
      said_runs ghosts start mid new q all ending input limit answered status done (more ++ rest) first reason r (left reason refl) count
      (refused_line read mid reason first input limit (ghosts.disk new).reads all ending q done (more ++ rest) refused number (some reason refl)) (f.said reason refl)

  -- and its instants
  pub refused_instants : (start mid new : S) (q : State) (items done more rest : List Item) (first : Option ℕ) (why : Option Why) (status : ℕ) → ((reason : Why) → why ≡ Some reason → IsLeft ghosts start mid q items done (more ++ rest))
      → Leaves ghosts start mid (IsAfterSome q items (ghosts.output start)) → IsNumberOf first (more ++ rest) → Refuses ghosts mid new first why status → Leaves ghosts start new (IsAfterSome q items (ghosts.output start))
  refused_instants start mid new q items done more rest first None status left time number f t =
      subst (λ (x : S). LeavesOnly ghosts.instant ghosts.left_since ghosts.disk ghosts.output start x (IsAfterSome q items (ghosts.output start))) (sym (f.quiet refl).1) (time t)
  refused_instants start mid new q items done more rest first (Some reason) status left time number f t =
      said_instants ghosts start mid new q items done (more ++ rest) status first reason (left reason refl) number (f.said reason refl) t

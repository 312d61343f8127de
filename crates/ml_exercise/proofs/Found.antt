-- An exercise of a list, after the look at its configuration.
use Rattle.std.proofs.Common.{◌≡◌, inl, inr, ⊎_elim, ℕ, IsTrue, List, [], ◌++◌, take, drop, Option, Some, None, ap, sym, refl, subst, ◌∙◌}
use Rattle.std.specs.Prelude.{IsSome}
use Rattle.std.proofs.lemmas.List.{append-nil, take-append-drop}
use Rattle.ml_base.specs.Bytes.{Text}
use Rattle.ml_base.specs.Dir.{Dir}
use Rattle.ml_config.specs.declared.configuration.Config.{Config}
use Rattle.ml_list.proofs.States.{fold-nil, text-nil}
use Rattle.ml_plain.specs.Histories.{State, fold, text}
use Rattle.ml_plain.specs.declared.Item.{Item}
use Rattle.ml_site.specs.Disk.{Contents, IsAtRest, Now}
use Rattle.ml_site.specs.Instants.{LeavesOnly}
use Rattle.ml_site.specs.declared.site.Site.{Ghosts}
use Rattle.ml_site.proofs.Steps.{joins, rest_contents, weaker}
use Rattle.ml_journal.specs.Log.{directory}
use Rattle.ml_ending.specs.Endings.{IsUnopened, Opens, SaysAtMost}
use Rattle.ml_ending.specs.Lines.{stop_text}
use Rattle.ml_ending.specs.Stops.{status_of_why}
use Rattle.ml_ending.proofs.Finished.{rose_earlier}
use Rattle.ml_ending.proofs.Said.{opening_then}
use Rattle.ml_run.specs.Anywhere.{AtEachInstant}
use Rattle.ml_run.specs.Endings.{CutOff, Names, Stopped}
use Rattle.ml_run.specs.Leaving.{HasState, IsAfterSome}
use Rattle.ml_run.proofs.Anywhere.{nothing_done}
use Rattle.ml_run.proofs.Leaving.{other_list, same_state, some_answered}
use Rattle.ml_run.proofs.Missing.{misses_before}
use Rattle.ml_stream.specs.Stream.{End}
use Rattle.ml_exercise.specs.Exercising.{answered_all, state_after, Ends, Exercises, ExercisesItems, ExercisesList, IsExercising, IsExercisingAt, IsOfItem, items_of}
use Rattle.ml_exercise.specs.Finding.{Finds}
use Rattle.ml_exercise.proofs.SummedUp.{tells_before}

-- the same over an output that was the same before
ends_before : (told : Type 0) (status answered : ℕ) (held : Contents) (output : Text) (q : State) (count : ℕ) (old new : Text) → (told → old ≡ new) → Ends told status answered held output q count old → Ends told status answered held output q count new
ends_before told status answered held output q count old new same (inl done) = inl (record {
  all = done.all;
  state = done.state;
  put = tells_before told status count (state_after q count).plain (answered_all q count old) (answered_all q count new) output (λ t. ap (λ (b : Text). answered_all q count b) (same t)) done.put;
})
ends_before told status answered held output q count old new same (inr early) = inr (record {
  end = ⊎_elim (λ s. inl (stopped s)) (λ c. inr (cut c)) early.end;
  hindered = early.hindered;
})
  where
    stopped : Stopped told ⊥ status count answered held output (items_of q count) End q old → Stopped told ⊥ status count answered held output (items_of q count) End q new
    stopped s = record {
      why = s.why;
      who = s.who;
      done = s.done;
      after = s.after;
      split = s.split;
      count = s.count;
      reached = s.reached;
      early = s.early;
      status_is = s.status_is;
      put = λ t. subst (λ (b : Text). output ≡ (b ++ text q s.done) ++ stop_text s.who status s.why) (same t) (s.put t);
    }

    cut : CutOff told status count answered held output (items_of q count) q old → CutOff told status count answered held output (items_of q count) q new
    cut c = record {
      status_is = c.status_is;
      done = c.done;
      after = c.after;
      split = c.split;
      count = c.count;
      reached = c.reached;
      put = λ t. let p = c.put t in (p.0, p.1, p.2 ∙ ap (λ (b : Text). (b ++ text q c.done) ++ p.0) (same t), p.3);
    }

-- no item is done, and at most some first bytes of one stop line are out
none_done : (q : State) (items : List Item) (dir : Option Dir) (before out : Text) (left : Contents) → HasState dir q → directory left ≡ dir → SaysAtMost before out → IsAfterSome q items before left out
none_done q items dir before out left state same said =
    let here : HasState (directory left) (fold q []) = other_list (directory left) q (fold q []) (sym (fold-nil q)) (same_state dir (directory left) q same state) in
    let put : before ≡ before ++ text q [] = sym (append-nil before) ∙ ap (λ (o : Text). before ++ o) (sym (text-nil q)) in
    ⊎_elim
    (λ none. some_answered q items [] items before out left refl here (none ∙ put))
    (λ line. record {
      first = [];
      rest = items;
      split = refl;
      state = here;
      put = inr (record {
        answered = [];
        waiting = [];
        split = refl;
        front = take line.1 (stop_text None (status_of_why line.0) line.0);
        more = drop line.1 (stop_text None (status_of_why line.0) line.0);
        line = record { who = None; why = line.0; number = tt; is = take-append-drop line.1 (stop_text None (status_of_why line.0) line.0) };
        put = line.2 ∙ ap (λ (o : Text). o ++ take line.1 (stop_text None (status_of_why line.0) line.0)) put;
      });
    })
    said

module _ {S : Type 0} (ghosts : Ghosts S) (reads_told : IsTrue ghosts.tells_all → IsTrue ghosts.tells_reads) where
  -- it begins at rest
  opens_rest : (old new : S) (P : Contents → Text → Type 0) → IsAtRest (ghosts.disk old) → ((left : Contents) (out : Text) → directory left ≡ directory (ghosts.disk old).reads → SaysAtMost (ghosts.output old) out → P left out)
      → Opens ghosts old new P → IsTrue ghosts.tells_all → LeavesOnly ghosts.instant ghosts.left_since ghosts.disk ghosts.output old new P
  opens_rest old new P rest here o t = ⊎_elim
      (λ early. weaker ghosts.instant ghosts.left_since ghosts.disk ghosts.output old new (IsUnopened (ghosts.disk old) (ghosts.output old)) P early.all
      (λ left out u. here left out (ap directory (rest_contents (ghosts.disk old) left rest u.image)) u.put))
      (λ late. joins ghosts.instant ghosts.left_since ghosts.disk ghosts.output old late.synced new (Now (ghosts.disk old) (ghosts.output old)) P P late.until late.since
      (λ left out p. here left out (ap directory (rest_contents (ghosts.disk old) left rest p.0)) (inl p.1)) (λ left out p. p))
      o

  module _ (old mid new : S) (config : Config) (count status : ℕ) (finds : Finds ghosts old mid config) (list : ExercisesList ghosts count mid new status) where
    state_at : IsTrue ghosts.tells_reads → (q : State) → HasState (directory (ghosts.disk old).reads) q → HasState (directory (ghosts.disk mid).reads) q
    state_at r q state = same_state (directory (ghosts.disk old).reads) (directory (ghosts.disk mid).reads) q (finds.same r) state

    opens : IsTrue ghosts.tells_all → (q : State) → HasState (directory (ghosts.disk old).reads) q → Opens ghosts old new (IsExercising q count (ghosts.output old))
    opens t q state = opening_then ghosts old mid new (IsExercising q count (ghosts.output old)) (finds.instants t)
        (weaker ghosts.instant ghosts.left_since ghosts.disk ghosts.output mid new (IsExercising q count (ghosts.output mid)) (IsExercising q count (ghosts.output old)) (list.at_rest (finds.rest t) q (state_at (reads_told t) q state) t)
        (λ left out p. subst (λ (b : Text). IsExercising q count b left out) (finds.output t) p))
        (λ left out p. inl (none_done q (items_of q count) (directory (ghosts.disk old).reads) (ghosts.output old) out left state p.0 (inl p.1)))

    -- on a directory, whatever it holds
    exercising_at : IsTrue ghosts.tells_reads → (files : Dir) → directory (ghosts.disk old).reads ≡ Some files → ExercisesItems ghosts (AtEachInstant ghosts old new) count status list.answered old new files
    exercising_at r files here =
        let d = list.anywhere r files (finds.same r ∙ here) in
        let before = ghosts.output old in
        let P = IsExercisingAt files d.first d.batch count before in
        let none : (left : Contents) (out : Text) → directory left ≡ directory (ghosts.disk old).reads → SaysAtMost before out → P left out = λ left out same said. inl (nothing_done files (d.first ++ d.batch) before out left (same ∙ here) said) in
        let opened : IsTrue ghosts.tells_all → Opens ghosts old new P = λ t. opening_then ghosts old mid new P (finds.instants t)
        (weaker ghosts.instant ghosts.left_since ghosts.disk ghosts.output mid new (IsExercisingAt files d.first d.batch count (ghosts.output mid)) P (d.instants (finds.rest t) t)
        (λ left out p. subst (λ (b : Text). IsExercisingAt files d.first d.batch count b left out) (finds.output t) p))
        (λ left out p. none left out p.0 (inl p.1)) in
        record { first = d.first; batch = d.batch; row = d.row; instants = (opened, λ now t. opens_rest old new P now none (opened t) t) }

    pub found_then : Exercises ghosts count old new status
    found_then = record {
      does = record {
        answered = list.answered;
        known = list.known;
        whole = λ r q state. ends_before (IsTrue ghosts.tells_all) status list.answered (ghosts.disk new).reads (ghosts.output new) q count (ghosts.output mid) (ghosts.output old) finds.output (list.whole r q (state_at r q state));
        at_rest = λ rest q state t. opens_rest old new (IsExercising q count (ghosts.output old)) rest
            (λ left out same said. inl (none_done q (items_of q count) (directory (ghosts.disk old).reads) (ghosts.output old) out left state same said)) (opens t q state) t;
        anywhere = λ r files here. let d = exercising_at r files here in record { first = d.first; batch = d.batch; row = d.row; instants = d.instants.1 };
        rest = λ none one two t. list.rest (λ rose. none (rose_earlier (ghosts.disk_faults old) (ghosts.disk_faults mid) (ghosts.disk_faults new) finds.disk_later rose)) one two t;
        gate = λ some one two three r. list.gate (subst (λ (d : Option Dir). IsSome d) (sym (finds.same r)) some) one two three r;
        of_disk = λ e. rose_earlier (ghosts.disk_faults old) (ghosts.disk_faults mid) (ghosts.disk_faults new) finds.disk_later (list.of_disk e);
        of_output = λ e. rose_earlier (ghosts.output_faults old) (ghosts.output_faults mid) (ghosts.output_faults new) finds.output_later (list.of_output e);
        named = λ r e. ⊎_elim (λ n. inl (subst (λ (d : Option Dir). Names (IsTrue ghosts.tells_all) (IsOfItem d count list.answered) d (directory (ghosts.disk new).reads) (ghosts.output new)) (finds.same r) n)) (λ n. inr n) (list.named r e);
        nolist = λ r files is none. misses_before (IsTrue ghosts.tells_all) status (ghosts.output mid) (ghosts.output old) (ghosts.output new) finds.output (list.nolist r files (finds.same r ∙ is) none);
      };
      instants = opens;
      anywhere = exercising_at;
    }

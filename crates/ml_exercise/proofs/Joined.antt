-- A run of the items of an exercise, and the reading after it, as one.
use Rattle.std.proofs.Common.{◌≡◌, inl, inr, ℕ, true, false, IsTrue, List, [], ◌∷◌, ◌++◌, length, ◌≤◌, Option, Some, None, ap, sym, refl, subst, ◌∙◌, arith}
use Rattle.std.specs.Prelude.{IsSome}
use Rattle.ml_base.specs.Bytes.{Text}
use Rattle.ml_base.specs.Dir.{Dir}
use Rattle.ml_base.specs.declared.names.Name.{Name}
use Rattle.ml_config.specs.ConfigFile.{config_name, config_text, IsConfigFile}
use Rattle.ml_config.specs.Configuration.{IsConfig}
use Rattle.ml_config.specs.declared.configuration.Config.{Config}
use Rattle.ml_generated.proofs.Streams.{items_read}
use Rattle.ml_plain.specs.Histories.{State}
use Rattle.ml_plain.specs.Replies.{is_status}
use Rattle.ml_plain.specs.declared.Item.{Item}
use Rattle.ml_site.specs.Disk.{Contents, IsAtRest}
use Rattle.ml_site.specs.declared.site.Site.{Ghosts}
use Rattle.ml_site.proofs.Steps.{joins, weaker}
use Rattle.ml_journal.specs.Calls.{Leaves}
use Rattle.ml_journal.specs.Log.{directory}
use Rattle.ml_journal.specs.Stores.{the_dir}
use Rattle.ml_ending.proofs.Finished.{rose_earlier}
use Rattle.ml_run.specs.Anywhere.{after, answers_of, IsAfterFirst}
use Rattle.ml_run.specs.Endings.{Brings, Ended, Names, Runs}
use Rattle.ml_run.specs.Batches.{IsOfNext}
use Rattle.ml_run.specs.Leaving.{HasState, IsAfterSome}
use Rattle.ml_run.proofs.Leaving.{same_state}
use Rattle.ml_run.proofs.Named.{names_map}
use Rattle.ml_run.proofs.ServedAnywhere.{row_brought, row_end}
use Rattle.ml_run.proofs.Streamed.{settled_not}
use Rattle.ml_stream.specs.Stream.{StreamEnd, End}
use Rattle.ml_stream.specs.Writing.{stream_text}
use Rattle.ml_exercise.specs.Exercising.{answered_all, state_after, ExercisesList, IsExercised, IsExercising, IsExercisingAt, IsOfItem, items_of}
use Rattle.ml_exercise.specs.Finding.{HasConfig}
use Rattle.ml_exercise.specs.Running.{items_for, RunsItems}
use Rattle.ml_exercise.specs.Summing.{IsLooking, IsLookingAt, IsSummingUp, IsToldOf, SumsUp}
use Rattle.ml_exercise.proofs.Lists.{count_is, items_same}
use Rattle.ml_exercise.proofs.Statuses.{all_ended, early, early_known}
use Rattle.ml_exercise.proofs.SummedUp.{tells_before}

-- a log of one closed gate has a directory
gate_some : (held : Contents) → held.log ≡ 0 ∷ [] → IsSome (directory held)
gate_some held is = gate held.log is
  where
    gate : (log : Text) → log ≡ 0 ∷ [] → IsSome (directory (record { log = log; files = held.files }))
    gate log one = subst (λ (l : Text). IsSome (directory (record { log = l; files = held.files }))) (sym one) refl

some_none : (t : Text) → ◌≡◌ {A = Option Text} None (Some t) → ⊥
some_none t e = cc

-- a list that was found has a configuration
has_one : (dir : Option Dir) (config : Config) (files : Dir) → HasConfig dir config → dir ≡ Some files → files config_name ≡ None → ⊥
has_one dir config files found is none =
    let same : found.files ≡ files = ap (λ (d : Option Dir). the_dir d) (sym found.is ∙ is) in
    some_none (config_text config) (sym none ∙ ap (λ (d : Dir). d config_name) (sym same) ∙ found.config_is.stands.text)

-- the items of the configuration that was found are brought by the stream that spells them
exercised_brought : (files : Dir) (config : Config) (count : ℕ) (all : List Item) (ending : StreamEnd) → HasConfig (Some files) config → IsConfig config → count ≤ 999_999 → IsExercised files count all ending
    → Brings (Some (stream_text (items_for config count))) all ending
exercised_brought files config count all ending found range few e =
    let same : found.files ≡ e.1.files = ap (λ (d : Option Dir). the_dir d) (sym found.is ∙ e.1.is) in
    let one : config ≡ e.0 = found.config_is.only e.0 (subst (λ (d : Dir). IsConfigFile (d config_name) e.0) (sym same) e.1.config_is.stands) in
    let items : items_for config count ≡ all = ap (λ (c : Config). items_for c count) one ∙ sym e.2 in
    subst (λ (end : StreamEnd). Brings (Some (stream_text (items_for config count))) all end) (sym e.3)
    (subst (λ (l : List Item). Brings (Some (stream_text (items_for config count))) l End) items
    (record { bytes = stream_text (items_for config count); left_is = refl; stream = items_read 0 config.local config.host 1 count range.local range.host (omega (arith, few)) }))

-- an item that a stop line names is one of those of the list
item_named : (dir : Option Dir) (config : Config) (count n : ℕ) (files : Dir) (who : Option ℕ) (name : Name) → HasConfig dir config → IsConfig config → count ≤ 999_999
    → IsOfNext (Brings (Some (stream_text (items_for config count)))) n files who name → IsOfItem dir count n files who name
item_named dir config count n files who name found range few is =
    let next = is.next (items_for config count) End (record { bytes = stream_text (items_for config count); left_is = refl; stream = items_read 0 config.local config.host 1 count range.local range.host (omega (arith, few)) }) in record {
      config = config;
      has = found;
      item = is.item;
      before = next.0;
      after = next.1;
      split = next.2;
      place = next.3;
      number = is.number;
      reads = is.reads;
      asked = is.asked;
    }

module _ {S : Type 0} (ghosts : Ghosts S) (reads_told : IsTrue ghosts.tells_all → IsTrue ghosts.tells_reads) (config : Config) (count : ℕ) (old mid : S) (run : ℕ)
    (found : IsTrue ghosts.tells_reads → HasConfig (directory (ghosts.disk old).reads) config) (range : IsConfig config) (few : count ≤ 999_999) (rest : IsTrue ghosts.tells_all → IsAtRest (ghosts.disk old))
    (runs : RunsItems ghosts (items_for config count) count old mid run) where
  -- what the run does, ghosts by the items of the list
  runs_list : IsTrue ghosts.tells_reads → (q : State) → HasState (directory (ghosts.disk old).reads) q
      → Runs (IsTrue ghosts.tells_all) ⊥ run count runs.answered (ghosts.disk mid).reads (ghosts.output mid) (items_of q count) End q (ghosts.output old)
  runs_list r q state = subst (λ (items : List Item). Runs (IsTrue ghosts.tells_all) ⊥ run count runs.answered (ghosts.disk mid).reads (ghosts.output mid) items End q (ghosts.output old))
      (items_same (directory (ghosts.disk old).reads) config q count (found r) state) (runs.whole r q state)

  as_many : IsTrue ghosts.tells_reads → (q : State) → HasState (directory (ghosts.disk old).reads) q → length (items_of q count) ≡ count
  as_many r q state = subst (λ (items : List Item). length items ≡ count) (items_same (directory (ghosts.disk old).reads) config q count (found r) state) (count_is config count)

  some_instants : IsTrue ghosts.tells_all → (q : State) → HasState (directory (ghosts.disk old).reads) q → Leaves ghosts old mid (IsAfterSome q (items_of q count) (ghosts.output old))
  some_instants t q state = subst (λ (items : List Item). Leaves ghosts old mid (IsAfterSome q items (ghosts.output old)))
      (items_same (directory (ghosts.disk old).reads) config q count (found (reads_told t)) state) (runs.at_rest (rest t) q state)

  run_named : IsTrue ghosts.tells_reads → run ≡ 75 → Names (IsTrue ghosts.tells_all) (IsOfItem (directory (ghosts.disk old).reads) count runs.answered) (directory (ghosts.disk old).reads) (directory (ghosts.disk mid).reads) (ghosts.output mid)
  run_named r is = names_map (IsTrue ghosts.tells_all) (IsOfNext (Brings (Some (stream_text (items_for config count)))) runs.answered) (IsOfItem (directory (ghosts.disk old).reads) count runs.answered) (directory (ghosts.disk old).reads) (directory (ghosts.disk mid).reads) (ghosts.output mid)
      (λ files who name next. item_named (directory (ghosts.disk old).reads) config count runs.answered files who name (found r) range few next) (runs.named r is)

  exercised : IsTrue ghosts.tells_reads → (files : Dir) → directory (ghosts.disk old).reads ≡ Some files → (all : List Item) (ending : StreamEnd) → IsExercised files count all ending → Brings (Some (stream_text (items_for config count))) all ending
  exercised r files here all ending e = exercised_brought files config count all ending (subst (λ (d : Option Dir). HasConfig d config) here (found r)) range few e

  -- it has ended early
  pub early_list : is_status run ≡ false → ExercisesList ghosts count old mid run
  early_list is = record {
    answered = runs.answered;
    known = early_known run runs.known is;
    whole = λ r q state.
        let e = early (IsTrue ghosts.tells_all) ⊥ run count runs.answered (ghosts.disk mid).reads (ghosts.output mid) (items_of q count) q (ghosts.output old) (as_many r q state) runs.known is (runs_list r q state) in
        inr (record { end = e.0; hindered = e.1 });
    at_rest = λ _ q state t. weaker ghosts.instant ghosts.left_since ghosts.disk ghosts.output old mid (IsAfterSome q (items_of q count) (ghosts.output old)) (IsExercising q count (ghosts.output old)) (some_instants t q state t)
        (λ left out p. inl p);
    anywhere = λ r files here.
        let d = (runs.anywhere r files here).0 in
        record {
          first = d.first;
          batch = d.batch;
          row = row_brought ghosts (Brings (Some (stream_text (items_for config count)))) (IsExercised files count) count run runs.answered mid files d.first d.batch (exercised r files here) d.row;
          instants = λ now t. weaker ghosts.instant ghosts.left_since ghosts.disk ghosts.output old mid (IsAfterFirst files (d.first ++ d.batch) (ghosts.output old)) (IsExercisingAt files d.first d.batch count (ghosts.output old)) (d.instants.1 now t) (λ left out p. inl p);
        };
    rest = runs.closed.rest;
    gate = runs.closed.gate;
    of_disk = runs.counts.of_disk;
    of_output = runs.counts.of_output;
    named = λ r e. inl (run_named r e);
    nolist = λ r files dir none. absurd (has_one (directory (ghosts.disk old).reads) config files (found r) dir none);
  }

  -- all items are answered, and the list is looked over
  module _ (new : S) (status : ℕ) (sums : SumsUp ghosts count mid new status) (is : is_status run ≡ true) where
    ended : IsTrue ghosts.tells_reads → (q : State) → HasState (directory (ghosts.disk old).reads) q
        → Ended (IsTrue ghosts.tells_all) run count runs.answered (ghosts.disk mid).reads (ghosts.output mid) (items_of q count) End q (ghosts.output old)
    ended r q state = all_ended (IsTrue ghosts.tells_all) ⊥ run count runs.answered (ghosts.disk mid).reads (ghosts.output mid) (items_of q count) q (ghosts.output old) (as_many r q state) is (runs_list r q state)

    pub joined_list : ExercisesList ghosts count old new status
    joined_list = record {
      answered = runs.answered;
      known = sums.known;
      whole = λ r q state.
          let e = ended r q state in
          inl (record {
            all = e.count ∙ as_many r q state;
            state = same_state (directory (ghosts.disk mid).reads) (directory (ghosts.disk new).reads) (state_after q count) (sums.same r) e.state;
            put = tells_before (IsTrue ghosts.tells_all) status count (state_after q count).plain (ghosts.output mid) (answered_all q count (ghosts.output old)) (ghosts.output new) e.put (sums.given r (state_after q count) e.state);
          });
      at_rest = λ _ q state t.
          let e = ended (reads_told t) q state in
          joins ghosts.instant ghosts.left_since ghosts.disk ghosts.output old mid new (IsAfterSome q (items_of q count) (ghosts.output old)) (IsLooking (directory (ghosts.disk mid).reads) count (state_after q count).plain (ghosts.output mid)) (IsExercising q count (ghosts.output old))
          (some_instants t q state t) (sums.at_rest (runs.closed.settled is t) (state_after q count) e.state t) (λ left out p. inl p)
          (λ left out p. inr (record {
            state = same_state (directory (ghosts.disk mid).reads) (directory left) (state_after q count) p.0 e.state;
            put = subst (λ (b : Text). IsSummingUp count (state_after q count).plain b out) (e.put t) p.1;
          }));
      anywhere = λ r files here.
          let d = (runs.anywhere r files here).0 in
          let none = d.row.whole (λ e. settled_not run 71 refl is e) (λ e. settled_not run 73 refl is e) (λ e. settled_not run 111 refl is e) in
          let beyond : directory (ghosts.disk mid).reads ≡ Some (after files d.first) = row_end ghosts (Brings (Some (stream_text (items_for config count)))) count run runs.answered mid files d.first d.batch none d.row in
          let row = row_brought ghosts (Brings (Some (stream_text (items_for config count)))) (IsExercised files count) count run runs.answered mid files d.first d.batch (exercised r files here) d.row in
          record {
            first = d.first;
            batch = d.batch;
            row = record { are = row.are; count = row.count; few = row.few; brought = row.brought; end = inl (sums.same r ∙ beyond); whole = λ one two three. none };
            instants = λ now t.
                let before = ghosts.output old in
                let P = IsExercisingAt files d.first d.batch count before in
                joins ghosts.instant ghosts.left_since ghosts.disk ghosts.output old mid new (IsAfterFirst files (d.first ++ d.batch) before) (IsLookingAt (directory (ghosts.disk mid).reads) count (ghosts.output mid)) P
                (d.instants.1 now t) (sums.anywhere (runs.closed.settled is t) t) (λ left out p. inl p)
                (λ left out p. inr (record {
                  all = sym (runs.all is) ∙ d.row.count;
                  dir = p.0 ∙ beyond;
                  put = subst (λ (o : Option Dir). IsToldOf o count (before ++ answers_of d.first) out) beyond (subst (λ (b : Text). IsToldOf (directory (ghosts.disk mid).reads) count b out) (d.answers is t) p.1);
                }));
          };
      rest = λ none one two. sums.rest (λ rose. none (rose_earlier (ghosts.disk_faults old) (ghosts.disk_faults mid) (ghosts.disk_faults new) runs.counts.disk_later rose)) one two;
      gate = λ some one two three r.
          let here = runs.closed.gate some (λ e. settled_not run 71 refl is e) (λ e. settled_not run 73 refl is e) (λ e. settled_not run 111 refl is e) r in
          sums.gate (gate_some (ghosts.disk mid).reads here) one two three r;
      of_disk = λ e. rose_earlier (ghosts.disk_faults old) (ghosts.disk_faults mid) (ghosts.disk_faults new) runs.counts.disk_later (sums.of_disk e);
      of_output = λ e. rose_earlier (ghosts.output_faults old) (ghosts.output_faults mid) (ghosts.output_faults new) runs.counts.output_later (sums.of_output e);
      named = λ r e. inr (sums.named r e);
      nolist = λ r files dir none. absurd (has_one (directory (ghosts.disk old).reads) config files (found r) dir none);
    }

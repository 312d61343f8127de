-- An exercise of a site on which no configuration is found.
use Rattle.std.proofs.Common.{◌≡◌, ◌⊎◌, inl, inr, ⊎_elim, ℕ, true, false, IsTrue, [], ◌++◌, take, Option, Some, None, ap, sym, refl, subst, ◌∙◌, arith}
use Rattle.ml_base.specs.Bytes.{Text}
use Rattle.ml_base.specs.Dir.{Dir}
use Rattle.ml_base.specs.Faults.{Rose}
use Rattle.ml_check.specs.Checking.{check_meaning}
use Rattle.ml_config.specs.ConfigFile.{config_name, IsConfigFile}
use Rattle.ml_plain.specs.Histories.{State}
use Rattle.ml_plain.specs.Replies.{is_status}
use Rattle.ml_site.specs.Disk.{Contents, Disk, IsAtRest, Now}
use Rattle.ml_site.specs.declared.site.Site.{Ghosts}
use Rattle.ml_site.proofs.Steps.{first_weaker, weaker}
use Rattle.ml_journal.specs.Log.{directory}
use Rattle.ml_ending.specs.declared.lines.Why.{Why}
use Rattle.ml_ending.specs.declared.lines.Why.TheVariants as whys
use Rattle.ml_ending.specs.Endings.{MissesList, Opens, Says}
use Rattle.ml_ending.specs.Lines.{stop_text}
use Rattle.ml_ending.specs.Stops.{status_of_why}
use Rattle.ml_ending.proofs.Finished.{disk_status, memory_status, rose_earlier}
use Rattle.ml_ending.proofs.Said.{unopened_said}
use Rattle.ml_reading.specs.Readings.{IsRefusal, is_reading_status}
use Rattle.ml_run.specs.Anywhere.{IsAfterFirst, IsRow}
use Rattle.ml_run.specs.Endings.{Runs}
use Rattle.ml_run.specs.Leaving.{HasState, IsAfterSome}
use Rattle.ml_run.proofs.Anywhere.{each_instant, opens_weaker, said_done}
use Rattle.ml_run.proofs.Missing.{said_misses}
use Rattle.ml_run.proofs.Opening.{early_runs, from_rest, opened_said}
use Rattle.ml_stream.specs.Stream.{End}
use Rattle.ml_exercise.specs.Exercising.{Exercises, ExercisesList, IsExercised, IsExercising, IsExercisingAt, items_of}
use Rattle.ml_exercise.specs.Finding.{IsMiss, IsUnfound, Misses}
use Rattle.ml_exercise.specs.Running.{is_items_status}
use Rattle.ml_exercise.specs.Summing.{NamesWhole}
use Rattle.ml_exercise.proofs.Lists.{many}
use Rattle.ml_exercise.proofs.Statuses.{early}

none_some : (d : Dir) → ◌≡◌ {A = Option Dir} None (Some d) → ⊥
none_some d e = cc

-- over a list memory ran out, or the disk failed
over_list : (why : Why) (dir : Option Dir) (q : State) → HasState dir q → IsUnfound why dir → (why ≡ whys.Memory) ⊎ (why ≡ whys.Disk)
over_list whys.Memory dir q state is = inl refl
over_list whys.Disk dir q state is = inr refl
over_list whys.NoList dir q state is = absurd (some_not is.0 state.files is.1 state.is is.2 state.stands.list.config.text)
  where
    some_not : {t : Text} (a b : Dir) → dir ≡ Some a → dir ≡ Some b → a config_name ≡ None → b config_name ≡ Some t → ⊥
    some_not a b one two none some = cc
over_list (whys.At name) dir q state (inl log) = absurd (none_some state.files (sym log.1 ∙ state.is))
over_list (whys.At name) dir q state (inr config) = absurd (config.3.outside q.plain.config (subst (λ (d : Dir). IsConfigFile (d config_name) q.plain.config) (one state.files config.0 (sym state.is ∙ config.1)) state.stands.list.config))
  where
    one : (a b : Dir) → Some a ≡ Some b → a ≡ b
    one a b e = cc
over_list whys.Usage dir q state is = absurd is
over_list (whys.Bad at) dir q state is = absurd is
over_list (whys.Short at) dir q state is = absurd is
over_list whys.Words dir q state is = absurd is
over_list whys.Long dir q state is = absurd is
over_list whys.Clock dir q state is = absurd is
over_list whys.More dir q state is = absurd is
over_list whys.Input dir q state is = absurd is
over_list whys.There dir q state is = absurd is
over_list whys.Absent dir q state is = absurd is

-- the statuses of the reasons that there are
record KnownStatus (status : ℕ) (why : Why) : Type 0 where
  reading : is_reading_status status ≡ true
  items : is_items_status status ≡ true
  none : is_status status ≡ false
  of_disk : status ≡ 111 → why ≡ whys.Disk
  no_output : status ≡ 73 → ⊥

known_why : (why : Why) → IsMiss why → KnownStatus (status_of_why why) why
known_why whys.NoList is = record { reading = refl; items = refl; none = refl; of_disk = λ e. absurd (omega (arith, e)); no_output = λ e. omega (arith, e) }
known_why (whys.At name) is = record { reading = refl; items = refl; none = refl; of_disk = λ e. absurd (omega (arith, e)); no_output = λ e. omega (arith, e) }
known_why whys.Memory is = record { reading = refl; items = refl; none = refl; of_disk = λ e. absurd (omega (arith, e)); no_output = λ e. omega (arith, e) }
known_why whys.Disk is = record { reading = refl; items = refl; none = refl; of_disk = λ e. refl; no_output = λ e. omega (arith, e) }
known_why whys.Usage is = absurd is
known_why (whys.Bad at) is = absurd is
known_why (whys.Short at) is = absurd is
known_why whys.Words is = absurd is
known_why whys.Long is = absurd is
known_why whys.Clock is = absurd is
known_why whys.More is = absurd is
known_why whys.Input is = absurd is
known_why whys.There is = absurd is
known_why whys.Absent is = absurd is

refusal : (why : Why) (dir : Option Dir) → IsUnfound why dir → IsRefusal why check_meaning dir
refusal whys.NoList dir is = is
refusal (whys.At name) dir (inl log) = inl log
refusal (whys.At name) dir (inr config) = inr (config.0, config.1, inl (config.2, config.3))
refusal whys.Memory dir is = tt
refusal whys.Disk dir is = tt
refusal whys.Usage dir is = absurd is
refusal (whys.Bad at) dir is = absurd is
refusal (whys.Short at) dir is = absurd is
refusal whys.Words dir is = absurd is
refusal whys.Long dir is = absurd is
refusal whys.Clock dir is = absurd is
refusal whys.More dir is = absurd is
refusal whys.Input dir is = absurd is
refusal whys.There dir is = absurd is
refusal whys.Absent dir is = absurd is

-- if there is no configuration, none is damaged
without : (why : Why) (dir : Option Dir) (files : Dir) → dir ≡ Some files → files config_name ≡ None → IsUnfound why dir → (why ≡ whys.NoList) ⊎ ((why ≡ whys.Memory) ⊎ (why ≡ whys.Disk))
without whys.NoList dir files is none r = inl refl
without whys.Memory dir files is none r = inr (inl refl)
without whys.Disk dir files is none r = inr (inr refl)
without (whys.At name) dir files is none (inl log) = absurd (none_some files (sym log.1 ∙ is))
without (whys.At name) dir files is none (inr config) = absurd (config.3.there (same config.0 files (sym config.1 ∙ is) none))
  where
    same : (a b : Dir) → Some a ≡ Some b → b config_name ≡ None → a config_name ≡ None
    same a b e n = cc
without whys.Usage dir files is none r = absurd r
without (whys.Bad at) dir files is none r = absurd r
without (whys.Short at) dir files is none r = absurd r
without whys.Words dir files is none r = absurd r
without whys.Long dir files is none r = absurd r
without whys.Clock dir files is none r = absurd r
without whys.More dir files is none r = absurd r
without whys.Input dir files is none r = absurd r
without whys.There dir files is none r = absurd r
without whys.Absent dir files is none r = absurd r

module _ {S : Type 0} (ghosts : Ghosts S) (reads_told : IsTrue ghosts.tells_all → IsTrue ghosts.tells_reads) (count : ℕ) (old mid new : S) (why : Why) (status : ℕ)
    (miss : Misses ghosts old mid why) (says : Says ghosts mid new status None why) where
  line_is : (status ≡ status_of_why why) ⊎ ((status ≡ 73) × Rose (ghosts.output_faults mid) (ghosts.output_faults new))
  line_is = ⊎_elim (λ whole. inl whole.0) (λ cut. inr (cut.0, cut.1)) says.line

  known : (P : ℕ → Type 0) → (KnownStatus (status_of_why why) why → P (status_of_why why)) → P 73 → P status
  known P here cut = ⊎_elim (λ is. subst P (sym is) (here (known_why why miss.known))) (λ c. subst P (sym c.0) cut) line_is

  after_some : IsTrue ghosts.tells_all → (q : State) → HasState (directory (ghosts.disk old).reads) q → Opens ghosts old new (IsAfterSome q (items_of q count) (ghosts.output old))
  after_some t q state = ⊎_elim
      (λ early. inl (unopened_said ghosts old mid new status why early says t))
      (λ late. inr (record {
        synced = late.synced;
        first = late.first;
        rest = late.rest;
        same = late.same;
        until = late.until;
        since = opened_said ghosts old late.synced mid new q (items_of q count) status why state (miss.output t) late.since says t;
      }))
      (miss.instants t)

  runs : IsTrue ghosts.tells_reads → (q : State) → HasState (directory (ghosts.disk old).reads) q
      → Runs (IsTrue ghosts.tells_all) ⊥ status count 0 (ghosts.disk new).reads (ghosts.output new) (items_of q count) End q (ghosts.output old)
  runs r q state = early_runs ghosts old mid new q (items_of q count) End ⊥ count 0 status why r state miss.same miss.output refl (over_list why (directory (ghosts.disk old).reads) q state (miss.reason r)) says

  -- nothing is done on a directory, whatever it holds
  nothing_opens : IsTrue ghosts.tells_all → (files : Dir) → directory (ghosts.disk old).reads ≡ Some files → Opens ghosts old new (IsAfterFirst files [] (ghosts.output old))
  nothing_opens t files here = ⊎_elim
      (λ early. inl (unopened_said ghosts old mid new status why early says t))
      (λ late. inr (record {
        synced = late.synced;
        first = late.first;
        rest = late.rest;
        same = late.same;
        until = late.until;
        since = said_done ghosts files old late.synced mid new status why here (miss.output t) late.since says t;
      }))
      (miss.instants t)

  nothing_row : IsTrue ghosts.tells_reads → (files : Dir) → directory (ghosts.disk old).reads ≡ Some files → IsRow ghosts (IsExercised files count) count status 0 new files [] []
  nothing_row r files here = record { are = tt; count = refl; few = omega arith; brought = λ all ending b. (take count all, refl); end = inl (ap directory (says.reads r) ∙ miss.same r ∙ here); whole = λ one two three. refl }

  missed_list : ExercisesList ghosts count old new status
  missed_list = record {
    answered = 0;
    known = known (λ n. is_reading_status n ≡ true) (λ k. k.reading) refl;
    whole = λ r q state.
        let e = early (IsTrue ghosts.tells_all) ⊥ status count 0 (ghosts.disk new).reads (ghosts.output new) (items_of q count) q (ghosts.output old) (many q count) (known (λ n. is_items_status n ≡ true) (λ k. k.items) refl)
        (known (λ n. is_status n ≡ false) (λ k. k.none) refl) (runs r q state) in
        inr (record { end = e.0; hindered = e.1 });
    at_rest = λ rest q state t. weaker ghosts.instant ghosts.left_since ghosts.disk ghosts.output old new (IsAfterSome q (items_of q count) (ghosts.output old)) (IsExercising q count (ghosts.output old))
        (from_rest ghosts old new q (items_of q count) state rest (after_some t q state)) (λ left out p. inl p);
    anywhere = λ r files here. record {
      first = [];
      batch = [];
      row = nothing_row r files here;
      instants = λ now t. weaker ghosts.instant ghosts.left_since ghosts.disk ghosts.output old new (IsAfterFirst files [] (ghosts.output old)) (IsExercisingAt files [] [] count (ghosts.output old))
          ((each_instant ghosts files [] old new here (λ u. nothing_opens u files here)).1 now t) (λ left out p. inl p);
    };
    rest = λ none one two t. subst (λ (d : Disk). IsAtRest d) (sym (says.disk_is t)) (miss.rest (λ e. memory_status ghosts mid new status None why says e one two)
        (λ e. none (subst (λ (n : ℕ). Rose (ghosts.disk_faults old) n) (sym says.disk_faults) (miss.cause e))) t);
    gate = λ some one two three r. ap (λ (c : Contents). c.log) (says.reads r) ∙ miss.gate (λ e. memory_status ghosts mid new status None why says e one two) (λ e. disk_status ghosts mid new status None why says e three two) some r;
    of_disk = λ e. subst (λ (n : ℕ). Rose (ghosts.disk_faults old) n) (sym says.disk_faults) (miss.cause (⊎_elim (λ is. (known_why why miss.known).of_disk (sym is ∙ e)) (λ c. absurd (omega (arith, e, c.0))) line_is));
    of_output = λ e. rose_earlier (ghosts.output_faults old) (ghosts.output_faults mid) (ghosts.output_faults new) miss.output_later
        (⊎_elim (λ is. absurd ((known_why why miss.known).no_output (sym is ∙ e))) (λ c. c.1) line_is);
    named = λ r e. inr (named r e);
    nolist = λ r files is none. ⊎_elim (λ w. no_list r w) (λ w. said_misses ghosts mid new (ghosts.output old) status None why w says) (without why (directory (ghosts.disk old).reads) files is none (miss.reason r));
  }
    where
      named : IsTrue ghosts.tells_reads → status ≡ 75 → NamesWhole (IsTrue ghosts.tells_all) (directory (ghosts.disk new).reads) (ghosts.output new)
      named r e = ⊎_elim
          (λ whole. record {
            why = why;
            before = ghosts.output mid;
            put = λ t. whole.1 t ∙ ap (λ (n : ℕ). ghosts.output mid ++ stop_text None n why) (sym whole.0 ∙ e);
            refusal = subst (λ (d : Option Dir). IsRefusal why check_meaning d) (sym (ap directory (says.reads r) ∙ miss.same r)) (refusal why (directory (ghosts.disk old).reads) (miss.reason r));
          })
          (λ cut. absurd (omega (arith, e, cut.0)))
          says.line

      no_list : IsTrue ghosts.tells_reads → why ≡ whys.NoList → MissesList (IsTrue ghosts.tells_all) status (ghosts.output old) (ghosts.output new)
      no_list r is = ⊎_elim
          (λ whole. inl (whole.0 ∙ ap status_of_why is, λ t. whole.1 t ∙ ap (λ (w : Why). ghosts.output mid ++ stop_text None (status_of_why w) w) is ∙ ap (λ (o : Text). o ++ stop_text None 75 whys.NoList) (miss.output t)))
          (λ cut. inr (inr (inl cut.0)))
          says.line

  pub missed : Exercises ghosts count old new status
  unfolding missed_list
  missed = record {
    does = missed_list;
    instants = λ t q state. ⊎_elim (λ early. inl early)
        (λ late. inr (first_weaker ghosts.instant ghosts.left_since ghosts.disk ghosts.output ghosts.syncs old new (Now (ghosts.disk old) (ghosts.output old)) (IsAfterSome q (items_of q count) (ghosts.output old)) (Now (ghosts.disk old) (ghosts.output old)) (IsExercising q count (ghosts.output old))
        late (λ left out p. p) (λ left out p. inl p)))
        (after_some t q state);
    anywhere = λ r files here. record {
      first = [];
      batch = [];
      row = nothing_row r files here;
      instants = (
        λ t. opens_weaker ghosts old new (IsAfterFirst files [] (ghosts.output old)) (IsExercisingAt files [] [] count (ghosts.output old)) (nothing_opens t files here) (λ left out p. inl p),
        λ now t. weaker ghosts.instant ghosts.left_since ghosts.disk ghosts.output old new (IsAfterFirst files [] (ghosts.output old)) (IsExercisingAt files [] [] count (ghosts.output old))
            ((each_instant ghosts files [] old new here (λ u. nothing_opens u files here)).1 now t) (λ left out p. inl p),
      );
    };
  }

-- What a run over a feed does to a list, put together.
use Rattle.std.proofs.Common.{◌≡◌, ◌⊎◌, ℕ, ◌+◌, ◌-◌, ◌≤◌, true, IsTrue, List, [], ◌++◌, length, take, Option, Some, None, ap, sym, refl, subst, ◌∙◌, arith}
use Rattle.ml_base.specs.Bytes.{Text}
use Rattle.ml_base.specs.Faults.{Rose}
use Rattle.ml_base.specs.declared.names.Name.{Name}
use Rattle.ml_site.specs.Disk.{Contents, IsImage}
use Rattle.ml_site.specs.declared.site.Site.{Ghosts}
use Rattle.ml_journal.specs.Calls.{Leaves}
use Rattle.ml_journal.specs.Kept.{IsKept, IsStill}
use Rattle.ml_journal.specs.Log.{directory}
use Rattle.ml_journal.specs.Stores.{site_of}
use Rattle.ml_journal.specs.declared.store.Store.{Store}
use Rattle.ml_plain.specs.declared.Item.{Item}
use Rattle.ml_plain.specs.Histories.{State, fold}
use Rattle.ml_plain.specs.Replies.{is_status}
use Rattle.ml_list.proofs.States.{last-nil}
use Rattle.ml_ending.specs.declared.endings.Ending.{Ending}
use Rattle.ml_ending.specs.declared.lines.Why.{Why}
use Rattle.ml_ending.specs.declared.lines.Why.TheVariants as whys
use Rattle.ml_ending.specs.Endings.{StopLine, who_of, Finishes, Opens, Refuses, Says}
use Rattle.ml_stream.specs.Items.{place_of}
use Rattle.ml_stream.specs.Stream.{StreamEnd}
use Rattle.ml_run.specs.declared.feed.Feed.{Ghosts as FeedGhosts}
use Rattle.ml_run.specs.declared.batches.Batch.{Batch}
use Rattle.ml_run.specs.declared.batches.BatchEnd.{BatchEnd}
use Rattle.ml_run.specs.declared.batches.BatchEnd.TheVariants as ends
use Rattle.ml_run.specs.Anywhere.{AtEachInstant}
use Rattle.ml_run.specs.Clauses.{AnswersStream}
use Rattle.ml_run.specs.Endings.{Begins, IsLine, IsServing, Runs}
use Rattle.ml_run.specs.Batches.{EndsWithReason, Gathers, IsEnd, IsBatch, IsNumberOf, IsStop, TakesSome}
use Rattle.ml_run.specs.Leaving.{dir_of, IsAfterSome}
use Rattle.ml_run.specs.Serving.{EndsList, ReadsFeed}
use Rattle.ml_run.specs.Settling.{IsSettled, IsUnsettled, LeavesSettling}
use Rattle.ml_run.proofs.Causes.{end_reason, refused_status}
use Rattle.ml_run.proofs.Opening.{early_runs, first_line, first_served, list_instants, runs_before}
use Rattle.ml_run.proofs.Rounds.{cut_split, last_line}
use Rattle.ml_run.proofs.Served.{finished_instants, finished_runs, line_number}
use Rattle.ml_run.proofs.Streamed.{failing_whole, is_failing, tells_none}
use Rattle.ml_run.proofs.Taken.{EndsTo, all_answered, few_none, finished_other, from_taken, nothing_taken, said_after, taken_map}
use Rattle.ml_run.proofs.Whole.{Round, batch_refused, minus_plus, round_line, round_instants, round_others, round_served}

module _ {F S : Type 0} (fed : FeedGhosts F) (ghosts : Ghosts S) where
  -- the run ends after a batch, with or without a line of its own
  list_finished : (limit answered last : ℕ) (before now after : F) (start : S) (old read : Store S ghosts) (new end : S) (ended : Ending) (all : List Item) (ending : StreamEnd) (q : State) (b : Begins (fed.left before) (ghosts.disk start).reads all ending q)
      (i : IsServing ghosts start (site_of old) limit answered last (fed.reader now) (fed.left now) all ending q) (g : Batch) (stop : BatchEnd) (s : Gathers (dir_of old) last g stop (limit - answered) (fed.reader after) (fed.left after) i.ahead ending (fold q i.done)) (lines : Text)
      → lines ≡ g.lines → g.count ≤ limit - answered → answered ≤ limit → (IsTrue ghosts.tells_all → IsTrue ghosts.tells_reads) → ((site : S) → IsTrue ghosts.tells_all → IsImage (ghosts.disk site) (ghosts.disk site).reads) → IsTrue ghosts.tells_reads
      → IsKept old read → IsSettled ghosts g.txn lines (site_of read) new → LeavesSettling ghosts g.txn lines (site_of read) new
      → (t : TakesSome ends.Full 0 b.bytes answered 0 (fed.reader now) (fed.left now)) → TakesSome stop (place_of (fed.reader now)) t.2.rest g.count (limit - answered - g.count) (fed.reader after) (fed.left after)
      → (line : StopLine) → Finishes ghosts new end line ended.status g.last → ended.answered ≡ answered + g.count
      → ((r : Round ghosts start new limit (answered + g.count) g.last all q s.rest) → IsLine line (Rose (fed.faults before) (fed.faults after)) limit (ghosts.disk new).reads all ending q r.done (take (limit - (answered + g.count)) s.rest))
      → ((beyond : List Item) → EndsTo stop (limit - answered - g.count) beyond → IsNumberOf (who_of line) (take (limit - (answered + g.count)) beyond) × (ended.status ≡ 74 → beyond ≡ []))
      → EndsList fed ghosts (Leaves ghosts start end) limit before after start end ended all ending q
  list_finished limit answered last before now after start old read new end ended all ending q b i g stop s lines is few le reads images r kept settled time t u line f sum said number =
      let input = Rose (fed.faults before) (fed.faults after) in
      let done_of : (others beyond : List Item) → others ≡ i.done ++ (s.items ++ beyond) → Round ghosts start new limit (answered + g.count) g.last others q beyond = λ others beyond parts.
      round_others ghosts start old read new limit answered last (fed.reader now) (fed.reader after) (fed.left now) (fed.left after) all ending q i g stop s lines is few le reads r kept settled time others beyond parts in
      let here = done_of all s.rest (i.split ∙ ap (λ (l : List Item). i.done ++ l) s.split) in
      let rest = take (limit - (answered + g.count)) s.rest in
      let served = round_served ghosts start new limit (answered + g.count) g.last all s.rest q here in
      let line_is = said here in record {
        whole = finished_runs ghosts start new end q all ending input limit ended.answered ended.status g.last here.done rest line r served (sum ∙ here.count) (omega (arith, sum, here.few)) here.last_is line_is f;
        instants = finished_instants ghosts start new end q (take limit all) here.done rest line ended.status g.last reads served (line_number line input limit (ghosts.disk new).reads all ending q here.done rest line_is) f;
        taken = from_taken (fed.left before) (fed.left now) (fed.left after) b.bytes all ending i.done i.ahead s.items s.rest answered g.count 0 (limit - answered - g.count) (fed.reader now) (fed.reader after) stop
            (λ (items : List Item). (IsTrue ghosts.tells_all → IsAfterSome q (take limit items) (ghosts.output start) (ghosts.disk end).reads (ghosts.output end)) × (ended.status ≡ 74 → ended.answered ≡ length items)) b.left_is b.stream i.split i.count s.split s.holds.count t u
            (λ beyond tells.
            let others = i.done ++ (s.items ++ beyond) in
            let n = number beyond tells in (
              λ t. (round_instants ghosts start new end limit (answered + g.count) g.last ended.status others beyond q line reads (done_of others beyond refl) n.0 f t).now (ghosts.disk end).reads (images end t),
              λ is. all_answered ended.answered answered g.count i.done s.items beyond sum i.count s.holds.count (n.1 is),
            ));
      }

  -- the stream is at its end
  pub list_last : (limit answered last : ℕ) (before now after : F) (start : S) (old read : Store S ghosts) (new end : S) (ended : Ending) (all : List Item) (ending : StreamEnd) (q : State) (b : Begins (fed.left before) (ghosts.disk start).reads all ending q)
      (i : IsServing ghosts start (site_of old) limit answered last (fed.reader now) (fed.left now) all ending q) (g : Batch) (stop : BatchEnd) (s : Gathers (dir_of old) last g stop (limit - answered) (fed.reader after) (fed.left after) i.ahead ending (fold q i.done)) (lines : Text)
      → lines ≡ g.lines → g.count ≤ limit - answered → answered ≤ limit → (IsTrue ghosts.tells_all → IsTrue ghosts.tells_reads) → ((site : S) → IsTrue ghosts.tells_all → IsImage (ghosts.disk site) (ghosts.disk site).reads) → IsTrue ghosts.tells_reads
      → IsKept old read → IsSettled ghosts g.txn lines (site_of read) new → LeavesSettling ghosts g.txn lines (site_of read) new
      → (t : TakesSome ends.Full 0 b.bytes answered 0 (fed.reader now) (fed.left now)) → TakesSome stop (place_of (fed.reader now)) t.2.rest g.count (limit - answered - g.count) (fed.reader after) (fed.left after)
      → stop ≡ ends.Last → Finishes ghosts new end None ended.status g.last → ended.answered ≡ answered + g.count → EndsList fed ghosts (Leaves ghosts start end) limit before after start end ended all ending q
  list_last limit answered last before now after start old read new end ended all ending q b i g stop s lines is few le reads images r kept settled time t u last_is f sum =
      let more = limit - answered - g.count in
      let none = subst (λ (e : BatchEnd). IsEnd e more (fed.reader after) (fed.left after) s.rest ending) last_is s.ends in
      list_finished limit answered last before now after start old read new end ended all ending q b i g stop s lines is few le reads images r kept settled time t u None f sum
      (λ here. last_line s.rest ending (Rose (fed.faults before) (fed.faults after)) limit (ghosts.disk new).reads all q here.done (take (limit - (answered + g.count)) s.rest) here.split none.0 none.1)
      (λ beyond tells. (tt, λ is. subst (λ (e : BatchEnd). EndsTo e more beyond) last_is tells))

  -- the batch was stopped
  pub list_stopped : (limit answered last : ℕ) (before now after : F) (start : S) (old read : Store S ghosts) (new end : S) (ended : Ending) (all : List Item) (ending : StreamEnd) (q : State) (b : Begins (fed.left before) (ghosts.disk start).reads all ending q)
      (i : IsServing ghosts start (site_of old) limit answered last (fed.reader now) (fed.left now) all ending q) (g : Batch) (stop : BatchEnd) (s : Gathers (dir_of old) last g stop (limit - answered) (fed.reader after) (fed.left after) i.ahead ending (fold q i.done)) (lines : Text)
      → lines ≡ g.lines → g.count ≤ limit - answered → answered ≤ limit → (IsTrue ghosts.tells_all → IsTrue ghosts.tells_reads) → ((site : S) → IsTrue ghosts.tells_all → IsImage (ghosts.disk site) (ghosts.disk site).reads) → IsTrue ghosts.tells_reads
      → IsKept old read → IsSettled ghosts g.txn lines (site_of read) new → LeavesSettling ghosts g.txn lines (site_of read) new
      → (t : TakesSome ends.Full 0 b.bytes answered 0 (fed.reader now) (fed.left now)) → TakesSome stop (place_of (fed.reader now)) t.2.rest g.count (limit - answered - g.count) (fed.reader after) (fed.left after)
      → (who : Option ℕ) (why : Why) (disk : Type 0) (damaged : Name → Type 0) → stop ≡ ends.Stopped who why → EndsWithReason stop (Rose (fed.faults before) (fed.faults after)) disk damaged → is_status g.last ≡ true
      → Finishes ghosts new end (Some (who, why)) ended.status g.last → ended.answered ≡ answered + g.count → EndsList fed ghosts (Leaves ghosts start end) limit before after start end ended all ending q
  list_stopped limit answered last before now after start old read new end ended all ending q b i g stop s lines is few le reads images r kept settled time t u who why disk damaged stop_is reason sound f sum =
      let input = Rose (fed.faults before) (fed.faults after) in
      let more = limit - answered - g.count in
      let same : more ≡ limit - (answered + g.count) = minus_plus limit answered g.count in
      let stopped = subst (λ (n : ℕ). IsStop why who n s.rest ending) same (subst (λ (e : BatchEnd). IsEnd e more (fed.reader after) (fed.left after) s.rest ending) stop_is s.ends) in
      let cause = subst (λ (e : BatchEnd). EndsWithReason e input disk (λ (name : Name). Unit {0})) stop_is (end_reason stop input input disk damaged (λ x. x) reason) in
      list_finished limit answered last before now after start old read new end ended all ending q b i g stop s lines is few le reads images r kept settled time t u (Some (who, why)) f sum
      (λ here. round_line ghosts start new limit (answered + g.count) g.last all s.rest ending q input disk (λ (name : Name). Unit {0}) here who why stopped cause)
      (λ beyond tells.
      let to = subst (λ (e : BatchEnd). EndsTo e more beyond) stop_is tells in
      (subst (λ (n : ℕ). IsNumberOf who (take n beyond)) same to.0, λ is. to.1 (finished_other ghosts new end who why ended.status g.last f sound is)))

  -- the batch was refused
  pub list_refused : (limit answered last : ℕ) (before now after : F) (start : S) (old read : Store S ghosts) (mid end : S) (ended : Ending) (all : List Item) (ending : StreamEnd) (q : State) (b : Begins (fed.left before) (ghosts.disk start).reads all ending q)
      (i : IsServing ghosts start (site_of old) limit answered last (fed.reader now) (fed.left now) all ending q) (g : Batch) (stop : BatchEnd) (s : Gathers (dir_of old) last g stop (limit - answered) (fed.reader after) (fed.left after) i.ahead ending (fold q i.done)) (lines : Text)
      → lines ≡ g.lines → g.count ≤ limit - answered → answered ≤ limit → (IsTrue ghosts.tells_all → IsTrue ghosts.tells_reads) → ((site : S) → IsTrue ghosts.tells_all → IsImage (ghosts.disk site) (ghosts.disk site).reads) → IsTrue ghosts.tells_reads
      → IsKept old read → (why : Option Why) → IsUnsettled ghosts g.txn lines why (site_of read) mid → LeavesSettling ghosts g.txn lines (site_of read) mid
      → (t : TakesSome ends.Full 0 b.bytes answered 0 (fed.reader now) (fed.left now)) → TakesSome stop (place_of (fed.reader now)) t.2.rest g.count (limit - answered - g.count) (fed.reader after) (fed.left after)
      → IsBatch g → Refuses ghosts mid end g.first why ended.status → ended.answered ≡ answered → EndsList fed ghosts (Leaves ghosts start end) limit before after start end ended all ending q
  list_refused limit answered last before now after start old read mid end ended all ending q b i g stop s lines is few le reads images r kept why refused time t u batch f same =
      let input = Rose (fed.faults before) (fed.faults after) in
      let both : (others beyond : List Item) → others ≡ i.done ++ (s.items ++ beyond)
      → Runs (IsTrue ghosts.tells_all) input ended.status limit ended.answered (ghosts.disk end).reads (ghosts.output end) others ending q (ghosts.output start) × Leaves ghosts start end (IsAfterSome q (take limit others) (ghosts.output start)) = λ others beyond parts.
      batch_refused ghosts start old read mid end limit last ended.status ended.answered others ending q input i.done s.items (take (limit - (answered + g.count)) beyond)
      (cut_split limit answered g.count others i.done (s.items ++ beyond) s.items beyond parts i.count le refl s.holds.count few) i.served g s.holds batch lines why is reads r kept refused time (same ∙ i.count) f in
      let here = both all s.rest (i.split ∙ ap (λ (l : List Item). i.done ++ l) s.split) in record {
        whole = here.0;
        instants = here.1;
        taken = from_taken (fed.left before) (fed.left now) (fed.left after) b.bytes all ending i.done i.ahead s.items s.rest answered g.count 0 (limit - answered - g.count) (fed.reader now) (fed.reader after) stop
            (λ (items : List Item). (IsTrue ghosts.tells_all → IsAfterSome q (take limit items) (ghosts.output start) (ghosts.disk end).reads (ghosts.output end)) × (ended.status ≡ 74 → ended.answered ≡ length items)) b.left_is b.stream i.split i.count s.split s.holds.count t u
            (λ beyond tells. (
              λ t. ((both (i.done ++ (s.items ++ beyond)) beyond refl).1 t).now (ghosts.disk end).reads (images end t),
              λ is. absurd (refused_status ghosts (site_of read) mid end ended.status g.first why refused.refused f (λ e. omega (arith, e, is)) (λ e. omega (arith, e, is)) (λ e. omega (arith, e, is))),
            ));
      }

  -- the same, ghosts from an earlier site on
  pub list_before : (M N : (Contents → Text → Type 0) → Type 0) (limit : ℕ) (before after : F) (start now new : S) (ended : Ending) (all : List Item) (ending : StreamEnd) (q : State) → (IsTrue ghosts.tells_all → ghosts.output now ≡ ghosts.output start)
      → (M (IsAfterSome q (take limit all) (ghosts.output now)) → N (IsAfterSome q (take limit all) (ghosts.output start)))
      → EndsList fed ghosts M limit before after now new ended all ending q → EndsList fed ghosts N limit before after start new ended all ending q
  list_before M N limit before after start now new ended all ending q put instants e = record {
    whole = runs_before (IsTrue ghosts.tells_all) (Rose (fed.faults before) (fed.faults after)) ended.status limit ended.answered (ghosts.disk new).reads (ghosts.output new) all ending q (ghosts.output now) (ghosts.output start) put e.whole;
    instants = instants e.instants;
    taken = taken_map (fed.left before) (fed.left after) (λ (items : List Item). (IsTrue ghosts.tells_all → IsAfterSome q (take limit items) (ghosts.output now) (ghosts.disk new).reads (ghosts.output new)) × (ended.status ≡ 74 → ended.answered ≡ length items))
        (λ (items : List Item). (IsTrue ghosts.tells_all → IsAfterSome q (take limit items) (ghosts.output start) (ghosts.disk new).reads (ghosts.output new)) × (ended.status ≡ 74 → ended.answered ≡ length items)) e.taken
        (λ items p. (λ t. subst (λ (o : Text). IsAfterSome q (take limit items) o (ghosts.disk new).reads (ghosts.output new)) (put t) (p.0 t), p.1));
  }

  -- a line is said before the first item
  pub list_unopened : (limit : ℕ) (before : F) (start mid new : S) (ended : Ending) (why : Why) (all : List Item) (ending : StreamEnd) (q : State) → Begins (fed.left before) (ghosts.disk start).reads all ending q → IsTrue ghosts.tells_reads
      → (IsTrue ghosts.tells_reads → directory (ghosts.disk mid).reads ≡ directory (ghosts.disk start).reads) → (IsTrue ghosts.tells_all → ghosts.output mid ≡ ghosts.output start) → ended.answered ≡ 0 → (why ≡ whys.Memory) ⊎ (why ≡ whys.Disk)
      → Says ghosts mid new ended.status None why → (IsTrue ghosts.tells_all → Opens ghosts start new (IsAfterSome q (take limit all) (ghosts.output start))) → EndsList fed ghosts (AtEachInstant ghosts start new) limit before before start new ended all ending q
  list_unopened limit before start mid new ended why all ending q b r same put none is says opens = record {
    whole = early_runs ghosts start mid new q all ending (Rose (fed.faults before) (fed.faults before)) limit ended.answered ended.status why r b.state same put none is says;
    instants = list_instants ghosts start new q (take limit all) b.state opens;
    taken = nothing_taken (fed.left before) b.bytes (λ (items : List Item). (IsTrue ghosts.tells_all → IsAfterSome q (take limit items) (ghosts.output start) (ghosts.disk new).reads (ghosts.output new)) × (ended.status ≡ 74 → ended.answered ≡ length items)) b.left_is
        (λ t. said_after ghosts start mid new q (take limit []) ended.status why b.state same (put t) r t says, λ e. none);
  }

  -- a store is closed before the first item, with a line that tells why
  pub list_early : (limit : ℕ) (before : F) (now new : S) (ended : Ending) (why : Why) (all : List Item) (ending : StreamEnd) (q : State) → Begins (fed.left before) (ghosts.disk now).reads all ending q
      → (IsTrue ghosts.tells_all → IsTrue ghosts.tells_reads) → ((site : S) → IsTrue ghosts.tells_all → IsImage (ghosts.disk site) (ghosts.disk site).reads) → IsTrue ghosts.tells_reads → Leaves ghosts now now (IsStill ghosts now) → (why ≡ whys.Memory) ⊎ (why ≡ whys.Disk)
      → Finishes ghosts now new (Some (None, why)) ended.status 0 → ended.answered ≡ 0 → EndsList fed ghosts (Leaves ghosts now new) limit before before now new ended all ending q
  list_early limit before now new ended why all ending q b reads images r still is f none =
      let input = Rose (fed.faults before) (fed.faults before) in
      let instants : (items : List Item) → Leaves ghosts now new (IsAfterSome q (take limit items) (ghosts.output now)) = λ items. finished_instants ghosts now now new q (take limit items) [] (take limit items) (Some (None, why)) ended.status 0 reads (first_served ghosts now limit items q b.state still) tt f in record {
        whole = finished_runs ghosts now now new q all ending input limit ended.answered ended.status 0 [] (take limit all) (Some (None, why)) r (first_served ghosts now limit all q b.state still) none (omega (arith, none)) (sym (last-nil 0 q))
            (first_line why input limit (ghosts.disk now).reads all ending q (take limit all) is) f;
        instants = instants all;
        taken = nothing_taken (fed.left before) b.bytes (λ (items : List Item). (IsTrue ghosts.tells_all → IsAfterSome q (take limit items) (ghosts.output now) (ghosts.disk new).reads (ghosts.output new)) × (ended.status ≡ 74 → ended.answered ≡ length items)) b.left_is
            (λ t. (instants [] t).now (ghosts.disk new).reads (images new t), λ e. none);
      }

  -- a run that failed tells nothing of its stream
  pub stream_failing : (left : Option Text) (limit : ℕ) (old new : S) (ended : Ending) → is_failing ended.status ≡ true → AnswersStream ghosts left ended.status limit ended.answered old new
  stream_failing left limit old new ended failing = record {
    streamed = λ all ending b. tells_none ended.status limit ended.answered all ending failing;
    answers = λ all ending b is. absurd (failing_whole ended.status failing is);
  }

  -- nor does it take any of it before its first item tells nothing of its stream
  pub reads_nothing : (limit : ℕ) (before : F) (old new : S) (ended : Ending) → is_failing ended.status ≡ true → ReadsFeed fed ghosts limit before before old new ended
  reads_nothing limit before old new ended failing = record {
    stream = stream_failing (fed.left before) limit old new ended failing;
    few = λ bytes is. few_none (fed.left before) bytes ended.status limit is failing;
    through = refl;
  }

-- The rounds of a run, put together.
use Rattle.std.proofs.Common.{◌≡◌, ℕ, zero, suc, ◌+◌, ◌-◌, ◌<◌, ◌≤◌, IsTrue, List, [], ◌++◌, length, take, Option, Some, ap, sym, refl, subst, ◌∙◌, arith, append_assoc, length-append}
use Rattle.std.specs.Prelude.{IsSome}
use Rattle.ml_base.specs.Bytes.{Text}
use Rattle.ml_base.specs.Faults.{Rose}
use Rattle.ml_base.specs.Dir.{with_puts}
use Rattle.ml_base.specs.declared.names.Name.{Name}
use Rattle.ml_base.specs.declared.puts.Put.{Put}
use Rattle.ml_site.specs.Disk.{Contents}
use Rattle.ml_site.specs.declared.site.Site.{Ghosts}
use Rattle.ml_journal.specs.Log.{directory}
use Rattle.ml_journal.specs.Kept.{IsKept, IsStill}
use Rattle.ml_journal.specs.Stores.{site_of, the_dir}
use Rattle.ml_journal.specs.declared.store.Store.{Store}
use Rattle.ml_plain.specs.declared.Item.{Item}
use Rattle.ml_plain.specs.Directory.{IsState}
use Rattle.ml_plain.specs.Histories.{State, fold, text, last_from}
use Rattle.ml_list.proofs.States.{fold-append, last-append, fold-nil, text-nil, last-nil}
use Rattle.ml_stream.specs.declared.items.Items.{Items}
use Rattle.ml_run.specs.declared.batches.Batch.{Batch}
use Rattle.ml_run.specs.declared.batches.BatchEnd.{BatchEnd}
use Rattle.ml_ending.specs.declared.lines.Why.{Why}
use Rattle.ml_stream.specs.Stream.{StreamEnd}
use Rattle.ml_run.specs.Batches.{Gathers, Holds, IsBatch, IsStop, IsNumberOf, IsAhead, HasReason}
use Rattle.ml_journal.specs.Calls.{Leaves}
use Rattle.ml_run.specs.Leaving.{dir_of, HasState, IsAfterSome, IsServed, IsLeft}
use Rattle.ml_run.specs.Settling.{IsSettled, IsUnsettled, LeavesSettling}
use Rattle.ml_ending.specs.Endings.{StopLine, who_of, Finishes, Refuses}
use Rattle.ml_run.specs.Endings.{Runs, IsServing, IsLine}
use Rattle.ml_run.proofs.Leaving.{take_split, same_state, other_list, txn_state, some_answered}
use Rattle.ml_site.proofs.Steps.{weaker}
use Rattle.std.proofs.lemmas.List.{append-nil}
use Rattle.ml_run.proofs.Served.{settling_instants, settled, left_after, finished_instants}
use Rattle.ml_run.proofs.Rounds.{served_wider, stop_line, first_next, refused_runs, refused_instants}

-- a batch with some put has an item
pub some_count : (count : ℕ) (txn : List Put) → (count ≡ 0 → txn ≡ []) → (txn ≡ [] → ⊥) → 0 < count
some_count zero txn none some = absurd (some (none refl))
some_count (suc n) txn none some = omega arith

-- a round is done: this many items are answered, and these come after them
pub record Round {S : Type 0} (ghosts : Ghosts S) (start new : S) (limit answered last : ℕ) (all : List Item) (q : State) (rest : List Item) : Type 0 where
  pub done : List Item
  pub split : all ≡ done ++ rest
  pub count : answered ≡ length done
  pub few : answered ≤ limit
  pub last_is : last ≡ last_from 0 q done
  pub served : IsServed ghosts start new q done done []

module _ {S : Type 0} (ghosts : Ghosts S) where
  -- for any items that begin with the done ones
  pub round_others : (start : S) (old read : Store S ghosts) (new : S) (limit answered last : ℕ) (reader next : Items) (left left' : Option Text) (all : List Item) (ending : StreamEnd) (q : State) (i : IsServing ghosts start (site_of old) limit answered last reader left all ending q)
      (g : Batch) (end : BatchEnd) (s : Gathers (dir_of old) last g end (limit - answered) next left' i.ahead ending (fold q i.done)) (lines : Text) → lines ≡ g.lines → g.count ≤ limit - answered → answered ≤ limit
      → (IsTrue ghosts.tells_all → IsTrue ghosts.tells_reads) → IsTrue ghosts.tells_reads → IsKept old read → IsSettled ghosts g.txn lines (site_of read) new → LeavesSettling ghosts g.txn lines (site_of read) new
      → (others after : List Item) → others ≡ i.done ++ (s.items ++ after) → Round ghosts start new limit (answered + g.count) g.last others q after
  round_others start old read new limit answered last reader next left left' all ending q i g end s lines is few le reads r kept ends time others after parts =
      let served = served_wider ghosts start (site_of old) q (i.done ++ s.items) i.done (s.items ++ []) (ap (λ (l : List Item). i.done ++ l) (sym (append-nil s.items))) i.served in record {
        done = i.done ++ s.items;
        split = parts ∙ sym (append_assoc i.done s.items after);
        count = omega (arith, i.count, s.holds.count, length-append i.done s.items);
        few = omega (arith, few, le);
        last_is = s.holds.last_is ∙ ap (λ (n : ℕ). last_from n (fold q i.done) s.items) i.last_is ∙ sym (last-append 0 q i.done s.items);
        served = settled ghosts start old read new q (i.done ++ s.items) i.done s.items [] g.txn lines reads r served kept s.holds.state (is ∙ s.holds.lines) ends time;
      }

  -- for those that were ahead
  pub round : (start : S) (old read : Store S ghosts) (new : S) (limit answered last : ℕ) (reader next : Items) (left left' : Option Text) (all : List Item) (ending : StreamEnd) (q : State) (i : IsServing ghosts start (site_of old) limit answered last reader left all ending q)
      (g : Batch) (end : BatchEnd) (s : Gathers (dir_of old) last g end (limit - answered) next left' i.ahead ending (fold q i.done)) (lines : Text) → lines ≡ g.lines → g.count ≤ limit - answered → answered ≤ limit
      → (IsTrue ghosts.tells_all → IsTrue ghosts.tells_reads) → IsTrue ghosts.tells_reads → IsKept old read → IsSettled ghosts g.txn lines (site_of read) new → LeavesSettling ghosts g.txn lines (site_of read) new
      → Round ghosts start new limit (answered + g.count) g.last all q s.rest
  round start old read new limit answered last reader next left left' all ending q i g end s lines is few le reads r kept ends time =
      round_others start old read new limit answered last reader next left left' all ending q i g end s lines is few le reads r kept ends time all s.rest (i.split ∙ ap (λ (l : List Item). i.done ++ l) s.split)

  -- nothing is done yet
  pub first_serving : (start : S) (limit last : ℕ) (reader : Items) (left : Option Text) (all : List Item) (ending : StreamEnd) (q : State) → HasState (directory (ghosts.disk start).reads) q → Leaves ghosts start start (IsStill ghosts start) → last ≡ 0
      → IsAhead reader left all ending → IsServing ghosts start start limit 0 last reader left all ending q
  first_serving start limit last reader left all ending q state still none ahead =
      let here : HasState (directory (ghosts.disk start).reads) (fold q []) = other_list (directory (ghosts.disk start).reads) q (fold q []) (sym (fold-nil q)) state in
      let put : ghosts.output start ≡ ghosts.output start ++ text q [] = sym (append-nil (ghosts.output start)) ∙ ap (λ (t : Text). ghosts.output start ++ t) (sym (text-nil q)) in
      record {
        done = [];
        ahead = all;
        split = refl;
        count = refl;
        last_is = none ∙ sym (last-nil 0 q);
        stream = ahead;
        served = record {
          split = refl;
          state = here;
          put = λ t. put;
          instants = λ t. weaker ghosts.instant ghosts.left_since ghosts.disk ghosts.output start start (IsStill ghosts start) (IsAfterSome q [] (ghosts.output start)) (still t)
              (λ left out p. some_answered q [] [] [] (ghosts.output start) out left refl (same_state (directory (ghosts.disk start).reads) (directory left) (fold q []) (ap directory p.0) here) (p.1 ∙ put));
        };
      }

  -- the items that were to be read, cut after a round
  round_split : (start new : S) (limit answered last : ℕ) (all rest : List Item) (q : State) (r : Round ghosts start new limit answered last all q rest) → take limit all ≡ r.done ++ take (limit - answered) rest
  round_split start new limit answered last all rest q r = ap (take limit) r.split ∙ take_split limit r.done rest (omega (arith, r.count, r.few)) ∙ ap (λ (n : ℕ). r.done ++ take n rest) (let e : limit - length r.done ≡ limit - answered = omega (arith, r.count) in e)

  pub round_served : (start new : S) (limit answered last : ℕ) (all rest : List Item) (q : State) (r : Round ghosts start new limit answered last all q rest) → IsServed ghosts start new q (take limit all) r.done (take (limit - answered) rest)
  round_served start new limit answered last all rest q r = served_wider ghosts start new q (take limit all) r.done (take (limit - answered) rest) (round_split start new limit answered last all rest q r) r.served

  -- the run goes on
  pub round_next : (start new : S) (limit answered last : ℕ) (reader : Items) (left : Option Text) (all rest : List Item) (ending : StreamEnd) (q : State) → Round ghosts start new limit answered last all q rest → IsAhead reader left rest ending
      → IsServing ghosts start new limit answered last reader left all ending q
  round_next start new limit answered last reader left all rest ending q r ahead = record { done = r.done; ahead = rest; split = r.split; count = r.count; last_is = r.last_is; stream = ahead; served = r.served }

  -- what the run says if it ends
  pub round_line : (start new : S) (limit answered last : ℕ) (all rest : List Item) (ending : StreamEnd) (q : State) (input disk : Type 0) (damaged : Name → Type 0) (r : Round ghosts start new limit answered last all q rest) (who : Option ℕ) (why : Why)
      → IsStop why who (limit - answered) rest ending → HasReason why input disk damaged → IsLine (Some (who, why)) input limit (ghosts.disk new).reads all ending q r.done (take (limit - answered) rest)
  round_line start new limit answered last all rest ending q input disk damaged r who why stop reason =
      stop_line why who (limit - answered) rest ending input disk damaged limit (ghosts.disk new).reads all q r.done r.split (omega (arith, r.count)) (omega (arith, r.count, r.few)) r.served.state stop reason

  -- the instants of a run that ends after a round, for any items that begin with its own
  pub round_instants : (start new end : S) (limit answered last status : ℕ) (all rest : List Item) (q : State) (line : StopLine) → (IsTrue ghosts.tells_all → IsTrue ghosts.tells_reads) → Round ghosts start new limit answered last all q rest
      → IsNumberOf (who_of line) (take (limit - answered) rest) → Finishes ghosts new end line status last → Leaves ghosts start end (IsAfterSome q (take limit all) (ghosts.output start))
  round_instants start new end limit answered last status all rest q line reads r number f =
      finished_instants ghosts start new end q (take limit all) r.done (take (limit - answered) rest) line status last reads (round_served start new limit answered last all rest q r) number f

  -- a batch was refused after these items: how the run ends
  pub batch_refused : (start : S) (old read : Store S ghosts) (mid new : S) (limit last status count : ℕ) (all : List Item) (ending : StreamEnd) (q : State) (input : Type 0) (done items rest : List Item) → take limit all ≡ done ++ (items ++ rest) → IsServed ghosts start (site_of old) q done done []
      → (g : Batch) → Holds (dir_of old) last g (fold q done) items → IsBatch g → (lines : Text) (why : Option Why) → lines ≡ g.lines → (IsTrue ghosts.tells_all → IsTrue ghosts.tells_reads) → IsTrue ghosts.tells_reads → IsKept old read
      → IsUnsettled ghosts g.txn lines why (site_of read) mid → LeavesSettling ghosts g.txn lines (site_of read) mid → count ≡ length done → Refuses ghosts mid new g.first why status
      → Runs (IsTrue ghosts.tells_all) input status limit count (ghosts.disk new).reads (ghosts.output new) all ending q (ghosts.output start) × Leaves ghosts start new (IsAfterSome q (take limit all) (ghosts.output start))
  batch_refused start old read mid new limit last status count all ending q input done items rest split served g holds batch lines why is reads r kept ends time equal f =
      let ahead = served_wider ghosts start (site_of old) q (take limit all) done (items ++ rest) split served in
      let text_is = is ∙ holds.lines in
      let dir = directory (ghosts.disk (site_of read)).reads in
      let number : IsNumberOf g.first (items ++ rest) = first_next g.first items rest holds.first (λ lt. batch.first (omega (arith, lt, holds.count))) in
      let state : HasState dir (fold q done) = same_state (directory (ghosts.disk (site_of old)).reads) dir (fold q done) (ap directory (kept.reads r)) ahead.state in
      let over : IsState (with_puts (the_dir dir) g.txn) (fold (fold q done) items) =
      subst (λ (c : Contents). IsState (with_puts (the_dir (directory c)) g.txn) (fold (fold q done) items)) (sym (kept.reads r)) holds.state in
      let is_some : (reason : Why) → why ≡ Some reason → IsSome why = λ reason e. subst (λ (o : Option Why). IsSome o) (sym e) refl in
      let left_here : (reason : Why) → why ≡ Some reason → IsLeft ghosts start mid q (take limit all) done (items ++ rest) = λ reason e.
      left_after ghosts start old read mid q (take limit all) done items rest g.txn lines why reads r ahead kept holds.state text_is (is_some reason e) ends time in
      let instants = settling_instants ghosts start old read mid q (take limit all) done items rest g.txn lines reads ahead kept holds.state text_is time in (
        refused_runs ghosts start (site_of read) mid new q all ending input limit count status done items rest g.first why r ahead.split equal left_here
            (λ e. other_list (directory (ghosts.disk mid).reads) (fold (fold q done) items) (fold q (done ++ items)) (sym (fold-append q done items)) (txn_state dir (directory (ghosts.disk mid).reads) g.txn (fold q done) (fold (fold q done) items) (ends.committed r e) state over))
            (λ t. let n = ends.cut t in (n.0, n.1 ∙ ap (λ (o : Text). o ++ take n.0 lines) (kept.output_is t ∙ ahead.put t) ∙ ap (λ (l : Text). (ghosts.output start ++ text q done) ++ take n.0 l) text_is))
            number (λ reason e. batch.first (some_count g.count g.txn batch.none (ends.some (is_some reason e)))) ends.refused f,
        refused_instants ghosts start mid new q (take limit all) done items rest g.first why status left_here instants number f,
      )

pub minus_plus : (limit answered count : ℕ) → limit - answered - count ≡ limit - (answered + count)
minus_plus limit answered count = omega arith

-- a run's end, with other names of the source's counts
pub runs_same : (told : Type 0) (a b a' b' status limit answered : ℕ) (held : Contents) (output : Text) (all : List Item) (ending : StreamEnd) (q : State) (before : Text) → a ≡ a' → b ≡ b'
    → Runs told (Rose a b) status limit answered held output all ending q before → Runs told (Rose a' b') status limit answered held output all ending q before
runs_same told a b a' b' status limit answered held output all ending q before one two r = subst (λ (n : ℕ). Runs told (Rose a' n) status limit answered held output all ending q before) two (subst (λ (n : ℕ). Runs told (Rose n b) status limit answered held output all ending q before) one r)

-- The rounds of a run over any directory.
use Rattle.std.proofs.Common.{◌≡◌, ◌≢◌, inl, ⊎_elim, ℕ, ◌+◌, ◌-◌, ◌≤◌, true, false, IsTrue, List, [], ◌∷◌, ◌++◌, length, take, Option, Some, Result, Ok, Err, OnOk, ap, sym, refl, subst, ◌∙◌, arith, append_assoc, length-append}
use Rattle.std.proofs.lemmas.List.{append-nil}
use Rattle.ml_base.specs.Bytes.{Text}
use Rattle.ml_base.specs.Dir.{Dir, are_files, touches_only, with_puts}
use Rattle.ml_base.specs.declared.names.Name.{Name}
use Rattle.ml_base.specs.declared.puts.Put.{Put}
use Rattle.ml_site.specs.Disk.{Contents}
use Rattle.ml_site.specs.declared.site.Site.{Ghosts}
use Rattle.ml_journal.specs.Calls.{Leaves}
use Rattle.ml_journal.specs.Kept.{IsKept}
use Rattle.ml_journal.specs.Log.{directory}
use Rattle.ml_journal.specs.Stores.{site_of}
use Rattle.ml_journal.specs.declared.store.Store.{Store}
use Rattle.ml_plain.specs.declared.Item.{Item}
use Rattle.ml_plain.specs.declared.Reply.{Reply}
use Rattle.ml_plain.specs.Directory.{IsState}
use Rattle.ml_plain.specs.Histories.{State, step}
use Rattle.ml_plain.specs.Replies.{is_code, is_status}
use Rattle.ml_list.specs.Again.{CountsOnce}
use Rattle.ml_list.specs.Found.{FoundWhole}
use Rattle.ml_list.specs.Applying.{Does}
use Rattle.ml_list.specs.Looked.{AlikeFor}
use Rattle.ml_list.specs.Written.{WritesAsAsked, is_written_by}
use Rattle.ml_ending.specs.declared.lines.Why.{Why}
use Rattle.ml_ending.specs.declared.lines.Why.TheVariants as whys
use Rattle.ml_ending.specs.Endings.{StopLine, Finishes, Refuses}
use Rattle.ml_ending.specs.Stops.{status_of_why}
use Rattle.ml_stream.specs.declared.items.Items.{Items}
use Rattle.ml_stream.specs.Stream.{StreamEnd, End}
use Rattle.ml_stream.specs.Writing.{spelled_item}
use Rattle.ml_run.specs.declared.batches.Batch.{Batch}
use Rattle.ml_run.specs.declared.batches.BatchEnd.{BatchEnd}
use Rattle.ml_run.specs.declared.batches.BatchEnd.TheVariants as ends
use Rattle.ml_run.specs.Batches.{HasNext, HasReason, IsAhead, IsBatch}
use Rattle.ml_run.specs.Endings.{Brings}
use Rattle.ml_run.specs.Leaving.{dir_of}
use Rattle.ml_run.specs.Settling.{IsSettled, IsUnsettled, LeavesSettling}
use Rattle.ml_run.specs.Single.{IsAlone}
use Rattle.ml_run.specs.Anywhere.{Done, items_of, answers_of, after, Adds, HoldsDone, GathersDone, GoesOn, IsAfterFirst, HasDone, HasServed, IsRow, DoesItems}
use Rattle.ml_run.proofs.Anywhere.{items_joined, items_length, done_joined, one_done, batch_here, next_done, finished_dir, finished_done, refused_dir, refused_done}
use Rattle.ml_run.proofs.Causes.{refused_status}
use Rattle.ml_run.proofs.Leaving.{take_split}
use Rattle.ml_run.proofs.Rounds.{cut_split}
use Rattle.ml_run.proofs.Streamed.{failing_whole, is_failing, settled_not}

-- a batch over those that were ahead, at its start
pub gathers_none_done : (files : Dir) (g : Batch) (reader : Items) (left : Option Text) → HoldsDone files g [] → GathersDone files g ends.Full reader reader left left
gathers_none_done files g reader left h = record { done = []; holds = h; ahead = λ ahead ending a. (ahead, refl, a) }

-- one item more was read and added
pub gathers_one_done : (files : Dir) (g new : Batch) (start reader next : Items) (left now later : Option Text) (d : Done) → (s : GathersDone files g ends.Full start reader left now) → Adds files g new d
    → ((rest : List Item) (ending : StreamEnd) → IsAhead reader now rest ending → (after : List Item) × (rest ≡ d.item ∷ after) × IsAhead next later after ending)
    → GathersDone files new ends.Full start next left later
gathers_one_done files g new start reader next left now later d s a read = record {
  done = s.done ++ d ∷ [];
  holds = one_done files g new s.done d s.holds a;
  ahead = λ ahead ending is.
      let old = s.ahead ahead ending is in
      let one = read old.0 ending old.2 in
      (one.0, old.1 ∙ ap (λ (l : List Item). items_of s.done ++ l) one.1 ∙ sym (append_assoc (items_of s.done) (d.item ∷ []) one.0) ∙ ap (λ (l : List Item). l ++ one.0) (sym (items_joined s.done (d ∷ []))), one.2);
}

-- it ended for another reason than being full
pub gathers_ended_done : (files : Dir) (g : Batch) (start reader next : Items) (left now later : Option Text) (end : BatchEnd) → ((rest : List Item) (ending : StreamEnd) → GoesOn end next later rest ending)
    → GathersDone files g ends.Full start reader left now → GathersDone files g end start next left later
gathers_ended_done files g start reader next left now later end goes s = record {
  done = s.done;
  holds = s.holds;
  ahead = λ ahead ending is. let old = s.ahead ahead ending is in (old.0, old.1, goes old.0 ending);
}

-- an end other than that of a full batch says nothing of what is ahead
pub other_goes : (end : BatchEnd) (reader : Items) (left : Option Text) (rest : List Item) (ending : StreamEnd) → end ≢ ends.Full → GoesOn end reader left rest ending
other_goes ends.Full reader left rest ending other = absurd (other refl)
other_goes ends.Last reader left rest ending other = tt
other_goes (ends.Stopped who why) reader left rest ending other = tt

-- an item was added to a batch, with what was done for it
pub added_done : (r : Result (Unit {0}) Why) (files : Dir) (g mid new : Batch) (item : Item) (more : List Put) (reply : Reply) → mid ≡ g → OnOk r (HasNext mid new item.number more reply) → IsTrue (are_files more) → IsTrue (is_code reply.code)
    → touches_only (is_written_by item) more ≡ true → WritesAsAsked (with_puts files g.txn) item more → CountsOnce (with_puts files g.txn) item.number (more, reply) → FoundWhole (with_puts files g.txn) item (more, reply)
    → ((dir : Dir) (q : State) → AlikeFor item (with_puts files g.txn) dir → IsState dir q → Does dir (more, reply) (step q item)) → OnOk r ((d : Done) × (d.item ≡ item) × Adds files g new d)
added_done (Ok u) files g mid new item more reply same next table code own asked once found gives =
    (record { item = item; puts = more; reply = reply }, refl, record { next = subst (λ (m : Batch). HasNext m new item.number more reply) same next; is = record { table = table; own = own; asked = asked; code = code; once = once; found = found; steps = gives } })
added_done (Err e) files g mid new item more reply same next table code own asked once found gives = tt

-- the status of a stop that has a reason is never that of an answer
reason_unanswered : (why : Why) (input disk : Type 0) (damaged : Name → Type 0) → HasReason why input disk damaged → is_status (status_of_why why) ≡ false
reason_unanswered (whys.Bad at) input disk damaged r = refl
reason_unanswered (whys.Short at) input disk damaged r = refl
reason_unanswered whys.More input disk damaged r = refl
reason_unanswered whys.Input input disk damaged r = refl
reason_unanswered whys.Memory input disk damaged r = refl
reason_unanswered whys.Disk input disk damaged r = refl
reason_unanswered (whys.At name) input disk damaged r = refl
reason_unanswered whys.Usage input disk damaged r = absurd r
reason_unanswered whys.Words input disk damaged r = absurd r
reason_unanswered whys.Long input disk damaged r = absurd r
reason_unanswered whys.Clock input disk damaged r = absurd r
reason_unanswered whys.NoList input disk damaged r = absurd r
reason_unanswered whys.There input disk damaged r = absurd r
reason_unanswered whys.Absent input disk damaged r = absurd r

pub not_answered : (why : Why) (status : ℕ) (input disk : Type 0) (damaged : Name → Type 0) → HasReason why input disk damaged → status ≡ status_of_why why → IsTrue (is_status status) → ⊥
not_answered why status input disk damaged reason same ok = let bad : true ≡ false = sym ok ∙ ap is_status same ∙ reason_unanswered why input disk damaged reason in cc

module _ {S : Type 0} (ghosts : Ghosts S) where
  -- the run goes on after a full batch
  pub served_next : (files : Dir) (start : S) (old read : Store S ghosts) (new : S) (answered : ℕ) (reader next : Items) (left left' before : Option Text) (g : Batch) (lines : Text) → (IsTrue ghosts.tells_all → IsTrue ghosts.tells_reads) → IsTrue ghosts.tells_reads
      → HasServed ghosts files start (site_of old) answered reader left before → GathersDone (dir_of old) g ends.Full reader next left left' → lines ≡ g.lines
      → IsKept old read → IsSettled ghosts g.txn lines (site_of read) new → LeavesSettling ghosts g.txn lines (site_of read) new → HasServed ghosts files start new (answered + g.count) next left' before
  served_next files start old read new answered reader next left left' before g lines reads r a s is kept ends time =
      let h = batch_here files a.done s.done g (directory (ghosts.disk (site_of old)).reads) a.has.dir s.holds in record {
        done = a.done ++ s.done;
        has = next_done ghosts files start old read new a.done s.done g lines reads r a.has h is kept ends time;
        count = omega (arith, a.count, s.holds.count, length-append a.done s.done);
        items = λ all ending b.
            let i = a.items all ending b in
            let n = s.ahead i.0 ending i.2 in
            (n.0, i.1 ∙ ap (λ (l : List Item). items_of a.done ++ l) n.1 ∙ sym (append_assoc (items_of a.done) (items_of s.done) n.0) ∙ ap (λ (l : List Item). l ++ n.0) (sym (items_joined a.done s.done)), n.2);
      }

  -- the run ends after a batch
  pub served_last : (files : Dir) (start : S) (old read : Store S ghosts) (new end : S) (limit answered status total last : ℕ) (reader next : Items) (left left' before : Option Text) (g : Batch) (stop : BatchEnd) (lines : Text) (line : StopLine) → (IsTrue ghosts.tells_all → IsTrue ghosts.tells_reads)
      → IsTrue ghosts.tells_reads → HasServed ghosts files start (site_of old) answered reader left before → GathersDone (dir_of old) g stop reader next left left' → lines ≡ g.lines
      → IsKept old read → IsSettled ghosts g.txn lines (site_of read) new → LeavesSettling ghosts g.txn lines (site_of read) new → Finishes ghosts new end line status last
      → total ≡ answered + g.count → answered + g.count ≤ limit → (IsTrue (is_status status) → IsTrue ghosts.tells_all → ghosts.output end ≡ ghosts.output new)
      → DoesItems ghosts (Leaves ghosts start end) (Brings before) limit status total start end files
  served_last files start old read new end limit answered status total last reader next left left' before g stop lines line reads r a s is kept ends time f sum few quiet =
      let h = batch_here files a.done s.done g (directory (ghosts.disk (site_of old)).reads) a.has.dir s.holds in
      let all_done = a.done ++ s.done in
      let has : HasDone ghosts files start new all_done = next_done ghosts files start old read new a.done s.done g lines reads r a.has h is kept ends time in
      let size : answered + g.count ≡ length all_done = omega (arith, a.count, s.holds.count, length-append a.done s.done) in record {
        first = all_done;
        batch = [];
        row = record {
          are = done_joined files all_done [] has.are tt;
          count = sum ∙ size;
          few = omega arith;
          brought = λ all ending b.
              let i = a.items all ending b in
              let n = s.ahead i.0 ending i.2 in
              let split : all ≡ items_of all_done ++ n.0 = i.1 ∙ ap (λ (l : List Item). items_of a.done ++ l) n.1 ∙ sym (append_assoc (items_of a.done) (items_of s.done) n.0) ∙ ap (λ (l : List Item). l ++ n.0) (sym (items_joined a.done s.done)) in
              let beyond = take (limit - length (items_of all_done)) n.0 in
              (beyond, ap (take limit) split ∙ take_split limit (items_of all_done) n.0 (omega (arith, items_length all_done, size, few)) ∙ ap (λ (l : List Done). items_of l ++ beyond) (sym (append-nil all_done)));
          end = inl (finished_dir ghosts files start new end all_done line status last r has f);
          whole = λ one two three. refl;
        };
        instants = subst (λ (l : List Done). Leaves ghosts start end (IsAfterFirst files l (ghosts.output start))) (sym (append-nil all_done)) (finished_done ghosts files start new end all_done line status last has f);
        answers = λ ok t. quiet ok t ∙ has.put t;
      }

  -- a batch was refused
  pub served_refused : (files : Dir) (start : S) (old read : Store S ghosts) (mid new : S) (limit answered status total : ℕ) (reader next : Items) (left left' before : Option Text) (g : Batch) (stop : BatchEnd) (lines : Text) (why : Option Why) → (IsTrue ghosts.tells_all → IsTrue ghosts.tells_reads)
      → IsTrue ghosts.tells_reads → HasServed ghosts files start (site_of old) answered reader left before → GathersDone (dir_of old) g stop reader next left left' → IsBatch g → lines ≡ g.lines
      → IsKept old read → IsUnsettled ghosts g.txn lines why (site_of read) mid → LeavesSettling ghosts g.txn lines (site_of read) mid → Refuses ghosts mid new g.first why status
      → total ≡ answered → answered ≤ limit → g.count ≤ limit - answered → DoesItems ghosts (Leaves ghosts start new) (Brings before) limit status total start new files
  served_refused files start old read mid new limit answered status total reader next left left' before g stop lines why reads r a s batch is kept ends time f sum le few =
      let h = batch_here files a.done s.done g (directory (ghosts.disk (site_of old)).reads) a.has.dir s.holds in
      let here : directory (ghosts.disk (site_of read)).reads ≡ Some (after files a.done) = ap directory (kept.reads r) ∙ a.has.dir in record {
        first = a.done;
        batch = s.done;
        row = record {
          are = done_joined files a.done s.done a.has.are h.are;
          count = sum ∙ a.count;
          few = omega (arith, batch.few, s.holds.count);
          brought = λ all ending b.
              let i = a.items all ending b in
              let n = s.ahead i.0 ending i.2 in
              let rest = take (limit - (answered + g.count)) n.0 in (
                rest,
                cut_split limit answered g.count all (items_of a.done) i.0 (items_of s.done) n.0 i.1 (a.count ∙ sym (items_length a.done)) le n.1 (s.holds.count ∙ sym (items_length s.done)) few
                    ∙ sym (append_assoc (items_of a.done) (items_of s.done) rest) ∙ ap (λ (l : List Item). l ++ rest) (sym (items_joined a.done s.done)),
              );
          end = refused_dir ghosts files (site_of read) mid new a.done s.done g g.first why status r here h (ends.any r) f;
          whole = λ one two three. absurd (refused_status ghosts (site_of read) mid new status g.first why ends.refused f one two three);
        };
        instants = refused_done ghosts files start old read mid new a.done s.done g lines g.first why status reads a.has h is kept ends time f;
        answers = λ ok t. absurd (refused_status ghosts (site_of read) mid new status g.first why ends.refused f (λ e. settled_not status 71 refl ok e) (λ e. settled_not status 73 refl ok e) (λ e. settled_not status 111 refl ok e));
      }

  -- a run that ends before its items
  pub early_items : (M : (Contents → Text → Type 0) → Type 0) (brings : List Item → StreamEnd → Type 0) (limit status answered : ℕ) (start new : S) (files : Dir) → answered ≡ 0 → directory (ghosts.disk new).reads ≡ Some files
      → is_failing status ≡ true → M (IsAfterFirst files [] (ghosts.output start)) → DoesItems ghosts M brings limit status answered start new files
  early_items M brings limit status answered start new files none dir failing instants = record {
    first = [];
    batch = [];
    row = record { are = tt; count = none; few = omega arith; brought = λ all ending b. (take limit all, refl); end = inl dir; whole = λ one two three. refl };
    instants = instants;
    answers = λ ok t. absurd (failing_whole status failing ok);
  }

  -- a run's items, ghosts from an earlier site on
  pub items_before : (M N : (Contents → Text → Type 0) → Type 0) (brings : List Item → StreamEnd → Type 0) (limit status answered : ℕ) (start now new : S) (files : Dir) → (IsTrue ghosts.tells_all → ghosts.output now ≡ ghosts.output start)
      → ((done : List Done) → M (IsAfterFirst files done (ghosts.output now)) → N (IsAfterFirst files done (ghosts.output start)))
      → DoesItems ghosts M brings limit status answered now new files → DoesItems ghosts N brings limit status answered start new files
  items_before M N brings limit status answered start now new files same instants d = record {
    first = d.first;
    batch = d.batch;
    row = d.row;
    instants = instants (d.first ++ d.batch) d.instants;
    answers = λ ok t. d.answers ok t ∙ ap (λ (o : Text). o ++ answers_of d.first) (same t);
  }

  -- a row, with what is brought said in other words
  pub row_brought : (B C : List Item → StreamEnd → Type 0) (limit status answered : ℕ) (new : S) (files : Dir) (first batch : List Done) → ((all : List Item) (ending : StreamEnd) → C all ending → B all ending)
      → IsRow ghosts B limit status answered new files first batch → IsRow ghosts C limit status answered new files first batch
  row_brought B C limit status answered new files first batch brings r = record { are = r.are; count = r.count; few = r.few; brought = λ all ending c. r.brought all ending (brings all ending c); end = r.end; whole = r.whole }

  -- what a run does, with what is brought said in other words
  pub items_at : (M : (Contents → Text → Type 0) → Type 0) (B C : List Item → StreamEnd → Type 0) (limit status answered : ℕ) (start new : S) (files : Dir) → ((all : List Item) (ending : StreamEnd) → C all ending → B all ending)
      → DoesItems ghosts M B limit status answered start new files → DoesItems ghosts M C limit status answered start new files
  items_at M B C limit status answered start new files brings d =
      record { first = d.first; batch = d.batch; row = row_brought B C limit status answered new files d.first d.batch brings d.row; instants = d.instants; answers = d.answers }

  -- the items of a run over one item in hand
  pub items_of_one : (M : (Contents → Text → Type 0) → Type 0) (item : Item) (status answered : ℕ) (start new : S) (files : Dir) → Brings (Some (spelled_item item)) (item ∷ []) End
      → DoesItems ghosts M (Brings (Some (spelled_item item))) 1 status answered start new files → DoesItems ghosts M (IsAlone item) 1 status answered start new files
  items_of_one M item status answered start new files b d = items_at M (Brings (Some (spelled_item item))) (IsAlone item) 1 status answered start new files
      (λ all ending alone. subst (λ (e : StreamEnd). Brings (Some (spelled_item item)) all e) (sym alone.1) (subst (λ (items : List Item). Brings (Some (spelled_item item)) items End) (sym alone.0) b)) d

  -- if all are answered, the directory is the one after them
  pub row_end : (B : List Item → StreamEnd → Type 0) (limit status answered : ℕ) (new : S) (files : Dir) (first batch : List Done) → batch ≡ [] → IsRow ghosts B limit status answered new files first batch → directory (ghosts.disk new).reads ≡ Some (after files first)
  row_end B limit status answered new files first batch none r =
      ⊎_elim (λ is. is) (λ is. is ∙ ap (λ (l : List Done). Some (after files (first ++ l))) none ∙ ap (λ (l : List Done). Some (after files l)) (append-nil first)) r.end

-- What a run does on any directory, step by step.
use Rattle.std.proofs.Common.{◌≡◌, ◌⊎◌, inl, inr, ⊎_elim, ℕ, ◌+◌, IsTrue, List, [], ◌∷◌, ◌++◌, length, take, drop, Option, Some, None, ap, sym, refl, subst, ◌∙◌, arith, append_assoc, length-append}
use Rattle.std.proofs.lemmas.List.{append-nil, take-append-drop}
use Rattle.ml_base.specs.Bytes.{Text}
use Rattle.ml_base.specs.Dir.{Dir, with_puts}
use Rattle.ml_base.specs.declared.puts.Put.{Put}
use Rattle.ml_site.specs.Disk.{Contents, IsImage, Now}
use Rattle.ml_site.specs.Instants.{LeavesOnly, FromFirstSync}
use Rattle.ml_site.specs.declared.site.Site.{Ghosts}
use Rattle.ml_site.proofs.Steps.{first_weaker, joins, weaker, rest_contents}
use Rattle.ml_journal.specs.Calls.{Leaves}
use Rattle.ml_journal.specs.Kept.{IsKept, IsStill}
use Rattle.ml_journal.specs.Log.{directory}
use Rattle.ml_journal.specs.Instants.{with_txn, IsOld}
use Rattle.ml_journal.specs.Stores.{site_of, the_dir}
use Rattle.ml_journal.specs.declared.store.Store.{Store}
use Rattle.ml_plain.specs.declared.Item.{Item}
use Rattle.ml_plain.specs.Replies.{line}
use Rattle.ml_ending.specs.declared.lines.Why.{Why}
use Rattle.ml_ending.specs.Endings.{StopLine, SaysAtMost, IsUnopened, Opens, Says, Finishes, Refuses}
use Rattle.ml_ending.specs.Lines.{stop_text}
use Rattle.ml_ending.specs.Stops.{status_of_why}
use Rattle.ml_ending.proofs.Leaving.{said_leaves}
use Rattle.ml_run.specs.declared.batches.Batch.{Batch}
use Rattle.ml_run.specs.Batches.{IsEmptyBatch}
use Rattle.ml_run.specs.Leaving.{IsSettling}
use Rattle.ml_run.specs.Settling.{IsSettled, IsUnsettled, LeavesSettling}
use Rattle.ml_run.specs.Anywhere.{Done, items_of, answers_of, after, IsDone, AreDone, Adds, HoldsDone, IsAfterFirst, HasDone, AtEachInstant}
use Rattle.ml_run.proofs.LaidPuts.{laid_over}

-- two rows, one after the other
pub after_joined : (files : Dir) (xs ys : List Done) → after files (xs ++ ys) ≡ after (after files xs) ys
after_joined files [] ys = refl
after_joined files (x ∷ xs) ys = after_joined (with_puts files x.puts) xs ys

pub answers_joined : (xs ys : List Done) → answers_of (xs ++ ys) ≡ answers_of xs ++ answers_of ys
answers_joined [] ys = refl
answers_joined (x ∷ xs) ys =
    let own = line x.item.number x.reply in
    ap (λ (t : Text). own ++ t) (answers_joined xs ys) ∙ sym (append_assoc own (answers_of xs) (answers_of ys))

pub items_joined : (xs ys : List Done) → items_of (xs ++ ys) ≡ items_of xs ++ items_of ys
items_joined [] ys = refl
items_joined (x ∷ xs) ys = ap (λ (l : List Item). x.item ∷ l) (items_joined xs ys)

pub items_length : (xs : List Done) → length (items_of xs) ≡ length xs
items_length [] = refl
items_length (x ∷ xs) = omega (arith, items_length xs)

pub done_joined : (files : Dir) (xs ys : List Done) → AreDone files xs → AreDone (after files xs) ys → AreDone files (xs ++ ys)
done_joined files [] ys a b = b
done_joined files (x ∷ xs) ys a b = (a.0, done_joined (with_puts files x.puts) xs ys a.1 b)

-- a batch without items
pub none_done : (files : Dir) (g : Batch) → IsEmptyBatch g → HoldsDone files g []
none_done files g e = record { laid = ap (λ (txn : List Put). with_puts files txn) e.txn; lines = e.lines; count = e.count; are = tt }

-- a batch with one item more
pub one_done : (files : Dir) (g new : Batch) (done : List Done) (d : Done) → HoldsDone files g done → Adds files g new d → HoldsDone files new (done ++ d ∷ [])
one_done files g new done d h a =
    let own = line d.item.number d.reply in record {
      laid = ap (λ (txn : List Put). with_puts files txn) a.next.txn ∙ laid_over files g.txn d.puts ∙ ap (λ (f : Dir). with_puts f d.puts) h.laid ∙ sym (after_joined files done (d ∷ []));
      lines = a.next.lines ∙ ap (λ (t : Text). t ++ own) h.lines ∙ ap (λ (t : Text). answers_of done ++ t) (sym (append-nil own)) ∙ sym (answers_joined done (d ∷ []));
      count = a.next.count ∙ ap (λ (n : ℕ). n + 1) h.count ∙ sym (length-append done (d ∷ []));
      are = done_joined files done (d ∷ []) h.are (subst (λ (f : Dir). IsDone f d) h.laid a.is, tt);
    }

-- the same over another name of the directory
pub adds_over : (old new : Dir) (g next : Batch) (d : Done) → new ≡ old → Adds new g next d → Adds old g next d
adds_over old new g next d is a = subst (λ (f : Dir). Adds f g next d) is a

-- all of these are done, and their answers are out
pub all_answered : (files : Dir) (done beyond : List Done) (before out : Text) (left : Contents) → directory left ≡ Some (after files done) → out ≡ before ++ answers_of done → IsAfterFirst files (done ++ beyond) before left out
all_answered files done beyond before out left dir put = record {
  first = done;
  rest = beyond;
  split = refl;
  dir = dir;
  put = inl (answers_of done, [], sym (append-nil (answers_of done)), put);
}

-- some more are done, and some first bytes of their answers are out
pub some_answering : (files : Dir) (done more : List Done) (before out : Text) (left : Contents) (n : ℕ) → directory left ≡ Some (after files (done ++ more)) → out ≡ (before ++ answers_of done) ++ take n (answers_of more)
    → IsAfterFirst files (done ++ more) before left out
some_answering files done more before out left n dir put = record {
  first = done ++ more;
  rest = [];
  split = sym (append-nil (done ++ more));
  dir = dir;
  put = inl (
    answers_of done ++ take n (answers_of more),
    drop n (answers_of more),
    answers_joined done more ∙ ap (λ (t : Text). answers_of done ++ t) (sym (take-append-drop n (answers_of more)))
        ∙ sym (append_assoc (answers_of done) (take n (answers_of more)) (drop n (answers_of more))),
    put ∙ append_assoc before (answers_of done) (take n (answers_of more)),
  );
}

-- the answers of some of them are out, and some first bytes of a stop line
pub some_said : (files : Dir) (done more beyond : List Done) (before out : Text) (left : Contents) (who : Option ℕ) (why : Why) (n : ℕ) → directory left ≡ Some (after files (done ++ more))
    → out ≡ (before ++ answers_of done) ++ take n (stop_text who (status_of_why why) why) → IsAfterFirst files ((done ++ more) ++ beyond) before left out
some_said files done more beyond before out left who why n dir put = record {
  first = done ++ more;
  rest = beyond;
  split = refl;
  dir = dir;
  put = inr (done, more, who, why, n, refl, put);
}

-- what may be left of some items may be left of more
pub first_wider : (files : Dir) (done more : List Done) (before out : Text) (left : Contents) → IsAfterFirst files done before left out → IsAfterFirst files (done ++ more) before left out
first_wider files done more before out left p = record {
  first = p.first;
  rest = p.rest ++ more;
  split = ap (λ (l : List Done). l ++ more) p.split ∙ append_assoc p.first p.rest more;
  dir = p.dir;
  put = p.put;
}

-- nothing is done
pub nothing_done : (files : Dir) (done : List Done) (before out : Text) (left : Contents) → directory left ≡ Some files → SaysAtMost before out → IsAfterFirst files done before left out
nothing_done files done before out left dir put = ⊎_elim
    (λ same. all_answered files [] done before out left dir (same ∙ sym (append-nil before)))
    (λ said. some_said files [] [] done before out left None said.0 said.1 dir (said.2 ∙ ap (λ (o : Text). o ++ take said.1 (stop_text None (status_of_why said.0) said.0)) (sym (append-nil before))))
    put

-- a directory with a batch's txn
pub with_batch : (files : Dir) (done more : List Done) (g : Batch) (dir : Option Dir) → dir ≡ Some (after files done) → HoldsDone (after files done) g more → with_txn g.txn dir ≡ Some (after files (done ++ more))
with_batch files done more g dir here h = ap (with_txn g.txn) here ∙ ap (λ (f : Dir). Some f) (h.laid ∙ sym (after_joined files done more))

-- during a commit and its answers
pub settling_done : (files : Dir) (done more : List Done) (g : Batch) (before output lines : Text) (dir : Option Dir) (left : Contents) (out : Text)
    → dir ≡ Some (after files done) → HoldsDone (after files done) g more → lines ≡ g.lines → output ≡ before ++ answers_of done
    → IsSettling dir g.txn lines output left out → IsAfterFirst files (done ++ more) before left out
settling_done files done more g before output lines dir left out here h is put s = ⊎_elim
    (λ old. all_answered files done more before out left (old.0 ∙ here) (old.1 ∙ put))
    (λ new. some_answering files done more before out left new.1.0 (new.0 ∙ with_batch files done more g dir here h)
    (new.1.1 ∙ ap (λ (t : Text). output ++ take new.1.0 t) (is ∙ h.lines) ∙ ap (λ (t : Text). t ++ take new.1.0 (answers_of more)) put))
    s

-- a batch over the directory that a site shows
pub batch_here : (files : Dir) (done more : List Done) (g : Batch) (dir : Option Dir) → dir ≡ Some (after files done) → HoldsDone (the_dir dir) g more → HoldsDone (after files done) g more
batch_here files done more g dir here h = subst (λ (f : Dir). HoldsDone f g more) (ap the_dir here) h

module _ {S : Type 0} (ghosts : Ghosts S) where
  -- nothing is done yet, on a store
  pub first_done : (files : Dir) (start : S) → directory (ghosts.disk start).reads ≡ Some files → Leaves ghosts start start (IsStill ghosts start) → HasDone ghosts files start start []
  first_done files start here still = record {
    are = tt;
    dir = here;
    put = λ t. sym (append-nil (ghosts.output start));
    instants = λ t. weaker ghosts.instant ghosts.left_since ghosts.disk ghosts.output start start (IsStill ghosts start) (IsAfterFirst files [] (ghosts.output start)) (still t)
        (λ left out p. nothing_done files [] (ghosts.output start) out left (ap directory p.0 ∙ here) (inl p.1));
  }

  -- the instants of a batch that was read, and of its commit and answers
  pub settling_instants : (files : Dir) (start : S) (old read : Store S ghosts) (new : S) (done more : List Done) (g : Batch) (lines : Text) → (IsTrue ghosts.tells_all → IsTrue ghosts.tells_reads)
      → HasDone ghosts files start (site_of old) done → HoldsDone (after files done) g more → lines ≡ g.lines → IsKept old read → LeavesSettling ghosts g.txn lines (site_of read) new → Leaves ghosts start new (IsAfterFirst files (done ++ more) (ghosts.output start))
  settling_instants files start old read new done more g lines reads s h is kept time t =
      let P = IsAfterFirst files (done ++ more) (ghosts.output start) in
      let dir = directory (ghosts.disk (site_of read)).reads in
      let one = joins ghosts.instant ghosts.left_since ghosts.disk ghosts.output start (site_of old) (site_of read) (IsAfterFirst files done (ghosts.output start)) (IsStill ghosts (site_of old)) P (s.instants t) (kept.instants t)
      (λ left out p. first_wider files done more (ghosts.output start) out left p)
      (λ left out p. all_answered files done more (ghosts.output start) out left (ap directory p.0 ∙ s.dir) (p.1 ∙ s.put t)) in
      joins ghosts.instant ghosts.left_since ghosts.disk ghosts.output start (site_of read) new P (IsSettling dir g.txn lines (ghosts.output (site_of read))) P one (time t) (λ left out p. p)
      (λ left out p. settling_done files done more g (ghosts.output start) (ghosts.output (site_of read)) lines dir left out (ap directory (kept.reads (reads t)) ∙ s.dir) h is (kept.output_is t ∙ s.put t) p)

  -- a batch was committed and answered
  pub next_done : (files : Dir) (start : S) (old read : Store S ghosts) (new : S) (done more : List Done) (g : Batch) (lines : Text) → (IsTrue ghosts.tells_all → IsTrue ghosts.tells_reads) → IsTrue ghosts.tells_reads
      → HasDone ghosts files start (site_of old) done → HoldsDone (after files done) g more → lines ≡ g.lines → IsKept old read → IsSettled ghosts g.txn lines (site_of read) new → LeavesSettling ghosts g.txn lines (site_of read) new
      → HasDone ghosts files start new (done ++ more)
  next_done files start old read new done more g lines reads r s h is kept ends time = record {
    are = done_joined files done more s.are h.are;
    dir = ends.dir r ∙ with_batch files done more g (directory (ghosts.disk (site_of read)).reads) (ap directory (kept.reads r) ∙ s.dir) h;
    put = λ t. ends.put t ∙ ap (λ (o : Text). o ++ lines) (kept.output_is t ∙ s.put t) ∙ ap (λ (l : Text). (ghosts.output start ++ answers_of done) ++ l) (is ∙ h.lines)
        ∙ append_assoc (ghosts.output start) (answers_of done) (answers_of more) ∙ ap (λ (l : Text). ghosts.output start ++ l) (sym (answers_joined done more));
    instants = settling_instants files start old read new done more g lines reads s h is kept time;
  }

  -- a run whose store was closed: its directory, and its instants
  pub finished_dir : (files : Dir) (start now new : S) (done : List Done) (line : StopLine) (status last : ℕ) → IsTrue ghosts.tells_reads → HasDone ghosts files start now done → Finishes ghosts now new line status last
      → directory (ghosts.disk new).reads ≡ Some (after files done)
  finished_dir files start now new done line status last r s f = ⊎_elim
      (λ quiet. ap (λ (x : S). directory (ghosts.disk x).reads) quiet.2 ∙ f.same r ∙ s.dir)
      (λ said. ap directory (said.3.reads r) ∙ f.same r ∙ s.dir)
      f.said

  pub finished_done : (files : Dir) (start now new : S) (done : List Done) (line : StopLine) (status last : ℕ) → HasDone ghosts files start now done → Finishes ghosts now new line status last
      → Leaves ghosts start new (IsAfterFirst files done (ghosts.output start))
  finished_done files start now new done line status last s f t =
      let P = IsAfterFirst files done (ghosts.output start) in
      let none : done ++ [] ≡ done = append-nil done in
      let wide : (left : Contents) (out : Text) → IsAfterFirst files (done ++ []) (ghosts.output start) left out → P left out = λ left out p. subst (λ (l : List Done). IsAfterFirst files l (ghosts.output start) left out) none p in
      let one : LeavesOnly ghosts.instant ghosts.left_since ghosts.disk ghosts.output start f.mid P =
      joins ghosts.instant ghosts.left_since ghosts.disk ghosts.output start now f.mid P (IsOld (directory (ghosts.disk now).reads) (ghosts.output now)) P (s.instants t) (f.instants t) (λ left out p. p)
      (λ left out p. wide left out (all_answered files done [] (ghosts.output start) out left (p.0 ∙ s.dir) (p.1 ∙ s.put t))) in
      ⊎_elim
      (λ quiet. subst (λ (x : S). LeavesOnly ghosts.instant ghosts.left_since ghosts.disk ghosts.output start x P) (sym quiet.2) one)
      (λ said. said_leaves ghosts start f.mid new P status said.0 said.1 one
      (λ left out n image e. wide left out (subst (λ (l : List Done). IsAfterFirst files (l ++ []) (ghosts.output start) left out) none
      (some_said files done [] [] (ghosts.output start) out left said.0 said.1 n (((f.instants t).now left image).0 ∙ s.dir ∙ ap (λ (l : List Done). Some (after files l)) (sym none))
      (e ∙ ap (λ (o : Text). o ++ take n (stop_text said.0 (status_of_why said.1) said.1)) (f.output t ∙ s.put t))))) said.3 t)
      f.said

  -- a batch was refused: the directory then, and the instants
  pub refused_dir : (files : Dir) (read mid new : S) (done more : List Done) (g : Batch) (first : Option ℕ) (why : Option Why) (status : ℕ) → IsTrue ghosts.tells_reads
      → directory (ghosts.disk read).reads ≡ Some (after files done) → HoldsDone (after files done) g more
      → (directory (ghosts.disk mid).reads ≡ directory (ghosts.disk read).reads) ⊎ (directory (ghosts.disk mid).reads ≡ with_txn g.txn (directory (ghosts.disk read).reads)) → Refuses ghosts mid new first why status
      → (directory (ghosts.disk new).reads ≡ Some (after files done)) ⊎ (directory (ghosts.disk new).reads ≡ Some (after files (done ++ more)))
  refused_dir files read mid new done more g first why status r here h any f =
      let same : directory (ghosts.disk new).reads ≡ directory (ghosts.disk mid).reads = stays why refl in
      ⊎_elim (λ old. inl (same ∙ old ∙ here)) (λ next. inr (same ∙ next ∙ with_batch files done more g (directory (ghosts.disk read).reads) here h)) any
    where
      stays : (w : Option Why) → why ≡ w → directory (ghosts.disk new).reads ≡ directory (ghosts.disk mid).reads
      stays None e = ap (λ (x : S). directory (ghosts.disk x).reads) (f.quiet e).1
      stays (Some reason) e = ap directory ((f.said reason e).reads r)

  pub refused_done : (files : Dir) (start : S) (old read : Store S ghosts) (mid new : S) (done more : List Done) (g : Batch) (lines : Text) (first : Option ℕ) (why : Option Why) (status : ℕ) → (IsTrue ghosts.tells_all → IsTrue ghosts.tells_reads)
      → HasDone ghosts files start (site_of old) done → HoldsDone (after files done) g more → lines ≡ g.lines → IsKept old read → IsUnsettled ghosts g.txn lines why (site_of read) mid → LeavesSettling ghosts g.txn lines (site_of read) mid
      → Refuses ghosts mid new first why status → Leaves ghosts start new (IsAfterFirst files (done ++ more) (ghosts.output start))
  refused_done files start old read mid new done more g lines first None status reads s h is kept ends time f t =
      subst (λ (x : S). LeavesOnly ghosts.instant ghosts.left_since ghosts.disk ghosts.output start x (IsAfterFirst files (done ++ more) (ghosts.output start))) (sym (f.quiet refl).1)
      (settling_instants files start old read mid done more g lines reads s h is kept time t)
  refused_done files start old read mid new done more g lines first (Some reason) status reads s h is kept ends time f t =
      let P = IsAfterFirst files (done ++ more) (ghosts.output start) in
      let dir = directory (ghosts.disk (site_of read)).reads in
      let here : dir ≡ Some (after files done) = ap directory (kept.reads (reads t)) ∙ s.dir in
      let line = stop_text first (status_of_why reason) reason in
      said_leaves ghosts start mid new P status first reason (settling_instants files start old read mid done more g lines reads s h is kept time t)
      (λ left out n image e.
      let put_is : out ≡ (ghosts.output start ++ answers_of done) ++ take n line = e ∙ ap (λ (o : Text). o ++ take n line) (ends.quiet t refl ∙ kept.output_is t ∙ s.put t) in
      ⊎_elim
      (λ before. subst (λ (l : List Done). IsAfterFirst files (l ++ more) (ghosts.output start) left out) (append-nil done)
      (some_said files done [] more (ghosts.output start) out left first reason n (before.0 ∙ here ∙ ap (λ (l : List Done). Some (after files l)) (sym (append-nil done))) put_is))
      (λ next. subst (λ (l : List Done). IsAfterFirst files l (ghosts.output start) left out) (append-nil (done ++ more))
      (some_said files done more [] (ghosts.output start) out left first reason n (next.0 ∙ with_batch files done more g dir here h) put_is))
      ((time t).now left image)) (f.said reason refl) t

  -- a store that was read from, and then a run over it
  pub still_done : (files : Dir) (done : List Done) (old now new : S) → directory (ghosts.disk old).reads ≡ Some files → Leaves ghosts old now (IsStill ghosts old) → (IsTrue ghosts.tells_all → ghosts.output now ≡ ghosts.output old)
      → Leaves ghosts now new (IsAfterFirst files done (ghosts.output now)) → Leaves ghosts old new (IsAfterFirst files done (ghosts.output old))
  still_done files done old now new here still same run t =
      joins ghosts.instant ghosts.left_since ghosts.disk ghosts.output old now new (IsStill ghosts old) (IsAfterFirst files done (ghosts.output now)) (IsAfterFirst files done (ghosts.output old)) (still t) (run t)
      (λ left out p. nothing_done files done (ghosts.output old) out left (ap directory p.0 ∙ here) (inl p.1))
      (λ left out p. subst (λ (o : Text). IsAfterFirst files done o left out) (same t) p)

  -- a run over a store that was opened
  pub opened_done : (files : Dir) (done : List Done) (start now new : S) → directory (ghosts.disk start).reads ≡ Some files → ghosts.output now ≡ ghosts.output start
      → FromFirstSync ghosts.instant ghosts.left_since ghosts.disk ghosts.output ghosts.syncs start now (Now (ghosts.disk start) (ghosts.output start)) (IsOld (directory (ghosts.disk start).reads) (ghosts.output start))
      → LeavesOnly ghosts.instant ghosts.left_since ghosts.disk ghosts.output now new (IsAfterFirst files done (ghosts.output now)) → Opens ghosts start new (IsAfterFirst files done (ghosts.output start))
  opened_done files done start now new here same first run = inr (record {
    synced = first.synced;
    first = first.first;
    rest = first.rest;
    same = first.same;
    until = first.until;
    since = joins ghosts.instant ghosts.left_since ghosts.disk ghosts.output first.synced now new (IsOld (directory (ghosts.disk start).reads) (ghosts.output start)) (IsAfterFirst files done (ghosts.output now)) (IsAfterFirst files done (ghosts.output start)) first.since run
        (λ left out p. nothing_done files done (ghosts.output start) out left (p.0 ∙ here) (inl p.1))
        (λ left out p. subst (λ (o : Text). IsAfterFirst files done o left out) same p);
  })

  -- a stop line on a site that was opened in part
  pub said_done : (files : Dir) (start first mid new : S) (status : ℕ) (why : Why) → directory (ghosts.disk start).reads ≡ Some files → ghosts.output mid ≡ ghosts.output start
      → LeavesOnly ghosts.instant ghosts.left_since ghosts.disk ghosts.output first mid (IsOld (directory (ghosts.disk start).reads) (ghosts.output start)) → Says ghosts mid new status None why → IsTrue ghosts.tells_all
      → LeavesOnly ghosts.instant ghosts.left_since ghosts.disk ghosts.output first new (IsAfterFirst files [] (ghosts.output start))
  said_done files start first mid new status why here same l s t =
      said_leaves ghosts first mid new (IsAfterFirst files [] (ghosts.output start)) status None why
      (weaker ghosts.instant ghosts.left_since ghosts.disk ghosts.output first mid (IsOld (directory (ghosts.disk start).reads) (ghosts.output start)) (IsAfterFirst files [] (ghosts.output start)) l
      (λ left out p. nothing_done files [] (ghosts.output start) out left (p.0 ∙ here) (inl p.1)))
      (λ left out n image e. nothing_done files [] (ghosts.output start) out left ((l.now left image).0 ∙ here) (inr (why, n, e ∙ ap (λ (o : Text). o ++ take n (stop_text None (status_of_why why) why)) same)))
      s t

  -- if what is left has P, it also has what follows from P
  pub opens_weaker : (old new : S) (P Q : Contents → Text → Type 0) → Opens ghosts old new P → ((left : Contents) (out : Text) → P left out → Q left out) → Opens ghosts old new Q
  opens_weaker old new P Q opens f = ⊎_elim (λ early. inl early)
      (λ late. inr (first_weaker ghosts.instant ghosts.left_since ghosts.disk ghosts.output ghosts.syncs old new (Now (ghosts.disk old) (ghosts.output old)) P (Now (ghosts.disk old) (ghosts.output old)) Q late (λ left out p. p) f)) opens

  -- if nothing is pending at the start, what a run leaves is known from there on
  pub each_instant : (files : Dir) (done : List Done) (start new : S) → directory (ghosts.disk start).reads ≡ Some files → (IsTrue ghosts.tells_all → Opens ghosts start new (IsAfterFirst files done (ghosts.output start)))
      → AtEachInstant ghosts start new (IsAfterFirst files done (ghosts.output start))
  each_instant files done start new here opens = (
    opens,
    λ rest t.
        let P = IsAfterFirst files done (ghosts.output start) in
        let image_is : (left : Contents) → IsImage (ghosts.disk start) left → directory left ≡ Some files = λ left image. ap directory (rest_contents (ghosts.disk start) left rest image) ∙ here in
        ⊎_elim
        (λ early. weaker ghosts.instant ghosts.left_since ghosts.disk ghosts.output start new (IsUnopened (ghosts.disk start) (ghosts.output start)) P early.all
        (λ left out u. nothing_done files done (ghosts.output start) out left (image_is left u.image) u.put))
        (λ late. joins ghosts.instant ghosts.left_since ghosts.disk ghosts.output start late.synced new (Now (ghosts.disk start) (ghosts.output start)) P P late.until late.since
        (λ left out p. nothing_done files done (ghosts.output start) out left (image_is left p.0) (inl p.1)) (λ left out p. p))
        (opens t),
  )

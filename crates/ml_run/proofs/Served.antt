-- A run batch by batch, and its end.
use Rattle.std.proofs.Common.{◌≡◌, ◌⊎◌, inl, inr, ⊎_elim, ℕ, ◌≤◌, IsTrue, List, [], ◌∷◌, ◌++◌, length, take, drop, Option, Some, None, ap, sym, refl, subst, ◌∙◌, arith, append_assoc, length-append}
use Rattle.std.specs.Prelude.{IsSome}
use Rattle.std.proofs.lemmas.List.{length-take, take-append-drop}
use Rattle.ml_base.specs.Bytes.{Text}
use Rattle.ml_base.specs.Faults.{Rose}
use Rattle.ml_base.specs.Dir.{Dir, with_puts}
use Rattle.ml_base.specs.declared.puts.Put.{Put}
use Rattle.ml_site.specs.Disk.{Contents, Disk, IsImage, Giving}
use Rattle.ml_site.specs.Instants.{LeavesOnly}
use Rattle.ml_site.specs.declared.site.Site.{Ghosts}
use Rattle.ml_site.proofs.Steps.{joins, goes_on}
use Rattle.ml_journal.specs.Log.{directory}
use Rattle.ml_journal.specs.Instants.{with_txn, IsOld}
use Rattle.ml_journal.specs.Kept.{IsKept, IsStill}
use Rattle.ml_journal.specs.Stores.{site_of, the_dir}
use Rattle.ml_journal.specs.declared.store.Store.{Store}
use Rattle.ml_plain.specs.declared.Item.{Item}
use Rattle.ml_plain.specs.Directory.{IsState}
use Rattle.ml_plain.specs.Histories.{State, fold, text, last_from}
use Rattle.ml_list.proofs.States.{fold-append, text-append}
use Rattle.ml_ending.specs.declared.lines.Why.{Why}
use Rattle.ml_ending.specs.declared.lines.Why.TheVariants as whys
use Rattle.ml_ending.specs.Lines.{stop_text}
use Rattle.ml_ending.specs.Stops.{status_of_why}
use Rattle.ml_stream.specs.Stream.{StreamEnd, End}
use Rattle.ml_ending.proofs.Said.{says_front, closes_who}
use Rattle.ml_run.specs.Batches.{IsNumberOf}
use Rattle.ml_journal.specs.Calls.{Leaves, IsClean}
use Rattle.ml_run.specs.Leaving.{dir_of, HasState, IsAfterSome, Reached, IsSettling, IsServed, IsLeft}
use Rattle.ml_run.specs.Settling.{IsSettled, IsUnsettled, LeavesSettling}
use Rattle.ml_ending.specs.Endings.{StopLine, Says, who_of, IsMemory, ClosesTo, Finishes}
use Rattle.ml_run.specs.Endings.{Runs, IsLine}
use Rattle.ml_run.proofs.Leaving.{same_state, other_list, txn_state, some_answered, settling, reached_none, reached_some, saying}

module _ {S : Type 0} (ghosts : Ghosts S) where
  -- the instants of a batch that was read, and of its commit and answers
  pub settling_instants : (start : S) (old read : Store S ghosts) (new : S) (q : State) (items done more rest : List Item) (txn : List Put) (lines : Text) → (IsTrue ghosts.tells_all → IsTrue ghosts.tells_reads)
      → IsServed ghosts start (site_of old) q items done (more ++ rest) → IsKept old read → IsState (with_puts (dir_of old) txn) (fold (fold q done) more) → lines ≡ text (fold q done) more
      → LeavesSettling ghosts txn lines (site_of read) new → Leaves ghosts start new (IsAfterSome q items (ghosts.output start))
  settling_instants start old read new q items done more rest txn lines reads s kept stands is time t =
      let dir = directory (ghosts.disk (site_of old)).reads in
      let mid = directory (ghosts.disk (site_of read)).reads in
      let before = ghosts.output start in
      let now : mid ≡ dir = ap directory (kept.reads (reads t)) in
      let one = joins ghosts.instant ghosts.left_since ghosts.disk ghosts.output start (site_of old) (site_of read) (IsAfterSome q items before) (IsStill ghosts (site_of old)) (IsAfterSome q items before) (s.instants t) (kept.instants t) (λ left out p. p)
      (λ left out p. some_answered q items done (more ++ rest) before out left s.split (same_state dir (directory left) (fold q done) (ap directory p.0) s.state) (p.1 ∙ s.put t)) in
      joins ghosts.instant ghosts.left_since ghosts.disk ghosts.output start (site_of read) new (IsAfterSome q items before) (IsSettling mid txn lines (ghosts.output (site_of read))) (IsAfterSome q items before) one (time t) (λ left out p. p)
      (λ left out p. settling q items done more rest before (ghosts.output (site_of read)) mid txn lines left out s.split (same_state dir mid (fold q done) now s.state)
      (subst (λ (d : Option Dir). IsState (with_puts (the_dir d) txn) (fold (fold q done) more)) (sym now) stands) is (kept.output_is t ∙ s.put t) p)

  -- a batch was committed and answered
  pub settled : (start : S) (old read : Store S ghosts) (new : S) (q : State) (items done more rest : List Item) (txn : List Put) (lines : Text) → (IsTrue ghosts.tells_all → IsTrue ghosts.tells_reads) → IsTrue ghosts.tells_reads
      → IsServed ghosts start (site_of old) q items done (more ++ rest) → IsKept old read → IsState (with_puts (dir_of old) txn) (fold (fold q done) more) → lines ≡ text (fold q done) more
      → IsSettled ghosts txn lines (site_of read) new → LeavesSettling ghosts txn lines (site_of read) new → IsServed ghosts start new q items (done ++ more) rest
  settled start old read new q items done more rest txn lines reads r s kept stands is ends time = record {
    split = s.split ∙ sym (append_assoc done more rest);
    state = other_list (directory (ghosts.disk new).reads) (fold (fold q done) more) (fold q (done ++ more)) (sym (fold-append q done more))
        (txn_state (directory (ghosts.disk (site_of old)).reads) (directory (ghosts.disk new).reads) txn (fold q done) (fold (fold q done) more) (ends.dir r ∙ ap (λ (c : Contents). with_txn txn (directory c)) (kept.reads r)) s.state stands);
    put = λ t. ends.put t ∙ ap (λ (o : Text). o ++ lines) (kept.output_is t ∙ s.put t) ∙ ap (λ (l : Text). (ghosts.output start ++ text q done) ++ l) is
        ∙ append_assoc (ghosts.output start) (text q done) (text (fold q done) more) ∙ ap (λ (l : Text). ghosts.output start ++ l) (sym (text-append q done more));
    instants = settling_instants start old read new q items done more rest txn lines reads s kept stands is time;
  }

  -- what the directory may be after its commit was refused
  pub reached_any : (old : Option Dir) (left : Contents) (q : State) (done more rest : List Item) (txn : List Put) → HasState old (fold q done) → IsState (with_puts (the_dir old) txn) (fold (fold q done) more)
      → (directory left ≡ old) ⊎ (directory left ≡ with_txn txn old) → Reached q done (more ++ rest) left
  reached_any old left q done more rest txn state stands any = ⊎_elim
      (λ e. reached_none q done (more ++ rest) left (same_state old (directory left) (fold q done) e state))
      (λ e. reached_some q done more rest left (other_list (directory left) (fold (fold q done) more) (fold q (done ++ more)) (sym (fold-append q done more)) (txn_state old (directory left) txn (fold q done) (fold (fold q done) more) e state stands)))
      any

  -- which of the two an image is during a commit
  pub any_of : (old : Option Dir) (txn : List Put) (lines output : Text) (left : Contents) (out : Text) → IsSettling old txn lines output left out → (directory left ≡ old) ⊎ (directory left ≡ with_txn txn old)
  any_of old txn lines output left out s = ⊎_elim (λ e. inl e.0) (λ e. inr e.0) s

  -- a commit was refused
  pub left_after : (start : S) (old read : Store S ghosts) (new : S) (q : State) (items done more rest : List Item) (txn : List Put) (lines : Text) (why : Option Why) → (IsTrue ghosts.tells_all → IsTrue ghosts.tells_reads) → IsTrue ghosts.tells_reads
      → IsServed ghosts start (site_of old) q items done (more ++ rest) → IsKept old read → IsState (with_puts (dir_of old) txn) (fold (fold q done) more) → lines ≡ text (fold q done) more → IsSome why
      → IsUnsettled ghosts txn lines why (site_of read) new → LeavesSettling ghosts txn lines (site_of read) new → IsLeft ghosts start new q items done (more ++ rest)
  left_after start old read new q items done more rest txn lines why reads r s kept stands is some ends time =
      let dir = directory (ghosts.disk (site_of old)).reads in
      let mid = directory (ghosts.disk (site_of read)).reads in
      let now : mid ≡ dir = ap directory (kept.reads r) in
      let state : HasState mid (fold q done) = same_state dir mid (fold q done) now s.state in
      let over : IsState (with_puts (the_dir mid) txn) (fold (fold q done) more) = subst (λ (d : Option Dir). IsState (with_puts (the_dir d) txn) (fold (fold q done) more)) (sym now) stands in record {
        split = s.split;
        reached = reached_any mid (ghosts.disk new).reads q done more rest txn state over (ends.any r);
        images = λ t left image. reached_any mid left q done more rest txn state over (any_of mid txn lines (ghosts.output (site_of read)) left (ghosts.output new) ((time t).now left image));
        put = λ t. ends.quiet t some ∙ kept.output_is t ∙ s.put t;
        instants = settling_instants start old read new q items done more rest txn lines reads s kept stands is time;
      }

  -- the instants of a stop line
  pub said_instants : (start mid new : S) (q : State) (items done after : List Item) (status : ℕ) (who : Option ℕ) (why : Why) → IsLeft ghosts start mid q items done after → IsNumberOf who after → Says ghosts mid new status who why
      → Leaves ghosts start new (IsAfterSome q items (ghosts.output start))
  said_instants start mid new q items done after status who why l number s t =
      let line = stop_text who (status_of_why why) why in
      goes_on ghosts.instant ghosts.left_since ghosts.disk ghosts.output start mid new (IsAfterSome q items (ghosts.output start)) (Giving (ghosts.disk mid) (ghosts.output mid) line) (l.instants t) (s.time t)
      (λ left out g. saying q items done after (ghosts.output start) out line left who why g.1.0 l.split (l.images t left g.0) number refl (g.1.1 ∙ ap (λ (o : Text). o ++ take g.1.0 line) (l.put t)))
      (λ left image. (subst (λ (d : Disk). IsImage d left) (s.disk_is t) image, says_front ghosts mid new status who why s t))

  -- once the store is closed, the same items are done and answered
  pub closed_left : (start now mid : S) (q : State) (items done after : List Item) → IsTrue ghosts.tells_reads → IsServed ghosts start now q items done after
      → (IsTrue ghosts.tells_reads → directory (ghosts.disk mid).reads ≡ directory (ghosts.disk now).reads) → (IsTrue ghosts.tells_all → ghosts.output mid ≡ ghosts.output now)
      → Leaves ghosts now mid (IsOld (directory (ghosts.disk now).reads) (ghosts.output now)) → IsLeft ghosts start mid q items done after
  closed_left start now mid q items done after r s same put time =
      let dir = directory (ghosts.disk now).reads in record {
        split = s.split;
        reached = reached_none q done after (ghosts.disk mid).reads (same_state dir (directory (ghosts.disk mid).reads) (fold q done) (same r) s.state);
        images = λ t left image. reached_none q done after left (same_state dir (directory left) (fold q done) ((time t).now left image).0 s.state);
        put = λ t. put t ∙ s.put t;
        instants = λ t. joins ghosts.instant ghosts.left_since ghosts.disk ghosts.output start now mid (IsAfterSome q items (ghosts.output start)) (IsOld dir (ghosts.output now)) (IsAfterSome q items (ghosts.output start)) (s.instants t) (time t)
            (λ left out p. p) (λ left out p. some_answered q items done after (ghosts.output start) out left s.split (same_state dir (directory left) (fold q done) p.0 s.state) (p.1 ∙ s.put t));
      }

-- a line begins with the number of the next item, or with `-`
pub line_number : (line : StopLine) (input : Type 0) (limit : ℕ) (held : Contents) (all : List Item) (ending : StreamEnd) (q : State) (done after : List Item) → IsLine line input limit held all ending q done after → IsNumberOf (who_of line) after
line_number None input limit held all ending q done after l = tt
line_number (Some (who, whys.Bad at)) input limit held all ending q done after l = subst (λ (o : Option ℕ). IsNumberOf o after) (sym l.0) tt
line_number (Some (who, whys.Short at)) input limit held all ending q done after l = subst (λ (o : Option ℕ). IsNumberOf o after) (sym l.0) tt
line_number (Some (who, whys.More)) input limit held all ending q done after l = subst (λ (o : Option ℕ). IsNumberOf o after) (sym l.0) tt
line_number (Some (who, whys.Input)) input limit held all ending q done after l = subst (λ (o : Option ℕ). IsNumberOf o after) (sym l.0) tt
line_number (Some (who, whys.Memory)) input limit held all ending q done after l = l
line_number (Some (who, whys.Disk)) input limit held all ending q done after l = l.0
line_number (Some (who, whys.Usage)) input limit held all ending q done after l = absurd l
line_number (Some (who, whys.Words)) input limit held all ending q done after l = absurd l
line_number (Some (who, whys.Long)) input limit held all ending q done after l = absurd l
line_number (Some (who, whys.Clock)) input limit held all ending q done after l = absurd l
line_number (Some (who, whys.NoList)) input limit held all ending q done after l = absurd l
line_number (Some (who, whys.At name)) input limit held all ending q done after l = absurd l
line_number (Some (who, whys.There)) input limit held all ending q done after l = absurd l
line_number (Some (who, whys.Absent)) input limit held all ending q done after l = absurd l

none_after : (limit : ℕ) (all done after : List Item) → take limit all ≡ done ++ after → limit ≤ length done → after ≡ []
none_after limit all done after split le = empty after (omega (arith, ap length split, length-append done after, length-take limit all, le))
  where
    empty : (l : List Item) → length l ≡ 0 → l ≡ []
    empty [] e = refl
    empty (x ∷ l) e = absurd (omega (arith, e))

all_done : (limit : ℕ) (all done after : List Item) → take limit all ≡ done ++ after → done ≡ all → after ≡ []
all_done limit all done after split is = empty after (omega (arith, ap length split, length-append done after, length-take limit all, ap length is))
  where
    empty : (l : List Item) → length l ≡ 0 → l ≡ []
    empty [] e = refl
    empty (x ∷ l) e = absurd (omega (arith, e))

-- a line that has no number and isn't about memory comes before any item is done or after all of them, or the source failed
pub line_dash : (line : StopLine) (input : Type 0) (limit : ℕ) (held : Contents) (all : List Item) (ending : StreamEnd) (q : State) (done after : List Item) → take limit all ≡ done ++ after → (IsMemory line → ⊥)
    → IsLine line input limit held all ending q done after → who_of line ≡ None → (done ≡ []) ⊎ ((after ≡ []) ⊎ input)
line_dash None input limit held all ending q done after split other l who = inr (inl (all_done limit all done after split l.1))
line_dash (Some (w, whys.Bad at)) input limit held all ending q done after split other l who = inr (inl (all_done limit all done after split l.1))
line_dash (Some (w, whys.Short at)) input limit held all ending q done after split other l who = inr (inl (all_done limit all done after split l.1))
line_dash (Some (w, whys.More)) input limit held all ending q done after split other l who = inr (inl (none_after limit all done after split (omega (arith, l.1))))
line_dash (Some (w, whys.Input)) input limit held all ending q done after split other l who = inr (inr l.1)
line_dash (Some (w, whys.Memory)) input limit held all ending q done after split other l who = absurd (other refl)
line_dash (Some (w, whys.Disk)) input limit held all ending q done after split other l who = l.1 who
line_dash (Some (w, whys.Usage)) input limit held all ending q done after split other l who = absurd l
line_dash (Some (w, whys.Words)) input limit held all ending q done after split other l who = absurd l
line_dash (Some (w, whys.Long)) input limit held all ending q done after split other l who = absurd l
line_dash (Some (w, whys.Clock)) input limit held all ending q done after split other l who = absurd l
line_dash (Some (w, whys.NoList)) input limit held all ending q done after split other l who = absurd l
line_dash (Some (w, whys.At name)) input limit held all ending q done after split other l who = absurd l
line_dash (Some (w, whys.There)) input limit held all ending q done after split other l who = absurd l
line_dash (Some (w, whys.Absent)) input limit held all ending q done after split other l who = absurd l

-- the line that is said once the store is closed
pub closes_line : (line final : StopLine) (rest disk input : Type 0) (limit : ℕ) (held : Contents) (all : List Item) (ending : StreamEnd) (q : State) (done after : List Item) → take limit all ≡ done ++ after
    → ClosesTo line final rest disk → IsLine line input limit held all ending q done after → IsLine final input limit held all ending q done after
closes_line line final rest disk input limit held all ending q done after split c l =
    let P : StopLine → Type 0 = λ f. IsLine f input limit held all ending q done after in
    let number = line_number line input limit held all ending q done after l in
    ⊎_elim (λ same. subst P (sym same.0) l) (λ more. ⊎_elim (λ same. subst P (sym same.0) l) (λ other. ⊎_elim
    (λ m. subst P (sym m.0) number)
    (λ d. subst P (sym d.0) (number, line_dash line input limit held all ending q done after split d.1 l)) other) more) c

-- a line stays over what reads as the same directory
pub line_held : (line : StopLine) (input : Type 0) (limit : ℕ) (held new : Contents) (all : List Item) (ending : StreamEnd) (q : State) (done after : List Item) → directory new ≡ directory held
    → IsLine line input limit held all ending q done after → IsLine line input limit new all ending q done after
line_held None input limit held new all ending q done after same l = l
line_held (Some (w, whys.Bad at)) input limit held new all ending q done after same l = (l.0, l.1, l.2, l.3, same_state (directory held) (directory new) (fold q done) same l.4)
line_held (Some (w, whys.Short at)) input limit held new all ending q done after same l = (l.0, l.1, l.2, l.3, same_state (directory held) (directory new) (fold q done) same l.4)
line_held (Some (w, whys.More)) input limit held new all ending q done after same l = (l.0, l.1, l.2, same_state (directory held) (directory new) (fold q done) same l.3)
line_held (Some (w, whys.Input)) input limit held new all ending q done after same l = (l.0, l.1, same_state (directory held) (directory new) (fold q done) same l.2)
line_held (Some (w, whys.Memory)) input limit held new all ending q done after same l = l
line_held (Some (w, whys.Disk)) input limit held new all ending q done after same l = l
line_held (Some (w, whys.Usage)) input limit held new all ending q done after same l = absurd l
line_held (Some (w, whys.Words)) input limit held new all ending q done after same l = absurd l
line_held (Some (w, whys.Long)) input limit held new all ending q done after same l = absurd l
line_held (Some (w, whys.Clock)) input limit held new all ending q done after same l = absurd l
line_held (Some (w, whys.NoList)) input limit held new all ending q done after same l = absurd l
line_held (Some (w, whys.At name)) input limit held new all ending q done after same l = absurd l
line_held (Some (w, whys.There)) input limit held new all ending q done after same l = absurd l
line_held (Some (w, whys.Absent)) input limit held new all ending q done after same l = absurd l

module _ {S : Type 0} (ghosts : Ghosts S) where
  -- a run that says a line: it is out, or cut off
  pub said_runs : (start mid new : S) (q : State) (all : List Item) (ending : StreamEnd) (input : Type 0) (limit answered status : ℕ) (done after : List Item) (who : Option ℕ) (why : Why) → IsTrue ghosts.tells_reads
      → IsLeft ghosts start mid q (take limit all) done after → answered ≡ length done → IsLine (Some (who, why)) input limit (ghosts.disk new).reads all ending q done after → Says ghosts mid new status who why
      → Runs (IsTrue ghosts.tells_all) input status limit answered (ghosts.disk new).reads (ghosts.output new) all ending q (ghosts.output start)
  said_runs start mid new q all ending input limit answered status done after who why r l count line s =
      let reached : Reached q done after (ghosts.disk new).reads = subst (λ (c : Contents). Reached q done after c) (sym (s.reads r)) l.reached in
      ⊎_elim
      (λ whole. inr (inl (record {
        why = why;
        who = who;
        done = done;
        after = after;
        split = l.split;
        count = count;
        reached = reached;
        early = line;
        status_is = whole.0;
        put = λ t. whole.1 t ∙ ap (λ (o : Text). o ++ stop_text who (status_of_why why) why) (l.put t) ∙ ap (λ (n : ℕ). (ghosts.output start ++ text q done) ++ stop_text who n why) (sym whole.0);
      })))
      (λ cut. inr (inr (record {
        status_is = cut.0;
        done = done;
        after = after;
        split = l.split;
        count = count;
        reached = reached;
        put = λ t. let c = cut.2 t in (
          take c.0 (stop_text who (status_of_why why) why),
          drop c.0 (stop_text who (status_of_why why) why),
          c.1 ∙ ap (λ (o : Text). o ++ take c.0 (stop_text who (status_of_why why) why)) (l.put t),
          inr (who, why, line_number (Some (who, why)) input limit (ghosts.disk new).reads all ending q done after line, take-append-drop c.0 (stop_text who (status_of_why why) why)),
        );
      })))
      s.line

  -- a run whose store was closed
  pub finished_runs : (start now new : S) (q : State) (all : List Item) (ending : StreamEnd) (input : Type 0) (limit answered status last : ℕ) (done after : List Item) (line : StopLine) → IsTrue ghosts.tells_reads
      → IsServed ghosts start now q (take limit all) done after → answered ≡ length done → answered ≤ limit → last ≡ last_from 0 q done → IsLine line input limit (ghosts.disk now).reads all ending q done after → Finishes ghosts now new line status last
      → Runs (IsTrue ghosts.tells_all) input status limit answered (ghosts.disk new).reads (ghosts.output new) all ending q (ghosts.output start)
  finished_runs start now new q all ending input limit answered status last done after line r s count few last_is is f =
      let left = closed_left ghosts start now f.mid q (take limit all) done after r s f.same f.output f.instants in
      let mid : IsLine f.final input limit (ghosts.disk f.mid).reads all ending q done after =
      line_held f.final input limit (ghosts.disk now).reads (ghosts.disk f.mid).reads all ending q done after (f.same r)
      (closes_line line f.final (IsClean ghosts f.mid) (Rose (ghosts.disk_faults now) (ghosts.disk_faults f.mid)) input limit (ghosts.disk now).reads all ending q done after s.split f.closes is) in
      ⊎_elim
      (λ quiet.
      let end : (ending ≡ End) × (done ≡ all) = subst (λ (l : StopLine). IsLine l input limit (ghosts.disk f.mid).reads all ending q done after) quiet.0 mid in
      inl (record {
        end = end.0;
        count = count ∙ ap length end.1;
        few = few;
        status_is = quiet.1 ∙ last_is ∙ ap (last_from 0 q) end.1;
        state = subst (λ (l : List Item). HasState (directory (ghosts.disk new).reads) (fold q l)) end.1
            (same_state (directory (ghosts.disk now).reads) (directory (ghosts.disk new).reads) (fold q done) (ap (λ (x : S). directory (ghosts.disk x).reads) quiet.2 ∙ f.same r) s.state);
        put = λ t. ap ghosts.output quiet.2 ∙ left.put t ∙ ap (λ (l : List Item). ghosts.output start ++ text q l) end.1;
      }))
      (λ said. said_runs start f.mid new q all ending input limit answered status done after said.0 said.1 r left count
      (line_held (Some (said.0, said.1)) input limit (ghosts.disk f.mid).reads (ghosts.disk new).reads all ending q done after (ap directory (said.3.reads r))
      (subst (λ (l : StopLine). IsLine l input limit (ghosts.disk f.mid).reads all ending q done after) said.2 mid)) said.3)
      f.said

  -- and its instants
  pub finished_instants : (start now new : S) (q : State) (items done after : List Item) (line : StopLine) (status last : ℕ) (reads : IsTrue ghosts.tells_all → IsTrue ghosts.tells_reads) → IsServed ghosts start now q items done after → IsNumberOf (who_of line) after
      → Finishes ghosts now new line status last → Leaves ghosts start new (IsAfterSome q items (ghosts.output start))
  finished_instants start now new q items done after line status last reads s number f t =
      let left = closed_left ghosts start now f.mid q items done after (reads t) s f.same f.output f.instants in
      ⊎_elim
      (λ quiet. subst (λ (x : S). LeavesOnly ghosts.instant ghosts.left_since ghosts.disk ghosts.output start x (IsAfterSome q items (ghosts.output start))) (sym quiet.2) (left.instants t))
      (λ said. said_instants ghosts start f.mid new q items done after status said.0 said.1 left
      (subst (λ (o : Option ℕ). IsNumberOf o after) (sym (closes_who line f.final (IsClean ghosts f.mid) (Rose (ghosts.disk_faults now) (ghosts.disk_faults f.mid)) said.0 said.1 f.closes said.2)) number) said.3 t)
      f.said

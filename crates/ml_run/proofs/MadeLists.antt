-- How a list is made, call by call.
use Rattle.std.proofs.Common.{◌≡◌, ◌⊎◌, inl, inr, ⊎_elim, ℕ, IsTrue, List, ◌++◌, take, Option, Some, None, ap, sym, refl, subst, ◌∙◌, length, arith}
use Rattle.std.specs.Prelude.{IsSome}
use Rattle.ml_base.specs.Bytes.{Text}
use Rattle.ml_base.specs.Dir.{Dir, with_puts}
use Rattle.ml_base.specs.Name.{is_file}
use Rattle.ml_base.specs.declared.names.Name.{Name}
use Rattle.ml_base.specs.declared.puts.Put.{Put}
use Rattle.ml_config.specs.Configuration.{IsConfig}
use Rattle.ml_config.specs.FirstFiles.{first_puts}
use Rattle.ml_config.specs.declared.configuration.Config.{Config}
use Rattle.ml_plain.specs.Histories.{fresh}
use Rattle.ml_plain.specs.Plain.{new_list}
use Rattle.ml_plain.proofs.NewList.{laid_state}
use Rattle.ml_site.specs.Disk.{Contents, Disk, IsImage, Giving, IsAtRest, Now}
use Rattle.ml_site.specs.Instants.{LeavesOnly, FromFirstSync}
use Rattle.ml_site.specs.declared.site.Site.{Ghosts}
use Rattle.ml_site.proofs.Steps.{goes_on, joins, weaker, rest_contents}
use Rattle.ml_journal.specs.Calls.{Leaves, ChangesDirectory}
use Rattle.ml_journal.specs.Kept.{IsStill}
use Rattle.ml_journal.specs.Log.{directory}
use Rattle.ml_journal.specs.Instants.{with_txn, IsOld, IsOldOrNew}
use Rattle.ml_journal.specs.declared.errors.OpenError.{OpenError}
use Rattle.ml_journal.specs.declared.errors.OpenError.TheVariants as opens
use Rattle.ml_ending.specs.declared.lines.Why.{Why}
use Rattle.ml_ending.specs.declared.lines.Why.TheVariants as whys
use Rattle.ml_ending.specs.Lines.{stop_text}
use Rattle.ml_ending.specs.Stops.{status_of_why, why_of_open}
use Rattle.ml_ending.specs.Endings.{IsUnopened, Says, Finishes, Opens, TellsClosed}
use Rattle.ml_run.specs.Leaving.{HasState}
use Rattle.ml_run.specs.Making.{IsOneOf, IsMaking, IsUnmade, Makes}
use Rattle.ml_ending.proofs.Said.{says_front, tells_front, final_why, opening_then}

-- if no list is made, the directory is the one before or the whole new one
pub one_of : (why : Why) (dir held : Option Dir) (txn : List Put) → IsUnmade why dir txn held → IsOneOf dir txn held
one_of whys.There dir held txn u = inl u.0
one_of (whys.At name) dir held txn u = inl u.0
one_of whys.Memory dir held txn u = u
one_of whys.Disk dir held txn u = u
one_of whys.NoList dir held txn u = absurd u
one_of (whys.Bad at) dir held txn u = absurd u
one_of (whys.Short at) dir held txn u = absurd u
one_of whys.More dir held txn u = absurd u
one_of whys.Input dir held txn u = absurd u
one_of whys.Usage dir held txn u = absurd u
one_of whys.Words dir held txn u = absurd u
one_of whys.Long dir held txn u = absurd u
one_of whys.Clock dir held txn u = absurd u
one_of whys.Absent dir held txn u = absurd u

-- memory ran out, or the disk failed
pub either_unmade : (why : Why) (dir held : Option Dir) (txn : List Put) → (why ≡ whys.Memory) ⊎ (why ≡ whys.Disk) → IsOneOf dir txn held → IsUnmade why dir txn held
either_unmade why dir held txn is one = ⊎_elim (λ e. subst (λ (w : Why). IsUnmade w dir txn held) (sym e) one) (λ e. subst (λ (w : Why). IsUnmade w dir txn held) (sym e) one) is

-- what making a list did, over an output that was the same at its start
pub makes_before : (told : Type 0) (status : ℕ) (dir : Option Dir) (txn : List Put) (line old new : Text) (held : Contents) (output : Text) → (told → old ≡ new) → Makes told status dir txn line old held output → Makes told status dir txn line new held output
makes_before told status dir txn line old new held output same m = ⊎_elim
    (λ made. inl (record { status_is = made.status_is; made = made.made; put = λ t. made.put t ∙ ap (λ (o : Text). o ++ line) (same t) }))
    (λ other. ⊎_elim
    (λ refused. inr (inl (record { why = refused.why; status_is = refused.status_is; unmade = refused.unmade; put = λ t. refused.put t ∙ ap (λ (o : Text). o ++ stop_text None status refused.why) (same t) })))
    (λ cut. inr (inr (record { status_is = cut.status_is; held_is = cut.held_is; put = λ t. subst (λ (o : Text). IsMaking dir txn line o held output) (same t) (cut.put t) })))
    other)
    m

module _ {S : Type 0} (ghosts : Ghosts S) where
  -- a stop line was said
  pub said_makes : (start mid new : S) (dir : Option Dir) (txn : List Put) (line : Text) (status : ℕ) (why : Why) → IsTrue ghosts.tells_reads → (IsTrue ghosts.tells_all → ghosts.output mid ≡ ghosts.output start)
      → IsUnmade why dir txn (directory (ghosts.disk mid).reads) → Says ghosts mid new status None why → Makes (IsTrue ghosts.tells_all) status dir txn line (ghosts.output start) (ghosts.disk new).reads (ghosts.output new)
  said_makes start mid new dir txn line status why r put u s =
      let here : IsUnmade why dir txn (directory (ghosts.disk new).reads) = subst (λ (c : Contents). IsUnmade why dir txn (directory c)) (sym (s.reads r)) u in
      ⊎_elim
      (λ whole. inr (inl (record {
        why = why;
        status_is = whole.0;
        unmade = here;
        put = λ t. whole.1 t ∙ ap (λ (o : Text). o ++ stop_text None (status_of_why why) why) (put t) ∙ ap (λ (n : ℕ). ghosts.output start ++ stop_text None n why) (sym whole.0);
      })))
      (λ cut. inr (inr (record {
        status_is = cut.0;
        held_is = one_of why dir (directory (ghosts.disk new).reads) txn here;
        put = λ t. let c = cut.2 t in inl (one_of why dir (directory (ghosts.disk new).reads) txn here, inr (why, c.0, c.1 ∙ ap (λ (o : Text). o ++ take c.0 (stop_text None (status_of_why why) why)) (put t)));
      })))
      s.line

  -- and its instants
  pub said_making : (start mid new : S) (before : Text) (dir : Option Dir) (txn : List Put) (line : Text) (status : ℕ) (why : Why) → LeavesOnly ghosts.instant ghosts.left_since ghosts.disk ghosts.output start mid (IsMaking dir txn line before)
      → ((left : Contents) → IsImage (ghosts.disk mid) left → IsOneOf dir txn (directory left)) → ghosts.output mid ≡ before → Says ghosts mid new status None why → IsTrue ghosts.tells_all
      → LeavesOnly ghosts.instant ghosts.left_since ghosts.disk ghosts.output start new (IsMaking dir txn line before)
  said_making start mid new before dir txn line status why l images put s t =
      let text = stop_text None (status_of_why why) why in
      goes_on ghosts.instant ghosts.left_since ghosts.disk ghosts.output start mid new (IsMaking dir txn line before) (Giving (ghosts.disk mid) (ghosts.output mid) text) l (s.time t)
      (λ left out g. inl (images left g.0, inr (why, g.1.0, g.1.1 ∙ ap (λ (o : Text). o ++ take g.1.0 text) put)))
      (λ left image. (subst (λ (d : Disk). IsImage d left) (s.disk_is t) image, says_front ghosts mid new status None why s t))

  -- a list was committed, its store was closed, and its line was given
  pub told_makes : (start old new : S) (dir : Option Dir) (txn : List Put) (line : Text) (status : ℕ) → IsTrue ghosts.tells_reads → (IsTrue ghosts.tells_all → ghosts.output old ≡ ghosts.output start)
      → IsSome dir → directory (ghosts.disk old).reads ≡ with_txn txn dir → TellsClosed ghosts old new status line → Makes (IsTrue ghosts.tells_all) status dir txn line (ghosts.output start) (ghosts.disk new).reads (ghosts.output new)
  told_makes start old new dir txn line status r put there is f =
      let put' : IsTrue ghosts.tells_all → ghosts.output f.mid ≡ ghosts.output start = λ t. f.output t ∙ put t in
      let mid : directory (ghosts.disk f.mid).reads ≡ with_txn txn dir = f.same r ∙ is in
      ⊎_elim
      (λ tells.
      let here : directory (ghosts.disk new).reads ≡ with_txn txn dir = ap directory (tells.1.reads r) ∙ mid in
      ⊎_elim
      (λ whole. inl (record { status_is = whole.0; made = (there, here); put = λ t. whole.1 t ∙ ap (λ (o : Text). o ++ line) (put' t) }))
      (λ cut. inr (inr (record { status_is = cut.0; held_is = inr here; put = λ t. let c = cut.2 t in inr ((there, here), (c.0, c.1 ∙ ap (λ (o : Text). o ++ take c.0 line) (put' t))) })))
      tells.1.line_is)
      (λ stops. said_makes start f.mid new dir txn line status stops.0 r put' (either_unmade stops.0 dir (directory (ghosts.disk f.mid).reads) txn (⊎_elim (λ m. inl m) (λ d. inr d.0) stops.1) (inr mid)) stops.2)
      f.said

  pub told_making : (start old new : S) (dir : Option Dir) (txn : List Put) (line : Text) (status : ℕ) → LeavesOnly ghosts.instant ghosts.left_since ghosts.disk ghosts.output start old (IsMaking dir txn line (ghosts.output start))
      → ghosts.output old ≡ ghosts.output start → IsSome dir → directory (ghosts.disk old).reads ≡ with_txn txn dir → TellsClosed ghosts old new status line → IsTrue ghosts.tells_all
      → LeavesOnly ghosts.instant ghosts.left_since ghosts.disk ghosts.output start new (IsMaking dir txn line (ghosts.output start))
  told_making start old new dir txn line status l put there is f t =
      let put' : ghosts.output f.mid ≡ ghosts.output start = f.output t ∙ put in
      let one : LeavesOnly ghosts.instant ghosts.left_since ghosts.disk ghosts.output start f.mid (IsMaking dir txn line (ghosts.output start)) =
      joins ghosts.instant ghosts.left_since ghosts.disk ghosts.output start old f.mid (IsMaking dir txn line (ghosts.output start)) (IsOld (directory (ghosts.disk old).reads) (ghosts.output old)) (IsMaking dir txn line (ghosts.output start)) l (f.instants t)
      (λ left out p. p) (λ left out p. inl (inr (p.0 ∙ is), inl (p.1 ∙ put))) in
      let images : (left : Contents) → IsImage (ghosts.disk f.mid) left → directory left ≡ with_txn txn dir = λ left image. ((f.instants t).now left image).0 ∙ is in
      ⊎_elim
      (λ tells. goes_on ghosts.instant ghosts.left_since ghosts.disk ghosts.output start f.mid new (IsMaking dir txn line (ghosts.output start)) (Giving (ghosts.disk f.mid) (ghosts.output f.mid) line) one (tells.1.time t)
      (λ left out g. inr ((there, images left g.0), (g.1.0, g.1.1 ∙ ap (λ (o : Text). o ++ take g.1.0 line) put')))
      (λ left image. (subst (λ (d : Disk). IsImage d left) (tells.1.disk_is t) image, tells_front ghosts f.mid new status line tells.1 t)))
      (λ stops. said_making start f.mid new (ghosts.output start) dir txn line status stops.0 one (λ left image. inr (images left image)) put' stops.2 t)
      f.said

  -- what a commit may leave
  pub commit_making : (old new : S) (txn : List Put) (line : Text) → ChangesDirectory ghosts txn old new → IsTrue ghosts.tells_all
      → LeavesOnly ghosts.instant ghosts.left_since ghosts.disk ghosts.output old new (IsMaking (directory (ghosts.disk old).reads) txn line (ghosts.output old))
  commit_making old new txn line c t =
      weaker ghosts.instant ghosts.left_since ghosts.disk ghosts.output old new (IsOldOrNew (directory (ghosts.disk old).reads) txn (ghosts.output old)) (IsMaking (directory (ghosts.disk old).reads) txn line (ghosts.output old)) (c.instants t)
      (λ left out p. inl (p.0, inl p.1))

  pub commit_images : (old new : S) (txn : List Put) → ChangesDirectory ghosts txn old new → IsTrue ghosts.tells_all → (left : Contents) → IsImage (ghosts.disk new) left → IsOneOf (directory (ghosts.disk old).reads) txn (directory left)
  commit_images old new txn c t left image = ((c.instants t).now left image).0

  pub finished_making : (start old new : S) (dir : Option Dir) (txn : List Put) (line : Text) (status : ℕ) (why : Why) → LeavesOnly ghosts.instant ghosts.left_since ghosts.disk ghosts.output start old (IsMaking dir txn line (ghosts.output start))
      → ghosts.output old ≡ ghosts.output start → directory (ghosts.disk old).reads ≡ dir → Finishes ghosts old new (Some (None, why)) status 0 → IsTrue ghosts.tells_all
      → LeavesOnly ghosts.instant ghosts.left_since ghosts.disk ghosts.output start new (IsMaking dir txn line (ghosts.output start))
  finished_making start old new dir txn line status why l put is f t =
      let one : LeavesOnly ghosts.instant ghosts.left_since ghosts.disk ghosts.output start f.mid (IsMaking dir txn line (ghosts.output start)) =
      joins ghosts.instant ghosts.left_since ghosts.disk ghosts.output start old f.mid (IsMaking dir txn line (ghosts.output start)) (IsOld (directory (ghosts.disk old).reads) (ghosts.output old)) (IsMaking dir txn line (ghosts.output start)) l (f.instants t)
      (λ left out p. p) (λ left out p. inl (inl (p.0 ∙ is), inl (p.1 ∙ put))) in
      ⊎_elim
      (λ quiet. subst (λ (x : S). LeavesOnly ghosts.instant ghosts.left_since ghosts.disk ghosts.output start x (IsMaking dir txn line (ghosts.output start))) (sym quiet.2) one)
      (λ said. said_making start f.mid new (ghosts.output start) dir txn line status said.1 one (λ left image. inl (((f.instants t).now left image).0 ∙ is)) (f.output t ∙ put)
      (subst (λ (o : Option ℕ). Says ghosts f.mid new status o said.1) (⊎_elim (λ e. e.0) (λ m. m.0) (final_why why f.final said.0 said.1 _ _ f.closes said.2)) said.3) t)
      f.said

  -- a store that was read from
  pub read_making : (start read : S) (txn : List Put) (line : Text) → Leaves ghosts start read (IsStill ghosts start) → IsTrue ghosts.tells_all
      → LeavesOnly ghosts.instant ghosts.left_since ghosts.disk ghosts.output start read (IsMaking (directory (ghosts.disk start).reads) txn line (ghosts.output start))
  read_making start read txn line still t =
      weaker ghosts.instant ghosts.left_since ghosts.disk ghosts.output start read (IsStill ghosts start) (IsMaking (directory (ghosts.disk start).reads) txn line (ghosts.output start)) (still t)
      (λ left out p. inl (inl (ap directory p.0), inl p.1))

  -- and then a list was made
  pub read_makes : (start read new : S) (txn : List Put) (line : Text) (status : ℕ) → (ghosts.disk read).reads ≡ (ghosts.disk start).reads → (IsTrue ghosts.tells_all → ghosts.output read ≡ ghosts.output start)
      → Makes (IsTrue ghosts.tells_all) status (directory (ghosts.disk read).reads) txn line (ghosts.output read) (ghosts.disk new).reads (ghosts.output new)
      → Makes (IsTrue ghosts.tells_all) status (directory (ghosts.disk start).reads) txn line (ghosts.output start) (ghosts.disk new).reads (ghosts.output new)
  read_makes start read new txn line status same put m =
      makes_before (IsTrue ghosts.tells_all) status (directory (ghosts.disk start).reads) txn line (ghosts.output read) (ghosts.output start) (ghosts.disk new).reads (ghosts.output new) put
      (subst (λ (c : Contents). Makes (IsTrue ghosts.tells_all) status (directory c) txn line (ghosts.output read) (ghosts.disk new).reads (ghosts.output new)) same m)

  pub read_then : (start read new : S) (txn : List Put) (line : Text) → (ghosts.disk read).reads ≡ (ghosts.disk start).reads → ghosts.output read ≡ ghosts.output start → Leaves ghosts start read (IsStill ghosts start)
      → LeavesOnly ghosts.instant ghosts.left_since ghosts.disk ghosts.output read new (IsMaking (directory (ghosts.disk read).reads) txn line (ghosts.output read)) → IsTrue ghosts.tells_all
      → LeavesOnly ghosts.instant ghosts.left_since ghosts.disk ghosts.output start new (IsMaking (directory (ghosts.disk start).reads) txn line (ghosts.output start))
  read_then start read new txn line same put still run t =
      let P = IsMaking (directory (ghosts.disk start).reads) txn line (ghosts.output start) in
      joins ghosts.instant ghosts.left_since ghosts.disk ghosts.output start read new P (IsMaking (directory (ghosts.disk read).reads) txn line (ghosts.output read)) P (read_making start read txn line still t) run (λ left out p. p)
      (λ left out p. subst (λ (x : Contents × Text). IsMaking (directory x.0) txn line x.1 left out) (λ i. (same i, put i)) p)

  -- a store was opened, and a list was made over it
  pub opened_makes : (start now new : S) (puts txn : List Put) (text line : Text) (status : ℕ) → puts ≡ txn → text ≡ line → directory (ghosts.disk now).reads ≡ directory (ghosts.disk start).reads → (IsTrue ghosts.tells_all → ghosts.output now ≡ ghosts.output start)
      → Makes (IsTrue ghosts.tells_all) status (directory (ghosts.disk now).reads) puts text (ghosts.output now) (ghosts.disk new).reads (ghosts.output new)
      → Makes (IsTrue ghosts.tells_all) status (directory (ghosts.disk start).reads) txn line (ghosts.output start) (ghosts.disk new).reads (ghosts.output new)
  opened_makes start now new puts txn text line status e f same put m =
      makes_before (IsTrue ghosts.tells_all) status (directory (ghosts.disk start).reads) txn line (ghosts.output now) (ghosts.output start) (ghosts.disk new).reads (ghosts.output new) put
      (subst (λ (x : Option Dir × List Put × Text). Makes (IsTrue ghosts.tells_all) status x.0 x.1 x.2 (ghosts.output now) (ghosts.disk new).reads (ghosts.output new)) (λ i. (same i, e i, f i)) m)

  pub opened_making : (start now new : S) (puts txn : List Put) (text line : Text) → puts ≡ txn → text ≡ line → FromFirstSync ghosts.instant ghosts.left_since ghosts.disk ghosts.output ghosts.syncs start now (Now (ghosts.disk start) (ghosts.output start)) (IsOld (directory (ghosts.disk start).reads) (ghosts.output start))
      → directory (ghosts.disk now).reads ≡ directory (ghosts.disk start).reads → ghosts.output now ≡ ghosts.output start
      → LeavesOnly ghosts.instant ghosts.left_since ghosts.disk ghosts.output now new (IsMaking (directory (ghosts.disk now).reads) puts text (ghosts.output now))
      → Opens ghosts start new (IsMaking (directory (ghosts.disk start).reads) txn line (ghosts.output start))
  opened_making start now new puts txn text line e f first same put run =
      opening_then ghosts start now new (IsMaking (directory (ghosts.disk start).reads) txn line (ghosts.output start)) first
      (weaker ghosts.instant ghosts.left_since ghosts.disk ghosts.output now new (IsMaking (directory (ghosts.disk now).reads) puts text (ghosts.output now)) (IsMaking (directory (ghosts.disk start).reads) txn line (ghosts.output start)) run
      (λ left out p. subst (λ (x : Option Dir × List Put × Text × Text). IsMaking x.0 x.1 x.2 x.3 left out) (λ i. (same i, e i, f i, put i)) p))
      (λ left out p. inl (inl p.0, inl p.1))

  -- an opening was refused after its first sync
  pub refused_making : (start mid new : S) (txn : List Put) (line : Text) (status : ℕ) (why : Why) → FromFirstSync ghosts.instant ghosts.left_since ghosts.disk ghosts.output ghosts.syncs start mid (Now (ghosts.disk start) (ghosts.output start)) (IsOld (directory (ghosts.disk start).reads) (ghosts.output start))
      → ghosts.output mid ≡ ghosts.output start → Says ghosts mid new status None why → IsTrue ghosts.tells_all → Opens ghosts start new (IsMaking (directory (ghosts.disk start).reads) txn line (ghosts.output start))
  refused_making start mid new txn line status why first put s t = inr (record {
    synced = first.synced;
    first = first.first;
    rest = first.rest;
    same = first.same;
    until = first.until;
    since = said_making first.synced mid new (ghosts.output start) (directory (ghosts.disk start).reads) txn line status why
        (weaker ghosts.instant ghosts.left_since ghosts.disk ghosts.output first.synced mid (IsOld (directory (ghosts.disk start).reads) (ghosts.output start)) (IsMaking (directory (ghosts.disk start).reads) txn line (ghosts.output start)) first.since
        (λ left out p. inl (inl p.0, inl p.1)))
        (λ left image. inl ((first.since).now left image).0) put s t;
  })

  -- it begins at rest
  pub making_from_rest : (start new : S) (txn : List Put) (line : Text) → IsAtRest (ghosts.disk start) → Opens ghosts start new (IsMaking (directory (ghosts.disk start).reads) txn line (ghosts.output start))
      → LeavesOnly ghosts.instant ghosts.left_since ghosts.disk ghosts.output start new (IsMaking (directory (ghosts.disk start).reads) txn line (ghosts.output start))
  making_from_rest start new txn line rest o =
      let P = IsMaking (directory (ghosts.disk start).reads) txn line (ghosts.output start) in
      let same : (left : Contents) → IsImage (ghosts.disk start) left → directory left ≡ directory (ghosts.disk start).reads = λ left image. ap directory (rest_contents (ghosts.disk start) left rest image) in
      ⊎_elim
      (λ early. weaker ghosts.instant ghosts.left_since ghosts.disk ghosts.output start new (IsUnopened (ghosts.disk start) (ghosts.output start)) P early.all
      (λ left out u. inl (inl (same left u.image), u.put)))
      (λ late. joins ghosts.instant ghosts.left_since ghosts.disk ghosts.output start late.synced new (Now (ghosts.disk start) (ghosts.output start)) P P late.until late.since
      (λ left out p. inl (inl (same left p.0), inl p.1)) (λ left out p. p))
      o

-- why an opening was refused
pub open_unmade : (error : OpenError) (dir held : Option Dir) (txn : List Put) → held ≡ dir → (error ≡ opens.Damaged → dir ≡ None) → IsUnmade (why_of_open error) dir txn held
open_unmade opens.Fault dir held txn is none = inl is
open_unmade opens.Memory dir held txn is none = inl is
open_unmade opens.Damaged dir held txn is none = (is, refl, none refl)

-- no reason has the status 0
pub some_status : (why : Why) → status_of_why why ≡ 0 → ⊥
some_status whys.Usage e = omega (arith, e)
some_status (whys.Bad at) e = omega (arith, e)
some_status (whys.Short at) e = omega (arith, e)
some_status whys.Words e = omega (arith, e)
some_status whys.Long e = omega (arith, e)
some_status whys.Clock e = omega (arith, e)
some_status whys.Memory e = omega (arith, e)
some_status whys.More e = omega (arith, e)
some_status whys.Input e = omega (arith, e)
some_status whys.NoList e = omega (arith, e)
some_status (whys.At name) e = omega (arith, e)
some_status whys.There e = omega (arith, e)
some_status whys.Absent e = omega (arith, e)
some_status whys.Disk e = omega (arith, e)

-- if there was no file, what was made stands for the new list
pub made_state : (told : Type 0) (status : ℕ) (dir : Option Dir) (files : Dir) (config : Config) (key line before : Text) (held : Contents) (output : Text) → IsConfig config → length key ≡ 32 → dir ≡ Some files
    → ((name : Name) → IsTrue (is_file name) → files name ≡ None) → status ≡ 0 → Makes told status dir (first_puts config key) line before held output → HasState (directory held) (fresh (new_list config key))
made_state told status dir files config key line before held output sound long found none zero m = ⊎_elim
    (λ made. record { files = with_puts files (first_puts config key); is = made.made.1 ∙ ap (with_txn (first_puts config key)) found; stands = laid_state files config key sound long none })
    (λ other. ⊎_elim
    (λ refused. absurd (some_status refused.why (sym refused.status_is ∙ zero)))
    (λ cut. absurd (omega (arith, cut.status_is, zero)))
    other)
    m

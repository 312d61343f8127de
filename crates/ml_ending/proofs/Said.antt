-- What is put out at the end of a call, and what a crash meanwhile may leave.
use Rattle.std.proofs.Common.{Result, ◌≡◌, ◌⊎◌, inl, inr, ⊎_elim, ℕ, IsTrue, ◌++◌, length, take, Option, Some, None, ap, sym, refl, subst, ◌∙◌, arith}
use Rattle.std.proofs.lemmas.List.{take_all}
use Rattle.ml_base.specs.Bytes.{Text}
use Rattle.ml_site.specs.Disk.{Contents, Disk, IsImage, Giving, Now}
use Rattle.ml_site.specs.Instants.{LeavesOnly, BeforeFirstSync, FromFirstSync}
use Rattle.ml_site.specs.declared.site.Site.{Ghosts}
use Rattle.ml_site.proofs.Steps.{started, goes_on, joins, weaker}
use Rattle.ml_journal.specs.Calls.{OnlyNow}
use Rattle.ml_journal.specs.Log.{directory}
use Rattle.ml_journal.specs.Instants.{IsOld}
use Rattle.ml_journal.specs.Stores.{site_after}
use Rattle.ml_journal.specs.declared.store.Store.{Store}
use Rattle.ml_journal.specs.declared.errors.CommitError.{CommitError}
use Rattle.ml_journal.specs.declared.errors.CommitError.TheVariants as commits
use Rattle.ml_ending.specs.declared.lines.Why.{Why}
use Rattle.ml_ending.specs.declared.lines.Why.TheVariants as whys
use Rattle.ml_ending.specs.Lines.{stop_text}
use Rattle.ml_ending.specs.Stops.{status_of_why, why_of_commit}
use Rattle.ml_ending.specs.Endings.{StopLine, who_of, Says, ClosesTo, Tells, IsUnopened, Opens}

same_line : (a b : Option ℕ × Why) → ◌≡◌ {A = StopLine} (Some a) (Some b) → (a.0 ≡ b.0) × (a.1 ≡ b.1)
same_line a b e = let same : a ≡ b = cc in (ap (λ (p : Option ℕ × Why). p.0) same, ap (λ (p : Option ℕ × Why). p.1) same)

some_none : (line : Option ℕ × Why) → ◌≡◌ {A = StopLine} (Some line) None → ⊥
some_none line e = cc

-- a run that has a stop line still has one when its store is closed
pub some_stays : (line : Option ℕ × Why) (final : StopLine) (rest disk : Type 0) → ClosesTo (Some line) final rest disk → final ≡ None → ⊥
some_stays line final rest disk c is = ⊎_elim (λ a. some_none line (sym a.0 ∙ is)) (λ more. ⊎_elim (λ a. some_none line (sym a.0 ∙ is))
    (λ other. ⊎_elim (λ m. some_none (line.0, whys.Memory) (sym m.0 ∙ is)) (λ d. some_none (line.0, whys.Disk) (sym d.0 ∙ is)) other) more) c

-- the same line, or why the close was refused
pub final_why : (why : Why) (final : StopLine) (w : Option ℕ) (y : Why) (rest disk : Type 0) → ClosesTo (Some (None, why)) final rest disk → final ≡ Some (w, y)
    → ((w ≡ None) × (y ≡ why)) ⊎ ((w ≡ None) × ((y ≡ whys.Memory) ⊎ (y ≡ whys.Disk)))
final_why why final w y rest disk c is = ⊎_elim (λ a. inl (same_line (w, y) (None, why) (sym is ∙ a.0))) (λ more. ⊎_elim (λ a. inl (same_line (w, y) (None, why) (sym is ∙ a.0)))
    (λ other. ⊎_elim (λ m. let e = same_line (w, y) (None, whys.Memory) (sym is ∙ m.0) in inr (e.0, inl e.1)) (λ d. let e = same_line (w, y) (None, whys.Disk) (sym is ∙ d.0) in inr (e.0, inr e.1)) other) more) c

-- without a stop line: what is said if the close was refused
pub closed_why : (final : StopLine) (w : Option ℕ) (y : Why) (rest disk : Type 0) → ClosesTo None final rest disk → final ≡ Some (w, y) → (w ≡ None) × ((y ≡ whys.Memory) ⊎ ((y ≡ whys.Disk) × disk))
closed_why final w y rest disk c is = ⊎_elim (λ a. absurd (some_none (w, y) (sym is ∙ a.0))) (λ more. ⊎_elim (λ a. absurd (some_none (w, y) (sym is ∙ a.0)))
    (λ other. ⊎_elim (λ m. let e = same_line (w, y) (None, whys.Memory) (sym is ∙ m.0) in (e.0, inl e.1)) (λ d. let e = same_line (w, y) (None, whys.Disk) (sym is ∙ d.0) in (e.0, inr (e.1, d.2))) other) more) c

-- whether or not the close was refused, the line keeps its number
pub closes_who : (line final : StopLine) (rest disk : Type 0) (who : Option ℕ) (why : Why) → ClosesTo line final rest disk → final ≡ Some (who, why) → who ≡ who_of line
closes_who line final rest disk who why c is = ⊎_elim (λ same. ap who_of (sym is ∙ same.0)) (λ more. ⊎_elim (λ same. ap who_of (sym is ∙ same.0)) (λ other. ⊎_elim (λ m. ap who_of (sym is ∙ m.0)) (λ d. ap who_of (sym is ∙ d.0)) other) more) c

-- why a commit was refused
pub commit_why : (error : CommitError) → (why_of_commit error ≡ whys.Memory) ⊎ (why_of_commit error ≡ whys.Disk)
commit_why commits.Fault = inr refl
commit_why commits.Memory = inl refl

-- if P holds of the site after a call, it holds of the site that the call answers
pub at_site : {S E : Type 0} {ghosts : Ghosts S} (P : S → Type 0) (r x : Result (Store S ghosts) (E × S)) → r ≡ x → P (site_after r) → P (site_after x)
at_site {S} {E} {ghosts} P r x is h = subst (λ (q : Result (Store S ghosts) (E × S)). P (site_after q)) is h

module _ {S : Type 0} (ghosts : Ghosts S) where
  -- some first bytes of the line are out
  pub says_front : (old new : S) (status : ℕ) (who : Option ℕ) (why : Why) → Says ghosts old new status who why → IsTrue ghosts.tells_all → (n : ℕ) × (ghosts.output new ≡ ghosts.output old ++ take n (stop_text who (status_of_why why) why))
  says_front old new status who why s t =
      let line = stop_text who (status_of_why why) why in
      ⊎_elim (λ whole. (length line, whole.1 t ∙ ap (λ (l : Text). ghosts.output old ++ l) (sym (take_all (length line) line (omega arith))))) (λ cut. cut.2 t) s.line

  -- some first bytes of the text are out
  pub tells_front : (old new : S) (status : ℕ) (line : Text) → Tells ghosts old new status line → IsTrue ghosts.tells_all → (n : ℕ) × (ghosts.output new ≡ ghosts.output old ++ take n line)
  tells_front old new status line s t =
      ⊎_elim (λ whole. (length line, whole.1 t ∙ ap (λ (l : Text). ghosts.output old ++ l) (sym (take_all (length line) line (omega arith))))) (λ cut. cut.2 t) s.line_is

  -- no call was made yet
  pub untouched : OnlyNow ghosts → (start : S) → IsTrue ghosts.tells_all → BeforeFirstSync ghosts.instant ghosts.left_since ghosts.disk ghosts.output ghosts.syncs start start (Now (ghosts.disk start) (ghosts.output start))
  untouched only_now start t = record { same = refl; none = refl; all = nothing_left only_now start t }
    where
      nothing_left : OnlyNow ghosts → (start : S) → IsTrue ghosts.tells_all → LeavesOnly ghosts.instant ghosts.left_since ghosts.disk ghosts.output start start (Now (ghosts.disk start) (ghosts.output start))
      nothing_left only_now start t = started ghosts.instant ghosts.left_since ghosts.disk ghosts.output start (Now (ghosts.disk start) (ghosts.output start)) (λ left out l. only_now start left out t l) (λ left image. (image, refl))

  -- what a crash may leave while a line is put out on a site that wasn't opened
  unopened_instants : (start mid new : S) (status : ℕ) (why : Why) → LeavesOnly ghosts.instant ghosts.left_since ghosts.disk ghosts.output start mid (Now (ghosts.disk start) (ghosts.output start)) → Says ghosts mid new status None why → IsTrue ghosts.tells_all
      → LeavesOnly ghosts.instant ghosts.left_since ghosts.disk ghosts.output start new (IsUnopened (ghosts.disk start) (ghosts.output start))
  unopened_instants start mid new status why l s t =
      let line = stop_text None (status_of_why why) why in
      goes_on ghosts.instant ghosts.left_since ghosts.disk ghosts.output start mid new (IsUnopened (ghosts.disk start) (ghosts.output start)) (Giving (ghosts.disk mid) (ghosts.output mid) line)
      (weaker ghosts.instant ghosts.left_since ghosts.disk ghosts.output start mid (Now (ghosts.disk start) (ghosts.output start)) (IsUnopened (ghosts.disk start) (ghosts.output start)) l (λ left out p. record { image = p.0; put = inl p.1 }))
      (s.time t)
      (λ left out g. let n = l.now left g.0 in record {
        image = n.0;
        put = inr (why, g.1.0, g.1.1 ∙ ap (λ (o : Text). o ++ take g.1.0 line) n.1);
      })
      (λ left image. (subst (λ (d : Disk). IsImage d left) (s.disk_is t) image, says_front mid new status None why s t))

  pub unopened_said : (start mid new : S) (status : ℕ) (why : Why) → BeforeFirstSync ghosts.instant ghosts.left_since ghosts.disk ghosts.output ghosts.syncs start mid (Now (ghosts.disk start) (ghosts.output start)) → Says ghosts mid new status None why → IsTrue ghosts.tells_all
      → BeforeFirstSync ghosts.instant ghosts.left_since ghosts.disk ghosts.output ghosts.syncs start new (IsUnopened (ghosts.disk start) (ghosts.output start))
  unopened_said start mid new status why b s t = record { same = s.disk_is t ∙ b.same; none = s.syncs t ∙ b.none; all = unopened_instants start mid new status why b.all s t }

  -- a call that goes on after its first sync
  pub opening_then : (start now new : S) (P : Contents → Text → Type 0) → FromFirstSync ghosts.instant ghosts.left_since ghosts.disk ghosts.output ghosts.syncs start now (Now (ghosts.disk start) (ghosts.output start)) (IsOld (directory (ghosts.disk start).reads) (ghosts.output start))
      → LeavesOnly ghosts.instant ghosts.left_since ghosts.disk ghosts.output now new P → ((left : Contents) (out : Text) → IsOld (directory (ghosts.disk start).reads) (ghosts.output start) left out → P left out) → Opens ghosts start new P
  opening_then start now new P first run old = inr (record {
    synced = first.synced;
    first = first.first;
    rest = first.rest;
    same = first.same;
    until = first.until;
    since = joins ghosts.instant ghosts.left_since ghosts.disk ghosts.output first.synced now new (IsOld (directory (ghosts.disk start).reads) (ghosts.output start)) P P first.since run old (λ left out p. p);
  })

-- What a crash during the end of a call may leave, for any property P of that.
use Rattle.std.proofs.Common.{◌≡◌, ⊎_elim, ℕ, IsTrue, ◌++◌, take, Option, Some, None, ap, subst, ◌∙◌}
use Rattle.ml_base.specs.Bytes.{Text}
use Rattle.ml_site.specs.Disk.{Contents, Disk, IsImage, Giving}
use Rattle.ml_site.specs.Instants.{LeavesOnly}
use Rattle.ml_site.specs.declared.site.Site.{Ghosts}
use Rattle.ml_site.proofs.Steps.{goes_on, joins}
use Rattle.ml_journal.specs.Log.{directory}
use Rattle.ml_journal.specs.Instants.{IsOld}
use Rattle.ml_ending.specs.declared.lines.Why.{Why}
use Rattle.ml_ending.specs.Lines.{stop_text}
use Rattle.ml_ending.specs.Stops.{status_of_why}
use Rattle.ml_ending.specs.Endings.{Says, Finishes, TellsClosed}
use Rattle.ml_ending.proofs.Said.{says_front, tells_front, some_stays, final_why}

module _ {S : Type 0} (ghosts : Ghosts S) where
  -- a stop line
  pub said_leaves : (start mid new : S) (P : Contents → Text → Type 0) (status : ℕ) (who : Option ℕ) (why : Why) → LeavesOnly ghosts.instant ghosts.left_since ghosts.disk ghosts.output start mid P
      → ((left : Contents) (out : Text) (n : ℕ) → IsImage (ghosts.disk mid) left → out ≡ ghosts.output mid ++ take n (stop_text who (status_of_why why) why) → P left out)
      → Says ghosts mid new status who why → IsTrue ghosts.tells_all → LeavesOnly ghosts.instant ghosts.left_since ghosts.disk ghosts.output start new P
  said_leaves start mid new P status who why l front s t =
      goes_on ghosts.instant ghosts.left_since ghosts.disk ghosts.output start mid new P (Giving (ghosts.disk mid) (ghosts.output mid) (stop_text who (status_of_why why) why)) l (s.time t)
      (λ left out g. front left out g.1.0 g.0 g.1.1)
      (λ left image. (subst (λ (d : Disk). IsImage d left) (s.disk_is t) image, says_front ghosts mid new status who why s t))

  -- the close of a store, and a text after it
  pub told_leaves : (start old new : S) (P : Contents → Text → Type 0) (status : ℕ) (text : Text) → LeavesOnly ghosts.instant ghosts.left_since ghosts.disk ghosts.output start old P
      → ((left : Contents) (out : Text) → IsOld (directory (ghosts.disk old).reads) (ghosts.output old) left out → P left out)
      → ((left : Contents) (out : Text) (n : ℕ) → directory left ≡ directory (ghosts.disk old).reads → out ≡ ghosts.output old ++ take n text → P left out)
      → ((left : Contents) (out : Text) (why : Why) (n : ℕ) → directory left ≡ directory (ghosts.disk old).reads → out ≡ ghosts.output old ++ take n (stop_text None (status_of_why why) why) → P left out)
      → TellsClosed ghosts old new status text → IsTrue ghosts.tells_all → LeavesOnly ghosts.instant ghosts.left_since ghosts.disk ghosts.output start new P
  told_leaves start old new P status text l was fronts stops f t =
      let one : LeavesOnly ghosts.instant ghosts.left_since ghosts.disk ghosts.output start f.mid P =
      joins ghosts.instant ghosts.left_since ghosts.disk ghosts.output start old f.mid P (IsOld (directory (ghosts.disk old).reads) (ghosts.output old)) P l (f.instants t) (λ left out p. p) was in
      let images : (left : Contents) → IsImage (ghosts.disk f.mid) left → directory left ≡ directory (ghosts.disk old).reads = λ left image. ((f.instants t).now left image).0 in
      ⊎_elim
      (λ tells. goes_on ghosts.instant ghosts.left_since ghosts.disk ghosts.output start f.mid new P (Giving (ghosts.disk f.mid) (ghosts.output f.mid) text) one (tells.1.time t)
      (λ left out g. fronts left out g.1.0 (images left g.0) (g.1.1 ∙ ap (λ (o : Text). o ++ take g.1.0 text) (f.output t)))
      (λ left image. (subst (λ (d : Disk). IsImage d left) (tells.1.disk_is t) image, tells_front ghosts f.mid new status text tells.1 t)))
      (λ s. said_leaves start f.mid new P status None s.0 one
      (λ left out n image e. stops left out s.0 n (images left image) (e ∙ ap (λ (o : Text). o ++ take n (stop_text None (status_of_why s.0) s.0)) (f.output t))) s.2 t)
      f.said

  -- the close of a store, and a stop line after it
  pub finished_leaves : (start old new : S) (P : Contents → Text → Type 0) (status : ℕ) (why : Why) → LeavesOnly ghosts.instant ghosts.left_since ghosts.disk ghosts.output start old P
      → ((left : Contents) (out : Text) → IsOld (directory (ghosts.disk old).reads) (ghosts.output old) left out → P left out)
      → ((left : Contents) (out : Text) (y : Why) (n : ℕ) → directory left ≡ directory (ghosts.disk old).reads → out ≡ ghosts.output old ++ take n (stop_text None (status_of_why y) y) → P left out)
      → Finishes ghosts old new (Some (None, why)) status 0 → IsTrue ghosts.tells_all → LeavesOnly ghosts.instant ghosts.left_since ghosts.disk ghosts.output start new P
  finished_leaves start old new P status why l was stops f t =
      let one : LeavesOnly ghosts.instant ghosts.left_since ghosts.disk ghosts.output start f.mid P =
      joins ghosts.instant ghosts.left_since ghosts.disk ghosts.output start old f.mid P (IsOld (directory (ghosts.disk old).reads) (ghosts.output old)) P l (f.instants t) (λ left out p. p) was in
      ⊎_elim
      (λ quiet. absurd (some_stays (None, why) f.final _ _ f.closes quiet.0))
      (λ said. said_leaves start f.mid new P status None said.1 one
      (λ left out n image e. stops left out said.1 n ((f.instants t).now left image).0 (e ∙ ap (λ (o : Text). o ++ take n (stop_text None (status_of_why said.1) said.1)) (f.output t)))
      (subst (λ (o : Option ℕ). Says ghosts f.mid new status o said.1) (⊎_elim (λ e. e.0) (λ m. m.0) (final_why why f.final said.0 said.1 _ _ f.closes said.2)) said.3) t)
      f.said

-- What a run may leave at any instant.
use Rattle.std.specs.Prelude.{◌≡◌, ◌⊎◌, ℕ, IsTrue, List, ◌++◌, take, Option, Some}
use Rattle.ml_base.specs.Bytes.{Text}
use Rattle.ml_base.specs.Dir.{Dir}
use Rattle.ml_base.specs.declared.puts.Put.{Put}
use Rattle.ml_site.specs.Disk.{Contents, IsImage}
use Rattle.ml_site.specs.declared.site.Site.{Ghosts}
use Rattle.ml_journal.specs.Calls.{Leaves}
use Rattle.ml_journal.specs.Log.{directory}
use Rattle.ml_journal.specs.Instants.{with_txn}
use Rattle.ml_journal.specs.Stores.{site_of, the_dir}
use Rattle.ml_journal.specs.declared.store.Store.{Store}
use Rattle.ml_plain.specs.declared.Item.{Item}
use Rattle.ml_plain.specs.Directory.{IsState}
use Rattle.ml_plain.specs.Histories.{State, fold, text}
use Rattle.ml_ending.specs.declared.lines.Why.{Why}
use Rattle.ml_ending.specs.Lines.{stop_text}
use Rattle.ml_ending.specs.Stops.{status_of_why}
use Rattle.ml_run.specs.Batches.{IsNumberOf}

-- the directory that a store shows
abbrev pub dir_of : {S : Type 0} {ghosts : Ghosts S} → Store S ghosts → Dir
dir_of {S} {ghosts} store = the_dir (directory (ghosts.disk (site_of store)).reads)

-- the directory is there, and it stands for this list
pub record HasState (dir : Option Dir) (q : State) : Type 0 where
  pub files : Dir
  pub is : dir ≡ Some files
  pub stands : IsState files q

-- a whole stop line before these items: its status has its WHY, and it begins with the number of the first of them or `-`
pub record IsStopLine (next : List Item) (line : Text) : Type 0 where
  pub who : Option ℕ
  pub why : Why
  pub number : IsNumberOf who next
  pub is : line ≡ stop_text who (status_of_why why) why

-- some first bytes of the answers of these items are out
pub record AnswersOut (q : State) (items : List Item) (before out : Text) : Type 0 where
  pub front : Text
  pub more : Text
  pub split : text q items ≡ front ++ more
  pub put : out ≡ before ++ front

-- the answers of the first of these items are out, and some first bytes of one stop line
pub record LineOut (q : State) (items rest : List Item) (before out : Text) : Type 0 where
  pub answered : List Item
  pub waiting : List Item
  pub split : items ≡ answered ++ waiting
  pub front : Text
  pub more : Text
  pub line : IsStopLine (waiting ++ rest) (front ++ more)
  pub put : out ≡ (before ++ text q answered) ++ front

-- The directory stands for the list after some first items, and what was put out is some first bytes of their answers, or the answers of some
-- first ones of them and some first bytes of one stop line.
pub record IsAfterSome (q : State) (items : List Item) (before : Text) (left : Contents) (out : Text) : Type 0 where
  pub first : List Item
  pub rest : List Item
  pub split : items ≡ first ++ rest
  pub state : HasState (directory left) (fold q first)
  pub put : AnswersOut q first before out ⊎ LineOut q first rest before out

-- some more items are done after the answered ones
pub record Reached (q : State) (done after : List Item) (left : Contents) : Type 0 where
  pub waiting : List Item
  pub next : List Item
  pub split : after ≡ waiting ++ next
  pub state : HasState (directory left) (fold q (done ++ waiting))

-- during a commit and its answers: the old directory and no more output, or the new one and some first bytes of the answers
abbrev pub IsSettling : Option Dir → List Put → Text → Text → Contents → Text → Type 0
IsSettling dir txn lines before left out =
    ((directory left ≡ dir) × (out ≡ before)) ⊎ ((directory left ≡ with_txn txn dir) × ((n : ℕ) × (out ≡ before ++ take n lines)))

-- The first items are done and answered, and no more.
pub record IsServed {S : Type 0} (ghosts : Ghosts S) (start now : S) (q : State) (items done after : List Item) : Type 0 where
  pub split : items ≡ done ++ after
  pub state : HasState (directory (ghosts.disk now).reads) (fold q done)
  pub put : IsTrue ghosts.tells_all → ghosts.output now ≡ ghosts.output start ++ text q done
  pub instants : Leaves ghosts start now (IsAfterSome q items (ghosts.output start))

-- The first items are answered, and some more may be done, at the site and after a crash now.
pub record IsLeft {S : Type 0} (ghosts : Ghosts S) (start now : S) (q : State) (items done after : List Item) : Type 0 where
  pub split : items ≡ done ++ after
  pub reached : Reached q done after (ghosts.disk now).reads
  pub images : IsTrue ghosts.tells_all → (left : Contents) → IsImage (ghosts.disk now) left → Reached q done after left
  pub put : IsTrue ghosts.tells_all → ghosts.output now ≡ ghosts.output start ++ text q done
  pub instants : Leaves ghosts start now (IsAfterSome q items (ghosts.output start))

-- What a run does on any directory: the items that it did, each over the ones before it, and what a crash may leave of them.
use Rattle.std.specs.Prelude.{◌≡◌, ◌⊎◌, ◌<◌, ◌≤◌, ℕ, true, IsTrue, List, [], ◌∷◌, ◌++◌, length, take, Option, Some}
use Rattle.ml_base.specs.Bytes.{Text}
use Rattle.ml_base.specs.Dir.{Dir, are_files, touches_only, with_puts}
use Rattle.ml_base.specs.declared.puts.Put.{Put}
use Rattle.ml_site.specs.Disk.{Contents, IsAtRest}
use Rattle.ml_site.specs.declared.site.Site.{Ghosts}
use Rattle.ml_journal.specs.Calls.{Leaves}
use Rattle.ml_journal.specs.Log.{directory}
use Rattle.ml_plain.specs.declared.Item.{Item}
use Rattle.ml_plain.specs.declared.Reply.{Reply}
use Rattle.ml_plain.specs.Directory.{IsState}
use Rattle.ml_plain.specs.Histories.{State, step}
use Rattle.ml_plain.specs.Replies.{is_code, is_status, line}
use Rattle.ml_list.specs.Again.{CountsOnce}
use Rattle.ml_list.specs.Applying.{Does}
use Rattle.ml_list.specs.Loading.{HasConfig}
use Rattle.ml_list.specs.Looked.{AlikeFor}
use Rattle.ml_list.specs.Found.{FoundWhole}
use Rattle.ml_list.specs.Written.{WritesAsAsked, is_written_by}
use Rattle.ml_ending.specs.declared.lines.Why.{Why}
use Rattle.ml_ending.specs.Endings.{Opens}
use Rattle.ml_ending.specs.Lines.{stop_text}
use Rattle.ml_ending.specs.Stops.{status_of_why}
use Rattle.ml_stream.specs.declared.items.Items.{Items}
use Rattle.ml_stream.specs.Stream.{StreamEnd}
use Rattle.ml_run.specs.declared.batches.Batch.{Batch}
use Rattle.ml_run.specs.declared.batches.BatchEnd.{BatchEnd}
use Rattle.ml_run.specs.declared.batches.BatchEnd.TheVariants as ends
use Rattle.ml_run.specs.Batches.{HasNext, IsAhead}
use Rattle.ml_run.specs.Endings.{Brings}

-- what was done for an item: its puts, and its reply
pub record Done : Type 0 where
  pub item : Item
  pub puts : List Put
  pub reply : Reply

-- the items, in order
abbrev pub items_of : List Done → List Item
items_of [] = []
items_of (d ∷ more) = d.item ∷ items_of more

-- their answer lines, in order
abbrev pub answers_of : List Done → Text
answers_of [] = []
answers_of (d ∷ more) = line d.item.number d.reply ++ answers_of more

-- a directory with the puts of each laid over it, in order
abbrev pub after : Dir → List Done → Dir
after files [] = files
after files (d ∷ more) = after (with_puts files d.puts) more

-- What may be done for an item over a directory. Its puts are of files of the table that the item may write; if it is a delivery, of files that
-- what its recipient asks for may write. Its reply is one of the table, it counts once under its number, and the files that tell what is done
-- were in their grammar. If a directory stands for a list, and the files that the item looks at are the same there, the puts and the reply are
-- those of the list's step, whatever the other files hold.
pub record IsDone (files : Dir) (d : Done) : Type 0 where
  pub table : IsTrue (are_files d.puts)
  pub own : touches_only (is_written_by d.item) d.puts ≡ true
  pub asked : WritesAsAsked files d.item d.puts
  pub code : IsTrue (is_code d.reply.code)
  pub once : CountsOnce files d.item.number (d.puts, d.reply)
  pub found : FoundWhole files d.item (d.puts, d.reply)
  pub steps : (dir : Dir) (q : State) → AlikeFor d.item files dir → IsState dir q → Does dir (d.puts, d.reply) (step q d.item)

-- each of these was done over the directory that the ones before it left
abbrev pub AreDone : Dir → List Done → Type 0
AreDone files [] = Unit {0}
AreDone files (d ∷ more) = IsDone files d × AreDone (with_puts files d.puts) more

-- an item was added to a batch, and this was done for it over the directory with the batch's puts
pub record Adds (files : Dir) (old new : Batch) (d : Done) : Type 0 where
  pub next : HasNext old new d.item.number d.puts d.reply
  pub is : IsDone (with_puts files old.txn) d

-- a batch holds what was done for these items, and their answers
pub record HoldsDone (files : Dir) (g : Batch) (done : List Done) : Type 0 where
  pub laid : with_puts files g.txn ≡ after files done
  pub lines : g.lines ≡ answers_of done
  pub count : g.count ≡ length done
  pub are : AreDone files done

-- the items after a full batch are ahead of the reader
abbrev pub GoesOn : BatchEnd → Items → Option Text → List Item → StreamEnd → Type 0
GoesOn ends.Full reader left rest ending = IsAhead reader left rest ending
GoesOn _ reader left rest ending = Unit {0}

-- a batch of the first items that were ahead of a reader
pub record GathersDone (files : Dir) (g : Batch) (end : BatchEnd) (reader next : Items) (left left' : Option Text) : Type 0 where
  pub done : List Done
  pub holds : HoldsDone files g done
  pub ahead : (ahead : List Item) (ending : StreamEnd) → IsAhead reader left ahead ending → (rest : List Item) × (ahead ≡ items_of done ++ rest) × GoesOn end next left' rest ending

-- some first bytes of the answers of these items are out
abbrev pub AnswersDone : List Done → Text → Text → Type 0
AnswersDone done before out = (front more : Text) × (answers_of done ≡ front ++ more) × (out ≡ before ++ front)

-- the answers of some first items of these are out, and some first bytes of one stop line
abbrev pub LineDone : List Done → Text → Text → Type 0
LineDone done before out =
    (answered waiting : List Done) × (who : Option ℕ) × (why : Why) × (n : ℕ) × (done ≡ answered ++ waiting) × (out ≡ (before ++ answers_of answered) ++ take n (stop_text who (status_of_why why) why))

-- The puts of some first items of these are laid over the directory, for each item all of its puts. What was put out is some first bytes of the
-- answers of those items, or the answers of some first ones of them and some first bytes of one stop line.
pub record IsAfterFirst (files : Dir) (done : List Done) (before : Text) (left : Contents) (out : Text) : Type 0 where
  pub first : List Done
  pub rest : List Done
  pub split : done ≡ first ++ rest
  pub dir : directory left ≡ Some (after files first)
  pub put : AnswersDone first before out ⊎ LineDone first before out

-- these were done and answered since the start, when the site had this directory
pub record HasDone {S : Type 0} (ghosts : Ghosts S) (files : Dir) (start now : S) (done : List Done) : Type 0 where
  pub are : AreDone files done
  pub dir : directory (ghosts.disk now).reads ≡ Some (after files done)
  pub put : IsTrue ghosts.tells_all → ghosts.output now ≡ ghosts.output start ++ answers_of done
  pub instants : Leaves ghosts start now (IsAfterFirst files done (ghosts.output start))

-- this many were done and answered, the first ones that are brought, and the reader stands after them
pub record HasServed {S : Type 0} (ghosts : Ghosts S) (files : Dir) (start now : S) (answered : ℕ) (reader : Items) (left before : Option Text) : Type 0 where
  pub done : List Done
  pub has : HasDone ghosts files start now done
  pub count : answered ≡ length done
  pub items : (all : List Item) (ending : StreamEnd) → Brings before all ending → (ahead : List Item) × (all ≡ items_of done ++ ahead) × IsAhead reader left ahead ending

-- P holds of what a crash leaves at any instant since the old site; if something was pending there, from the first sync that succeeds on
abbrev pub AtEachInstant : {S : Type 0} → Ghosts S → S → S → (Contents → Text → Type 0) → Type 0
AtEachInstant ghosts old new P = (IsTrue ghosts.tells_all → Opens ghosts old new P) × (IsAtRest (ghosts.disk old) → Leaves ghosts old new P)

-- A row of items with what was done for each. This many were answered, the first ones in the order in which they were brought, and at most one
-- more batch was done. At the end the directory has the answered ones or all, and all are answered except after lack of memory and faults of the
-- output and the disk.
pub record IsRow {S : Type 0} (ghosts : Ghosts S) (brings : List Item → StreamEnd → Type 0) (limit status answered : ℕ) (new : S) (files : Dir) (first batch : List Done) : Type 0 where
  pub are : AreDone files (first ++ batch)
  pub count : answered ≡ length first
  pub few : length batch ≤ 16
  pub brought : (all : List Item) (ending : StreamEnd) → brings all ending → (beyond : List Item) × (take limit all ≡ items_of (first ++ batch) ++ beyond)
  pub end : (directory (ghosts.disk new).reads ≡ Some (after files first)) ⊎ (directory (ghosts.disk new).reads ≡ Some (after files (first ++ batch)))
  pub whole : (status ≡ 71 → ⊥) → (status ≡ 73 → ⊥) → (status ≡ 111 → ⊥) → batch ≡ []

-- What a run does on a directory, whatever it holds: there is such a row, and at every instant (M) the directory has the puts of some first items
-- of the row, among them all items whose answers have a byte out. If all that was brought is answered, the answers are out, and nothing else.
pub record DoesItems {S : Type 0} (ghosts : Ghosts S) (M : (Contents → Text → Type 0) → Type 0) (brings : List Item → StreamEnd → Type 0) (limit status answered : ℕ) (old new : S) (files : Dir) : Type 0 where
  pub first : List Done
  pub batch : List Done
  pub row : IsRow ghosts brings limit status answered new files first batch
  pub instants : M (IsAfterFirst files (first ++ batch) (ghosts.output old))
  pub answers : IsTrue (is_status status) → IsTrue ghosts.tells_all → ghosts.output new ≡ ghosts.output old ++ answers_of first

-- The same for a run that begins with what lies on a site, if reads are told and there is a directory. If an item is answered, the
-- configuration's file is in its grammar.
abbrev pub RunsAnywhere : {S : Type 0} → Ghosts S → (List Item → StreamEnd → Type 0) → ℕ → ℕ → ℕ → S → S → Type 0
RunsAnywhere ghosts brings limit status answered old new =
    IsTrue ghosts.tells_reads → (files : Dir) → directory (ghosts.disk old).reads ≡ Some files
    → DoesItems ghosts (AtEachInstant ghosts old new) brings limit status answered old new files × (0 < answered → HasConfig files)

-- Batches of items, and what is ahead of them in the stream.
use Rattle.std.specs.Prelude.{◌≡◌, ◌≢◌, ◌⊎◌, ◌<◌, ◌≤◌, ◌+◌, ◌-◌, ◌^◌, min, ℕ, true, IsTrue, IsSome, List, [], ◌∷◌, ◌++◌, length, take, Option, Some, None}
use Rattle.ml_base.specs.Bytes.{Text}
use Rattle.ml_base.specs.Dir.{Dir, are_files, with_puts}
use Rattle.ml_base.specs.Laying.{laid_in, are_distinct}
use Rattle.ml_base.specs.declared.names.Name.{Name}
use Rattle.ml_base.specs.declared.puts.Put.{Put}
use Rattle.ml_config.specs.ConfigFile.{config_name}
use Rattle.ml_journal.specs.Records.{content_size}
use Rattle.ml_plain.specs.declared.Item.{Item}
use Rattle.ml_plain.specs.declared.Reply.{Reply}
use Rattle.ml_plain.specs.Replies.{is_code, is_status, line, status_of}
use Rattle.ml_list.specs.Asked.{IsReadBy}
use Rattle.ml_list.specs.Looked.{StandsForNone}
use Rattle.ml_list.specs.Damage.{IsNamed, is_read_by_item}
use Rattle.ml_plain.specs.Directory.{IsState}
use Rattle.ml_plain.specs.Histories.{State, fold, text, last_from}
use Rattle.ml_stream.specs.declared.items.Items.{Items}
use Rattle.ml_run.specs.declared.batches.Batch.{Batch}
use Rattle.ml_run.specs.declared.batches.BatchEnd.{BatchEnd}
use Rattle.ml_run.specs.declared.batches.BatchEnd.TheVariants as ends
use Rattle.ml_ending.specs.declared.lines.Why.{Why}
use Rattle.ml_ending.specs.declared.lines.Why.TheVariants as whys
use Rattle.ml_stream.specs.declared.stream_error.StreamError.TheVariants as errors
use Rattle.ml_stream.specs.Items.{HasLeft, place_of, ahead_of}
use Rattle.ml_ending.specs.Stops.{log_name}
use Rattle.ml_stream.specs.Stream.{StreamEnd, End, Broken, IsStream, item_at, got}

-- a row of puts with others laid over it one by one: each replaces the newest put of its file, or goes last if there is none
abbrev pub laid_all : List Put → List Put → List Put
laid_all puts [] = puts
laid_all puts (put ∷ more) = laid_all (laid_in put puts) more

-- the puts of a batch are of files, no two of one file, and their size is counted; it has at most 16 items, and without items no puts
pub record IsBatch (g : Batch) : Type 0 where
  pub files : IsTrue (are_files g.txn)
  pub distinct : are_distinct g.txn ≡ true
  pub size : g.size ≡ min (content_size g.txn) (2 ^ 64 - 1)
  pub last : IsTrue (is_status g.last)
  pub few : g.count ≤ 16
  pub none : g.count ≡ 0 → g.txn ≡ []
  pub first : 0 < g.count → IsSome g.first

-- a batch without items
pub record IsEmptyBatch (g : Batch) : Type 0 where
  pub batch : IsBatch g
  pub txn : g.txn ≡ []
  pub lines : g.lines ≡ []
  pub count : g.count ≡ 0
  pub first : g.first ≡ None

-- the number of a batch's first item: the one that the batch has already, or this one if it has none
abbrev pub first_number : Option ℕ → ℕ → Option ℕ
first_number None number = Some number
first_number (Some first) number = Some first

-- a batch with one item more, whose puts are laid over the others
pub record HasNext (old new : Batch) (number : ℕ) (more : List Put) (reply : Reply) : Type 0 where
  pub txn : new.txn ≡ laid_all old.txn more
  pub lines : new.lines ≡ old.lines ++ line number reply
  pub count : new.count ≡ old.count + 1
  pub first : new.first ≡ first_number old.first number
  pub last : new.last ≡ status_of reply.code
  pub code : IsTrue (is_code reply.code)

-- These bytes are an answer line for each of these items, in order: its number, and some reply of the table. The status is that of the last
-- item, and if there is none it is the one from before.
abbrev pub AreAnswers : ℕ → List Item → Text → ℕ → Type 0
AreAnswers before [] lines last = (lines ≡ []) × (last ≡ before)
AreAnswers before (item ∷ items) lines last =
    (reply : Reply) × (more : Text) × IsTrue (is_code reply.code) × (lines ≡ line item.number reply ++ more) × AreAnswers (status_of reply.code) items more last

-- a stop line begins with the number of the next item, or with `-`
abbrev pub IsNumberOf : Option ℕ → List Item → Type 0
IsNumberOf None next = Unit {0}
IsNumberOf (Some number) [] = ⊥
IsNumberOf (Some number) (item ∷ items) = number ≡ item.number

-- the number of the first of some items, if there is one
abbrev pub IsFirst : Option ℕ → List Item → Type 0
IsFirst first [] = first ≡ None
IsFirst first (item ∷ items) = first ≡ Some item.number

-- the reader and its source have these items ahead, and then the stream ends in this way
pub record IsAhead (reader : Items) (left : Option Text) (items : List Item) (ending : StreamEnd) : Type 0 where
  pub bytes : Text
  pub has : HasLeft reader left bytes
  pub stream : IsStream (place_of reader) bytes items ending

-- a batch holds what these items do to a list, over a directory that stands for it, and their answers
pub record Holds (dir : Dir) (last : ℕ) (g : Batch) (q : State) (items : List Item) : Type 0 where
  pub state : IsState (with_puts dir g.txn) (fold q items)
  pub lines : g.lines ≡ text q items
  pub count : g.count ≡ length items
  pub first : IsFirst g.first items
  pub last_is : g.last ≡ last_from last q items

-- Why a batch was stopped, if this many more items were to be read and these items come after the batch.
abbrev pub IsStop : Why → Option ℕ → ℕ → List Item → StreamEnd → Type 0
IsStop (whys.Bad at) who more rest ending = (who ≡ None) × (0 < more) × (rest ≡ []) × (ending ≡ Broken (errors.Bad at))
IsStop (whys.Short at) who more rest ending = (who ≡ None) × (0 < more) × (rest ≡ []) × (ending ≡ Broken (errors.Short at))
IsStop whys.More who more rest ending = (who ≡ None) × (more ≡ 0) × ((rest ≢ []) ⊎ (¬ (ending ≡ End)))
IsStop whys.Input who more rest ending = who ≡ None
IsStop whys.Memory who more rest ending = IsNumberOf who (take more rest)
IsStop whys.Disk who more rest ending = IsSome who × IsNumberOf who (take more rest)
IsStop _ who more rest ending = ⊥

-- How a batch ended, if this many more items were to be read and these items come after the batch.
abbrev pub IsEnd : BatchEnd → ℕ → Items → Option Text → List Item → StreamEnd → Type 0
IsEnd ends.Full more reader left rest ending = IsAhead reader left rest ending
IsEnd ends.Last more reader left rest ending = (rest ≡ []) × (ending ≡ End)
IsEnd (ends.Stopped who why) more reader left rest ending = IsStop why who more rest ending

-- Why a batch was stopped, as far as the stream tells it: it is bad or ends too early right after the batch, though more items were to be read;
-- or all that were to be read were, and there is more.
abbrev pub IsByStream : Why → ℕ → List Item → StreamEnd → Type 0
IsByStream (whys.Bad at) more rest ending = (0 < more) × (rest ≡ []) × (ending ≡ Broken (errors.Bad at))
IsByStream (whys.Short at) more rest ending = (0 < more) × (rest ≡ []) × (ending ≡ Broken (errors.Short at))
IsByStream whys.More more rest ending = (more ≡ 0) × ((rest ≢ []) ⊎ (¬ (ending ≡ End)))
IsByStream whys.Input more rest ending = Unit {0}
IsByStream whys.Memory more rest ending = Unit {0}
IsByStream whys.Disk more rest ending = Unit {0}
IsByStream (whys.At name) more rest ending = Unit {0}
IsByStream _ more rest ending = ⊥

-- how a batch ended, as far as the stream tells it
abbrev pub EndsByStream : BatchEnd → ℕ → Items → Option Text → List Item → StreamEnd → Type 0
EndsByStream ends.Full more reader left rest ending = IsAhead reader left rest ending
EndsByStream ends.Last more reader left rest ending = (rest ≡ []) × (ending ≡ End)
EndsByStream (ends.Stopped who why) more reader left rest ending = IsByStream why more rest ending

-- a batch took the first items that were ahead, and has an answer line for each, if this many more were to be read
pub record Reads (end : BatchEnd) (last : ℕ) (g : Batch) (more : ℕ) (reader : Items) (left : Option Text) (ahead : List Item) (ending : StreamEnd) : Type 0 where
  pub items : List Item
  pub rest : List Item
  pub split : ahead ≡ items ++ rest
  pub count_is : g.count ≡ length items
  pub answers : AreAnswers last items g.lines g.last
  pub ends : EndsByStream end more reader left rest ending

-- a batch of the first items that were ahead, of which at most this many were to be read
pub record Gathers (dir : Dir) (last : ℕ) (g : Batch) (end : BatchEnd) (room : ℕ) (reader : Items) (left : Option Text) (ahead : List Item) (ending : StreamEnd) (q : State) : Type 0 where
  pub items : List Item
  pub rest : List Item
  pub split : ahead ≡ items ++ rest
  pub holds : Holds dir last g q items
  pub ends : IsEnd end (room - g.count) reader left rest ending

-- the reason of a stop: if the input or the disk failed, its count rose, and a file that is named is damaged
abbrev pub HasReason : Why → Type 0 → Type 0 → (Name → Type 0) → Type 0
HasReason (whys.Bad at) input disk damaged = Unit {0}
HasReason (whys.Short at) input disk damaged = Unit {0}
HasReason whys.More input disk damaged = Unit {0}
HasReason whys.Input input disk damaged = input
HasReason whys.Memory input disk damaged = Unit {0}
HasReason whys.Disk input disk damaged = disk
HasReason (whys.At name) input disk damaged = IsNamed name × damaged name
HasReason _ input disk damaged = ⊥

abbrev pub EndsWithReason : BatchEnd → Type 0 → Type 0 → (Name → Type 0) → Type 0
EndsWithReason ends.Full input disk damaged = Unit {0}
EndsWithReason ends.Last input disk damaged = Unit {0}
EndsWithReason (ends.Stopped who why) input disk damaged = HasReason why input disk damaged

-- a file that an item reads is neither the log nor the configuration
abbrev pub IsOfItem : Name → Type 0
IsOfItem name = (name ≢ log_name) × (name ≢ config_name)

-- The item for which a stop line names a file of a directory. The line begins with its number, and it may read the file, by the configuration
-- that is there and the numbers of what it asks; a file of the archive is damaged for that. No directory that stands for a list has the files
-- that the item looks at. If the source tells its bytes, it is the item after this many.
pub record IsOfNext (brings : List Item → StreamEnd → Type 0) (count : ℕ) (files : Dir) (who : Option ℕ) (name : Name) : Type 0 where
  pub item : Item
  pub number : who ≡ Some item.number
  pub reads : is_read_by_item item name ≡ true
  pub asked : IsReadBy files item name
  pub none : StandsForNone files item
  pub next : (all : List Item) (ending : StreamEnd) → brings all ending → (done : List Item) × (after : List Item) × (all ≡ done ++ item ∷ after) × (count ≡ length done)

-- if a stop line names a file, this holds of what the line begins with and of the file
abbrev pub IsNumbered : (Option ℕ → Name → Type 0) → Option ℕ → Why → Type 0
IsNumbered P who (whys.At name) = P who name
IsNumbered P who _ = Unit {0}

abbrev pub EndsNumbered : (Option ℕ → Name → Type 0) → BatchEnd → Type 0
EndsNumbered P ends.Full = Unit {0}
EndsNumbered P ends.Last = Unit {0}
EndsNumbered P (ends.Stopped who why) = IsNumbered P who why

-- the file that a refusal names is one that the item may read
abbrev pub NamesOwn : Item → Why → Type 0
NamesOwn item (whys.At name) = is_read_by_item item name ≡ true
NamesOwn item _ = Unit {0}

-- and it reads that file by what the files hold, which are those of no list as far as the item looks at them
abbrev pub NamesAsked : Dir → Item → Why → Type 0
NamesAsked files item (whys.At name) = IsReadBy files item name × StandsForNone files item
NamesAsked files item _ = Unit {0}

-- a batch that ended because it is full has 16 items, or at least 4,194,304 bytes, or all items that were to be read
abbrev pub IsFullBatch : BatchEnd → Batch → ℕ → Type 0
IsFullBatch ends.Full g room = (0 < g.count) × ((g.count ≡ 16) ⊎ ((4_194_304 ≤ g.size) ⊎ (g.count ≡ room)))
IsFullBatch ends.Last g room = Unit {0}
IsFullBatch (ends.Stopped who why) g room = Unit {0}

-- a batch that isn't full: it has fewer than 16 items, and its puts have fewer than 4,194,304 bytes
abbrev pub HasRoom : Batch → Type 0
HasRoom g = (g.count < 16) × (content_size g.txn < 4_194_304)

-- a batch that was not full before its last item
pub record IsJustFull (g : Batch) : Type 0 where
  pub before : Batch
  pub number : ℕ
  pub more : List Put
  pub reply : Reply
  pub next : HasNext before g number more reply
  pub not_full : HasRoom before

-- a batch ends as soon as it is full, and one that ends for another reason isn't
abbrev pub EndsInTime : BatchEnd → Batch → Type 0
EndsInTime ends.Full g = IsJustFull g
EndsInTime ends.Last g = HasRoom g
EndsInTime (ends.Stopped who why) g = HasRoom g

-- why an item is refused: memory ran out, the disk failed, or a file that it reads is damaged
abbrev pub IsPartReason : Why → Type 0
IsPartReason whys.Memory = Unit {0}
IsPartReason whys.Disk = Unit {0}
IsPartReason (whys.At name) = IsOfItem name
IsPartReason _ = ⊥

-- these bytes are these items one after the other, whatever follows them, and this is the place after them
abbrev pub Spells : ℕ → Text → List Item → ℕ → Type 0
Spells place front [] after = (front ≡ []) × (after ≡ place)
Spells place front (item ∷ items) after =
    (own rest : Text) × (next : ℕ) × (front ≡ own ++ rest) × ((more : Text) → item_at place (own ++ more) ≡ got (Some item) next more) × Spells next rest items after

-- the whole items in these bytes are these ones, and then others, maybe none, of which P holds
pub record HasWhole (place : ℕ) (front : Text) (items : List Item) (P : List Item → Type 0) : Type 0 where
  pub after : List Item
  pub ending : StreamEnd
  pub stream : IsStream place front (items ++ after) ending
  pub holds : P after

-- Which items are in the bytes that were taken for a batch, if this many more were to be read: its own, and the one whose number a stop line
-- has, which was to be read. If the source failed, they hold no others. If there is more after all that were to be read, at most one byte was
-- taken.
abbrev pub TakesTo : BatchEnd → ℕ → Text → Text → List Item → ℕ → Items → Option Text → Type 0
TakesTo ends.Full place front rest items more reader left = Spells place front items (place_of reader) × (ahead_of reader ≡ None) × HasLeft reader left rest
TakesTo ends.Last place front rest items more reader left = HasWhole place front items (λ after. after ≡ [])
TakesTo (ends.Stopped who why) place front rest items more reader left =
    HasWhole place front items (λ after. IsNumberOf who (take more after) × (why ≡ whys.Input → after ≡ []) × (length after ≤ more))
    × (why ≡ whys.More → (items ≡ []) × (more ≡ 0) × (length front ≤ 1))

-- these first bytes were taken for a batch of these items
pub record Takes (end : BatchEnd) (place : ℕ) (bs : Text) (items : List Item) (more : ℕ) (reader : Items) (left : Option Text) : Type 0 where
  pub front : Text
  pub rest : Text
  pub split : bs ≡ front ++ rest
  pub left_is : left ≡ Some rest
  pub holds : TakesTo end place front rest items more reader left

-- a batch took its items, this many of them
abbrev pub TakesSome : BatchEnd → ℕ → Text → ℕ → ℕ → Items → Option Text → Type 0
TakesSome end place bs count more reader left = (items : List Item) × (length items ≡ count) × Takes end place bs items more reader left

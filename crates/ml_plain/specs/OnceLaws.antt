-- The laws that say that every number counts once: over one history, and over several runs.
use Rattle.std.specs.Prelude.{◌≡◌, ◌≢◌, ◌<◌, ◌≤◌, ℕ, true, false, List, slice_get, Some, take}
use Rattle.ml_plain.specs.declared.Item.{Item}
use Rattle.ml_plain.specs.declared.Reply.{Reply}
use Rattle.ml_plain.specs.Answers.{stale}
use Rattle.ml_plain.specs.Plain.{Plain}
use Rattle.ml_plain.specs.Histories.{State, fresh, fold, fold_plain, answers, is_below}
use Rattle.ml_plain.specs.Once.{once, past_of, is_live, own_reply}
use Rattle.ml_plain.specs.Runs.{Run, after, history, replies}

-- the list after a history is the list after the items of it that count
abbrev pub CountsOnce : Plain → List Item → State → Type 0
CountsOnce p h q = (q.plain ≡ fold_plain p (once h)) × (q.floor ≡ (past_of h).floor)

-- an item with this number comes before this place of a history
pub record IsRepeated (h : List Item) (place number : ℕ) : Type 0 where
  pub earlier : ℕ
  pub first : Item
  pub here : slice_get h earlier ≡ Some first
  pub before : earlier < place
  pub same : number ≡ first.number

-- How the items of a history are answered. One that counts is answered by its step, on the list that the earlier items which count
-- leave; a Floor that counts is answered by the floor before it. One whose number is below the floor is answered `stale`. Any other has
-- a number that an earlier item had, and has the same reply as every earlier item with that number.
pub record AnswersOnce (p : Plain) (h : List Item) (given : List Reply) : Type 0 where
  pub live : (i : ℕ) (item : Item) → slice_get h i ≡ Some item → is_live (past_of (take i h)) item.number ≡ true →
      slice_get given i ≡ Some (own_reply (fold_plain p (once (take i h))) (past_of (take i h)).floor item)
  pub below : (i : ℕ) (item : Item) → slice_get h i ≡ Some item → is_below (past_of (take i h)).floor item.number ≡ true →
      slice_get given i ≡ Some stale
  pub again : (i j : ℕ) (item first : Item) → slice_get h i ≡ Some item → slice_get h j ≡ Some first → j ≤ i → item.number ≢ 0 → item.number ≡ first.number →
      is_below (past_of (take i h)).floor item.number ≡ false → slice_get given i ≡ slice_get given j
  pub other : (i : ℕ) (item : Item) → slice_get h i ≡ Some item → is_live (past_of (take i h)) item.number ≡ false →
      is_below (past_of (take i h)).floor item.number ≡ false → IsRepeated h i item.number

-- every item with a number counts once, when it first comes; or never, if its number is below the floor by then
abbrev pub Once : Type 0
Once = (p : Plain) (h : List Item) → CountsOnce p h (fold (fresh p) h) × AnswersOnce p h (answers (fresh p) h)

-- after any runs, the state and the replies are those of the items that all of them did, joined
pub record Joined (p : Plain) (runs : List Run) : Type 0 where
  pub state : after (fresh p) runs ≡ fold (fresh p) (history runs)
  pub counts : CountsOnce p (history runs) (after (fresh p) runs)
  pub given : replies (fresh p) runs ≡ answers (fresh p) (history runs)
  pub answers : AnswersOnce p (history runs) (replies (fresh p) runs)

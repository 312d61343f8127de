-- A batch that is read, item by item.
use Rattle.std.proofs.Common.{◌≡◌, ◌≢◌, inl, inr, ⊎_elim, ℕ, ◌-◌, ◌≤◌, ◌<◌, min, List, [], ◌∷◌, ◌++◌, Option, Some, None, Ok, ap, sym, refl, subst, ◌∙◌, arith}
use Rattle.std.proofs.lemmas.Bool.{cases_lt}
use Rattle.ml_base.specs.Bytes.{Text}
use Rattle.ml_base.specs.Dir.{Dir}
use Rattle.ml_base.specs.declared.puts.Put.{Put}
use Rattle.ml_plain.specs.declared.Item.{Item}
use Rattle.ml_plain.specs.declared.Reply.{Reply}
use Rattle.ml_plain.specs.Histories.{State}
use Rattle.ml_ending.specs.declared.lines.Why.{Why}
use Rattle.ml_stream.specs.Items.{HasLeft, NextRead, ahead_of, place_of}
use Rattle.ml_stream.specs.Stream.{StreamEnd, item_at}
use Rattle.ml_stream.specs.declared.items.Items.{Items}
use Rattle.ml_run.specs.declared.feed.Feed.{Ghosts as FeedGhosts}
use Rattle.ml_run.specs.declared.batches.Batch.{Batch}
use Rattle.ml_run.specs.declared.batches.BatchEnd.{BatchEnd}
use Rattle.ml_run.specs.declared.batches.BatchEnd.TheVariants as ends
use Rattle.ml_run.specs.Anywhere.{Adds, Done}
use Rattle.ml_run.specs.Gathering.{DoesBatch, IsGathered, ReadsBatch}
use Rattle.ml_run.specs.Batches.{EndsByStream, HasNext, Holds, IsAhead, IsEmptyBatch, IsEnd, IsFullBatch, IsBatch, Takes}
use Rattle.ml_run.proofs.Ahead.{next_ahead}
use Rattle.ml_run.proofs.Anywhere.{none_done}
use Rattle.ml_run.proofs.Batching.{ended_in_time, few_bytes, gathers_more, gathers_none}
use Rattle.ml_run.proofs.ServedAnywhere.{gathers_ended_done, gathers_none_done, gathers_one_done, other_goes}
use Rattle.ml_run.proofs.Streamed.{reads_more, reads_none, stop_by_stream}
use Rattle.ml_run.proofs.Taking.{one_longer, takes_next, takes_none}

pub last_other : ends.Last ≢ ends.Full
last_other e = cc

pub stopped_other : (who : Option ℕ) (why : Why) → ends.Stopped who why ≢ ends.Full
stopped_other who why e = cc

-- the stream says how a batch ended
pub end_by_stream : (end : BatchEnd) (more : ℕ) (reader : Items) (left : Option Text) (rest : List Item) (ending : StreamEnd) → IsEnd end more reader left rest ending → EndsByStream end more reader left rest ending
end_by_stream ends.Full more reader left rest ending e = e
end_by_stream ends.Last more reader left rest ending e = e
end_by_stream (ends.Stopped who why) more reader left rest ending e = stop_by_stream why who more rest ending e

other_full : (end : BatchEnd) (g : Batch) (room : ℕ) → end ≢ ends.Full → IsFullBatch end g room
other_full ends.Full g room other = absurd (other refl)
other_full ends.Last g room other = tt
other_full (ends.Stopped who why) g room other = tt

-- a batch that isn't full
pub gathered_ended : (end : BatchEnd) (room : ℕ) (g : Batch) → end ≢ ends.Full → IsBatch g → g.count ≤ room → g.count < 16 → g.size < 4_194_304 → IsGathered end room g
gathered_ended end room g other batch few low small = record { batch = batch; few = few; full = other_full end g room other; in_time = ended_in_time end g other (low, few_bytes g batch small) }

-- a batch that has all items that it may have
pub full_counted : (g : Batch) (room : ℕ) → 0 < room → g.count ≡ min room 16 → IsFullBatch ends.Full g room
full_counted g room some is = (omega (arith, some, is), ⊎_elim (λ lt. inl (omega (arith, is, lt))) (λ le. inr (inr (omega (arith, is, le)))) (cases_lt 16 room))

-- the feed gave this item
pub record GivesItem {F : Type 0} (fed : FeedGhosts F) (item : Item) (now after : F) : Type 0 where
  pub read : (bs : Text) → HasLeft (fed.reader now) (fed.left now) bs → NextRead (Ok (Some item)) (fed.reader after) (fed.left after) (item_at (place_of (fed.reader now)) bs)
  pub ahead : ahead_of (fed.reader after) ≡ None

module _ {F : Type 0} (fed : FeedGhosts F) where
  pub gives_item : (found : Option Item) (item : Item) (now after : F) → found ≡ Some item → ((bs : Text) → HasLeft (fed.reader now) (fed.left now) bs → NextRead (Ok found) (fed.reader after) (fed.left after) (item_at (place_of (fed.reader now)) bs))
      → ahead_of (fed.reader after) ≡ None → GivesItem fed item now after
  gives_item found item now after is read ahead = record {
    read = subst (λ (o : Option Item). (bs : Text) → HasLeft (fed.reader now) (fed.left now) bs → NextRead (Ok o) (fed.reader after) (fed.left after) (item_at (place_of (fed.reader now)) bs)) is read;
    ahead = ahead;
  }

  pub item_ahead : (item : Item) (now after : F) → GivesItem fed item now after → (rest : List Item) (ending : StreamEnd) → IsAhead (fed.reader now) (fed.left now) rest ending
      → (later : List Item) × (rest ≡ item ∷ later) × IsAhead (fed.reader after) (fed.left after) later ending
  item_ahead item now after gave rest ending a = let r = gave.read a.bytes a.has in next_ahead (fed.reader now) (fed.reader after) (fed.left now) (fed.left after) item rest ending a r.0 r.1 r.2

  -- no item was read yet
  pub read_none : (room : ℕ) (g : Batch) (feed : F) → IsEmptyBatch g → fed.sound feed → ReadsBatch fed ends.Full room g.last g feed feed
  read_none room g feed empty sound = record {
    streamed = λ ahead ending a. reads_none g.last g (room - g.count) (fed.reader feed) (fed.left feed) ahead ending empty refl a;
    taken = λ bs none has.
        let t = takes_none (place_of (fed.reader feed)) bs (fed.reader feed) (fed.left feed) refl none has in
        ([], sym empty.count, record { front = t.front; rest = t.rest; split = t.split; left_is = t.left_is; holds = t.holds });
    sound = λ full. sound;
    through = refl;
    later = omega arith;
  }

  pub does_none : (dir : Dir) (room : ℕ) (g : Batch) (feed : F) → IsEmptyBatch g → DoesBatch fed dir ends.Full room g.last g feed feed
  does_none dir room g feed empty = record {
    gathered = λ ahead ending q a stands. gathers_none dir g room (fed.reader feed) (fed.left feed) ahead ending q empty a stands;
    done = gathers_none_done dir g (fed.reader feed) (fed.left feed) (none_done dir g empty);
  }

  -- none was to be read
  pub read_last : (end : BatchEnd) (room : ℕ) (g : Batch) (before after : F) → IsEmptyBatch g → room ≡ 0 → end ≢ ends.Full → fed.through after ≡ fed.through before → fed.faults before ≤ fed.faults after
      → ((ahead : List Item) (ending : StreamEnd) → IsAhead (fed.reader before) (fed.left before) ahead ending → IsEnd end 0 (fed.reader after) (fed.left after) ahead ending)
      → ((bs : Text) → HasLeft (fed.reader before) (fed.left before) bs → Takes end (place_of (fed.reader before)) bs [] 0 (fed.reader after) (fed.left after)) → ReadsBatch fed end room g.last g before after
  read_last end room g before after empty none other through later end_is took =
      let zero : 0 ≡ room - g.count = omega (arith, none) in record {
        streamed = λ ahead ending a. record {
          items = [];
          rest = ahead;
          split = refl;
          count_is = empty.count;
          answers = (empty.lines, refl);
          ends = subst (λ (n : ℕ). EndsByStream end n (fed.reader after) (fed.left after) ahead ending) zero (end_by_stream end 0 (fed.reader after) (fed.left after) ahead ending (end_is ahead ending a));
        };
        taken = λ bs none has. ([], sym empty.count, subst (λ (n : ℕ). Takes end (place_of (fed.reader before)) bs [] n (fed.reader after) (fed.left after)) zero (took bs has));
        sound = λ full. absurd (other full);
        through = through;
        later = later;
      }

  -- one item more was read and added
  pub read_next : (room last : ℕ) (g new : Batch) (before now after : F) (item : Item) → ReadsBatch fed ends.Full room last g before now → GivesItem fed item now after → fed.sound after → fed.through after ≡ fed.through now → fed.faults now ≤ fed.faults after
      → (puts : List Put) × (reply : Reply) × HasNext g new item.number puts reply → ReadsBatch fed ends.Full room last new before after
  read_next room last g new before now after item r gave sound through later next = record {
    streamed = λ ahead ending a.
        let s = r.streamed ahead ending a in
        let n = item_ahead item now after gave s.rest ending s.ends in
        reads_more last g new (room - g.count) (room - new.count) (fed.reader now) (fed.reader after) (fed.left now) (fed.left after) ahead ending item n.0 s next n.1 n.2;
    taken = λ bs none has.
        let t = r.taken bs none has in
        let b = gave.read t.2.rest t.2.holds.2 in
        (t.0 ++ item ∷ [], one_longer t.0 item g.count new.count t.1 next.2.count, takes_next (place_of (fed.reader before)) bs t.0 (room - g.count) (room - new.count) (fed.reader now) (fed.reader after) (fed.left now) (fed.left after) item b.0 t.2 b.1 gave.ahead b.2);
    sound = λ full. sound;
    through = through ∙ r.through;
    later = omega (arith, later, r.later);
  }

  pub does_next : (dir : Dir) (room last : ℕ) (g new : Batch) (before now after : F) (item : Item) → DoesBatch fed dir ends.Full room last g before now → GivesItem fed item now after
      → ((last : ℕ) (q : State) (items : List Item) → Holds dir last g q items → Holds dir last new q (items ++ item ∷ [])) → (d : Done) × (d.item ≡ item) × Adds dir g new d → DoesBatch fed dir ends.Full room last new before after
  does_next dir room last g new before now after item d gave holds add = record {
    gathered = λ ahead ending q a stands.
        let s = d.gathered ahead ending q a stands in
        let n = item_ahead item now after gave s.rest ending s.ends in
        gathers_more dir last g new room (fed.reader now) (fed.reader after) (fed.left now) (fed.left after) ahead ending q item s n.0 n.1 n.2 (holds last q s.items s.holds);
    done = gathers_one_done dir g new (fed.reader before) (fed.reader now) (fed.reader after) (fed.left before) (fed.left now) (fed.left after) add.0 d.done add.2
        (λ rest ending a. let n = item_ahead item now after gave rest ending a in (n.0, n.1 ∙ ap (λ (i : Item). i ∷ n.0) (sym add.1), n.2));
  }

  -- the batch ended for another reason than being full
  pub read_ended : (end : BatchEnd) (room last : ℕ) (g : Batch) (before now after : F) → end ≢ ends.Full → ReadsBatch fed ends.Full room last g before now → fed.through after ≡ fed.through now → fed.faults now ≤ fed.faults after
      → ((rest : List Item) (ending : StreamEnd) → IsAhead (fed.reader now) (fed.left now) rest ending → EndsByStream end (room - g.count) (fed.reader after) (fed.left after) rest ending)
      → ((place : ℕ) (bs : Text) (items : List Item) → Takes ends.Full place bs items (room - g.count) (fed.reader now) (fed.left now) → Takes end place bs items (room - g.count) (fed.reader after) (fed.left after))
      → ReadsBatch fed end room last g before after
  read_ended end room last g before now after other r through later by took = record {
    streamed = λ ahead ending a. let s = r.streamed ahead ending a in record { items = s.items; rest = s.rest; split = s.split; count_is = s.count_is; answers = s.answers; ends = by s.rest ending s.ends };
    taken = λ bs none has. let t = r.taken bs none has in (t.0, t.1, took (place_of (fed.reader before)) bs t.0 t.2);
    sound = λ full. absurd (other full);
    through = through ∙ r.through;
    later = omega (arith, later, r.later);
  }

  pub does_ended : (end : BatchEnd) (dir : Dir) (room last : ℕ) (g : Batch) (before now after : F) → end ≢ ends.Full → DoesBatch fed dir ends.Full room last g before now
      → ((items rest : List Item) (ending : StreamEnd) (q : State) → Holds dir last g q items → IsAhead (fed.reader now) (fed.left now) rest ending → IsEnd end (room - g.count) (fed.reader after) (fed.left after) rest ending)
      → DoesBatch fed dir end room last g before after
  does_ended end dir room last g before now after other d end_is = record {
    gathered = λ ahead ending q a stands.
        let s = d.gathered ahead ending q a stands in
        record { items = s.items; rest = s.rest; split = s.split; holds = s.holds; ends = end_is s.items s.rest ending q s.holds s.ends };
    done = gathers_ended_done dir g (fed.reader before) (fed.reader now) (fed.reader after) (fed.left before) (fed.left now) (fed.left after) end (λ rest ending. other_goes end (fed.reader after) (fed.left after) rest ending other) d.done;
  }

-- What a moderator's answer does, on every directory that has the files that it looks at.
use Rattle.std.proofs.Common.{◌≡◌, ◌==◌, ◌+◌, ℕ, Bool, true, false, ◌&&◌, ◌||◌, List, Option, Some, None, IsTrue, is_some, inl, inr, refl, sym, ap, ◌∙◌, subst, arith}
use Rattle.std.proofs.lemmas.Bool.{false≢true, or_left, or_right}
use Rattle.ml_base.specs.Bytes.{Text}
use Rattle.ml_base.specs.Dir.{Dir, same_name, with_puts, touches_only}
use Rattle.ml_base.specs.Drawn.{IsCounter}
use Rattle.ml_base.specs.Ranges.{is_drawn}
use Rattle.ml_base.specs.declared.names.Name.{Name}
use Rattle.ml_base.specs.declared.names.Set.TheVariants as sets
use Rattle.ml_base.specs.declared.puts.Put.{Put}
use Rattle.ml_config.specs.ConfigFile.{config_name}
use Rattle.ml_config.specs.KeyFile.{key_name}
use Rattle.ml_config.specs.declared.configuration.Config.{Config}
use Rattle.ml_drawn.specs.Answers.{AreTaken, IsNextThere, IsTaking, counter_put, low_of}
use Rattle.ml_drawn.specs.declared.search.Found.{Found}
use Rattle.ml_drawn.specs.declared.series.Series.TheVariants.{Tickets}
use Rattle.ml_drawn.proofs.OfFiles.{looking, released}
use Rattle.ml_filing.specs.Reads.{IsOfNext}
use Rattle.ml_filing.specs.Threads.{is_of_archive}
use Rattle.ml_hold.specs.Answers.{LooksBy, post_name, tickets_name}
use Rattle.ml_hold.specs.Held.{Pending, IsHeld, IsHeldFile, IsPending, held_post, held_text, without_ticket}
use Rattle.ml_hold.specs.declared.posts.Held.{Held}
use Rattle.ml_hold.proofs.Spelling.{held_one}
use Rattle.ml_queue.specs.Answers.{ids_name}
use Rattle.ml_plain.specs.Directory.{IsList, held_kinds}
use Rattle.ml_plain.specs.Plain.{Plain}
use Rattle.ml_plain.proofs.PartChanges.{held_changed}
use Rattle.ml_acts.specs.Configured.{with_config}
use Rattle.ml_acts.proofs.Apart.{mailed_with}
use Rattle.ml_acts.proofs.Asked.{mailed_other}
use Rattle.ml_post.specs.Alike.{AlikeForAnswer, AlikeToFollow, AlikeToPublish, AlikeToTake, IsNextOfTicket}
use Rattle.ml_post.specs.Answering.{is_answered_by, is_followed_by, is_taken_by}
use Rattle.ml_post.specs.Publishing.{is_beside_held, is_published_by, sent_key}
use Rattle.ml_post.proofs.Apart.{mailed_published, next_append, under_same}
use Rattle.ml_post.proofs.Moderated.{own_read, taken_read}
use Rattle.ml_post.proofs.Posts.{append_read, needs_none_held}
use Rattle.ml_post.proofs.Waiting.{beside_held}

-- a file that is there exactly if another is
none_so : (f g : Option Text) → is_some f ≡ is_some g → g ≡ None → f ≡ None
none_so None g e none = refl
none_so (Some t) g e none = absurd (let bad : true ≡ false = e ∙ ap is_some none in cc)

some_so : (f g : Option Text) (text : Text) → is_some f ≡ is_some g → g ≡ Some text → (t : Text) × (f ≡ Some t)
some_so None g text e some = absurd (let bad : false ≡ true = e ∙ ap is_some some in cc)
some_so (Some t) g text e some = (t, refl)

module _ (ticket : ℕ) (old dir : Dir) (alike : AlikeToTake ticket old dir) where
  -- the next post that waits
  next_there : (next : ℕ) (found : Option Found) → IsNextThere old Tickets (ticket + 1) next found → (other : Option Found) × IsNextThere dir Tickets (ticket + 1) next other × (low_of next other ≡ low_of next found)
  next_there next None is = (None, (λ n a b d. none_so (dir (post_name n)) (old (post_name n)) (alike.waits n (omega (arith, a)) d) (is n a b d)), refl)
  next_there next (Some f) is =
      let file = some_so (dir (post_name f.number)) (old (post_name f.number)) f.bytes (alike.waits f.number (let on = is.onward in omega (arith, on)) is.drawn) is.file in (
        Some (record { number = f.number; bytes = file.0 }),
        record { onward = is.onward; below = is.below; drawn = is.drawn; before = λ n a b d. none_so (dir (post_name n)) (old (post_name n)) (alike.waits n (omega (arith, a)) d) (is.before n a b d); file = file.1 },
        refl,
      )

  taking_apart : (puts : List Put) → IsTaking old Tickets ticket puts → IsTaking dir Tickets ticket puts
  taking_apart puts is = record {
    low = is.low;
    next = is.next;
    counted = subst (λ (f : Option Text). IsCounter f is.low is.next) (sym alike.next) is.counted;
    are = go (is.low == ticket) is.are;
  }
    where
      go : (first : Bool) → AreTaken old Tickets ticket is.next first puts → AreTaken dir Tickets ticket is.next first puts
      go false are = are
      go true are =
          let moved = are.1 in
          let other = next_there is.next moved.found moved.first in
          (are.0, record { found = other.0; first = other.1; is = moved.is ∙ ap (λ (low : ℕ). counter_put Tickets low is.next) (sym other.2) }, are.2)

  pub take_apart : (p : Plain) (txn : List Put) (held : Held) → IsTaking old Tickets ticket txn → touches_only (λ name. held_kinds name.kind) txn ≡ true → IsList dir p → held_post ticket p.held ≡ Some held
      → IsList (with_puts dir txn) (record p { held = without_ticket ticket p.held })
  take_apart p txn held taking own is found =
      held_changed dir p txn (without_ticket ticket p.held) is own (released IsHeld held_text Tickets dir p.held is.held ticket txn held (taking_apart txn taking) found)

-- the post of a ticket, by its own file
pub look_apart : (old dir : Dir) (ticket : ℕ) (answer : Option Held) (pending : Pending) → (IsTrue (is_drawn ticket) → dir (post_name ticket) ≡ old (post_name ticket)) → LooksBy old ticket answer → IsPending dir pending
    → answer ≡ held_post ticket pending
look_apart old dir ticket answer pending same by is = looking IsHeld held_text Tickets dir pending is held_one ticket answer (go answer by)
  where
    go : (answer : Option Held) → LooksBy old ticket answer → LooksBy dir ticket answer
    go None none = λ drawn. same drawn ∙ none drawn
    go (Some h) there = (there.0, subst (λ (f : Option Text). IsHeldFile f h) (sym (same there.0)) there.1)

-- the place of a post is none of the held posts' files
next_beside : (old : Dir) (key : Text) (name : Name) → IsOfNext old key name → is_beside_held name ≡ true
next_beside old key name (inl e) = ap is_beside_held e
next_beside old key name (inr (inl at)) = ap is_beside_held at.3
next_beside old key name (inr (inr e)) = ap is_beside_held e

-- puts of held posts leave what taking a post reads
pub publish_after : (c : Config) (m : Text) (old dir : Dir) (txn : List Put) → touches_only (λ name. held_kinds name.kind) txn ≡ true → AlikeToPublish c m old dir → AlikeToPublish c m old (with_puts dir txn)
publish_after c m old dir txn own alike = record {
  mailed = λ name e. beside_held dir txn own name (needs_none_held sets.List name (mailed_with sets.List name e)) ∙ alike.mailed name e;
  placed = λ name next. beside_held dir txn own name (next_beside old (sent_key c m) name next) ∙ alike.placed name next;
}

-- what an answer reads, by what it decides
taken_followed : (ticket : ℕ) (accept : Bool) (name : Name) → is_taken_by ticket name ≡ true → is_followed_by ticket accept name ≡ true
taken_followed ticket true name e = or_right (is_published_by name) (is_taken_by ticket name) e
taken_followed ticket false name e = or_left (is_taken_by ticket name) (same_name name ids_name) e

module _ (c : Config) (ticket : ℕ) (accept : Bool) (old dir : Dir) (alike : AlikeForAnswer c ticket accept old dir) where
  pub keys_alike : dir key_name ≡ old key_name
  keys_alike = alike.same key_name (or_left (same_name key_name key_name) (is_followed_by ticket accept key_name) refl) (λ of. absurd (false≢true of))

  pub post_alike : IsTrue (is_drawn ticket) → dir (post_name ticket) ≡ old (post_name ticket)
  post_alike drawn = alike.same (post_name ticket) (own_read ticket accept (post_name ticket) (drawn, refl)) (λ of. absurd (false≢true of))

  -- a file that is read because of what is decided
  followed_alike : (name : Name) → is_followed_by ticket accept name ≡ true → (is_of_archive name ≡ true → IsNextOfTicket old c ticket name) → dir name ≡ old name
  followed_alike name e next = alike.same name (or_right (same_name name key_name) (is_followed_by ticket accept name) e) next

  take_alike : AlikeToTake ticket old dir
  take_alike = record {
    next = followed_alike tickets_name (taken_followed ticket accept tickets_name (taken_read ticket tickets_name (inr refl))) (λ of. absurd (false≢true of));
    waits = alike.waits;
  }

pub follow_alike : (c : Config) (ticket : ℕ) (accept : Bool) (old dir : Dir) (held : Held) → AlikeForAnswer c ticket accept old dir → IsHeldFile (old (post_name ticket)) held → AlikeToFollow c ticket held.message accept old dir
follow_alike c ticket true old dir held alike file = (
  take_alike c ticket true old dir alike,
  record {
    mailed = λ name e.
        followed_alike c ticket true old dir alike name (or_left (is_published_by name) (is_taken_by ticket name) (mailed_published name e)) (λ of. absurd (mailed_other name sets.List e of));
    placed = λ name next.
        followed_alike c ticket true old dir alike name (or_left (is_published_by name) (is_taken_by ticket name) (append_read name (next_append old (sent_key c held.message) name next))) (λ of. (held, file, next));
  },
)
follow_alike c ticket false old dir held alike file =
    (take_alike c ticket false old dir alike, followed_alike c ticket false old dir alike ids_name (or_right (is_taken_by ticket ids_name) (same_name ids_name ids_name) refl) (λ of. absurd (false≢true of)))

-- files that were kept
pub follow_kept : (c : Config) (ticket : ℕ) (m : Text) (accept : Bool) (old new dir : Dir) → new ≡ old → AlikeToFollow c ticket m accept old dir → AlikeToFollow c ticket m accept new dir
follow_kept c ticket m accept old new dir kept alike = subst (λ (d : Dir). AlikeToFollow c ticket m accept d dir) (sym kept) alike

-- the configuration is none of these files
answered_not : (ticket : ℕ) (accept : Bool) → is_answered_by ticket accept config_name ≡ false
answered_not ticket true = go (is_drawn ticket)
  where
    go : (drawn : Bool) → (same_name config_name key_name || (is_published_by config_name || ((drawn && same_name config_name (post_name ticket)) || same_name config_name tickets_name))) ≡ false
    go true = refl
    go false = refl
answered_not ticket false = go (is_drawn ticket)
  where
    go : (drawn : Bool) → (same_name config_name key_name || (((drawn && same_name config_name (post_name ticket)) || same_name config_name tickets_name) || same_name config_name ids_name)) ≡ false
    go true = refl
    go false = refl

pub answer_under : (c d : Config) (ticket : ℕ) (accept : Bool) (old dir : Dir) → AlikeForAnswer c ticket accept old dir → AlikeForAnswer c ticket accept (with_config d old) dir
answer_under c d ticket accept old dir alike = record {
  same = λ name e next. alike.same name e next ∙ sym (under_same d (is_answered_by ticket accept) old name (answered_not ticket accept) e);
  waits = alike.waits;
}

-- A post that waits, and the mail that asks about it.
use Rattle.std.proofs.Common.{◌≡◌, ℕ, Bool, true, false, ◌||◌, not, List, Option, refl, sym, ap, subst, arith}
use Rattle.std.proofs.lemmas.Bool.{and_from, or_left, or_right}
use Rattle.ml_base.specs.Bytes.{Text}
use Rattle.ml_base.specs.Dir.{Dir, with_puts, touches_only}
use Rattle.ml_base.specs.declared.names.Name.{Name}
use Rattle.ml_base.specs.declared.puts.Put.{Put}
use Rattle.ml_base.proofs.Laid.{left_alone}
use Rattle.ml_config.specs.declared.configuration.Config.{Config}
use Rattle.ml_base.specs.Drawn.{IsCounter}
use Rattle.ml_drawn.specs.Answers.{IsDrawing}
use Rattle.ml_drawn.proofs.OfFiles.{drawing}
use Rattle.ml_drawn.specs.Names.{is_of_series}
use Rattle.ml_drawn.specs.declared.series.Series.TheVariants.{Tickets}
use Rattle.ml_hold.specs.Answers.{tickets_name}
use Rattle.ml_hold.specs.Held.{Pending, IsHeld, IsPending, held_text, hold}
use Rattle.ml_plain.specs.declared.Reply.{Reply}
use Rattle.ml_plain.specs.Answers as answers
use Rattle.ml_plain.specs.Directory.{IsList, archive_kinds, held_kinds}
use Rattle.ml_plain.specs.Mailing.{mail_moderators, moderate_mail}
use Rattle.ml_plain.specs.Plain.{Plain}
use Rattle.ml_plain.specs.Posting.{held_now}
use Rattle.ml_plain.proofs.PartChanges.{held_changed}
use Rattle.ml_reply.specs.declared.mails.Mail.{Mail}
use Rattle.ml_config.specs.declared.key_file.Keys.{Keys}
use Rattle.ml_base.specs.declared.names.Set.TheVariants as sets
use Rattle.ml_hold.specs.declared.posts.Held.{Held}
use Rattle.ml_subs.specs.Subscribers.{is_of_set}
use Rattle.ml_acts.specs.Doing.{Alike, DoesList, HasIds, HasRoom, is_beside_mail, is_beside_mark, is_beside_queue, is_of_posting, is_of_queue, is_with_queue}
use Rattle.ml_acts.proofs.Queued.{held_own, posting_beside, touches_weaker, waits}
use Rattle.ml_post.specs.Publishing.{is_beside_held}
use Rattle.ml_post.proofs.Posts.{held_apart}

not_then : (b : Bool) → not b ≡ true → b ≡ false
not_then true e = absurd (let bad : false ≡ true = e in cc)
not_then false e = refl

-- these puts leave all other files
pub beside_held : (dir : Dir) (puts : List Put) → touches_only (λ name. held_kinds name.kind) puts ≡ true → Alike is_beside_held dir (with_puts dir puts)
beside_held dir puts only name e = left_alone (λ name. held_kinds name.kind) dir puts name only (not_then (held_kinds name.kind) e)

-- a post may write the held posts
pub held_posting : (name : Name) → held_kinds name.kind ≡ true → is_of_posting name ≡ true
held_posting name e = or_left (archive_kinds name.kind || held_kinds name.kind) (is_of_queue name) (or_right (archive_kinds name.kind) (held_kinds name.kind) e)

pub held_posted : (puts : List Put) → touches_only (λ name. held_kinds name.kind) puts ≡ true → touches_only is_of_posting puts ≡ true
held_posted puts e = touches_weaker (λ name. held_kinds name.kind) is_of_posting puts held_posting e

-- files that a mail to a set needs are none of the held posts
pub held_beside_mail : (puts : List Put) → touches_only (is_of_series Tickets) puts ≡ true → touches_only (is_beside_mail sets.Moderators) puts ≡ true
held_beside_mail puts e =
    touches_weaker (is_of_series Tickets) (is_beside_mail sets.Moderators) puts
    (λ name own. let held = waits name own in and_from (is_beside_mark name) (not (is_with_queue sets.Moderators name)) (posting_beside name (held_posting name held)) (ap not (held_apart sets.Moderators name held))) e

pub held_beside_queue : (puts : List Put) → touches_only (λ name. held_kinds name.kind) puts ≡ true → touches_only is_beside_queue puts ≡ true
held_beside_queue puts e =
    touches_weaker (λ name. held_kinds name.kind) is_beside_queue puts
    (λ name held. and_from (is_beside_mark name) (not (is_of_queue name)) (posting_beside name (held_posting name held)) (ap not (no_queue (is_of_queue name) (is_of_set sets.List name) (held_apart sets.List name held)))) e
  where
    no_queue : (a b : Bool) → (a || b) ≡ false → a ≡ false
    no_queue true b e = e
    no_queue false b e = refl

-- a post is held, and the moderators are asked
pub holds : (dir : Dir) (p : Plain) (c : Config) (now ticket : ℕ) (sender m : Text) (txn : List Put) (done : List Put × Reply) → IsList dir p → p.config ≡ c → touches_only (is_of_series Tickets) txn ≡ true
    → ((pending : Pending) → IsPending dir pending → (ticket ≡ pending.next) × IsPending (with_puts dir txn) (hold (record { moment = now; sender = sender; message = m }) pending))
    → ((q : Plain) → IsList (with_puts dir txn) q → q.config ≡ c → DoesList dir done (mail_moderators now (moderate_mail q ticket now m) q, answers.held ticket)) → DoesList dir done (held_now now sender m p)
holds dir p c now ticket sender m txn done is same only held does =
    let own = held_own txn only in
    let drawn = held p.held is.held in
    let post : Held = record { moment = now; sender = sender; message = m } in
    let after : Plain = record p { held = hold post p.held } in
    let stands = held_changed dir p txn (hold post p.held) is own drawn.1 in
    subst (λ (n : ℕ). DoesList dir done (mail_moderators now (moderate_mail after n now m) after, answers.held n)) drawn.0 (does after stands same)

-- the mail is the one that asks about it
pub asks : (dir : Dir) (p : Plain) (c : Config) (keys : Keys) (now ticket : ℕ) (m : Text) (mail : Mail) (txn : List Put) (done : List Put × Reply) → p.config ≡ c → p.keys ≡ keys
    → ((q : Plain) → q.config ≡ c → q.keys ≡ keys → mail ≡ moderate_mail q ticket now m) → DoesList dir done (mail_moderators now mail p, answers.held ticket)
    → DoesList dir done (mail_moderators now (moderate_mail p ticket now m) p, answers.held ticket)
asks dir p c keys now ticket m mail txn done same own asked does = subst (λ (t : Mail). DoesList dir done (mail_moderators now t p, answers.held ticket)) (asked p same own) does

-- there are ids left if an item can draw what it may
pub has_ids : (dir : Dir) → HasRoom dir → HasIds dir
has_ids dir room low next counted = let top = room.ids low next counted in omega (arith, top)

-- a post that is held under the next ticket, on every directory that has the same next ticket
pub waiting_apart : (old dir : Dir) (held : Held) (ticket : ℕ) (txn : List Put) → IsHeld held → dir tickets_name ≡ old tickets_name → IsDrawing old Tickets (held_text held) ticket txn
    → (pending : Pending) → IsPending dir pending → (ticket ≡ pending.next) × IsPending (with_puts dir txn) (hold held pending)
waiting_apart old dir held ticket txn is same drawn pending stands =
    drawing IsHeld held_text Tickets dir held ticket txn pending is
    (record { low = drawn.low; counted = subst (λ (f : Option Text). IsCounter f drawn.low ticket) (sym same) drawn.counted; drawn = drawn.drawn; are = drawn.are }) stands

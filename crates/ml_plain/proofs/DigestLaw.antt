-- The proof that every step makes the next digest or none.
use Rattle.std.proofs.Common.{◌≡◌, ℕ, ◌+◌, ◌-◌, ◌<◌, ◌≤◌, ◌⊎◌, inl, inr, Bool, true, false, cond, not, ◌==◌, ◌&&◌, List, [], ◌∷◌, ◌++◌, length, map, drop, filter, Option, Some, None, refl, sym, ap, ap₂, subst, ◌∙◌, codes, arith, if◌then◌else◌, is_some, nat_le, nat_lt}
use Rattle.std.proofs.lemmas.Bool.{and_parts, not-true, true≢false}
use Rattle.std.proofs.lemmas.List.{append_assoc, length-map, length-drop}
use Rattle.std.proofs.lemmas.List.Elements.{filter-append}
use Rattle.std.proofs.lemmas.Slice.Eq.{bytes_eq-Decides}
use Rattle.std.specs.List.{AllByRecursion, fold}
use Rattle.std.specs.Str.{bytes_eq}
use Rattle.ml_base.specs.Bytes.{Text, is_empty}
use Rattle.ml_base.specs.Address.{as_address, address_of}
use Rattle.ml_base.specs.Cuts.{within, one_or_within}
use Rattle.ml_base.specs.Drawn.{Drawn, thing_of}
use Rattle.ml_base.specs.declared.names.Set.{Set}
use Rattle.ml_base.specs.declared.names.Set.TheVariants as sets
use Rattle.ml_address.specs.Requests.{PlainRequest, Post, Owner, Subscribe, Unsubscribe, Members, Confirm, Get, Index, Thread, Accept, Reject, Bounce, WarnBounce, ProbeBounce, ReplyBounce}
use Rattle.ml_address.specs.Reading.{request_of}
use Rattle.ml_filing.specs.Subjects.{subject}
use Rattle.ml_filing.specs.declared.posts.Post.{Post as Archived}
use Rattle.ml_bounce.specs.Ledger.{Ledger}
use Rattle.ml_bounce.specs.declared.entries.Stage.{Stage}
use Rattle.ml_bounce.specs.declared.entries.Stage.TheVariants.{Unwarned, Warned, WarnFailed, Probed}
use Rattle.ml_bounce.specs.declared.entries.LedgerEntry.{LedgerEntry}
use Rattle.ml_config.specs.declared.configuration.Config.{Config}
use Rattle.ml_digest.specs.Due.{due, is_due}
use Rattle.ml_digest.specs.Digest.{digest_text}
use Rattle.ml_digest.specs.declared.posts.Range.{Range}
use Rattle.ml_hold.specs.Held.{hold, without_ticket}
use Rattle.ml_hold.specs.declared.posts.Held.{Held}
use Rattle.ml_queue.specs.Queue.{without_id}
use Rattle.ml_queue.specs.declared.entries.Out.{Out}
use Rattle.ml_reply.specs.Dates.{date_text}
use Rattle.ml_reply.specs.declared.mails.Mail.TheVariants as mails
use Rattle.ml_subs.specs.declared.member_list.Member.{Member}
use Rattle.ml_plain.specs.declared.Item.{Item}
use Rattle.ml_plain.specs.declared.Act.{Act}
use Rattle.ml_plain.specs.declared.Act.TheVariants.{Deliver, Timed, Add, Remove, Sent, Rekey, Floor}
use Rattle.ml_plain.specs.declared.Reply.{Reply}
use Rattle.ml_plain.specs.Answers as answers
use Rattle.ml_plain.specs.Bouncing as bouncing
use Rattle.ml_plain.specs.Laws.{after, made, made_for, digest_of, MakesDigest, MakesNoDigest, MakesDigests}
use Rattle.ml_plain.specs.Histories.{fold_plain}
use Rattle.ml_plain.specs.Mailing.{reply_path, post_path, digest_path, moderate_mail}
use Rattle.ml_plain.specs.Managing as managing
use Rattle.ml_plain.specs.Plain.{Plain, Sets, new_list, added, removed, is_in, is_full, is_worn, is_archive_full, addresses}
use Rattle.ml_plain.specs.Posting as posting
use Rattle.ml_plain.specs.Steps as steps
use Rattle.ml_plain.specs.Timing as timing
use Rattle.ml_plain.specs.Verdicts.{Verdict, TooBig, BounceSender, Looped, Denied, NoSubject, CommandSubject, NotAddressed, UsersOnly, Held as HeldBack, Full, Posted, verdict}
use Rattle.ml_plain.proofs.Mailed.{Below, drawn_from, drawn-append, made_of, none_from}
use Rattle.ml_plain.proofs.PostLaw.{below_after, all-filter}
use Rattle.ml_plain.proofs.Silent.{IsOfNoDigest, Silent, silent_same, silent_then, silent_send, silent_ledger, silent_removed, silent_to, silent_moderators, silent_bounce, reply_silent, post_silent, none_for}
use Rattle.ml_plain.proofs.Steps.{first_row_all}
use Rattle.ml_plain.proofs.LeavingLaw.{fold_same, if_wanted}
use Rattle.ml_plain.proofs.Deliveries.{if_worn}
use Rattle.ml_plain.proofs.Lasting.{if_there}

-- deliveries

posted_silent : (p : Plain) (now : ℕ) (sender m : Text) → Silent p (posting.posted_now now sender m p).0
posted_silent p now sender m =
    let text = posting.sent_text p.config m in
    let q : Plain = record p { posts = p.posts ++ record { sender = sender; moment = now; subject = subject text; bytes = text } ∷ [] } in
    silent_then p q _ (silent_same p q refl refl refl)
    (silent_send q (post_path p.config (length p.posts + 1)) text (addresses p sets.List) (post_silent p.config (length p.posts + 1) text (addresses p sets.List)))

held_silent : (p : Plain) (now : ℕ) (sender m : Text) → Silent p (posting.held_now now sender m p).0
held_silent p now sender m =
    let held : Plain = record p { held = hold (record { moment = now; sender = sender; message = m }) p.held } in
    silent_then p held _ (silent_same p held refl refl refl) (silent_moderators held now (moderate_mail p p.held.next now m))

verdict_silent : (now : ℕ) (sender m : Text) (p : Plain) (v : Verdict) → Silent p (posting.by_verdict now sender m p v).0
verdict_silent now sender m p TooBig = silent_same p p refl refl refl
verdict_silent now sender m p BounceSender = silent_same p p refl refl refl
verdict_silent now sender m p Looped = silent_same p p refl refl refl
verdict_silent now sender m p Denied = silent_same p p refl refl refl
verdict_silent now sender m p NoSubject = silent_same p p refl refl refl
verdict_silent now sender m p CommandSubject = silent_same p p refl refl refl
verdict_silent now sender m p NotAddressed = silent_same p p refl refl refl
verdict_silent now sender m p UsersOnly = silent_same p p refl refl refl
verdict_silent now sender m p HeldBack = held_silent p now (as_address sender) m
verdict_silent now sender m p Full = silent_same p p refl refl refl
verdict_silent now sender m p Posted = posted_silent p now (as_address sender) m

abbrev freed : ℕ → Plain → Plain
freed ticket p = record p { held = without_ticket ticket p.held }

accepted_silent : (now ticket : ℕ) (h : Held) (p : Plain) (isfull : Bool) → Silent p (managing.accepted now ticket h p isfull).0
accepted_silent now ticket h p true = silent_same p p refl refl refl
accepted_silent now ticket h p false = silent_then p (freed ticket p) _ (silent_same p (freed ticket p) refl refl refl) (posted_silent (freed ticket p) now h.sender h.message)

answered_silent : (now ticket : ℕ) (h : Held) (p : Plain) (accepts : Bool) → Silent p (managing.answered now ticket h p accepts).0
answered_silent now ticket h p true = accepted_silent now ticket h p (is_archive_full p)
answered_silent now ticket h p false = silent_then p (freed ticket p) _ (silent_same p (freed ticket p) refl refl refl) (silent_to (freed ticket p) h.sender now (mails.Rejected h.sender h.message))

signed_silent : (now ticket : ℕ) (h : Held) (p : Plain) (accepts good : Bool) → Silent p (managing.if_signed now ticket h p accepts good).0
signed_silent now ticket h p accepts true = answered_silent now ticket h p accepts
signed_silent now ticket h p accepts false = silent_same p p refl refl refl

answer_silent : (now ticket : ℕ) (letters : Text) (p : Plain) (accepts : Bool) (o : Option Held) → Silent p (managing.answer_held now ticket letters p accepts o).0
answer_silent now ticket letters p accepts None = silent_same p p refl refl refl
answer_silent now ticket letters p accepts (Some h) = signed_silent now ticket h p accepts _

list_silent : (now : ℕ) (sender : Text) (set : Set) (p : Plain) (may : Bool) → Silent p (managing.list_members now sender set p may).0
list_silent now sender set p true = silent_to p sender now _
list_silent now sender set p false = silent_same p p refl refl refl

archive_silent : (now : ℕ) (sender : Text) (p : Plain) (may : Bool) (text : Text) → Silent p (managing.from_archive now sender p may text).0
archive_silent now sender p true text = silent_to p sender now _
archive_silent now sender p false text = silent_same p p refl refl refl

joined_silent : (now : ℕ) (set : Set) (x : Text) (isfull : Bool) (p : Plain) → Silent p (managing.joined now set x isfull p).0
joined_silent now set x true p = silent_same p p refl refl refl
joined_silent now set x false p = silent_then p (added set x now p) _ (silent_same p _ refl refl refl) (silent_to (added set x now p) x now (mails.Welcome x set x))

done_silent : (now : ℕ) (set : Set) (sender x : Text) (p : Plain) (operation : managing.Operation) → Silent p (managing.done now set sender x p operation).0
done_silent now set sender x p (managing.Only reply) = silent_same p p refl refl refl
done_silent now set sender x p managing.TellAlready = silent_to p sender now (mails.Already sender set x)
done_silent now set sender x p managing.TellAbsent = silent_to p sender now (mails.Absent sender set x)
done_silent now set sender x p (managing.AskSender word) = silent_to p sender now _
done_silent now set sender x p (managing.AskSubject word) = silent_to p x now _
done_silent now set sender x p managing.AskModerators = silent_moderators p now _
done_silent now set sender x p managing.Join = joined_silent now set x (is_full p set) p
done_silent now set sender x p managing.Leave = silent_then p (removed set x p) _ (silent_removed p set x) (silent_to (removed set x p) x now (mails.Goodbye x set x))

managed_silent : (now : ℕ) (sender : Text) (p : Plain) (r : PlainRequest) → Silent p (managing.managed now sender p r).0
managed_silent now sender p (Accept ticket letters) = answer_silent now ticket letters p true _
managed_silent now sender p (Reject ticket letters) = answer_silent now ticket letters p false _
managed_silent now sender p (Subscribe set who) = done_silent now set sender _ p _
managed_silent now sender p (Unsubscribe set who) = done_silent now set sender _ p _
managed_silent now sender p (Confirm word set s) = done_silent now set sender _ p _
managed_silent now sender p (Members set) = list_silent now sender set p _
managed_silent now sender p (Get from to) = archive_silent now sender p _ _
managed_silent now sender p (Index at) = archive_silent now sender p _ _
managed_silent now sender p (Thread at) = archive_silent now sender p _ _
managed_silent now sender p _ = silent_to p sender now (mails.Help sender)

looped_silent : (now : ℕ) (sender : Text) (p : Plain) (r : PlainRequest) (isloop : Bool) → Silent p (managing.unless_looped now sender p r isloop).0
looped_silent now sender p r true = silent_same p p refl refl refl
looped_silent now sender p r false = managed_silent now sender p r

sender_silent : (now : ℕ) (m : Text) (p : Plain) (r : PlainRequest) (o : Option Text) → Silent p (managing.by_sender now m p r o).0
sender_silent now m p r None = silent_same p p refl refl refl
sender_silent now m p r (Some s) = looped_silent now s p r _

changed_silent : (p : Plain) (set : Set) (o : Option Ledger) → Silent p (bouncing.if_changed p set o).0
changed_silent p set None = silent_same p p refl refl refl
changed_silent p set (Some ledger) = silent_ledger p set ledger

probed_silent : (p : Plain) (set : Set) (x : Text) (o : Option Ledger) → Silent p (bouncing.if_probed p set x o).0
probed_silent p set x None = silent_same p p refl refl refl
probed_silent p set x (Some ledger) = silent_removed p set x

request_silent : (now : ℕ) (sender m : Text) (p : Plain) (r : PlainRequest) → Silent p (managing.by_request now sender m p r).0
request_silent now sender m p (Bounce set number who) = changed_silent p set _
request_silent now sender m p (WarnBounce set s) = changed_silent p set _
request_silent now sender m p (ProbeBounce set s) = probed_silent p set _ _
request_silent now sender m p (ReplyBounce set) = silent_same p p refl refl refl
request_silent now sender m p Owner = silent_send p (reply_path p.config) m (p.config.owner ∷ []) (reply_silent p.config false m (p.config.owner ∷ []))
request_silent now sender m p Post = verdict_silent now sender m p (verdict p sender m)
request_silent now sender m p r = sender_silent now m p r (address_of sender)

recipient_silent : (now : ℕ) (sender m : Text) (p : Plain) (o : Option PlainRequest) → Silent p (managing.by_recipient now sender m p o).0
recipient_silent now sender m p None = silent_same p p refl refl refl
recipient_silent now sender m p (Some r) = request_silent now sender m p r

worn_silent : (p : Plain) (r : Plain × Reply) (worn : Bool) → Silent p r.0 → Silent p (if_worn p r worn).0
worn_silent p r true h = silent_same p p refl refl refl
worn_silent p r false h = h

deliver_silent : (now : ℕ) (sender recipient m : Text) (p : Plain) → Silent p (managing.deliver now sender recipient m p).0
deliver_silent now sender recipient m p =
    worn_silent p (managing.by_recipient now sender m p (request_of p.config.local p.config.host recipient)) (is_worn p) (recipient_silent now sender m p (request_of p.config.local p.config.host recipient))

if_silent : (p : Plain) (a b : Plain × Reply) (t : Bool) → Silent p a.0 → Silent p b.0 → Silent p (if t then a else b).0
if_silent p a b true h k = h
if_silent p a b false h k = k

-- what holds of every step

abbrev Makes : Plain → Plain → ℕ → Type 0
Makes p q now = MakesDigest p q now ⊎ MakesNoDigest p q

of_silent : (p q : Plain) (now : ℕ) → Below p → Silent p q → Makes p q now
of_silent p q now below s = inr (record {
  same = s.mark;
  entries = λ i. ap (filter (λ e. bytes_eq e.thing.path.base (digest_path p.config i).base)) (made_of p q s.outs below s.all) ∙ none_for p.config i p.queue.next s.outs s.bases;
})

sent_makes : (id : ℕ) (p : Plain) (there : Bool) (now : ℕ) → Below p → Makes p (if_there id p there).0 now
sent_makes id p true now below =
    let less = all-filter (λ e. e.number < p.queue.next) (λ e. not (e.number == id)) p.queue.all below in
    inr (record { same = refl; entries = λ i. ap (filter (λ e. bytes_eq e.thing.path.base (digest_path p.config i).base)) (none_from p.queue.next (without_id id p.queue).all less) })
sent_makes id p false now below = of_silent p p now below (silent_same p p refl refl refl)

-- timed runs

back_silent : (now : ℕ) (xs : List (Drawn Held)) (p : Plain) → Silent p (fold (timing.give_back now) p xs)
back_silent now [] p = silent_same p p refl refl refl
back_silent now (x ∷ xs) p =
    silent_then p (timing.give_back now p x) _
    (silent_then p (freed x.number p) _ (silent_same p (freed x.number p) refl refl refl) (silent_to (freed x.number p) x.thing.sender now (mails.Expired x.thing.sender x.thing.message)))
    (back_silent now xs (timing.give_back now p x))

warn_silent : (now : ℕ) (set : Set) (e : LedgerEntry) (p : Plain) (o : Option Member) → Silent p (timing.warn_member now set e p o)
warn_silent now set e p None = silent_ledger p set _
warn_silent now set e p (Some m) = silent_then p _ _ (silent_bounce p set 119 (codes "arn") m.who now (mails.Warn m.who set m.who e.missed) (omega arith)) (silent_ledger _ set _)

probe_silent : (now : ℕ) (set : Set) (e : LedgerEntry) (p : Plain) (o : Option Member) → Silent p (timing.probe_member now set e p o)
probe_silent now set e p None = silent_ledger p set _
probe_silent now set e p (Some m) = silent_then p _ _ (silent_bounce p set 112 (codes "robe") m.who now (mails.Probe m.who set m.who) (omega arith)) (silent_ledger _ set _)

follow_silent : (now : ℕ) (set : Set) (e : LedgerEntry) (p : Plain) (stage : Stage) → Silent p (timing.follow_at now set e p stage)
follow_silent now set e p Unwarned = warn_silent now set e p _
follow_silent now set e p (Warned t) = silent_ledger p set _
follow_silent now set e p (WarnFailed t) = probe_silent now set e p _
follow_silent now set e p (Probed t) = silent_ledger p set _

all_silent : (now : ℕ) (xs : List (Set × LedgerEntry)) (p : Plain) → Silent p (fold (timing.follow_up now) p xs)
all_silent now [] p = silent_same p p refl refl refl
all_silent now (x ∷ xs) p = silent_then p (timing.follow_up now p x) _ (follow_silent now x.0 x.1 p x.1.stage) (all_silent now xs (timing.follow_up now p x))

posts_same : (now : ℕ) (xs : List (Drawn Held)) (p : Plain) → (fold (timing.give_back now) p xs).posts ≡ p.posts
posts_same now [] p = refl
posts_same now (x ∷ xs) p = posts_same now xs (timing.give_back now p x)

-- the range of a digest that is due

within_few : (size : ℕ → ℕ) (count room : ℕ) (xs : List ℕ) → length (within size count room xs) ≤ length xs
within_few size count room [] = omega arith
within_few size count room (x ∷ xs) = go (nat_lt 0 count && nat_le (size x) room) (within_few size (count - 1) (room - size x) xs)
  where
    go : (t : Bool) → length (within size (count - 1) (room - size x) xs) ≤ length xs → length (if t then x ∷ within size (count - 1) (room - size x) xs else []) ≤ length (x ∷ xs)
    go true h = omega (arith, h)
    go false h = omega arith

one_some : (size : ℕ → ℕ) (count room : ℕ) (xs : List ℕ) → is_empty xs ≡ false → (1 ≤ length (one_or_within size count room xs)) × (length (one_or_within size count room xs) ≤ length xs)
one_some size count room [] e = absurd (true≢false e)
one_some size count room (x ∷ xs) e = go (nat_le (size x) room)
  where
    go : (t : Bool) → (1 ≤ length (if t then x ∷ within size (count - 1) (room - size x) xs else x ∷ [])) × (length (if t then x ∷ within size (count - 1) (room - size x) xs else x ∷ []) ≤ length (x ∷ xs))
    go true = let few = within_few size (count - 1) (room - size x) xs in (omega arith, omega (arith, few))
    go false = (omega arith, omega arith)

record IsNext (last : ℕ) (posts : List Archived) (r : Range) : Type 0 where
  from : r.first ≡ last + 1
  some : r.first ≤ r.last
  there : r.last ≤ length posts

abbrev sizes_of : ℕ → List Archived → List ℕ
sizes_of last posts = map (λ post. length post.bytes) (drop last posts)

is_next : (last oldest now : ℕ) (posts : List Archived) (r : Range) → due last (sizes_of last posts) oldest now ≡ Some r → IsNext last posts r
is_next last oldest now posts r e = go (is_due (sizes_of last posts) oldest now) refl
  where
    taken : ℕ
    taken = length (one_or_within (λ size. size) 100 4_194_304 (sizes_of last posts))

    go : (t : Bool) → is_due (sizes_of last posts) oldest now ≡ t → IsNext last posts r
    go false t = absurd (let bad : None ≡ Some r = sym (ap (λ t. if t then Some (record { first = last + 1; last = last + length (one_or_within (λ size. size) 100 4_194_304 (sizes_of last posts)) }) else None) t) ∙ e in cc)
    go true t =
        let range : Range = record { first = last + 1; last = last + length (one_or_within (λ size. size) 100 4_194_304 (sizes_of last posts)) } in
        let one : Some range ≡ Some r = sym (ap (λ t. if t then Some range else None) t) ∙ e in
        let is : range ≡ r = cc in
        let some = (and_parts (not (is_empty (sizes_of last posts))) _ t).0 in
        let bounds = one_some (λ size. size) 100 4_194_304 (sizes_of last posts) (not-true (is_empty (sizes_of last posts)) some) in
        let size : length (sizes_of last posts) ≡ length posts - last = length-map (drop last posts) (λ post. length post.bytes) ∙ length-drop last posts in
        subst (IsNext last posts) is (record { from = refl; some = omega (arith, bounds.0); there = omega (arith, bounds.0, bounds.1, size) })

-- the digest that a list would make is that of another list with these parts
abbrev digest_by : Config → List Archived → Sets → ℕ → Range → ℕ → Out
digest_by c posts all issue r now = record {
  path = digest_path c issue;
  body = digest_text c issue r.first (map timing.digest_post (timing.posts_in r posts)) (date_text now);
  to = map (λ m. m.who) (all sets.Digest);
}

digest_same : (p q : Plain) (issue : ℕ) (r : Range) (now : ℕ) → q.config ≡ p.config → q.posts ≡ p.posts → q.sets ≡ p.sets → digest_of q issue r now ≡ digest_of p issue r now
digest_same p q issue r now c posts all =
    ap (λ c. digest_by c q.posts q.sets issue r now) c ∙ ap₂ (λ ps ss. digest_by p.config ps ss issue r now) posts all

-- the one digest among entries
chosen_one : (c : Config) (i n : ℕ) (xs ys : List Out) (out : Out) → AllByRecursion (IsOfNoDigest c) xs → AllByRecursion (IsOfNoDigest c) ys
    → filter (λ e. bytes_eq e.thing.path.base (digest_path c i).base) (drawn_from n (xs ++ out ∷ ys))
    ≡ cond (bytes_eq out.path.base (digest_path c i).base) (record { number = n + length xs; thing = out } ∷ []) []
chosen_one c i n xs ys out before after =
    let test : Drawn Out → Bool = λ e. bytes_eq e.thing.path.base (digest_path c i).base in
    ap (filter test) (drawn-append n xs (out ∷ ys)) ∙ filter-append test (drawn_from n xs) (drawn_from (n + length xs) (out ∷ ys))
    ∙ ap (λ t. t ++ filter test (drawn_from (n + length xs) (out ∷ ys))) (none_for c i n xs before)
    ∙ ap (λ t. cond (bytes_eq out.path.base (digest_path c i).base) (record { number = n + length xs; thing = out } ∷ t) t) (none_for c i (n + length xs + 1) ys after)

not_equal : (a b : Text) → (a ≡ b → ⊥) → bytes_eq a b ≡ false
not_equal a b apart = go (bytes_eq a b) refl
  where
    go : (t : Bool) → bytes_eq a b ≡ t → bytes_eq a b ≡ false
    go true t = absurd (apart ((bytes_eq-Decides a b).0 t))
    go false t = t

-- a digest is made between silent steps
issued_makes : (p back q : Plain) (now : ℕ) (r : Range) → Below p → Silent p back → back.posts ≡ p.posts → back.sets ≡ p.sets
    → timing.digest_due now back ≡ Some r → Silent (timing.issue now back (Some r)) q → Makes p q now
issued_makes p back q now r below before posts all is after =
    let issue = timing.issue now back (Some r) in
    let number = back.mark.issue + 1 in
    let out = digest_of back number r now in
    let same_mark : back.mark.issue ≡ p.mark.issue = ap (λ m. m.issue) before.mark in
    let next : IsNext p.mark.last p.posts r = subst (λ ps. IsNext p.mark.last ps r) posts (subst (λ m. IsNext m back.posts r) (ap (λ m. m.last) before.mark)
    (is_next back.mark.last (timing.moment_of_first (timing.undigested back)) now back.posts r is)) in
    let ys : AllByRecursion (IsOfNoDigest p.config) after.outs = subst (λ c. AllByRecursion (IsOfNoDigest c) after.outs) before.config after.bases in
    let all_of : q.queue.all ≡ p.queue.all ++ drawn_from p.queue.next (before.outs ++ out ∷ after.outs) =
    after.all
    ∙ append_assoc back.queue.all (record { number = back.queue.next; thing = out } ∷ []) (drawn_from (back.queue.next + 1) after.outs)
    ∙ ap (λ t. t ++ drawn_from back.queue.next (out ∷ after.outs)) before.all
    ∙ ap (λ n. (p.queue.all ++ drawn_from p.queue.next before.outs) ++ drawn_from n (out ∷ after.outs)) before.next
    ∙ append_assoc p.queue.all (drawn_from p.queue.next before.outs) (drawn_from (p.queue.next + length before.outs) (out ∷ after.outs))
    ∙ ap (λ t. p.queue.all ++ t) (sym (drawn-append p.queue.next before.outs (out ∷ after.outs))) in
    let made_is : made p q ≡ drawn_from p.queue.next (before.outs ++ out ∷ after.outs) = made_of p q (before.outs ++ out ∷ after.outs) below all_of in
    let chosen : (i : ℕ) → made_for i p q ≡ cond (bytes_eq out.path.base (digest_path p.config i).base) (record { number = p.queue.next + length before.outs; thing = out } ∷ []) [] =
    λ i. ap (filter (λ e. bytes_eq e.thing.path.base (digest_path p.config i).base)) made_is
    ∙ chosen_one p.config i p.queue.next before.outs after.outs out before.bases ys in
    let own : out ≡ digest_of p (p.mark.issue + 1) r now = digest_same p back number r now before.config posts all ∙ ap (λ n. digest_of p (n + 1) r now) same_mark in
    let base : out.path.base ≡ (digest_path p.config (p.mark.issue + 1)).base = ap (λ o. o.path.base) own in
    inl (record {
      range = r;
      from = next.from;
      some = next.some;
      there = next.there;
      moved = after.mark ∙ ap (λ n. record { last = r.last; issue = n + 1 }) same_mark;
      id = p.queue.next + length before.outs;
      entry = chosen (p.mark.issue + 1)
          ∙ ap (λ t. cond t (record { number = p.queue.next + length before.outs; thing = out } ∷ []) []) ((bytes_eq-Decides out.path.base (digest_path p.config (p.mark.issue + 1)).base).1 base)
          ∙ ap (λ o. record { number = p.queue.next + length before.outs; thing = o } ∷ []) own;
      others = λ i apart. chosen i ∙ ap (λ t. cond t (record { number = p.queue.next + length before.outs; thing = out } ∷ []) [])
          (not_equal out.path.base (digest_path p.config i).base (λ e. apart (sym e ∙ base)));
    })

run_makes : (p : Plain) (now : ℕ) → Below p → Makes p (timing.after_timed now p) now
run_makes p now below = go (timing.give_old_back now p).config.flags.d (timing.digest_due now (timing.give_old_back now p)) refl
  where
    before : Silent p (timing.give_old_back now p)
    before = back_silent now (timing.old_held now p) p

    go : (wanted : Bool) (o : Option Range) → timing.digest_due now (timing.give_old_back now p) ≡ o → Makes p (timing.follow_all_up now (if_wanted now (timing.give_old_back now p) wanted o)) now
    go false o e = of_silent p _ now below (silent_then p (timing.give_old_back now p) _ before (all_silent now (timing.all_due now (timing.give_old_back now p)) (timing.give_old_back now p)))
    go true None e = of_silent p _ now below (silent_then p (timing.give_old_back now p) _ before (all_silent now (timing.all_due now (timing.give_old_back now p)) (timing.give_old_back now p)))
    go true (Some r) e =
        let issue = timing.issue now (timing.give_old_back now p) (Some r) in
        issued_makes p (timing.give_old_back now p) (timing.follow_all_up now issue) now r below before (posts_same now (timing.old_held now p) p)
        (fold_same (timing.give_back now) (λ q e. refl) (timing.old_held now p) p) e (all_silent now (timing.all_due now issue) issue)

worn_makes : (p : Plain) (r : Plain × Reply) (worn : Bool) (now : ℕ) → Below p → Makes p r.0 now → Makes p (if_worn p r worn).0 now
worn_makes p r true now below h = of_silent p p now below (silent_same p p refl refl refl)
worn_makes p r false now below h = h

act_makes : (p : Plain) (now : ℕ) (a : Act) → Below p → Makes p (steps.act_step p now a).0 now
act_makes p now (Deliver sender recipient m) below = of_silent p _ now below (deliver_silent now sender recipient m p)
act_makes p now Timed below = worn_makes p (timing.after_timed now p, _) (is_worn p) now below (run_makes p now below)
act_makes p now (Add set who) below = of_silent p _ now below
    (first_row_all (λ qr. Silent p qr.0) (steps.add_cases p set who) (added set who now p, answers.subscribed)
    (silent_same p p refl refl refl, (silent_same p p refl refl refl, tt)) (silent_same p _ refl refl refl))
act_makes p now (Remove set who) below =
    of_silent p _ now below (if_silent p (removed set who p, answers.unsubscribed) (p, answers.absent) (is_in p set who) (silent_removed p set who) (silent_same p p refl refl refl))
act_makes p now (Sent id) below = sent_makes id p (is_some (thing_of id p.queue)) now below
act_makes p now (Rekey k) below =
    of_silent p _ now below (if_silent p _ _ (steps.is_recent now p.keys.former) (silent_same p p refl refl refl) (silent_same p _ refl refl refl))
act_makes p now (Floor at) below = of_silent p p now below (silent_same p p refl refl refl)

pub makes_digests : MakesDigests
unfolding steps.step0
makes_digests c k h item = act_makes (after c k h) item.moment item.act (below_after h (new_list c k) tt)

-- no item changes the configuration

issue_config : (now : ℕ) (p : Plain) (wanted : Bool) (o : Option Range) → (if_wanted now p wanted o).config ≡ p.config
issue_config now p true None = refl
issue_config now p true (Some r) = refl
issue_config now p false o = refl

run_config : (now : ℕ) (p : Plain) (worn : Bool) → (if_worn p (timing.after_timed now p, answers.timed ((timing.after_timed now p).queue.next - p.queue.next)) worn).0.config ≡ p.config
run_config now p true = refl
run_config now p false =
    let back = timing.give_old_back now p in
    let issue = timing.make_digest now back in
    (all_silent now (timing.all_due now issue) issue).config ∙ issue_config now back back.config.flags.d (timing.digest_due now back) ∙ (back_silent now (timing.old_held now p) p).config

sent_config : (id : ℕ) (p : Plain) (there : Bool) → (if_there id p there).0.config ≡ p.config
sent_config id p true = refl
sent_config id p false = refl

act_config : (p : Plain) (now : ℕ) (a : Act) → (steps.act_step p now a).0.config ≡ p.config
act_config p now (Deliver sender recipient m) = (deliver_silent now sender recipient m p).config
act_config p now Timed = run_config now p (is_worn p)
act_config p now (Add set who) = first_row_all (λ qr. qr.0.config ≡ p.config) (steps.add_cases p set who) (added set who now p, answers.subscribed) (refl, (refl, tt)) refl
act_config p now (Remove set who) =
    (if_silent p (removed set who p, answers.unsubscribed) (p, answers.absent) (is_in p set who) (silent_removed p set who) (silent_same p p refl refl refl)).config
act_config p now (Sent id) = sent_config id p (is_some (thing_of id p.queue))
act_config p now (Rekey k) = (if_silent p _ _ (steps.is_recent now p.keys.former) (silent_same p p refl refl refl) (silent_same p _ refl refl refl)).config
act_config p now (Floor at) = refl

step_config : (p : Plain) (item : Item) → (steps.step0 p item).0.config ≡ p.config
unfolding steps.step0
step_config p item = act_config p item.moment item.act

pub fold_config : (p : Plain) (h : List Item) → (fold_plain p h).config ≡ p.config
fold_config p [] = refl
fold_config p (item ∷ items) = fold_config (steps.step0 p item).0 items ∙ step_config p item

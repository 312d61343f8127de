-- The proof that every step leaves what was there before it.
use Rattle.std.proofs.Common.{◌≡◌, ◌≢◌, ℕ, ◌+◌, ◌-◌, ◌≤◌, ◌==◌, ◌||◌, inl, inr, Bool, true, false, not, cond, if◌then◌else◌, List, [], ◌∷◌, ◌++◌, filter, Option, Some, None, refl, sym, ap, subst, ◌∙◌, codes, arith}
use Rattle.std.proofs.lemmas.Bool.{eqb-true, eqb-false, false≢true}
use Rattle.std.proofs.lemmas.List.{append-nil, append_assoc}
use Rattle.std.specs.Fmt.{decimal}
use Rattle.std.specs.List.{AllByRecursion, fold, list_any}
use Rattle.ml_base.specs.Bytes.{Text}
use Rattle.ml_base.specs.Address.{address_of}
use Rattle.ml_base.specs.Drawn.{Drawn, Drawing, with_next}
use Rattle.ml_base.specs.declared.names.Set.{Set}
use Rattle.ml_base.specs.declared.names.Set.TheVariants as sets
use Rattle.ml_address.specs.Reading.{request_of}
use Rattle.ml_address.specs.Requests.{PlainRequest, Post, Owner, Subscribe, Unsubscribe, Members, Confirm, Get, Index, Thread, Accept, Reject, Bounce, WarnBounce, ProbeBounce, ReplyBounce}
use Rattle.ml_filing.specs.declared.posts.Post.{Post as Archived}
use Rattle.ml_bounce.specs.Ledger.{Ledger}
use Rattle.ml_bounce.specs.declared.entries.LedgerEntry.{LedgerEntry}
use Rattle.ml_bounce.specs.declared.entries.Stage.{Stage}
use Rattle.ml_bounce.specs.declared.entries.Stage.TheVariants.{Unwarned, Warned, WarnFailed, Probed}
use Rattle.ml_digest.specs.declared.posts.Range.{Range}
use Rattle.ml_hold.specs.Held.{held_post, without_ticket}
use Rattle.ml_hold.specs.declared.posts.Held.{Held}
use Rattle.ml_queue.specs.Queue.{put, without_id}
use Rattle.ml_queue.specs.declared.entries.Out.{Out}
use Rattle.ml_subs.specs.declared.member_list.Member.{Member}
use Rattle.ml_plain.specs.Answers as answers
use Rattle.ml_plain.specs.Bouncing as bouncing
use Rattle.ml_plain.specs.Lasting.{AreLeft, IsAnswered, Lasts, LawLasting, StepLeaves, TakesEntry, TakesHeld}
use Rattle.ml_plain.specs.Mailing.{is_cookie}
use Rattle.ml_plain.specs.Managing as managing
use Rattle.ml_plain.specs.Plain.{Plain, added, is_archive_full, is_full, is_in, is_worn, removed, with_ledger_of}
use Rattle.ml_plain.specs.Posting as posting
use Rattle.ml_plain.specs.Steps as steps
use Rattle.ml_plain.specs.Timing as timing
use Rattle.ml_plain.specs.Verdicts.{Verdict, TooBig, BounceSender, Looped, Denied, NoSubject, CommandSubject, NotAddressed, UsersOnly, Held as HeldBack, Full, Posted, verdict}
use Rattle.ml_plain.specs.declared.Act.{Act}
use Rattle.ml_plain.specs.declared.Act.TheVariants.{Deliver, Timed, Add, Remove, Sent, Rekey, Floor}
use Rattle.ml_plain.specs.declared.Item.{Item}
use Rattle.ml_plain.specs.declared.Reply.{Reply}
use Rattle.ml_plain.proofs.Deliveries.{if_worn}
use Rattle.ml_plain.proofs.Mailed.{all-append, weaker}
use Rattle.ml_plain.proofs.Steps.{first_row_all}

-- rows of which some are left

left_all : {E : Type 0} (P : E → Type 0) (xs : List E) → AreLeft P xs xs
left_all P [] = refl
left_all P (x ∷ xs) = inl (xs, refl, left_all P xs)

left_without : {E : Type 0} (P : E → Type 0) (test : E → Bool) → ((e : E) → test e ≡ true → P e) → (xs : List E) → AreLeft P xs (filter (λ e. not (test e)) xs)
left_without P test out [] = refl
left_without P test out (x ∷ xs) = go (test x) refl (left_without P test out xs)
  where
    go : (t : Bool) → test x ≡ t → AreLeft P xs (filter (λ e. not (test e)) xs) → AreLeft P (x ∷ xs) (cond (not t) (x ∷ filter (λ e. not (test e)) xs) (filter (λ e. not (test e)) xs))
    go true is more = inr (out x is, more)
    go false is more = inl (filter (λ e. not (test e)) xs, refl, more)

left_again : {E : Type 0} (P : E → Type 0) (xs ys zs : List E) → AreLeft P xs ys → AreLeft P ys zs → AreLeft P xs zs
left_again {E} P [] ys zs one two = subst (λ l. AreLeft P l zs) one two
left_again {E} P (x ∷ xs) ys zs (inl stays) two = go (subst (λ l. AreLeft P l zs) stays.1 two) (λ left more. left_again P xs stays.0 left stays.2 more)
  where
    go : AreLeft P (x ∷ stays.0) zs → ((left : List E) → AreLeft P stays.0 left → AreLeft P xs left) → AreLeft P (x ∷ xs) zs
    go (inl again) rest = inl (again.0, again.1, rest again.0 again.2)
    go (inr gone) rest = inr (gone.0, rest zs gone.1)
left_again {E} P (x ∷ xs) ys zs (inr gone) two = inr (gone.0, left_again P xs ys zs gone.1 two)

-- things that are drawn after others

record Grows {E : Type 0} (old new : Drawing E) : Type 0 where
  more : List (Drawn E)
  all : new.all ≡ old.all ++ more
  fresh : AllByRecursion (λ e. old.next ≤ e.number) more
  next : old.next ≤ new.next

grows_same : {E : Type 0} (d : Drawing E) → Grows d d
grows_same d = record { more = []; all = sym (append-nil d.all); fresh = tt; next = omega arith }

grows_put : {E : Type 0} (x : E) (d : Drawing E) → Grows d (with_next x d)
grows_put x d = record { more = record { number = d.next; thing = x } ∷ []; all = refl; fresh = (omega arith, tt); next = omega arith }

later_numbers : {E : Type 0} (n m : ℕ) (more : List (Drawn E)) → n ≤ m → AllByRecursion (λ e. m ≤ e.number) more → AllByRecursion (λ e. n ≤ e.number) more
later_numbers n m more up h = weaker (λ e. m ≤ e.number) (λ e. n ≤ e.number) (λ e le. omega (arith, le, up)) more h

grows_then : {E : Type 0} (a b c : Drawing E) → Grows a b → Grows b c → Grows a c
grows_then a b c one two = record {
  more = one.more ++ two.more;
  all = two.all ∙ ap (λ l. l ++ two.more) one.all ∙ append_assoc a.all one.more two.more;
  fresh = all-append (λ e. a.next ≤ e.number) one.more two.more one.fresh (later_numbers a.next b.next two.more one.next two.fresh);
  next = omega (arith, one.next, two.next);
}

lasts_grown : {E : Type 0} (P : Drawn E → Type 0) (old new : Drawing E) → Grows old new → Lasts P old new
lasts_grown P old new g = record { left = old.all; more = g.more; all = g.all; stays = left_all P old.all; fresh = g.fresh; next = g.next }

lasts_then : {E : Type 0} (P : Drawn E → Type 0) (a b c : Drawing E) → Lasts P a b → Grows b c → Lasts P a c
lasts_then P a b c one two = record {
  left = one.left;
  more = one.more ++ two.more;
  all = two.all ∙ ap (λ l. l ++ two.more) one.all ∙ append_assoc one.left one.more two.more;
  stays = one.stays;
  fresh = all-append (λ e. a.next ≤ e.number) one.more two.more one.fresh (later_numbers a.next b.next two.more one.next two.fresh);
  next = omega (arith, one.next, two.next);
}

lasts_thinned : {E : Type 0} (P : Drawn E → Type 0) (old new : Drawing E) → AreLeft P old.all new.all → new.next ≡ old.next → Lasts P old new
lasts_thinned P old new stays next = record { left = new.all; more = []; all = sym (append-nil new.all); stays = stays; fresh = tt; next = omega (arith, next) }

-- steps that take nothing out

record Still (p q : Plain) : Type 0 where
  posts : (more : List Archived) × (q.posts ≡ p.posts ++ more)
  queue : Grows p.queue q.queue
  held : Grows p.held q.held

still_same : (p q : Plain) → q.posts ≡ p.posts → q.queue ≡ p.queue → q.held ≡ p.held → Still p q
still_same p q posts queue held = record {
  posts = ([], posts ∙ sym (append-nil p.posts));
  queue = subst (λ d. Grows p.queue d) (sym queue) (grows_same p.queue);
  held = subst (λ d. Grows p.held d) (sym held) (grows_same p.held);
}

still_self : (p : Plain) → Still p p
still_self p = still_same p p refl refl refl

still_put : (p : Plain) (out : Out) → Still p (record p { queue = put out p.queue })
still_put p out = record { posts = ([], sym (append-nil p.posts)); queue = grows_put out p.queue; held = grows_same p.held }

more_posts : (a b c : List Archived) → (more : List Archived) × (b ≡ a ++ more) → (more : List Archived) × (c ≡ b ++ more) → (more : List Archived) × (c ≡ a ++ more)
more_posts a b c one two = (one.0 ++ two.0, two.1 ∙ ap (λ l. l ++ two.0) one.1 ∙ append_assoc a one.0 two.0)

still_then : (p q r : Plain) → Still p q → Still q r → Still p r
still_then p q r one two = record {
  posts = more_posts p.posts q.posts r.posts one.posts two.posts;
  queue = grows_then p.queue q.queue r.queue one.queue two.queue;
  held = grows_then p.held q.held r.held one.held two.held;
}

still_fold : {A : Type 0} (f : Plain → A → Plain) → ((p : Plain) (a : A) → Still p (f p a)) → (xs : List A) (p : Plain) → Still p (fold f p xs)
still_fold f each [] p = still_self p
still_fold f each (x ∷ xs) p = still_then p (f p x) _ (each p x) (still_fold f each xs (f p x))

still_ledger : (p : Plain) (set : Set) (ledger : Ledger) → Still p (with_ledger_of set ledger p)
still_ledger p sets.List ledger = still_same p _ refl refl refl
still_ledger p sets.Digest ledger = still_same p _ refl refl refl
still_ledger p sets.Allow ledger = still_self p
still_ledger p sets.Deny ledger = still_self p
still_ledger p sets.Moderators ledger = still_self p

still_removed : (p : Plain) (set : Set) (who : Text) → Still p (removed set who p)
still_removed p set who = still_then p _ _ (still_same p _ refl refl refl) (still_ledger _ set _)

still_if : (p : Plain) (a b : Plain × Reply) (t : Bool) → Still p a.0 → Still p b.0 → Still p (if t then a else b).0
still_if p a b true one two = one
still_if p a b false one two = two

still_changed : (p : Plain) (set : Set) (o : Option Ledger) → Still p (bouncing.if_changed p set o).0
still_changed p set None = still_self p
still_changed p set (Some ledger) = still_ledger p set ledger

still_probed : (p : Plain) (set : Set) (x : Text) (o : Option Ledger) → Still p (bouncing.if_probed p set x o).0
still_probed p set x None = still_self p
still_probed p set x (Some ledger) = still_removed p set x

still_joined : (now : ℕ) (set : Set) (x : Text) (isfull : Bool) (p : Plain) → Still p (managing.joined now set x isfull p).0
still_joined now set x true p = still_self p
still_joined now set x false p = still_then p (added set x now p) _ (still_same p _ refl refl refl) (still_put (added set x now p) _)

still_done : (now : ℕ) (set : Set) (sender x : Text) (p : Plain) (operation : managing.Operation) → Still p (managing.done now set sender x p operation).0
still_done now set sender x p (managing.Only reply) = still_self p
still_done now set sender x p managing.TellAlready = still_put p _
still_done now set sender x p managing.TellAbsent = still_put p _
still_done now set sender x p (managing.AskSender word) = still_put p _
still_done now set sender x p (managing.AskSubject word) = still_put p _
still_done now set sender x p managing.AskModerators = still_put p _
still_done now set sender x p managing.Join = still_joined now set x (is_full p set) p
still_done now set sender x p managing.Leave = still_then p (removed set x p) _ (still_removed p set x) (still_put (removed set x p) _)

still_members : (now : ℕ) (sender : Text) (set : Set) (p : Plain) (may : Bool) → Still p (managing.list_members now sender set p may).0
still_members now sender set p true = still_put p _
still_members now sender set p false = still_self p

still_archive : (now : ℕ) (sender : Text) (p : Plain) (may : Bool) (text : Text) → Still p (managing.from_archive now sender p may text).0
still_archive now sender p true text = still_put p _
still_archive now sender p false text = still_self p

still_text : (now : ℕ) (sender text : Text) (n : ℕ) (p : Plain) → Still p (posting.with_text now sender text n p)
still_text now sender text n p = record { posts = (_, refl); queue = grows_put _ p.queue; held = grows_same p.held }

still_held : (now : ℕ) (sender m : Text) (p : Plain) → Still p (posting.held_now now sender m p).0
still_held now sender m p = record { posts = ([], sym (append-nil p.posts)); queue = grows_put _ p.queue; held = grows_put _ p.held }

still_verdict : (now : ℕ) (sender m : Text) (p : Plain) (v : Verdict) → Still p (posting.by_verdict now sender m p v).0
still_verdict now sender m p TooBig = still_self p
still_verdict now sender m p BounceSender = still_self p
still_verdict now sender m p Looped = still_self p
still_verdict now sender m p Denied = still_self p
still_verdict now sender m p NoSubject = still_self p
still_verdict now sender m p CommandSubject = still_self p
still_verdict now sender m p NotAddressed = still_self p
still_verdict now sender m p UsersOnly = still_self p
still_verdict now sender m p HeldBack = still_held now _ m p
still_verdict now sender m p Full = still_self p
still_verdict now sender m p Posted = still_text now _ _ _ p

-- steps that take held posts out

record Took (P : Drawn Held → Type 0) (p q : Plain) : Type 0 where
  posts : (more : List Archived) × (q.posts ≡ p.posts ++ more)
  queue : Grows p.queue q.queue
  held : Lasts P p.held q.held

took_still : (P : Drawn Held → Type 0) (p q : Plain) → Still p q → Took P p q
took_still P p q s = record { posts = s.posts; queue = s.queue; held = lasts_grown P p.held q.held s.held }

took_then : (P : Drawn Held → Type 0) (p q r : Plain) → Took P p q → Still q r → Took P p r
took_then P p q r one two = record {
  posts = more_posts p.posts q.posts r.posts one.posts two.posts;
  queue = grows_then p.queue q.queue r.queue one.queue two.queue;
  held = lasts_then P p.held q.held r.held one.held two.held;
}

took_one : (P : Drawn Held → Type 0) (ticket : ℕ) (p : Plain) → ((e : Drawn Held) → (e.number == ticket) ≡ true → P e) → Took P p (record p { held = without_ticket ticket p.held })
took_one P ticket p out = record {
  posts = ([], sym (append-nil p.posts));
  queue = grows_same p.queue;
  held = lasts_thinned P p.held (without_ticket ticket p.held) (left_without P (λ e. e.number == ticket) out p.held.all) refl;
}

-- timed runs

record Thinned (P : Drawn Held → Type 0) (p q : Plain) : Type 0 where
  posts : (more : List Archived) × (q.posts ≡ p.posts ++ more)
  queue : Grows p.queue q.queue
  left : AreLeft P p.held.all q.held.all
  next : q.held.next ≡ p.held.next

thin_back : (P : Drawn Held → Type 0) (now : ℕ) (xs : List (Drawn Held)) (p : Plain) → AllByRecursion (λ x. (e : Drawn Held) → (e.number == x.number) ≡ true → P e) xs → Thinned P p (fold (timing.give_back now) p xs)
thin_back P now [] p out = record { posts = ([], sym (append-nil p.posts)); queue = grows_same p.queue; left = left_all P p.held.all; next = refl }
thin_back P now (x ∷ xs) p out =
    let q = timing.give_back now p x in
    let rest = thin_back P now xs q out.1 in
    record {
      posts = more_posts p.posts q.posts (fold (timing.give_back now) q xs).posts ([], sym (append-nil p.posts)) rest.posts;
      queue = grows_then p.queue q.queue (fold (timing.give_back now) q xs).queue (grows_put _ p.queue) rest.queue;
      left = left_again P p.held.all q.held.all (fold (timing.give_back now) q xs).held.all (left_without P (λ e. e.number == x.number) out.0 p.held.all) rest.left;
      next = rest.next;
    }

any_here : (b c : Bool) → b ≡ true → (b || c) ≡ true
any_here true c is = refl
any_here false c is = absurd (false≢true is)

any_later : (b c : Bool) → c ≡ true → (b || c) ≡ true
any_later true c is = refl
any_later false c is = is

each_any : (xs : List (Drawn Held)) → AllByRecursion (λ x. (e : Drawn Held) → (e.number == x.number) ≡ true → list_any (λ o. e.number == o.number) xs ≡ true) xs
each_any [] = tt
each_any (x ∷ xs) = (
  λ e is. any_here (e.number == x.number) (list_any (λ o. e.number == o.number) xs) is,
  weaker (λ y. (e : Drawn Held) → (e.number == y.number) ≡ true → list_any (λ o. e.number == o.number) xs ≡ true) (λ y. (e : Drawn Held) → (e.number == y.number) ≡ true → list_any (λ o. e.number == o.number) (x ∷ xs) ≡ true)
      (λ y f e is. any_later (e.number == x.number) (list_any (λ o. e.number == o.number) xs) (f e is)) xs (each_any xs),
)

still_issue : (now : ℕ) (p : Plain) (o : Option Range) → Still p (timing.issue now p o)
still_issue now p None = still_self p
still_issue now p (Some r) = record { posts = ([], sym (append-nil p.posts)); queue = grows_put _ p.queue; held = grows_same p.held }

still_digest : (now : ℕ) (p : Plain) (wanted : Bool) (o : Option Range) → Still p (elim wanted [ true ↦ timing.issue now p o | false ↦ p ])
still_digest now p true o = still_issue now p o
still_digest now p false o = still_self p

still_warned : (now : ℕ) (set : Set) (e : LedgerEntry) (p : Plain) (o : Option Member) → Still p (timing.warn_member now set e p o)
still_warned now set e p None = still_ledger p set _
still_warned now set e p (Some m) = still_then p _ _ (still_put p _) (still_ledger _ set _)

still_asked : (now : ℕ) (set : Set) (e : LedgerEntry) (p : Plain) (o : Option Member) → Still p (timing.probe_member now set e p o)
still_asked now set e p None = still_ledger p set _
still_asked now set e p (Some m) = still_then p _ _ (still_put p _) (still_ledger _ set _)

still_followed : (now : ℕ) (set : Set) (e : LedgerEntry) (p : Plain) (stage : Stage) → Still p (timing.follow_at now set e p stage)
still_followed now set e p Unwarned = still_warned now set e p _
still_followed now set e p (Warned t) = still_ledger p set _
still_followed now set e p (WarnFailed t) = still_asked now set e p _
still_followed now set e p (Probed t) = still_ledger p set _

took_timed : (P : Drawn Held → Type 0) (now : ℕ) (p : Plain) → ((e : Drawn Held) → list_any (λ o. e.number == o.number) (timing.old_held now p) ≡ true → P e) → Took P p (timing.after_timed now p)
took_timed P now p out =
    let back = timing.give_old_back now p in
    let issue = timing.make_digest now back in
    let all = timing.old_held now p in
    let each = weaker (λ x. (e : Drawn Held) → (e.number == x.number) ≡ true → list_any (λ o. e.number == o.number) all ≡ true) (λ x. (e : Drawn Held) → (e.number == x.number) ≡ true → P e) (λ x f e is. out e (f e is)) all (each_any all) in
    let thin = thin_back P now all p each in
    let first : Took P p back = record { posts = thin.posts; queue = thin.queue; held = lasts_thinned P p.held back.held thin.left thin.next } in
    took_then P p issue _ (took_then P p back issue first (still_digest now back back.config.flags.d (timing.digest_due now back)))
    (still_fold (timing.follow_up now) (λ q e. still_followed now e.0 e.1 q e.1.stage) (timing.all_due now issue) issue)

-- moderators' answers

-- the reply to an answer that takes a held post out
abbrev Told : Bool → Reply → Type 0
Told true reply = reply.code ≡ 1
Told false reply = reply ≡ answers.rejected

-- the request that accepts a held post, or rejects it
abbrev asked_for : Bool → ℕ → Text → PlainRequest
asked_for true ticket letters = Accept ticket letters
asked_for false ticket letters = Reject ticket letters

module _ (P : Reply → Drawn Held → Type 0) where
  abbrev By : Plain → Plain × Reply → Type 0
  By p qr = Took (P qr.1) p qr.0

  calm : (p : Plain) (qr : Plain × Reply) → Still p qr.0 → By p qr
  calm p qr s = took_still (P qr.1) p qr.0 s

  accepted_by : (now ticket : ℕ) (h : Held) (p : Plain) (isfull : Bool) → ((reply : Reply) (e : Drawn Held) → Told true reply → (e.number == ticket) ≡ true → P reply e) → By p (managing.accepted now ticket h p isfull)
  accepted_by now ticket h p true out = calm p _ (still_self p)
  accepted_by now ticket h p false out =
      let freed : Plain = record p { held = without_ticket ticket p.held } in
      let qr = managing.accepted now ticket h p false in
      took_then (P qr.1) p freed qr.0 (took_one (P qr.1) ticket p (λ e is. out qr.1 e refl is)) (still_text now _ _ _ freed)

  answered_by : (now ticket : ℕ) (h : Held) (p : Plain) (accepts : Bool) → ((reply : Reply) (e : Drawn Held) → Told accepts reply → (e.number == ticket) ≡ true → P reply e) → By p (managing.answered now ticket h p accepts)
  answered_by now ticket h p true out = accepted_by now ticket h p (is_archive_full p) out
  answered_by now ticket h p false out =
      let freed : Plain = record p { held = without_ticket ticket p.held } in
      let qr = managing.answered now ticket h p false in
      took_then (P qr.1) p freed qr.0 (took_one (P qr.1) ticket p (λ e is. out qr.1 e refl is)) (still_put freed _)

  signed_by : (now ticket : ℕ) (h : Held) (p : Plain) (accepts good : Bool) → (good ≡ true → (reply : Reply) (e : Drawn Held) → Told accepts reply → (e.number == ticket) ≡ true → P reply e) → By p (managing.if_signed now ticket h p accepts good)
  signed_by now ticket h p accepts true out = answered_by now ticket h p accepts (out refl)
  signed_by now ticket h p accepts false out = calm p _ (still_self p)

  held_by : (now ticket : ℕ) (letters : Text) (p : Plain) (accepts : Bool) (o : Option Held)
      → ((h : Held) → o ≡ Some h → is_cookie p (codes "hold") sets.Moderators h.moment (decimal ticket) letters ≡ true → (reply : Reply) (e : Drawn Held) → Told accepts reply → (e.number == ticket) ≡ true → P reply e)
      → By p (managing.answer_held now ticket letters p accepts o)
  held_by now ticket letters p accepts None out = calm p _ (still_self p)
  held_by now ticket letters p accepts (Some h) out = signed_by now ticket h p accepts _ (λ good. out h refl good)

  -- a request takes out the held post that it names, if its letters are good
  abbrev Allows : Plain → PlainRequest → Type 0
  Allows p r = (accepts : Bool) (ticket : ℕ) (letters : Text) (h : Held) → r ≡ asked_for accepts ticket letters → held_post ticket p.held ≡ Some h
      → is_cookie p (codes "hold") sets.Moderators h.moment (decimal ticket) letters ≡ true → (reply : Reply) (e : Drawn Held) → Told accepts reply → (e.number == ticket) ≡ true → P reply e

  managed_by : (now : ℕ) (sender : Text) (p : Plain) (r : PlainRequest) → Allows p r → By p (managing.managed now sender p r)
  managed_by now sender p (Accept ticket letters) out = held_by now ticket letters p true (held_post ticket p.held) (λ h there good. out true ticket letters h refl there good)
  managed_by now sender p (Reject ticket letters) out = held_by now ticket letters p false (held_post ticket p.held) (λ h there good. out false ticket letters h refl there good)
  managed_by now sender p (Subscribe set who) out = calm p _ (still_done now set sender _ p _)
  managed_by now sender p (Unsubscribe set who) out = calm p _ (still_done now set sender _ p _)
  managed_by now sender p (Confirm word set s) out = calm p _ (still_done now set sender _ p _)
  managed_by now sender p (Members set) out = calm p _ (still_members now sender set p _)
  managed_by now sender p (Get from to) out = calm p _ (still_archive now sender p _ _)
  managed_by now sender p (Index at) out = calm p _ (still_archive now sender p _ _)
  managed_by now sender p (Thread at) out = calm p _ (still_archive now sender p _ _)
  managed_by now sender p _ out = calm p _ (still_put p _)

  looped_by : (now : ℕ) (sender : Text) (p : Plain) (r : PlainRequest) (isloop : Bool) → Allows p r → By p (managing.unless_looped now sender p r isloop)
  looped_by now sender p r true out = calm p _ (still_self p)
  looped_by now sender p r false out = managed_by now sender p r out

  sender_by : (now : ℕ) (m : Text) (p : Plain) (r : PlainRequest) (o : Option Text) → Allows p r → By p (managing.by_sender now m p r o)
  sender_by now m p r None out = calm p _ (still_self p)
  sender_by now m p r (Some sender) out = looped_by now sender p r _ out

  request_by : (now : ℕ) (sender m : Text) (p : Plain) (r : PlainRequest) → Allows p r → By p (managing.by_request now sender m p r)
  request_by now sender m p (Bounce set number who) out = calm p _ (still_changed p set _)
  request_by now sender m p (WarnBounce set s) out = calm p _ (still_changed p set _)
  request_by now sender m p (ProbeBounce set s) out = calm p _ (still_probed p set _ _)
  request_by now sender m p (ReplyBounce set) out = calm p _ (still_self p)
  request_by now sender m p Owner out = calm p _ (still_put p _)
  request_by now sender m p Post out = calm p _ (still_verdict now sender m p (verdict p sender m))
  request_by now sender m p r out = sender_by now m p r (address_of sender) out

  recipient_by : (now : ℕ) (sender m : Text) (p : Plain) (o : Option PlainRequest) → ((r : PlainRequest) → o ≡ Some r → Allows p r) → By p (managing.by_recipient now sender m p o)
  recipient_by now sender m p None out = calm p _ (still_self p)
  recipient_by now sender m p (Some r) out = request_by now sender m p r (out r refl)

  worn_by : (p : Plain) (r : Plain × Reply) (worn : Bool) → By p r → By p (if_worn p r worn)
  worn_by p r true h = calm p _ (still_self p)
  worn_by p r false h = h

-- a step, by its act
of_took : (p : Plain) (item : Item) (qr : Plain × Reply) → ((id : ℕ) → item.act ≡ Sent id → ⊥) → Took (TakesHeld p item qr.1) p qr.0 → StepLeaves p item qr.0 qr.1
of_took p item qr other t = record {
  posts = t.posts;
  queue = lasts_grown (TakesEntry item qr.1) p.queue qr.0.queue t.queue;
  gone = λ id is told. absurd (other id is);
  held = t.held;
}

of_still : (p : Plain) (item : Item) (qr : Plain × Reply) → ((id : ℕ) → item.act ≡ Sent id → ⊥) → Still p qr.0 → StepLeaves p item qr.0 qr.1
of_still p item qr other s = of_took p item qr other (took_still (TakesHeld p item qr.1) p qr.0 s)

delivered_allows : (p : Plain) (item : Item) (sender recipient m : Text) → item.act ≡ Deliver sender recipient m → (r : PlainRequest) → request_of p.config.local p.config.host recipient ≡ Some r → Allows (TakesHeld p item) p r
delivered_allows p item sender recipient m act r is true ticket letters h which there good reply e told same =
    inl (subst (λ n. IsAnswered p item reply n) (sym (eqb-true e.number ticket same)) (record {
      sender = sender;
      letters = letters;
      post = h;
      there = there;
      good = good;
      which = inl (record { recipient = recipient; message = m; act = act; request_is = is ∙ ap (λ (r : PlainRequest). Some r) which }, told);
    }))
delivered_allows p item sender recipient m act r is false ticket letters h which there good reply e told same =
    inl (subst (λ n. IsAnswered p item reply n) (sym (eqb-true e.number ticket same)) (record {
      sender = sender;
      letters = letters;
      post = h;
      there = there;
      good = good;
      which = inr (record { recipient = recipient; message = m; act = act; request_is = is ∙ ap (λ (r : PlainRequest). Some r) which }, told);
    }))

deliver_took : (p : Plain) (item : Item) (sender recipient m : Text) → item.act ≡ Deliver sender recipient m → By (TakesHeld p item) p (managing.deliver item.moment sender recipient m p)
deliver_took p item sender recipient m act =
    let asked = request_of p.config.local p.config.host recipient in
    worn_by (TakesHeld p item) p (managing.by_recipient item.moment sender m p asked) (is_worn p)
    (recipient_by (TakesHeld p item) item.moment sender m p asked (λ r is. delivered_allows p item sender recipient m act r is))

timed_took : (p : Plain) (item : Item) → item.act ≡ Timed → By (TakesHeld p item) p (timing.timed item.moment p)
timed_took p item act =
    let q = timing.after_timed item.moment p in
    let qr : Plain × Reply = (q, answers.timed (q.queue.next - p.queue.next)) in
    worn_by (TakesHeld p item) p qr (is_worn p) (took_timed (TakesHeld p item qr.1) item.moment p (λ e old. inr (record { act = act; old = old })))

still_add : (now : ℕ) (set : Set) (who : Text) (p : Plain) → Still p (steps.add now set who p).0
still_add now set who p =
    first_row_all (λ (qr : Plain × Reply). Still p qr.0) (steps.add_cases p set who) (added set who now p, answers.subscribed) (still_self p, (still_self p, tt)) (still_same p _ refl refl refl)

still_remove : (set : Set) (who : Text) (p : Plain) → Still p (steps.remove set who p).0
still_remove set who p = still_if p (removed set who p, answers.unsubscribed) (p, answers.absent) (is_in p set who) (still_removed p set who) (still_self p)

still_rekey : (now : ℕ) (key : Text) (p : Plain) → Still p (steps.rekey now key p).0
still_rekey now key p = still_if p _ _ (steps.is_recent now p.keys.former) (still_self p) (still_same p _ refl refl refl)

-- an entry that was sent
without_all : (id : ℕ) (es : List (Drawn Out)) → AllByRecursion (λ e. e.number ≢ id) (filter (λ e. not (e.number == id)) es)
without_all id [] = tt
without_all id (e ∷ es) = go (e.number == id) refl (without_all id es)
  where
    go : (t : Bool) → (e.number == id) ≡ t → AllByRecursion (λ e. e.number ≢ id) (filter (λ e. not (e.number == id)) es)
        → AllByRecursion (λ e. e.number ≢ id) (cond (not t) (e ∷ filter (λ e. not (e.number == id)) es) (filter (λ e. not (e.number == id)) es))
    go true is more = more
    go false is more = (eqb-false e.number id is, more)

abbrev pub if_there : ℕ → Plain → Bool → Plain × Reply
if_there id p there = if there then (record p { queue = without_id id p.queue }, answers.dequeued) else (p, answers.noentry)

sent_leaves : (p : Plain) (item : Item) (id : ℕ) (there : Bool) → item.act ≡ Sent id → StepLeaves p item (if_there id p there).0 (if_there id p there).1
sent_leaves p item id true act = record {
  posts = ([], sym (append-nil p.posts));
  queue = lasts_thinned (TakesEntry item answers.dequeued) p.queue (without_id id p.queue)
      (left_without (TakesEntry item answers.dequeued) (λ e. e.number == id) (λ e is. (act ∙ ap (λ (n : ℕ). Sent n) (sym (eqb-true e.number id is)), refl)) p.queue.all) refl;
  gone = λ other is told. subst (λ n. AllByRecursion (λ e. e.number ≢ n) (without_id id p.queue).all) (same_id other (sym act ∙ is)) (without_all id p.queue.all);
  held = lasts_grown (TakesHeld p item answers.dequeued) p.held p.held (grows_same p.held);
}
  where
    same_id : (other : ℕ) → Sent id ≡ Sent other → id ≡ other
    same_id other is = cc
sent_leaves p item id false act = record {
  posts = ([], sym (append-nil p.posts));
  queue = lasts_grown (TakesEntry item answers.noentry) p.queue p.queue (grows_same p.queue);
  gone = λ other is told. absurd (omega (arith, ap (λ (r : Reply). r.code) told));
  held = lasts_grown (TakesHeld p item answers.noentry) p.held p.held (grows_same p.held);
}

act_leaves : (p : Plain) (item : Item) (a : Act) → item.act ≡ a → StepLeaves p item (steps.act_step p item.moment a).0 (steps.act_step p item.moment a).1
act_leaves p item (Deliver sender recipient m) is = of_took p item _ (λ id e. absurd (let bad : Deliver sender recipient m ≡ Sent id = sym is ∙ e in cc)) (deliver_took p item sender recipient m is)
act_leaves p item Timed is = of_took p item _ (λ id e. absurd (let bad : Timed ≡ Sent id = sym is ∙ e in cc)) (timed_took p item is)
act_leaves p item (Add set who) is = of_still p item _ (λ id e. absurd (let bad : Add set who ≡ Sent id = sym is ∙ e in cc)) (still_add item.moment set who p)
act_leaves p item (Remove set who) is = of_still p item _ (λ id e. absurd (let bad : Remove set who ≡ Sent id = sym is ∙ e in cc)) (still_remove set who p)
act_leaves p item (Sent id) is = sent_leaves p item id _ is
act_leaves p item (Rekey key) is = of_still p item _ (λ id e. absurd (let bad : Rekey key ≡ Sent id = sym is ∙ e in cc)) (still_rekey item.moment key p)
act_leaves p item (Floor at) is = of_still p item _ (λ id e. absurd (let bad : Floor at ≡ Sent id = sym is ∙ e in cc)) (still_self p)

pub law_lasting : LawLasting
unfolding steps.step0
law_lasting p item = act_leaves p item item.act refl

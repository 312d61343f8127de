-- The proof that a key leaves a set only in one of the ways that the law names.
use Rattle.std.proofs.Common.{◌≡◌, ℕ, ◌⊎◌, inl, inr, Bool, true, false, List, [], ◌∷◌, Option, Some, None, refl, sym, ap, subst, ◌∙◌, codes, if◌then◌else◌, is_some}
use Rattle.std.proofs.lemmas.Bool.{and_parts, eqb-true, false≢true, true≢false}
use Rattle.std.specs.List.{AllByRecursion, fold}
use Rattle.std.specs.Option.{option_map_or}
use Rattle.ml_base.specs.Bytes.{Text}
use Rattle.ml_base.specs.Address.{key, address_of}
use Rattle.ml_base.specs.Drawn.{thing_of}
use Rattle.ml_base.specs.declared.names.Set.{Set}
use Rattle.ml_base.specs.declared.names.Set.TheVariants as sets
use Rattle.ml_address.specs.declared.Word.{Word}
use Rattle.ml_address.specs.declared.Word.TheVariants as words
use Rattle.ml_address.specs.Requests.{PlainWho, Signed, PlainRequest, Post, Owner, Subscribe, Unsubscribe, Members, Confirm, Get, Index, Thread, Accept, Reject, Bounce, WarnBounce, ProbeBounce, ReplyBounce, word_text}
use Rattle.ml_address.specs.Reading.{request_of}
use Rattle.ml_bounce.specs.Ledger.{Ledger, entry_under}
use Rattle.ml_bounce.specs.declared.entries.Stage.{Stage}
use Rattle.ml_bounce.specs.declared.entries.Stage.TheVariants.{Unwarned, Warned, WarnFailed, Probed}
use Rattle.ml_bounce.specs.declared.entries.LedgerEntry.{LedgerEntry}
use Rattle.ml_bounce.specs.Changes.{is_probed}
use Rattle.ml_digest.specs.declared.posts.Range.{Range}
use Rattle.ml_hold.specs.declared.posts.Held.{Held}
use Rattle.ml_subs.specs.Members.{has_key}
use Rattle.ml_subs.specs.declared.member_list.Member.{Member}
use Rattle.ml_plain.specs.declared.Item.{Item}
use Rattle.ml_plain.specs.declared.Act.{Act}
use Rattle.ml_plain.specs.declared.Act.TheVariants.{Deliver, Timed, Add, Remove, Sent, Rekey, Floor}
use Rattle.ml_plain.specs.declared.Reply.{Reply}
use Rattle.ml_plain.specs.Answers as answers
use Rattle.ml_plain.specs.Bouncing as bouncing
use Rattle.ml_plain.specs.Laws.{Asks, Ways, LawLeaving}
use Rattle.ml_plain.specs.Mailing.{is_good}
use Rattle.ml_plain.specs.Managing as managing
use Rattle.ml_plain.specs.Plain.{Plain, is_in, is_full, is_worn, is_archive_full, ledger_of, added, removed, first_row}
use Rattle.ml_plain.specs.Posting as posting
use Rattle.ml_plain.specs.Steps as steps
use Rattle.ml_plain.specs.Timing as timing
use Rattle.ml_plain.specs.Verdicts.{Verdict, TooBig, BounceSender, Looped, Denied, NoSubject, CommandSubject, NotAddressed, UsersOnly, Held as HeldBack, Full, Posted, verdict}
use Rattle.ml_plain.proofs.Asked.{OfMembers, of_members}
use Rattle.ml_plain.proofs.Deliveries.{if_worn, delivered}
use Rattle.ml_plain.proofs.Leaving.{key_spelled, key_checked, same_text, ledger_sets, leaves_removed, none_added}
use Rattle.ml_plain.proofs.Steps.{first_row_all}

-- keys that leave do so by one of these ways
record By (W : Set → Text → Type 0) (p q : Plain) : Type 0 where
  by : (set : Set) (k : Text) → has_key k (p.sets set) ≡ true → has_key k (q.sets set) ≡ false → W set k

-- no key leaves if the sets stay
none : (W : Set → Text → Type 0) (p q : Plain) → q.sets ≡ p.sets → By W p q
none W p q e = record { by = λ set k there gone. absurd (true≢false (sym there ∙ sym (ap (λ all. has_key k (all set)) e) ∙ gone)) }

one : (W : Set → Text → Type 0) (p : Plain) (own : Set) (x : Text) → W own (key x) → By W p (removed own x p)
one W p own x w = record {
  by = λ set k there gone.
      let is = leaves_removed p own x set k there gone in
      subst (λ s. W s k) (sym is.0) (subst (λ t. W own t) (sym is.1) w);
}

-- sets that stay

verdict_same : (now : ℕ) (sender m : Text) (p : Plain) (v : Verdict) → (posting.by_verdict now sender m p v).0.sets ≡ p.sets
verdict_same now sender m p TooBig = refl
verdict_same now sender m p BounceSender = refl
verdict_same now sender m p Looped = refl
verdict_same now sender m p Denied = refl
verdict_same now sender m p NoSubject = refl
verdict_same now sender m p CommandSubject = refl
verdict_same now sender m p NotAddressed = refl
verdict_same now sender m p UsersOnly = refl
verdict_same now sender m p HeldBack = refl
verdict_same now sender m p Full = refl
verdict_same now sender m p Posted = refl

accepted_same : (now ticket : ℕ) (h : Held) (p : Plain) (isfull : Bool) → (managing.accepted now ticket h p isfull).0.sets ≡ p.sets
accepted_same now ticket h p true = refl
accepted_same now ticket h p false = refl

answered_same : (now ticket : ℕ) (h : Held) (p : Plain) (accepts : Bool) → (managing.answered now ticket h p accepts).0.sets ≡ p.sets
answered_same now ticket h p true = accepted_same now ticket h p (is_archive_full p)
answered_same now ticket h p false = refl

signed_same : (now ticket : ℕ) (h : Held) (p : Plain) (accepts good : Bool) → (managing.if_signed now ticket h p accepts good).0.sets ≡ p.sets
signed_same now ticket h p accepts true = answered_same now ticket h p accepts
signed_same now ticket h p accepts false = refl

answer_same : (now ticket : ℕ) (letters : Text) (p : Plain) (accepts : Bool) (o : Option Held) → (managing.answer_held now ticket letters p accepts o).0.sets ≡ p.sets
answer_same now ticket letters p accepts None = refl
answer_same now ticket letters p accepts (Some h) = signed_same now ticket h p accepts _

list_same : (now : ℕ) (sender : Text) (set : Set) (p : Plain) (may : Bool) → (managing.list_members now sender set p may).0.sets ≡ p.sets
list_same now sender set p true = refl
list_same now sender set p false = refl

archive_same : (now : ℕ) (sender : Text) (p : Plain) (may : Bool) (text : Text) → (managing.from_archive now sender p may text).0.sets ≡ p.sets
archive_same now sender p true text = refl
archive_same now sender p false text = refl

changed_same : (p : Plain) (set : Set) (o : Option Ledger) → (bouncing.if_changed p set o).0.sets ≡ p.sets
changed_same p set None = refl
changed_same p set (Some ledger) = ledger_sets p set ledger

pub fold_same : {A : Type 0} (f : Plain → A → Plain) → ((p : Plain) (a : A) → (f p a).sets ≡ p.sets) → (xs : List A) (p : Plain) → (fold f p xs).sets ≡ p.sets
fold_same f each [] p = refl
fold_same f each (x ∷ xs) p = fold_same f each xs (f p x) ∙ each p x

abbrev pub if_wanted : ℕ → Plain → Bool → Option Range → Plain
if_wanted now p wanted o = elim wanted [ true ↦ timing.issue now p o | false ↦ p ]

issue_same : (now : ℕ) (p : Plain) (wanted : Bool) (o : Option Range) → (if_wanted now p wanted o).sets ≡ p.sets
issue_same now p true None = refl
issue_same now p true (Some r) = refl
issue_same now p false o = refl

warn_same : (now : ℕ) (set : Set) (e : LedgerEntry) (p : Plain) (o : Option Member) → (timing.warn_member now set e p o).sets ≡ p.sets
warn_same now set e p None = ledger_sets p set _
warn_same now set e p (Some m) = ledger_sets _ set _

probe_same : (now : ℕ) (set : Set) (e : LedgerEntry) (p : Plain) (o : Option Member) → (timing.probe_member now set e p o).sets ≡ p.sets
probe_same now set e p None = ledger_sets p set _
probe_same now set e p (Some m) = ledger_sets _ set _

follow_same : (now : ℕ) (set : Set) (e : LedgerEntry) (p : Plain) (stage : Stage) → (timing.follow_at now set e p stage).sets ≡ p.sets
follow_same now set e p Unwarned = warn_same now set e p _
follow_same now set e p (Warned t) = ledger_sets p set _
follow_same now set e p (WarnFailed t) = probe_same now set e p _
follow_same now set e p (Probed t) = ledger_sets p set _

pub timed_same : (now : ℕ) (p : Plain) → (timing.after_timed now p).sets ≡ p.sets
timed_same now p =
    let back = timing.give_old_back now p in
    let issue = timing.make_digest now back in
    fold_same (timing.follow_up now) (λ q e. follow_same now e.0 e.1 q e.1.stage) (timing.all_due now issue) issue
    ∙ issue_same now back back.config.flags.d (timing.digest_due now back)
    ∙ fold_same (timing.give_back now) (λ q e. refl) (timing.old_held now p) p

-- requests

-- a licence to leave
licensed : Type 0 → managing.Operation → Type 0
licensed L managing.Leave = L
licensed L _ = Unit {0}

-- what holds of every row whose test holds, and of the value if none does, holds of the first row that applies
first_row_tests : {A : Type 0} (P : A → Type 0) (rows : List (Bool × A)) (otherwise : A) → AllByRecursion (λ row. row.0 ≡ true → P row.1) rows → P otherwise → P (first_row rows otherwise)
first_row_tests P [] otherwise h o = o
first_row_tests P (row ∷ rows) otherwise h o = go row.0 refl (first_row_tests P rows otherwise h.1 o)
  where
    go : (t : Bool) → row.0 ≡ t → P (first_row rows otherwise) → P (if t then row.1 else first_row rows otherwise)
    go true t more = h.0 t
    go false t more = more

subscribing_licensed : (L : Type 0) (p : Plain) (set : Set) (sender x : Text) → licensed L (managing.subscribing p set sender x)
unfolding licensed
subscribing_licensed L p set sender x =
    first_row_all (licensed L) (managing.subscribe_cases p set sender x) (managing.AskSubject words.Sc) (tt, (tt, (tt, (tt, (tt, (tt, tt)))))) tt

unsubscribing_licensed : (L : Type 0) (p : Plain) (set : Set) (sender x : Text) → (p.config.flags.j ≡ true → key x ≡ key sender → L) → licensed L (managing.unsubscribing p set sender x)
unfolding licensed
unsubscribing_licensed L p set sender x own =
    first_row_tests (licensed L) (managing.unsubscribe_cases p set sender x) (managing.AskSubject words.Uc)
    ((λ t. tt), ((λ t. tt), ((λ t. tt), ((λ t. let parts = and_parts p.config.flags.j (managing.is_same x sender) t in own parts.0 (same_text (key x) (key sender) parts.1)), tt)))) tt

confirming_licensed : (L : Type 0) (p : Plain) (set : Set) (x : Text) (word : Word) (good : Bool) → (word ≡ words.Uc → good ≡ true → L) → licensed L (managing.confirming p set x word good)
unfolding licensed
confirming_licensed L p set x words.Uc true own = first_row_all (licensed L) (managing.confirm_cases p set x words.Uc true) managing.Leave (tt, (tt, tt)) (own refl refl)
confirming_licensed L p set x words.Uc false own = tt
confirming_licensed L p set x words.Sc good own = first_row_all (licensed L) (managing.confirm_cases p set x words.Sc good) managing.Join (tt, (tt, (tt, tt))) tt
confirming_licensed L p set x words.Tc good own = first_row_all (licensed L) (managing.confirm_cases p set x words.Tc good) managing.Join (tt, (tt, tt)) tt

joined_by : (W : Set → Text → Type 0) (now : ℕ) (set : Set) (x : Text) (isfull : Bool) (p : Plain) → By W p (managing.joined now set x isfull p).0
joined_by W now set x true p = none W p p refl
joined_by W now set x false p = record { by = λ s k there gone. absurd (true≢false (sym (none_added p set x now s k there) ∙ gone)) }

done_by : (W : Set → Text → Type 0) (now : ℕ) (set : Set) (sender x : Text) (p : Plain) (operation : managing.Operation) → licensed (W set (key x)) operation → By W p (managing.done now set sender x p operation).0
unfolding licensed
done_by W now set sender x p (managing.Only reply) h = none W p _ refl
done_by W now set sender x p managing.TellAlready h = none W p _ refl
done_by W now set sender x p managing.TellAbsent h = none W p _ refl
done_by W now set sender x p (managing.AskSender word) h = none W p _ refl
done_by W now set sender x p (managing.AskSubject word) h = none W p _ refl
done_by W now set sender x p managing.AskModerators h = none W p _ refl
done_by W now set sender x p managing.Join h = joined_by W now set x (is_full p set) p
done_by W now set sender x p managing.Leave h = record { by = λ s k there gone. (one W p set x h).by s k there gone }

managed_by : (W : Set → Text → Type 0) (now : ℕ) (sender : Text) (p : Plain) (r : PlainRequest)
    → ((set : Set) (who : Option PlainWho) → r ≡ Unsubscribe set who → p.config.flags.j ≡ true → key (managing.subject_of p set sender who) ≡ key sender → W set (key (managing.subject_of p set sender who)))
    → ((set : Set) (s : Signed) → r ≡ Confirm words.Uc set s → is_good p (codes "uc") set s.time (key (managing.subject_of p set sender (Some s.who))) s.cookie now ≡ true → W set (key (managing.subject_of p set sender (Some s.who))))
    → By W p (managing.managed now sender p r).0
managed_by W now sender p (Accept ticket letters) own confirmed = none W p _ (answer_same now ticket letters p true _)
managed_by W now sender p (Reject ticket letters) own confirmed = none W p _ (answer_same now ticket letters p false _)
managed_by W now sender p (Subscribe set who) own confirmed =
    let x = managing.subject_of p set sender who in
    done_by W now set sender x p (managing.subscribing p set sender x) (subscribing_licensed (W set (key x)) p set sender x)
managed_by W now sender p (Unsubscribe set who) own confirmed =
    let x = managing.subject_of p set sender who in
    done_by W now set sender x p (managing.unsubscribing p set sender x) (unsubscribing_licensed (W set (key x)) p set sender x (own set who refl))
managed_by W now sender p (Confirm word set s) own confirmed =
    let x = managing.subject_of p set sender (Some s.who) in
    let good = is_good p (word_text word) set s.time (key x) s.cookie now in
    done_by W now set sender x p (managing.confirming p set x word good)
    (confirming_licensed (W set (key x)) p set x word good (λ is t. confirmed set s (ap (λ w. Confirm w set s) is) (sym (ap (λ w. is_good p (word_text w) set s.time (key x) s.cookie now) is) ∙ t)))
managed_by W now sender p (Members set) own confirmed = none W p _ (list_same now sender set p _)
managed_by W now sender p (Get from to) own confirmed = none W p _ (archive_same now sender p _ _)
managed_by W now sender p (Index at) own confirmed = none W p _ (archive_same now sender p _ _)
managed_by W now sender p (Thread at) own confirmed = none W p _ (archive_same now sender p _ _)
managed_by W now sender p _ own confirmed = none W p _ refl

looped_by : (W : Set → Text → Type 0) (now : ℕ) (sender : Text) (p : Plain) (r : PlainRequest) (isloop : Bool) → By W p (managing.managed now sender p r).0 → By W p (managing.unless_looped now sender p r isloop).0
looped_by W now sender p r true h = none W p p refl
looped_by W now sender p r false h = h

-- those who unsubscribe themselves or confirm it, and those whose probe bounces
asked_by : (p : Plain) (item : Item) (sender recipient m : Text) → item.act ≡ Deliver sender recipient m
    → (r : PlainRequest) → request_of p.config.local p.config.host recipient ≡ Some r
    → (o : Option Text) → address_of sender ≡ o → By (Ways p item) p (managing.by_sender item.moment m p r o).0
unfolding OfMembers
asked_by p item sender recipient m act r is None e = none (Ways p item) p p refl
asked_by p item sender recipient m act r is (Some s) e =
    let asks : Asks p item sender r = record { recipient = recipient; message = m; act = act; request_is = is } in
    let members = of_members p.config.local p.config.host recipient r is in
    looped_by (Ways p item) item.moment s p r _ (managed_by (Ways p item) item.moment s p r
    (λ set who r_is j same. inr (
      subst OfMembers r_is members,
      inl (record {
        sender = sender;
        who = who;
        asks = subst (Asks p item sender) r_is asks;
        allowed = j;
        is = named set who;
        own = sym (key_checked sender s e) ∙ sym same;
      }),
    ))
    (λ set c r_is good. inr (
      subst OfMembers r_is members,
      inr (inl (record {
        sender = sender;
        signed = c;
        asks = subst (Asks p item sender) r_is asks;
        is = sym (key_spelled p set (bouncing.address_named c.who));
        good = good;
      })),
    )))
  where
    named : (set : Set) (who : Option PlainWho) → key (option_map_or bouncing.address_named who sender) ≡ key (managing.subject_of p set s who)
    named set None = sym (key_checked sender s e) ∙ sym (key_spelled p set s)
    named set (Some w) = sym (key_spelled p set (bouncing.address_named w))

only_where : (t : Bool) (o : Option Ledger) (ledger : Ledger) → (if t then o else None) ≡ Some ledger → t ≡ true
only_where true o ledger e = refl
only_where false o ledger e = absurd (let bad : None ≡ Some ledger = e in cc)

then_is : (t : Bool) (o : Option Ledger) (ledger : Ledger) → (if t then o else None) ≡ Some ledger → o ≡ Some ledger
then_is true o ledger e = e
then_is false o ledger e = absurd (let bad : None ≡ Some ledger = e in cc)

probed_at : (t : ℕ) (s : Stage) → is_probed t s ≡ true → s ≡ Probed t
probed_at t (Probed at) e = ap Probed (eqb-true at t e)
probed_at t Unwarned e = absurd (false≢true e)
probed_at t (Warned at) e = absurd (false≢true e)
probed_at t (WarnFailed at) e = absurd (false≢true e)

-- an address was probed for a set that has a ledger
has_ledger : (p : Plain) (set : Set) (k : Text) (t : ℕ) → (entry_under k (ledger_of p set)).stage ≡ Probed t → (set ≡ sets.List) ⊎ (set ≡ sets.Digest)
has_ledger p sets.List k t e = inl refl
has_ledger p sets.Digest k t e = inr refl
has_ledger p sets.Allow k t e = absurd (let bad : Unwarned ≡ Probed t = e in cc)
has_ledger p sets.Deny k t e = absurd (let bad : Unwarned ≡ Probed t = e in cc)
has_ledger p sets.Moderators k t e = absurd (let bad : Unwarned ≡ Probed t = e in cc)

probed_by : (W : Set → Text → Type 0) (p : Plain) (set : Set) (x : Text) (o : Option Ledger) → ((ledger : Ledger) → o ≡ Some ledger → W set (key x)) → By W p (bouncing.if_probed p set x o).0
probed_by W p set x None h = none W p p refl
probed_by W p set x (Some ledger) h = one W p set x (h ledger refl)

requested_by : (p : Plain) (item : Item) (sender recipient m : Text) → item.act ≡ Deliver sender recipient m
    → is_worn p ≡ false → (r : PlainRequest) → request_of p.config.local p.config.host recipient ≡ Some r → By (Ways p item) p (managing.by_request item.moment sender m p r).0
unfolding OfMembers
requested_by p item sender recipient m act fresh (Bounce set number who) is = none (Ways p item) p _ (changed_same p set _)
requested_by p item sender recipient m act fresh (WarnBounce set s) is = none (Ways p item) p _ (changed_same p set _)
requested_by p item sender recipient m act fresh (ProbeBounce set s) is =
    let x = bouncing.address_named s.who in
    probed_by (Ways p item) p set x _ (λ ledger e.
    let parts = and_parts (is_in p set x) (is_good p (codes "probe") set s.time (key x) s.cookie item.moment) (only_where _ _ ledger e) in
    let stage = (entry_under (key x) (ledger_of p set)).stage in
    let probed = only_where (is_probed s.time stage) _ ledger (then_is _ _ ledger e) in
    inr (
      of_members p.config.local p.config.host recipient (ProbeBounce set s) is,
      inr (inr (
        s.time,
        record {
          sender = sender;
          signed = s;
          which = has_ledger p set (key x) s.time (probed_at s.time stage probed);
          asks = record { recipient = recipient; message = m; act = act; request_is = is };
          is = refl;
          time_is = refl;
          good = parts.1;
          stage = probed_at s.time stage probed;
          told = delivered p item sender recipient m (ProbeBounce set s) act fresh is ∙ ap (λ o. (bouncing.if_probed p set x o).1) e;
        },
      )),
    ))
requested_by p item sender recipient m act fresh (ReplyBounce set) is = none (Ways p item) p p refl
requested_by p item sender recipient m act fresh Owner is = none (Ways p item) p _ refl
requested_by p item sender recipient m act fresh Post is = none (Ways p item) p _ (verdict_same item.moment sender m p (verdict p sender m))
requested_by p item sender recipient m act fresh r is = asked_by p item sender recipient m act r is (address_of sender) refl

received_by : (p : Plain) (item : Item) (sender recipient m : Text) → item.act ≡ Deliver sender recipient m → is_worn p ≡ false
    → (o : Option PlainRequest) → request_of p.config.local p.config.host recipient ≡ o → By (Ways p item) p (managing.by_recipient item.moment sender m p o).0
received_by p item sender recipient m act fresh None e = none (Ways p item) p p refl
received_by p item sender recipient m act fresh (Some r) e = requested_by p item sender recipient m act fresh r e

worn_by : (W : Set → Text → Type 0) (p : Plain) (r : Plain × Reply) (worn : Bool) → (worn ≡ false → By W p r.0) → By W p (if_worn p r worn).0
worn_by W p r true h = none W p p refl
worn_by W p r false h = h refl

if_by : (W : Set → Text → Type 0) (p : Plain) (a b : Plain × Reply) (t : Bool) → By W p a.0 → By W p b.0 → By W p (if t then a else b).0
if_by W p a b true h k = h
if_by W p a b false h k = k

act_by : (p : Plain) (item : Item) (a : Act) → item.act ≡ a → By (Ways p item) p (steps.act_step p item.moment a).0
act_by p item (Deliver sender recipient m) e =
    worn_by (Ways p item) p (managing.by_recipient item.moment sender m p (request_of p.config.local p.config.host recipient)) (is_worn p)
    (λ fresh. received_by p item sender recipient m e fresh (request_of p.config.local p.config.host recipient) refl)
act_by p item Timed e = worn_by (Ways p item) p _ (is_worn p) (λ fresh. none (Ways p item) p _ (timed_same item.moment p))
act_by p item (Add set who) e =
    first_row_all (λ qr. By (Ways p item) p qr.0) (steps.add_cases p set who) (added set who item.moment p, answers.subscribed)
    (none (Ways p item) p p refl, (none (Ways p item) p p refl, tt))
    (record { by = λ s k there gone. absurd (true≢false (sym (none_added p set who item.moment s k there) ∙ gone)) })
act_by p item (Remove set who) e =
    if_by (Ways p item) p (removed set who p, answers.unsubscribed) (p, answers.absent) (is_in p set who)
    (one (Ways p item) p set who (inl (record { who = who; act = e; is = refl }))) (none (Ways p item) p p refl)
act_by p item (Sent id) e = if_by (Ways p item) p _ _ (is_some (thing_of id p.queue)) (none (Ways p item) p _ refl) (none (Ways p item) p p refl)
act_by p item (Rekey k) e = if_by (Ways p item) p _ _ (steps.is_recent item.moment p.keys.former) (none (Ways p item) p p refl) (none (Ways p item) p _ refl)
act_by p item (Floor at) e = none (Ways p item) p p refl

pub law_leaving : LawLeaving
unfolding steps.step0
law_leaving p item set k leaves = (act_by p item item.act refl).by set k leaves.there leaves.gone

-- Nothing that the list knows and may put into the header of a mail has an LF, and no step changes that.
use Rattle.std.proofs.Common.{◌≡◌, ℕ, ◌+◌, ◌-◌, Bool, true, false, cond, not, ◌==◌, ◌&&◌, nat_lt, nat_le, is_ok, is_some, List, [], ◌∷◌, ◌++◌, length, Option, Some, None, IfSome, refl, sym, ap, subst, ◌∙◌, codes, if◌then◌else◌}
use Rattle.std.specs.List.{AllByRecursion, fold}
use Rattle.std.specs.Option.{option_map, option_map_or}
use Rattle.std.specs.Fmt.{decimal}
use Rattle.std.specs.Ordering.{nat_cmp, eq_by_cmp}
use Rattle.std.specs.declared.cmp.Ordering.{Ordering}
use Rattle.std.specs.declared.cmp.Ordering.TheVariants.{Less, Equal, Greater}
use Rattle.std.specs.FinMap.Entries.{by_order}
use Rattle.ml_base.specs.Address.{key, address_check, address_of, as_address}
use Rattle.ml_base.specs.Bytes.{Text, lower, is_empty}
use Rattle.ml_base.specs.Cuts.{within, one_or_within}
use Rattle.ml_base.specs.Drawn.{Drawn, thing_of}
use Rattle.ml_base.specs.Name.{set_number, set_word}
use Rattle.ml_base.specs.Sorted.{byte_cmp, entry_of, with_entry}
use Rattle.ml_base.specs.Splits.{has_byte}
use Rattle.ml_base.specs.declared.names.Set.{Set}
use Rattle.ml_base.specs.declared.names.Set.TheVariants as sets
use Rattle.ml_base.proofs.Bools.{both}
use Rattle.ml_address.specs.Requests.{PlainWho, PlainRequest, Post, Owner, Subscribe, Unsubscribe, Members, Confirm, Get, Index, Thread, Accept, Reject, Bounce, WarnBounce, ProbeBounce, ReplyBounce, Help, Other, word_text, is_who, is_asked, is_signed, if_who}
use Rattle.ml_address.specs.Reading.{request_of}
use Rattle.ml_address.specs.declared.Path.{Path}
use Rattle.ml_address.specs.declared.Word.{Word}
use Rattle.ml_address.specs.declared.Word.TheVariants as words
use Rattle.ml_address.proofs.Inverse.{request_is}
use Rattle.ml_filing.specs.Subjects.{subject}
use Rattle.ml_bounce.specs.Ledger.{Ledger, forget}
use Rattle.ml_bounce.specs.declared.entries.Stage.{Stage}
use Rattle.ml_bounce.specs.declared.entries.Stage.TheVariants.{Unwarned, Warned, WarnFailed, Probed}
use Rattle.ml_bounce.specs.declared.entries.LedgerEntry.{LedgerEntry}
use Rattle.ml_config.specs.declared.configuration.Config.{Config}
use Rattle.ml_digest.specs.declared.posts.Range.{Range}
use Rattle.ml_hold.specs.Held.{Pending, hold, without_ticket, older_posts}
use Rattle.ml_hold.specs.declared.posts.Held.{Held}
use Rattle.ml_header.specs.Fields.{fields, body, has_field}
use Rattle.ml_queue.specs.Queue.{Queue, without_id}
use Rattle.ml_reply.specs.Mails.{letter_of, mail_text}
use Rattle.ml_reply.specs.declared.mails.Mail.{Mail}
use Rattle.ml_reply.specs.declared.mails.Mail.TheVariants as mails
use Rattle.ml_subs.specs.Members.{member_key, member_of, with_member, without_member}
use Rattle.ml_subs.specs.declared.member_list.Member.{Member}
use Rattle.ml_plain.specs.declared.Item.{Item}
use Rattle.ml_plain.specs.declared.Act.{Act}
use Rattle.ml_plain.specs.declared.Act.TheVariants.{Deliver, Timed, Add, Remove, Sent, Rekey, Floor}
use Rattle.ml_plain.specs.declared.Reply.{Reply}
use Rattle.ml_plain.specs.Answers as answers
use Rattle.ml_plain.specs.Bouncing as bouncing
use Rattle.ml_plain.specs.Histories.{fold_plain}
use Rattle.ml_plain.specs.Laws.{after}
use Rattle.ml_plain.specs.Mailing.{send, reply_path, post_path, digest_path, owner_address, bounce_mail, bounce_path, confirm_address, moderate_mail, question, is_good, is_cookie}
use Rattle.ml_plain.specs.MailFields.{HasNoLf}
use Rattle.ml_plain.specs.Managing as managing
use Rattle.ml_plain.specs.Plain.{Plain, Sets, new_list, with_members, with_ledger_of, ledger_of, added, removed, addresses, spelled_in, is_in, is_full, is_worn, is_archive_full, first_row}
use Rattle.ml_plain.specs.Posting as posting
use Rattle.ml_plain.specs.SentMails.{IsReadMail, IsSent, OfPost, OfIssue, ToOwner, OfMail, AddsAddress, LawSentMails}
use Rattle.ml_plain.specs.Steps as steps
use Rattle.ml_plain.specs.Timing as timing
use Rattle.ml_plain.specs.Verdicts.{Verdict, TooBig, BounceSender, Looped, Denied, NoSubject, CommandSubject, NotAddressed, UsersOnly, Held as HeldBack, Full, Posted, verdict, is_usable, is_command, is_addressed, is_user}
use Rattle.ml_plain.proofs.Deliveries.{if_worn}
use Rattle.ml_plain.proofs.MailLaw.{law_mails}
use Rattle.ml_plain.proofs.Mailed.{all-append}
use Rattle.ml_plain.proofs.OneLine.{Clean, address_line, sender_line, named_line, confirm_line, accept_line, own_clean}
use Rattle.ml_plain.proofs.PostLaw.{all-filter}
use Rattle.ml_plain.proofs.Steps.{first_row_all}

abbrev AreClean : List Member → Type 0
AreClean ms = AllByRecursion (λ m. Clean m.who) ms

abbrev SendersClean : List (Drawn Held) → Type 0
SendersClean es = AllByRecursion (λ e. Clean e.thing.sender) es

-- lists

module _ {E : Type 0} (P : E → Type 0) where
  within_all : (size : E → ℕ) (count room : ℕ) (es : List E) → AllByRecursion P es → AllByRecursion P (within size count room es)
  within_all size count room [] h = tt
  within_all size count room (e ∷ es) h = go (nat_lt 0 count && nat_le (size e) room) (within size (count - 1) (room - size e) es) (within_all size (count - 1) (room - size e) es h.1)
    where
      go : (t : Bool) (more : List E) → AllByRecursion P more → AllByRecursion P (cond t (e ∷ more) [])
      go true more rest = (h.0, rest)
      go false more rest = tt

  cut_all : (size : E → ℕ) (count room : ℕ) (es : List E) → AllByRecursion P es → AllByRecursion P (one_or_within size count room es)
  cut_all size count room [] h = tt
  cut_all size count room (e ∷ es) h = go (nat_le (size e) room) (within size (count - 1) (room - size e) es) (within_all size (count - 1) (room - size e) es h.1)
    where
      go : (t : Bool) (more : List E) → AllByRecursion P more → AllByRecursion P (cond t (e ∷ more) (e ∷ []))
      go true more rest = (h.0, rest)
      go false more rest = (h.0, tt)

  module _ {K : Type 0} (order : K → K → Ordering) (key_of : E → K) where
    found_all : (k : K) (es : List E) → AllByRecursion P es → IfSome (entry_of order key_of k es) P
    found_all k [] h = tt
    found_all k (e ∷ es) h = go (eq_by_cmp order k (key_of e)) (found_all k es h.1)
      where
        go : (t : Bool) → IfSome (entry_of order key_of k es) P → IfSome (cond t (Some e) (entry_of order key_of k es)) P
        go true more = h.0
        go false more = more

    put_all : (e : E) (es : List E) → P e → AllByRecursion P es → AllByRecursion P (with_entry order key_of e es)
    put_all e [] here h = (here, tt)
    put_all e (f ∷ fs) here h = go (order (key_of e) (key_of f)) (put_all e fs here h.1)
      where
        go : (o : Ordering) → AllByRecursion P (with_entry order key_of e fs) → AllByRecursion P (by_order o (e ∷ f ∷ fs) (e ∷ fs) (f ∷ with_entry order key_of e fs))
        go Less more = (here, h)
        go Equal more = (here, h.1)
        go Greater more = (h.0, more)

-- what the list knows: its configuration, members, held posts and queue
record Lines (c : Config) (p : Plain) : Type 0 where
  config : p.config ≡ c
  members : (set : Set) → AreClean (p.sets set)
  held : SendersClean p.held.all
  queue : AllByRecursion (λ e. IsSent c e.thing) p.queue.all

same_lines : (c : Config) (p q : Plain) → q.config ≡ p.config → q.sets ≡ p.sets → q.held ≡ p.held → q.queue ≡ p.queue → Lines c p → Lines c q
same_lines c p q config members held queue l = record {
  config = config ∙ l.config;
  members = subst (λ (all : Sets). (set : Set) → AreClean (all set)) (sym members) l.members;
  held = subst (λ (h : Pending). SendersClean h.all) (sym held) l.held;
  queue = subst (λ (u : Queue). AllByRecursion (λ e. IsSent c e.thing) u.all) (sym queue) l.queue;
}

ledger_lines : (c : Config) (p : Plain) (set : Set) (ledger : Ledger) → Lines c p → Lines c (with_ledger_of set ledger p)
ledger_lines c p sets.List ledger l = same_lines c p _ refl refl refl refl l
ledger_lines c p sets.Digest ledger l = same_lines c p _ refl refl refl refl l
ledger_lines c p sets.Allow ledger l = l
ledger_lines c p sets.Deny ledger l = l
ledger_lines c p sets.Moderators ledger l = l

set_lines : (c : Config) (p : Plain) (set : Set) (ms : List Member) → AreClean ms → Lines c p → Lines c (record p { sets = with_members set ms p.sets })
set_lines c p set ms clean l = record {
  config = l.config;
  members = λ s. go s (set_number s == set_number set);
  held = l.held;
  queue = l.queue;
}
  where
    go : (s : Set) (t : Bool) → AreClean (cond t ms (p.sets s))
    go s true = clean
    go s false = l.members s

added_lines : (c : Config) (p : Plain) (set : Set) (who : Text) (now : ℕ) → Clean who → Lines c p → Lines c (added set who now p)
added_lines c p set who now clean l =
    set_lines c p set (with_member (record { who = who; since = now }) (p.sets set))
    (put_all (λ m. Clean m.who) byte_cmp member_key (record { who = who; since = now }) (p.sets set) clean (l.members set)) l

removed_lines : (c : Config) (p : Plain) (set : Set) (who : Text) → Lines c p → Lines c (removed set who p)
removed_lines c p set who l =
    ledger_lines c (record p { sets = with_members set (without_member (key who) (p.sets set)) p.sets }) set (forget (key who) (ledger_of p set))
    (set_lines c p set (without_member (key who) (p.sets set)) (all-filter (λ m. Clean m.who) (λ m. not (eq_by_cmp byte_cmp (key who) (member_key m))) (p.sets set) (l.members set)) l)

freed_lines : (c : Config) (p : Plain) (ticket : ℕ) → Lines c p → Lines c (record p { held = without_ticket ticket p.held })
freed_lines c p ticket l = record {
  config = l.config;
  members = l.members;
  held = all-filter (λ e. Clean e.thing.sender) (λ e. not (e.number == ticket)) p.held.all l.held;
  queue = l.queue;
}

held_lines : (c : Config) (p : Plain) (held : Held) → Clean held.sender → Lines c p → Lines c (record p { held = hold held p.held })
held_lines c p held clean l = record {
  config = l.config;
  members = l.members;
  held = all-append (λ e. Clean e.thing.sender) p.held.all (record { number = p.held.next; thing = held } ∷ []) l.held (clean, tt);
  queue = l.queue;
}

-- a member's address as the set spells it
spelled_line : (c : Config) (p : Plain) (set : Set) (who : Text) → Lines c p → Clean who → Clean (spelled_in p set who)
spelled_line c p set who l clean = go (member_of (key who) (p.sets set)) (found_all (λ m. Clean m.who) byte_cmp member_key (key who) (p.sets set) (l.members set))
  where
    go : (o : Option Member) → IfSome o (λ m. Clean m.who) → Clean (option_map_or (λ m. m.who) o who)
    go None found = clean
    go (Some m) found = found

-- entries of the queue

sent_lines : (c : Config) (p : Plain) (way : Path) (body : Text) (to : List Text) → IsSent c (record { path = way; body = body; to = to }) → Lines c p → Lines c (send way body to p)
sent_lines c p way body to is l = record {
  config = l.config;
  members = l.members;
  held = l.held;
  queue = all-append (λ e. IsSent c e.thing) p.queue.all (record { number = p.queue.next; thing = record { path = way; body = body; to = to } } ∷ []) l.queue (is, tt);
}

-- from here on the list's own address has no LF
module _ (c : Config) (local : Clean c.local) (host : Clean c.host) where
  read_mail : (p : Plain) (mail : Mail) (now : ℕ) → Lines c p → Clean (letter_of c mail).to → IfSome (letter_of c mail).reply (λ r. Clean r) → IsReadMail c (mail_text p.config mail now)
  read_mail p mail now l to reply =
      let whole : mail_text p.config mail now ≡ mail_text c mail now = ap (λ c. mail_text c mail now) l.config in
      let none : HasNoLf c (letter_of c mail) = record { local = local; host = host; to = to; reply = reply } in
      let read = law_mails c mail now none in
      record {
        mail = mail;
        moment = now;
        whole = whole;
        fields_are = ap fields whole ∙ read.0;
        body_is = ap body whole ∙ read.1;
      }

  mail_lines : (p : Plain) (way : Path) (mail : Mail) (now : ℕ) (to : List Text) → Lines c p → Clean (letter_of c mail).to → IfSome (letter_of c mail).reply (λ r. Clean r)
      → Lines c (send way (mail_text p.config mail now) to p)
  mail_lines p way mail now to l clean reply = sent_lines c p way (mail_text p.config mail now) to (OfMail (read_mail p mail now l clean reply)) l

  owner_line : (p : Plain) → Lines c p → Clean (owner_address p.config)
  owner_line p l = ap (λ c. has_byte 10 (owner_address c)) l.config ∙ own_clean c.local c.host (codes "owner") local host refl

  own : (p : Plain) → Lines c p → Clean p.config.local × Clean p.config.host
  own p l = (ap (λ (c : Config). has_byte 10 c.local) l.config ∙ local, ap (λ (c : Config). has_byte 10 c.host) l.config ∙ host)

  confirm_clean : (p : Plain) (word : Word) (set : Set) (x : Text) (now : ℕ) → Lines c p → Clean x → Clean (confirm_address p word set x now)
  confirm_clean p word set x now l clean =
      let o = own p l in confirm_line p.config.local p.config.host o.0 o.1 word set now p.keys.key (word_text word) (set_word set) now (key x) x clean

  question_lines : (p : Plain) (word : Word) (way : Path) (to reply : Text) (set : Set) (x : Text) (now : ℕ) (all : List Text) → Lines c p → Clean to → Clean reply
      → Lines c (send way (mail_text p.config (question word to reply set x) now) all p)
  question_lines p words.Sc way to reply set x now all l clean r = mail_lines p way (mails.AskSc to reply set x) now all l clean r
  question_lines p words.Tc way to reply set x now all l clean r = mail_lines p way (mails.AskTc to reply set x) now all l clean r
  question_lines p words.Uc way to reply set x now all l clean r = mail_lines p way (mails.AskUc to reply set x) now all l clean r

  -- bounces

  changed_lines : (p : Plain) (set : Set) (o : Option Ledger) → Lines c p → Lines c (bouncing.if_changed p set o).0
  changed_lines p set None l = l
  changed_lines p set (Some ledger) l = ledger_lines c p set ledger l

  probed_lines : (p : Plain) (set : Set) (x : Text) (o : Option Ledger) → Lines c p → Lines c (bouncing.if_probed p set x o).0
  probed_lines p set x None l = l
  probed_lines p set x (Some ledger) l = removed_lines c p set x l

  -- requests

  joined_lines : (now : ℕ) (set : Set) (x : Text) (isfull : Bool) (p : Plain) → Clean x → Lines c p → Lines c (managing.joined now set x isfull p).0
  joined_lines now set x true p clean l = l
  joined_lines now set x false p clean l =
      mail_lines (added set x now p) (reply_path p.config) (mails.Welcome x set x) now (x ∷ []) (added_lines c p set x now clean l) clean tt

  left_lines : (now : ℕ) (set : Set) (x : Text) (p : Plain) → Clean x → Lines c p → Lines c (managing.left now set x p).0
  left_lines now set x p clean l =
      mail_lines (removed set x p) (reply_path (removed set x p).config) (mails.Goodbye x set x) now (x ∷ []) (removed_lines c p set x l) clean tt

  done_lines : (now : ℕ) (set : Set) (sender x : Text) (p : Plain) (operation : managing.Operation) → Clean sender → Clean x → Lines c p → Lines c (managing.done now set sender x p operation).0
  done_lines now set sender x p (managing.Only reply) s clean l = l
  done_lines now set sender x p managing.TellAlready s clean l = mail_lines p (reply_path p.config) (mails.Already sender set x) now (sender ∷ []) l s tt
  done_lines now set sender x p managing.TellAbsent s clean l = mail_lines p (reply_path p.config) (mails.Absent sender set x) now (sender ∷ []) l s tt
  done_lines now set sender x p (managing.AskSender word) s clean l =
      question_lines p word (reply_path p.config) sender (confirm_address p word set x now) set x now (sender ∷ []) l s (confirm_clean p word set x now l clean)
  done_lines now set sender x p (managing.AskSubject word) s clean l =
      question_lines p word (reply_path p.config) x (confirm_address p word set x now) set x now (x ∷ []) l clean (confirm_clean p word set x now l clean)
  done_lines now set sender x p managing.AskModerators s clean l =
      mail_lines p (reply_path p.config) (mails.AskTc (owner_address p.config) (confirm_address p words.Tc set x now) set x) now (addresses p sets.Moderators) l
      (owner_line p l) (confirm_clean p words.Tc set x now l clean)
  done_lines now set sender x p managing.Join s clean l = joined_lines now set x (is_full p set) p clean l
  done_lines now set sender x p managing.Leave s clean l = left_lines now set x p clean l

  -- posts

  posted_lines : (now : ℕ) (sender m : Text) (p : Plain) → Lines c p → Lines c (posting.posted_now now sender m p).0
  posted_lines now sender m p l =
      let text = posting.sent_text p.config m in
      let q : Plain = record p { posts = p.posts ++ record { sender = sender; moment = now; subject = subject text; bytes = text } ∷ [] } in
      sent_lines c q (post_path p.config (length p.posts + 1)) text (addresses p sets.List)
      (OfPost (length p.posts + 1) m (ap (λ c. post_path c (length p.posts + 1)) l.config) (ap (λ c. posting.sent_text c m) l.config)) (same_lines c p q refl refl refl refl l)

  held_now_lines : (now : ℕ) (sender m : Text) (p : Plain) → Clean sender → Lines c p → Lines c (posting.held_now now sender m p).0
  held_now_lines now sender m p clean l =
      let q : Plain = record p { held = hold (record { moment = now; sender = sender; message = m }) p.held } in
      let o = own p l in
      mail_lines q (reply_path p.config) (moderate_mail p p.held.next now m) now (addresses p sets.Moderators) (held_lines c p (record { moment = now; sender = sender; message = m }) clean l)
      (owner_line p l) (accept_line p.config.local p.config.host o.0 o.1 p.held.next p.keys.key (codes "hold") (set_word sets.Moderators) now (decimal p.held.next))

  by_verdict_lines : (now : ℕ) (sender m : Text) (p : Plain) (v : Verdict) → (v ≡ HeldBack → Clean (as_address sender)) → Lines c p → Lines c (posting.by_verdict now sender m p v).0
  by_verdict_lines now sender m p TooBig h l = l
  by_verdict_lines now sender m p BounceSender h l = l
  by_verdict_lines now sender m p Looped h l = l
  by_verdict_lines now sender m p Denied h l = l
  by_verdict_lines now sender m p NoSubject h l = l
  by_verdict_lines now sender m p CommandSubject h l = l
  by_verdict_lines now sender m p NotAddressed h l = l
  by_verdict_lines now sender m p UsersOnly h l = l
  by_verdict_lines now sender m p HeldBack h l = held_now_lines now (as_address sender) m p (h refl) l
  by_verdict_lines now sender m p Full h l = l
  by_verdict_lines now sender m p Posted h l = posted_lines now (as_address sender) m p l

  -- held posts

  accepted_lines : (now ticket : ℕ) (h : Held) (p : Plain) (isfull : Bool) → Lines c p → Lines c (managing.accepted now ticket h p isfull).0
  accepted_lines now ticket h p true l = l
  accepted_lines now ticket h p false l = posted_lines now h.sender h.message (record p { held = without_ticket ticket p.held }) (freed_lines c p ticket l)

  answered_lines : (now ticket : ℕ) (h : Held) (p : Plain) (accepts : Bool) → Clean h.sender → Lines c p → Lines c (managing.answered now ticket h p accepts).0
  answered_lines now ticket h p true clean l = accepted_lines now ticket h p (is_archive_full p) l
  answered_lines now ticket h p false clean l =
      mail_lines (record p { held = without_ticket ticket p.held }) (reply_path p.config) (mails.Rejected h.sender h.message) now (h.sender ∷ []) (freed_lines c p ticket l) clean tt

  signed_lines : (now ticket : ℕ) (h : Held) (p : Plain) (accepts good : Bool) → Clean h.sender → Lines c p → Lines c (managing.if_signed now ticket h p accepts good).0
  signed_lines now ticket h p accepts true clean l = answered_lines now ticket h p accepts clean l
  signed_lines now ticket h p accepts false clean l = l

  answer_lines : (now ticket : ℕ) (letters : Text) (p : Plain) (accepts : Bool) (o : Option (Drawn Held)) → IfSome o (λ e. Clean e.thing.sender) → Lines c p
      → Lines c (managing.answer_held now ticket letters p accepts (option_map (λ e. e.thing) o)).0
  answer_lines now ticket letters p accepts None found l = l
  answer_lines now ticket letters p accepts (Some e) found l =
      signed_lines now ticket e.thing p accepts (is_cookie p (codes "hold") sets.Moderators e.thing.moment (decimal ticket) letters) found l

  answer_any : (now ticket : ℕ) (letters : Text) (p : Plain) (accepts : Bool) → Lines c p → Lines c (managing.answer now ticket letters accepts p).0
  answer_any now ticket letters p accepts l =
      answer_lines now ticket letters p accepts (entry_of nat_cmp (λ e. e.number) ticket p.held.all) (found_all (λ e. Clean e.thing.sender) nat_cmp (λ e. e.number) ticket p.held.all l.held) l

  -- deliveries

  listed_lines : (now : ℕ) (sender : Text) (set : Set) (p : Plain) (may : Bool) → Clean sender → Lines c p → Lines c (managing.list_members now sender set p may).0
  listed_lines now sender set p true s l = mail_lines p (reply_path p.config) (mails.Members sender set (addresses p set)) now (sender ∷ []) l s tt
  listed_lines now sender set p false s l = l

  archive_lines : (now : ℕ) (sender : Text) (p : Plain) (may : Bool) (text : Text) → Clean sender → Lines c p → Lines c (managing.from_archive now sender p may text).0
  archive_lines now sender p true text s l = mail_lines p (reply_path p.config) (mails.Archive sender text) now (sender ∷ []) l s tt
  archive_lines now sender p false text s l = l

  subject_line : (p : Plain) (set : Set) (sender : Text) (who : Option PlainWho) → if_who who ≡ true → Clean sender → Lines c p → Clean (managing.subject_of p set sender who)
  subject_line p set sender None e s l = spelled_line c p set sender l s
  subject_line p set sender (Some w) e s l = spelled_line c p set (bouncing.address_named w) l (named_line w e)

  -- what a request names is an address
  Named : PlainRequest → Type 0
  Named (Subscribe set who) = if_who who ≡ true
  Named (Unsubscribe set who) = if_who who ≡ true
  Named (Confirm word set s) = is_who s.who ≡ true
  Named _ = Unit {0}

  managed_lines : (now : ℕ) (sender : Text) (p : Plain) (r : PlainRequest) → Named r → Clean sender → Lines c p → Lines c (managing.managed now sender p r).0
  unfolding Named
  managed_lines now sender p (Accept ticket letters) n s l = answer_any now ticket letters p true l
  managed_lines now sender p (Reject ticket letters) n s l = answer_any now ticket letters p false l
  managed_lines now sender p (Subscribe set who) n s l =
      let x = managing.subject_of p set sender who in done_lines now set sender x p (managing.subscribing p set sender x) s (subject_line p set sender who n s l) l
  managed_lines now sender p (Unsubscribe set who) n s l =
      let x = managing.subject_of p set sender who in done_lines now set sender x p (managing.unsubscribing p set sender x) s (subject_line p set sender who n s l) l
  managed_lines now sender p (Confirm word set sg) n s l =
      let x = managing.subject_of p set sender (Some sg.who) in
      let good = is_good p (word_text word) set sg.time (key x) sg.cookie now in
      done_lines now set sender x p (managing.confirming p set x word good) s (subject_line p set sender (Some sg.who) n s l) l
  managed_lines now sender p (Members set) n s l = listed_lines now sender set p _ s l
  managed_lines now sender p (Get from to) n s l = archive_lines now sender p _ _ s l
  managed_lines now sender p (Index at) n s l = archive_lines now sender p _ _ s l
  managed_lines now sender p (Thread at) n s l = archive_lines now sender p _ _ s l
  managed_lines now sender p _ n s l = mail_lines p (reply_path p.config) (mails.Help sender) now (sender ∷ []) l s tt

  looped_lines : (now : ℕ) (sender : Text) (p : Plain) (r : PlainRequest) (isloop : Bool) → Named r → Clean sender → Lines c p → Lines c (managing.unless_looped now sender p r isloop).0
  looped_lines now sender p r true n s l = l
  looped_lines now sender p r false n s l = managed_lines now sender p r n s l

  sender_lines : (now : ℕ) (m : Text) (p : Plain) (r : PlainRequest) (o : Option Text) → IfSome o (λ s. Clean s) → Named r → Lines c p → Lines c (managing.by_sender now m p r o).0
  sender_lines now m p r None s n l = l
  sender_lines now m p r (Some sender) s n l = looped_lines now sender p r _ n s l

  address_clean : (sender : Text) → IfSome (address_of sender) (λ s. Clean s)
  address_clean sender = go (is_ok (address_check sender)) refl
    where
      go : (t : Bool) → is_ok (address_check sender) ≡ t → IfSome (cond t (Some (as_address sender)) None) (λ s. Clean s)
      go true e = sender_line sender e
      go false e = tt

  -- only a post of a usable sender is held
  usable : (big good : Bool) (rest : List (Bool × Verdict)) → first_row ((big, TooBig) ∷ (not good, BounceSender) ∷ rest) Posted ≡ HeldBack → good ≡ true
  usable true good rest e = absurd (let bad : TooBig ≡ HeldBack = e in cc)
  usable false true rest e = refl
  usable false false rest e = absurd (let bad : BounceSender ≡ HeldBack = e in cc)

  held_clean : (p : Plain) (sender m : Text) → verdict p sender m ≡ HeldBack → Clean (as_address sender)
  unfolding verdict
  held_clean p sender m e =
      let others : List (Bool × Verdict) =
      (has_field (codes "mailing-list") m, Looped)
      ∷ (p.config.flags.k && is_in p sets.Deny sender, Denied)
      ∷ (is_empty (subject m), NoSubject)
      ∷ (is_command (lower (subject m)), CommandSubject)
      ∷ (not (is_addressed p.config m), NotAddressed)
      ∷ (p.config.flags.u && not (is_user p sender), UsersOnly)
      ∷ (p.config.flags.m, HeldBack)
      ∷ (is_archive_full p, Full)
      ∷ [] in
      sender_line sender (usable (nat_lt p.config.max (length m)) (is_usable sender) others e)

  request_lines : (now : ℕ) (sender m : Text) (p : Plain) (r : PlainRequest) → Named r → Lines c p → Lines c (managing.by_request now sender m p r).0
  request_lines now sender m p (Bounce set number who) n l = changed_lines p set _ l
  request_lines now sender m p (WarnBounce set s) n l = changed_lines p set _ l
  request_lines now sender m p (ProbeBounce set s) n l = probed_lines p set _ _ l
  request_lines now sender m p (ReplyBounce set) n l = l
  request_lines now sender m p Owner n l = sent_lines c p (reply_path p.config) m (p.config.owner ∷ []) (ToOwner (ap reply_path l.config) (ap (λ (c : Config). c.owner ∷ []) l.config)) l
  request_lines now sender m p Post n l = by_verdict_lines now sender m p (verdict p sender m) (held_clean p sender m) l
  request_lines now sender m p r n l = sender_lines now m p r (address_of sender) (address_clean sender) n l

  named : (local host t : Text) (r : PlainRequest) → request_of local host t ≡ Some r → Named r
  unfolding Named
  named local host t (Subscribe set who) e =
      let range = (request_is local host t (Subscribe set who) (λ bad. let no : Subscribe set who ≡ Other = bad in cc) e).0 in (both (is_asked set) (if_who who) range).1
  named local host t (Unsubscribe set who) e =
      let range = (request_is local host t (Unsubscribe set who) (λ bad. let no : Unsubscribe set who ≡ Other = bad in cc) e).0 in (both (is_asked set) (if_who who) range).1
  named local host t (Confirm word set s) e =
      let range = (request_is local host t (Confirm word set s) (λ bad. let no : Confirm word set s ≡ Other = bad in cc) e).0 in
      (both _ (is_who s.who) (both (is_asked set) (is_signed s) range).1).1
  named local host t Post e = tt
  named local host t Help e = tt
  named local host t Owner e = tt
  named local host t (Members set) e = tt
  named local host t (Get from to) e = tt
  named local host t (Index at) e = tt
  named local host t (Thread at) e = tt
  named local host t (Accept ticket cookie) e = tt
  named local host t (Reject ticket cookie) e = tt
  named local host t (Bounce set number who) e = tt
  named local host t (WarnBounce set s) e = tt
  named local host t (ProbeBounce set s) e = tt
  named local host t (ReplyBounce set) e = tt
  named local host t Other e = tt

  recipient_lines : (now : ℕ) (sender m : Text) (p : Plain) (o : Option PlainRequest) → IfSome o Named → Lines c p → Lines c (managing.by_recipient now sender m p o).0
  recipient_lines now sender m p None n l = l
  recipient_lines now sender m p (Some r) n l = request_lines now sender m p r n l

  all_named : (local host t : Text) → IfSome (request_of local host t) Named
  all_named local host t = go (request_of local host t) refl
    where
      go : (o : Option PlainRequest) → request_of local host t ≡ o → IfSome o Named
      go None e = tt
      go (Some r) e = named local host t r e

  worn_lines : (p : Plain) (r : Plain × Reply) (worn : Bool) → Lines c p → Lines c r.0 → Lines c (if_worn p r worn).0
  worn_lines p r true l more = l
  worn_lines p r false l more = more

  deliver_lines : (now : ℕ) (sender recipient m : Text) (p : Plain) → Lines c p → Lines c (managing.deliver now sender recipient m p).0
  deliver_lines now sender recipient m p l =
      worn_lines p (managing.by_recipient now sender m p (request_of p.config.local p.config.host recipient)) (is_worn p) l
      (recipient_lines now sender m p (request_of p.config.local p.config.host recipient) (all_named p.config.local p.config.host recipient) l)

  -- timed runs

  fold_lines : {A : Type 0} (P : A → Type 0) (f : Plain → A → Plain) → ((p : Plain) (a : A) → P a → Lines c p → Lines c (f p a)) → (xs : List A) (p : Plain) → AllByRecursion P xs → Lines c p
      → Lines c (fold f p xs)
  fold_lines P f each [] p all l = l
  fold_lines P f each (x ∷ xs) p all l = fold_lines P f each xs (f p x) all.1 (each p x all.0 l)

  given_lines : (now : ℕ) (p : Plain) (e : Drawn Held) → Clean e.thing.sender → Lines c p → Lines c (timing.give_back now p e)
  given_lines now p e clean l =
      mail_lines (record p { held = without_ticket e.number p.held }) (reply_path p.config) (mails.Expired e.thing.sender e.thing.message) now (e.thing.sender ∷ []) (freed_lines c p e.number l) clean tt

  issue_lines : (now : ℕ) (p : Plain) (o : Option Range) → Lines c p → Lines c (timing.issue now p o)
  issue_lines now p None l = l
  issue_lines now p (Some r) l =
      let q : Plain = record p { mark = record { last = r.last; issue = p.mark.issue + 1 } } in
      sent_lines c q (digest_path p.config (p.mark.issue + 1)) _ (addresses p sets.Digest)
      (OfIssue (p.mark.issue + 1) (ap (λ c. digest_path c (p.mark.issue + 1)) l.config)) (same_lines c p q refl refl refl refl l)

  digest_lines : (now : ℕ) (p : Plain) (wanted : Bool) (o : Option Range) → Lines c p → Lines c (elim wanted [ true ↦ timing.issue now p o | false ↦ p ])
  digest_lines now p true o l = issue_lines now p o l
  digest_lines now p false o l = l

  warned_lines : (now : ℕ) (set : Set) (e : LedgerEntry) (p : Plain) (o : Option Member) → IfSome o (λ m. Clean m.who) → Lines c p → Lines c (timing.warn_member now set e p o)
  warned_lines now set e p None found l = ledger_lines c p set _ l
  warned_lines now set e p (Some m) found l =
      let q = bounce_mail (codes "warn") set m.who now (mails.Warn m.who set m.who e.missed) p in
      ledger_lines c q set _ (mail_lines p (bounce_path p (codes "warn") set (key m.who) now) (mails.Warn m.who set m.who e.missed) now (m.who ∷ []) l found tt)

  probe_lines : (now : ℕ) (set : Set) (e : LedgerEntry) (p : Plain) (o : Option Member) → IfSome o (λ m. Clean m.who) → Lines c p → Lines c (timing.probe_member now set e p o)
  probe_lines now set e p None found l = ledger_lines c p set _ l
  probe_lines now set e p (Some m) found l =
      let q = bounce_mail (codes "probe") set m.who now (mails.Probe m.who set m.who) p in
      ledger_lines c q set _ (mail_lines p (bounce_path p (codes "probe") set (key m.who) now) (mails.Probe m.who set m.who) now (m.who ∷ []) l found tt)

  follow_lines : (now : ℕ) (set : Set) (e : LedgerEntry) (p : Plain) (stage : Stage) → Lines c p → Lines c (timing.follow_at now set e p stage)
  follow_lines now set e p Unwarned l = warned_lines now set e p _ (found_all (λ m. Clean m.who) byte_cmp member_key e.key (p.sets set) (l.members set)) l
  follow_lines now set e p (Warned t) l = ledger_lines c p set _ l
  follow_lines now set e p (WarnFailed t) l = probe_lines now set e p _ (found_all (λ m. Clean m.who) byte_cmp member_key e.key (p.sets set) (l.members set)) l
  follow_lines now set e p (Probed t) l = ledger_lines c p set _ l

  any_entry : {A : Type 0} (xs : List A) → AllByRecursion (λ x. Unit {0}) xs
  any_entry [] = tt
  any_entry (x ∷ xs) = (tt, any_entry xs)

  after_timed_lines : (now : ℕ) (p : Plain) → Lines c p → Lines c (timing.after_timed now p)
  after_timed_lines now p l =
      let old : SendersClean (timing.old_held now p) =
      cut_all (λ e. Clean e.thing.sender) (λ e. length e.thing.message) 1000 33_554_432 (older_posts now 432_000 p.held)
      (all-filter (λ e. Clean e.thing.sender) (λ e. nat_le 432_000 (now - e.thing.moment)) p.held.all l.held) in
      let back = timing.give_old_back now p in
      let back_lines : Lines c back = fold_lines (λ e. Clean e.thing.sender) (timing.give_back now) (given_lines now) (timing.old_held now p) p old l in
      let issue = timing.make_digest now back in
      let made = digest_lines now back back.config.flags.d (timing.digest_due now back) back_lines in
      fold_lines (λ e. Unit {0}) (timing.follow_up now) (λ q e any l. follow_lines now e.0 e.1 q e.1.stage l) (timing.all_due now issue) issue (any_entry (timing.all_due now issue)) made

  timed_lines : (now : ℕ) (p : Plain) → Lines c p → Lines c (timing.timed now p).0
  timed_lines now p l = worn_lines p (timing.after_timed now p, answers.timed ((timing.after_timed now p).queue.next - p.queue.next)) (is_worn p) l (after_timed_lines now p l)

  -- the operator's items

  add_lines : (now : ℕ) (set : Set) (who : Text) (p : Plain) → Clean who → Lines c p → Lines c (steps.add now set who p).0
  add_lines now set who p clean l =
      first_row_all (λ (qr : Plain × Reply). Lines c qr.0) (steps.add_cases p set who) (added set who now p, answers.subscribed) (l, (l, tt)) (added_lines c p set who now clean l)

  chosen : (a b : Plain × Reply) (t : Bool) → Lines c a.0 → Lines c b.0 → Lines c (if t then a else b).0
  chosen a b true la lb = la
  chosen a b false la lb = lb

  gone_lines : (p : Plain) (id : ℕ) → Lines c p → Lines c (record p { queue = without_id id p.queue })
  gone_lines p id l = record {
    config = l.config;
    members = l.members;
    held = l.held;
    queue = all-filter (λ e. IsSent c e.thing) (λ e. not (e.number == id)) p.queue.all l.queue;
  }

  act_lines : (p : Plain) (now : ℕ) (a : Act) → AddsAddress a → Lines c p → Lines c (steps.act_step p now a).0
  act_lines p now (Deliver sender recipient m) h l = deliver_lines now sender recipient m p l
  act_lines p now Timed h l = timed_lines now p l
  act_lines p now (Add set who) h l = add_lines now set who p (address_line who h) l
  act_lines p now (Remove set who) h l = chosen (removed set who p, answers.unsubscribed) (p, answers.absent) (is_in p set who) (removed_lines c p set who l) l
  act_lines p now (Sent id) h l = chosen (record p { queue = without_id id p.queue }, answers.dequeued) (p, answers.noentry) (is_some (thing_of id p.queue)) (gone_lines p id l) l
  act_lines p now (Rekey k) h l =
      let q : Plain = record p { keys = steps.changed_keys p.keys now k } in
      chosen (p, answers.toosoon) (q, answers.rekeyed) (steps.is_recent now p.keys.former) l (same_lines c p q refl refl refl refl l)
  act_lines p now (Floor at) h l = l

  step_lines : (p : Plain) (item : Item) → AddsAddress item.act → Lines c p → Lines c (steps.step0 p item).0
  unfolding steps.step0
  step_lines p item h l = act_lines p item.moment item.act h l

  lines_after : (h : List Item) (p : Plain) → AllByRecursion (λ item. AddsAddress item.act) h → Lines c p → Lines c (fold_plain p h)
  lines_after [] p all l = l
  lines_after (item ∷ items) p all l = lines_after items (steps.step0 p item).0 all.1 (step_lines p item all.0 l)

pub law_sent_mails : LawSentMails
law_sent_mails c k h local host all =
    let l : Lines c (after c k h) = lines_after c local host h (new_list c k) all (record { config = refl; members = λ set. tt; held = tt; queue = tt }) in
    l.queue

-- What a delivery does: the first rule that applies decides.
use Rattle.std.specs.Prelude.{ℕ, Bool, true, false, not, ◌&&◌, ◌||◌, [], ◌∷◌, Option, Some, None, codes, List}
use Rattle.std.specs.Option.{option_map_or}
use Rattle.std.specs.Str.{bytes_eq}
use Rattle.std.specs.Fmt.{decimal}
use Rattle.ml_base.specs.Bytes.{Text}
use Rattle.ml_base.specs.Address.{key, address_of}
use Rattle.ml_base.specs.declared.names.Set.{Set}
use Rattle.ml_base.specs.declared.names.Set.TheVariants as sets
use Rattle.ml_header.specs.Fields.{has_field}
use Rattle.ml_address.specs.declared.Word.{Word}
use Rattle.ml_address.specs.declared.Word.TheVariants as words
use Rattle.ml_address.specs.Requests.{PlainWho, Signed, PlainRequest, Post, Owner, Subscribe, Unsubscribe, Members, Confirm, Get, Index, Thread, Accept, Reject, Bounce, WarnBounce, ProbeBounce, ReplyBounce, word_text}
use Rattle.ml_address.specs.Reading.{request_of}
use Rattle.ml_hold.specs.Held.{held_post, without_ticket}
use Rattle.ml_hold.specs.declared.posts.Held.{Held}
use Rattle.ml_reply.specs.declared.mails.Mail.TheVariants as mails
use Rattle.ml_plain.specs.declared.Reply.{Reply}
use Rattle.ml_plain.specs.Answers as answers
use Rattle.ml_plain.specs.ArchiveText.{get_text, thread_text, index_text}
use Rattle.ml_plain.specs.Bouncing.{address_named, bounced, warning_bounced, probe_bounced}
use Rattle.ml_plain.specs.Mailing.{send, reply_path, mail_to, ask, ask_moderators, is_cookie, is_good}
use Rattle.ml_plain.specs.Plain.{Plain, is_in, is_moderator, spelled_in, addresses, is_full, is_archive_full, is_worn, added, removed, first_row}
use Rattle.ml_plain.specs.Posting.{post, posted_now}

-- the address that a request is about: the one that it names, or the sender's; if a member of the set has its key, it is spelled as
-- in the set
abbrev pub subject_of : Plain → Set → Text → Option PlainWho → Text
subject_of p set sender who = spelled_in p set (option_map_or address_named who sender)

-- the same address, in any spelling
abbrev pub is_same : Text → Text → Bool
is_same a b = bytes_eq (key a) (key b)

-- a moderator who may administer the list by mail
abbrev pub is_admin : Plain → Text → Bool
is_admin p sender = is_moderator p sender && p.config.flags.r

-- the set is neither list nor digest, so that only such a moderator may change it, and the sender isn't one
abbrev pub is_closed : Plain → Set → Text → Bool
is_closed p sets.List sender = false
is_closed p sets.Digest sender = false
is_closed p sets.Allow sender = not (is_admin p sender)
is_closed p sets.Deny sender = not (is_admin p sender)
is_closed p sets.Moderators sender = not (is_admin p sender)

-- what is done about an address X that is to join or leave a set
pub data Operation : Type 0 where
  -- only a reply
  Only : (reply : Reply) → Operation
  -- a mail tells the sender that X is a member, or isn't
  TellAlready : Operation
  TellAbsent : Operation
  -- the sender, X or the moderators are asked to confirm it
  AskSender : (word : Word) → Operation
  AskSubject : (word : Word) → Operation
  AskModerators : Operation
  -- X joins or leaves
  Join : Operation
  Leave : Operation

-- X joins the set, unless it is full
abbrev pub joined : ℕ → Set → Text → Bool → Plain → Plain × Reply
joined now set x true p = (p, answers.full)
joined now set x false p = (mail_to x now (mails.Welcome x set x) (added set x now p), answers.subscribed)

-- X leaves the set
abbrev pub left : ℕ → Set → Text → Plain → Plain × Reply
left now set x p = (mail_to x now (mails.Goodbye x set x) (removed set x p), answers.unsubscribed)

-- what each operation does about an address X that the sender asks about, and how it is answered
abbrev pub done : ℕ → Set → Text → Text → Plain → Operation → Plain × Reply
done now set sender x p (Only reply) = (p, reply)
done now set sender x p TellAlready = (mail_to sender now (mails.Already sender set x) p, answers.already)
done now set sender x p TellAbsent = (mail_to sender now (mails.Absent sender set x) p, answers.absent)
done now set sender x p (AskSender word) = (ask sender now word set x p, answers.asked)
done now set sender x p (AskSubject word) = (ask x now word set x p, answers.asked)
done now set sender x p AskModerators = (ask_moderators now set x p, answers.asked)
done now set sender x p Join = joined now set x (is_full p set) p
done now set sender x p Leave = left now set x p

-- the cases when X is to join a set; the first that applies decides
abbrev pub subscribe_cases : Plain → Set → Text → Text → List (Bool × Operation)
subscribe_cases p set sender x =
    (is_closed p set sender, Only answers.private)
    ∷ (not p.config.flags.p && not (is_moderator p sender), Only answers.private)
    ∷ (is_in p set x, TellAlready)
    ∷ (is_admin p sender, AskSender words.Tc)
    ∷ (p.config.flags.h && is_same x sender && not p.config.flags.s, Join)
    ∷ (p.config.flags.h && is_same x sender && p.config.flags.s, AskModerators)
    ∷ []

-- the cases when X is to leave a set
abbrev pub unsubscribe_cases : Plain → Set → Text → Text → List (Bool × Operation)
unsubscribe_cases p set sender x =
    (is_closed p set sender, Only answers.private)
    ∷ (not (is_in p set x), TellAbsent)
    ∷ (is_admin p sender, AskSender words.Uc)
    ∷ (p.config.flags.j && is_same x sender, Leave)
    ∷ []

-- the cases when somebody confirms that X is to join a set or to leave it, with letters that are a good cookie or not
abbrev pub confirm_cases : Plain → Set → Text → Word → Bool → List (Bool × Operation)
confirm_cases p set x words.Uc good = (not good, Only answers.badcookie) ∷ (not (is_in p set x), Only answers.absent) ∷ []
confirm_cases p set x words.Sc good = (not good, Only answers.badcookie) ∷ (is_in p set x, Only answers.already) ∷ (p.config.flags.s, AskModerators) ∷ []
confirm_cases p set x words.Tc good = (not good, Only answers.badcookie) ∷ (is_in p set x, Only answers.already) ∷ []

-- what is confirmed
abbrev pub confirmed : Word → Operation
confirmed words.Uc = Leave
confirmed words.Sc = Join
confirmed words.Tc = Join

-- what is done when X is to join a set: the first case that applies; if none does, X is asked to confirm
abbrev pub subscribing : Plain → Set → Text → Text → Operation
subscribing p set sender x = first_row (subscribe_cases p set sender x) (AskSubject words.Sc)

-- what is done when X is to leave a set: the first case that applies; if none does, X is asked to confirm
abbrev pub unsubscribing : Plain → Set → Text → Text → Operation
unsubscribing p set sender x = first_row (unsubscribe_cases p set sender x) (AskSubject words.Uc)

-- what is done when somebody confirms: the first case that applies; if none does, what he confirms
abbrev pub confirming : Plain → Set → Text → Word → Bool → Operation
confirming p set x word good = first_row (confirm_cases p set x word good) (confirmed word)

-- a sender asks that X joins a set
abbrev pub subscribe : ℕ → Text → Set → Text → Plain → Plain × Reply
subscribe now sender set x p = done now set sender x p (subscribing p set sender x)

-- a sender asks that X leaves a set
abbrev pub unsubscribe : ℕ → Text → Set → Text → Plain → Plain × Reply
unsubscribe now sender set x p = done now set sender x p (unsubscribing p set sender x)

-- a sender confirms that X joins or leaves a set, with a cookie for X
abbrev pub confirm : ℕ → Text → Word → Set → Signed → Text → Plain → Plain × Reply
confirm now sender word set s x p =
    done now set sender x p (confirming p set x word (is_good p (word_text word) set s.time (key x) s.cookie now))

-- the members of a set, for moderators if `l` is set
abbrev pub list_members : ℕ → Text → Set → Plain → Bool → Plain × Reply
list_members now sender set p true = (mail_to sender now (mails.Members sender set (addresses p set)) p, answers.members)
list_members now sender set p false = (p, answers.private)

-- the archive is open to moderators; unless `b` is set or `p` clear, also to all, or if `g` is set only to the members of list and digest
abbrev pub may_read : Plain → Text → Bool
may_read p sender =
    is_moderator p sender
    || (not p.config.flags.b && p.config.flags.p && (not p.config.flags.g || is_in p sets.List sender || is_in p sets.Digest sender))

-- a text of the archive, for those to whom it is open
abbrev pub from_archive : ℕ → Text → Plain → Bool → Text → Plain × Reply
from_archive now sender p true text = (mail_to sender now (mails.Archive sender text) p, answers.archive)
from_archive now sender p false text = (p, answers.private)

-- the post is posted and no longer held, unless the archive is full
abbrev pub accepted : ℕ → ℕ → Held → Plain → Bool → Plain × Reply
accepted now ticket h p true = (p, answers.full)
accepted now ticket h p false = posted_now now h.sender h.message (record p { held = without_ticket ticket p.held })

-- a moderator accepts a post, or rejects it, which gives it back to its sender
abbrev pub answered : ℕ → ℕ → Held → Plain → Bool → Plain × Reply
answered now ticket h p true = accepted now ticket h p (is_archive_full p)
answered now ticket h p false =
    (mail_to h.sender now (mails.Rejected h.sender h.message) (record p { held = without_ticket ticket p.held }), answers.rejected)

-- the same, if his letters are the held post's cookie, whatever its age
abbrev pub if_signed : ℕ → ℕ → Held → Plain → Bool → Bool → Plain × Reply
if_signed now ticket h p accepts true = answered now ticket h p accepts
if_signed now ticket h p accepts false = (p, answers.badcookie)

-- his answer about a post; it is answered `gone` if the post is held no longer
abbrev pub answer_held : ℕ → ℕ → Text → Plain → Bool → Option Held → Plain × Reply
answer_held now ticket letters p accepts None = (p, answers.gone)
answer_held now ticket letters p accepts (Some h) =
    if_signed now ticket h p accepts (is_cookie p (codes "hold") sets.Moderators h.moment (decimal ticket) letters)

-- a moderator's answer
abbrev pub answer : ℕ → ℕ → Text → Bool → Plain → Plain × Reply
answer now ticket letters accepts p = answer_held now ticket letters p accepts (held_post ticket p.held)

-- help for the sender
abbrev pub helped : ℕ → Text → Plain → Plain × Reply
helped now sender p = (mail_to sender now (mails.Help sender) p, answers.help)

-- the message goes on to the owner, unchanged
abbrev pub to_owner : Text → Plain → Plain × Reply
to_owner m p = (send (reply_path p.config) m (p.config.owner ∷ []) p, answers.owner)

-- a request of a sender, whose address is checked
abbrev pub managed : ℕ → Text → Plain → PlainRequest → Plain × Reply
managed now sender p (Accept ticket letters) = answer now ticket letters true p
managed now sender p (Reject ticket letters) = answer now ticket letters false p
managed now sender p (Subscribe set who) = subscribe now sender set (subject_of p set sender who) p
managed now sender p (Unsubscribe set who) = unsubscribe now sender set (subject_of p set sender who) p
managed now sender p (Confirm word set s) = confirm now sender word set s (subject_of p set sender (Some s.who)) p
managed now sender p (Members set) = list_members now sender set p (p.config.flags.l && is_moderator p sender)
managed now sender p (Get from to) = from_archive now sender p (may_read p sender) (get_text p from to)
managed now sender p (Index at) = from_archive now sender p (may_read p sender) (index_text p at)
managed now sender p (Thread at) = from_archive now sender p (may_read p sender) (thread_text p at)
managed now sender p _ = helped now sender p

-- a message of the list itself, or of another one, asks nothing
abbrev pub unless_looped : ℕ → Text → Plain → PlainRequest → Bool → Plain × Reply
unless_looped now sender p request true = (p, answers.looped)
unless_looped now sender p request false = managed now sender p request

-- nor does one without a usable sender
abbrev pub by_sender : ℕ → Text → Plain → PlainRequest → Option Text → Plain × Reply
by_sender now m p request None = (p, answers.nosender)
by_sender now m p request (Some sender) = unless_looped now sender p request (has_field (codes "mailing-list") m)

-- bounces, mail to the owner and posts, whoever sent them, and the other requests
abbrev pub by_request : ℕ → Text → Text → Plain → PlainRequest → Plain × Reply
by_request now sender m p (Bounce set number who) = bounced now set number (address_named who) p
by_request now sender m p (WarnBounce set s) = warning_bounced now set s (address_named s.who) p
by_request now sender m p (ProbeBounce set s) = probe_bounced now set s (address_named s.who) p
by_request now sender m p (ReplyBounce set) = (p, answers.ignored)
by_request now sender m p Owner = to_owner m p
by_request now sender m p Post = post now sender m p
by_request now sender m p request = by_sender now m p request (address_of sender)

-- what the recipient's address asks for, if it is one of the list's
abbrev pub by_recipient : ℕ → Text → Text → Plain → Option PlainRequest → Plain × Reply
by_recipient now sender m p None = (p, answers.notours)
by_recipient now sender m p (Some request) = by_request now sender m p request

-- a delivery
abbrev pub deliver : ℕ → Text → Text → Text → Plain → Plain × Reply
deliver now sender recipient m p =
    elim (is_worn p) [
      | true ↦ (p, answers.full)
      | false ↦ by_recipient now sender m p (request_of p.config.local p.config.host recipient)
    ]

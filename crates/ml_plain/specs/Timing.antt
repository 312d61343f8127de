-- What a timed run does: held posts go back, a digest is made, and bounces are followed up.
use Rattle.std.specs.Prelude.{ℕ, ◌+◌, ◌-◌, true, false, List, [], ◌∷◌, ◌++◌, length, map, take, drop, fold, Option, Some, None, codes}
use Rattle.ml_base.specs.Cuts.{one_or_within}
use Rattle.ml_base.specs.Drawn.{Drawn}
use Rattle.ml_base.specs.declared.names.Set.{Set}
use Rattle.ml_base.specs.declared.names.Set.TheVariants as sets
use Rattle.ml_filing.specs.declared.posts.Post.{Post}
use Rattle.ml_hold.specs.Held.{older_posts, without_ticket}
use Rattle.ml_hold.specs.declared.posts.Held.{Held}
use Rattle.ml_digest.specs.Due.{due}
use Rattle.ml_digest.specs.Digest.{digest_text}
use Rattle.ml_digest.specs.declared.posts.Range.{Range}
use Rattle.ml_digest.specs.declared.posts.DigestPost.{DigestPost}
use Rattle.ml_bounce.specs.Ledger.{forget}
use Rattle.ml_bounce.specs.declared.entries.Stage.{Stage}
use Rattle.ml_bounce.specs.declared.entries.Stage.TheVariants.{Unwarned, Warned, WarnFailed, Probed}
use Rattle.ml_bounce.specs.declared.entries.LedgerEntry.{LedgerEntry}
use Rattle.ml_bounce.specs.Changes.{due_entries, act}
use Rattle.ml_reply.specs.Dates.{date_text}
use Rattle.ml_reply.specs.declared.mails.Mail.TheVariants as mails
use Rattle.ml_subs.specs.Members.{member_of}
use Rattle.ml_subs.specs.declared.member_list.Member.{Member}
use Rattle.ml_plain.specs.declared.Reply.{Reply}
use Rattle.ml_plain.specs.Answers as answers
use Rattle.ml_plain.specs.Mailing.{digest_path, send, mail_to, bounce_mail}
use Rattle.ml_plain.specs.Plain.{Plain, addresses, ledger_of, with_ledger_of, is_worn}

-- a held post goes back to its sender
abbrev pub give_back : ℕ → Plain → Drawn Held → Plain
give_back now p e = mail_to e.thing.sender now (mails.Expired e.thing.sender e.thing.message) (record p { held = without_ticket e.number p.held })

-- the posts that have been held for 432,000 seconds, in the order of tickets: at most 1,000 of them, and at most 33,554,432 bytes of
-- messages together, but the first one always
abbrev pub old_held : ℕ → Plain → List (Drawn Held)
old_held now p = one_or_within (λ e. length e.thing.message) 1000 33_554_432 (older_posts now 432_000 p.held)

-- they go back
abbrev pub give_old_back : ℕ → Plain → Plain
give_old_back now p = fold (give_back now) p (old_held now p)

-- the posts that are in no digest yet
abbrev pub undigested : Plain → List Post
undigested p = drop p.mark.last p.posts

-- when the first of some posts was posted
abbrev pub moment_of_first : List Post → ℕ
moment_of_first [] = 0
moment_of_first (post ∷ posts) = post.moment

-- the posts of the digest that is due
abbrev pub digest_due : ℕ → Plain → Option Range
digest_due now p = due p.mark.last (map (λ post. length post.bytes) (undigested p)) (moment_of_first (undigested p)) now

-- a post as a digest has it
abbrev pub digest_post : Post → DigestPost
digest_post post = record { subject = post.subject; bytes = post.bytes }

-- the posts of a range
abbrev pub posts_in : Range → List Post → List Post
posts_in r posts = take (r.last + 1 - r.first) (drop (r.first - 1) posts)

-- an issue of these posts goes to the digest set as it is, and the mark moves to its last post
abbrev pub issue : ℕ → Plain → Option Range → Plain
issue now p None = p
issue now p (Some r) =
    send (digest_path p.config (p.mark.issue + 1))
    (digest_text p.config (p.mark.issue + 1) r.first (map digest_post (posts_in r p.posts)) (date_text now))
    (addresses p sets.Digest)
    (record p { mark = record { last = r.last; issue = p.mark.issue + 1 } })

-- on a list with digests, the one that is due is made
abbrev pub make_digest : ℕ → Plain → Plain
make_digest now p = elim p.config.flags.d [ true ↦ issue now p (digest_due now p) | false ↦ p ]

-- what follows for a due entry of a set: its stage changes
abbrev pub change_entry : ℕ → Set → LedgerEntry → Plain → Plain
change_entry now set e p = with_ledger_of set (act now e (ledger_of p set)) p

-- what follows for a due entry whose key is no member: it goes
abbrev pub drop_entry : Set → LedgerEntry → Plain → Plain
drop_entry set e p = with_ledger_of set (forget e.key (ledger_of p set)) p

-- a member is warned of the numbers that he missed; if the key is no member's, the entry goes
abbrev pub warn_member : ℕ → Set → LedgerEntry → Plain → Option Member → Plain
warn_member now set e p None = drop_entry set e p
warn_member now set e p (Some m) = change_entry now set e (bounce_mail (codes "warn") set m.who now (mails.Warn m.who set m.who e.missed) p)

-- a member is probed; if the key is no member's, the entry goes
abbrev pub probe_member : ℕ → Set → LedgerEntry → Plain → Option Member → Plain
probe_member now set e p None = drop_entry set e p
probe_member now set e p (Some m) = change_entry now set e (bounce_mail (codes "probe") set m.who now (mails.Probe m.who set m.who) p)

-- what follows for a due entry, by its stage
abbrev pub follow_at : ℕ → Set → LedgerEntry → Plain → Stage → Plain
follow_at now set e p Unwarned = warn_member now set e p (member_of e.key (p.sets set))
follow_at now set e p (Warned t) = change_entry now set e p
follow_at now set e p (WarnFailed t) = probe_member now set e p (member_of e.key (p.sets set))
follow_at now set e p (Probed t) = change_entry now set e p

-- a due entry of a set
abbrev pub follow_up : ℕ → Plain → Set × LedgerEntry → Plain
follow_up now p e = follow_at now e.0 e.1 p e.1.stage

-- the due entries of a set, in the order of keys
abbrev pub due_of : ℕ → Set → Plain → List (Set × LedgerEntry)
due_of now set p = map (λ e. (set, e)) (due_entries now (ledger_of p set))

-- the first 1,000 of the due entries, those of the set list before those of the set digest
abbrev pub all_due : ℕ → Plain → List (Set × LedgerEntry)
all_due now p = take 1000 (due_of now sets.List p ++ due_of now sets.Digest p)

-- they are followed up
abbrev pub follow_all_up : ℕ → Plain → Plain
follow_all_up now p = fold (follow_up now) p (all_due now p)

-- the three parts of a timed run, in this order
abbrev pub after_timed : ℕ → Plain → Plain
after_timed now p = follow_all_up now (make_digest now (give_old_back now p))

-- a timed run, whose reply says how many queue entries it made
abbrev pub timed : ℕ → Plain → Plain × Reply
timed now p =
    elim (is_worn p) [
      | true ↦ (p, answers.full)
      | false ↦ let q = after_timed now p in (q, answers.timed (q.queue.next - p.queue.next))
    ]

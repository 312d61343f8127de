-- What a post does: by its verdict it is posted, held or refused.
use Rattle.std.specs.Prelude.{ℕ, ◌+◌, not, ◌&&◌, [], ◌∷◌, ◌++◌, length, Option, Some, None, if◌then◌else◌}
use Rattle.ml_base.specs.Bytes.{Text, is_empty}
use Rattle.ml_base.specs.Address.{as_address}
use Rattle.ml_base.specs.declared.names.Set.TheVariants as sets
use Rattle.ml_header.specs.Rewriting.{rewritten}
use Rattle.ml_header.specs.Sent.{list_lines, left_out, list_trailer}
use Rattle.ml_filing.specs.Subjects.{subject}
use Rattle.ml_config.specs.declared.configuration.Config.{Config}
use Rattle.ml_hold.specs.Held.{hold}
use Rattle.ml_plain.specs.declared.Reply.{Reply}
use Rattle.ml_plain.specs.Answers.{posted, held, toobig, nosender, looped, denied, nosubject, command, notaddressed, usersonly, full}
use Rattle.ml_plain.specs.Mailing.{post_path, send, mail_moderators, moderate_mail}
use Rattle.ml_plain.specs.Plain.{Plain, addresses}
use Rattle.ml_plain.specs.Verdicts.{Verdict, TooBig, BounceSender, Looped, Denied, NoSubject, CommandSubject, NotAddressed, UsersOnly, Held, Full, Posted, verdict}

-- the prefix of subjects, if they are marked with one
abbrev pub prefix_of : Config → Option Text
prefix_of c = if c.flags.f && not (is_empty c.prefix) then Some c.prefix else None

-- the trailer, if there is one
abbrev pub trailer_of : Config → Option Text
trailer_of c = if c.flags.t then Some (list_trailer c.local c.host) else None

-- the text that the list sends of a message
unfoldable pub sent_text : Config → Text → Text
sent_text c m = rewritten m left_out (list_lines c.local c.host) (prefix_of c) (trailer_of c)

-- a post of this sender with this text goes to the end of the archive, and to the end of the queue, for the set list as it is
abbrev pub with_text : ℕ → Text → Text → ℕ → Plain → Plain
with_text now sender text n p =
    send (post_path p.config n) text (addresses p sets.List)
    (record p { posts = p.posts ++ record { sender = sender; moment = now; subject = subject text; bytes = text } ∷ [] })

-- a message is posted, under the next number
abbrev pub posted_now : ℕ → Text → Text → Plain → Plain × Reply
posted_now now sender m p =
    (with_text now sender (sent_text p.config m) (length p.posts + 1) p, posted (length p.posts + 1))

-- a message is held under the next ticket, and the moderators are asked
abbrev pub held_now : ℕ → Text → Text → Plain → Plain × Reply
held_now now sender m p =
    (mail_moderators now (moderate_mail p p.held.next now m) (record p { held = hold (record { moment = now; sender = sender; message = m }) p.held }), held p.held.next)

-- what follows a verdict; the sender is kept as a checked address
abbrev pub by_verdict : ℕ → Text → Text → Plain → Verdict → Plain × Reply
by_verdict now sender m p TooBig = (p, toobig)
by_verdict now sender m p BounceSender = (p, nosender)
by_verdict now sender m p Looped = (p, looped)
by_verdict now sender m p Denied = (p, denied)
by_verdict now sender m p NoSubject = (p, nosubject)
by_verdict now sender m p CommandSubject = (p, command)
by_verdict now sender m p NotAddressed = (p, notaddressed)
by_verdict now sender m p UsersOnly = (p, usersonly)
by_verdict now sender m p Held = held_now now (as_address sender) m p
by_verdict now sender m p Full = (p, full)
by_verdict now sender m p Posted = posted_now now (as_address sender) m p

-- a delivery to the list's own address
abbrev pub post : ℕ → Text → Text → Plain → Plain × Reply
post now sender m p = by_verdict now sender m p (verdict p sender m)

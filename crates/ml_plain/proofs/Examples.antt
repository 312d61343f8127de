-- Worked examples: the codes of replies, posts, verdicts on them, and a floor.
use Rattle.std.proofs.Common.{◌≡◌, true, [], ◌∷◌, ◌++◌, Some, refl, codes, length, map}
use Rattle.std.specs.Fmt.{digits}
use Rattle.std.specs.Option.{option_map}
use Rattle.ml_base.specs.declared.names.Set.TheVariants as sets
use Rattle.ml_address.specs.Reading.{request_of}
use Rattle.ml_queue.specs.Queue.{entry}
use Rattle.ml_plain.specs.declared.Act.TheVariants.{Add, Floor, Sent}
use Rattle.ml_plain.specs.Answers as answers
use Rattle.ml_plain.specs.Plain.{new_list}
use Rattle.ml_plain.specs.Posting.{sent_text}
use Rattle.ml_plain.specs.Replies.{word_of}
use Rattle.ml_plain.specs.Steps.{step0}
use Rattle.ml_plain.specs.Histories.{State, fresh, step, fold, text}
use Rattle.ml_plain.specs.Verdicts.{verdict}
use Rattle.ml_plain.proofs.ExampleItems.{usual, config, a_list, three, about, m, to_list, item, add, add_to, deliver, post_20}

-- every reply has the code of its word
own_words : map (λ r. word_of r.code) (answers.posted 0 ∷ answers.held 0 ∷ answers.timed 0 ∷ answers.subscribed ∷ answers.already ∷ answers.unsubscribed ∷ answers.absent ∷ answers.asked ∷ answers.archive ∷ answers.help ∷ answers.owner ∷ answers.members ∷ answers.bounce ∷ answers.ignored ∷ answers.dropped ∷ answers.rejected ∷ answers.gone ∷ answers.dequeued ∷ answers.noentry ∷ answers.full ∷ answers.toobig ∷ answers.nosender ∷ answers.looped ∷ answers.denied ∷ answers.nosubject ∷ answers.command ∷ answers.notaddressed ∷ answers.usersonly ∷ answers.notours ∷ answers.badcookie ∷ answers.private ∷ answers.rekeyed ∷ answers.toosoon ∷ answers.floored 0 ∷ answers.stale ∷ answers.badfloor ∷ [])
    ≡ codes "posted" ∷ codes "held" ∷ codes "timed" ∷ codes "subscribed" ∷ codes "already" ∷ codes "unsubscribed" ∷ codes "absent" ∷ codes "asked" ∷ codes "archive" ∷ codes "help" ∷ codes "owner" ∷ codes "members" ∷ codes "bounce" ∷ codes "ignored" ∷ codes "dropped" ∷ codes "rejected" ∷ codes "gone" ∷ codes "dequeued" ∷ codes "noentry" ∷ codes "full" ∷ codes "toobig" ∷ codes "nosender" ∷ codes "looped" ∷ codes "denied" ∷ codes "nosubject" ∷ codes "command" ∷ codes "notaddressed" ∷ codes "usersonly" ∷ codes "notours" ∷ codes "badcookie" ∷ codes "private" ∷ codes "rekeyed" ∷ codes "toosoon" ∷ codes "floored" ∷ codes "stale" ∷ codes "badfloor" ∷ []
own_words = refl

first_post : text three (post_20 ∷ []) ≡ codes "20 0 posted 1\n"
unfolding step step0 request_of verdict sent_text digits
first_post = refl

its_bytes : map (λ p. length p.bytes) (fold three (post_20 ∷ [])).plain.posts ≡ 321 ∷ []
unfolding step step0 request_of verdict sent_text digits
its_bytes = refl

its_recipients : option_map (λ out. out.to) (entry 1 (fold three (post_20 ∷ [])).plain.queue) ≡ Some (codes "a@b" ∷ codes "c@d" ∷ codes "e@f" ∷ [])
unfolding step step0 request_of verdict sent_text digits
its_recipients = refl

its_path : option_map (λ out. out.path) (entry 1 (fold three (post_20 ∷ [])).plain.queue) ≡ Some (record { base = codes "list-return-1-"; host = codes "ex.org"; each = true })
unfolding step step0 request_of verdict sent_text digits
its_path = refl

-- a repeat with another message, and then two posts without a number
repeated : text three (post_20 ∷ deliver 20 1000000100 (codes "a@b") to_list [] ∷ deliver 0 1000000000 (codes "g@h") to_list m ∷ deliver 0 1000000000 (codes "g@h") to_list m ∷ [])
    ≡ codes "20 0 posted 1\n20 0 posted 1\n0 0 posted 2\n0 0 posted 3\n"
unfolding step step0 request_of verdict sent_text digits
repeated = refl

-- a sent entry
sent_entry : text (fold three (post_20 ∷ [])) (item 50 1000000300 (Sent 1) ∷ item 51 1000000300 (Sent 1) ∷ []) ≡ codes "50 0 dequeued\n51 100 noentry\n"
unfolding step step0 request_of verdict sent_text digits
sent_entry = refl

-- refused posts on a usual list
refused : text (a_list usual) (
    deliver 21 0 (codes "g@h") (codes "other@ex.org") m
    ∷ deliver 22 0 [] to_list m
    ∷ deliver 0 0 (codes "#@[]") to_list m
    ∷ deliver 1 0 (codes "a@b") to_list (codes "MAILING-LIST: x\n" ++ about (codes "unsubscribe"))
    ∷ deliver 2 0 (codes "a@b") to_list (about (codes "UnSubscribe"))
    ∷ deliver 3 0 (codes "a@b") to_list (codes "Subject: x")
    ∷ deliver 4 0 (codes "a@b") to_list (codes "Sub" ++ 0 ∷ codes "ject: x\n" ++ m)
    ∷ deliver 5 0 (codes "a@b") to_list []
    ∷ deliver 6 0 (codes "a@b") to_list (codes "To: xlist@ex.org, list@ex.org.uk, <a-list@ex.org>\nSubject: x\n\n")
    ∷ [])
    ≡ codes "21 100 notours\n22 100 nosender\n0 100 nosender\n1 100 looped\n2 100 command\n3 100 notaddressed\n4 100 nosubject\n5 100 nosubject\n6 100 notaddressed\n"
unfolding step step0 request_of verdict sent_text digits
refused = refl

-- the list's address is in brackets, in the second Cc field
addressed : text (a_list usual) (deliver 6 0 (codes "a@b") to_list (codes "Cc: x\nCc: The list <LIST@ex.org>\nSubject: x\n\n") ∷ []) ≡ codes "6 0 posted 1\n"
unfolding step step0 request_of verdict sent_text digits
addressed = refl

too_big : text (fresh (new_list (record (config usual) { max = 44 }) [])) (deliver 23 0 (codes "a@b") to_list m ∷ []) ≡ codes "23 100 toobig\n"
unfolding step step0 request_of verdict sent_text digits
too_big = refl

not_too_big : text (fresh (new_list (record (config usual) { max = 45 }) [])) (deliver 23 0 (codes "a@b") to_list m ∷ []) ≡ codes "23 0 posted 1\n"
unfolding step step0 request_of verdict sent_text digits
not_too_big = refl

users_only : text (a_list (record usual { u = true })) (deliver 24 0 (codes "g@h") to_list m ∷ add_to sets.Allow (codes "g@h") ∷ deliver 25 0 (codes "G@H") to_list m ∷ [])
    ≡ codes "24 100 usersonly\n0 0 subscribed\n25 0 posted 1\n"
unfolding step step0 request_of verdict sent_text digits
users_only = refl

denied : text (a_list (record usual { k = true })) (add_to sets.Deny (codes "g@h") ∷ deliver 25 0 (codes "G@H") to_list m ∷ []) ≡ codes "0 0 subscribed\n25 100 denied\n"
unfolding step step0 request_of verdict sent_text digits
denied = refl

-- ids are worn out
worn : text (fresh (record (new_list (config usual) []) { queue = record { all = []; next = 999999999997001 } })) (deliver 1 0 (codes "g@h") (codes "other@ex.org") m ∷ add (codes "a@b") ∷ []) ≡ codes "1 100 full\n0 0 subscribed\n"
unfolding step step0 request_of verdict sent_text digits
worn = refl

-- a floor that makes old numbers stale
abbrev twice : State
twice = fold (a_list usual) (item 7 1000000000 (Add sets.List (codes "a@b")) ∷ item 8 1000000001 (Add sets.List (codes "A@B")) ∷ [])

floors : text twice (
    item 7 1000000002 (Add sets.List (codes "x@y")) ∷ item 90 1000000500 (Floor 50) ∷ item 7 1000000000 (Add sets.List (codes "a@b")) ∷ item 90 1000000500 (Floor 50)
    ∷ item 91 1000000501 (Floor 20) ∷ item 92 1000000502 (Floor 100) ∷ item 0 1000000503 (Floor 600000) ∷ [])
    ≡ codes "7 0 subscribed\n90 0 floored 50\n7 100 stale\n90 0 floored 50\n91 0 floored 50\n92 100 badfloor\n0 100 badfloor\n"
unfolding step step0 digits
floors = refl

-- The replies, each under its word.
use Rattle.std.specs.Prelude.{ℕ}
use Rattle.ml_plain.specs.declared.Reply.{Reply}

-- the reply of a code that has no number
abbrev pub plain : ℕ → Reply
plain code = record { code = code; number = 0 }

-- a post was taken, under this number
abbrev pub posted : ℕ → Reply
posted n = record { code = 1; number = n }

-- a post is held, under this ticket
abbrev pub held : ℕ → Reply
held ticket = record { code = 2; number = ticket }

-- the timed run made so many queue entries
abbrev pub timed : ℕ → Reply
timed count = record { code = 3; number = count }

-- the floor is this
abbrev pub floored : ℕ → Reply
floored at = record { code = 34; number = at }

-- the address was added
abbrev pub subscribed : Reply
subscribed = plain 4

-- the address was in the set before
abbrev pub already : Reply
already = plain 5

-- the address was removed
abbrev pub unsubscribed : Reply
unsubscribed = plain 6

-- the address wasn't in the set
abbrev pub absent : Reply
absent = plain 7

-- somebody was asked for a confirmation
abbrev pub asked : Reply
asked = plain 8

-- a part of the archive was sent
abbrev pub archive : Reply
archive = plain 9

-- the help text was sent
abbrev pub help : Reply
help = plain 10

-- the message was sent on to the owner
abbrev pub owner : Reply
owner = plain 11

-- the members of a set were sent
abbrev pub members : Reply
members = plain 12

-- a bounce was noted
abbrev pub bounce : Reply
bounce = plain 13

-- a bounce that changes nothing
abbrev pub ignored : Reply
ignored = plain 14

-- a probe's bounce dropped the address
abbrev pub dropped : Reply
dropped = plain 15

-- a held post was rejected
abbrev pub rejected : Reply
rejected = plain 16

-- no post is held under the ticket
abbrev pub gone : Reply
gone = plain 17

-- a queue entry was removed
abbrev pub dequeued : Reply
dequeued = plain 18

-- the queue has no entry with this id
abbrev pub noentry : Reply
noentry = plain 19

-- there is no room: in the set, in the archive, or for ids and tickets
abbrev pub full : Reply
full = plain 20

-- the message is longer than the list allows
abbrev pub toobig : Reply
toobig = plain 21

-- the message has no sender that is an address
abbrev pub nosender : Reply
nosender = plain 22

-- the message has been through a list already
abbrev pub looped : Reply
looped = plain 23

-- the sender is in the set deny
abbrev pub denied : Reply
denied = plain 24

-- the message has no subject
abbrev pub nosubject : Reply
nosubject = plain 25

-- the subject looks like a command
abbrev pub command : Reply
command = plain 26

-- the message doesn't name the list as a recipient
abbrev pub notaddressed : Reply
notaddressed = plain 27

-- the sender of the post is in none of the sets list, digest, allow and mod
abbrev pub usersonly : Reply
usersonly = plain 28

-- the recipient isn't an address of this list
abbrev pub notours : Reply
notours = plain 29

-- the cookie is wrong or too old
abbrev pub badcookie : Reply
badcookie = plain 30

-- the list doesn't grant the request to this sender
abbrev pub private : Reply
private = plain 31

-- the key was changed
abbrev pub rekeyed : Reply
rekeyed = plain 32

-- the last change of the key is too recent
abbrev pub toosoon : Reply
toosoon = plain 33

-- the item's number is below the floor
abbrev pub stale : Reply
stale = plain 35

-- the floor can't be raised so far
abbrev pub badfloor : Reply
badfloor = plain 36

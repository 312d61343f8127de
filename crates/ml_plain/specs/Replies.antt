-- The codes of replies, and their lines.
use Rattle.std.specs.Prelude.{ℕ, ◌-◌, Bool, true, false, ◌&&◌, ◌||◌, nat_le, ◌==◌, if◌then◌else◌, List, [], ◌∷◌, ◌++◌, codes}
use Rattle.std.specs.Fmt.{decimal}
use Rattle.ml_base.specs.Bytes.{Text, line_feed, space}
use Rattle.ml_plain.specs.declared.Reply.{Reply}

-- what a code says: its word, its exit status, and whether the reply's number is written
pub record Kind : Type 0 where
  pub word : Text
  pub status : ℕ
  pub numbered : Bool

-- done: the status is 0
abbrev pub done : Text → Kind
done word = record { word = word; status = 0; numbered = false }

-- done, and a number says which or how many
abbrev pub counted : Text → Kind
counted word = record { word = word; status = 0; numbered = true }

-- refused for good: the status is 100
abbrev pub refused : Text → Kind
refused word = record { word = word; status = 100; numbered = false }

-- the kinds of the codes from 1 on, in order
abbrev pub kinds : List Kind
kinds =
    counted (codes "posted") ∷
    counted (codes "held") ∷
    counted (codes "timed") ∷
    done (codes "subscribed") ∷
    done (codes "already") ∷
    done (codes "unsubscribed") ∷
    done (codes "absent") ∷
    done (codes "asked") ∷
    done (codes "archive") ∷
    done (codes "help") ∷
    done (codes "owner") ∷
    done (codes "members") ∷
    done (codes "bounce") ∷
    done (codes "ignored") ∷
    done (codes "dropped") ∷
    done (codes "rejected") ∷
    refused (codes "gone") ∷
    done (codes "dequeued") ∷
    refused (codes "noentry") ∷
    refused (codes "full") ∷
    refused (codes "toobig") ∷
    refused (codes "nosender") ∷
    refused (codes "looped") ∷
    refused (codes "denied") ∷
    refused (codes "nosubject") ∷
    refused (codes "command") ∷
    refused (codes "notaddressed") ∷
    refused (codes "usersonly") ∷
    refused (codes "notours") ∷
    refused (codes "badcookie") ∷
    refused (codes "private") ∷
    done (codes "rekeyed") ∷
    refused (codes "toosoon") ∷
    counted (codes "floored") ∷
    refused (codes "stale") ∷
    refused (codes "badfloor") ∷
    []

-- the codes are 1 to 36
abbrev pub is_code : ℕ → Bool
is_code code = nat_le 1 code && nat_le code 36

-- the statuses of replies: done, or refused for good
abbrev pub is_status : ℕ → Bool
is_status status = status == 0 || status == 100

-- the kind at a place, counted from 0
abbrev pub kind_at : List Kind → ℕ → Kind
kind_at [] k = done []
kind_at (kind ∷ rest) k = if k == 0 then kind else kind_at rest (k - 1)

-- the kind of a code
abbrev pub kind_of : ℕ → Kind
kind_of code = kind_at kinds (code - 1)

-- a code's word
abbrev pub word_of : ℕ → Text
word_of code = (kind_of code).word

-- the exit status that a code stands for
abbrev pub status_of : ℕ → ℕ
status_of code = (kind_of code).status

-- a code whose line has the reply's number
abbrev pub is_numbered : ℕ → Bool
is_numbered code = (kind_of code).numbered

-- what follows the word: a space and the number, if the code has one
abbrev pub number_part : Reply → Text
number_part reply = if is_numbered reply.code then space ∷ decimal reply.number else []

-- the line that answers an item
abbrev pub line : ℕ → Reply → Text
line number reply = decimal number ++ space ∷ decimal (status_of reply.code) ++ space ∷ word_of reply.code ++ number_part reply ++ line_feed ∷ []

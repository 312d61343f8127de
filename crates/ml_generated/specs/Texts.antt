-- The texts in the items of an exercise.
use Rattle.std.specs.Prelude.{ℕ, ◌*◌, ◌/◌, ◌%◌, max, [], ◌∷◌, ◌++◌, codes}
use Rattle.std.specs.Fmt.{decimal}
use Rattle.ml_base.specs.Bytes.{Text, at_sign, line_feed}

-- the person that an item is about, one of 97
abbrev pub person : ℕ → ℕ
person i = (37 * i) % 97

-- that person's address
abbrev pub address : ℕ → Text
address i = codes "u" ++ decimal (person i) ++ codes "@ex.com"

-- the address of a list with this local part and host
abbrev pub list_address : Text → Text → Text
list_address local host = local ++ at_sign ∷ host

-- the address of the list to which one writes to join it
abbrev pub request_address : Text → Text → Text
request_address local host = local ++ codes "-subscribe" ++ at_sign ∷ host

-- the post that bounces: a tenth of the item's number, and at least 1
abbrev pub bounced_post : ℕ → ℕ
bounced_post i = max 1 (i / 10)

-- the envelope sender with which that post was sent to the item's person
abbrev pub bounce_address : Text → Text → ℕ → Text
bounce_address local host i =
    local ++ codes "-return-" ++ decimal (bounced_post i) ++ codes "-u" ++ decimal (person i) ++ codes "=ex.com" ++ at_sign ∷ host

-- a line with its LF
abbrev pub line : Text → Text
line text = text ++ line_feed ∷ []

-- a message of the item's person to the list, with one of seven subjects
abbrev pub message : Text → Text → ℕ → Text
message local host i =
    line (codes "From: " ++ address i) ++ line (codes "To: " ++ list_address local host) ++ line (codes "Subject: topic " ++ decimal (i % 7)) ++ line []
    ++ line (codes "post " ++ decimal i)

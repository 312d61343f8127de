-- The verdict on a post: one of the refusals, or that it is held or posted.
use Rattle.std.specs.Prelude.{ℕ, Bool, true, false, not, ◌&&◌, ◌||◌, ◌==◌, nat_lt, [], ◌∷◌, ◌++◌, length, is_ok, slice_get, Option, Some, None, codes}
use Rattle.std.specs.List.{list_any}
use Rattle.std.specs.Char.{is_ascii_alphanumeric}
use Rattle.std.specs.Str.{bytes_eq}
use Rattle.ml_base.specs.Bytes.{Text, lower, is_empty, hyphen}
use Rattle.ml_base.specs.Address.{address_check}
use Rattle.ml_base.specs.Texts.{post_address}
use Rattle.ml_base.specs.declared.names.Set.TheVariants as sets
use Rattle.ml_header.specs.Lines.{begins_with}
use Rattle.ml_header.specs.Fields.{FieldText, fields_named, has_field}
use Rattle.ml_filing.specs.Subjects.{subject}
use Rattle.ml_config.specs.declared.configuration.Config.{Config}
use Rattle.ml_plain.specs.Plain.{Plain, is_in, is_archive_full, first_row}

-- what is found of a post
pub data Verdict : Type 0 where
  TooBig : Verdict
  BounceSender : Verdict
  Looped : Verdict
  Denied : Verdict
  NoSubject : Verdict
  CommandSubject : Verdict
  NotAddressed : Verdict
  UsersOnly : Verdict
  Held : Verdict
  Full : Verdict
  Posted : Verdict

-- an envelope sender that is an address; the empty one and `#@[]` are none
abbrev pub is_usable : Text → Bool
is_usable sender = is_ok (address_check sender)

-- the subjects that look like commands
abbrev pub is_command : Text → Bool
is_command text = list_any (bytes_eq text) (codes "subscribe" ∷ codes "unsubscribe" ∷ codes "help" ∷ codes "remove" ∷ codes "signoff" ∷ [])

-- a byte that continues an address to the right: a letter, a digit, `-` or `.`
abbrev pub goes_on_right : ℕ → Bool
goes_on_right b = is_ascii_alphanumeric b || b == hyphen || b == 46

-- a byte that continues an address to the left: one of these, or `_`, `+` or `=`
abbrev pub goes_on_left : ℕ → Bool
goes_on_left b = goes_on_right b || b == 95 || b == 43 || b == 61

-- no byte there, or one that fails the test
abbrev pub is_free : (ℕ → Bool) → Option ℕ → Bool
is_free goes_on None = true
is_free goes_on (Some b) = not (goes_on b)

-- a text that begins with an address, which the next byte doesn't continue
abbrev pub begins_with_address : Text → Text → Bool
begins_with_address address text = begins_with address text && is_free goes_on_right (slice_get text (length address))

-- a text, with the byte before it, that has an address at some place, which no byte on either side continues
abbrev pub has_address : Text → Option ℕ → Text → Bool
has_address address before [] = false
has_address address before (b ∷ bs) = (is_free goes_on_left before && begins_with_address address (b ∷ bs)) || has_address address (Some b) bs

-- a field that names the list
abbrev pub names_list : Config → FieldText → Bool
names_list c f = has_address (lower (post_address c.local c.host)) None (lower f.value)

-- a To or Cc field names the list
abbrev pub is_addressed : Config → Text → Bool
is_addressed c m = list_any (names_list c) (fields_named (codes "to") m ++ fields_named (codes "cc") m)

-- the sender is in one of the sets whose members may post if not all may
abbrev pub is_user : Plain → Text → Bool
is_user p sender = is_in p sets.List sender || is_in p sets.Digest sender || is_in p sets.Allow sender || is_in p sets.Moderators sender

-- the first of these rows whose test holds; if none does, the post is posted
unfoldable pub verdict : Plain → Text → Text → Verdict
verdict p sender m = first_row (
    (nat_lt p.config.max (length m), TooBig)
    ∷ (not (is_usable sender), BounceSender)
    ∷ (has_field (codes "mailing-list") m, Looped)
    ∷ (p.config.flags.k && is_in p sets.Deny sender, Denied)
    ∷ (is_empty (subject m), NoSubject)
    ∷ (is_command (lower (subject m)), CommandSubject)
    ∷ (not (is_addressed p.config m), NotAddressed)
    ∷ (p.config.flags.u && not (is_user p sender), UsersOnly)
    ∷ (p.config.flags.m, Held)
    ∷ (is_archive_full p, Full)
    ∷ []) Posted

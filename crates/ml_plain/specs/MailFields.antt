-- The fields that the header of a mail of the list has.
use Rattle.std.specs.Prelude.{◌≡◌, ℕ, false, List, [], ◌∷◌, ◌++◌, Option, Some, None, IfSome, codes}
use Rattle.ml_base.specs.Bytes.{Text, colon, space}
use Rattle.ml_base.specs.Splits.{has_byte}
use Rattle.ml_base.specs.Texts.{lf, list_address}
use Rattle.ml_config.specs.declared.configuration.Config.{Config}
use Rattle.ml_header.specs.Fields.{FieldText, fields, body}
use Rattle.ml_reply.specs.Dates.{date_text}
use Rattle.ml_reply.specs.Mails.{Letter, letter_of, mail_text}
use Rattle.ml_reply.specs.declared.mails.Mail.{Mail}

-- a field of one line: its value is a space, what was put after that, and the line's LF
abbrev pub one_line : Text → Text → FieldText
one_line name text = record { name = name; value = space ∷ text ++ lf; lines = name ++ colon ∷ (space ∷ text ++ lf) }

abbrev pub reply_field : Option Text → List FieldText
reply_field None = []
reply_field (Some reply) = one_line (codes "Reply-To") reply ∷ []

-- the fields of a mail, in order
abbrev pub mail_fields : Config → Letter → ℕ → List FieldText
mail_fields c l moment =
    one_line (codes "Mailing-List") (codes "contact " ++ list_address c.local c.host (codes "help") ++ codes "; run by ezmlm")
    ∷ one_line (codes "Precedence") (codes "bulk")
    ∷ one_line (codes "From") (list_address c.local c.host (codes "help"))
    ∷ one_line (codes "To") l.to
    ∷ reply_field l.reply
    ++ (one_line (codes "Date") (date_text moment)
    ∷ one_line (codes "Subject") l.subject
    ∷ [])

-- neither the list's address, nor the recipient, nor the address for answers has an LF
pub record HasNoLf (c : Config) (l : Letter) : Type 0 where
  pub local : has_byte 10 c.local ≡ false
  pub host : has_byte 10 c.host ≡ false
  pub to : has_byte 10 l.to ≡ false
  pub reply : IfSome l.reply (λ r. has_byte 10 r ≡ false)

-- A mail is read as these fields, and as the body that was put after them. So nobody who is named in its header can add a field to
-- it or end its header.
abbrev pub LawMails : Type 0
LawMails = (c : Config) (mail : Mail) (moment : ℕ) → HasNoLf c (letter_of c mail) →
    (fields (mail_text c mail moment) ≡ mail_fields c (letter_of c mail) moment) × (body (mail_text c mail moment) ≡ (letter_of c mail).text)

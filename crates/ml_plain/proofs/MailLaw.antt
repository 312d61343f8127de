-- What the list puts into the header of a mail has no LF, so the header is read as it was written.
use Rattle.std.proofs.Common.{◌≡◌, ℕ, zero, suc, ◌+◌, ◌-◌, ◌*◌, ◌/◌, ◌%◌, true, false, ◌==◌, ◌||◌, List, [], ◌∷◌, ◌++◌, take, drop, map, codes, Option, Some, None, IfSome, refl, ap, ap₂, ◌∙◌, arith}
use Rattle.std.specs.Fmt.{decimal}
use Rattle.ml_base.specs.Bytes.{Text}
use Rattle.ml_base.specs.Name.{two_digits, set_word}
use Rattle.ml_base.specs.Splits.{has_byte}
use Rattle.ml_base.specs.Texts.{list_address, lines_text}
use Rattle.ml_base.proofs.Bools.{neither}
use Rattle.ml_config.specs.declared.configuration.Config.{Config}
use Rattle.ml_header.specs.Fields.{is_name, fields, body}
use Rattle.ml_reply.specs.Dates.{Civil, three, four_digits, day_text, time_text, date_text, civil_of, weekday}
use Rattle.ml_reply.specs.Mails.{Letter, letter_of, letter_head, mail_text, the_list}
use Rattle.ml_reply.specs.declared.mails.Mail.{Mail}
use Rattle.ml_reply.specs.declared.mails.Mail.TheVariants.{AskSc, AskTc, AskUc, Welcome, Goodbye, Already, Absent, Help, Members, Moderate, Rejected, Expired, Warn, Probe, Archive}
use Rattle.ml_plain.specs.MailFields.{mail_fields, HasNoLf, LawMails}
use Rattle.ml_plain.proofs.OneLine.{Clean, clean_both, one_more, decimal_clean, own_clean, set_clean}
use Rattle.ml_plain.proofs.HeaderRows.{IsLine, AreLines, field_at, line_at, row_read}

taken : (n : ℕ) (text : Text) → Clean text → Clean (take n text)
taken zero text clean = refl
taken (suc n) [] clean = refl
taken (suc n) (b ∷ bs) clean = let parts = neither (b == 10) (has_byte 10 bs) clean in ap₂ (λ s t. s || t) parts.0 (taken n bs parts.1)

dropped : (n : ℕ) (text : Text) → Clean text → Clean (drop n text)
dropped zero text clean = clean
dropped (suc n) [] clean = refl
dropped (suc n) (b ∷ bs) clean = dropped n bs (neither (b == 10) (has_byte 10 bs) clean).1

two_clean : (n : ℕ) → Clean (two_digits n)
two_clean n = one_more (48 + n / 10) ((48 + n % 10) ∷ []) (omega arith) (one_more (48 + n % 10) [] (omega arith) refl)

three_clean : (n : ℕ) (names : Text) → Clean names → Clean (three n names)
three_clean n names clean = taken 3 (drop (3 * n) names) (dropped (3 * n) names clean)

four_clean : (n : ℕ) → Clean (four_digits n)
four_clean n = clean_both (two_digits (n / 100)) (two_digits (n % 100)) (two_clean (n / 100)) (two_clean (n % 100))

day_clean : (on : ℕ) (c : Civil) → Clean (day_text on c)
day_clean on c =
    let name = three on (codes "MonTueWedThuFriSatSun") in
    let day = two_digits c.day in
    let month = three (c.month - 1) (codes "JanFebMarAprMayJunJulAugSepOctNovDec") in
    let to_name = clean_both name (codes ", ") (three_clean on (codes "MonTueWedThuFriSatSun") refl) refl in
    let to_day = clean_both (name ++ codes ", ") day to_name (two_clean c.day) in
    let to_space = clean_both (name ++ codes ", " ++ day) (codes " ") to_day refl in
    let to_month = clean_both (name ++ codes ", " ++ day ++ codes " ") month to_space (three_clean (c.month - 1) (codes "JanFebMarAprMayJunJulAugSepOctNovDec") refl) in
    let to_year = clean_both (name ++ codes ", " ++ day ++ codes " " ++ month) (codes " ") to_month refl in
    clean_both (name ++ codes ", " ++ day ++ codes " " ++ month ++ codes " ") (four_digits c.year) to_year (four_clean c.year)

time_clean : (second : ℕ) → Clean (time_text second)
time_clean second =
    let hours = two_digits (second / 3600) in
    let minutes = two_digits (second / 60 % 60) in
    let to_hours = clean_both hours (codes ":") (two_clean (second / 3600)) refl in
    let to_minutes = clean_both (hours ++ codes ":") minutes to_hours (two_clean (second / 60 % 60)) in
    let to_colon = clean_both (hours ++ codes ":" ++ minutes) (codes ":") to_minutes refl in
    clean_both (hours ++ codes ":" ++ minutes ++ codes ":") (two_digits (second % 60)) to_colon (two_clean (second % 60))

date_clean : (moment : ℕ) → Clean (date_text moment)
unfolding date_text
date_clean moment =
    let day = day_text (weekday (moment / 86_400)) (civil_of (moment / 86_400)) in
    let time = time_text (moment % 86_400) in
    let to_day = clean_both day (codes " ") (day_clean (weekday (moment / 86_400)) (civil_of (moment / 86_400))) refl in
    clean_both (day ++ codes " " ++ time) (codes " -0000") (clean_both (day ++ codes " ") time to_day (time_clean (moment % 86_400))) refl

subject_clean : (c : Config) (mail : Mail) → Clean c.local → Clean c.host → Clean (letter_of c mail).subject
subject_clean c (AskSc to reply set who) l h = refl
subject_clean c (AskTc to reply set who) l h = refl
subject_clean c (AskUc to reply set who) l h = refl
subject_clean c (Welcome to set who) l h = refl
subject_clean c (Goodbye to set who) l h = refl
subject_clean c (Already to set who) l h = refl
subject_clean c (Absent to set who) l h = refl
subject_clean c (Help to) l h = refl
subject_clean c (Members to set members) l h = clean_both (codes "members of ") (set_word set) refl (set_clean set)
subject_clean c (Moderate to reply reject ticket message) l h = clean_both (codes "moderate post ") (decimal ticket) refl (decimal_clean ticket)
subject_clean c (Rejected to message) l h = refl
subject_clean c (Expired to message) l h = refl
subject_clean c (Warn to set who numbers) l h = refl
subject_clean c (Probe to set who) l h = refl
subject_clean c (Archive to lines) l h = clean_both (codes "archive of ") (the_list c) refl (clean_both c.local (64 ∷ c.host) l h)

-- the lines of a header, each as a name and what follows its colon and a space
abbrev reply_row : Option Text → List (Text × Text)
reply_row None = []
reply_row (Some reply) = (codes "Reply-To", reply) ∷ []

abbrev row : Config → Letter → ℕ → List (Text × Text)
row c l moment =
    (codes "Mailing-List", codes "contact " ++ list_address c.local c.host (codes "help") ++ codes "; run by ezmlm")
    ∷ (codes "Precedence", codes "bulk")
    ∷ (codes "From", list_address c.local c.host (codes "help"))
    ∷ (codes "To", l.to)
    ∷ reply_row l.reply
    ++ ((codes "Date", date_text moment)
    ∷ (codes "Subject", l.subject)
    ∷ [])

abbrev letter_to : Text → Option Text → Text → Text → Letter
letter_to to reply subject text = record { to = to; reply = reply; subject = subject; text = text }

head_is : (c : Config) (to : Text) (reply : Option Text) (subject text : Text) (moment : ℕ)
    → letter_head c (letter_to to reply subject text) moment ≡ map line_at (row c (letter_to to reply subject text) moment) ++ [] ∷ []
head_is c to None subject text moment = refl
head_is c to (Some reply) subject text moment = refl

fields_are : (c : Config) (to : Text) (reply : Option Text) (subject text : Text) (moment : ℕ)
    → map field_at (row c (letter_to to reply subject text) moment) ≡ mail_fields c (letter_to to reply subject text) moment
fields_are c to None subject text moment = refl
fields_are c to (Some reply) subject text moment = refl

first_line : (name text : Text) → is_name name ≡ true → has_byte 58 name ≡ false → Clean text → IsLine name text
first_line name text named no_colon clean = record { named = named; no_colon = no_colon; clean = clean }

lines_clean : (c : Config) (to : Text) (reply : Option Text) (subject text : Text) (moment : ℕ) → HasNoLf c (letter_to to reply subject text) → Clean subject
    → AreLines (row c (letter_to to reply subject text) moment)
lines_clean c to reply subject text moment none clean =
    let help = own_clean c.local c.host (codes "help") none.local none.host refl in (
      first_line (codes "Mailing-List") (codes "contact " ++ list_address c.local c.host (codes "help") ++ codes "; run by ezmlm") refl refl
          (clean_both (codes "contact " ++ list_address c.local c.host (codes "help")) (codes "; run by ezmlm") help refl),
      (
        first_line (codes "Precedence") (codes "bulk") refl refl refl,
        (
          first_line (codes "From") (list_address c.local c.host (codes "help")) refl refl help,
          (first_line (codes "To") to refl refl none.to, go reply none.reply),
        ),
      ),
    )
  where
    last : AreLines ((codes "Date", date_text moment) ∷ (codes "Subject", subject) ∷ [])
    last = (first_line (codes "Date") (date_text moment) refl refl (date_clean moment), (first_line (codes "Subject") subject refl refl clean, tt))

    go : (reply : Option Text) → IfSome reply (λ r. Clean r) → AreLines (reply_row reply ++ ((codes "Date", date_text moment) ∷ (codes "Subject", subject) ∷ []))
    go None none = last
    go (Some r) is = (first_line (codes "Reply-To") r refl refl is, last)

letter_read : (c : Config) (l : Letter) (moment : ℕ) → HasNoLf c l → Clean l.subject
    → (fields (lines_text (letter_head c l moment) ++ l.text) ≡ mail_fields c l moment) × (body (lines_text (letter_head c l moment) ++ l.text) ≡ l.text)
letter_read c l moment none clean =
    let ps = row c l moment in
    let head : letter_head c l moment ≡ map line_at ps ++ [] ∷ [] = head_is c l.to l.reply l.subject l.text moment in
    let read = row_read ps l.text (lines_clean c l.to l.reply l.subject l.text moment none clean) in (
      ap (λ h. fields (lines_text h ++ l.text)) head ∙ read.0 ∙ fields_are c l.to l.reply l.subject l.text moment,
      ap (λ h. body (lines_text h ++ l.text)) head ∙ read.1,
    )

pub law_mails : LawMails
unfolding mail_text
law_mails c mail moment none = letter_read c (letter_of c mail) moment none (subject_clean c mail none.local none.host)

-- What the entries of the queue can be, whatever was delivered to the list.
use Rattle.std.specs.Prelude.{◌≡◌, ℕ, false, List, [], ◌∷◌}
use Rattle.std.specs.List.{AllByRecursion}
use Rattle.ml_base.specs.Address.{IsAddress}
use Rattle.ml_base.specs.Bytes.{Text}
use Rattle.ml_base.specs.Splits.{has_byte}
use Rattle.ml_config.specs.declared.configuration.Config.{Config}
use Rattle.ml_header.specs.Fields.{fields, body}
use Rattle.ml_queue.specs.declared.entries.Out.{Out}
use Rattle.ml_reply.specs.Mails.{letter_of, mail_text}
use Rattle.ml_reply.specs.declared.mails.Mail.{Mail}
use Rattle.ml_plain.specs.declared.Item.{Item}
use Rattle.ml_plain.specs.declared.Act.{Act}
use Rattle.ml_plain.specs.declared.Act.TheVariants.{Add}
use Rattle.ml_plain.specs.Laws.{after}
use Rattle.ml_plain.specs.Mailing.{post_path, digest_path, reply_path}
use Rattle.ml_plain.specs.MailFields.{mail_fields}
use Rattle.ml_plain.specs.Posting.{sent_text}

-- the text of a mail of some moment, which is read as its own fields and body
pub record IsReadMail (c : Config) (text : Text) : Type 0 where
  pub mail : Mail
  pub moment : ℕ
  pub whole : text ≡ mail_text c mail moment
  pub fields_are : fields text ≡ mail_fields c (letter_of c mail) moment
  pub body_is : body text ≡ (letter_of c mail).text

-- an entry is a post with the text that the list sends of a message, an issue of the digest, a message that goes on to the owner, or such a mail
pub data IsSent (c : Config) (out : Out) : Type 0 where
  OfPost : (number : ℕ) (message : Text) (path : out.path ≡ post_path c number) (text : out.body ≡ sent_text c message) → IsSent c out
  OfIssue : (issue : ℕ) (path : out.path ≡ digest_path c issue) → IsSent c out
  ToOwner : (path : out.path ≡ reply_path c) (to : out.to ≡ c.owner ∷ []) → IsSent c out
  OfMail : (mail : IsReadMail c out.body) → IsSent c out

-- what is added is an address
abbrev pub AddsAddress : Act → Type 0
AddsAddress (Add set who) = IsAddress who
AddsAddress _ = Unit {0}

-- After every history in which only addresses are added, every entry of the queue is one of these, whatever was delivered. The list's own
-- address has no LF.
abbrev pub LawSentMails : Type 0
LawSentMails = (c : Config) (k : Text) (h : List Item) → has_byte 10 c.local ≡ false → has_byte 10 c.host ≡ false →
    AllByRecursion (λ item. AddsAddress item.act) h → AllByRecursion (λ e. IsSent c e.thing) (after c k h).queue.all

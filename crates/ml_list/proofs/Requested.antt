-- What a request reads and writes, by what it asks of a delivery.
use Rattle.std.proofs.Common.{◌≡◌, ◌∙◌, ℕ, Bool, true, false, List, Some, refl, sym}
use Rattle.ml_address.specs.Reading.{request_of}
use Rattle.ml_address.specs.Requests.{PlainRequest, Post, Accept, Reject}
use Rattle.ml_base.specs.Address.{address_of}
use Rattle.ml_base.specs.Bytes.{Text}
use Rattle.ml_base.specs.Dir.{Dir}
use Rattle.ml_base.specs.declared.names.Name.{Name}
use Rattle.ml_base.specs.declared.puts.Put.{Put}
use Rattle.ml_config.specs.declared.configuration.Config.{Config}
use Rattle.ml_filing.specs.Threads.{is_of_archive}
use Rattle.ml_plain.specs.Managing.{by_request, by_sender}
use Rattle.ml_plain.specs.Plain.{Plain}
use Rattle.ml_plain.specs.declared.Reply.{Reply}
use Rattle.ml_acts.specs.Doing.{is_of_posting}
use Rattle.ml_post.specs.Alike.{AlikeForAnswer}
use Rattle.ml_post.specs.Answering.{IsBadForTicket, IsReadOfTicket, is_answered_by}
use Rattle.ml_manage.proofs.Requests.{is_other_than_posts, managed_read}
use Rattle.ml_manage.specs.Reads.{IsForRequest, is_managed, is_read_for_sender}
use Rattle.ml_manage.specs.Written.{is_written_for_sender}
use Rattle.ml_list.specs.Delivering.{IsForMail, is_other, is_requested}
use Rattle.ml_list.specs.Found.{FoundModerated, FoundOfRequest}
use Rattle.ml_list.specs.Looked.{AlikeForRequest}
use Rattle.ml_list.specs.Moderating.{answer_to}
use Rattle.ml_list.specs.Written.{is_delivered_by}

-- a request that is neither a post nor a moderator's answer
other_is : (r : PlainRequest) → is_other r ≡ true → is_other_than_posts r ≡ true
other_is Post is = is
other_is (Accept ticket cookie) is = is
other_is (Reject ticket cookie) is = is
other_is r is = refl

pub managed_other : (local host text : Text) (r : PlainRequest) → is_other r ≡ true → request_of local host text ≡ Some r → is_managed r ≡ true
managed_other local host text r is read = sym (managed_read local host text r read) ∙ other_is r is

pub requested_other : (c : Config) (sender : Text) (name : Name) (r : PlainRequest) → is_other r ≡ true → is_read_for_sender c sender r name ≡ true → is_requested c sender r name ≡ true
requested_other c sender name Post is e = absurd (let bad : false ≡ true = is in cc)
requested_other c sender name (Accept ticket cookie) is e = absurd (let bad : false ≡ true = is in cc)
requested_other c sender name (Reject ticket cookie) is e = absurd (let bad : false ≡ true = is in cc)
requested_other c sender name r is e = e

pub mail_other : (dir : Dir) (c : Config) (m : Text) (name : Name) (r : PlainRequest) → is_other r ≡ true → IsForRequest dir c r name → IsForMail dir c m r name
mail_other dir c m name Post is own = absurd (let bad : false ≡ true = is in cc)
mail_other dir c m name (Accept ticket cookie) is own = absurd (let bad : false ≡ true = is in cc)
mail_other dir c m name (Reject ticket cookie) is own = absurd (let bad : false ≡ true = is in cc)
mail_other dir c m name r is own = own

-- what it may write
pub delivered_other : (sender : Text) (name : Name) (r : PlainRequest) → is_other r ≡ true → is_written_for_sender sender r name ≡ true → is_delivered_by sender (Some r) name ≡ true
delivered_other sender name Post is e = absurd (let bad : false ≡ true = is in cc)
delivered_other sender name (Accept ticket cookie) is e = absurd (let bad : false ≡ true = is in cc)
delivered_other sender name (Reject ticket cookie) is e = absurd (let bad : false ≡ true = is in cc)
delivered_other sender name r is e = e

-- a moderator's answer
module _ (ticket : ℕ) (cookie : Text) where
  pub answer_requested : (c : Config) (sender : Text) (accept : Bool) (name : Name) → is_answered_by ticket accept name ≡ true → is_requested c sender (answer_to ticket cookie accept) name ≡ true
  answer_requested c sender true name e = e
  answer_requested c sender false name e = e

  pub answer_mail : (dir : Dir) (c : Config) (m : Text) (accept : Bool) (name : Name) → (is_of_archive name ≡ true → IsBadForTicket dir c ticket name) → IsReadOfTicket dir ticket cookie accept name
      → IsForMail dir c m (answer_to ticket cookie accept) name
  answer_mail dir c m true name own read = (own, read)
  answer_mail dir c m false name own read = (own, read)

  pub answer_delivered : (sender : Text) (accept : Bool) → is_delivered_by sender (Some (answer_to ticket cookie accept)) ≡ is_of_posting
  answer_delivered sender true = refl
  answer_delivered sender false = refl

  pub answer_alike : (c : Config) (sender m : Text) (accept : Bool) (old dir : Dir) → AlikeForRequest c sender m (Some (answer_to ticket cookie accept)) old dir → AlikeForAnswer c ticket accept old dir
  answer_alike c sender m true old dir alike = alike
  answer_alike c sender m false old dir alike = alike

  pub answer_found : (dir : Dir) (c : Config) (sender m : Text) (accept : Bool) (done : List Put × Reply) → FoundModerated dir c sender m ticket accept done → FoundOfRequest dir c sender m (answer_to ticket cookie accept) done
  answer_found dir c sender m true done is = is
  answer_found dir c sender m false done is = is

  pub answer_sent : (now : ℕ) (sender m : Text) (p : Plain) (accept : Bool) → by_request now sender m p (answer_to ticket cookie accept) ≡ by_sender now m p (answer_to ticket cookie accept) (address_of sender)
  answer_sent now sender m p true = refl
  answer_sent now sender m p false = refl

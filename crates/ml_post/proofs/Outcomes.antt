-- What a verdict says of the rows before the one that was found.
use Rattle.std.proofs.Common.{◌≡◌, ℕ, Bool, true, false, cond, List, [], refl, sym, ap, ◌∙◌, subst}
use Rattle.std.specs.Prelude.{Some, None}
use Rattle.std.proofs.lemmas.Option.{same_Some}
use Rattle.ml_base.specs.Address.{as_address, address_of}
use Rattle.ml_base.specs.Bytes.{Text}
use Rattle.ml_base.specs.Dir.{Dir, with_puts}
use Rattle.ml_base.specs.declared.puts.Put.{Put}
use Rattle.ml_plain.specs.declared.Reply.{Reply}
use Rattle.ml_plain.specs.Answers as answers
use Rattle.ml_plain.specs.Directory.{IsList}
use Rattle.ml_plain.specs.Plain.{Plain}
use Rattle.ml_plain.specs.Posting.{by_verdict, held_now, post, posted_now, sent_text, with_text}
use Rattle.ml_plain.specs.Verdicts.{verdict, is_usable, is_command, is_addressed, is_user}
use Rattle.ml_plain.specs.Verdicts as verdicts
use Rattle.ml_acts.specs.Doing.{DoesList}
use Rattle.ml_post.specs.Judging as rows
use Rattle.ml_post.specs.Posting.{outcome_of}
use Rattle.ml_post.specs.Publishing.{Publishes}
use Rattle.ml_post.specs.Outcomes as fates
use Rattle.ml_post.specs.declared.verdicts.Verdict.{Verdict as Found}
use Rattle.ml_post.specs.declared.verdicts.Verdict.TheVariants as found

-- whether a sender is an address, by what was read of him; one that is an address is kept as it was read
pub none_read : (sender : Text) → address_of sender ≡ None → is_usable sender ≡ false
none_read sender e = go (is_usable sender) refl
  where
    go : (t : Bool) → is_usable sender ≡ t → is_usable sender ≡ false
    go true is = absurd (let bad : Some (as_address sender) ≡ None = sym (ap (λ (t : Bool). cond t (Some (as_address sender)) None) is) ∙ e in cc)
    go false is = is

pub who_read : (sender who : Text) → address_of sender ≡ Some who → (is_usable sender ≡ true) × (who ≡ as_address sender)
who_read sender who e = go (is_usable sender) refl
  where
    go : (t : Bool) → is_usable sender ≡ t → (is_usable sender ≡ true) × (who ≡ as_address sender)
    go true is = (is, same_Some who (as_address sender) (sym e ∙ ap (λ (t : Bool). cond t (Some (as_address sender)) None) is))
    go false is = absurd (let bad : None ≡ Some who = sym (ap (λ (t : Bool). cond t (Some (as_address sender)) None) is) ∙ e in cc)

-- an answer of no puts
pub does_nothing : (dir : Dir) (done : List Put × Reply) (p : Plain) (reply : Reply) (step : Plain × Reply) → step ≡ (p, reply) → done.0 ≡ [] → done.1 ≡ reply → IsList dir p → DoesList dir done step
does_nothing dir done p reply step is e f list =
    subst (λ (s : Plain × Reply). DoesList dir done s) (sym is) (record {
      reply = f;
      list = subst (λ (puts : List Put). IsList (with_puts dir puts) p) (sym e) list;
    })

-- an answer by which a message was posted
pub posts : (dir : Dir) (p : Plain) (now : ℕ) (sender m : Text) (n : ℕ) (txn : List Put) (reply : Reply) → Publishes dir now sender m p n txn → reply ≡ answers.posted n → DoesList dir (txn, reply) (posted_now now sender m p)
posts dir p now sender m n txn reply is e = record {
  reply = e ∙ ap answers.posted is.1;
  list = subst (λ (k : ℕ). IsList (with_puts dir txn) (with_text now sender (sent_text p.config m) k p)) is.1 is.2;
}

-- a message that is refused changes nothing
refused_one : (a b : Reply) → fates.Refused a ≡ fates.Refused b → a ≡ b
refused_one a b e = cc

refused_is : (now : ℕ) (sender m : Text) (p : Plain) (reply : Reply) (v : Found) → outcome_of v ≡ fates.Refused reply → by_verdict now sender m p (rows.row_of v) ≡ (p, reply)
refused_is now sender m p reply found.TooBig e = ap (λ (r : Reply). (p, r)) (refused_one answers.toobig reply e)
refused_is now sender m p reply found.BounceSender e = ap (λ (r : Reply). (p, r)) (refused_one answers.nosender reply e)
refused_is now sender m p reply found.Looped e = ap (λ (r : Reply). (p, r)) (refused_one answers.looped reply e)
refused_is now sender m p reply found.Denied e = ap (λ (r : Reply). (p, r)) (refused_one answers.denied reply e)
refused_is now sender m p reply found.NoSubject e = ap (λ (r : Reply). (p, r)) (refused_one answers.nosubject reply e)
refused_is now sender m p reply found.CommandSubject e = ap (λ (r : Reply). (p, r)) (refused_one answers.command reply e)
refused_is now sender m p reply found.NotAddressed e = ap (λ (r : Reply). (p, r)) (refused_one answers.notaddressed reply e)
refused_is now sender m p reply found.UsersOnly e = ap (λ (r : Reply). (p, r)) (refused_one answers.usersonly reply e)
refused_is now sender m p reply found.Full e = ap (λ (r : Reply). (p, r)) (refused_one answers.full reply e)
refused_is now sender m p reply found.Held e = absurd (cc)
refused_is now sender m p reply found.Posted e = absurd (cc)

-- what a post does, by its verdict
module _ (dir : Dir) (p : Plain) (now : ℕ) (sender m : Text) (done : List Put × Reply) where
  pub follows_held : (who : Text) → address_of sender ≡ Some who → verdicts.Held ≡ verdict p sender m → DoesList dir done (held_now now who m p) → DoesList dir done (post now sender m p)
  follows_held who read row does =
      subst (λ (r : verdicts.Verdict). DoesList dir done (by_verdict now sender m p r)) row
      (subst (λ (s : Text). DoesList dir done (held_now now s m p)) (who_read sender who read).1 does)

  pub follows_posted : (who : Text) → address_of sender ≡ Some who → verdicts.Posted ≡ verdict p sender m → DoesList dir done (posted_now now who m p) → DoesList dir done (post now sender m p)
  follows_posted who read row does =
      subst (λ (r : verdicts.Verdict). DoesList dir done (by_verdict now sender m p r)) row
      (subst (λ (s : Text). DoesList dir done (posted_now now s m p)) (who_read sender who read).1 does)

  pub follows_refused : (v : Found) (reply : Reply) → outcome_of v ≡ fates.Refused reply → rows.row_of v ≡ verdict p sender m → done.0 ≡ [] → done.1 ≡ reply → IsList dir p → DoesList dir done (post now sender m p)
  follows_refused v reply outcome row e f is = does_nothing dir done p reply (post now sender m p) (ap (by_verdict now sender m p) (sym row) ∙ refused_is now sender m p reply v outcome) e f is

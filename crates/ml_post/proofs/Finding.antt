-- The verdict on a post, row by row.
use Rattle.std.proofs.Common.{◌≡◌, ◌≤◌, ℕ, Bool, true, false, List, Some, None, refl, subst, arith}
use Rattle.std.specs.Prelude.{IsTrue, not}
use Rattle.ml_base.specs.Address.{key}
use Rattle.ml_base.specs.Bytes.{Text}
use Rattle.ml_base.specs.Dir.{Dir}
use Rattle.ml_base.specs.declared.names.Set.TheVariants as sets
use Rattle.ml_base.specs.declared.puts.Put.{Put}
use Rattle.ml_config.specs.declared.configuration.Config.{Config}
use Rattle.ml_filing.specs.Archive.{IsNumberFile, number_name}
use Rattle.ml_plain.specs.Answers as answers
use Rattle.ml_plain.specs.Verdicts.{is_usable}
use Rattle.ml_plain.specs.declared.Reply.{Reply}
use Rattle.ml_acts.specs.Found.{TellsMember}
use Rattle.ml_post.specs.Found.{FoundByPost, FoundOfPost, FoundOfRoom, FoundOfSender, FoundToFollow, IsCounted, TellsDenied, TellsRefusal, TellsStranger, TellsText, TellsUser}
use Rattle.ml_post.specs.Judging.{is_refusal, may_be_found}
use Rattle.ml_post.specs.Outcomes as fates
use Rattle.ml_post.specs.Posting.{code_of, outcome_of}
use Rattle.ml_post.specs.declared.verdict_table.Judged.{Judged}
use Rattle.ml_post.specs.declared.verdict_table.Judged.TheVariants as judged
use Rattle.ml_post.specs.declared.verdicts.Verdict.{Verdict as Found}
use Rattle.ml_post.specs.declared.verdicts.Verdict.TheVariants as found

module _ (dir : Dir) (c : Config) (k : Text) where
  -- whether a sender is denied, if there is a deny list
  pub denied_by : (b : Bool) → c.flags.k ≡ true → TellsMember dir sets.Deny k b → TellsDenied dir c k b
  denied_by true has tells = (has, tells)
  denied_by false has tells = λ _. tells

  -- whether he is no user, if only users may post
  pub stranger_by : (b : Bool) → c.flags.u ≡ true → TellsUser dir k b → TellsStranger dir c k (not b)
  stranger_by true only tells = λ _. tells
  stranger_by false only tells = (only, tells)

  -- a post is refused whatever room there is, or is found by the room
  pub refused_as : (m : Text) (v : Found) → TellsRefusal dir c k m (Some v) → FoundOfSender dir c k m v
  refused_as m found.Denied tells = tells
  refused_as m found.UsersOnly tells = (tells.0, tells.2)
  refused_as m found.NoSubject tells = tells
  refused_as m found.CommandSubject tells = (tells.0, tells.1.1)
  refused_as m found.NotAddressed tells = (tells.0, tells.1.2)
  refused_as m v tells = absurd tells.1

  pub taken_as : (m : Text) (v : Found) → TellsRefusal dir c k m None → FoundOfRoom dir c v → FoundOfSender dir c k m v
  taken_as m found.Held tells room = (tells.0, (tells.2, room))
  taken_as m found.Full tells room = (tells.0, (tells.2, room))
  taken_as m found.Posted tells room = (tells.0, (tells.2, room))
  taken_as m v tells room = absurd room

  -- a post whose text is refused, after a sender who isn't denied
  pub text_as : (m : Text) (v : Found) → TellsDenied dir c k false → TellsText c m (Some v) → TellsRefusal dir c k m (Some v)
  text_as m found.Denied may tells = absurd tells
  text_as m found.UsersOnly may tells = absurd tells
  text_as m v may tells = (may, tells)

-- a text is refused whatever room there is
pub text_refuses : (c : Config) (m : Text) (v : Found) → TellsText c m (Some v) → is_refusal v ≡ true
text_refuses c m found.NoSubject tells = refl
text_refuses c m found.CommandSubject tells = refl
text_refuses c m found.NotAddressed tells = refl
text_refuses c m v tells = absurd tells

-- such a verdict may be found whether posts wait or not, and its reply is plain
pub refusal_found : (waits : Bool) (v : Found) → is_refusal v ≡ true → may_be_found waits v ≡ true
refusal_found waits found.Held e = absurd (cc)
refusal_found waits found.Full e = absurd (cc)
refusal_found waits found.Posted e = absurd (cc)
refusal_found waits v e = refl

pub refusal_plain : (v : Found) → is_refusal v ≡ true → outcome_of v ≡ fates.Refused (answers.plain (code_of v))
refusal_plain found.Held e = absurd (cc)
refusal_plain found.Full e = absurd (cc)
refusal_plain found.Posted e = absurd (cc)
refusal_plain v e = refl

-- the number of posts, in files that are the same
pub counted_as : (tells : Bool) (later dir : Dir) (found : Judged) → (IsTrue tells → later ≡ dir) → IsCounted tells later found → IsCounted tells dir found
counted_as tells later dir (judged.Posted who count) same is = (is.0, λ told. subst (λ (d : Dir). IsNumberFile (d number_name) count) (same told) (is.1 told))
counted_as tells later dir found same is = is

-- whether there is room, by the number of posts
pub full_by : (dir : Dir) (n : ℕ) → IsNumberFile (dir number_name) n → 99_999_999 ≤ n → IsNumberFile (dir number_name) 99_999_999
full_by dir n is least =
    let few = is.few in
    let same : n ≡ 99_999_999 = omega (arith, few, least) in
    subst (λ (k : ℕ). IsNumberFile (dir number_name) k) same is

module _ (dir : Dir) (c : Config) (sender m : Text) where
  pub post_then : (v : Found) → is_usable sender ≡ true → FoundOfSender dir c (key sender) m v → FoundOfPost dir c sender m v
  post_then found.TooBig usable from = absurd from.1.1
  post_then found.BounceSender usable from = absurd from.1.1
  post_then found.Looped usable from = absurd from.1.1
  post_then v usable from = (usable, from)

  -- what follows it
  pub followed : (scanned : Text) (v : Found) (done : List Put × Reply) → scanned ≡ m → FoundOfPost dir c sender scanned v → FoundToFollow dir c (outcome_of v) done → FoundByPost dir c sender m done
  followed scanned v done same is follows = record { verdict = v; found = subst (λ (t : Text). FoundOfPost dir c sender t v) same is; follows = follows }

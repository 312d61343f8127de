-- What moderators' answers find in the files that they read, whatever the other files hold: the files that are read are in their grammar, and
-- the answer goes by what they spell.
use Rattle.std.specs.Prelude.{◌≡◌, ◌⊎◌, ℕ, Bool, true, false, List, ◌++◌, Option, Some, None}
use Rattle.ml_base.specs.Dir.{Dir}
use Rattle.ml_base.specs.declared.puts.Put.{Put}
use Rattle.ml_config.specs.declared.configuration.Config.{Config}
use Rattle.ml_drawn.specs.Answers.{IsTaking}
use Rattle.ml_drawn.specs.declared.series.Series.TheVariants.{Tickets}
use Rattle.ml_filing.specs.Archive.{IsNumberFile, number_name}
use Rattle.ml_hold.specs.Answers.{LooksBy}
use Rattle.ml_hold.specs.declared.posts.Held.{Held}
use Rattle.ml_plain.specs.Answers as answers
use Rattle.ml_plain.specs.declared.Reply.{Reply}
use Rattle.ml_acts.specs.Found.{AddsMail, Says, TellsKeys}
use Rattle.ml_post.specs.Found.{FoundToAppend}

-- A post is accepted: it is posted and waits no longer, by the counter of tickets. If the archive is full, nothing is done.
pub record FoundAccepted (dir : Dir) (c : Config) (ticket : ℕ) (done : List Put × Reply) : Type 0 where
  pub number : ℕ
  pub more : List Put
  pub appended : FoundToAppend dir c.prefix number more
  pub taken : List Put
  pub is : IsTaking dir Tickets ticket taken
  pub puts : done.0 ≡ taken ++ more
  pub reply : done.1 ≡ answers.posted number

abbrev pub FoundToAccept : Dir → Config → ℕ → List Put × Reply → Type 0
FoundToAccept dir c ticket done = FoundAccepted dir c ticket done ⊎ (IsNumberFile (dir number_name) 99_999_999 × Says answers.full done)

-- A post is rejected: it waits no longer, and goes back by the next entry of the queue.
pub record FoundToReject (dir : Dir) (ticket : ℕ) (done : List Put × Reply) : Type 0 where
  pub taken : List Put
  pub is : IsTaking dir Tickets ticket taken
  pub sent : AddsMail dir taken done.0
  pub reply : done.1 ≡ answers.rejected

abbrev pub FoundToDecide : Dir → Config → ℕ → Bool → List Put × Reply → Type 0
FoundToDecide dir c ticket true done = FoundToAccept dir c ticket done
FoundToDecide dir c ticket false done = FoundToReject dir ticket done

-- what is answered about a post that waits, by the keys: the letters aren't its cookie, or the answer counts
pub record FoundOfHeld (dir : Dir) (c : Config) (ticket : ℕ) (accept : Bool) (done : List Put × Reply) : Type 0 where
  pub keys : TellsKeys dir
  pub answered : Says answers.badcookie done ⊎ FoundToDecide dir c ticket accept done

abbrev pub FoundOfTicket : Dir → Config → ℕ → Bool → Option Held → List Put × Reply → Type 0
FoundOfTicket dir c ticket accept None done = Says answers.gone done
FoundOfTicket dir c ticket accept (Some held) done = FoundOfHeld dir c ticket accept done

-- what a moderator's answer found: first by the file of the post
pub record FoundByDecision (dir : Dir) (c : Config) (ticket : ℕ) (accept : Bool) (done : List Put × Reply) : Type 0 where
  pub held : Option Held
  pub looked : LooksBy dir ticket held
  pub found : FoundOfTicket dir c ticket accept held done

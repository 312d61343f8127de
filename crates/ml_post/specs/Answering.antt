-- What moderators answer about posts that wait.
use Rattle.std.specs.Prelude.{◌≡◌, ◌⊎◌, ℕ, Bool, true, false, ◌&&◌, ◌||◌, codes}
use Rattle.std.specs.Fmt.{decimal}
use Rattle.std.specs.Option.{option_map, option_map_or}
use Rattle.ml_filing.specs.Threads.{is_of_archive}
use Rattle.ml_address.specs.Cookies.{is_cookie_of}
use Rattle.ml_base.specs.Bytes.{Text}
use Rattle.ml_base.specs.Dir.{Dir, same_name}
use Rattle.ml_base.specs.Name.{set_word}
use Rattle.ml_base.specs.Ranges.{is_drawn}
use Rattle.ml_base.specs.declared.names.Name.{Name}
use Rattle.ml_base.specs.declared.names.Set.TheVariants as sets
use Rattle.ml_config.specs.KeyFile.{IsKeyFile, key_name}
use Rattle.ml_config.specs.declared.configuration.Config.{Config}
use Rattle.ml_config.specs.declared.key_file.Keys.{Keys}
use Rattle.ml_hold.specs.Answers.{IsPostName, post_name, tickets_name}
use Rattle.ml_hold.specs.Held.{IsHeldFile}
use Rattle.ml_hold.specs.declared.posts.Held.{Held}
use Rattle.ml_queue.specs.Answers.{ids_name}
use Rattle.ml_acts.specs.Asked.{IsBadFor, Next}
use Rattle.ml_acts.specs.Damaged.{IsDamaged}
use Rattle.ml_post.specs.Publishing.{is_published_by, sent_key}
use Rattle.ml_post.specs.declared.moderator_answers.Decision.{Decision}
use Rattle.ml_post.specs.declared.moderator_answers.Decision.TheVariants as decisions

-- whether a moderator accepts the post
abbrev pub accepts : Decision → Bool
accepts decisions.Accept = true
accepts decisions.Reject = false

-- the files that taking out a post reads: its own, if its ticket can be drawn, and the next ticket
abbrev pub is_taken_by : ℕ → Name → Bool
is_taken_by ticket name = (is_drawn ticket && same_name name (post_name ticket)) || same_name name tickets_name

-- the files that are read if a post is accepted, and if it is rejected
abbrev pub is_accepted_by : ℕ → Name → Bool
is_accepted_by ticket name = is_published_by name || is_taken_by ticket name

abbrev pub is_rejected_by : ℕ → Name → Bool
is_rejected_by ticket name = is_taken_by ticket name || same_name name ids_name

abbrev pub is_followed_by : ℕ → Bool → Name → Bool
is_followed_by ticket true name = is_accepted_by ticket name
is_followed_by ticket false name = is_rejected_by ticket name

-- the files that an answer may read: these, and the keys
abbrev pub is_answered_by : ℕ → Bool → Name → Bool
is_answered_by ticket accept name = same_name name key_name || is_followed_by ticket accept name

-- damaged for putting the post that waits under a ticket last into the archive
abbrev pub IsBadForTicket : Dir → Config → ℕ → Name → Type 0
IsBadForTicket dir c ticket name = (held : Held) × IsHeldFile (dir (post_name ticket)) held × IsBadFor dir (Next (sent_key c held.message)) name

-- whether letters are, by these keys, the cookie of a post that has been held under a ticket since a moment
abbrev pub is_ticket_cookie : Keys → ℕ → ℕ → Text → Bool
is_ticket_cookie keys ticket moment letters =
    is_cookie_of keys.key (option_map (λ f. f.key) keys.former) (option_map_or (λ f. f.changed) keys.former 0) (codes "hold")
    (set_word sets.Moderators) moment (decimal ticket) letters

-- letters are this cookie by the keys that the files hold
pub record IsSigned (dir : Dir) (ticket moment : ℕ) (letters : Text) : Type 0 where
  pub keys : Keys
  pub kept : IsKeyFile (dir key_name) keys
  pub right : is_ticket_cookie keys ticket moment letters ≡ true

-- what an answer reads once the post is found: the keys, and what follows only if the letters are its cookie
abbrev pub IsReadOfHeld : Dir → ℕ → ℕ → Text → Bool → Name → Type 0
IsReadOfHeld dir ticket moment letters accept name =
    (name ≡ key_name) ⊎ (IsSigned dir ticket moment letters × (is_followed_by ticket accept name ≡ true))

-- what an answer reads, step by step: the post of the ticket, and the rest only if one waits there
abbrev pub IsReadOfTicket : Dir → ℕ → Text → Bool → Name → Type 0
IsReadOfTicket dir ticket letters accept name =
    IsPostName ticket name ⊎ ((held : Held) × IsHeldFile (dir (post_name ticket)) held × IsReadOfHeld dir ticket held.moment letters accept name)

-- a damaged file that an answer with these letters reads once the post is found: one of the archive is damaged for that post, and no other
pub record IsDamagedOfHeld (dir : Dir) (c : Config) (ticket : ℕ) (held : Held) (letters : Text) (accept : Bool) (name : Name) : Type 0 where
  pub damaged : IsDamaged dir name
  pub own : is_of_archive name ≡ true → IsBadFor dir (Next (sent_key c held.message)) name
  pub read : IsReadOfHeld dir ticket held.moment letters accept name

-- a damaged file that an answer with these letters reads: one of the archive is damaged for the post of the ticket, and no other
pub record IsDamagedOfTicket (dir : Dir) (c : Config) (ticket : ℕ) (letters : Text) (accept : Bool) (name : Name) : Type 0 where
  pub damaged : IsDamaged dir name
  pub own : is_of_archive name ≡ true → IsBadForTicket dir c ticket name
  pub read : IsReadOfTicket dir ticket letters accept name

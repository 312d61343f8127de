-- Mail that the list sends: replies, questions with a cookie, warnings and probes. Each is one queue entry.
use Rattle.std.specs.Prelude.{ℕ, Bool, true, false, List, [], ◌∷◌, ◌++◌, codes}
use Rattle.std.specs.Option.{option_map, option_map_or}
use Rattle.std.specs.Fmt.{decimal}
use Rattle.ml_base.specs.Bytes.{Text, hyphen}
use Rattle.ml_base.specs.Address.{key, local_of, host_of}
use Rattle.ml_base.specs.Name.{set_word}
use Rattle.ml_base.specs.Texts.{list_address}
use Rattle.ml_base.specs.declared.names.Set.{Set}
use Rattle.ml_base.specs.declared.names.Set.TheVariants as sets
use Rattle.ml_address.specs.declared.Path.{Path}
use Rattle.ml_address.specs.declared.Word.{Word}
use Rattle.ml_address.specs.declared.Word.TheVariants as words
use Rattle.ml_address.specs.Requests.{PlainWho, Confirm, Accept, Reject, set_front, word_text}
use Rattle.ml_address.specs.Writing.{request_text, ticket_text}
use Rattle.ml_address.specs.Cookies.{cookie, cookie_good, is_cookie_of}
use Rattle.ml_config.specs.declared.configuration.Config.{Config}
use Rattle.ml_reply.specs.Mails.{mail_text}
use Rattle.ml_reply.specs.declared.mails.Mail.{Mail}
use Rattle.ml_reply.specs.declared.mails.Mail.TheVariants.{AskSc, AskTc, AskUc, Moderate}
use Rattle.ml_queue.specs.Queue.{put}
use Rattle.ml_plain.specs.Plain.{Plain, addresses}

-- the path in which this follows LOCAL and a hyphen
abbrev pub path : Config → Text → Bool → Path
path c base each = record { base = c.local ++ hyphen ∷ base; host = c.host; each = each }

-- the path of post n
abbrev pub post_path : Config → ℕ → Path
post_path c n = path c (codes "return-" ++ decimal n ++ codes "-") true

-- the path of an issue of the digest
abbrev pub digest_path : Config → ℕ → Path
digest_path c issue = path c (codes "digest-return-" ++ decimal issue ++ codes "-") true

-- the path of replies
abbrev pub reply_path : Config → Path
reply_path c = path c (codes "return-") false

-- the list with one more queue entry
abbrev pub send : Path → Text → List Text → Plain → Plain
send way body to p = record p { queue = put (record { path = way; body = body; to = to }) p.queue }

-- a mail to one address
abbrev pub mail_to : Text → ℕ → Mail → Plain → Plain
mail_to to now mail p = send (reply_path p.config) (mail_text p.config mail now) (to ∷ []) p

-- what follows `To:` in mails to the moderators
abbrev pub owner_address : Config → Text
owner_address c = list_address c.local c.host (codes "owner")

-- a mail to all moderators
abbrev pub mail_moderators : ℕ → Mail → Plain → Plain
mail_moderators now mail p = send (reply_path p.config) (mail_text p.config mail now) (addresses p sets.Moderators) p

-- a cookie under the key
abbrev pub new_cookie : Plain → Text → Set → ℕ → Text → Text
new_cookie p kind set moment what = cookie p.keys.key kind (set_word set) moment what

-- whether letters are a cookie under the key, or under the former key up to its change
abbrev pub is_cookie : Plain → Text → Set → ℕ → Text → Text → Bool
is_cookie p kind set moment what given =
    is_cookie_of p.keys.key (option_map (λ f. f.key) p.keys.former) (option_map_or (λ f. f.changed) p.keys.former 0) kind (set_word set) moment what given

-- whether they are, and the cookie is of this moment or at most 1,000,000 seconds older
abbrev pub is_good : Plain → Text → Set → ℕ → Text → Text → ℕ → Bool
is_good p kind set moment what given now =
    cookie_good p.keys.key (option_map (λ f. f.key) p.keys.former) (option_map_or (λ f. f.changed) p.keys.former 0) kind (set_word set) moment what given now

-- the parts of an address
abbrev pub parts : Text → PlainWho
parts address = record { local = local_of address; host = host_of address }

-- the address that confirms this of an address, made now
abbrev pub confirm_address : Plain → Word → Set → Text → ℕ → Text
confirm_address p word set x now =
    request_text p.config.local p.config.host
    (Confirm word set (record { time = now; cookie = new_cookie p (word_text word) set now (key x); who = parts x }))

-- the mail that asks to confirm it
abbrev pub question : Word → Text → Text → Set → Text → Mail
question words.Sc to reply set x = AskSc to reply set x
question words.Tc to reply set x = AskTc to reply set x
question words.Uc to reply set x = AskUc to reply set x

-- an address is asked to confirm
abbrev pub ask : Text → ℕ → Word → Set → Text → Plain → Plain
ask to now word set x p = mail_to to now (question word to (confirm_address p word set x now) set x) p

-- the moderators are asked to confirm a subscription
abbrev pub ask_moderators : ℕ → Set → Text → Plain → Plain
ask_moderators now set x p =
    mail_moderators now (AskTc (owner_address p.config) (confirm_address p words.Tc set x now) set x) p

-- the cookie of a held post
abbrev pub ticket_cookie : Plain → ℕ → ℕ → Text
ticket_cookie p ticket moment = new_cookie p (codes "hold") sets.Moderators moment (decimal ticket)

-- the mail that asks the moderators to accept or reject a post that is held now
abbrev pub moderate_mail : Plain → ℕ → ℕ → Text → Mail
moderate_mail p ticket now m =
    Moderate (owner_address p.config)
    (request_text p.config.local p.config.host (Accept ticket (ticket_cookie p ticket now)))
    (request_text p.config.local p.config.host (Reject ticket (ticket_cookie p ticket now)))
    ticket m

-- the path of a warning or of a probe that goes now to the member of a key
abbrev pub bounce_path : Plain → Text → Set → Text → ℕ → Path
bounce_path p kind set k now =
    path p.config (set_front set ++ codes "return-" ++ kind ++ codes "-" ++ ticket_text now (new_cookie p kind set now k) ++ codes "-") true

-- a warning or a probe
abbrev pub bounce_mail : Text → Set → Text → ℕ → Mail → Plain → Plain
bounce_mail kind set x now mail p = send (bounce_path p kind set (key x) now) (mail_text p.config mail now) (x ∷ []) p

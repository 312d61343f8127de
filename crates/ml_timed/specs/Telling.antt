-- The mail that a member gets when his entry in a ledger is due.
use Rattle.std.specs.Prelude.{Bool, true, false, codes}
use Rattle.ml_base.specs.Bytes.{Text}
use Rattle.ml_base.specs.declared.names.Set.{Set}
use Rattle.ml_bounce.specs.declared.actions.Action.{Action}
use Rattle.ml_bounce.specs.declared.actions.Action.TheVariants.{Warn, Probe, Lapse}
use Rattle.ml_reply.specs.declared.mails.Mail.{Mail}
use Rattle.ml_reply.specs.declared.mails.Mail.TheVariants as mails

-- an action by which the member gets a mail
abbrev pub is_mailed : Action → Bool
is_mailed (Warn to missed) = true
is_mailed (Probe to) = true
is_mailed (Lapse to) = false

-- a warning with the numbers that he missed, or a probe
abbrev pub mail_for : Set → Action → Text → Mail
mail_for set (Warn to missed) who = mails.Warn who set who missed
mail_for set _ who = mails.Probe who set who

-- the kind of the cookie in its path
abbrev pub cookie_kind : Action → Text
cookie_kind (Warn to missed) = codes "warn"
cookie_kind _ = codes "probe"

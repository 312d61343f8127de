-- What a bounce does to the list: of a post or an issue, of a warning, and of a probe.
use Rattle.std.specs.Prelude.{ℕ, Bool, ◌&&◌, nat_le, ◌∷◌, ◌++◌, length, Option, Some, None, if◌then◌else◌, codes}
use Rattle.ml_base.specs.Bytes.{Text, lower, at_sign}
use Rattle.ml_base.specs.Address.{key}
use Rattle.ml_base.specs.declared.names.Set.{Set}
use Rattle.ml_base.specs.declared.names.Set.TheVariants as sets
use Rattle.ml_address.specs.Requests.{PlainWho, Signed}
use Rattle.ml_bounce.specs.Changes.{note, warn_failed, probe_failed}
use Rattle.ml_bounce.specs.Ledger.{Ledger}
use Rattle.ml_plain.specs.declared.Reply.{Reply}
use Rattle.ml_plain.specs.Answers.{bounce, ignored, dropped}
use Rattle.ml_plain.specs.Mailing.{is_good}
use Rattle.ml_plain.specs.Plain.{Plain, is_in, ledger_of, with_ledger_of, removed}

-- the address that a request names, its host in lower case
abbrev pub address_named : PlainWho → Text
address_named w = w.local ++ at_sign ∷ lower w.host

-- the number was used: it is that of a post, or for the digest set that of an issue up to the mark; 0 is never used
abbrev pub is_used : Plain → Set → ℕ → Bool
is_used p sets.Digest number = nat_le 1 number && nat_le number p.mark.issue
is_used p _ number = nat_le 1 number && nat_le number (length p.posts)

-- a set gets another ledger, if there is one; otherwise nothing changes
abbrev pub if_changed : Plain → Set → Option Ledger → Plain × Reply
if_changed p set None = (p, ignored)
if_changed p set (Some ledger) = (with_ledger_of set ledger p, bounce)

-- the address leaves the set, if its ledger lets the entry go; otherwise nothing changes
abbrev pub if_probed : Plain → Set → Text → Option Ledger → Plain × Reply
if_probed p set x None = (p, ignored)
if_probed p set x (Some ledger) = (removed set x p, dropped)

-- a bounce of mail to a member: its number is noted, if it was used
abbrev pub bounced : ℕ → Set → ℕ → Text → Plain → Plain × Reply
bounced now set number x p =
    if_changed p set (if is_in p set x && is_used p set number then note (key x) number now (ledger_of p set) else None)

-- a bounce of a warning to a member, with a good cookie of the moment at which he was warned
abbrev pub warning_bounced : ℕ → Set → Signed → Text → Plain → Plain × Reply
warning_bounced now set s x p =
    if_changed p set (
    if is_in p set x && is_good p (codes "warn") set s.time (key x) s.cookie now then warn_failed (key x) s.time now (ledger_of p set) else None)

-- a bounce of a probe to a member, with a good cookie of the moment at which he was probed
abbrev pub probe_bounced : ℕ → Set → Signed → Text → Plain → Plain × Reply
probe_bounced now set s x p =
    if_probed p set x (
    if is_in p set x && is_good p (codes "probe") set s.time (key x) s.cookie now then probe_failed (key x) s.time (ledger_of p set) else None)

-- What a bounce makes of a list, by the moment and the letters that it has.
use Rattle.std.specs.Prelude.{ℕ, ◌&&◌, if◌then◌else◌, List, Option, Some, None, codes}
use Rattle.ml_address.specs.Requests.{PlainWho, Signed}
use Rattle.ml_base.specs.Address.{key}
use Rattle.ml_base.specs.Bytes.{Text}
use Rattle.ml_base.specs.declared.names.Set.{Set}
use Rattle.ml_base.specs.declared.puts.Put.{Put}
use Rattle.ml_bounce.specs.Changes.{warn_failed, probe_failed}
use Rattle.ml_plain.specs.declared.Reply.{Reply}
use Rattle.ml_plain.specs.Answers.{bounce, ignored}
use Rattle.ml_plain.specs.Bouncing.{if_changed, if_probed}
use Rattle.ml_plain.specs.Mailing.{is_good}
use Rattle.ml_plain.specs.Plain.{Plain, is_in, ledger_of}

-- the reply to a bounce, by the puts of the ledger's change, if there are any
abbrev pub change_reply : Option (List Put) → Reply
change_reply None = ignored
change_reply (Some puts) = bounce

-- a moment, letters and an address
abbrev pub signed : ℕ → Text → PlainWho → Signed
signed time letters who = record { time = time; cookie = letters; who = who }

-- a bounce of a warning, by its moment and its letters
abbrev pub of_warning : ℕ → Set → ℕ → Text → Text → Plain → Plain × Reply
of_warning now set time letters x p =
    if_changed p set (
    if is_in p set x && is_good p (codes "warn") set time (key x) letters now then warn_failed (key x) time now (ledger_of p set) else None)

-- a bounce of a probe
abbrev pub of_probe : ℕ → Set → ℕ → Text → Text → Plain → Plain × Reply
of_probe now set time letters x p =
    if_probed p set x (if is_in p set x && is_good p (codes "probe") set time (key x) letters now then probe_failed (key x) time (ledger_of p set) else None)

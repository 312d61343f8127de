-- The ledgers of sets, what the calls on them answer, and which files they name as damaged.
use Rattle.std.specs.Prelude.{◌≡◌, ◌<◌, ◌≤◌, ◌+◌, ℕ, Bool, true, false, List, [], ◌∷◌, map, take, Option, Some, None, is_some, if◌then◌else◌}
use Rattle.ml_base.specs.Bytes.{Text}
use Rattle.ml_base.specs.Dir.{Dir, with_puts}
use Rattle.ml_base.specs.Kinds.{bounces_kind}
use Rattle.ml_base.specs.Name.{set_number}
use Rattle.ml_base.specs.Ranges.{IsMoment}
use Rattle.ml_base.specs.declared.names.Name.{Name}
use Rattle.ml_base.specs.declared.names.Set.{Set}
use Rattle.ml_base.specs.declared.names.Set.TheVariants as sets
use Rattle.ml_base.specs.declared.puts.Put.{Put}
use Rattle.ml_keyed.specs.Buckets.{AreFirst}
use Rattle.ml_bounce.specs.Changes.{note, warn_failed, probe_failed, due_entries, action_of, act}
use Rattle.ml_bounce.specs.declared.bounces.Bounce.{Bounce}
use Rattle.ml_bounce.specs.declared.bounces.Bounce.TheVariants as bounces
use Rattle.ml_bounce.specs.declared.actions.Action.{Action}
use Rattle.ml_bounce.specs.declared.actions.Action.TheVariants.{Warn, Probe, Lapse}
use Rattle.ml_bounce.specs.Files.{IsLedger, IsLedgerFile, ledger_name, bucket_of, ledger_put}
use Rattle.ml_bounce.specs.Ledger.{Ledger, LedgerEntry, find_entry, forget}

-- whether a set has a ledger
abbrev pub has_ledger : Set → Bool
has_ledger sets.List = true
has_ledger sets.Digest = true
has_ledger sets.Allow = false
has_ledger sets.Deny = false
has_ledger sets.Moderators = false

-- the kind of the files of a set's ledger: one kind for the bounces of posts, the next one for those of digests
abbrev pub ledger_kind : Set → ℕ
ledger_kind set = bounces_kind + set_number set

-- the file in which a set's ledger has a key
abbrev pub key_file : Set → Text → Name
key_file set k = ledger_name (ledger_kind set) (bucket_of k)

-- in a directory, the file of a key has these entries
abbrev pub IsBucketOf : Dir → Set → Text → Ledger → Type 0
IsBucketOf dir set k bucket = IsLedgerFile (bucket_of k) (dir (key_file set k)) bucket

-- one of a ledger's files is outside its grammar
abbrev pub IsNoFile : Dir → Set → ℕ → Type 0
IsNoFile dir set n = (entries : Ledger) → ¬ IsLedgerFile n (dir (ledger_name (ledger_kind set) n)) entries

-- the puts that give the file of a key this row of entries
abbrev pub writes : Set → Text → Ledger → List Put
writes set k entries = ledger_put (ledger_kind set) (bucket_of k) entries ∷ []

-- the puts that forget a key: none if there is no entry
abbrev pub forgets : Set → Text → Ledger → List Put
forgets set k bucket = if is_some (find_entry k bucket) then writes set k (forget k bucket) else []

-- what a bounce makes of a ledger: None if it changes nothing
abbrev pub bounced : Bounce → Text → Ledger → Option Ledger
bounced (bounces.Mail number now) k ledger = note k number now ledger
bounced (bounces.Warning t now) k ledger = warn_failed k t now ledger
bounced (bounces.Probe t) k ledger = probe_failed k t ledger

-- the number of a bounce and its moment are in their ranges
abbrev pub IsInRange : Bounce → Type 0
IsInRange (bounces.Mail number now) = (number ≤ 99_999_999) × IsMoment now
IsInRange (bounces.Warning t now) = IsMoment now
IsInRange (bounces.Probe t) = Unit {0}

-- an answer after which the files stand for the new ledger; no answer if there is no new ledger
abbrev pub LeadsTo : Dir → Set → Option (List Put) → Option Ledger → Type 0
LeadsTo dir set (Some txn) (Some ledger) = IsLedger (with_puts dir txn) (ledger_kind set) ledger
LeadsTo dir set None None = Unit {0}
LeadsTo dir set (Some txn) None = ⊥
LeadsTo dir set None (Some ledger) = ⊥

-- the puts of an answer: none if nothing changes
abbrev pub puts_of : Option (List Put) → List Put
puts_of None = []
puts_of (Some txn) = txn

-- the name of one of a ledger's 53 files
abbrev pub IsFileName : Set → Name → Type 0
IsFileName set name = (n : ℕ) × (n < 53) × (name ≡ ledger_name (ledger_kind set) n)

-- one of a ledger's 53 files, outside its grammar
abbrev pub IsBadFile : Dir → Set → Name → Type 0
IsBadFile dir set name = (n : ℕ) × (n < 53) × (name ≡ ledger_name (ledger_kind set) n) × IsNoFile dir set n

-- the actions for the first due entries, at most so many, in order of key
abbrev pub first_due : ℕ → ℕ → Ledger → List Action
first_due now max ledger = map action_of (take max (due_entries now ledger))

-- the address that an action is for
abbrev pub action_key : Action → Text
action_key (Warn to missed) = to
action_key (Probe to) = to
action_key (Lapse to) = to

-- the puts that do what is due for a key's entry: none if there is no entry
abbrev pub acts_for : Set → Text → ℕ → Ledger → Option LedgerEntry → List Put
acts_for set k now bucket None = []
acts_for set k now bucket (Some e) = writes set k (act now e bucket)

abbrev pub acts : Set → Text → ℕ → Ledger → List Put
acts set k now bucket = acts_for set k now bucket (find_entry k bucket)

-- the first files of a ledger, so many of them, have these entries
abbrev pub AreFiles : Dir → Set → ℕ → (ℕ → Ledger) → Type 0
AreFiles dir set n buckets = AreFirst IsLedgerFile (λ i. dir (ledger_name (ledger_kind set) i)) n buckets

-- The files of a kind stand for at most one ledger, and no other file matters.
use Rattle.std.proofs.Common.{◌≡◌, ◌<◌, ℕ, true, [], None, refl}
use Rattle.std.specs.Prelude.{unwrap_or}
use Rattle.std.proofs.lemmas.Bool.{eq-eqb}
use Rattle.ml_base.specs.Dir.{Dir}
use Rattle.ml_base.specs.declared.names.Name.{Name}
use Rattle.ml_keyed.proofs.Exact.{file_absent}
use Rattle.ml_keyed.proofs.Files.{union_one, union_own, union_nothing}
use Rattle.ml_bounce.specs.Files.{IsEntry, IsLedger, IsLedgerFile, entry_text, ledger_name, is_of_ledger}
use Rattle.ml_bounce.specs.Ledger.{Ledger, entry_key}
use Rattle.ml_bounce.specs.Reading.{ledger_of}
use Rattle.ml_bounce.proofs.Exact.{file_one, file_unread}

pub ledger_one : (dir : Dir) (kind : ℕ) (ledger other : Ledger) → IsLedger dir kind ledger → IsLedger dir kind other → ledger ≡ other
ledger_one dir kind = union_one entry_key IsLedgerFile file_one (λ n. dir (ledger_name kind n))

pub ledger_own : (dir other : Dir) (kind : ℕ) (ledger : Ledger) → ((name : Name) → is_of_ledger kind name ≡ true → other name ≡ dir name) → IsLedger dir kind ledger → IsLedger other kind ledger
ledger_own dir other kind ledger same =
    union_own entry_key IsLedgerFile (λ n. dir (ledger_name kind n)) (λ n. other (ledger_name kind n)) ledger (λ n less. same (ledger_name kind n) (eq-eqb kind kind refl))

pub ledger_broken : (dir : Dir) (kind n : ℕ) (ledger : Ledger) → n < 53 → ledger_of n (unwrap_or (dir (ledger_name kind n)) []) ≡ None → ¬ IsLedger dir kind ledger
ledger_broken dir kind n ledger less e is = file_unread n (dir (ledger_name kind n)) (is.buckets n) e (is.files n less)

pub ledger_nothing : (dir : Dir) (kind : ℕ) → ((n : ℕ) → n < 53 → dir (ledger_name kind n) ≡ None) → IsLedger dir kind []
ledger_nothing dir kind none =
    union_nothing entry_key IsLedgerFile (λ n. dir (ledger_name kind n)) (λ n less. file_absent IsEntry entry_key entry_text n (dir (ledger_name kind n)) (none n less))

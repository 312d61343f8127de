-- How writing one file anew changes a ledger.
use Rattle.std.proofs.Common.{◌≡◌, ◌≢◌, ℕ, cond, ◌==◌, ◌&&◌, Option, refl, ap}
use Rattle.std.proofs.lemmas.Bool.{eq-eqb}
use Rattle.ml_base.specs.Bytes.{Text}
use Rattle.ml_base.specs.Dir.{Dir, with_put, same_name}
use Rattle.ml_base.specs.declared.names.Name.{Name}
use Rattle.ml_base.proofs.Bools.{one_name, not_true}
use Rattle.ml_keyed.proofs.Exact.{file_added, file_left}
use Rattle.ml_keyed.proofs.Files as keyed
use Rattle.ml_bounce.specs.Files.{IsLedger, IsLedgerFile, IsEntry, entry_text, ledger_name, bucket_of, ledger_file, ledger_put}
use Rattle.ml_bounce.specs.Ledger.{Ledger, LedgerEntry, entry_key, find_entry, with_ledger, forget}
use Rattle.ml_bounce.proofs.Exact.{file_one}

pub found_there : (dir : Dir) (kind : ℕ) (ledger bucket : Ledger) (k : Text) → IsLedger dir kind ledger → IsLedgerFile (bucket_of k) (dir (ledger_name kind (bucket_of k))) bucket → find_entry k ledger ≡ find_entry k bucket
found_there dir kind = keyed.found_there entry_key IsLedgerFile file_one (λ n. dir (ledger_name kind n))

-- the files of a ledger, one of them with another row of entries
abbrev with_row : Dir → ℕ → ℕ → Ledger → ℕ → Option Text
with_row dir kind place es n = with_put dir (ledger_put kind place es) (ledger_name kind n)

row_there : (dir : Dir) (kind place : ℕ) (es : Ledger) (n : ℕ) → with_row dir kind place es n ≡ cond (n == place) (ledger_file es) (dir (ledger_name kind n))
row_there dir kind place es n = ap (λ b. cond (b && (n == place)) (ledger_file es) (dir (ledger_name kind n))) (eq-eqb kind kind refl)

pub put_there : (dir : Dir) (kind : ℕ) (ledger bucket : Ledger) (e : LedgerEntry) → IsLedger dir kind ledger → IsEntry (bucket_of e.key) e → IsLedgerFile (bucket_of e.key) (dir (ledger_name kind (bucket_of e.key))) bucket
    → IsLedger (with_put dir (ledger_put kind (bucket_of e.key) (with_ledger e bucket))) kind (with_ledger e ledger)
put_there dir kind ledger bucket e is entry file =
    let place = bucket_of e.key in
    let row = with_ledger e bucket in
    keyed.put_there entry_key IsLedgerFile file_one (λ n. dir (ledger_name kind n)) (with_row dir kind place row) ledger bucket e.key (ledger_file row) (row_there dir kind place row) is file e refl
    (file_added IsEntry entry_key entry_text place (dir (ledger_name kind place)) e bucket entry file)

pub forgotten_there : (dir : Dir) (kind : ℕ) (ledger bucket : Ledger) (k : Text) → IsLedger dir kind ledger → IsLedgerFile (bucket_of k) (dir (ledger_name kind (bucket_of k))) bucket
    → IsLedger (with_put dir (ledger_put kind (bucket_of k) (forget k bucket))) kind (forget k ledger)
forgotten_there dir kind ledger bucket k is file =
    let place = bucket_of k in
    let row = forget k bucket in
    keyed.taken_there entry_key IsLedgerFile file_one (λ n. dir (ledger_name kind n)) (with_row dir kind place row) ledger bucket k (ledger_file row) (row_there dir kind place row) is file
    (file_left IsEntry entry_key entry_text place (dir (ledger_name kind place)) k bucket file)

pub put_elsewhere : (dir : Dir) (kind n : ℕ) (entries : Ledger) (name : Name) → name ≢ ledger_name kind n → with_put dir (ledger_put kind n entries) name ≡ dir name
put_elsewhere dir kind n entries name other = ap (λ b. cond b (ledger_file entries) (dir name)) (not_true (same_name name (ledger_name kind n)) (λ e. other (one_name name (ledger_name kind n) e)))

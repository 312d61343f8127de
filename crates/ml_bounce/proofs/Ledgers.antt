-- How a change of one file changes a ledger, and that sound files are in their grammar.
use Rattle.std.proofs.Common.{◌≡◌, ◌<◌, ℕ, Bool, true, false, cond, not, ◌&&◌, List, [], ◌∷◌, Option, Some, None, is_some, refl, sym, ap, ap₂, ◌∙◌, subst, arith}
use Rattle.std.specs.Prelude.{IsTrue}
use Rattle.std.specs.Ordering.{eq_by_cmp}
use Rattle.std.proofs.lemmas.Bool.{false≢true, le-leb}
use Rattle.ml_base.specs.Bytes.{Text}
use Rattle.ml_base.specs.Dir.{Dir, touches_only, with_puts}
use Rattle.ml_base.specs.Name.{is_file}
use Rattle.ml_base.specs.Sorted.{byte_cmp}
use Rattle.ml_base.specs.declared.names.Name.{Name}
use Rattle.ml_base.specs.declared.names.Set.{Set}
use Rattle.ml_base.specs.declared.names.Set.TheVariants as sets
use Rattle.ml_base.specs.declared.puts.Put.{Put}
use Rattle.ml_bounce.specs.Answers.{has_ledger, ledger_kind, key_file, IsBucketOf, IsNoFile, writes, forgets}
use Rattle.ml_bounce.specs.Files.{IsLedger, IsLedgerFile, ledger_name, bucket_of}
use Rattle.ml_bounce.specs.Ledger.{Ledger, LedgerEntry, find_entry, forget}
use Rattle.ml_bounce.proofs.Changed.{found_there, forgotten_there}
use Rattle.ml_rows.proofs.RowLaws.{none_some}

-- the files of a ledger are files of the table
pub ledger_file_of : (set : Set) (n : ℕ) → IsTrue (has_ledger set) → n < 53 → is_file (ledger_name (ledger_kind set) n) ≡ true
ledger_file_of sets.List n has less = ap₂ (λ a b. (a && b) && true) (le-leb 0 n (omega arith)) (le-leb n 52 (omega (arith, less)))
ledger_file_of sets.Digest n has less = ap₂ (λ a b. (a && b) && true) (le-leb 0 n (omega arith)) (le-leb n 52 (omega (arith, less)))
ledger_file_of sets.Allow n has less = absurd (false≢true has)
ledger_file_of sets.Deny n has less = absurd (false≢true has)
ledger_file_of sets.Moderators n has less = absurd (false≢true has)

-- without an entry of a key, forgetting the key changes nothing
forget_absent : (k : Text) (es : Ledger) → find_entry k es ≡ None → forget k es ≡ es
forget_absent k [] none = refl
forget_absent k (e ∷ es) none = go (eq_by_cmp byte_cmp k e.key) refl none (forget_absent k es)
  where
    go : (t : Bool) → eq_by_cmp byte_cmp k e.key ≡ t → cond t (Some e) (find_entry k es) ≡ None → (find_entry k es ≡ None → forget k es ≡ es) → cond (not (eq_by_cmp byte_cmp k e.key)) (e ∷ forget k es) (forget k es) ≡ e ∷ es
    go true is none later = absurd (none_some e (sym none))
    go false is none later = ap (λ t. cond (not t) (e ∷ forget k es) (forget k es)) is ∙ ap (λ xs. e ∷ xs) (later none)

-- a file that two directories have alike
pub bucket_in : (dir other : Dir) (set : Set) (k : Text) (bucket : Ledger) → dir (key_file set k) ≡ other (key_file set k) → IsBucketOf other set k bucket → IsBucketOf dir set k bucket
bucket_in dir other set k bucket same is = subst (λ (f : Option Text). IsLedgerFile (bucket_of k) f bucket) (sym same) is

-- forgetting a key in its file forgets it in the ledger
pub forgotten_by : (dir : Dir) (set : Set) (k : Text) (bucket ledger : Ledger) (txn : List Put) → IsBucketOf dir set k bucket → txn ≡ forgets set k bucket → IsLedger dir (ledger_kind set) ledger
    → IsLedger (with_puts dir txn) (ledger_kind set) (forget k ledger)
forgotten_by dir set k bucket ledger txn file is stands = subst (λ (t : List Put). IsLedger (with_puts dir t) (ledger_kind set) (forget k ledger)) (sym is) (go (find_entry k bucket) refl)
  where
    go : (o : Option LedgerEntry) → find_entry k bucket ≡ o → IsLedger (with_puts dir (cond (is_some (find_entry k bucket)) (writes set k (forget k bucket)) [])) (ledger_kind set) (forget k ledger)
    go None found =
        let none : find_entry k ledger ≡ None = found_there dir (ledger_kind set) ledger bucket k stands file ∙ found in
        subst (λ b. IsLedger (with_puts dir (cond b (writes set k (forget k bucket)) [])) (ledger_kind set) (forget k ledger)) (sym (ap is_some found))
        (subst (λ (l : Ledger). IsLedger dir (ledger_kind set) l) (sym (forget_absent k ledger none)) stands)
    go (Some e) found =
        subst (λ b. IsLedger (with_puts dir (cond b (writes set k (forget k bucket)) [])) (ledger_kind set) (forget k ledger)) (sym (ap is_some found))
        (forgotten_there dir (ledger_kind set) ledger bucket k stands file)

-- forgetting touches the key's file alone
pub forgets_only : (test : Name → Bool) (set : Set) (k : Text) (bucket : Ledger) (txn : List Put) → test (key_file set k) ≡ true → txn ≡ forgets set k bucket → touches_only test txn ≡ true
forgets_only test set k bucket txn passes is = ap (touches_only test) is ∙ go (is_some (find_entry k bucket))
  where
    go : (b : Bool) → touches_only test (cond b (writes set k (forget k bucket)) []) ≡ true
    go true = ap (λ t. t && true) passes
    go false = refl

-- if the files stand for a ledger, none of them is outside its grammar
pub no_bad_file : (dir : Dir) (set : Set) (n : ℕ) (ledger : Ledger) → n < 53 → IsLedger dir (ledger_kind set) ledger → IsNoFile dir set n → ⊥
no_bad_file dir set n ledger less is none = none (is.buckets n) (is.files n less)

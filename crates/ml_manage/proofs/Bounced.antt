-- What bounces do to the list's files.
use Rattle.std.proofs.Common.{◌≡◌, Bool, true, false, cond, List, [], Option, Some, None, refl, sym, ap, ◌∙◌, subst}
use Rattle.std.specs.Prelude.{is_some}
use Rattle.std.proofs.lemmas.Bool.{and_from, eq-eqb}
use Rattle.ml_base.specs.Bytes.{Text}
use Rattle.ml_base.specs.Address.{key}
use Rattle.ml_base.specs.Dir.{Dir, same_name, with_puts, touches_only}
use Rattle.ml_base.specs.declared.names.Set.{Set}
use Rattle.ml_base.specs.declared.names.Set.TheVariants as sets
use Rattle.ml_base.specs.declared.puts.Put.{Put}
use Rattle.ml_address.specs.Requests.{is_mailed}
use Rattle.ml_bounce.specs.Answers.{has_ledger, key_file, ledger_kind, LeadsTo, puts_of}
use Rattle.ml_bounce.specs.Files.{IsLedger}
use Rattle.ml_bounce.specs.Ledger.{Ledger}
use Rattle.ml_plain.specs.declared.Reply.{Reply}
use Rattle.ml_plain.specs.Answers.{bounce, ignored, dropped}
use Rattle.ml_plain.specs.Bouncing.{if_changed, if_probed}
use Rattle.ml_plain.specs.Directory.{IsList, list_ledger_kinds, digest_ledger_kinds}
use Rattle.ml_plain.specs.KeptFiles.{may_be_kept}
use Rattle.ml_plain.specs.Plain.{Plain, ledger_of, removed}
use Rattle.ml_plain.proofs.PartChanges.{list_ledger_changed, digest_ledger_changed}
use Rattle.ml_acts.specs.Doing.{DoesList, is_entry_of}
use Rattle.ml_manage.specs.Leaving.{change_reply}
use Rattle.ml_acts.proofs.Queued.{touches_weaker}
use Rattle.ml_acts.proofs.Left.{entry_kind}

-- the sets whose mail bounces have a ledger
pub mailed_ledger : (set : Set) → is_mailed set ≡ true → has_ledger set ≡ true
mailed_ledger sets.List e = refl
mailed_ledger sets.Digest e = refl
mailed_ledger sets.Allow e = e
mailed_ledger sets.Deny e = e
mailed_ledger sets.Moderators e = e

-- the ledger's files stand for it
pub ledger_is : (dir : Dir) (p : Plain) (set : Set) → is_mailed set ≡ true → IsList dir p → IsLedger dir (ledger_kind set) (ledger_of p set)
ledger_is dir p sets.List e is = is.list_ledger
ledger_is dir p sets.Digest e is = is.digest_ledger
ledger_is dir p sets.Allow e is = absurd (let bad : false ≡ true = e in cc)
ledger_is dir p sets.Deny e is = absurd (let bad : false ≡ true = e in cc)
ledger_is dir p sets.Moderators e is = absurd (let bad : false ≡ true = e in cc)

-- an answer that is a step, by its parts
pub does_by : (dir : Dir) (done : List Put × Reply) (puts : List Put) (reply : Reply) (p : Plain) → done.0 ≡ puts → done.1 ≡ reply → IsList (with_puts dir puts) p → DoesList dir done (p, reply)
does_by dir done puts reply p e f now = record {
  reply = f;
  list = subst (λ (t : List Put). IsList (with_puts dir t) p) (sym e) now;
}

abbrev IsEntryOnly : Set → Text → List Put → Type 0
IsEntryOnly set x puts = touches_only (λ name. same_name name (key_file set (key x))) puts ≡ true

-- a ledger's change
pub changed_own : (set : Set) (x : Text) (answer : Option (List Put)) (puts : List Put) → is_mailed set ≡ true → IsEntryOnly set x (puts_of answer) → puts ≡ puts_of answer → touches_only (is_entry_of set x) puts ≡ true
changed_own set x answer puts mailed only e =
    ap (touches_only (is_entry_of set x)) e
    ∙ touches_weaker (λ name. same_name name (key_file set (key x))) (is_entry_of set x) (puts_of answer) (λ name same. and_from (has_ledger set) (same_name name (key_file set (key x))) (mailed_ledger set mailed) same) only

pub change_kept : (answer : Option (List Put)) (reply : Reply) → reply ≡ change_reply answer → may_be_kept reply ≡ true
change_kept None reply e = ap may_be_kept e
change_kept (Some puts) reply e = ap may_be_kept e

module _ (dir : Dir) (p : Plain) (x : Text) (done : List Put × Reply) where
  pub changed_list : (set : Set) (answer : Option (List Put)) (ledger : Option Ledger) → is_mailed set ≡ true → IsList dir p → LeadsTo dir set answer ledger
      → IsEntryOnly set x (puts_of answer) → done.0 ≡ puts_of answer → done.1 ≡ change_reply answer → DoesList dir done (if_changed p set ledger)
  changed_list set None None mailed is leads only e f = does_by dir done [] ignored p e f is
  changed_list set None (Some ledger) mailed is leads only e f = absurd leads
  changed_list set (Some txn) None mailed is leads only e f = absurd leads
  changed_list sets.List (Some txn) (Some ledger) mailed is leads only e f =
      does_by dir done txn bounce (record p { list_ledger = ledger }) e f
      (list_ledger_changed dir p txn ledger is
      (touches_weaker (λ name. same_name name (key_file sets.List (key x))) (λ name. list_ledger_kinds name.kind) txn (λ name same. eq-eqb name.kind 15 (entry_kind sets.List (key x) name same)) only) leads)
  changed_list sets.Digest (Some txn) (Some ledger) mailed is leads only e f =
      does_by dir done txn bounce (record p { digest_ledger = ledger }) e f
      (digest_ledger_changed dir p txn ledger is
      (touches_weaker (λ name. same_name name (key_file sets.Digest (key x))) (λ name. digest_ledger_kinds name.kind) txn (λ name same. eq-eqb name.kind 16 (entry_kind sets.Digest (key x) name same)) only) leads)
  changed_list sets.Allow (Some txn) (Some ledger) mailed is leads only e f = absurd (let bad : false ≡ true = mailed in cc)
  changed_list sets.Deny (Some txn) (Some ledger) mailed is leads only e f = absurd (let bad : false ≡ true = mailed in cc)
  changed_list sets.Moderators (Some txn) (Some ledger) mailed is leads only e f = absurd (let bad : false ≡ true = mailed in cc)

  -- a probe's bounce that changes nothing
  pub spared : (set : Set) (found : Option Ledger) → IsList dir p → is_some found ≡ false → done.0 ≡ [] → done.1 ≡ ignored → DoesList dir done (if_probed p set x found)
  spared set None is none e f = does_by dir done [] ignored p e f is
  spared set (Some ledger) is none e f = absurd (let bad : true ≡ false = none in cc)

  -- one that drops the member
  pub dropped_so : (set : Set) (found : Option Ledger) → is_some found ≡ true → DoesList dir done (removed set x p, dropped) → DoesList dir done (if_probed p set x found)
  dropped_so set None some does = absurd (let bad : true ≡ false = sym some in cc)
  dropped_so set (Some ledger) some does = does

-- a bounce that doesn't count, and one that does
module _ (dir : Dir) (p : Plain) (set : Set) (done : List Put × Reply) (b : Bool) (ledger : Option Ledger) where
  pub not_noted : IsList dir p → b ≡ false → done.0 ≡ [] → done.1 ≡ ignored → DoesList dir done (if_changed p set (cond b ledger None))
  not_noted is fails e f = subst (λ (t : Bool). DoesList dir done (if_changed p set (cond t ledger None))) (sym fails) (does_by dir done [] ignored p e f is)

  pub noted : b ≡ true → DoesList dir done (if_changed p set ledger) → DoesList dir done (if_changed p set (cond b ledger None))
  noted holds does = subst (λ (t : Bool). DoesList dir done (if_changed p set (cond t ledger None))) (sym holds) does

  pub not_dropped : (x : Text) → IsList dir p → b ≡ false → done.0 ≡ [] → done.1 ≡ ignored → DoesList dir done (if_probed p set x (cond b ledger None))
  not_dropped x is fails e f = subst (λ (t : Bool). DoesList dir done (if_probed p set x (cond t ledger None))) (sym fails) (does_by dir done [] ignored p e f is)

  pub was_dropped : (x : Text) → b ≡ true → DoesList dir done (if_probed p set x ledger) → DoesList dir done (if_probed p set x (cond b ledger None))
  was_dropped x holds does = subst (λ (t : Bool). DoesList dir done (if_probed p set x (cond t ledger None))) (sym holds) does

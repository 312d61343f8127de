-- Entries that are found in a ledger, also once another one was followed up.
use Rattle.std.proofs.Common.{◌≡◌, ◌<◌, ℕ, Bool, true, false, cond, [], ◌∷◌, Option, Some, None, refl, sym, ap, ◌∙◌, if◌then◌else◌, codes}
use Rattle.std.proofs.lemmas.Bool.{and_parts, false≢true}
use Rattle.std.specs.Cmp.{tied_itself}
use Rattle.std.specs.List.{list_all, AllByRecursion}
use Rattle.std.specs.Ordering.{eq_by_cmp, is_lt}
use Rattle.ml_base.specs.Bytes.{Text, lower}
use Rattle.ml_base.specs.Dir.{Dir}
use Rattle.ml_base.specs.Sorted.{byte_cmp, is_sorted}
use Rattle.ml_base.specs.declared.names.Set.{Set}
use Rattle.ml_base.specs.declared.names.Set.TheVariants as sets
use Rattle.ml_base.proofs.SortedLaws.{same_bytes, bytes_total, found_is, found_with, found_without}
use Rattle.ml_bounce.specs.Answers.{has_ledger}
use Rattle.ml_bounce.specs.Changes.{act, after_at}
use Rattle.ml_bounce.specs.Files.{IsEntry, IsLedger, bucket_of}
use Rattle.ml_bounce.specs.Ledger.{Ledger, find_entry, forget, is_blank_at, settle, with_ledger}
use Rattle.ml_bounce.specs.declared.entries.LedgerEntry.{LedgerEntry}
use Rattle.ml_bounce.specs.declared.entries.Stage.{Stage}
use Rattle.ml_bounce.specs.declared.entries.Stage.TheVariants.{Unwarned, Warned, WarnFailed, Probed}
use Rattle.ml_bounce.proofs.Acted.{after_key}
use Rattle.ml_reply.specs.declared.mails.Mail.{Mail}
use Rattle.ml_subs.specs.Members.{member_of}
use Rattle.ml_subs.specs.declared.member_list.Member.{Member}
use Rattle.ml_reply.specs.declared.mails.Mail.TheVariants as mails
use Rattle.ml_plain.specs.Mailing.{bounce_mail}
use Rattle.ml_plain.specs.Plain.{Plain, ledger_of, with_ledger_of}
use Rattle.ml_plain.specs.Timing.{change_entry, drop_entry, follow_at, follow_up, warn_member, probe_member}
use Rattle.ml_plain.proofs.Leaving.{tied_text}
use Rattle.ml_timed.specs.Ahead.{AreIn}

-- a key above another isn't that one
above_apart : (a b : Text) → is_lt (byte_cmp a b) ≡ true → eq_by_cmp byte_cmp b a ≡ false
above_apart a b above = go (eq_by_cmp byte_cmp b a) refl
  where
    go : (s : Bool) → eq_by_cmp byte_cmp b a ≡ s → eq_by_cmp byte_cmp b a ≡ false
    go false e = e
    go true e =
        let self : is_lt (byte_cmp a a) ≡ true = ap (λ k. is_lt (byte_cmp a k)) (sym (tied_text b a e)) ∙ above in
        absurd (false≢true (sym (ap is_lt (tied_itself bytes_total a)) ∙ self))

-- an entry that is found is spelled as its key
pub found_lowered : (dir : Dir) (kind : ℕ) (ledger : Ledger) (k : Text) (e : LedgerEntry) → IsLedger dir kind ledger → find_entry k ledger ≡ Some e → bucket_of k < 53 → lower e.key ≡ e.key
found_lowered dir kind ledger k e is found within =
    ((found_is byte_cmp (λ f. f.key) (IsEntry (bucket_of k)) k e (is.buckets (bucket_of k)) (is.files (bucket_of k) within).each (sym (is.by_key k) ∙ found)).0).lowered

ledger_put : (set : Set) → has_ledger set ≡ true → (ledger : Ledger) (p : Plain) → ledger_of (with_ledger_of set ledger p) set ≡ ledger
ledger_put sets.List has ledger p = refl
ledger_put sets.Digest has ledger p = refl
ledger_put sets.Allow has ledger p = absurd (false≢true has)
ledger_put sets.Deny has ledger p = absurd (false≢true has)
ledger_put sets.Moderators has ledger p = absurd (false≢true has)

pub mail_ledger : (set own : Set) (kind who : Text) (now : ℕ) (mail : Mail) (p : Plain) → ledger_of (bounce_mail kind own who now mail p) set ≡ ledger_of p set
mail_ledger sets.List own kind who now mail p = refl
mail_ledger sets.Digest own kind who now mail p = refl
mail_ledger sets.Allow own kind who now mail p = refl
mail_ledger sets.Deny own kind who now mail p = refl
mail_ledger sets.Moderators own kind who now mail p = refl

-- what is found under another key stays
module _ (k : Text) (e : LedgerEntry) (apart : eq_by_cmp byte_cmp k e.key ≡ false) where
  forgotten_else : (ledger : Ledger) → find_entry k (forget e.key ledger) ≡ find_entry k ledger
  forgotten_else ledger =
      found_without byte_cmp (λ f. f.key) same_bytes bytes_total k e.key ledger ∙ ap (λ s. cond s None (find_entry k ledger)) apart

  settled_else : (new : LedgerEntry) (ledger : Ledger) → new.key ≡ e.key → find_entry k (settle new ledger) ≡ find_entry k ledger
  settled_else new ledger same = go (is_blank_at new.stage new.missed)
    where
      go : (t : Bool) → find_entry k (if t then forget new.key ledger else with_ledger new ledger) ≡ find_entry k ledger
      go true = ap (λ n. find_entry k (forget n ledger)) same ∙ forgotten_else ledger
      go false =
          found_with byte_cmp (λ f. f.key) same_bytes bytes_total k new ledger
          ∙ ap (λ n. cond (eq_by_cmp byte_cmp k n) (Some new) (find_entry k ledger)) same ∙ ap (λ s. cond s (Some new) (find_entry k ledger)) apart

  module _ (now : ℕ) (set : Set) (has : has_ledger set ≡ true) where
    changed_else : (p : Plain) → find_entry k (ledger_of (change_entry now set e p) set) ≡ find_entry k (ledger_of p set)
    changed_else p = ap (find_entry k) (ledger_put set has (act now e (ledger_of p set)) p) ∙ settled_else (after_at now e.stage e) (ledger_of p set) (after_key now e.stage e)

    dropped_else : (p : Plain) → find_entry k (ledger_of (drop_entry set e p) set) ≡ find_entry k (ledger_of p set)
    dropped_else p = ap (find_entry k) (ledger_put set has (forget e.key (ledger_of p set)) p) ∙ forgotten_else (ledger_of p set)

    warned_else : (p : Plain) (m : Option Member) → find_entry k (ledger_of (warn_member now set e p m) set) ≡ find_entry k (ledger_of p set)
    warned_else p None = dropped_else p
    warned_else p (Some m) =
        let mail = mails.Warn m.who set m.who e.missed in
        changed_else (bounce_mail (codes "warn") set m.who now mail p) ∙ ap (find_entry k) (mail_ledger set set (codes "warn") m.who now mail p)

    probed_else : (p : Plain) (m : Option Member) → find_entry k (ledger_of (probe_member now set e p m) set) ≡ find_entry k (ledger_of p set)
    probed_else p None = dropped_else p
    probed_else p (Some m) =
        let mail = mails.Probe m.who set m.who in
        changed_else (bounce_mail (codes "probe") set m.who now mail p) ∙ ap (find_entry k) (mail_ledger set set (codes "probe") m.who now mail p)

    followed_at : (p : Plain) (s : Stage) → find_entry k (ledger_of (follow_at now set e p s) set) ≡ find_entry k (ledger_of p set)
    followed_at p Unwarned = warned_else p (member_of e.key (p.sets set))
    followed_at p (Warned t) = changed_else p
    followed_at p (WarnFailed t) = probed_else p (member_of e.key (p.sets set))
    followed_at p (Probed t) = changed_else p

    followed_else : (p : Plain) → find_entry k (ledger_of (follow_up now p (set, e)) set) ≡ find_entry k (ledger_of p set)
    followed_else p = followed_at p e.stage

-- the entries after the one that is followed up are still there
pub after_in : (now : ℕ) (set : Set) → has_ledger set ≡ true → (p : Plain) (e : LedgerEntry) (es : Ledger) → AreIn (ledger_of p set) (e ∷ es) → AreIn (ledger_of (follow_up now p (set, e)) set) es
after_in now set has p e es are =
    let parts = and_parts (list_all (λ f. is_lt (byte_cmp e.key f.key)) es) (is_sorted byte_cmp (λ f. f.key) es) are.sorted in
    record { sorted = parts.1; found = each es parts.0 are.found.1 }
  where
    each : (fs : Ledger) → list_all (λ f. is_lt (byte_cmp e.key f.key)) fs ≡ true → AllByRecursion (λ f. find_entry f.key (ledger_of p set) ≡ Some f) fs
        → AllByRecursion (λ f. find_entry f.key (ledger_of (follow_up now p (set, e)) set) ≡ Some f) fs
    each [] above found = tt
    each (f ∷ fs) above found =
        let parts = and_parts (is_lt (byte_cmp e.key f.key)) (list_all (λ g. is_lt (byte_cmp e.key g.key)) fs) above in
        (followed_else f.key e (above_apart e.key f.key parts.0) now set has p ∙ found.0, each fs parts.1 found.1)

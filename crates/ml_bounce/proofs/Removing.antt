-- A whole course of bounces leads to a removal.
use Rattle.std.proofs.Common.{◌≡◌, ℕ, true, cond, [], ◌∷◌, Option, Some, None, refl, ap, ◌∙◌}
use Rattle.std.specs.Prelude.{unwrap_or}
use Rattle.std.proofs.lemmas.Bool.{eq-eqb}
use Rattle.ml_base.specs.Bytes.{Text}
use Rattle.ml_base.specs.Sorted.{byte_cmp}
use Rattle.ml_base.proofs.SortedLaws.{bytes_total, same_bytes, found_with, found_without}
use Rattle.ml_bounce.specs.Changes.{can_note, noted, is_warned, is_probed, probe_failed, is_old, is_due, act}
use Rattle.ml_bounce.specs.Course.{Bounced, WarningBounced, Served, after, after_all}
use Rattle.ml_bounce.specs.Ledger.{Ledger, LedgerEntry, Stage, Unwarned, Warned, WarnFailed, Probed, find_entry, entry_under, no_entry, with_ledger, forget}
use Rattle.ml_keyed.proofs.Keys.{own_tie}
use Rattle.ml_bounce.specs.Ledger.{entry_key}

abbrev entry_by : Text → ℕ → Stage → LedgerEntry
entry_by k first stage = record { key = k; first = first; stage = stage; missed = [] }

abbrev missing : Text → ℕ → ℕ → LedgerEntry
missing k number first = record { key = k; first = first; stage = Unwarned; missed = number ∷ [] }

-- an entry that was put into a ledger is the one under its key
under_with : (e : LedgerEntry) (es : Ledger) → entry_under e.key (with_ledger e es) ≡ e
under_with e es =
    ap (λ (o : Option LedgerEntry). unwrap_or o (no_entry e.key)) (found_with byte_cmp entry_key same_bytes bytes_total e.key e es ∙ ap (λ t. cond t (Some e) (find_entry e.key es)) (own_tie e.key))

module _ (k : Text) (number first warned failed probed : ℕ) where
  bounced : (es : Ledger) → find_entry k es ≡ None → after (Bounced k number first) es ≡ with_ledger (missing k number first) es
  bounced es none = ap (λ (o : Option LedgerEntry). unwrap_or (cond (can_note number (unwrap_or o (no_entry k))) (Some (with_ledger (noted number first (unwrap_or o (no_entry k))) es)) None) es) none

  warning : (es : Ledger) → entry_under k es ≡ missing k number first → is_old warned first ≡ true → after (Served k warned) es ≡ with_ledger (entry_by k 0 (Warned warned)) es
  warning es under old =
      ap (λ (e : LedgerEntry). cond (is_due warned e) (act warned e es) es) under ∙ ap (λ b. cond b (with_ledger (entry_by k 0 (Warned warned)) es) es) old

  warning_bounced : (es : Ledger) → entry_under k es ≡ entry_by k 0 (Warned warned) → after (WarningBounced k warned failed) es ≡ with_ledger (entry_by k 0 (WarnFailed failed)) es
  warning_bounced es under =
      ap (λ (e : LedgerEntry). unwrap_or (cond (is_warned warned e.stage) (Some (with_ledger (record e { stage = WarnFailed failed }) es)) None) es) under
      ∙ ap (λ b. unwrap_or (cond b (Some (with_ledger (entry_by k 0 (WarnFailed failed)) es)) None) es) (eq-eqb warned warned refl)

  probing : (es : Ledger) → entry_under k es ≡ entry_by k 0 (WarnFailed failed) → is_old probed failed ≡ true → after (Served k probed) es ≡ with_ledger (entry_by k 0 (Probed probed)) es
  probing es under old =
      ap (λ (e : LedgerEntry). cond (is_due probed e) (act probed e es) es) under ∙ ap (λ b. cond b (with_ledger (entry_by k 0 (Probed probed)) es) es) old

  probe_bounced : (es : Ledger) → entry_under k es ≡ entry_by k 0 (Probed probed) → probe_failed k probed es ≡ Some (forget k es)
  probe_bounced es under =
      ap (λ (e : LedgerEntry). cond (is_probed probed e.stage) (Some (forget k es)) None) under ∙ ap (λ b. cond b (Some (forget k es)) None) (eq-eqb probed probed refl)

  abbrev course : Ledger → Ledger
  course es = after_all (Bounced k number first ∷ Served k warned ∷ WarningBounced k warned failed ∷ Served k probed ∷ []) es

  forgotten : (es : Ledger) → find_entry k (forget k es) ≡ None
  forgotten es = found_without byte_cmp entry_key same_bytes bytes_total k k es ∙ ap (λ t. cond t None (find_entry k es)) (own_tie k)

  pub course_removes : (es : Ledger) → find_entry k es ≡ None → is_old warned first ≡ true → is_old probed failed ≡ true → (left : Ledger) × (probe_failed k probed (course es) ≡ Some left) × (find_entry k left ≡ None)
  course_removes es none old later =
      let one = with_ledger (missing k number first) es in
      let two = with_ledger (entry_by k 0 (Warned warned)) one in
      let three = with_ledger (entry_by k 0 (WarnFailed failed)) two in
      let four = with_ledger (entry_by k 0 (Probed probed)) three in
      let a : after (Bounced k number first) es ≡ one = bounced es none in
      let b : after (Served k warned) one ≡ two = warning one (under_with (missing k number first) es) old in
      let c : after (WarningBounced k warned failed) two ≡ three = warning_bounced two (under_with (entry_by k 0 (Warned warned)) one) in
      let d : after (Served k probed) three ≡ four = probing three (under_with (entry_by k 0 (WarnFailed failed)) two) later in
      let all : course es ≡ four =
      ap (λ (l : Ledger). after (Served k probed) (after (WarningBounced k warned failed) (after (Served k warned) l))) a ∙ ap (λ (l : Ledger). after (Served k probed) (after (WarningBounced k warned failed) l)) b
      ∙ ap (λ (l : Ledger). after (Served k probed) l) c ∙ d in
      (forget k four, ap (probe_failed k probed) all ∙ probe_bounced four (under_with (entry_by k 0 (Probed probed)) three), forgotten four)

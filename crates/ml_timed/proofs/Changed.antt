-- What the puts of one act make of a list.
use Rattle.std.proofs.Common.{◌≡◌, ◌+◌, inl, inr, ℕ, Bool, true, false, List, [], ◌∷◌, ◌++◌, Option, Some, None, eqb, leb, ◌&&◌, refl, sym, ap, ◌∙◌, subst, arith, codes}
use Rattle.std.proofs.lemmas.Bool.{eq-eqb, eqb-true, false≢true, or_cases}
use Rattle.std.proofs.lemmas.Nat.{mod_below}
use Rattle.ml_address.specs.declared.Path.{Path}
use Rattle.ml_base.specs.Address.{key}
use Rattle.ml_base.specs.Bytes.{Text}
use Rattle.ml_base.specs.Dir.{Dir, same_name, with_puts, touches_only}
use Rattle.ml_base.specs.Drawn.{IsCounter}
use Rattle.ml_base.specs.Hash.{hash_of}
use Rattle.ml_base.specs.declared.names.Name.{Name}
use Rattle.ml_base.specs.declared.names.Set.{Set}
use Rattle.ml_base.specs.declared.names.Set.TheVariants as sets
use Rattle.ml_base.specs.declared.puts.Put.{Put}
use Rattle.ml_base.proofs.Laid.{laid_joined, left_alone}
use Rattle.ml_bounce.specs.Answers.{has_ledger, key_file, ledger_kind, action_key}
use Rattle.ml_bounce.specs.Changes.{act, action_at, action_of}
use Rattle.ml_bounce.specs.Files.{IsLedger}
use Rattle.ml_bounce.specs.Ledger.{Ledger, find_entry, forget}
use Rattle.ml_bounce.specs.declared.entries.LedgerEntry.{LedgerEntry}
use Rattle.ml_bounce.specs.declared.entries.Stage.{Stage}
use Rattle.ml_bounce.specs.declared.entries.Stage.TheVariants.{Unwarned, Warned, WarnFailed, Probed}
use Rattle.ml_bounce.specs.declared.actions.Action.{Action}
use Rattle.ml_bounce.specs.declared.actions.Action.TheVariants.{Warn, Probe, Lapse}
use Rattle.ml_config.specs.declared.configuration.Config.{Config}
use Rattle.ml_queue.specs.Answers.{ids_name}
use Rattle.ml_reply.specs.Mails.{mail_text}
use Rattle.ml_reply.specs.declared.mails.Mail.{Mail}
use Rattle.ml_reply.specs.declared.mails.Mail.TheVariants as mails
use Rattle.ml_subs.specs.Members.{member_of}
use Rattle.ml_subs.specs.declared.member_list.Member.{Member}
use Rattle.ml_plain.specs.Directory.{IsList, list_ledger_kinds, digest_ledger_kinds}
use Rattle.ml_plain.specs.Mailing.{bounce_mail, bounce_path, send}
use Rattle.ml_plain.specs.Plain.{Plain, ledger_of, with_ledger_of}
use Rattle.ml_plain.specs.Timing.{change_entry, drop_entry, follow_at, follow_up, warn_member, probe_member}
use Rattle.ml_plain.proofs.PartChanges.{list_ledger_changed, digest_ledger_changed}
use Rattle.ml_acts.specs.Doing.{DrawsId, HasIdsUpTo, is_of_queue, without_entry}
use Rattle.ml_timed.specs.Found.{is_followed_up}
use Rattle.ml_acts.specs.Spelled.{AreSpelled}
use Rattle.ml_acts.proofs.Left.{entry_kind}
use Rattle.ml_acts.proofs.Queued.{touches_both, touches_weaker}
use Rattle.ml_acts.proofs.Spelled.{spelled_both}
use Rattle.ml_timed.specs.Telling.{cookie_kind, is_mailed, mail_for}
use Rattle.ml_timed.proofs.Entries.{found_lowered, mail_ledger}

-- the file of a key in a set's ledger
abbrev pub is_key_file : Set → Text → Name → Bool
is_key_file set k name = same_name name (key_file set k)

-- it isn't the queue's
file_beside : (set : Set) (k : Text) → has_ledger set ≡ true → is_of_queue (key_file set k) ≡ false
file_beside sets.List k has = refl
file_beside sets.Digest k has = refl
file_beside sets.Allow k has = absurd (false≢true has)
file_beside sets.Deny k has = absurd (false≢true has)
file_beside sets.Moderators k has = absurd (false≢true has)

ids_beside : (set : Set) (k : Text) → has_ledger set ≡ true → is_key_file set k ids_name ≡ false
ids_beside sets.List k has = refl
ids_beside sets.Digest k has = refl
ids_beside sets.Allow k has = absurd (false≢true has)
ids_beside sets.Deny k has = absurd (false≢true has)
ids_beside sets.Moderators k has = absurd (false≢true has)

pub file_timed : (set : Set) (k : Text) → has_ledger set ≡ true → (name : Name) → is_key_file set k name ≡ true → is_followed_up name ≡ true
file_timed sets.List k has name e = ap (λ kind. leb 15 kind && leb kind 18) (entry_kind sets.List k name e)
file_timed sets.Digest k has name e = ap (λ kind. leb 15 kind && leb kind 18) (entry_kind sets.Digest k name e)
file_timed sets.Allow k has name e = absurd (false≢true has)
file_timed sets.Deny k has name e = absurd (false≢true has)
file_timed sets.Moderators k has name e = absurd (false≢true has)

pub queue_timed : (name : Name) → is_of_queue name ≡ true → is_followed_up name ≡ true
queue_timed name e = elim (or_cases (eqb name.kind 17) (eqb name.kind 18) e) [
  | inl k ↦ ap (λ kind. leb 15 kind && leb kind 18) (eqb-true name.kind 17 k)
  | inr k ↦ ap (λ kind. leb 15 kind && leb kind 18) (eqb-true name.kind 18 k)
]

-- the ledger of a set that has one
pub ledger_there : (dir : Dir) (set : Set) (p : Plain) → has_ledger set ≡ true → IsList dir p → IsLedger dir (ledger_kind set) (ledger_of p set)
ledger_there dir sets.List p has is = is.list_ledger
ledger_there dir sets.Digest p has is = is.digest_ledger
ledger_there dir sets.Allow p has is = absurd (false≢true has)
ledger_there dir sets.Deny p has is = absurd (false≢true has)
ledger_there dir sets.Moderators p has is = absurd (false≢true has)

-- and what puts of one of its files make of a list
pub ledger_changed : (dir : Dir) (set : Set) (k : Text) (p : Plain) (puts : List Put) (ledger : Ledger) → has_ledger set ≡ true → IsList dir p
    → touches_only (is_key_file set k) puts ≡ true → IsLedger (with_puts dir puts) (ledger_kind set) ledger → IsList (with_puts dir puts) (with_ledger_of set ledger p)
ledger_changed dir sets.List k p puts ledger has is only now =
    list_ledger_changed dir p puts ledger is (touches_weaker (is_key_file sets.List k) (λ name. list_ledger_kinds name.kind) puts (λ name e. eq-eqb name.kind 15 (entry_kind sets.List k name e)) only) now
ledger_changed dir sets.Digest k p puts ledger has is only now =
    digest_ledger_changed dir p puts ledger is (touches_weaker (is_key_file sets.Digest k) (λ name. digest_ledger_kinds name.kind) puts (λ name e. eq-eqb name.kind 16 (entry_kind sets.Digest k name e)) only) now
ledger_changed dir sets.Allow k p puts ledger has is only now = absurd (false≢true has)
ledger_changed dir sets.Deny k p puts ledger has is only now = absurd (false≢true has)
ledger_changed dir sets.Moderators k p puts ledger has is only now = absurd (false≢true has)

-- puts of such a file leave the counter of ids
kept_ids : (dir : Dir) (set : Set) (k : Text) (puts : List Put) (most : ℕ) → has_ledger set ≡ true → touches_only (is_key_file set k) puts ≡ true → HasIdsUpTo dir most → HasIdsUpTo (with_puts dir puts) most
kept_ids dir set k puts most has only up low next is =
    up low next (subst (λ (f : Option Text). IsCounter f low next) (left_alone (is_key_file set k) dir puts ids_name only (ids_beside set k has)) is)

pub draws_none : (old : Dir) (set : Set) (k : Text) (puts : List Put) → has_ledger set ≡ true → touches_only (is_key_file set k) puts ≡ true → AreSpelled old puts → DrawsId old puts
draws_none old set k puts has only spelled = record {
  up = λ dir most alike up low next is. omega (arith, kept_ids dir set k puts most has only up low next is);
  spelled = spelled;
}

-- puts of the queue, and after them those of such a file
module _ (dir : Dir) (set : Set) (k : Text) (txn more done : List Put) (has : has_ledger set ≡ true) (queue : touches_only is_of_queue txn ≡ true)
    (only : touches_only (is_key_file set k) more ≡ true) (joined : done ≡ txn ++ more) where
  laid_two : (old : Dir) → with_puts old done ≡ with_puts (with_puts old txn) more
  laid_two old = ap (λ (t : List Put). with_puts old t) joined ∙ laid_joined old txn more

  pub both_timed : touches_only is_followed_up done ≡ true
  both_timed =
      ap (touches_only is_followed_up) joined
      ∙ touches_both is_followed_up txn more (touches_weaker is_of_queue is_followed_up txn queue_timed queue) (touches_weaker (is_key_file set k) is_followed_up more (file_timed set k has) only)

  pub both_drawn : DrawsId dir txn → AreSpelled dir more → DrawsId dir done
  both_drawn draws spelled = record {
    up = λ other most alike up. subst (λ (d : Dir). HasIdsUpTo d (most + 1)) (sym (laid_two other)) (kept_ids (with_puts other txn) set k more (most + 1) has only (draws.up other most alike up));
    spelled = subst (λ (puts : List Put). AreSpelled dir puts) (sym joined) (spelled_both dir txn more draws.spelled spelled);
  }

  pub both_changed : (now : ℕ) (e : LedgerEntry) (p : Plain) → IsList (with_puts dir txn) p → find_entry k (ledger_of p set) ≡ Some e
      → ((other : Dir) (ledger : Ledger) (f : LedgerEntry) → other (key_file set k) ≡ dir (key_file set k) → IsLedger other (ledger_kind set) ledger → find_entry k ledger ≡ Some f
      → IsLedger (with_puts other more) (ledger_kind set) (act now f ledger))
      → IsList (with_puts dir done) (change_entry now set e p)
  both_changed now e p is found acts =
      let mid = with_puts dir txn in
      subst (λ (d : Dir). IsList d (change_entry now set e p)) (sym (laid_two dir))
      (ledger_changed mid set k p more (act now e (ledger_of p set)) has is only
      (acts mid (ledger_of p set) e (left_alone is_of_queue dir txn (key_file set k) queue (file_beside set k has)) (ledger_there mid set p has is) found))

-- whom an action is for
pub same_key : (e : LedgerEntry) (a : Action) → action_of e ≡ a → action_key a ≡ e.key
same_key e a is = ap action_key (sym is) ∙ go e.stage refl
  where
    go : (s : Stage) → e.stage ≡ s → action_key (action_of e) ≡ e.key
    go Unwarned s = ap (λ t. action_key (action_at t e)) s
    go (Warned t) s = ap (λ t. action_key (action_at t e)) s
    go (WarnFailed t) s = ap (λ t. action_key (action_at t e)) s
    go (Probed t) s = ap (λ t. action_key (action_at t e)) s

at_stage : (e : LedgerEntry) (a : Action) (s : Stage) → e.stage ≡ s → action_of e ≡ a → action_at s e ≡ a
at_stage e a s is same = ap (λ t. action_at t e) (sym is) ∙ same

-- an entry is followed up by a warning
record IsWarned (e : LedgerEntry) (to : Text) (missed : List ℕ) : Type 0 where
  pub stage : e.stage ≡ Unwarned
  pub key_is : e.key ≡ to
  pub missed_is : e.missed ≡ missed

warned_is : (e : LedgerEntry) (to : Text) (missed : List ℕ) → action_of e ≡ Warn to missed → IsWarned e to missed
warned_is e to missed same = go e.stage refl
  where
    go : (s : Stage) → e.stage ≡ s → IsWarned e to missed
    go Unwarned s = let one : Warn e.key e.missed ≡ Warn to missed = at_stage e (Warn to missed) Unwarned s same in record { stage = s; key_is = cc; missed_is = cc }
    go (Warned t) s = absurd (let bad : Lapse e.key ≡ Warn to missed = at_stage e (Warn to missed) (Warned t) s same in cc)
    go (WarnFailed t) s = absurd (let bad : Probe e.key ≡ Warn to missed = at_stage e (Warn to missed) (WarnFailed t) s same in cc)
    go (Probed t) s = absurd (let bad : Lapse e.key ≡ Warn to missed = at_stage e (Warn to missed) (Probed t) s same in cc)

-- by a probe
record IsProbed (e : LedgerEntry) (to : Text) : Type 0 where
  pub moment : ℕ
  pub stage : e.stage ≡ WarnFailed moment
  pub key_is : e.key ≡ to

probed_is : (e : LedgerEntry) (to : Text) → action_of e ≡ Probe to → IsProbed e to
probed_is e to same = go e.stage refl
  where
    go : (s : Stage) → e.stage ≡ s → IsProbed e to
    go Unwarned s = absurd (let bad : Warn e.key e.missed ≡ Probe to = at_stage e (Probe to) Unwarned s same in cc)
    go (Warned t) s = absurd (let bad : Lapse e.key ≡ Probe to = at_stage e (Probe to) (Warned t) s same in cc)
    go (WarnFailed t) s = let one : Probe e.key ≡ Probe to = at_stage e (Probe to) (WarnFailed t) s same in record { moment = t; stage = s; key_is = cc }
    go (Probed t) s = absurd (let bad : Lapse e.key ≡ Probe to = at_stage e (Probe to) (Probed t) s same in cc)

-- a stage lapses
pub lapsed_is : (now : ℕ) (set : Set) (p : Plain) (e : LedgerEntry) (to : Text) → action_of e ≡ Lapse to → follow_up now p (set, e) ≡ change_entry now set e p
lapsed_is now set p e to same = go e.stage refl
  where
    go : (s : Stage) → e.stage ≡ s → follow_at now set e p e.stage ≡ change_entry now set e p
    go Unwarned s = absurd (let bad : Warn e.key e.missed ≡ Lapse to = at_stage e (Lapse to) Unwarned s same in cc)
    go (Warned t) s = ap (follow_at now set e p) s
    go (WarnFailed t) s = absurd (let bad : Probe e.key ≡ Lapse to = at_stage e (Lapse to) (WarnFailed t) s same in cc)
    go (Probed t) s = ap (follow_at now set e p) s

-- an entry that is found in a list's ledger
module _ (dir : Dir) (p : Plain) (set : Set) (e : LedgerEntry) (has : has_ledger set ≡ true) (is : IsList dir p) (found : find_entry e.key (ledger_of p set) ≡ Some e) where
  key_itself : key e.key ≡ e.key
  key_itself = found_lowered dir (ledger_kind set) (ledger_of p set) e.key e (ledger_there dir set p has is) found (mod_below (hash_of e.key) 53 (omega arith))

  pub found_action : (a : Action) → action_of e ≡ a → find_entry (key (action_key a)) (ledger_of p set) ≡ Some e
  found_action a same = ap (λ k. find_entry (key k) (ledger_of p set)) (same_key e a same) ∙ ap (λ k. find_entry k (ledger_of p set)) key_itself ∙ found

  same_member : (to : Text) (m : Option Member) → e.key ≡ to → m ≡ member_of (key to) (p.sets set) → member_of e.key (p.sets set) ≡ m
  same_member to m e_is m_is = ap (λ k. member_of k (p.sets set)) (sym key_itself ∙ ap key e_is) ∙ sym m_is

  -- if the key is no member's
  dropped_is : (to : Text) → e.key ≡ to → drop_entry set e p ≡ without_entry set to p
  dropped_is to e_is = ap (λ k. with_ledger_of set (forget k (ledger_of p set)) p) (sym key_itself ∙ ap key e_is)

  warned_none : (now : ℕ) (to : Text) (missed : List ℕ) → action_of e ≡ Warn to missed → None ≡ member_of (key to) (p.sets set) → follow_up now p (set, e) ≡ without_entry set to p
  warned_none now to missed same none =
      let w = warned_is e to missed same in
      ap (follow_at now set e p) w.stage ∙ ap (warn_member now set e p) (same_member to None w.key_is none) ∙ dropped_is to w.key_is

  probed_none : (now : ℕ) (to : Text) → action_of e ≡ Probe to → None ≡ member_of (key to) (p.sets set) → follow_up now p (set, e) ≡ without_entry set to p
  probed_none now to same none =
      let w = probed_is e to same in
      ap (follow_at now set e p) w.stage ∙ ap (probe_member now set e p) (same_member to None w.key_is none) ∙ dropped_is to w.key_is

  -- and if it is
  warned_some : (now : ℕ) (to : Text) (missed : List ℕ) (m : Member) → action_of e ≡ Warn to missed → Some m ≡ member_of (key to) (p.sets set)
      → follow_up now p (set, e) ≡ change_entry now set e (bounce_mail (codes "warn") set m.who now (mails.Warn m.who set m.who missed) p)
  warned_some now to missed m same some =
      let w = warned_is e to missed same in
      ap (follow_at now set e p) w.stage ∙ ap (warn_member now set e p) (same_member to (Some m) w.key_is some)
      ∙ ap (λ numbers. change_entry now set e (bounce_mail (codes "warn") set m.who now (mails.Warn m.who set m.who numbers) p)) w.missed_is

  probed_some : (now : ℕ) (to : Text) (m : Member) → action_of e ≡ Probe to → Some m ≡ member_of (key to) (p.sets set)
      → follow_up now p (set, e) ≡ change_entry now set e (bounce_mail (codes "probe") set m.who now (mails.Probe m.who set m.who) p)
  probed_some now to m same some =
      let w = probed_is e to same in
      ap (follow_at now set e p) w.stage ∙ ap (probe_member now set e p) (same_member to (Some m) w.key_is some)

  -- whichever of the two it is
  pub informed_none : (now : ℕ) (a : Action) (to : Text) → action_of e ≡ a → is_mailed a ≡ true → action_key a ≡ to → None ≡ member_of (key to) (p.sets set) → follow_up now p (set, e) ≡ without_entry set to p
  informed_none now (Warn t missed) to same mailed is = subst (λ (w : Text). None ≡ member_of (key w) (p.sets set) → follow_up now p (set, e) ≡ without_entry set w p) is (warned_none now t missed same)
  informed_none now (Probe t) to same mailed is = subst (λ (w : Text). None ≡ member_of (key w) (p.sets set) → follow_up now p (set, e) ≡ without_entry set w p) is (probed_none now t same)
  informed_none now (Lapse t) to same mailed is = absurd (false≢true mailed)

  pub informed_some : (now : ℕ) (a : Action) (to : Text) (m : Member) → action_of e ≡ a → is_mailed a ≡ true → action_key a ≡ to → Some m ≡ member_of (key to) (p.sets set)
      → follow_up now p (set, e) ≡ change_entry now set e (bounce_mail (cookie_kind a) set m.who now (mail_for set a m.who) p)
  informed_some now (Warn t missed) to m same mailed is some = warned_some now t missed m same (some ∙ ap (λ (w : Text). member_of (key w) (p.sets set)) (sym is))
  informed_some now (Probe t) to m same mailed is some = probed_some now t m same (some ∙ ap (λ (w : Text). member_of (key w) (p.sets set)) (sym is))
  informed_some now (Lapse t) to m same mailed is some = absurd (false≢true mailed)

-- the mail to a member, by its path, its body and its recipient
pub told : (dir : Dir) (c : Config) (kind : Text) (set : Set) (who : Text) (now : ℕ) (mail : Mail) (p : Plain) (way : Path) (k body : Text) (to : List Text) → way ≡ bounce_path p kind set k now → k ≡ key who
    → body ≡ mail_text c mail now → to ≡ who ∷ [] → p.config ≡ c → IsList dir (send way body to p) → IsList dir (bounce_mail kind set who now mail p)
told dir c kind set who now mail p way k body to way_is k_is body_is to_is same is =
    subst (λ (q : Plain). IsList dir q)
    (ap (λ (w : Path). send w body to p) (way_is ∙ ap (λ (t : Text). bounce_path p kind set t now) k_is)
    ∙ ap (λ (b : Text). send (bounce_path p kind set (key who) now) b to p) (body_is ∙ ap (λ (d : Config). mail_text d mail now) (sym same))
    ∙ ap (λ (t : List Text). send (bounce_path p kind set (key who) now) (mail_text p.config mail now) t p) to_is) is

-- the mail went, and the entry changes
pub changed_by : (dir : Dir) (set : Set) (now : ℕ) (a : Action) (kind who : Text) (mail : Mail) (txn done : List Put) → has_ledger set ≡ true
    → ((q : Plain) (e : LedgerEntry) → IsList (with_puts dir txn) q → find_entry (key (action_key a)) (ledger_of q set) ≡ Some e → IsList (with_puts dir done) (change_entry now set e q))
    → (p : Plain) (e : LedgerEntry) → IsList dir p → find_entry e.key (ledger_of p set) ≡ Some e → action_of e ≡ a → IsList (with_puts dir txn) (bounce_mail kind set who now mail p)
    → follow_up now p (set, e) ≡ change_entry now set e (bounce_mail kind set who now mail p) → IsList (with_puts dir done) (follow_up now p (set, e))
changed_by dir set now a kind who mail txn done has value p e is found act told so =
    subst (λ (r : Plain). IsList (with_puts dir done) r) (sym so)
    (value (bounce_mail kind set who now mail p) e told (ap (find_entry (key (action_key a))) (mail_ledger set set kind who now mail p) ∙ found_action dir p set e has is found a act))

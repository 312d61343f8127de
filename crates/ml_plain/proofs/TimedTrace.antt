-- What timed runs do to the ledgers.
use Rattle.std.proofs.Common.{◌≡◌, ℕ, ◌≤◌, inl, inr, Bool, true, false, List, [], ◌∷◌, ◌++◌, Option, Some, None, refl, sym, ap, ap₂, subst, ◌∙◌, codes, arith, option_map, unwrap_or}
use Rattle.std.specs.List.{fold}
use Rattle.ml_base.specs.Bytes.{Text}
use Rattle.ml_base.specs.Address.{key}
use Rattle.ml_base.specs.Drawn.{Drawn}
use Rattle.ml_base.specs.Name.{set_word}
use Rattle.ml_base.specs.declared.names.Set.{Set}
use Rattle.ml_base.specs.declared.names.Set.TheVariants as sets
use Rattle.ml_address.specs.Requests.{set_front}
use Rattle.ml_address.specs.Writing.{ticket_text}
use Rattle.ml_address.specs.Cookies.{cookie}
use Rattle.ml_bounce.specs.Ledger.{Ledger, find_entry, entry_under, no_entry, forget, settle}
use Rattle.ml_bounce.specs.declared.entries.Stage.{Stage}
use Rattle.ml_bounce.specs.declared.entries.Stage.TheVariants.{Unwarned, Warned, WarnFailed, Probed}
use Rattle.ml_bounce.specs.declared.entries.LedgerEntry.{LedgerEntry}
use Rattle.ml_bounce.specs.Changes.{is_due, due_entries, after_at}
use Rattle.ml_config.specs.declared.configuration.Config.{Config}
use Rattle.ml_config.specs.declared.key_file.Keys.{Keys}
use Rattle.ml_digest.specs.declared.posts.Range.{Range}
use Rattle.ml_hold.specs.declared.posts.Held.{Held}
use Rattle.ml_queue.specs.declared.entries.Out.{Out}
use Rattle.ml_reply.specs.Mails.{mail_text}
use Rattle.ml_reply.specs.declared.mails.Mail.{Mail}
use Rattle.ml_reply.specs.declared.mails.Mail.TheVariants as mails
use Rattle.ml_subs.specs.Members.{member_of, has_key}
use Rattle.ml_subs.specs.declared.member_list.Member.{Member}
use Rattle.ml_plain.specs.declared.Item.{Item}
use Rattle.ml_plain.specs.declared.Act.TheVariants.{Timed}
use Rattle.ml_plain.specs.Laws.{bounce_entry, warning_to, probe_to}
use Rattle.ml_plain.specs.Mailing.{bounce_mail, path}
use Rattle.ml_plain.specs.Plain.{Plain, ledger_of, with_ledger_of, is_worn}
use Rattle.ml_plain.specs.Timing as timing
use Rattle.ml_plain.proofs.Leaving.{found_key, ledger_sets}
use Rattle.ml_plain.proofs.LeavingLaw.{timed_same, if_wanted}
use Rattle.ml_plain.proofs.Ledgers.{Elem, elem_right, elem_either, elem_take, elem_map, elem_filter, elem_found, IsLedgerSorted, found_forget, found_settled, sorted_forget, sorted_settled}
use Rattle.ml_plain.proofs.Mailed.{Mailed, mailed_same, mailed_then}
use Rattle.ml_plain.proofs.Origins.{Queued, Mails, Origin, Same, Due, Traced, ledgers_of, found_in, sorted_in, mails_grow, origin_grows}
use Rattle.ml_plain.proofs.PostLaw.{given_back, issued}
use Rattle.ml_plain.proofs.Steps.{mailed_ledger, mailed_bounce}
use Rattle.ml_plain.proofs.Tracing.{worn_traced}

ledger_config : (p : Plain) (set : Set) (ledger : Ledger) → (with_ledger_of set ledger p).config ≡ p.config
ledger_config p sets.List ledger = refl
ledger_config p sets.Digest ledger = refl
ledger_config p sets.Allow ledger = refl
ledger_config p sets.Deny ledger = refl
ledger_config p sets.Moderators ledger = refl

ledger_keys : (p : Plain) (set : Set) (ledger : Ledger) → (with_ledger_of set ledger p).keys ≡ p.keys
ledger_keys p sets.List ledger = refl
ledger_keys p sets.Digest ledger = refl
ledger_keys p sets.Allow ledger = refl
ledger_keys p sets.Deny ledger = refl
ledger_keys p sets.Moderators ledger = refl

-- what the parts before the ledger leave as it was
record Before (p q : Plain) : Type 0 where
  config : q.config ≡ p.config
  keys : q.keys ≡ p.keys
  sets : q.sets ≡ p.sets
  list : q.list_ledger ≡ p.list_ledger
  digest : q.digest_ledger ≡ p.digest_ledger
  mailed : Mailed p q

before_then : (p q r : Plain) → Before p q → Before q r → Before p r
before_then p q r a b = record {
  config = b.config ∙ a.config;
  keys = b.keys ∙ a.keys;
  sets = b.sets ∙ a.sets;
  list = b.list ∙ a.list;
  digest = b.digest ∙ a.digest;
  mailed = mailed_then p q r a.mailed b.mailed;
}

before_self : (p : Plain) → Before p p
before_self p = record { config = refl; keys = refl; sets = refl; list = refl; digest = refl; mailed = mailed_same p p refl refl refl }

before_back : (now : ℕ) (xs : List (Drawn Held)) (p : Plain) → Before p (fold (timing.give_back now) p xs)
before_back now [] p = before_self p
before_back now (x ∷ xs) p =
    before_then p (timing.give_back now p x) _
    (record { config = refl; keys = refl; sets = refl; list = refl; digest = refl; mailed = given_back now p x }) (before_back now xs (timing.give_back now p x))

before_issue : (now : ℕ) (p : Plain) (o : Option Range) → Before p (timing.issue now p o)
before_issue now p None = before_self p
before_issue now p (Some r) = record { config = refl; keys = refl; sets = refl; list = refl; digest = refl; mailed = issued now p (Some r) }

before_digest : (now : ℕ) (p : Plain) (wanted : Bool) (o : Option Range) → Before p (if_wanted now p wanted o)
before_digest now p true o = before_issue now p o
before_digest now p false o = before_self p

-- a timed run that has followed up some of the due entries
record Following (p q : Plain) (item : Item) : Type 0 where
  config : q.config ≡ p.config
  keys : q.keys ≡ p.keys
  sets : q.sets ≡ p.sets
  mailed : Mailed p q
  sorted : (set : Set) → IsLedgerSorted (ledger_of q set)
  origin : (set : Set) (k : Text) (e : LedgerEntry) → find_entry k (ledger_of q set) ≡ Some e → Origin p q item set k e

key_after : (now : ℕ) (s : Stage) (e : LedgerEntry) → (after_at now s e).key ≡ e.key
key_after now Unwarned e = refl
key_after now (Warned t) e = refl
key_after now (WarnFailed t) e = refl
key_after now (Probed t) e = refl

entry_same : (p q : Plain) (kind : Text) (set : Set) (k who : Text) (now : ℕ) (mail : Mail) → q.config ≡ p.config → q.keys ≡ p.keys
    → bounce_entry q kind set k who now mail ≡ bounce_entry p kind set k who now mail
entry_same p q kind set k who now mail config keys =
    ap₂ (λ (c : Config) (ks : Keys). record {
      path = path c (set_front set ++ codes "return-" ++ kind ++ codes "-" ++ ticket_text now (cookie ks.key kind (set_word set) now k) ++ codes "-") true;
      body = mail_text c mail now;
      to = who ∷ [];
    }) config keys

module _ (p : Plain) (item : Item) (timed : item.act ≡ Timed) (own : Set) (e : LedgerEntry)
    (found : find_entry e.key (ledger_of p own) ≡ Some e) (due : is_due item.moment e ≡ true) where
  -- its stage changes
  changed : (q : Plain) → Following p q item → Mails p q own e.key item.moment e.stage → Following p (timing.change_entry item.moment own e q) item
  changed q f mails =
      let new = after_at item.moment e.stage e in
      let ledger = settle new (ledger_of q own) in
      let r = with_ledger_of own ledger q in
      let more : Mailed q r = mailed_ledger q own ledger in
      let here : Origin p r item own e.key new = Due timed e found due refl (mails_grow p q r own e.key item.moment e.stage more mails) in
      record {
        config = ledger_config q own ledger ∙ f.config;
        keys = ledger_keys q own ledger ∙ f.keys;
        sets = ledger_sets q own ledger ∙ f.sets;
        mailed = mailed_then p q r f.mailed more;
        sorted = λ set. sorted_in q own set ledger (sorted_settled new (ledger_of q own) (f.sorted own)) (f.sorted set);
        origin = λ set k g is. elim (found_in q own set ledger k g is) [
          | inl at ↦ elim (found_settled k new (ledger_of q own) g at.1) [
            | inl one ↦ subst (λ s. Origin p r item s k g) (sym at.0)
                (subst (λ t. Origin p r item own t g) (sym (one.0 ∙ key_after item.moment e.stage e)) (subst (λ h. Origin p r item own e.key h) (sym one.1) here))
            | inr old ↦ origin_grows p q r item set k g more (f.origin set k g (subst (λ s. find_entry k (ledger_of q s) ≡ Some g) (sym at.0) old))
          ]
          | inr other ↦ origin_grows p q r item set k g more (f.origin set k g other.1)
        ];
      }

  -- the entry goes
  dropped : (q : Plain) → Following p q item → Following p (timing.drop_entry own e q) item
  dropped q f =
      let ledger = forget e.key (ledger_of q own) in
      let r = with_ledger_of own ledger q in
      let more : Mailed q r = mailed_ledger q own ledger in
      record {
        config = ledger_config q own ledger ∙ f.config;
        keys = ledger_keys q own ledger ∙ f.keys;
        sets = ledger_sets q own ledger ∙ f.sets;
        mailed = mailed_then p q r f.mailed more;
        sorted = λ set. sorted_in q own set ledger (sorted_forget e.key (ledger_of q own) (f.sorted own)) (f.sorted set);
        origin = λ set k g is. elim (found_in q own set ledger k g is) [
          | inl at ↦ origin_grows p q r item set k g more (f.origin set k g (subst (λ s. find_entry k (ledger_of q s) ≡ Some g) (sym at.0) (found_forget k e.key (ledger_of q own) g at.1).0))
          | inr other ↦ origin_grows p q r item set k g more (f.origin set k g other.1)
        ];
      }

  -- a mail goes to the member of its key first
  mailed_first : (q : Plain) (b : ℕ) (kind : Text) (m : Member) (mail : Text → Mail) → 58 ≤ b → member_of e.key (q.sets own) ≡ Some m → Following p q item
      → Following p (bounce_mail (b ∷ kind) own m.who item.moment (mail m.who) q) item
      × Queued p (bounce_mail (b ∷ kind) own m.who item.moment (mail m.who) q) (b ∷ kind) mail own e.key item.moment
  mailed_first q b kind m mail letter there f =
      let r = bounce_mail (b ∷ kind) own m.who item.moment (mail m.who) q in
      let more : Mailed q r = mailed_bounce q own b kind m.who item.moment (mail m.who) letter in
      let same : key m.who ≡ e.key = found_key e.key m (q.sets own) there in
      let put : Drawn Out = record { number = q.queue.next; thing = bounce_entry q (b ∷ kind) own (key m.who) m.who item.moment (mail m.who) } in
      let is : bounce_entry q (b ∷ kind) own (key m.who) m.who item.moment (mail m.who) ≡ bounce_entry p (b ∷ kind) own e.key m.who item.moment (mail m.who) =
      entry_same p q (b ∷ kind) own (key m.who) m.who item.moment (mail m.who) f.config f.keys ∙ ap (λ k. bounce_entry p (b ∷ kind) own k m.who item.moment (mail m.who)) same in (
        record {
          config = f.config;
          keys = f.keys;
          sets = f.sets;
          mailed = mailed_then p q r f.mailed more;
          sorted = λ set. subst IsLedgerSorted (sym (ledgers_of q r refl refl set)) (f.sorted set);
          origin = λ set k g is. origin_grows p q r item set k g more (f.origin set k g (ap (find_entry k) (sym (ledgers_of q r refl refl set)) ∙ is));
        },
        record {
          number = q.queue.next;
          who = m.who;
          is = same;
          spelled = ap (λ all. option_map (λ m. m.who) (member_of e.key (all own))) (sym f.sets) ∙ ap (option_map (λ m. m.who)) there;
          there = subst (λ out. Elem (record { number = q.queue.next; thing = out }) r.queue.all) is (elem_right put q.queue.all (put ∷ []) (inl refl));
          since = omega (arith, f.mailed.next);
        },
      )

  -- the numbers that the entry has are those that the ledger has under its key
  missed_is : e.missed ≡ (entry_under e.key (ledger_of p own)).missed
  missed_is = ap (λ o. (unwrap_or o (no_entry e.key)).missed) (sym found)

  warned_on : (q : Plain) → e.stage ≡ Unwarned → (o : Option Member) → member_of e.key (q.sets own) ≡ o → Following p q item → Following p (timing.warn_member item.moment own e q o) item
  warned_on q is None there f = dropped q f
  warned_on q is (Some m) there f =
      let mail : Text → Mail = λ who. mails.Warn who own who e.missed in
      let mailed = mailed_first q 119 (codes "arn") m mail (omega arith) there f in
      let told : Queued p (bounce_mail (codes "warn") own m.who item.moment (mail m.who) q) (codes "warn") (warning_to p own e.key) own e.key item.moment =
      subst (λ ns. Queued p (bounce_mail (codes "warn") own m.who item.moment (mail m.who) q) (codes "warn") (λ who. mails.Warn who own who ns) own e.key item.moment) missed_is mailed.1 in
      changed (bounce_mail (codes "warn") own m.who item.moment (mail m.who) q) mailed.0
      (subst (Mails p (bounce_mail (codes "warn") own m.who item.moment (mail m.who) q) own e.key item.moment) (sym is) told)

  probed_on : (q : Plain) (t : ℕ) → e.stage ≡ WarnFailed t → (o : Option Member) → member_of e.key (q.sets own) ≡ o → Following p q item → Following p (timing.probe_member item.moment own e q o) item
  probed_on q t is None there f = dropped q f
  probed_on q t is (Some m) there f =
      let mailed = mailed_first q 112 (codes "robe") m (probe_to own) (omega arith) there f in
      changed (bounce_mail (codes "probe") own m.who item.moment (probe_to own m.who) q) mailed.0
      (subst (Mails p (bounce_mail (codes "probe") own m.who item.moment (probe_to own m.who) q) own e.key item.moment) (sym is) mailed.1)

  followed_on : (q : Plain) (s : Stage) → e.stage ≡ s → Following p q item → Following p (timing.follow_at item.moment own e q s) item
  followed_on q Unwarned is f = warned_on q is (member_of e.key (q.sets own)) refl f
  followed_on q (Warned t) is f = changed q f (subst (Mails p q own e.key item.moment) (sym is) tt)
  followed_on q (WarnFailed t) is f = probed_on q t is (member_of e.key (q.sets own)) refl f
  followed_on q (Probed t) is f = changed q f (subst (Mails p q own e.key item.moment) (sym is) tt)

-- a due entry of a list
abbrev IsDue : Plain → ℕ → Set × LedgerEntry → Type 0
IsDue p now x = (find_entry x.1.key (ledger_of p x.0) ≡ Some x.1) × (is_due now x.1 ≡ true)

all_followed : (p : Plain) (item : Item) → item.act ≡ Timed → (xs : List (Set × LedgerEntry)) → ((x : Set × LedgerEntry) → Elem x xs → IsDue p item.moment x)
    → (q : Plain) → Following p q item → Following p (fold (timing.follow_up item.moment) q xs) item
all_followed p item timed [] h q f = f
all_followed p item timed (x ∷ xs) h q f =
    let is = h x (inl refl) in
    all_followed p item timed xs (λ y there. h y (inr there)) (timing.follow_up item.moment q x) (followed_on p item timed x.0 x.1 is.0 is.1 q x.1.stage refl f)

due_are : (p q : Plain) (now : ℕ) → ((set : Set) → ledger_of q set ≡ ledger_of p set) → ((set : Set) → IsLedgerSorted (ledger_of p set))
    → (x : Set × LedgerEntry) → Elem x (timing.all_due now q) → IsDue p now x
due_are p q now same sorted x h = elim (elem_either x (timing.due_of now sets.List q) (timing.due_of now sets.Digest q) (elem_take x 1000 _ h)) [
  | inl at ↦ of sets.List at
  | inr at ↦ of sets.Digest at
]
  where
    of : (set : Set) → Elem x (timing.due_of now set q) → IsDue p now x
    of set at =
        let one = elem_map (λ (e : LedgerEntry). (set, e)) x (due_entries now (ledger_of q set)) at in
        let is = elem_filter (is_due now) one.0 (ledger_of q set) one.1 in
        let there : Elem one.0 (ledger_of p set) = subst (Elem one.0) (same set) is.0 in
        subst (IsDue p now) (sym one.2) (elem_found one.0 (ledger_of p set) (sorted set) there, is.1)

run_followed : (p : Plain) (item : Item) → item.act ≡ Timed → ((set : Set) → IsLedgerSorted (ledger_of p set)) → Following p (timing.after_timed item.moment p) item
run_followed p item timed sorted =
    let now = item.moment in
    let back = timing.give_old_back now p in
    let issue = timing.make_digest now back in
    let before : Before p issue = before_then p back issue (before_back now (timing.old_held now p) p) (before_digest now back back.config.flags.d (timing.digest_due now back)) in
    let same = ledgers_of p issue before.list before.digest in
    all_followed p item timed (timing.all_due now issue) (due_are p issue now same sorted) issue (record {
      config = before.config;
      keys = before.keys;
      sets = before.sets;
      mailed = before.mailed;
      sorted = λ set. subst IsLedgerSorted (sym (same set)) (sorted set);
      origin = λ set k e found. Same (ap (find_entry k) (sym (same set)) ∙ found);
    })

pub timed_traced : (p : Plain) (item : Item) → item.act ≡ Timed → Traced p (timing.timed item.moment p).0 item
timed_traced p item timed = worn_traced p item (timing.after_timed item.moment p, _) (is_worn p) (λ fresh. record {
  sorted = λ h. (run_followed p item timed h).sorted;
  origin = λ h. (run_followed p item timed h).origin;
  stays = λ set k e found there. ap (λ all. has_key k (all set)) (timed_same item.moment p) ∙ there;
})

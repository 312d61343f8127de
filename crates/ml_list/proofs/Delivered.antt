-- What a delivery does, from its parts.
use Rattle.std.proofs.Common.{◌≡◌, ◌⊎◌, ⊎_elim, inl, inr, ◌∙◌, ℕ, ◌-◌, Bool, cond, true, false, ◌||◌, List, [], Option, Some, None, is_some, refl, sym, ap, subst}
use Rattle.std.specs.Prelude.{codes}
use Rattle.ml_base.specs.Bytes.{Text}
use Rattle.ml_base.specs.Dir.{Dir, with_puts, touches_only, same_name}
use Rattle.ml_base.specs.declared.names.Name.{Name}
use Rattle.ml_base.specs.declared.puts.Put.{Put}
use Rattle.ml_config.specs.declared.configuration.Config.{Config}
use Rattle.ml_address.specs.Reading.{request_of}
use Rattle.ml_drawn.specs.Names.{is_of_series}
use Rattle.ml_drawn.specs.declared.series.Series.TheVariants.{Ids}
use Rattle.ml_queue.specs.Answers.{IsSent, ids_name}
use Rattle.ml_queue.specs.Queue.{without_id}
use Rattle.ml_queue.specs.declared.entries.Out.{Out}
use Rattle.ml_header.specs.Fields.{has_field}
use Rattle.ml_address.specs.Requests.{PlainRequest, Accept, Reject}
use Rattle.ml_plain.specs.declared.Reply.{Reply}
use Rattle.ml_plain.specs.Answers as answers
use Rattle.ml_plain.specs.Directory.{IsList}
use Rattle.ml_plain.specs.Managing.{answer, by_recipient, by_sender, deliver, unless_looped}
use Rattle.ml_plain.specs.Plain.{Plain, is_worn}
use Rattle.ml_plain.specs.Steps as spec
use Rattle.ml_plain.specs.Timing.{after_timed, timed}
use Rattle.ml_plain.proofs.PartChanges.{queue_changed}
use Rattle.ml_filing.specs.Threads.{is_of_archive}
use Rattle.ml_acts.specs.Doing.{DoesList}
use Rattle.ml_acts.proofs.Asked.{same_other}
use Rattle.ml_acts.proofs.Queued.{queue_own}
use Rattle.ml_base.proofs.Bools.{one_name}
use Rattle.ml_hold.specs.Answers.{tickets_name}
use Rattle.ml_timed.specs.Reads.{is_of_digesting, is_of_following, is_of_giving_back, is_of_timed}
use Rattle.std.proofs.lemmas.Bool.{or_cases, or_left, or_right}
use Rattle.ml_list.specs.Delivering.{is_of_worn}
use Rattle.ml_list.specs.Moderating.{answer_to}

-- an answer that changes nothing
pub unchanged : (dir : Dir) (p : Plain) (done : List Put × Reply) (reply : Reply) → IsList dir p → done.0 ≡ [] → done.1 ≡ reply → DoesList dir done (p, reply)
unchanged dir p done reply is e f = record { reply = f; list = subst (λ (t : List Put). IsList (with_puts dir t) p) (sym e) is }

-- a step in other terms
pub does_so : (dir : Dir) (done : List Put × Reply) (a b : Plain × Reply) → b ≡ a → DoesList dir done a → DoesList dir done b
does_so dir done a b e does = subst (λ (s : Plain × Reply). DoesList dir done s) (sym e) does

module _ (now : ℕ) (m : Text) (p : Plain) where
  -- a sender that isn't an address
  pub no_sender : (request : PlainRequest) (sender : Option Text) → is_some sender ≡ false → by_sender now m p request sender ≡ (p, answers.nosender)
  no_sender request None e = refl
  no_sender request (Some s) e = absurd (let bad : true ≡ false = e in cc)

  -- a message from a list
  pub looped_back : (request : PlainRequest) (sender : Option Text) → is_some sender ≡ true → has_field (codes "mailing-list") m ≡ true → by_sender now m p request sender ≡ (p, answers.looped)
  looped_back request None there e = absurd (let bad : false ≡ true = there in cc)
  looped_back request (Some s) there e = ap (λ (b : Bool). unless_looped now s p request b) e

  -- a moderator's answer that counts
  pub answered_by : (ticket : ℕ) (letters : Text) (accept : Bool) (sender : Option Text) → is_some sender ≡ true → has_field (codes "mailing-list") m ≡ false → by_sender now m p (answer_to ticket letters accept) sender ≡ answer now ticket letters accept p
  answered_by ticket letters accept None there e = absurd (let bad : false ≡ true = there in cc)
  answered_by ticket letters true (Some s) there e = ap (λ (b : Bool). unless_looped now s p (Accept ticket letters) b) e
  answered_by ticket letters false (Some s) there e = ap (λ (b : Bool). unless_looped now s p (Reject ticket letters) b) e

-- a delivery while ids and tickets are left
pub served : (now : ℕ) (sender recipient m : Text) (p : Plain) (c : Config) → p.config ≡ c → is_worn p ≡ false → deliver now sender recipient m p ≡ by_recipient now sender m p (request_of c.local c.host recipient)
served now sender recipient m p c same left =
    ap (λ (b : Bool). elim b [ true ↦ (p, answers.full) | false ↦ by_recipient now sender m p (request_of p.config.local p.config.host recipient) ]) left
    ∙ ap (λ (d : Config). by_recipient now sender m p (request_of d.local d.host recipient)) same

-- a timed run when ids or tickets are worn out
pub run_worn : (dir : Dir) (p : Plain) (now : ℕ) (done : List Put × Reply) → IsList dir p → is_worn p ≡ true → done.0 ≡ [] → done.1 ≡ answers.full → DoesList dir done (timed now p)
run_worn dir p now done is worn none full =
    does_so dir done (p, answers.full) (timed now p)
    (ap (λ (b : Bool). elim b [ true ↦ (p, answers.full) | false ↦ (after_timed now p, answers.timed ((after_timed now p).queue.next - p.queue.next)) ]) worn)
    (unchanged dir p done answers.full is none full)

-- an entry that was sent
pub sent_away : (dir : Dir) (p : Plain) (id : ℕ) (txn : List Put) (done : List Put × Reply) → IsList dir p → IsSent dir p.queue id (Some txn) → touches_only (is_of_series Ids) txn ≡ true → done.0 ≡ txn → done.1 ≡ answers.dequeued → DoesList dir done (spec.sent id p)
sent_away dir p id txn done is gone only e f =
    does_so dir done (record p { queue = without_id id p.queue }, answers.dequeued) (spec.sent id p)
    (ap (λ (o : Option Out). cond (is_some o) (record p { queue = without_id id p.queue }, answers.dequeued) (p, answers.noentry)) gone.0.1)
    (record { reply = f; list = subst (λ (t : List Put). IsList (with_puts dir t) (record p { queue = without_id id p.queue })) (sym e) (queue_changed dir p txn (without_id id p.queue) is (queue_own txn only) gone.1) })

pub not_there : (dir : Dir) (p : Plain) (id : ℕ) (done : List Put × Reply) → IsList dir p → IsSent dir p.queue id None → done.0 ≡ [] → done.1 ≡ answers.noentry → DoesList dir done (spec.sent id p)
not_there dir p id done is none e f =
    does_so dir done (p, answers.noentry) (spec.sent id p) (ap (λ (o : Option Out). cond (is_some o) (record p { queue = without_id id p.queue }, answers.dequeued) (p, answers.noentry)) none)
    (unchanged dir p done answers.noentry is e f)

-- the counters that are read first
pub worn_timed : (digests : Bool) (name : Name) → is_of_worn name ≡ true → is_of_timed digests name ≡ true
worn_timed digests name e = go (or_cases (same_name name ids_name) (same_name name tickets_name) e)
  where
    go : ((same_name name ids_name ≡ true) ⊎ (same_name name tickets_name ≡ true)) → is_of_timed digests name ≡ true
    go (inl ids) = subst (λ (n : Name). is_of_timed digests n ≡ true) (sym (one_name name ids_name ids)) refl
    go (inr tickets) = subst (λ (n : Name). is_of_timed digests n ≡ true) (sym (one_name name tickets_name tickets)) refl

-- what a timed run reads of a list without digests, it may read of one with digests
pub timed_more : (digests : Bool) (name : Name) → is_of_timed digests name ≡ true → is_of_timed true name ≡ true
timed_more true name e = e
timed_more false name e =
    ⊎_elim (λ a. or_left (is_of_giving_back name || is_of_digesting name) (is_of_following name) (or_left (is_of_giving_back name) (is_of_digesting name) (or_false (is_of_giving_back name) a)))
    (λ b. or_right (is_of_giving_back name || is_of_digesting name) (is_of_following name) b) (or_cases (is_of_giving_back name || false) (is_of_following name) e)
  where
    or_false : (b : Bool) → (b || false) ≡ true → b ≡ true
    or_false true e = e
    or_false false e = e

-- neither is one of the archive
pub worn_other : (name : Name) → is_of_worn name ≡ true → is_of_archive name ≡ true → ⊥
worn_other name e of = ⊎_elim (λ a. same_other name ids_name refl a of) (λ b. same_other name tickets_name refl b of) (or_cases (same_name name ids_name) (same_name name tickets_name) e)

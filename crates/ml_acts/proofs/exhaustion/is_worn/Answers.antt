use Rattle.std.proofs.Common.{◌≡◌, ◌<◌, ◌∙◌, ℕ, Bool, true, false, nat_lt, ◌||◌, rules, sym, ap, subst, arith}
use Rattle.std.proofs.lemmas.Bool.{le-ltb, lt-ltb, ltb-false, or_left}
use Rattle.ml_base.specs.Dir.{Dir}
use Rattle.ml_base.specs.Drawn.{IsCounter}
use Rattle.ml_drawn.proofs.Reading.{counter_one}
use Rattle.ml_hold.proofs.OfFiles as held
use Rattle.ml_hold.specs.Answers.{IsCountedPending, tickets_name}
use Rattle.ml_queue.proofs.OfFiles as queues
use Rattle.ml_queue.specs.Answers.{ids_name, Breaks}
use Rattle.ml_acts.specs.Found.{TellsCounter}
use Rattle.ml_base.specs.PartErrors.{OnDamaged}
use Rattle.ml_base.proofs.DamagedNames.{on_both}
use Rattle.ml_hold.specs.Answers as waiting
use Rattle.ml_acts.proofs.CountersApart.{ids_spared, ids_there, tickets_spared, tickets_there}
use Rattle.ml_acts.proofs.exhaustion.is_worn.Goals as goal

pub returns-then-branch-gt-LAST_ID-clause-value : goal.returns-then-branch-gt-LAST_ID-clause-value
returns-then-branch-gt-LAST_ID-clause-value g c told p is =
    let dir = g.F.Files.map c.args.files.now in
    let id = c.in_ok-next_id.ensures.value told p.queue (queues.counted dir p.queue is.queue) in
    let over : 999_999_999_997_000 < p.queue.next = subst (λ (n : ℕ). 999_999_999_997_000 < n) id c.if-branch-gt-LAST_ID.true in
    sym (or_left (nat_lt 999_999_999_997_000 p.queue.next) (nat_lt 1_000_000_000_000_000 p.held.next) (lt-ltb 999_999_999_997_000 p.queue.next over))

pub returns-clause-value : goal.returns-clause-value
returns-clause-value g c told p is =
    let dir = g.F.Files.map c.args.files.now in
    let same = g.met.F.Files.kept_map c.args.files.now c.next_id.new.files told c.next_id.ensures.reads.kept in
    let id = c.in_ok-next_id.ensures.value told p.queue (queues.counted dir p.queue is.queue) in
    let ticket = c.in_ok-next_ticket.ensures.value told p.held (subst (λ (d : Dir). IsCountedPending d p.held) (sym same) (held.counted dir p.held is.held)) in
    let few : nat_lt 999_999_999_997_000 p.queue.next ≡ false = le-ltb 999_999_999_997_000 p.queue.next (let most = c.if-branch-gt-LAST_ID.false in omega (arith, most, id)) in
    sym (ap (λ (b : Bool). b || nat_lt 1_000_000_000_000_000 p.held.next) few ∙ ap (λ (n : ℕ). nat_lt 1_000_000_000_000_000 n) (sym ticket))

pub returns-clause-room : goal.returns-clause-room
returns-clause-room g c told few =
    let dir = g.F.Files.map c.args.files.now in
    let same = g.met.F.Files.kept_map c.args.files.now c.next_id.new.files told c.next_id.ensures.reads.kept in
    let counted = c.in_ok-next_id.ensures.read told in
    let counted_tickets = c.in_ok-next_ticket.ensures.read told in
    record {
      ids = λ low next is. let one = (counter_one (dir ids_name) low next counted.0 c.in_ok-next_id.field-0 is counted.1).1 in let most = c.if-branch-gt-LAST_ID.false in omega (arith, one, most);
      tickets = λ low next is. let one = (counter_one (dir tickets_name) low next counted_tickets.0 c.in_ok-next_ticket.field-0 is (subst (λ (d : Dir). IsCounter (d tickets_name) counted_tickets.0 c.in_ok-next_ticket.field-0) same counted_tickets.1)).1 in let most = ltb-false 1_000_000_000_000_000 c.in_ok-next_ticket.field-0 few in omega (arith, one, most);
    }

pub returns-then-branch-gt-LAST_ID-clause-found : goal.returns-then-branch-gt-LAST_ID-clause-found
returns-then-branch-gt-LAST_ID-clause-found g c told =
    let counted = c.in_ok-next_id.ensures.read told in
    record { ids = (counted.0, c.in_ok-next_id.field-0, counted.1); tickets = λ no. absurd (let bad : true ≡ false = no in cc) }

pub returns-clause-found : goal.returns-clause-found
returns-clause-found g c told =
    let same = g.met.F.Files.kept_map c.args.files.now c.next_id.new.files told c.next_id.ensures.reads.kept in
    let counted = c.in_ok-next_id.ensures.read told in
    let tickets = c.in_ok-next_ticket.ensures.read told in
    record {
      ids = (counted.0, c.in_ok-next_id.field-0, counted.1);
      tickets = λ few. subst (λ (d : Dir). TellsCounter (d tickets_name)) same (tickets.0, c.in_ok-next_ticket.field-0, tickets.1);
    }

pub returns-then-branch-gt-LAST_ID-clause-apart : goal.returns-then-branch-gt-LAST_ID-clause-apart
returns-then-branch-gt-LAST_ID-clause-apart g c told dir p alike is =
    let id = ids_there (g.F.Files.map c.args.files.now) dir p c.in_ok-next_id.field-0 alike is (c.in_ok-next_id.ensures.read told) in
    let over : 999_999_999_997_000 < p.queue.next = subst (λ (n : ℕ). 999_999_999_997_000 < n) id c.if-branch-gt-LAST_ID.true in
    sym (or_left (nat_lt 999_999_999_997_000 p.queue.next) (nat_lt 1_000_000_000_000_000 p.held.next) (lt-ltb 999_999_999_997_000 p.queue.next over))

pub returns-clause-apart : goal.returns-clause-apart
returns-clause-apart g c told dir p alike is =
    let old = g.F.Files.map c.args.files.now in
    let same = g.met.F.Files.kept_map c.args.files.now c.next_id.new.files told c.next_id.ensures.reads.kept in
    let id = ids_there old dir p c.in_ok-next_id.field-0 alike is (c.in_ok-next_id.ensures.read told) in
    let tickets = c.in_ok-next_ticket.ensures.read told in
    let ticket = tickets_there old dir p c.in_ok-next_ticket.field-0 alike is (tickets.0, subst (λ (d : Dir). IsCounter (d tickets_name) tickets.0 c.in_ok-next_ticket.field-0) same tickets.1) in
    let few : nat_lt 999_999_999_997_000 p.queue.next ≡ false = le-ltb 999_999_999_997_000 p.queue.next (let most = c.if-branch-gt-LAST_ID.false in omega (arith, most, id)) in
    sym (ap (λ (b : Bool). b || nat_lt 1_000_000_000_000_000 p.held.next) few ∙ ap (λ (n : ℕ). nat_lt 1_000_000_000_000_000 n) (sym ticket))

pub returns-in_err-next_id-clause-spared : goal.returns-in_err-next_id-clause-spared
returns-in_err-next_id-clause-spared g c told dir p alike is =
    let e = c.in_err-next_id.field-0.0 in
    let bad = c.in_err-next_id.ensures.names in
    let none : OnDamaged e (λ _. ⊥) = on_both e (λ name. name ≡ ids_name) (Breaks (g.F.Files.map c.args.files.now)) (λ _. ⊥) (λ name named breaks. ids_spared (g.F.Files.map c.args.files.now) dir p alike is name named breaks) bad.named (bad.damaged told) in
    search rules

pub returns-in_err-next_ticket-clause-spared : goal.returns-in_err-next_ticket-clause-spared
returns-in_err-next_ticket-clause-spared g c told dir p alike is =
    let old = g.F.Files.map c.args.files.now in
    let same = g.met.F.Files.kept_map c.args.files.now c.next_id.new.files told c.next_id.ensures.reads.kept in
    let e = c.in_err-next_ticket.field-0.0 in
    let bad = c.in_err-next_ticket.ensures.names in
    let none : OnDamaged e (λ _. ⊥) = on_both e (λ name. name ≡ tickets_name) (waiting.Breaks (g.F.Files.map c.next_id.new.files)) (λ _. ⊥)
    (λ name named breaks. tickets_spared old dir p alike is name named (subst (λ (d : Dir). waiting.Breaks d name) same breaks)) bad.named (bad.damaged told) in
    search rules

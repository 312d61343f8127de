use Rattle.std.proofs.Common.{◌≡◌, ◌∙◌, subst, sym, rules, refl, ap, true, ◌≤◌, IsTrue, length}
use Rattle.std.proofs.lemmas.Bool.{or_right, or_left, false≢true}
use Rattle.ml_base.specs.Bytes.{Text}
use Rattle.ml_base.specs.Dir.{Dir, same_name}
use Rattle.ml_hold.specs.Answers.{tickets_name, Breaks}
use Rattle.ml_plain.specs.Answers as answers
use Rattle.ml_plain.specs.Posting.{held_now}
use Rattle.ml_acts.specs.Damaged.{IsDamaged, waiting}
use Rattle.ml_acts.specs.Doing.{DoesList, HasIds}
use Rattle.ml_post.specs.Holding.{is_asked_by, is_held_by}
use Rattle.ml_acts.proofs.Damages.{ok_then, same_self}
use Rattle.ml_acts.proofs.OfActs.{act_after}
use Rattle.ml_post.proofs.Waiting.{has_ids, holds, waiting_apart}
use Rattle.ml_base.specs.declared.names.Name.{Name}
use Rattle.ml_acts.proofs.Asked.{named_as}
use Rattle.ml_base.proofs.ReadingLemmas.{kept_read, reading_ok}
use Rattle.ml_base.specs.declared.names.Set.TheVariants as sets
use Rattle.ml_hold.specs.declared.posts.Held.{Held}
use Rattle.ml_acts.specs.Found.{AddsMailToSet, TellsKeys}
use Rattle.ml_acts.proofs.Found.{found_then}
use Rattle.ml_post.specs.Found.{FoundToHold}
use Rattle.ml_base.specs.Ranges.{is_moment}
use Rattle.ml_post.proofs.held_posts.hold_post.Goals as goal

pub ask-requires-clause-room : goal.ask-requires-clause-room
ask-requires-clause-room g c told =
    subst (λ (d : Dir). HasIds d) (sym (g.met.F.Files.kept_map c.args.files.now c.hold.new.files told c.hold.ensures.reads.kept)) (has_ids (g.F.Files.map c.args.files.now) (c.requires.room told))

pub returns-clause-act : goal.returns-clause-act
returns-clause-act g c =
    act_after g.F.Files IsDamaged g.met.F.Files.kept_then g.met.F.Files.kept_map c.hold.ensures.reads c.ask.ensures.act (λ name e. or_right (same_name name tickets_name) (is_asked_by name) e) (λ told name e bad. bad)

pub returns-in_err-ticket-clause-act : goal.returns-in_err-ticket-clause-act
returns-in_err-ticket-clause-act g c =
    let dir = g.F.Files.map c.args.files.now in
    let names = named_as g.F.Files (λ name. is_held_by name ≡ true) _ dir dir (λ name. name ≡ tickets_name) Breaks (IsDamaged dir) (λ told. refl)
    (λ name e. or_left (same_name name tickets_name) (is_asked_by name) (ap (λ (n : Name). same_name n tickets_name) e ∙ same_self tickets_name)) (λ name e bad. waiting bad) c.in_err-ticket.ensures.names in
    search rules

pub hold-requires-clause-room : goal.hold-requires-clause-room
hold-requires-clause-room g c told low next counted = (c.requires.room told).tickets low next counted

pub returns-then-not-is_drawn-clause-act : goal.returns-then-not-is_drawn-clause-act
returns-then-not-is_drawn-clause-act g c = record {
  own = search rules;
  files = search rules;
  reply = search rules;
  names = search rules;
  reads = reading_ok g.F.Files c.args.files.now c.hold.new.files _ (kept_read g.F.Files c.args.files.now c.hold.new.files c.hold.result c.hold.ensures.reads);
}

pub returns-then-not-is_drawn-clause-found : goal.returns-then-not-is_drawn-clause-found
returns-then-not-is_drawn-clause-found g c told = absurd (false≢true (sym c.if-not-is_drawn.true ∙ c.is_drawn.ensures ∙ (c.in_ok-ticket.ensures.read told).drawn))

pub returns-clause-found : goal.returns-clause-found
returns-clause-found g c told =
    let dir = g.F.Files.map c.args.files.now in
    let ticket = c.in_ok-ticket.ticket in
    let txn = c.in_ok-ticket.txn in
    let held : Held = record { moment = c.args.now.seconds; sender = c.args.sender; message = c.in_ok-from_slice.field-0 } in
    let kept = g.met.F.Files.kept_map c.args.files.now c.hold.new.files told c.hold.ensures.reads.kept in
    found_then c.ask.result dir (g.F.Files.map c.hold.new.files) (λ d done. TellsKeys d × AddsMailToSet d sets.Moderators txn done.0 × (done.1 ≡ answers.held ticket)) (FoundToHold dir) kept
    (λ done is. record { ticket = ticket; held = held; waiting = txn; drawn = c.in_ok-ticket.ensures.read told; keys = is.0; asked = is.1; reply = is.2 }) (c.ask.ensures.found told)

pub returns-then-not-is_drawn-clause-apart : goal.returns-then-not-is_drawn-clause-apart
returns-then-not-is_drawn-clause-apart g c told dir p address alike is same = absurd (false≢true (sym c.if-not-is_drawn.true ∙ c.is_drawn.ensures ∙ (c.in_ok-ticket.ensures.read told).drawn))

pub returns-clause-apart : goal.returns-clause-apart
returns-clause-apart g c told =
    let old = g.F.Files.map c.args.files.now in
    let config = c.args.config.now in
    let now = c.args.now.seconds in
    let sender = c.args.sender in
    let ticket = c.in_ok-ticket.ticket in
    let txn = c.in_ok-ticket.txn in
    let message = c.in_ok-from_slice.field-0 in
    let held : Held = record { moment = now; sender = sender; message = message } in
    let kept = g.met.F.Files.kept_map c.args.files.now c.hold.new.files told c.hold.ensures.reads.kept in
    let moment : IsTrue (is_moment now) = search rules in
    let size : length message ≤ 33_554_432 = subst (λ (m : Text). length m ≤ 33_554_432) (sym c.in_ok-from_slice.ensures) c.requires.size in
    ok_then c.ask.result (λ done does dir p address alike is same.
    subst (λ (m : Text). DoesList dir done (held_now now sender m p)) c.in_ok-from_slice.ensures
    (holds dir p config now ticket sender message txn done is same c.in_ok-ticket.ensures.others
    (waiting_apart old dir held ticket txn (record { moment = moment; sender = address; size = size }) (alike tickets_name (or_left (same_name tickets_name tickets_name) (is_asked_by tickets_name) refl)) (c.in_ok-ticket.ensures.read told))
    (λ q stands own. does dir q (λ name e. alike name (or_right (same_name name tickets_name) (is_asked_by name) e) ∙ sym (ap (λ (d : Dir). d name) kept)) stands own))) (c.ask.ensures.apart told)

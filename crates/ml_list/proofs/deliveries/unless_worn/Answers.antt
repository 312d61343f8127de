use Rattle.std.proofs.Common.{◌≡◌, inl, inr, true, rules, ◌∙◌, sym, subst, false}
use Rattle.std.proofs.lemmas.Result.{IfOk-weaker}
use Rattle.ml_address.specs.Reading.{request_of}
use Rattle.ml_base.specs.Dir.{Dir}
use Rattle.ml_base.proofs.ReadingLemmas.{kept_read}
use Rattle.ml_acts.specs.Damaged.{IsDamaged}
use Rattle.ml_acts.proofs.Damages.{named_so}
use Rattle.ml_list.specs.Delivering.{IsDamagedServed, IsRequested, is_of_worn}
use Rattle.ml_list.specs.Reads.{is_of_acts}
use Rattle.ml_acts.proofs.OfActs.{act_then}
use Rattle.ml_list.proofs.Delivered.{does_so, served}
use Rattle.ml_list.proofs.Readable.{of_worn}
use Rattle.ml_acts.proofs.Found.{found_then}
use Rattle.ml_acts.specs.Found.{TellsWorn}
use Rattle.ml_list.specs.Found.{FoundByCounters, FoundOfRecipient}
use Rattle.ml_base.specs.PartErrors.{OnDamaged}
use Rattle.ml_list.specs.Looked.{AlikeForRequest}
use Rattle.ml_list.proofs.deliveries.unless_worn.Goals as goal

pub returns-clause-value : goal.returns-clause-value
returns-clause-value g c told =
    let config = c.args.config.now in
    let request = request_of config.local config.host c.args.recipient.now in
    let same_map = g.met.F.Files.kept_map c.args.files.now c.is_worn.new.files told c.is_worn.ensures.reads.kept in
    IfOk-weaker c.by_recipient.result _ _
    (λ done does dir p alike is same.
    does_so dir done _ _
    (served c.args.now.seconds c.args.sender.now c.args.recipient.now c.args.message.now p config same (sym (c.in_ok-is_worn.ensures.apart told dir p alike.counters is) ∙ c.if-branch.false))
    (does dir p (subst (λ (d : Dir). AlikeForRequest config c.args.sender.now c.args.message.now request d dir) (sym same_map) alike.asked) is same))
    (c.by_recipient.ensures.value told)

pub returns-clause-sound : goal.returns-clause-sound
returns-clause-sound g c told dir p alike is same =
    let config = c.args.config.now in
    let request = request_of config.local config.host c.args.recipient.now in
    let same_map = g.met.F.Files.kept_map c.args.files.now c.is_worn.new.files told c.is_worn.ensures.reads.kept in
    c.by_recipient.ensures.sound told dir p (subst (λ (d : Dir). AlikeForRequest config c.args.sender.now c.args.message.now request d dir) (sym same_map) alike.asked) is same

pub returns-in_err-is_worn-clause-sound : goal.returns-in_err-is_worn-clause-sound
returns-in_err-is_worn-clause-sound g c told dir p alike is same =
    let none : OnDamaged c.in_err-is_worn.field-0.0 (λ _. ⊥) = c.in_err-is_worn.ensures.spared told dir p alike.counters is in
    search rules

pub returns-in_err-is_worn-clause-act : goal.returns-in_err-is_worn-clause-act
returns-in_err-is_worn-clause-act g c =
    let config = c.args.config.now in
    let request = request_of config.local config.host c.args.recipient.now in
    let names = named_so g.F.Files (λ name. is_of_acts name ≡ true) _ (λ name. is_of_worn name ≡ true) (IsDamaged (g.F.Files.map c.args.files.now)) (IsDamagedServed (g.F.Files.map c.args.files.now) config c.args.sender.now c.args.message.now request) of_worn
    (λ name first bad. record { damaged = bad; served = inl first }) c.in_err-is_worn.ensures.names in
    search rules

pub returns-clause-act : goal.returns-clause-act
returns-clause-act g c =
    let config = c.args.config.now in
    let sender = c.args.sender.now in
    let m = c.args.message.now in
    let request = request_of config.local config.host c.args.recipient.now in
    let after = g.F.Files.map c.is_worn.new.files in
    act_then g.F.Files c.by_recipient.result (λ name. is_of_acts name ≡ true) (λ name. IsDamaged after name × IsRequested after config sender m request name) (IsDamagedServed (g.F.Files.map c.args.files.now) config sender m request)
    g.met.F.Files.kept_then c.args.files.now c.is_worn.new.files c.by_recipient.new.files (kept_read g.F.Files c.args.files.now c.is_worn.new.files c.is_worn.result c.is_worn.ensures.reads)
    (λ told name bad.
    let found = subst (λ (d : Dir). IsDamaged d name × IsRequested d config sender m request name) (g.met.F.Files.kept_map c.args.files.now c.is_worn.new.files told c.is_worn.ensures.reads.kept) bad in
    record { damaged = found.0; served = inr found.1 })
    c.by_recipient.ensures.act

pub returns-then-branch-clause-found : goal.returns-then-branch-clause-found
returns-then-branch-clause-found g c told = record {
  worn = true;
  counters = subst (TellsWorn (g.F.Files.map c.args.files.now)) c.if-branch.true (c.in_ok-is_worn.ensures.found told);
  follows = record { puts = c.new.ensures; is = c.plain.ensures };
}

pub returns-clause-found : goal.returns-clause-found
returns-clause-found g c told =
    let dir = g.F.Files.map c.args.files.now in
    let config = c.args.config.now in
    let sender = c.args.sender.now in
    let m = c.args.message.now in
    let request = request_of config.local config.host c.args.recipient.now in
    let same = g.met.F.Files.kept_map c.args.files.now c.is_worn.new.files told c.is_worn.ensures.reads.kept in
    found_then c.by_recipient.result dir (g.F.Files.map c.is_worn.new.files) (λ d. FoundOfRecipient d config sender m request) (FoundByCounters dir (FoundOfRecipient dir config sender m request)) same
    (λ done is. record { worn = false; counters = subst (TellsWorn dir) c.if-branch.false (c.in_ok-is_worn.ensures.found told); follows = is }) (c.by_recipient.ensures.found told)

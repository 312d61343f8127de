use Rattle.std.proofs.Common.{◌≡◌, Option, true, rules, sym, subst}
use Rattle.std.proofs.lemmas.Result.{IfOk-weaker}
use Rattle.ml_address.specs.Reading.{request_of}
use Rattle.ml_base.specs.Dir.{Dir, touches_only}
use Rattle.ml_base.proofs.ReadingLemmas.{kept_read}
use Rattle.ml_config.specs.ConfigFile.{IsConfigFile, config_name}
use Rattle.ml_config.specs.declared.configuration.Config.{Config}
use Rattle.ml_config.proofs.OneSpelling.{one_in_file}
use Rattle.ml_acts.specs.Damaged.{IsDamaged}
use Rattle.ml_list.specs.Delivering.{IsDamagedServed, IsDelivered}
use Rattle.ml_list.specs.Reads.{is_of_acts}
use Rattle.ml_list.specs.Written.{is_delivered_by}
use Rattle.ml_acts.proofs.OfActs.{act_then}
use Rattle.ml_acts.proofs.Found.{found_then}
use Rattle.ml_list.specs.Found.{FoundByCounters, FoundOfRecipient, FoundToDeliver}
use Rattle.ml_base.specs.Bytes.{Text}
use Rattle.ml_base.specs.PartErrors.{OnDamaged}
use Rattle.ml_list.specs.Looked.{AlikeServed}
use Rattle.ml_list.proofs.deliveries.deliver.Goals as goal

pub unless_worn-requires-clause-loaded : goal.unless_worn-requires-clause-loaded
unless_worn-requires-clause-loaded g c told =
    subst (λ (d : Dir). IsConfigFile (d config_name) c.in_ok-config.config) (sym (g.met.F.Files.kept_map c.args.files.now c.configuration.new.files told c.configuration.ensures.reads.kept)) (c.in_ok-config.ensures.value told)

pub returns-clause-value : goal.returns-clause-value
returns-clause-value g c told =
    let old = g.F.Files.map c.args.files.now in
    let config = c.in_ok-config.config in
    let same_map = g.met.F.Files.kept_map c.args.files.now c.configuration.new.files told c.configuration.ensures.reads.kept in
    let held = c.in_ok-config.ensures.value told in
    IfOk-weaker c.unless_worn.result _ _
    (λ done does dir p alike is.
    let file : IsConfigFile (dir config_name) config = subst (λ (f : Option Text). IsConfigFile f config) (sym alike.config) held in
    let there = subst (λ (d : Dir). AlikeServed config c.args.sender.now c.args.message.now (request_of config.local config.host c.args.recipient.now) d dir) (sym same_map) (alike.served config held) in
    does dir p there is (one_in_file (dir config_name) p.config config is.config file))
    (c.unless_worn.ensures.value told)

pub returns-clause-sound : goal.returns-clause-sound
returns-clause-sound g c told dir p alike is =
    let config = c.in_ok-config.config in
    let same_map = g.met.F.Files.kept_map c.args.files.now c.configuration.new.files told c.configuration.ensures.reads.kept in
    let held = c.in_ok-config.ensures.value told in
    let file : IsConfigFile (dir config_name) config = subst (λ (f : Option Text). IsConfigFile f config) (sym alike.config) held in
    c.unless_worn.ensures.sound told dir p
    (subst (λ (d : Dir). AlikeServed config c.args.sender.now c.args.message.now (request_of config.local config.host c.args.recipient.now) d dir) (sym same_map) (alike.served config held)) is
    (one_in_file (dir config_name) p.config config is.config file)

pub returns-in_err-config-clause-sound : goal.returns-in_err-config-clause-sound
returns-in_err-config-clause-sound g c told dir p alike is =
    let none : OnDamaged c.in_err-config.field-0.0 (λ _. ⊥) = c.in_err-config.ensures.none in
    search rules

pub returns-clause-act : goal.returns-clause-act
returns-clause-act g c =
    let config = c.in_ok-config.config in
    let sender = c.args.sender.now in
    let m = c.args.message.now in
    let request = request_of config.local config.host c.args.recipient.now in
    let dir = g.F.Files.map c.args.files.now in
    act_then g.F.Files c.unless_worn.result (λ name. is_of_acts name ≡ true) (IsDamagedServed (g.F.Files.map c.configuration.new.files) config sender m request) (λ name. IsDamaged dir name × IsDelivered dir sender c.args.recipient.now m name)
    g.met.F.Files.kept_then c.args.files.now c.configuration.new.files c.unless_worn.new.files (kept_read g.F.Files c.args.files.now c.configuration.new.files c.configuration.result c.configuration.ensures.reads)
    (λ told name bad.
    let found = subst (λ (d : Dir). IsDamagedServed d config sender m request name) (g.met.F.Files.kept_map c.args.files.now c.configuration.new.files told c.configuration.ensures.reads.kept) bad in
    (found.damaged, record { config = config; held = c.in_ok-config.ensures.value told; served = found.served }))
    c.unless_worn.ensures.act

pub returns-clause-asked : goal.returns-clause-asked
returns-clause-asked g c told =
    let sender = c.args.sender.now in
    let recipient = c.args.recipient.now in
    let file = g.F.Files.map c.args.files.now config_name in
    IfOk-weaker c.unless_worn.result _ _
    (λ done own config held.
    subst (λ (k : Config). touches_only (is_delivered_by sender (request_of k.local k.host recipient)) done.0 ≡ true) (one_in_file file c.in_ok-config.config config (c.in_ok-config.ensures.value told) held) own)
    c.unless_worn.ensures.asked

pub returns-clause-found : goal.returns-clause-found
returns-clause-found g c told =
    let dir = g.F.Files.map c.args.files.now in
    let config = c.in_ok-config.config in
    let sender = c.args.sender.now in
    let m = c.args.message.now in
    let request = request_of config.local config.host c.args.recipient.now in
    let same = g.met.F.Files.kept_map c.args.files.now c.configuration.new.files told c.configuration.ensures.reads.kept in
    found_then c.unless_worn.result dir (g.F.Files.map c.configuration.new.files) (λ d. FoundByCounters d (FoundOfRecipient d config sender m request)) (FoundToDeliver dir sender c.args.recipient.now m) same
    (λ done is. record { config = config; held = c.in_ok-config.ensures.value told; found = is }) (c.unless_worn.ensures.found told)

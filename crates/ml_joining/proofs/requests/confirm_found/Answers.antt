use Rattle.std.proofs.Common.{◌∙◌, Bool, refl, rules, ap, subst}
use Rattle.ml_base.specs.Dir.{Dir, same_name}
use Rattle.ml_address.specs.Requests.{word_text}
use Rattle.ml_config.specs.KeyFile.{key_name}
use Rattle.ml_plain.specs.Mailing.{is_good}
use Rattle.ml_plain.specs.Plain.{Plain}
use Rattle.ml_acts.specs.Doing.{Alike}
use Rattle.ml_plain.specs.Managing as spec
use Rattle.ml_joining.specs.Reads.{is_read_to_confirm}
use Rattle.ml_joining.proofs.Apart.{alike_kept, found_apart}
use Rattle.ml_joining.proofs.Spared.{keys_alone, read_failed, read_more}
use Rattle.ml_joining.proofs.Ways.{keys_to}
use Rattle.ml_acts.proofs.Found.{found_then}
use Rattle.ml_base.specs.Address.{key}
use Rattle.ml_acts.specs.Found.{TellsMember}
use Rattle.ml_joining.specs.Found.{FoundToConfirm, FoundToDo}
use Rattle.ml_joining.specs.Operations.{change_of, operation_of}
use Rattle.ml_plain.specs.Managing.{Operation}
use Rattle.ml_joining.proofs.Asked.{who_there}
use Rattle.ml_joining.proofs.Decided.{confirmed_is}
use Rattle.ml_joining.proofs.requests.confirm_found.Goals as goal

pub returns-clause-apart : goal.returns-clause-apart
returns-clause-apart g c told =
    let old = g.F.Files.map c.args.files.now in
    let new = g.F.Files.map c.is_signed.new.files in
    let x = c.args.x.now in
    let set = c.args.set in
    let word = c.args.word in
    let looked = is_read_to_confirm word set x.named in
    let done = λ (p : Plain) (good : Bool). spec.done c.args.now.seconds set c.args.sender.now x.who p (spec.confirming p set x.who word good) in
    let same = g.met.F.Files.kept_map c.args.files.now c.is_signed.new.files told c.is_signed.ensures.reads.kept in
    found_apart c.carry_out.result c.args.config.now (λ (dir : Dir). Alike looked new dir) (λ (dir : Dir). Alike looked old dir) (λ dir alike. alike_kept looked looked old new dir same (λ name e. e) alike)
    (λ p. spec.done c.args.now.seconds set c.args.sender.now x.who p (operation_of c.confirmed-action.result)) (λ p. done p (is_good p (word_text word) set c.args.time (key x.who) c.args.cookie.now c.args.now.seconds)) set x
    (λ dir p alike is e about. ap (spec.done c.args.now.seconds set c.args.sender.now x.who p) (c.confirmed-action.ensures.operation ∙ confirmed_is p c.args.config.now set x.who word x.member c.in_ok-good.good e (who_there p set x about))
    ∙ ap (done p) (c.in_ok-good.ensures.apart told dir p (alike key_name (keys_to (change_of word) set x.named key_name refl)) is))
    (c.carry_out.ensures.apart (change_of word) c.confirmed-action.ensures.may told)

pub returns-in_err-good-clause-act : goal.returns-in_err-good-clause-act
returns-in_err-good-clause-act g c =
    read_failed (λ name. same_name name key_name) (is_read_to_confirm c.args.word c.args.set c.args.x.now.named) keys_alone (keys_to (change_of c.args.word) c.args.set c.args.x.now.named)
    c.in_err-good.ensures.names c.in_err-good.ensures.reads (search rules)

pub returns-clause-act : goal.returns-clause-act
returns-clause-act g c =
    let looked = is_read_to_confirm c.args.word c.args.set c.args.x.now.named in
    read_more looked looked g.met.F.Files.kept_then g.met.F.Files.kept_map c.is_signed.ensures.reads (λ name e. e) (c.carry_out.ensures.act (change_of c.args.word) c.confirmed-action.ensures.may)

pub returns-clause-found : goal.returns-clause-found
returns-clause-found g c told =
    let old = g.F.Files.map c.args.files.now in
    let set = c.args.set in
    let x = c.args.x.now in
    let conf = c.args.config.now in
    let same = g.met.F.Files.kept_map c.args.files.now c.is_signed.new.files told c.is_signed.ensures.reads.kept in
    found_then c.carry_out.result old (g.F.Files.map c.is_signed.new.files) (λ d. FoundToDo d set (key x.named) (operation_of c.confirmed-action.result))
    (λ done. TellsMember old set (key x.named) x.member → FoundToConfirm old conf c.args.word set x.named done) same
    (λ done is tells. record { member = x.member; tells = tells; keys = c.in_ok-good.ensures.found told; good = c.in_ok-good.good; follows = subst (λ (o : Operation). FoundToDo old set (key x.named) o done) c.confirmed-action.ensures.operation is }) (c.carry_out.ensures.found told)

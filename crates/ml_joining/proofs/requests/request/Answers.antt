use Rattle.std.proofs.Common.{◌≡◌, true, ap, rules, subst}
use Rattle.std.specs.Option.{option_map}
use Rattle.ml_base.specs.Bytes.{Text}
use Rattle.ml_address.specs.Views.{who_view}
use Rattle.ml_plain.specs.Managing as spec
use Rattle.ml_base.specs.Dir.{Dir}
use Rattle.ml_acts.specs.Doing.{Alike, is_bucket_of}
use Rattle.ml_acts.proofs.OfActs.{act_wider}
use Rattle.ml_joining.specs.Reads.{asks_rank_to, is_read_by_request}
use Rattle.ml_joining.proofs.Apart.{alike_kept, asked_apart}
use Rattle.ml_joining.proofs.Spared.{bucket_alone, read_failed, read_more}
use Rattle.ml_joining.proofs.Asked.{subject_is}
use Rattle.ml_joining.proofs.Ways.{bucket_to, change_to_request}
use Rattle.ml_acts.proofs.Found.{found_then}
use Rattle.ml_base.specs.Address.{key}
use Rattle.ml_acts.specs.Found.{TellsMember}
use Rattle.ml_joining.specs.Cases as cases
use Rattle.ml_joining.specs.Operations.{asked_of, requested}
use Rattle.ml_joining.specs.Found.{FoundByRequest}
use Rattle.ml_joining.proofs.requests.request.Goals as goal

pub returns-clause-apart : goal.returns-clause-apart
returns-clause-apart g c told =
    let old = g.F.Files.map c.args.files.now in
    let new = g.F.Files.map c.find_subject.new.files in
    let set = c.args.set in
    let config = c.args.config.now in
    let sender = c.args.sender.now in
    let x = c.in_ok-x.x in
    let asked = asked_of sender (option_map who_view c.args.who) in
    let few = is_read_by_request c.args.change config sender set x.named in
    let looked = is_read_by_request c.args.change config sender set asked in
    let named = c.in_ok-x.ensures.named in
    let same = g.met.F.Files.kept_map c.args.files.now c.find_subject.new.files told c.find_subject.ensures.reads.kept in
    asked_apart c.request_found.result config (λ (dir : Dir). Alike few new dir) (λ (dir : Dir). Alike looked old dir)
    (λ dir alike. alike_kept few looked old new dir same (λ name e. subst (λ (t : Text). is_read_by_request c.args.change config sender set t name ≡ true) named e) alike)
    (λ p. requested c.args.change c.args.now.seconds sender set x.who p) (λ p. requested c.args.change c.args.now.seconds sender set (spec.subject_of p set sender (option_map who_view c.args.who)) p) set x
    (λ dir p alike is. c.in_ok-x.ensures.apart told dir p (λ name b. alike name (change_to_request c.args.change config sender set asked name (bucket_to c.args.change set asked name b))) is)
    (λ dir p alike is e about. ap (λ (t : Text). requested c.args.change c.args.now.seconds sender set t p) (subject_is p set x about sender (option_map who_view c.args.who) named))
    (c.request_found.ensures.apart told)

pub returns-in_err-x-clause-act : goal.returns-in_err-x-clause-act
returns-in_err-x-clause-act g c =
    let set = c.args.set in
    let config = c.args.config.now in
    let sender = c.args.sender.now in
    let asked = asked_of sender (option_map who_view c.args.who) in
    read_failed (is_bucket_of set asked) (is_read_by_request c.args.change config sender set asked) (bucket_alone set asked) (λ name b. change_to_request c.args.change config sender set asked name (bucket_to c.args.change set asked name b))
    c.in_err-x.ensures.names c.in_err-x.ensures.reads (search rules)

pub returns-clause-act : goal.returns-clause-act
returns-clause-act g c =
    let set = c.args.set in
    let config = c.args.config.now in
    let sender = c.args.sender.now in
    let asked = asked_of sender (option_map who_view c.args.who) in
    act_wider
    (read_more (is_read_by_request c.args.change config sender set c.in_ok-x.x.named) (is_read_by_request c.args.change config sender set asked) g.met.F.Files.kept_then g.met.F.Files.kept_map c.find_subject.ensures.reads
    (λ name e. subst (λ (t : Text). is_read_by_request c.args.change config sender set t name ≡ true) c.in_ok-x.ensures.named e) c.request_found.ensures.act)
    (λ name e. search rules)

pub returns-clause-found : goal.returns-clause-found
returns-clause-found g c told =
    let old = g.F.Files.map c.args.files.now in
    let set = c.args.set in
    let x = c.in_ok-x.x in
    let same = g.met.F.Files.kept_map c.args.files.now c.find_subject.new.files told c.find_subject.ensures.reads.kept in
    let found = λ (d : Dir) (w : Text). FoundByRequest d set (key w) (asks_rank_to c.args.change c.args.config.now) c.args.sender.now (cases.asked c.args.change c.args.config.now.flags set) in
    found_then c.request_found.result old (g.F.Files.map c.find_subject.new.files) (λ d done. TellsMember d set (key x.named) x.member → found d x.named done) (found old (asked_of c.args.sender.now (option_map who_view c.args.who))) same
    (λ done f. subst (λ (w : Text). found old w done) c.in_ok-x.ensures.named (f (c.in_ok-x.ensures.found told))) (c.request_found.ensures.found told)

use Rattle.std.proofs.Common.{Bool, ◌&&◌, ◌∙◌, ap, rules, subst}
use Rattle.ml_base.specs.Dir.{Dir}
use Rattle.ml_base.specs.declared.names.Set.TheVariants as sets
use Rattle.ml_base.specs.Address.{key}
use Rattle.ml_plain.specs.Managing as spec
use Rattle.ml_plain.specs.Managing.{Operation}
use Rattle.ml_plain.specs.Plain.{is_moderator}
use Rattle.ml_acts.specs.Doing.{Alike, is_bucket_of}
use Rattle.ml_acts.specs.Found.{TellsMember}
use Rattle.ml_acts.proofs.Found.{found_then}
use Rattle.ml_joining.specs.Cases as cases
use Rattle.ml_joining.specs.Found.{FoundByRequest, FoundToDo}
use Rattle.ml_joining.specs.Operations.{operation_of, requested}
use Rattle.ml_joining.specs.Reads.{asks_rank_to, is_read_by_request, is_read_to}
use Rattle.ml_joining.specs.declared.decisions.Facts.{Facts}
use Rattle.ml_joining.proofs.Apart.{alike_kept, found_apart}
use Rattle.ml_joining.proofs.Spared.{rank_alone, read_failed, read_more}
use Rattle.ml_joining.proofs.Ways.{change_to_request, rank_to_request}
use Rattle.ml_joining.proofs.Asked.{who_there}
use Rattle.ml_joining.proofs.Decided.{asked_is, own_is}
use Rattle.ml_joining.proofs.requests.request_found.Goals as goal

pub returns-clause-apart : goal.returns-clause-apart
returns-clause-apart g c told =
    let old = g.F.Files.map c.args.files.now in
    let new = g.F.Files.map c.is_moderator_if.new.files in
    let x = c.args.x.now in
    let set = c.args.set in
    let change = c.args.change in
    let config = c.args.config.now in
    let sender = c.args.sender.now in
    let few = is_read_to change set x.named in
    let looked = is_read_by_request change config sender set x.named in
    let facts : Facts = record { moderator = c.in_ok-moderator.moderator; member = x.member; own = c.same.result } in
    let same = g.met.F.Files.kept_map c.args.files.now c.is_moderator_if.new.files told c.is_moderator_if.ensures.reads.kept in
    found_apart c.carry_out.result config (λ (dir : Dir). Alike few new dir) (λ (dir : Dir). Alike looked old dir) (λ dir alike. alike_kept few looked old new dir same (λ name e. change_to_request change config sender set x.named name e) alike)
    (λ p. spec.done c.args.now.seconds set sender x.who p (operation_of c.decide-action.result)) (λ p. requested change c.args.now.seconds sender set x.who p) set x
    (λ dir p alike is e about. ap (spec.done c.args.now.seconds set sender x.who p) c.decide-action.ensures.operation
    ∙ asked_is p config set sender x.who facts e (who_there p set x about) (own_is c.same.result x.who sender c.same.ensures) change c.args.now.seconds
    (c.in_ok-moderator.ensures.apart told dir p (λ name m. alike name (rank_to_request change config sender set x.named name c.asks_rank.result c.asks_rank.ensures m)) is ∙ ap (λ (a : Bool). a && is_moderator p sender) c.asks_rank.ensures))
    (c.carry_out.ensures.apart change c.decide-action.ensures.may told)

pub returns-in_err-moderator-clause-act : goal.returns-in_err-moderator-clause-act
returns-in_err-moderator-clause-act g c =
    read_failed (λ name. c.asks_rank.result && is_bucket_of sets.Moderators c.args.sender.now name) (is_read_by_request c.args.change c.args.config.now c.args.sender.now c.args.set c.args.x.now.named) (rank_alone c.asks_rank.result c.args.sender.now)
    (λ name e. rank_to_request c.args.change c.args.config.now c.args.sender.now c.args.set c.args.x.now.named name c.asks_rank.result c.asks_rank.ensures e) c.in_err-moderator.ensures.names c.in_err-moderator.ensures.reads (search rules)

pub returns-clause-act : goal.returns-clause-act
returns-clause-act g c =
    let x = c.args.x.now in
    let change = c.args.change in
    read_more (is_read_to change c.args.set x.named) (is_read_by_request change c.args.config.now c.args.sender.now c.args.set x.named) g.met.F.Files.kept_then g.met.F.Files.kept_map c.is_moderator_if.ensures.reads
    (λ name e. change_to_request change c.args.config.now c.args.sender.now c.args.set x.named name e) (c.carry_out.ensures.act change c.decide-action.ensures.may)

pub returns-clause-found : goal.returns-clause-found
returns-clause-found g c told =
    let old = g.F.Files.map c.args.files.now in
    let set = c.args.set in
    let x = c.args.x.now in
    let k = key x.named in
    let config = c.args.config.now in
    let same = g.met.F.Files.kept_map c.args.files.now c.is_moderator_if.new.files told c.is_moderator_if.ensures.reads.kept in
    let facts : Facts = record { moderator = c.in_ok-moderator.moderator; member = x.member; own = c.same.result } in
    found_then c.carry_out.result old (g.F.Files.map c.is_moderator_if.new.files) (λ d. FoundToDo d set k (operation_of c.decide-action.result))
    (λ done. TellsMember old set k x.member → FoundByRequest old set k (asks_rank_to c.args.change config) c.args.sender.now (cases.asked c.args.change config.flags set) done) same
    (λ done is tells. record {
      facts = facts;
      member = tells;
      rank = λ asked. c.in_ok-moderator.ensures.found told (c.asks_rank.ensures ∙ asked);
      unasked = λ asked. c.in_ok-moderator.ensures.unasked (c.asks_rank.ensures ∙ asked);
      follows = subst (λ (o : Operation). FoundToDo old set k o done) c.decide-action.ensures.operation is;
    }) (c.carry_out.ensures.found told)

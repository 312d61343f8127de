use Rattle.std.proofs.Common.{◌≡◌, true, Some, ap, rules, subst}
use Rattle.ml_base.specs.Bytes.{Text}
use Rattle.ml_address.specs.Views.{who_view}
use Rattle.ml_plain.specs.Managing as spec
use Rattle.ml_base.specs.Dir.{Dir}
use Rattle.ml_acts.specs.Doing.{Alike, is_bucket_of}
use Rattle.ml_acts.proofs.OfActs.{act_wider}
use Rattle.ml_joining.specs.Reads.{is_read_to_confirm}
use Rattle.ml_joining.proofs.Apart.{alike_kept, asked_apart}
use Rattle.ml_joining.proofs.Spared.{bucket_alone, read_failed, read_more}
use Rattle.ml_joining.proofs.Asked.{subject_is}
use Rattle.ml_joining.proofs.Ways.{bucket_to}
use Rattle.ml_joining.specs.Operations.{change_of}
use Rattle.ml_acts.proofs.Found.{found_then}
use Rattle.ml_base.specs.Address.{key}
use Rattle.ml_acts.specs.Found.{TellsMember}
use Rattle.ml_plain.specs.Bouncing.{address_named}
use Rattle.ml_joining.specs.Found.{FoundToConfirm}
use Rattle.ml_joining.proofs.requests.confirm.Goals as goal

pub returns-clause-apart : goal.returns-clause-apart
returns-clause-apart g c told =
    let old = g.F.Files.map c.args.files.now in
    let new = g.F.Files.map c.find_subject.new.files in
    let set = c.args.set in
    let word = c.args.word in
    let x = c.in_ok-x.x in
    let asked = address_named (who_view c.args.who) in
    let few = is_read_to_confirm word set x.named in
    let looked = is_read_to_confirm word set asked in
    let named = c.in_ok-x.ensures.named in
    let same = g.met.F.Files.kept_map c.args.files.now c.find_subject.new.files told c.find_subject.ensures.reads.kept in
    asked_apart c.confirm_found.result c.args.config.now (λ (dir : Dir). Alike few new dir) (λ (dir : Dir). Alike looked old dir)
    (λ dir alike. alike_kept few looked old new dir same (λ name e. subst (λ (t : Text). is_read_to_confirm word set t name ≡ true) named e) alike)
    (λ p. spec.confirm c.args.now.seconds c.args.sender.now word set (record { time = c.args.time; cookie = c.args.cookie.now; who = who_view c.args.who }) x.who p) (λ p. spec.confirm c.args.now.seconds c.args.sender.now word set (record { time = c.args.time; cookie = c.args.cookie.now; who = who_view c.args.who }) (spec.subject_of p set c.args.sender.now (Some (who_view c.args.who))) p) set x
    (λ dir p alike is. c.in_ok-x.ensures.apart told dir p (λ name b. alike name (bucket_to (change_of word) set asked name b)) is)
    (λ dir p alike is e about. ap (λ (t : Text). spec.confirm c.args.now.seconds c.args.sender.now word set (record { time = c.args.time; cookie = c.args.cookie.now; who = who_view c.args.who }) t p) (subject_is p set x about c.args.sender.now (Some (who_view c.args.who)) named))
    (c.confirm_found.ensures.apart told)

pub returns-in_err-x-clause-act : goal.returns-in_err-x-clause-act
returns-in_err-x-clause-act g c =
    let set = c.args.set in
    let word = c.args.word in
    let asked = address_named (who_view c.args.who) in
    read_failed (is_bucket_of set asked) (is_read_to_confirm word set asked) (bucket_alone set asked) (λ name b. bucket_to (change_of word) set asked name b)
    c.in_err-x.ensures.names c.in_err-x.ensures.reads (search rules)

pub returns-clause-act : goal.returns-clause-act
returns-clause-act g c =
    let set = c.args.set in
    let word = c.args.word in
    let asked = address_named (who_view c.args.who) in
    act_wider
    (read_more (is_read_to_confirm word set c.in_ok-x.x.named) (is_read_to_confirm word set asked) g.met.F.Files.kept_then g.met.F.Files.kept_map c.find_subject.ensures.reads
    (λ name e. subst (λ (t : Text). is_read_to_confirm word set t name ≡ true) c.in_ok-x.ensures.named e) c.confirm_found.ensures.act)
    (λ name e. search rules)

pub returns-clause-found : goal.returns-clause-found
returns-clause-found g c told =
    let old = g.F.Files.map c.args.files.now in
    let set = c.args.set in
    let x = c.in_ok-x.x in
    let conf = c.args.config.now in
    let same = g.met.F.Files.kept_map c.args.files.now c.find_subject.new.files told c.find_subject.ensures.reads.kept in
    found_then c.confirm_found.result old (g.F.Files.map c.find_subject.new.files) (λ d done. TellsMember d set (key x.named) x.member → FoundToConfirm d conf c.args.word set x.named done)
    (FoundToConfirm old conf c.args.word set (address_named (who_view c.args.who))) same
    (λ done f. subst (λ (w : Text). FoundToConfirm old conf c.args.word set w done) c.in_ok-x.ensures.named (f (c.in_ok-x.ensures.found told))) (c.confirm_found.ensures.found told)

use Rattle.ml_base.specs.Address.{key}
use Rattle.ml_base.specs.declared.names.Set.TheVariants as sets
use Rattle.std.proofs.Common.{true, false, refl, subst, Bool, ◌||◌, ◌∙◌, sym, ap}
use Rattle.ml_acts.specs.Found.{EitherTells, TellsMember}
use Rattle.ml_acts.proofs.Found.{either_first, either_second, found_then}
use Rattle.ml_manage.proofs.Apart.{kept_alike, subscriber_digest, subscriber_list}
use Rattle.ml_acts.proofs.Damages.{ok_then}
use Rattle.ml_acts.specs.Doing.{is_bucket_of}
use Rattle.ml_plain.specs.Plain.{is_in}
use Rattle.ml_manage.proofs.archive.is_subscriber.Goals as goal

pub returns-then-branch-clause-found : goal.returns-then-branch-clause-found
returns-then-branch-clause-found g c told =
    let dir = g.F.Files.map c.args.files.now in
    let k = key c.args.who.now in
    either_first (TellsMember dir sets.List k) (TellsMember dir sets.Digest k) true refl (subst (TellsMember dir sets.List k) c.if-branch.true (c.in_ok-is_member.ensures.found told))

pub returns-clause-found : goal.returns-clause-found
returns-clause-found g c told =
    let dir = g.F.Files.map c.args.files.now in
    let k = key c.args.who.now in
    let same = g.met.F.Files.kept_map c.args.files.now c.is_member.new.files told c.is_member.ensures.reads.kept in
    let one = TellsMember dir sets.List k in
    let other = TellsMember dir sets.Digest k in
    found_then c.is_member-2.result dir (g.F.Files.map c.is_member.new.files) (λ d. TellsMember d sets.Digest k) (EitherTells one other) same
    (λ b tells. either_second one other false b refl (subst one c.if-branch.false (c.in_ok-is_member.ensures.found told)) tells) (c.is_member-2.ensures.found told)

pub returns-then-branch-clause-apart : goal.returns-then-branch-clause-apart
returns-then-branch-clause-apart g c told dir p alike is =
    let who = c.args.who.now in
    let in_list = sym c.if-branch.true ∙ c.in_ok-is_member.ensures.apart told dir p (subscriber_list (g.F.Files.map c.args.files.now) dir who alike) is in
    ap (λ (t : Bool). t || is_in p sets.Digest who) in_list

pub returns-clause-apart : goal.returns-clause-apart
returns-clause-apart g c told =
    let old = g.F.Files.map c.args.files.now in
    let who = c.args.who.now in
    let same = g.met.F.Files.kept_map c.args.files.now c.is_member.new.files told c.is_member.ensures.reads.kept in
    ok_then c.is_member-2.result
    (λ b tells dir p alike is.
    let none = sym c.if-branch.false ∙ c.in_ok-is_member.ensures.apart told dir p (subscriber_list old dir who alike) is in
    tells dir p (kept_alike (is_bucket_of sets.Digest who) old (g.F.Files.map c.is_member.new.files) dir same (subscriber_digest old dir who alike)) is ∙ ap (λ (t : Bool). t || is_in p sets.Digest who) none)
    (c.is_member-2.ensures.apart told)

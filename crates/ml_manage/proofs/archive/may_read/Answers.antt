use Rattle.ml_base.specs.Address.{key}
use Rattle.ml_base.specs.declared.names.Set.TheVariants as sets
use Rattle.std.proofs.Common.{true, false, refl, subst, ◌≡◌, ◌∙◌, sym}
use Rattle.ml_acts.specs.Found.{EitherTells, TellsMember}
use Rattle.ml_acts.proofs.Found.{either_first, either_second, found_then}
use Rattle.ml_manage.specs.Found.{TellsOpen}
use Rattle.ml_manage.proofs.Apart.{kept_alike, reader_apart, reader_rank}
use Rattle.ml_acts.proofs.Damages.{ok_then}
use Rattle.ml_manage.specs.Reads.{is_of_reader}
use Rattle.ml_manage.proofs.archive.may_read.Goals as goal

pub returns-then-branch-clause-found : goal.returns-then-branch-clause-found
returns-then-branch-clause-found g c told =
    let dir = g.F.Files.map c.args.files.now in
    let k = key c.args.sender.now in
    either_first (TellsMember dir sets.Moderators k) (TellsOpen dir c.args.config.now k) true refl (subst (TellsMember dir sets.Moderators k) c.if-branch.true (c.in_ok-is_member.ensures.found told))

pub returns-clause-found : goal.returns-clause-found
returns-clause-found g c told =
    let dir = g.F.Files.map c.args.files.now in
    let conf = c.args.config.now in
    let k = key c.args.sender.now in
    let same = g.met.F.Files.kept_map c.args.files.now c.is_member.new.files told c.is_member.ensures.reads.kept in
    let one = TellsMember dir sets.Moderators k in
    found_then c.is_open_to.result dir (g.F.Files.map c.is_member.new.files) (λ d. TellsOpen d conf k) (EitherTells one (TellsOpen dir conf k)) same
    (λ b tells. either_second one (TellsOpen dir conf k) false b refl (subst one c.if-branch.false (c.in_ok-is_member.ensures.found told)) tells) (c.is_open_to.ensures.found told)

pub returns-then-branch-clause-apart : goal.returns-then-branch-clause-apart
returns-then-branch-clause-apart g c told dir p alike is same =
    let sender = c.args.sender.now in
    let moderator = sym c.if-branch.true ∙ c.in_ok-is_member.ensures.apart told dir p (reader_rank (g.F.Files.map c.args.files.now) dir c.args.config.now sender alike) is in
    reader_apart p sender true true moderator (λ no. absurd (let bad : true ≡ false = no in cc)) (λ yes. refl)

pub returns-clause-apart : goal.returns-clause-apart
returns-clause-apart g c told =
    let old = g.F.Files.map c.args.files.now in
    let conf = c.args.config.now in
    let sender = c.args.sender.now in
    let same = g.met.F.Files.kept_map c.args.files.now c.is_member.new.files told c.is_member.ensures.reads.kept in
    ok_then c.is_open_to.result
    (λ b tells dir p alike is under.
    let none = sym c.if-branch.false ∙ c.in_ok-is_member.ensures.apart told dir p (reader_rank old dir conf sender alike) is in
    reader_apart p sender false b none (λ no. tells dir p (kept_alike (is_of_reader conf sender) old (g.F.Files.map c.is_member.new.files) dir same alike) is under) (λ yes. absurd (let bad : false ≡ true = yes in cc)))
    (c.is_open_to.ensures.apart told)

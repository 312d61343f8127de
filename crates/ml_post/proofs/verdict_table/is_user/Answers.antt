use Rattle.std.proofs.Common.{subst, true, false, refl}
use Rattle.ml_base.specs.declared.names.Set.TheVariants as sets
use Rattle.ml_base.proofs.ReadingLemmas.{kept_read, reading_then}
use Rattle.ml_base.specs.Address.{key}
use Rattle.ml_acts.specs.Found.{EitherTells, TellsMember}
use Rattle.ml_acts.proofs.Found.{either_first, either_second, found_then}
use Rattle.ml_post.proofs.verdict_table.is_user.Goals as goal

pub returns-clause-reads : goal.returns-clause-reads
returns-clause-reads g c =
    let one = kept_read g.F.Files c.args.files.now c.is_in_either.new.files c.is_in_either.result c.is_in_either.ensures.reads in
    reading_then g.F.Files g.met.F.Files.kept_then c.args.files.now c.is_in_either.new.files c.is_in_either-2.new.files c.is_in_either-2.result one c.is_in_either-2.ensures.reads

pub returns-then-branch-clause-found : goal.returns-then-branch-clause-found
returns-then-branch-clause-found g c told =
    let dir = g.F.Files.map c.args.files.now in
    let k = key c.args.who.now in
    let one = EitherTells (TellsMember dir sets.List k) (TellsMember dir sets.Digest k) in
    let other = EitherTells (TellsMember dir sets.Allow k) (TellsMember dir sets.Moderators k) in
    either_first one other true refl (subst one c.if-branch.true (c.in_ok-is_in_either.ensures.found told))

pub returns-clause-found : goal.returns-clause-found
returns-clause-found g c told =
    let dir = g.F.Files.map c.args.files.now in
    let k = key c.args.who.now in
    let same = g.met.F.Files.kept_map c.args.files.now c.is_in_either.new.files told c.is_in_either.ensures.reads.kept in
    let one = EitherTells (TellsMember dir sets.List k) (TellsMember dir sets.Digest k) in
    let other = EitherTells (TellsMember dir sets.Allow k) (TellsMember dir sets.Moderators k) in
    found_then c.is_in_either-2.result dir (g.F.Files.map c.is_in_either.new.files) (λ d. EitherTells (TellsMember d sets.Allow k) (TellsMember d sets.Moderators k)) (EitherTells one other) same
    (λ b tells. either_second one other false b refl (subst one c.if-branch.false (c.in_ok-is_in_either.ensures.found told)) tells) (c.is_in_either-2.ensures.found told)

use Rattle.std.proofs.Common.{◌≡◌, ◌||◌, Bool, true, subst, refl, false}
use Rattle.std.proofs.lemmas.Bool.{or_right}
use Rattle.ml_base.proofs.ReadingLemmas.{kept_read, reading_then}
use Rattle.ml_acts.specs.Asked.{Count, IsDamagedOf}
use Rattle.ml_acts.specs.Doing.{is_bucket_of}
use Rattle.ml_acts.proofs.Asked.{named_as}
use Rattle.ml_base.specs.Address.{key}
use Rattle.ml_acts.specs.Found.{EitherTells, TellsMember}
use Rattle.ml_acts.proofs.Found.{either_first, either_second, found_then}
use Rattle.ml_post.proofs.verdict_table.is_in_either.Goals as goal

pub returns-clause-names : goal.returns-clause-names
returns-clause-names g c =
    let dir = g.F.Files.map c.args.files.now in
    let one = is_bucket_of c.args.first c.args.who.now in
    let other = is_bucket_of c.args.second c.args.who.now in
    named_as g.F.Files (λ name. (one name || other name) ≡ true) _ dir (g.F.Files.map c.is_member.new.files) (λ name. other name ≡ true) (λ d. IsDamagedOf d Count) (IsDamagedOf dir Count)
    (λ told. g.met.F.Files.kept_map c.args.files.now c.is_member.new.files told c.is_member.ensures.reads.kept) (λ name e. or_right (one name) (other name) e) (λ name e bad. bad) c.is_member-2.ensures.names

pub returns-clause-reads : goal.returns-clause-reads
returns-clause-reads g c =
    let one = kept_read g.F.Files c.args.files.now c.is_member.new.files c.is_member.result c.is_member.ensures.reads in
    reading_then g.F.Files g.met.F.Files.kept_then c.args.files.now c.is_member.new.files c.is_member-2.new.files c.is_member-2.result one c.is_member-2.ensures.reads

pub returns-then-branch-clause-found : goal.returns-then-branch-clause-found
returns-then-branch-clause-found g c told =
    let dir = g.F.Files.map c.args.files.now in
    let k = key c.args.who.now in
    let tells = subst (λ (b : Bool). TellsMember dir c.args.first k b) c.if-branch.true (c.in_ok-is_member.ensures.found told) in
    either_first (TellsMember dir c.args.first k) (TellsMember dir c.args.second k) true refl tells

pub returns-clause-found : goal.returns-clause-found
returns-clause-found g c told =
    let dir = g.F.Files.map c.args.files.now in
    let k = key c.args.who.now in
    let same = g.met.F.Files.kept_map c.args.files.now c.is_member.new.files told c.is_member.ensures.reads.kept in
    let one = TellsMember dir c.args.first k in
    found_then c.is_member-2.result dir (g.F.Files.map c.is_member.new.files) (λ d. TellsMember d c.args.second k) (EitherTells one (TellsMember dir c.args.second k)) same
    (λ b other. either_second one (TellsMember dir c.args.second k) false b refl (subst one c.if-branch.false (c.in_ok-is_member.ensures.found told)) other) (c.is_member-2.ensures.found told)

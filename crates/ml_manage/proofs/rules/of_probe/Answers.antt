use Rattle.std.proofs.Common.{◌≡◌, true, IfOk, subst, sym}
use Rattle.std.proofs.lemmas.Bool.{and_parts}
use Rattle.ml_base.specs.Bytes.{Text}
use Rattle.ml_plain.specs.Directory.{IsList}
use Rattle.ml_plain.specs.Plain.{Plain}
use Rattle.ml_acts.specs.Damaged.{IsDamaged}
use Rattle.ml_acts.specs.Doing.{DoesList, is_left_by, Alike}
use Rattle.ml_manage.specs.Leaving.{of_probe}
use Rattle.ml_manage.specs.Reads.{is_of_probe}
use Rattle.ml_acts.specs.Acting.{AnswersWithin}
use Rattle.ml_base.specs.Address.{key}
use Rattle.ml_manage.specs.Found.{FoundToProbe}
use Rattle.ml_base.specs.Dir.{Dir}
use Rattle.ml_manage.proofs.rules.of_probe.Goals as goal

pub named_address-requires : goal.named_address-requires
named_address-requires g c = (and_parts _ _ (and_parts _ _ c.requires).1).1

pub take_probe_bounce-requires : goal.take_probe_bounce-requires
take_probe_bounce-requires g c = (and_parts _ _ c.requires).0

pub returns-clause-act : goal.returns-clause-act
returns-clause-act g c =
    subst (λ (x : Text). AnswersWithin (is_left_by c.args.set x) g.F.Files (λ name. is_of_probe c.args.set x name ≡ true) (IsDamaged (g.F.Files.map c.args.files.now)) c.args.files.now c.take_probe_bounce.new.files c.take_probe_bounce.result) c.in_ok-x.ensures c.take_probe_bounce.ensures.act

pub returns-clause-found : goal.returns-clause-found
returns-clause-found g c told = subst (λ (x : Text). IfOk c.take_probe_bounce.result (FoundToProbe (g.F.Files.map c.args.files.now) c.args.set (key x))) c.in_ok-x.ensures (c.take_probe_bounce.ensures.found told)

pub returns-clause-apart : goal.returns-clause-apart
returns-clause-apart g c told =
    let old = g.F.Files.map c.args.files.now in
    subst (λ (x : Text). IfOk c.take_probe_bounce.result (λ done. (dir : Dir) (p : Plain) → Alike (is_of_probe c.args.set x) old dir → IsList dir p → DoesList dir done (of_probe c.args.now c.args.set c.args.time c.args.letters.now x p))) c.in_ok-x.ensures (c.take_probe_bounce.ensures.apart told)

pub returns-clause-spared : goal.returns-clause-spared
returns-clause-spared g c told dir p alike is =
    c.take_probe_bounce.ensures.spared told dir p (subst (λ (x : Text). Alike (is_of_probe c.args.set x) (g.F.Files.map c.args.files.now) dir) (sym c.in_ok-x.ensures) alike) is

use Rattle.std.proofs.Common.{◌≡◌, true, IfOk, subst, sym}
use Rattle.std.proofs.lemmas.Bool.{and_parts, leb-true}
use Rattle.ml_base.specs.Bytes.{Text}
use Rattle.ml_plain.specs.Directory.{IsList}
use Rattle.ml_plain.specs.Plain.{Plain}
use Rattle.ml_acts.specs.Asked.{Count, IsDamagedOf}
use Rattle.ml_acts.specs.Doing.{DoesList, is_entry_of, Alike}
use Rattle.ml_plain.specs.Bouncing.{bounced}
use Rattle.ml_manage.specs.Reads.{is_of_bounce}
use Rattle.ml_acts.specs.Acting.{AnswersWithin}
use Rattle.ml_base.specs.Address.{key}
use Rattle.ml_manage.specs.Found.{FoundToNote}
use Rattle.ml_base.specs.Dir.{Dir}
use Rattle.ml_manage.proofs.rules.of_bounce.Goals as goal

pub named_address-requires : goal.named_address-requires
named_address-requires g c = (and_parts _ _ c.requires.range).1

pub take_bounce-requires-clause-mailed : goal.take_bounce-requires-clause-mailed
take_bounce-requires-clause-mailed g c = (and_parts _ _ (and_parts _ _ c.requires.range).0).0

pub take_bounce-requires-clause-number : goal.take_bounce-requires-clause-number
take_bounce-requires-clause-number g c = leb-true c.args.number 99_999_999 (and_parts _ _ (and_parts _ _ (and_parts _ _ c.requires.range).0).1).1

pub returns-clause-act : goal.returns-clause-act
returns-clause-act g c =
    subst (λ (x : Text). AnswersWithin (is_entry_of c.args.set x) g.F.Files (λ name. is_of_bounce c.args.set x name ≡ true) (IsDamagedOf (g.F.Files.map c.args.files.now) Count) c.args.files.now c.take_bounce.new.files c.take_bounce.result) c.in_ok-x.ensures c.take_bounce.ensures.act

pub returns-clause-found : goal.returns-clause-found
returns-clause-found g c told = subst (λ (x : Text). IfOk c.take_bounce.result (FoundToNote (g.F.Files.map c.args.files.now) c.args.set (key x))) c.in_ok-x.ensures (c.take_bounce.ensures.found told)

pub returns-clause-apart : goal.returns-clause-apart
returns-clause-apart g c told =
    let old = g.F.Files.map c.args.files.now in
    subst (λ (x : Text). IfOk c.take_bounce.result (λ done. (dir : Dir) (p : Plain) → Alike (is_of_bounce c.args.set x) old dir → IsList dir p → DoesList dir done (bounced c.args.now.seconds c.args.set c.args.number x p))) c.in_ok-x.ensures (c.take_bounce.ensures.apart told)

pub returns-clause-spared : goal.returns-clause-spared
returns-clause-spared g c told dir p alike is =
    c.take_bounce.ensures.spared told dir p (subst (λ (x : Text). Alike (is_of_bounce c.args.set x) (g.F.Files.map c.args.files.now) dir) (sym c.in_ok-x.ensures) alike) is

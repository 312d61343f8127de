use Rattle.std.proofs.Common.{◌≡◌, ◌||◌, true, refl, rules, inl, subst, Bool, ◌∙◌, sym, ap}
use Rattle.std.proofs.lemmas.Bool.{or_left}
use Rattle.ml_acts.specs.Asked.{Count}
use Rattle.ml_acts.specs.Doing.{is_bucket_of, is_entry_of}
use Rattle.ml_acts.proofs.Asked.{bucket_other, named_beside}
use Rattle.ml_manage.specs.Reads.{is_counted_in, is_of_bounce}
use Rattle.ml_base.specs.Address.{key}
use Rattle.ml_acts.proofs.Found.{found_then}
use Rattle.ml_acts.specs.Found.{TellsMember}
use Rattle.ml_manage.specs.Found.{IfMember, TellsUsed}
use Rattle.ml_manage.proofs.Finding.{if_member}
use Rattle.ml_manage.proofs.Apart.{bounce_member, bounce_used, kept_alike}
use Rattle.ml_acts.proofs.Damages.{ok_then}
use Rattle.std.specs.Prelude.{◌&&◌}
use Rattle.ml_base.specs.PartErrors.{OnDamaged}
use Rattle.ml_base.proofs.DamagedNames.{on_both}
use Rattle.ml_plain.specs.Bouncing.{is_used as used}
use Rattle.ml_acts.specs.Damaged.{IsDamaged}
use Rattle.ml_acts.proofs.Spared.{bucket_spared}
use Rattle.ml_manage.proofs.bounces.was_mailed.Goals as goal

pub returns-in_err-is_member-clause-names : goal.returns-in_err-is_member-clause-names
returns-in_err-is_member-clause-names g c =
    let dir = g.F.Files.map c.args.files.now in
    let set = c.args.set in
    let x = c.args.x.now in
    let names = named_beside g.F.Files (λ name. is_of_bounce set x name ≡ true) _ dir dir Count (λ name. is_bucket_of set x name ≡ true) (λ told. refl)
    (λ name e. or_left (is_bucket_of set x name || is_counted_in set name) (is_entry_of set x name) (or_left (is_bucket_of set x name) (is_counted_in set name) e)) (λ name e of. bucket_other name set x e of) c.in_err-is_member.ensures.names in
    search rules

pub returns-then-not-branch-clause-found : goal.returns-then-not-branch-clause-found
returns-then-not-branch-clause-found g c told = inl (subst (TellsMember (g.F.Files.map c.args.files.now) c.args.set (key c.args.x.now)) c.if-not-branch.true (c.in_ok-is_member.ensures.found told))

pub returns-clause-found : goal.returns-clause-found
returns-clause-found g c told =
    let dir = g.F.Files.map c.args.files.now in
    let set = c.args.set in
    let k = key c.args.x.now in
    let same = g.met.F.Files.kept_map c.args.files.now c.is_member.new.files told c.is_member.ensures.reads.kept in
    found_then c.is_used.result dir (g.F.Files.map c.is_member.new.files) (λ d b. TellsUsed d set) (IfMember dir set k (TellsUsed dir set)) same
    (λ b used. if_member dir set k (TellsUsed dir set) b (subst (TellsMember dir set k) c.if-not-branch.false (c.in_ok-is_member.ensures.found told)) used) (c.is_used.ensures.found told)

pub returns-then-not-branch-clause-apart : goal.returns-then-not-branch-clause-apart
returns-then-not-branch-clause-apart g c told dir p alike is =
    let none = sym c.if-not-branch.true ∙ c.in_ok-is_member.ensures.apart told dir p (bounce_member (g.F.Files.map c.args.files.now) dir c.args.set c.args.x.now alike) is in
    ap (λ (t : Bool). t && used p c.args.set c.args.number) none

pub returns-clause-apart : goal.returns-clause-apart
returns-clause-apart g c told =
    let old = g.F.Files.map c.args.files.now in
    let set = c.args.set in
    let x = c.args.x.now in
    let same = g.met.F.Files.kept_map c.args.files.now c.is_member.new.files told c.is_member.ensures.reads.kept in
    ok_then c.is_used.result
    (λ b tells dir p alike is.
    let member = sym c.if-not-branch.false ∙ c.in_ok-is_member.ensures.apart told dir p (bounce_member old dir set x alike) is in
    tells dir p (kept_alike (is_counted_in set) old (g.F.Files.map c.is_member.new.files) dir same (bounce_used old dir set x alike)) is ∙ ap (λ (t : Bool). t && used p set c.args.number) member)
    (c.is_used.ensures.apart told)

pub returns-in_err-is_member-clause-spared : goal.returns-in_err-is_member-clause-spared
returns-in_err-is_member-clause-spared g c told dir p alike is =
    let old = g.F.Files.map c.args.files.now in
    let set = c.args.set in
    let x = c.args.x.now in
    let e = c.in_err-is_member.field-0.0 in
    let names = c.in_err-is_member.ensures.names in
    let none : OnDamaged e (λ _. ⊥) =
    on_both e (λ name. is_bucket_of set x name ≡ true) (IsDamaged old) (λ _. ⊥) (λ name own bad. bucket_spared old dir p is set x name own (bounce_member old dir set x alike name own) bad) names.named (names.damaged told) in
    search rules

pub returns-clause-spared : goal.returns-clause-spared
returns-clause-spared g c told dir p alike is =
    let old = g.F.Files.map c.args.files.now in
    let set = c.args.set in
    let same = g.met.F.Files.kept_map c.args.files.now c.is_member.new.files told c.is_member.ensures.reads.kept in
    c.is_used.ensures.spared told dir p (kept_alike (is_counted_in set) old (g.F.Files.map c.is_member.new.files) dir same (bounce_used old dir set c.args.x.now alike)) is

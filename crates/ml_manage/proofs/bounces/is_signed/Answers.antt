use Rattle.ml_base.specs.Address.{key}
use Rattle.ml_acts.proofs.Found.{found_then}
use Rattle.std.proofs.Common.{inl, subst, Bool, ◌∙◌, sym, ap}
use Rattle.ml_acts.specs.Found.{TellsKeys, TellsMember}
use Rattle.ml_manage.specs.Found.{IfMember}
use Rattle.ml_manage.proofs.Finding.{if_member}
use Rattle.ml_manage.proofs.Apart.{kept_same, signed_keys, signed_member}
use Rattle.ml_acts.proofs.Damages.{ok_then}
use Rattle.std.specs.Prelude.{◌&&◌}
use Rattle.ml_config.specs.KeyFile.{key_name}
use Rattle.ml_plain.specs.Mailing.{is_good}
use Rattle.ml_manage.proofs.bounces.is_signed.Goals as goal

pub returns-then-not-branch-clause-found : goal.returns-then-not-branch-clause-found
returns-then-not-branch-clause-found g c told = inl (subst (TellsMember (g.F.Files.map c.args.files.now) c.args.set (key c.args.x.now)) c.if-not-branch.true (c.in_ok-is_member.ensures.found told))

pub returns-clause-found : goal.returns-clause-found
returns-clause-found g c told =
    let dir = g.F.Files.map c.args.files.now in
    let set = c.args.set in
    let k = key c.args.x.now in
    let same = g.met.F.Files.kept_map c.args.files.now c.is_member.new.files told c.is_member.ensures.reads.kept in
    found_then c.is_cookie.result dir (g.F.Files.map c.is_member.new.files) (λ d b. TellsKeys d) (IfMember dir set k (TellsKeys dir)) same
    (λ b keys. if_member dir set k (TellsKeys dir) b (subst (TellsMember dir set k) c.if-not-branch.false (c.in_ok-is_member.ensures.found told)) keys) (c.is_cookie.ensures.found told)

pub returns-then-not-branch-clause-apart : goal.returns-then-not-branch-clause-apart
returns-then-not-branch-clause-apart g c told dir p alike is =
    let x = c.args.x.now in
    let none = sym c.if-not-branch.true ∙ c.in_ok-is_member.ensures.apart told dir p (signed_member (g.F.Files.map c.args.files.now) dir c.args.set x alike) is in
    ap (λ (t : Bool). t && is_good p c.args.kind.now c.args.set c.args.time (key x) c.args.letters.now c.args.now) none

pub returns-clause-apart : goal.returns-clause-apart
returns-clause-apart g c told =
    let old = g.F.Files.map c.args.files.now in
    let set = c.args.set in
    let x = c.args.x.now in
    let same = g.met.F.Files.kept_map c.args.files.now c.is_member.new.files told c.is_member.ensures.reads.kept in
    ok_then c.is_cookie.result
    (λ b tells dir p alike is.
    let member = sym c.if-not-branch.false ∙ c.in_ok-is_member.ensures.apart told dir p (signed_member old dir set x alike) is in
    tells dir p (kept_same key_name old (g.F.Files.map c.is_member.new.files) dir same (signed_keys old dir set x alike)) is
    ∙ ap (λ (t : Bool). t && is_good p c.args.kind.now set c.args.time (key x) c.args.letters.now c.args.now) member)
    (c.is_cookie.ensures.apart told)

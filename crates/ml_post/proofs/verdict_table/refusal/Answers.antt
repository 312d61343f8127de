use Rattle.std.proofs.Common.{false, subst}
use Rattle.ml_base.specs.Address.{key}
use Rattle.ml_base.specs.Dir.{Dir}
use Rattle.ml_post.specs.Found.{TellsDenied, TellsStranger, TellsText}
use Rattle.ml_post.proofs.Finding.{text_as, text_refuses}
use Rattle.ml_post.proofs.verdict_table.refusal.Goals as goal

pub returns-then-branch-clause-found : goal.returns-then-branch-clause-found
returns-then-branch-clause-found g c told = subst (TellsDenied (g.F.Files.map c.args.files.now) c.args.config.now (key c.args.who.now)) c.if-branch.true (c.in_ok-is_denied.ensures.found told)

pub returns-in-Some-clause-refuses : goal.returns-in-Some-clause-refuses
returns-in-Some-clause-refuses g c =
    let config = c.args.config.now in
    let m = c.args.message.now in
    text_refuses config m c.in-Some.found (subst (TellsText config m) c.in-Some.is c.in_ok-found.ensures)

pub returns-in-Some-clause-found : goal.returns-in-Some-clause-found
returns-in-Some-clause-found g c told =
    let dir = g.F.Files.map c.args.files.now in
    let config = c.args.config.now in
    let k = key c.args.who.now in
    let m = c.args.message.now in
    let may = subst (TellsDenied dir config k) c.if-branch.false (c.in_ok-is_denied.ensures.found told) in
    text_as dir config k m c.in-Some.found may (subst (TellsText config m) c.in-Some.is c.in_ok-found.ensures)

pub returns-clause-found : goal.returns-clause-found
returns-clause-found g c told =
    let dir = g.F.Files.map c.args.files.now in
    let config = c.args.config.now in
    let k = key c.args.who.now in
    let m = c.args.message.now in
    let kept = g.met.F.Files.kept_map c.args.files.now c.is_denied.new.files told c.is_denied.ensures.reads.kept in
    let may = subst (TellsDenied dir config k) c.if-branch.false (c.in_ok-is_denied.ensures.found told) in
    let text = subst (TellsText config m) c.in_default.is c.in_ok-found.ensures in
    let known = subst (λ (d : Dir). TellsStranger d config k false) kept (subst (TellsStranger (g.F.Files.map c.is_denied.new.files) config k) c.if-branch-2.false (c.in_ok-is_stranger.ensures.found told)) in
    (may, text, known)

use Rattle.std.proofs.Common.{◌≡◌, Bool, IfOk, Some, ap, subst, sym}
use Rattle.ml_hold.specs.Held.{held_post}
use Rattle.ml_plain.specs.Directory.{IsList}
use Rattle.ml_plain.specs.Managing.{answered}
use Rattle.ml_plain.specs.Plain.{Plain}
use Rattle.ml_acts.specs.Doing.{DoesList}
use Rattle.ml_post.specs.Answering.{accepts}
use Rattle.ml_post.specs.Deciding.{FoundToDecide}
use Rattle.ml_base.specs.Dir.{Dir}
use Rattle.ml_post.specs.Alike.{AlikeToFollow}
use Rattle.ml_post.proofs.moderator_answers.follow.Goals as goal

pub returns-in-Accept-clause-found : goal.returns-in-Accept-clause-found
returns-in-Accept-clause-found g c told =
    subst (λ (b : Bool). IfOk c.accept_held.result (FoundToDecide (g.F.Files.map c.args.files.now) c.args.config.now c.args.ticket b)) (ap accepts (sym c.in-Accept.is)) (c.accept_held.ensures.found told)

pub returns-in-Reject-clause-found : goal.returns-in-Reject-clause-found
returns-in-Reject-clause-found g c told =
    subst (λ (b : Bool). IfOk c.reject_held.result (FoundToDecide (g.F.Files.map c.args.files.now) c.args.config.now c.args.ticket b)) (ap accepts (sym c.in-Reject.is)) (c.reject_held.ensures.found told)

pub returns-in-Accept-clause-apart : goal.returns-in-Accept-clause-apart
returns-in-Accept-clause-apart g c told =
    subst (λ (b : Bool). IfOk c.accept_held.result (λ done. (dir : Dir) (p : Plain) → AlikeToFollow c.args.config.now c.args.ticket c.args.held.now.message b (g.F.Files.map c.args.files.now) dir → IsList dir p → p.config ≡ c.args.config.now
    → held_post c.args.ticket p.held ≡ Some c.args.held.now → DoesList dir done (answered c.args.now.seconds c.args.ticket c.args.held.now p b))) (ap accepts (sym c.in-Accept.is)) (c.accept_held.ensures.apart told)

pub returns-in-Reject-clause-apart : goal.returns-in-Reject-clause-apart
returns-in-Reject-clause-apart g c told =
    subst (λ (b : Bool). IfOk c.reject_held.result (λ done. (dir : Dir) (p : Plain) → AlikeToFollow c.args.config.now c.args.ticket c.args.held.now.message b (g.F.Files.map c.args.files.now) dir → IsList dir p → p.config ≡ c.args.config.now
    → held_post c.args.ticket p.held ≡ Some c.args.held.now → DoesList dir done (answered c.args.now.seconds c.args.ticket c.args.held.now p b))) (ap accepts (sym c.in-Reject.is)) (c.reject_held.ensures.apart told)

pub returns-in-Accept-clause-spared : goal.returns-in-Accept-clause-spared
returns-in-Accept-clause-spared g c told dir p alike is =
    c.accept_held.ensures.spared told dir p (subst (λ (b : Bool). AlikeToFollow c.args.config.now c.args.ticket c.args.held.now.message b (g.F.Files.map c.args.files.now) dir) (ap accepts c.in-Accept.is) alike) is

pub returns-in-Reject-clause-spared : goal.returns-in-Reject-clause-spared
returns-in-Reject-clause-spared g c told dir p alike is =
    c.reject_held.ensures.spared told dir p (subst (λ (b : Bool). AlikeToFollow c.args.config.now c.args.ticket c.args.held.now.message b (g.F.Files.map c.args.files.now) dir) (ap accepts c.in-Reject.is) alike) is

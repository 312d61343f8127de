use Rattle.std.proofs.Common.{◌≡◌, ◌∙◌, ◌++◌, [], ◌∷◌, ap, subst, append_assoc}
use Rattle.ml_subs.specs.declared.records.Layout.{Layout}
use Rattle.ml_subs.specs.declared.records.Layout.TheVariants.{Undated, Dated}
use Rattle.ml_subs.specs.Buckets.{IsMomentIn, record_text}
use Rattle.ml_subs.specs.Reading.{member_by}
use Rattle.ml_subs.proofs.Spelled.{dated_text}
use Rattle.ml_subs.proofs.records.RecordKeyed.push.Goals as goal

pub returns-in_ok-extend-2 : goal.returns-in_ok-extend-2
returns-in_ok-extend-2 c =
    let r = c.self.inside in
    let m = member_by r.who.now r.since in
    let zero = subst (λ (l : Layout). IsMomentIn l r.since) c.in-Undated.is c.self.invariant.moment in
    let own : r.text.now ≡ record_text Undated m = subst (λ (l : Layout). r.text.now ≡ record_text l m) c.in-Undated.is c.self.invariant.spelled in
    c.in_ok-extend-2.ensures.ok ∙ ap (λ t. t ++ (48 ∷ 0 ∷ [])) c.in_ok-extend.ensures.ok ∙ append_assoc c.args.out.now r.text.now (48 ∷ 0 ∷ []) ∙ ap (λ t. c.args.out.now ++ t) (ap (λ t. t ++ (48 ∷ 0 ∷ [])) own ∙ dated_text m zero ∙ ap (record_text Dated) c.self.view_is)

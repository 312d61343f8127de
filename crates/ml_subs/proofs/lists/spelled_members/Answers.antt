use Rattle.std.proofs.Common.{◌≡◌, ◌++◌, List, sym, subst, Option, None, IfSome, slice_index_or, arith, ◌∙◌}
use Rattle.std.proofs.lemmas.List.{get_or_default}
use Rattle.ml_base.specs.Bytes.{Text}
use Rattle.ml_subs.specs.declared.member_list.Member.{Member}
use Rattle.ml_subs.specs.Buckets.{IsBucketFile}
use Rattle.ml_subs.specs.Subscribers.{file_in}
use Rattle.ml_subs.proofs.Gathering.{Gathers, gathers_none, gathers_more}
use Rattle.ml_subs.proofs.lists.spelled_members.Goals as goal

pub loop-n-init : goal.loop-n-init
loop-n-init c = subst (λ (l : List Member). Gathers (file_in c.args.texts.now) c.args.set 0 l) (sym c.new-found.ensures) (gathers_none (file_in c.args.texts.now) c.args.set)

pub loop-n-preserved : goal.loop-n-preserved
loop-n-preserved c =
    let n = c.loop-n.n in
    let texts = c.args.texts.now in
    let file = c.index-as_slice-n.result in
    let ms = c.in-Some.members in
    let is = subst (λ (o : Option (List Member)). IfSome o (IsBucketFile n file)) c.in-Some.is c.in_ok-members.ensures.some in
    let same = subst (λ (l : List (Option Text)). file ≡ slice_index_or l n file) c.as_slice.ensures c.index-as_slice-n.is ∙ get_or_default texts n file None (omega (arith, c.loop-n-test.true, c.requires)) in
    gathers_more (file_in texts) c.args.set n c.loop-n.found c.join.new.self c.loop-n.invariant
    (subst (λ (f : Option Text). (ms : List Member) × IsBucketFile n f ms × (c.join.new.self ≡ c.loop-n.found ++ ms)) same (ms, is, c.in_ok-join.ensures.ok))

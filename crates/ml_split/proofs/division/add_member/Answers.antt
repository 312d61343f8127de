use Rattle.ml_split.proofs.Places.{put_at, put_none}
use Rattle.ml_split.proofs.division.add_member.Goals as goal

pub returns-in_ok-push : goal.returns-in_ok-push
returns-in_ok-push c =
    put_at c.args.name.now c.args.a c.args.parts.now.items c.as_slice.result.now c.in-Some.at c.index_mut.result.now c.push.new.self
    c.as_slice.ensures.value c.in-Some.ensures c.index_mut.ensures.value c.in_ok-push.ensures.ok

pub returns-in_default : goal.returns-in_default
returns-in_default c = put_none c.args.name.now c.args.a c.args.parts.now.items c.as_slice.result.now c.as_slice.ensures.value c.in_default.ensures

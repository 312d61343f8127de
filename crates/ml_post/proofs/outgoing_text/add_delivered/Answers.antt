use Rattle.std.proofs.Common.{refl}
use Rattle.std.proofs.lemmas.List.{append_assoc}
use Rattle.ml_post.proofs.outgoing_text.add_delivered.Goals as goal

pub returns : goal.returns
returns c = rw (c.in_ok-push.ensures.ok, c.in_ok-add_post_address.ensures, c.in_ok-extend.ensures.ok) (simp append_assoc refl)

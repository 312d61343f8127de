use Rattle.std.proofs.Common.{refl}
use Rattle.std.proofs.lemmas.List.{append_assoc}
use Rattle.ml_digest.proofs.digest_phrases.add_mailing_list.Goals as goal

pub returns : goal.returns
returns c = rw (c.in_ok-extend-2.ensures.ok, c.in_ok-add_help.ensures, c.in_ok-extend.ensures.ok) (simp append_assoc refl)

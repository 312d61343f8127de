-- The lines that are put into sent messages, joined piece by piece.
use Rattle.std.proofs.Common.{◌≡◌, Bool, cond, Some, None, [], ◌++◌, refl, ap, append_assoc, append-nil}
use Rattle.ml_base.specs.Bytes.{Text}
use Rattle.ml_base.specs.Texts.{lf}
use Rattle.ml_config.specs.declared.configuration.Config.{Config}
use Rattle.ml_header.specs.Sent.{list_trailer}
use Rattle.ml_plain.specs.Posting.{trailer_of}

pub first_pieces : (o m p q a z : Text) → o ++ (m ++ lf) ++ ((p ++ lf) ++ q) ++ a ++ (z ++ lf) ≡ o ++ (m ++ lf ++ (p ++ lf ++ (q ++ a ++ z ++ lf ++ [])))
first_pieces o m p q a z = simp append_assoc refl

pub seven_pieces : (a b c d e f g : Text) → (a ++ (b ++ (c ++ []))) ++ d ++ e ++ f ++ g ≡ a ++ (b ++ (c ++ (d ++ (e ++ (f ++ (g ++ []))))))
seven_pieces a b c d e f g = simp (append_assoc, append-nil) refl

-- the trailer, by whether there is one
pub trailer_by : (c : Config) (b : Bool) → c.flags.t ≡ b → trailer_of c ≡ cond b (Some (list_trailer c.local c.host)) None
trailer_by c b e = ap (λ (t : Bool). cond t (Some (list_trailer c.local c.host)) None) e

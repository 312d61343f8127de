-- Texts that grow at the end.
use Rattle.std.proofs.Common.{◌≡◌, ◌++◌, length, take, drop, sym, ap, ◌∙◌, append_assoc}
use Rattle.std.proofs.lemmas.List.{take-append-drop}
use Rattle.std.proofs.Math.Seq.{take-append_seam}
use Rattle.ml_base.specs.Bytes.{Text}

-- old grew into mid, and new begins with mid: then new begins with old
pub still_front : (old more mid new : Text) → mid ≡ old ++ more → take (length mid) new ≡ mid → take (length old) new ≡ old
still_front old more mid new grown front =
    let rest : Text = drop (length mid) new in
    let whole : new ≡ old ++ (more ++ rest) = sym (take-append-drop (length mid) new) ∙ ap (λ (t : Text). t ++ rest) (front ∙ grown) ∙ append_assoc old more rest in
    ap (λ (t : Text). take (length old) t) whole ∙ take-append_seam old (more ++ rest)

-- What a delivery does and how it is answered, by its request.
use Rattle.std.proofs.Common.{◌≡◌, Bool, true, false, Some, ap, ◌∙◌}
use Rattle.ml_base.specs.Bytes.{Text}
use Rattle.ml_address.specs.Requests.{PlainRequest}
use Rattle.ml_address.specs.Reading.{request_of}
use Rattle.ml_plain.specs.declared.Item.{Item}
use Rattle.ml_plain.specs.declared.Act.TheVariants.{Deliver}
use Rattle.ml_plain.specs.declared.Reply.{Reply}
use Rattle.ml_plain.specs.Answers as answers
use Rattle.ml_plain.specs.Managing as managing
use Rattle.ml_plain.specs.Plain.{Plain, is_worn}
use Rattle.ml_plain.specs.Steps as steps

-- a step, unless ids or tickets are worn out
abbrev pub if_worn : Plain → Plain × Reply → Bool → Plain × Reply
if_worn p r worn = elim worn [ true ↦ (p, answers.full) | false ↦ r ]

-- how a delivery is answered
pub delivered : (p : Plain) (item : Item) (sender recipient m : Text) (r : PlainRequest) → item.act ≡ Deliver sender recipient m → is_worn p ≡ false
    → request_of p.config.local p.config.host recipient ≡ Some r → (steps.step0 p item).1 ≡ (managing.by_request item.moment sender m p r).1
unfolding steps.step0
delivered p item sender recipient m r act fresh is =
    ap (λ a. (steps.act_step p item.moment a).1) act
    ∙ ap (λ t. (if_worn p (managing.by_recipient item.moment sender m p (request_of p.config.local p.config.host recipient)) t).1) fresh
    ∙ ap (λ o. (managing.by_recipient item.moment sender m p o).1) is

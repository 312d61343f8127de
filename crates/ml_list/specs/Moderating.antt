-- A moderator's answer, as the request that it is in the plain list.
use Rattle.std.specs.Prelude.{ℕ, Bool, true, false}
use Rattle.ml_base.specs.Bytes.{Text}
use Rattle.ml_address.specs.Requests.{PlainRequest, Accept, Reject}

-- the request by which a moderator accepts the post of a ticket, or rejects it
abbrev pub answer_to : ℕ → Text → Bool → PlainRequest
answer_to ticket letters true = Accept ticket letters
answer_to ticket letters false = Reject ticket letters

-- What follows a verdict.
use Rattle.ml_plain.specs.declared.Reply.{Reply}

-- a post is refused with a reply, held, or posted
pub data Outcome : Type 0 where
  Refused : Reply → Outcome
  Held : Outcome
  Posted : Outcome

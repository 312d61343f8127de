-- What is answered when a held post goes back to its sender.
use Rattle.std.specs.Prelude.{◌≡◌, ◌<◌, ℕ, Bool, ◌||◌, length, List, [], Option, Some, None}
use Rattle.ml_base.specs.Dir.{Dir, with_puts}
use Rattle.ml_base.specs.declared.names.Name.{Name}
use Rattle.ml_base.specs.declared.puts.Put.{Put}
use Rattle.ml_hold.specs.Held.{held_post}
use Rattle.ml_hold.specs.declared.posts.Held.{Held}
use Rattle.ml_plain.specs.Directory.{IsList, held_kinds}
use Rattle.ml_plain.specs.Plain.{Plain}
use Rattle.ml_plain.specs.Timing.{give_back}
use Rattle.ml_acts.specs.Doing.{is_of_queue}

-- What giving back the post of a ticket answers if there is room for so many bytes: how many its message has, and puts by which the files
-- stand for the list that gave it back. None if it has more bytes, or isn't there.
abbrev pub GivesBack : Dir → ℕ → ℕ → ℕ → Plain → Option (ℕ × List Put) → Type 0
GivesBack dir now ticket room p None = (held : Held) → held_post ticket p.held ≡ Some held → room < length held.message
GivesBack dir now ticket room p (Some r) =
    (held : Held) × (held_post ticket p.held ≡ Some held) × (r.0 ≡ length held.message) × IsList (with_puts dir r.1) (give_back now p (record { number = ticket; thing = held }))

-- the puts of such an answer
abbrev pub puts_given : Option (ℕ × List Put) → List Put
puts_given None = []
puts_given (Some r) = r.1

-- the files that giving posts back changes: held posts and the queue
abbrev pub is_given : Name → Bool
is_given name = held_kinds name.kind || is_of_queue name

-- What follows a verdict.
use Rattle.std.specs.Prelude.{◌≡◌, ℕ, Bool, not, ◌&&◌, ◌||◌, Option, Some}
use Rattle.ml_base.specs.Bytes.{Text}
use Rattle.ml_base.specs.declared.names.Name.{Name}
use Rattle.ml_config.specs.declared.configuration.Config.{Config}
use Rattle.ml_plain.specs.Answers as answers
use Rattle.ml_post.specs.Outcomes.{Outcome}
use Rattle.ml_post.specs.Outcomes as fates
use Rattle.ml_post.specs.declared.verdicts.Verdict.{Verdict as Found}
use Rattle.ml_post.specs.declared.verdicts.Verdict.TheVariants as found
use Rattle.ml_post.specs.declared.verdict_table.Judged.{Judged}
use Rattle.ml_post.specs.declared.verdict_table.Judged.TheVariants as judged
use Rattle.ml_post.specs.Holding.{is_held_by}
use Rattle.ml_post.specs.Judging.{is_judged_by}
use Rattle.ml_post.specs.Publishing.{is_published_by}

-- what follows each row of the table
abbrev pub outcome_of : Found → Outcome
outcome_of found.TooBig = fates.Refused answers.toobig
outcome_of found.BounceSender = fates.Refused answers.nosender
outcome_of found.Looped = fates.Refused answers.looped
outcome_of found.Denied = fates.Refused answers.denied
outcome_of found.NoSubject = fates.Refused answers.nosubject
outcome_of found.CommandSubject = fates.Refused answers.command
outcome_of found.NotAddressed = fates.Refused answers.notaddressed
outcome_of found.UsersOnly = fates.Refused answers.usersonly
outcome_of found.Held = fates.Held
outcome_of found.Full = fates.Refused answers.full
outcome_of found.Posted = fates.Posted

-- the code of the reply that tells a verdict
abbrev pub code_of : Found → ℕ
code_of found.TooBig = (answers.toobig).code
code_of found.BounceSender = (answers.nosender).code
code_of found.Looped = (answers.looped).code
code_of found.Denied = (answers.denied).code
code_of found.NoSubject = (answers.nosubject).code
code_of found.CommandSubject = (answers.command).code
code_of found.NotAddressed = (answers.notaddressed).code
code_of found.UsersOnly = (answers.usersonly).code
code_of found.Held = (answers.held 0).code
code_of found.Full = (answers.full).code
code_of found.Posted = (answers.posted 0).code

-- what was found of a post tells its sender's address, if there is one: the post is refused with the reply of its verdict, or is of this sender
abbrev pub TellsSender : Option Text → Judged → Type 0
TellsSender sender (judged.Refused v) = outcome_of v ≡ fates.Refused (answers.plain (code_of v))
TellsSender sender (judged.Held who) = sender ≡ Some who
TellsSender sender (judged.Posted who count) = sender ≡ Some who

-- the files that a post may read: those of its verdict, and if posts wait for the moderators those that holding it reads,
-- otherwise those that taking it reads
abbrev pub is_posted_by : Config → Text → Name → Bool
is_posted_by c sender name = is_judged_by c sender name || (c.flags.m && is_held_by name) || (not c.flags.m && is_published_by name)

-- The verdict on a post, and the files that tell it.
use Rattle.std.specs.Prelude.{Bool, true, false, not, ◌&&◌, ◌||◌, [], ◌∷◌}
use Rattle.ml_base.specs.Bytes.{Text, lower, is_empty}
use Rattle.ml_base.specs.Dir.{same_name}
use Rattle.ml_base.specs.declared.names.Name.{Name}
use Rattle.ml_base.specs.declared.names.Set.TheVariants as sets
use Rattle.ml_filing.specs.Archive.{number_name}
use Rattle.ml_config.specs.declared.configuration.Config.{Config}
use Rattle.ml_filing.specs.Subjects.{subject}
use Rattle.ml_plain.specs.Plain.{Plain, is_in, is_archive_full, first_row}
use Rattle.ml_plain.specs.Verdicts.{is_command, is_addressed, is_user, Verdict, TooBig, BounceSender, Looped, Denied, NoSubject, CommandSubject, NotAddressed, UsersOnly, Held, Full, Posted}
use Rattle.ml_acts.specs.Doing.{is_bucket_of}
use Rattle.ml_post.specs.declared.verdicts.Verdict.{Verdict as Found}
use Rattle.ml_post.specs.declared.verdicts.Verdict.TheVariants as found
use Rattle.ml_post.specs.declared.verdict_table.Judged.{Judged}
use Rattle.ml_post.specs.declared.verdict_table.Judged.TheVariants as judged

-- the row of the table that was found
abbrev pub row_of : Found → Verdict
row_of found.TooBig = TooBig
row_of found.BounceSender = BounceSender
row_of found.Looped = Looped
row_of found.Denied = Denied
row_of found.NoSubject = NoSubject
row_of found.CommandSubject = CommandSubject
row_of found.NotAddressed = NotAddressed
row_of found.UsersOnly = UsersOnly
row_of found.Held = Held
row_of found.Full = Full
row_of found.Posted = Posted

-- the verdict that was found
abbrev pub verdict_of : Judged → Found
verdict_of (judged.Refused v) = v
verdict_of (judged.Held who) = found.Held
verdict_of (judged.Posted who count) = found.Posted

-- the verdict on a post for which no earlier row holds: first by the archive and moderation, then by the sender as a user, by the text, and by
-- the sender in the deny list
abbrev pub of_room : Plain → Verdict
of_room p = first_row ((p.config.flags.m, Held) ∷ (is_archive_full p, Full) ∷ []) Posted

abbrev pub of_user : Plain → Text → Verdict
of_user p who = first_row ((p.config.flags.u && not (is_user p who), UsersOnly) ∷ []) (of_room p)

abbrev pub of_text : Plain → Text → Text → Verdict
of_text p who m =
    first_row ((is_empty (subject m), NoSubject) ∷ (is_command (lower (subject m)), CommandSubject) ∷ (not (is_addressed p.config m), NotAddressed) ∷ []) (of_user p who)

abbrev pub of_sender : Plain → Text → Text → Verdict
of_sender p who m = first_row ((p.config.flags.k && is_in p sets.Deny who, Denied) ∷ []) (of_text p who m)

-- the files of the four sets whose members are users
abbrev pub is_of_user : Text → Name → Bool
is_of_user who name = is_bucket_of sets.List who name || is_bucket_of sets.Digest who name || is_bucket_of sets.Allow who name || is_bucket_of sets.Moderators who name

-- whether this can be the verdict on a post, by whether posts wait for the moderators: it is held only if they do, and full or posted only if
-- they don't
abbrev pub may_be_found : Bool → Found → Bool
may_be_found moderated found.Held = moderated
may_be_found moderated found.Full = not moderated
may_be_found moderated found.Posted = not moderated
may_be_found moderated _ = true

-- whether a verdict refuses a post whatever room there is
abbrev pub is_refusal : Found → Bool
is_refusal found.Held = false
is_refusal found.Full = false
is_refusal found.Posted = false
is_refusal _ = true

-- the files that a verdict may read: the sender's in the deny list if there is one, his in the users' sets if only users may post, and the
-- number of posts if posts don't wait for the moderators
abbrev pub is_judged_by : Config → Text → Name → Bool
is_judged_by c sender name = (c.flags.k && is_bucket_of sets.Deny sender name) || (c.flags.u && is_of_user sender name) || (not c.flags.m && same_name name number_name)

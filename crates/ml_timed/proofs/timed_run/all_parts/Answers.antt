use Rattle.std.proofs.Common.{◌&&◌, ◌∙◌, IfOk, subst, rules}
use Rattle.ml_base.specs.Dir.{Dir, with_puts}
use Rattle.ml_base.specs.Layers.{files_below, puts_over}
use Rattle.ml_base.specs.declared.names.Name.{Name}
use Rattle.ml_plain.specs.Timing.{give_old_back as gone_back, make_digest as made}
use Rattle.ml_acts.specs.Doing.{HasIdsUpTo}
use Rattle.ml_acts.proofs.Apart.{alike_fewer}
use Rattle.ml_acts.proofs.Damages.{ok_then}
use Rattle.ml_timed.specs.Digesting.{AgreesIfRead}
use Rattle.ml_timed.specs.Reads.{is_of_following, is_of_giving_back, is_seen_in_digesting, is_seen_in_timed}
use Rattle.ml_timed.proofs.Apart.{alike_kept, digested_read, digested_timed, followed_read, followed_timed, given_read, given_timed}
use Rattle.ml_timed.proofs.Given.{agrees_begun, given_time, undigested_begun}
use Rattle.ml_timed.proofs.Issued.{back_config, made_config}
use Rattle.ml_timed.proofs.Runs.{always}
use Rattle.ml_timed.proofs.Within.{following_other, giving_other}
use Rattle.ml_timed.specs.Found.{FoundInLayer}
use Rattle.ml_timed.proofs.Finding.{followed_time, found_parts}
use Rattle.ml_timed.proofs.Parts.{has_laid, laid_self, laid_then, laid_wider, part_after, part_err}
use Rattle.ml_timed.proofs.timed_run.all_parts.Goals as goal

pub returns-clause-apart : goal.returns-clause-apart
returns-clause-apart g c told =
    let first = c.give_old_back.new.files in
    let second = c.make_digest.new.files in
    let below = g.F.Files.map (files_below c.args.files.now) in
    let digests = c.args.config.now.flags.d in
    let one = g.met.F.Files.kept_map (files_below c.args.files.now) (files_below first) told c.give_old_back.ensures.part.reads.kept in
    let two = g.met.F.Files.kept_map (files_below first) (files_below second) told c.make_digest.ensures.part.reads.kept in
    ok_then c.follow_all_up.result
    (λ u value dir p alike is same.
    let seen = is_seen_in_timed digests in
    let digested = λ (name : Name). digests && is_seen_in_digesting name in
    let q = gone_back c.args.now.seconds p in
    let back = c.in_ok-give_old_back.ensures.apart told dir p (alike_fewer is_of_giving_back seen below dir (given_timed digests) alike) is same in
    let conf = back_config c.args.now.seconds p ∙ same in
    let next = c.in_ok-make_digest.ensures.apart told dir q (alike_kept digested below (g.F.Files.map (files_below first)) dir one (alike_fewer digested seen below dir (digested_timed digests) alike)) back conf in
    value dir (made c.args.now.seconds q) (alike_kept is_of_following below (g.F.Files.map (files_below second)) dir (two ∙ one) (alike_fewer is_of_following seen below dir (followed_timed digests) alike)) next
    (made_config c.args.now.seconds q ∙ conf))
    (c.follow_all_up.ensures.apart told)

pub returns-clause-room : goal.returns-clause-room
returns-clause-room g c told =
    let first = c.give_old_back.new.files in
    let second = c.make_digest.new.files in
    let one = g.met.F.Files.kept_map (files_below c.args.files.now) (files_below first) told c.give_old_back.ensures.part.reads.kept in
    let two = g.met.F.Files.kept_map (files_below first) (files_below second) told c.make_digest.ensures.part.reads.kept in
    subst (λ (d : Dir). IfOk c.follow_all_up.result (λ _. HasIdsUpTo (with_puts d (puts_over c.follow_all_up.new.files)) 1_000_000_000_000_001)) (two ∙ one) (c.follow_all_up.ensures.room told)

pub returns-clause-agrees : goal.returns-clause-agrees
returns-clause-agrees g c told =
    let start = files_below c.args.files.now in
    let first = c.give_old_back.new.files in
    let dir = g.F.Files.map start in
    let one = g.met.F.Files.kept_map start (files_below first) told c.give_old_back.ensures.part.reads.kept in
    always c.follow_all_up.result
    (λ done on. agrees_begun dir (puts_over c.args.files.now) (puts_over first) c.give_old_back.ensures.part.grown (subst (λ (d : Dir). AgreesIfRead (with_puts d (puts_over first))) one (c.in_ok-make_digest.ensures.agrees told on)))

pub returns-clause-found : goal.returns-clause-found
returns-clause-found g c told =
    let start = files_below c.args.files.now in
    let first = c.give_old_back.new.files in
    let second = c.make_digest.new.files in
    let one = g.met.F.Files.kept_map start (files_below first) told c.give_old_back.ensures.part.reads.kept in
    let made = subst (λ (d : Dir). FoundInLayer d (puts_over first) (puts_over second)) one (c.in_ok-make_digest.ensures.found told) in
    always c.follow_all_up.result
    (λ done. found_parts (g.F.Files.map start) (puts_over c.args.files.now) (puts_over first) (puts_over second) (puts_over c.follow_all_up.new.files) c.give_old_back.ensures.part.grown made c.follow_all_up.ensures.part.grown)

pub returns-in_err-give_old_back-clause-part : goal.returns-in_err-give_old_back-clause-part
returns-in_err-give_old_back-clause-part g c =
    part_err (part_after g.met.F.Files.kept_then g.met.F.Files.kept_map (laid_self g.F.Files g.met.F.Files.kept_self c.args.files.now) c.in_err-give_old_back.ensures.part given_time (given_read c.args.config.now.flags.d)
    (λ name e bad. record { damaged = bad; own = λ of. absurd (giving_other name e of) })) (search rules)

pub returns-in_err-make_digest-clause-part : goal.returns-in_err-make_digest-clause-part
returns-in_err-make_digest-clause-part g c =
    let dir = g.F.Files.map (files_below c.args.files.now) in
    let given = c.give_old_back.ensures.part in
    part_err (part_after g.met.F.Files.kept_then g.met.F.Files.kept_map (laid_wider given_time (has_laid given)) c.in_err-make_digest.ensures.part (λ name e. e) (digested_read c.args.config.now.flags.d)
    (λ name e bad. record { damaged = bad.damaged; own = λ of. undigested_begun dir (puts_over c.args.files.now) (puts_over c.give_old_back.new.files) given.grown name (bad.own of) })) (search rules)

pub returns-clause-part : goal.returns-clause-part
returns-clause-part g c =
    part_after g.met.F.Files.kept_then g.met.F.Files.kept_map (laid_then g.met.F.Files.kept_then g.met.F.Files.kept_map (laid_wider given_time (has_laid c.give_old_back.ensures.part)) (has_laid c.make_digest.ensures.part)) c.follow_all_up.ensures.part followed_time
    (followed_read c.args.config.now.flags.d) (λ name e bad. record { damaged = bad; own = λ of. absurd (following_other name e of) })

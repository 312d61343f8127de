use Rattle.std.proofs.Common.{◌≡◌, ◌<◌, true, ◌∙◌, ◌-◌, ℕ, List, refl, sym, ap₂, subst, arith, rules}
use Rattle.ml_base.specs.Dir.{Dir, with_puts}
use Rattle.ml_base.specs.Drawn.{IsCounter}
use Rattle.ml_base.specs.Layers.{files_below, puts_over}
use Rattle.ml_base.specs.declared.names.Name.{Name}
use Rattle.ml_base.specs.declared.puts.Put.{Put}
use Rattle.std.proofs.lemmas.Result.{IfOk-weaker}
use Rattle.ml_plain.specs.Answers as answers
use Rattle.ml_plain.specs.Directory.{IsList}
use Rattle.ml_plain.specs.Timing.{after_timed}
use Rattle.ml_queue.specs.Answers.{Breaks, ids_name}
use Rattle.ml_acts.specs.Damaged.{queued}
use Rattle.ml_acts.proofs.Asked.{other_name}
use Rattle.ml_timed.specs.Digesting.{AgreesIfRead, IsDamagedInRun}
use Rattle.ml_timed.specs.Parts.{over}
use Rattle.ml_timed.specs.Reads.{is_of_timed, is_seen_in_timed}
use Rattle.ml_timed.proofs.Apart.{alike_kept, next_there}
use Rattle.ml_timed.proofs.Runs.{always, counter_named, counter_reads}
use Rattle.ml_timed.proofs.Finding.{found_run_so}
use Rattle.ml_timed.proofs.Parts.{has_laid, laid_none, laid_self, laid_then, only_read, part_after, part_err, part_read}
use Rattle.ml_timed.proofs.timed_run.run.Goals as goal

pub returns-clause-list : goal.returns-clause-list
returns-clause-list g c told =
    let start = files_below c.args.files.now in
    let first = c.next_id.new.files in
    let one = g.met.F.Files.kept_map start (files_below first) told c.next_id.ensures.reads.kept.0 in
    always c.reply_of_run.result (λ reply dir p alike is same.
    let begun = subst (λ (t : List Put). IsList (with_puts dir t) p) (sym c.next_id.ensures.reads.kept.1) is in
    let seen = alike_kept (is_seen_in_timed c.args.config.now.flags.d) (g.F.Files.map start) (g.F.Files.map (files_below first)) dir one alike in
    subst (λ (t : List Put). IsList (with_puts dir t) (after_timed c.args.now.seconds p)) (sym c.next_id-2.ensures.reads.kept.1) (c.in_ok-all_parts.ensures.apart told dir p seen begun same))

pub returns-clause-reply : goal.returns-clause-reply
returns-clause-reply g c told =
    let start = files_below c.args.files.now in
    let first = c.next_id.new.files in
    let last = c.all_parts.new.files in
    let digests = c.args.config.now.flags.d in
    let below = g.F.Files.map start in
    let one = g.met.F.Files.kept_map start (files_below first) told c.next_id.ensures.reads.kept.0 in
    let two = g.met.F.Files.kept_map (files_below first) (files_below last) told c.all_parts.ensures.part.reads.kept ∙ one in
    IfOk-weaker c.reply_of_run.result _ _ (λ reply e dir p alike is same.
    let begun = subst (λ (t : List Put). IsList (with_puts dir t) p) (sym c.next_id.ensures.reads.kept.1) is in
    let seen = alike_kept (is_seen_in_timed digests) below (g.F.Files.map (files_below first)) dir one alike in
    let ended = c.in_ok-all_parts.ensures.apart told dir p seen begun same in
    let before = next_there digests below dir alike below (puts_over c.args.files.now) p c.in_ok-before.before refl is (c.in_ok-before.ensures.read told) in
    let after = next_there digests below dir alike (g.F.Files.map (files_below last)) (puts_over last) (after_timed c.args.now.seconds p) c.in_ok-after.after two ended (c.in_ok-after.ensures.read told) in
    e ∙ ap₂ (λ (a b : ℕ). answers.timed (a - b)) after before)
    c.reply_of_run.ensures.value

pub returns-clause-agrees : goal.returns-clause-agrees
returns-clause-agrees g c told =
    let start = files_below c.args.files.now in
    let first = c.next_id.new.files in
    let one = g.met.F.Files.kept_map start (files_below first) told c.next_id.ensures.reads.kept.0 in
    always c.reply_of_run.result
    (λ reply on. subst (λ (t : List Put). AgreesIfRead (with_puts (g.F.Files.map start) t)) c.next_id.ensures.reads.kept.1
    (subst (λ (d : Dir). AgreesIfRead (with_puts d (puts_over first))) one (c.in_ok-all_parts.ensures.agrees told on)))

pub returns-clause-found : goal.returns-clause-found
returns-clause-found g c told =
    let start = files_below c.args.files.now in
    let first = c.next_id.new.files in
    let one = g.met.F.Files.kept_map start (files_below first) told c.next_id.ensures.reads.kept.0 in
    always c.reply_of_run.result
    (λ reply. found_run_so _ (g.F.Files.map start) _ (puts_over c.args.files.now) _ (puts_over c.next_id-2.new.files) one c.next_id.ensures.reads.kept.1 (sym c.next_id-2.ensures.reads.kept.1) (c.in_ok-all_parts.ensures.found told))

pub returns-in_err-before-clause-part : goal.returns-in_err-before-clause-part
returns-in_err-before-clause-part g c =
    let first = only_read g.F.Files c.args.files.now c.next_id.new.files c.next_id.ensures.reads.kept c.next_id.ensures.reads.later in
    part_err (part_read Breaks g.met.F.Files.kept_then g.met.F.Files.kept_map (laid_self g.F.Files g.met.F.Files.kept_self c.args.files.now) first c.in_err-before.ensures.reads.cause (λ t. t) c.in_err-before.ensures.names (λ name is. subst (λ (a : Name). is_of_timed c.args.config.now.flags.d a ≡ true) (sym is) refl)
    (λ name is bad. record { damaged = queued bad; own = λ of. absurd (other_name name ids_name refl is of) })) (search rules)

pub returns-in_err-all_parts-clause-part : goal.returns-in_err-all_parts-clause-part
returns-in_err-all_parts-clause-part g c =
    let first = only_read g.F.Files c.args.files.now c.next_id.new.files c.next_id.ensures.reads.kept c.next_id.ensures.reads.later in
    let dir = g.F.Files.map (files_below c.args.files.now) in
    part_err (part_after g.met.F.Files.kept_then g.met.F.Files.kept_map (laid_none first) c.in_err-all_parts.ensures.part (λ name e. e) (λ name e. e)
    (λ name e bad. subst (λ (t : List Put). IsDamagedInRun (with_puts dir t) (with_puts dir (puts_over c.all_parts.new.files)) name) first.same bad)) (search rules)

pub returns-in_err-after-clause-part : goal.returns-in_err-after-clause-part
returns-in_err-after-clause-part g c =
    let first = only_read g.F.Files c.args.files.now c.next_id.new.files c.next_id.ensures.reads.kept c.next_id.ensures.reads.later in
    let last = only_read g.F.Files c.all_parts.new.files c.next_id-2.new.files c.next_id-2.ensures.reads.kept c.next_id-2.ensures.reads.later in
    part_err (part_read Breaks g.met.F.Files.kept_then g.met.F.Files.kept_map (laid_then g.met.F.Files.kept_then g.met.F.Files.kept_map (laid_none first) (has_laid c.all_parts.ensures.part)) last c.in_err-after.ensures.reads.cause (λ t. t) c.in_err-after.ensures.names (λ name is. subst (λ (a : Name). is_of_timed c.args.config.now.flags.d a ≡ true) (sym is) refl)
    (λ name is bad. record { damaged = queued bad; own = λ of. absurd (other_name name ids_name refl is of) })) (search rules)

pub returns-clause-part : goal.returns-clause-part
returns-clause-part g c =
    let first = only_read g.F.Files c.args.files.now c.next_id.new.files c.next_id.ensures.reads.kept c.next_id.ensures.reads.later in
    let last = only_read g.F.Files c.all_parts.new.files c.next_id-2.new.files c.next_id-2.ensures.reads.kept c.next_id-2.ensures.reads.later in
    let laid = laid_then g.met.F.Files.kept_then g.met.F.Files.kept_map (laid_then g.met.F.Files.kept_then g.met.F.Files.kept_map (laid_none first) (has_laid c.all_parts.ensures.part)) (laid_none last) in
    let names = counter_named g.F.Files c.reply_of_run.result (1_000_000_000_000_000 < c.in_ok-after.after - c.in_ok-before.before) c.reply_of_run.ensures.error (λ name. is_of_timed c.args.config.now.flags.d name ≡ true)
    (IsDamagedInRun (over g.F.Files c.args.files.now c.args.files.now) (over g.F.Files c.args.files.now c.next_id-2.new.files)) refl
    (λ told far.
    let first = files_below c.next_id.new.files in
    let last = files_below c.all_parts.new.files in
    let puts = puts_over c.all_parts.new.files in
    let before = c.in_ok-before.ensures.read told in
    let after = c.in_ok-after.ensures.read told in
    let room = c.in_ok-all_parts.ensures.room told in
    let most = room after.0 c.in_ok-after.after (subst (λ (d : Dir). IsCounter (with_puts d puts ids_name) after.0 c.in_ok-after.after) (g.met.F.Files.kept_map first last told c.all_parts.ensures.part.reads.kept) after.1) in
    let one = before.1.from_one in
    let next = before.1.up_to_next in
    omega (arith, far, most, one, next)) in
    record {
      grown = laid.grown;
      harmless = laid.harmless;
      names = names;
      reads = counter_reads g.F.Files c.reply_of_run.result (1_000_000_000_000_000 < c.in_ok-after.after - c.in_ok-before.before) c.reply_of_run.ensures.error (files_below c.args.files.now) (files_below c.next_id-2.new.files) laid.read;
    }

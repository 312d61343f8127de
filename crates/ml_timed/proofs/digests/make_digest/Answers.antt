use Rattle.std.proofs.Common.{◌≡◌, ◌∙◌, ◌++◌, true, List, ap, sym, subst, rules, inl, refl, []}
use Rattle.std.proofs.lemmas.Bool.{and_from}
use Rattle.ml_base.specs.Dir.{Dir, with_puts}
use Rattle.ml_base.specs.Layers.{files_below, puts_over}
use Rattle.ml_base.specs.declared.puts.Put.{Put}
use Rattle.ml_config.specs.declared.configuration.Config.{Config}
use Rattle.ml_plain.specs.Directory.{IsList}
use Rattle.ml_plain.specs.Timing.{digest_due, issue}
use Rattle.ml_acts.specs.Asked.{IsBadFor, IsDamagedOf, Undigested}
use Rattle.ml_acts.specs.Doing.{HasIdsUpTo}
use Rattle.ml_timed.specs.Parts.{over}
use Rattle.ml_timed.specs.Reads.{is_of_digesting, is_seen_in_digesting}
use Rattle.ml_timed.proofs.Apart.{alike_laid}
use Rattle.ml_timed.proofs.Issued.{digests}
use Rattle.ml_timed.proofs.Layered.{laid_after}
use Rattle.std.proofs.lemmas.List.{append-nil}
use Rattle.ml_timed.proofs.Parts.{laid_none, laid_put, laid_self, only_read, part_err, part_memory, part_ok, part_read, read_still}
use Rattle.ml_timed.proofs.digests.make_digest.Goals as goal

pub returns-clause-apart : goal.returns-clause-apart
returns-clause-apart g c told dir p alike is same =
    let below = g.F.Files.map (files_below c.args.files.now) in
    let old = puts_over c.args.files.now in
    let puts : puts_over c.lay.new.self ≡ old ++ c.in_ok-txn.txn = c.in_ok-lay.ensures.ok ∙ ap (λ (t : List Put). t ++ c.in_ok-txn.txn) c.digest_due.ensures.reads.kept.1 in
    let on : c.args.config.now.flags.d ≡ true = search rules in
    digests (with_puts dir (puts_over c.lay.new.self)) c.args.now.seconds p (ap (λ (d : Config). d.flags.d) same ∙ on)
    (laid_after (λ d. IsList d (issue c.args.now.seconds p (digest_due c.args.now.seconds p))) dir old (puts_over c.lay.new.self) c.in_ok-txn.txn puts (c.in_ok-txn.ensures.apart told (with_puts dir old) p (alike_laid is_seen_in_digesting below dir old (λ name e. alike name (and_from c.args.config.now.flags.d (is_seen_in_digesting name) on e))) is same))

pub returns-clause-room : goal.returns-clause-room
returns-clause-room g c told =
    let dir = g.F.Files.map (files_below c.args.files.now) in
    let old = puts_over c.args.files.now in
    let puts : puts_over c.lay.new.self ≡ old ++ c.in_ok-txn.txn = c.in_ok-lay.ensures.ok ∙ ap (λ (t : List Put). t ++ c.in_ok-txn.txn) c.digest_due.ensures.reads.kept.1 in
    laid_after (λ d. HasIdsUpTo d 999_999_999_998_001) dir old (puts_over c.lay.new.self) c.in_ok-txn.txn puts (c.in_ok-txn.ensures.drawn told 999_999_999_998_000 (c.requires.room told))

pub returns-clause-agrees : goal.returns-clause-agrees
returns-clause-agrees g c told on = c.in_ok-txn.ensures.agrees told

pub returns-clause-found : goal.returns-clause-found
returns-clause-found g c told =
    let old = puts_over c.args.files.now in
    let puts : puts_over c.lay.new.self ≡ old ++ c.in_ok-txn.txn = c.in_ok-lay.ensures.ok ∙ ap (λ (t : List Put). t ++ c.in_ok-txn.txn) c.digest_due.ensures.reads.kept.1 in
    record { digest = c.in_ok-txn.txn; is = puts; made = c.in_ok-txn.ensures.found told }

pub returns-then-not-config-clause-found : goal.returns-then-not-config-clause-found
returns-then-not-config-clause-found g c told = record { digest = []; is = sym (append-nil (puts_over c.args.files.now)); made = inl refl }

pub returns-then-not-config-clause-part : goal.returns-then-not-config-clause-part
returns-then-not-config-clause-part g c = part_ok (laid_self g.F.Files g.met.F.Files.kept_self c.args.files.now)

pub returns-in_err-txn-clause-part : goal.returns-in_err-txn-clause-part
returns-in_err-txn-clause-part g c =
    let digests = c.args.config.now.flags.d in
    let on : digests ≡ true = search rules in
    let read = only_read g.F.Files c.args.files.now c.digest_due.new.files c.digest_due.ensures.reads.kept c.digest_due.ensures.reads.later in
    let same : over g.F.Files c.args.files.now c.digest_due.new.files ≡ over g.F.Files c.args.files.now c.args.files.now = ap (with_puts (g.F.Files.map (files_below c.args.files.now))) read.same in
    part_err (part_read (λ d. IsDamagedOf d Undigested) g.met.F.Files.kept_then g.met.F.Files.kept_map (laid_self g.F.Files g.met.F.Files.kept_self c.args.files.now) read c.in_err-txn.ensures.reads.cause (λ t. t) c.in_err-txn.ensures.names (λ name e. and_from digests (is_of_digesting name) on e)
    (λ name e bad. record { damaged = bad.damaged; own = λ of. subst (λ (d : Dir). IsBadFor d Undigested name) same (bad.own of) })) (search rules)

pub returns-in_err-lay-clause-part : goal.returns-in_err-lay-clause-part
returns-in_err-lay-clause-part g c =
    let read = only_read g.F.Files c.args.files.now c.digest_due.new.files c.digest_due.ensures.reads.kept c.digest_due.ensures.reads.later in
    part_memory (laid_none (read_still read c.in_err-lay.ensures.files c.in_err-lay.ensures.err)) (search rules)

pub returns-clause-part : goal.returns-clause-part
returns-clause-part g c =
    let read = only_read g.F.Files c.args.files.now c.digest_due.new.files c.digest_due.ensures.reads.kept c.digest_due.ensures.reads.later in
    part_ok (laid_put c.in_ok-txn.txn read c.in_ok-lay.ensures.files c.in_ok-lay.ensures.ok c.in_ok-txn.ensures.own c.in_ok-txn.ensures.files c.in_ok-txn.ensures.spelled)

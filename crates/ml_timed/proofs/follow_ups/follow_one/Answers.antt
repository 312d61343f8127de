use Rattle.std.proofs.Common.{◌∙◌, ◌++◌, List, ap, sym, subst, rules}
use Rattle.ml_base.specs.Dir.{Dir, with_puts}
use Rattle.ml_base.specs.Layers.{files_below, puts_over}
use Rattle.ml_base.specs.declared.puts.Put.{Put}
use Rattle.ml_plain.specs.Directory.{IsList}
use Rattle.ml_plain.specs.Timing.{follow_up}
use Rattle.ml_timed.specs.Ahead.{HasIdsFor}
use Rattle.ml_timed.specs.Reads.{is_followed_by}
use Rattle.ml_timed.proofs.Apart.{alike_laid}
use Rattle.ml_timed.proofs.Amid.{ids_next}
use Rattle.ml_timed.proofs.Layered.{laid_over}
use Rattle.ml_acts.specs.Damaged.{IsDamaged}
use Rattle.ml_timed.proofs.Parts.{laid_none, laid_put, laid_self, only_read, part_err, part_memory, part_ok, part_read, read_still}
use Rattle.ml_timed.proofs.follow_ups.follow_one.Goals as goal

pub returns-clause-apart : goal.returns-clause-apart
returns-clause-apart g c tells dir p e alike is config keys found act =
    let old = puts_over c.args.files.now in
    let over = laid_over dir (puts_over c.args.files.now) (puts_over c.lay.new.self) c.in_ok-txn.txn (c.in_ok-lay.ensures.ok ∙ ap (λ (t : List Put). t ++ c.in_ok-txn.txn) c.follow_up.ensures.reads.kept.1) in
    subst (λ (d : Dir). IsList d (follow_up c.args.now.seconds p (c.args.set, e))) (sym over) (c.in_ok-txn.ensures.apart tells (with_puts dir old) p e (alike_laid (is_followed_by c.args.set) (g.F.Files.map (files_below c.args.files.now)) dir old alike) is config keys found act)

pub returns-clause-drawn : goal.returns-clause-drawn
returns-clause-drawn g c tells more has =
    let below = g.F.Files.map (files_below c.args.files.now) in
    let over = laid_over below (puts_over c.args.files.now) (puts_over c.lay.new.self) c.in_ok-txn.txn (c.in_ok-lay.ensures.ok ∙ ap (λ (t : List Put). t ++ c.in_ok-txn.txn) c.follow_up.ensures.reads.kept.1) in
    subst (λ (d : Dir). HasIdsFor d more) (sym over) (ids_next (with_puts below (puts_over c.args.files.now)) c.in_ok-txn.txn more (c.in_ok-txn.ensures.drawn tells) has)

pub returns-in_err-txn-clause-part : goal.returns-in_err-txn-clause-part
returns-in_err-txn-clause-part g c =
    let read = only_read g.F.Files c.args.files.now c.follow_up.new.files c.follow_up.ensures.reads.kept c.follow_up.ensures.reads.later in
    part_err (part_read IsDamaged g.met.F.Files.kept_then g.met.F.Files.kept_map (laid_self g.F.Files g.met.F.Files.kept_self c.args.files.now) read c.in_err-txn.ensures.reads.cause (λ t. t) c.in_err-txn.ensures.names (λ name e. e) (λ name e bad. bad)) (search rules)

pub returns-in_err-lay-clause-part : goal.returns-in_err-lay-clause-part
returns-in_err-lay-clause-part g c =
    let read = only_read g.F.Files c.args.files.now c.follow_up.new.files c.follow_up.ensures.reads.kept c.follow_up.ensures.reads.later in
    part_memory (laid_none (read_still read c.in_err-lay.ensures.files c.in_err-lay.ensures.err)) (search rules)

pub returns-clause-part : goal.returns-clause-part
returns-clause-part g c =
    let read = only_read g.F.Files c.args.files.now c.follow_up.new.files c.follow_up.ensures.reads.kept c.follow_up.ensures.reads.later in
    part_ok (laid_put c.in_ok-txn.txn read c.in_ok-lay.ensures.files c.in_ok-lay.ensures.ok c.in_ok-txn.ensures.own c.in_ok-txn.ensures.files (λ tells. (c.in_ok-txn.ensures.drawn tells).spelled))

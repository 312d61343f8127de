use Rattle.std.proofs.Common.{◌≡◌, ◌+◌, ◌-◌, ℕ, true, List, Option, ◌++◌, drop, take, get_or, refl, sym, ap, ◌∙◌, subst, arith, IsTrue, IfSome, ◌≤◌, rules}
use Rattle.ml_base.specs.Dir.{Dir, are_files, touches_only, with_puts}
use Rattle.ml_base.specs.Layers.{files_below, puts_over}
use Rattle.ml_base.specs.declared.puts.Put.{Put}
use Rattle.ml_hold.specs.Answers.{BreaksCounted}
use Rattle.ml_hold.proofs.OfFiles.{counted}
use Rattle.ml_plain.specs.Directory.{IsList}
use Rattle.ml_plain.specs.Timing.{give_old_back as gone_back}
use Rattle.ml_acts.specs.Doing.{HasIdsUpTo}
use Rattle.ml_acts.specs.Damaged.{IsDamaged}
use Rattle.ml_acts.specs.Spelled.{AreSpelled}
use Rattle.ml_timed.specs.Giving.{GivesBack, is_given, puts_given}
use Rattle.ml_timed.specs.Parts.{over}
use Rattle.ml_timed.specs.Reads.{is_of_giving_back}
use Rattle.ml_timed.proofs.Apart.{alike_over, pending_begun}
use Rattle.ml_timed.proofs.Given.{breaks_held, held_read}
use Rattle.ml_timed.proofs.Layered.{laid_after}
use Rattle.ml_timed.proofs.Older.{GoesOn, ends_at, found_all, goes_begin, goes_on_at, stops_at}
use Rattle.ml_timed.proofs.Parts.{laid_none, laid_put, laid_self, laid_then, only_read, part_err, part_memory, part_ok, part_read, read_still}
use Rattle.ml_timed.proofs.returned_posts.give_old_back.Goals as goal

pub loop-ticket-init : goal.loop-ticket-init
loop-ticket-init g c =
    let files = c.args.files.now in
    let kept = c.older.ensures.reads.kept in
    record {
      laid = laid_none (only_read g.F.Files files c.older.new.files kept c.older.ensures.reads.later);
      ids = λ told. subst (λ (t : List Put). HasIdsUpTo (with_puts (g.F.Files.map (files_below files)) t) 999_999_999_997_000) (sym kept.1) (c.requires.room told);
      goes = λ told dir p alike is same.
          subst (λ (t : List Put). GoesOn c.args.now.seconds c.args.config.now (with_puts dir t) (take c.min.result c.as_slice-all.result.now) 33_554_432 (gone_back c.args.now.seconds p)) (sym kept.1)
          (goes_begin c.args.now.seconds c.args.config.now (with_puts dir (puts_over files)) p (take c.min.result c.as_slice-all.result.now) is same
          (found_all c.args.now.seconds p.held c.in_ok-found.found c.as_slice-all.result.now c.min.result c.as_slice-all.ensures
          (c.in_ok-found.ensures.value told p.held (counted (with_puts (g.F.Files.map (files_below files)) (puts_over files)) p.held (pending_begun (g.F.Files.map (files_below files)) dir alike (puts_over files) p.held is.held))) c.min.ensures));
    }

pub returns-clause-apart : goal.returns-clause-apart
returns-clause-apart g c told dir p alike is same =
    ends_at c.args.now.seconds c.args.config.now (with_puts dir (puts_over c.loop-ticket.files)) (take c.min.result c.as_slice-all.result.now) c.loop-ticket.ticket-index c.loop-ticket.room (gone_back c.args.now.seconds p)
    c.loop-ticket-test.false (c.loop-ticket.invariant.goes told dir p alike is same)

pub returns-in_default-clause-apart : goal.returns-in_default-clause-apart
returns-in_default-clause-apart g c told dir p alike is same =
    let start = g.F.Files.map (files_below c.args.files.now) in
    let files = c.loop-ticket.files in
    let map_same = g.met.F.Files.kept_map (files_below c.args.files.now) (files_below files) told c.loop-ticket.invariant.laid.read.kept in
    let tickets = take c.min.result c.as_slice-all.result.now in
    let ticket = get_or tickets c.loop-ticket.ticket-index 0 in
    subst (λ (t : List Put). IsList (with_puts dir t) (gone_back c.args.now.seconds p)) (sym c.expire.ensures.reads.kept.1)
    (stops_at c.args.now.seconds c.args.config.now (with_puts dir (puts_over files)) tickets c.loop-ticket.ticket-index ticket c.loop-ticket.room (gone_back c.args.now.seconds p) c.loop-ticket-test.true refl
    (c.loop-ticket.invariant.goes told dir p alike is same)
    (λ q on conf. subst (λ (o : Option (ℕ × List Put)). GivesBack (with_puts dir (puts_over files)) c.args.now.seconds ticket c.loop-ticket.room q o) c.in_default.is
    (c.in_ok-size.ensures.apart told (with_puts dir (puts_over files)) q (alike_over is_of_giving_back start (g.F.Files.map (files_below files)) dir (puts_over files) map_same alike) on conf)))

pub loop-ticket-preserved : goal.loop-ticket-preserved
loop-ticket-preserved g c =
    let start = files_below c.args.files.now in
    let dir = g.F.Files.map start in
    let files = c.loop-ticket.files in
    let before = c.loop-ticket.invariant in
    let after = c.lay.new.self in
    let read = only_read g.F.Files files c.expire.new.files c.expire.ensures.reads.kept c.expire.ensures.reads.later in
    let tickets = take c.min.result c.as_slice-all.result.now in
    let at = c.loop-ticket.ticket-index in
    let ticket = get_or tickets at 0 in
    let puts : puts_over after ≡ puts_over files ++ c.in-Some.txn = c.in_ok-lay.ensures.ok ∙ ap (λ (t : List Put). t ++ c.in-Some.txn) c.expire.ensures.reads.kept.1 in
    let own = subst (λ (o : Option (ℕ × List Put)). touches_only is_given (puts_given o) ≡ true) c.in-Some.is c.in_ok-size.ensures.own in
    let named = subst (λ (o : Option (ℕ × List Put)). IsTrue (are_files (puts_given o))) c.in-Some.is c.in_ok-size.ensures.files in
    let fits = subst (λ (o : Option (ℕ × List Put)). IfSome o (λ r. r.0 ≤ c.loop-ticket.room)) c.in-Some.is c.in_ok-size.ensures.fits in
    record {
      laid = laid_then g.met.F.Files.kept_then g.met.F.Files.kept_map before.laid (laid_put c.in-Some.txn read c.in_ok-lay.ensures.files c.in_ok-lay.ensures.ok own named
          (λ told. subst (λ (o : Option (ℕ × List Put)). AreSpelled (over g.F.Files files files) (puts_given o)) c.in-Some.is (c.in_ok-size.ensures.spelled told)));
      ids = λ told.
          let map_same = g.met.F.Files.kept_map start (files_below files) told before.laid.read.kept in
          let most = 999_999_999_997_000 + at in
          let one : most + 1 ≡ 999_999_999_997_000 + (at + 1) = omega arith in
          let drawn = subst (λ (o : Option (ℕ × List Put)). (most : ℕ) → HasIdsUpTo (with_puts (g.F.Files.map (files_below files)) (puts_over files)) most
          → HasIdsUpTo (with_puts (with_puts (g.F.Files.map (files_below files)) (puts_over files)) (puts_given o)) (most + 1)) c.in-Some.is (c.in_ok-size.ensures.drawn told) in
          let here = subst (λ (d : Dir). HasIdsUpTo (with_puts d (puts_over files)) most → HasIdsUpTo (with_puts (with_puts d (puts_over files)) c.in-Some.txn) (most + 1)) map_same (drawn most) in
          subst (λ n. HasIdsUpTo (with_puts dir (puts_over after)) n) one
          (laid_after (λ d. HasIdsUpTo d (most + 1)) dir (puts_over files) (puts_over after) c.in-Some.txn puts (here (before.ids told)));
      goes = λ told there p alike is same.
          let map_same = g.met.F.Files.kept_map start (files_below files) told before.laid.read.kept in
          laid_after (λ d. GoesOn c.args.now.seconds c.args.config.now d (drop (at + 1) tickets) (c.loop-ticket.room - c.in-Some.size) (gone_back c.args.now.seconds p)) there (puts_over files) (puts_over after) c.in-Some.txn puts
          (goes_on_at c.args.now.seconds c.args.config.now (with_puts there (puts_over files)) tickets at ticket c.loop-ticket.room (gone_back c.args.now.seconds p) c.loop-ticket-test.true refl c.in-Some.size c.in-Some.txn
          (before.goes told there p alike is same)
          (λ q on conf. subst (λ (o : Option (ℕ × List Put)). GivesBack (with_puts there (puts_over files)) c.args.now.seconds ticket c.loop-ticket.room q o) c.in-Some.is
          (c.in_ok-size.ensures.apart told (with_puts there (puts_over files)) q (alike_over is_of_giving_back dir (g.F.Files.map (files_below files)) there (puts_over files) map_same alike) on conf))
          fits);
    }

pub returns-in_err-found-clause-part : goal.returns-in_err-found-clause-part
returns-in_err-found-clause-part g c =
    let read = only_read g.F.Files c.args.files.now c.older.new.files c.older.ensures.reads.kept c.older.ensures.reads.later in
    part_err (part_read BreaksCounted g.met.F.Files.kept_then g.met.F.Files.kept_map (laid_self g.F.Files g.met.F.Files.kept_self c.args.files.now) read c.in_err-found.ensures.reads.cause (λ t. t) c.in_err-found.ensures.names held_read (λ name is bad. breaks_held _ name bad)) (search rules)

pub returns-in_err-size-clause-part : goal.returns-in_err-size-clause-part
returns-in_err-size-clause-part g c =
    let read = only_read g.F.Files c.loop-ticket.files c.expire.new.files c.expire.ensures.reads.kept c.expire.ensures.reads.later in
    part_err (part_read IsDamaged g.met.F.Files.kept_then g.met.F.Files.kept_map c.loop-ticket.invariant.laid read c.in_err-size.ensures.reads.cause (λ t. t) c.in_err-size.ensures.names (λ name e. e) (λ name e bad. bad)) (search rules)

pub returns-in_default-clause-part : goal.returns-in_default-clause-part
returns-in_default-clause-part g c =
    let read = only_read g.F.Files c.loop-ticket.files c.expire.new.files c.expire.ensures.reads.kept c.expire.ensures.reads.later in
    part_ok (laid_then g.met.F.Files.kept_then g.met.F.Files.kept_map c.loop-ticket.invariant.laid (laid_none read))

pub returns-in_err-lay-clause-part : goal.returns-in_err-lay-clause-part
returns-in_err-lay-clause-part g c =
    let read = only_read g.F.Files c.loop-ticket.files c.expire.new.files c.expire.ensures.reads.kept c.expire.ensures.reads.later in
    part_memory (laid_then g.met.F.Files.kept_then g.met.F.Files.kept_map c.loop-ticket.invariant.laid (laid_none (read_still read c.in_err-lay.ensures.files c.in_err-lay.ensures.err))) (search rules)

pub returns-clause-part : goal.returns-clause-part
returns-clause-part g c = part_ok c.loop-ticket.invariant.laid

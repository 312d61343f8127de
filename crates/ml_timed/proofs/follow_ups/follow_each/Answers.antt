use Rattle.std.proofs.Common.{◌+◌, ◌-◌, ℕ, length, take, drop, refl, sym, ap, subst, arith, rules}
use Rattle.ml_base.specs.Dir.{Dir, with_puts}
use Rattle.ml_base.specs.Layers.{files_below, puts_over}
use Rattle.ml_rows.proofs.RowLaws.{first_of}
use Rattle.ml_acts.specs.Doing.{HasIds}
use Rattle.ml_timed.specs.Ahead.{HasIdsFor}
use Rattle.ml_timed.specs.Reads.{is_followed_by}
use Rattle.ml_timed.proofs.Apart.{alike_kept}
use Rattle.ml_timed.proofs.Amid.{amid_last, amid_next, ids_first, ids_more, none_left}
use Rattle.ml_timed.proofs.Parts.{has_laid, laid_self, laid_then, part_after, part_err, part_ok}
use Rattle.ml_timed.proofs.follow_ups.follow_each.Goals as goal

pub follow_one-requires-clause-room : goal.follow_one-requires-clause-room
follow_one-requires-clause-room g c tells =
    let same = g.met.F.Files.kept_map (files_below c.args.files.now) (files_below c.loop-rest.files) tells c.loop-rest.invariant.laid.read.kept in
    let dir = with_puts (g.F.Files.map (files_below c.args.files.now)) (puts_over c.loop-rest.files) in
    let ids = c.loop-rest.invariant.ids tells 0 (ids_more _ (length c.args.actions.now) (c.requires.room tells)) in
    let has = ids_first dir (length c.loop-rest.rest.now) c.in-len1-up.len_at_least ids in
    subst (λ (d : Dir). HasIds (with_puts d (puts_over c.loop-rest.files))) (sym same) has

pub loop-rest-preserved : goal.loop-rest-preserved
loop-rest-preserved g c =
    let rest = c.loop-rest.rest.now in
    let more = take (length rest - 1) (drop 1 rest) in
    let below = g.F.Files.map (files_below c.args.files.now) in
    let split = first_of rest c.action-item.result c.in-len1-up.len_at_least c.action-item.is in
    record {
      laid = laid_then g.met.F.Files.kept_then g.met.F.Files.kept_map c.loop-rest.invariant.laid (has_laid c.follow_one.ensures.part);
      ids = λ tells n has.
          let same = g.met.F.Files.kept_map (files_below c.args.files.now) (files_below c.loop-rest.files) tells c.loop-rest.invariant.laid.read.kept in
          let there = subst (λ (k : ℕ). HasIdsFor (with_puts below (puts_over c.loop-rest.files)) (k + n)) (ap length split) (c.loop-rest.invariant.ids tells n has) in
          subst (λ (d : Dir). HasIdsFor (with_puts d (puts_over c.loop-rest.files)) (length more + n + 1) → HasIdsFor (with_puts d (puts_over c.follow_one.new.files)) (length more + n)) same
          (c.in_ok-follow_one.ensures.drawn tells (length more + n)) (subst (λ (k : ℕ). HasIdsFor (with_puts below (puts_over c.loop-rest.files)) k) (omega arith) there);
      amid = λ tells dir p es alike ahead.
          let same = g.met.F.Files.kept_map (files_below c.args.files.now) (files_below c.loop-rest.files) tells c.loop-rest.invariant.laid.read.kept in
          amid_next c.args.now.seconds c.args.config.now c.args.keys.now c.args.set p es (with_puts dir (puts_over c.loop-rest.files)) (with_puts dir (puts_over c.follow_one.new.files)) rest more c.action-item.result c.requires.ledger split
          (λ q e. c.in_ok-follow_one.ensures.apart tells dir q e (alike_kept (is_followed_by c.args.set) below (g.F.Files.map (files_below c.loop-rest.files)) dir same alike))
          (c.loop-rest.invariant.amid tells dir p es alike ahead);
    }

pub returns-clause-apart : goal.returns-clause-apart
returns-clause-apart g c tells dir p es alike ahead =
    amid_last c.args.now.seconds c.args.config.now c.args.keys.now c.args.set p es (with_puts dir (puts_over c.loop-rest.files)) c.loop-rest.rest.now (none_left c.loop-rest.rest.now (omega (arith, c.in_default.len_below))) (c.loop-rest.invariant.amid tells dir p es alike ahead)

pub loop-rest-init : goal.loop-rest-init
loop-rest-init g c = record {
  laid = laid_self g.F.Files g.met.F.Files.kept_self c.args.files.now;
  ids = λ tells more has. has;
  amid = λ tells dir p es alike ahead. record { reached = p; left = es; ahead = ahead; same = refl };
}

pub returns-in_err-follow_one-clause-part : goal.returns-in_err-follow_one-clause-part
returns-in_err-follow_one-clause-part g c =
    part_err (part_after g.met.F.Files.kept_then g.met.F.Files.kept_map c.loop-rest.invariant.laid c.in_err-follow_one.ensures.part (λ name e. e) (λ name e. e) (λ name e bad. bad)) (search rules)

pub returns-clause-part : goal.returns-clause-part
returns-clause-part g c = part_ok c.loop-rest.invariant.laid

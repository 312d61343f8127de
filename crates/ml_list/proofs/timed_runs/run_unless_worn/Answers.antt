use Rattle.std.proofs.Common.{◌≡◌, ◌∙◌, ◌&&◌, true, sym, subst, rules, false, []}
use Rattle.std.proofs.lemmas.Bool.{or_left}
use Rattle.std.proofs.lemmas.Result.{IfOk-weaker}
use Rattle.ml_base.specs.Dir.{Dir}
use Rattle.ml_base.proofs.ReadingLemmas.{kept_read}
use Rattle.ml_acts.specs.Asked.{IsDamagedOf, Undigested}
use Rattle.ml_acts.specs.Damaged.{IsDamaged}
use Rattle.ml_acts.specs.Doing.{Alike}
use Rattle.ml_acts.proofs.Damages.{named_so}
use Rattle.ml_timed.specs.Reads.{is_of_timed, is_post_file, is_seen_in_timed}
use Rattle.ml_list.specs.Delivering.{is_of_worn}
use Rattle.ml_acts.proofs.OfActs.{act_then}
use Rattle.ml_list.proofs.Delivered.{run_worn, worn_other, worn_timed}
use Rattle.ml_acts.proofs.Found.{found_then}
use Rattle.ml_timed.specs.Found.{FoundInRun}
use Rattle.ml_list.specs.Found.{FoundByCounters}
use Rattle.ml_acts.specs.Found.{TellsWorn}
use Rattle.ml_list.proofs.timed_runs.run_unless_worn.Goals as goal

pub returns-in-Ok-true-clause-value : goal.returns-in-Ok-true-clause-value
returns-in-Ok-true-clause-value g c told dir p alike is same =
    let digests = c.args.config.now.flags.d in
    let yes : c.in-Ok-true.field-0 ≡ true = search rules in
    let counters : Alike is_of_worn (g.F.Files.map c.args.files) dir = λ name e. alike name (or_left (is_of_timed digests name) (digests && is_post_file name) (worn_timed digests name e)) in
    run_worn dir p c.args.now.seconds (c.new.result, c.plain.result) is (sym (c.in-Ok-true.ensures.apart told dir p counters is) ∙ yes) c.new.ensures c.plain.ensures

pub returns-in-Ok-false-clause-value : goal.returns-in-Ok-false-clause-value
returns-in-Ok-false-clause-value g c told =
    let same_map = g.met.F.Files.kept_map c.args.files c.is_worn.new.files told c.is_worn.ensures.reads.kept in
    IfOk-weaker c.timed.result.1 _ _
    (λ done does dir p alike is same. does dir p (subst (λ (d : Dir). Alike (is_seen_in_timed c.args.config.now.flags.d) d dir) (sym same_map) alike) is same)
    (c.timed.ensures.apart told)

pub returns-in-Ok-false-clause-sound : goal.returns-in-Ok-false-clause-sound
returns-in-Ok-false-clause-sound g c told dir p alike is =
    let same_map = g.met.F.Files.kept_map c.args.files c.is_worn.new.files told c.is_worn.ensures.reads.kept in
    c.timed.ensures.spared told dir p (subst (λ (d : Dir). Alike (is_seen_in_timed c.args.config.now.flags.d) d dir) (sym same_map) alike) is

pub returns-in-Err-clause-sound : goal.returns-in-Err-clause-sound
returns-in-Err-clause-sound g c told dir p alike is = c.in-Err.ensures.spared told dir p (λ name e. alike name (or_left (is_of_timed c.args.config.now.flags.d name) (c.args.config.now.flags.d && is_post_file name) (worn_timed c.args.config.now.flags.d name e))) is

pub returns-in-Ok-false-clause-act : goal.returns-in-Ok-false-clause-act
returns-in-Ok-false-clause-act g c =
    act_then g.F.Files c.timed.result.1 (λ name. is_of_timed c.args.config.now.flags.d name ≡ true) (IsDamagedOf (g.F.Files.map c.is_worn.new.files) Undigested) (IsDamagedOf (g.F.Files.map c.args.files) Undigested)
    g.met.F.Files.kept_then c.args.files c.is_worn.new.files c.timed.result.0 (kept_read g.F.Files c.args.files c.is_worn.new.files c.is_worn.result c.is_worn.ensures.reads)
    (λ told name bad. subst (λ (d : Dir). IsDamagedOf d Undigested name) (g.met.F.Files.kept_map c.args.files c.is_worn.new.files told c.is_worn.ensures.reads.kept) bad) c.timed.ensures.act

pub returns-in-Err-clause-act : goal.returns-in-Err-clause-act
returns-in-Err-clause-act g c =
    let dir = g.F.Files.map c.args.files in
    let names = named_so g.F.Files (λ name. is_of_timed c.args.config.now.flags.d name ≡ true) _ (λ name. is_of_worn name ≡ true) (IsDamaged dir) (IsDamagedOf dir Undigested) (worn_timed c.args.config.now.flags.d) (λ name e bad. record { damaged = bad; own = λ of. absurd (worn_other name e of) })
    c.in-Err.ensures.names in
    search rules

pub returns-in-Ok-true-clause-found : goal.returns-in-Ok-true-clause-found
returns-in-Ok-true-clause-found g c told =
    let is : c.in-Ok-true.field-0 ≡ true = search rules in
    record {
      worn = true;
      counters = subst (TellsWorn (g.F.Files.map c.args.files)) is (c.in-Ok-true.ensures.found told);
      follows = record { puts = c.new.ensures; is = c.plain.ensures };
    }

pub returns-in-Ok-false-clause-found : goal.returns-in-Ok-false-clause-found
returns-in-Ok-false-clause-found g c told =
    let dir = g.F.Files.map c.args.files in
    let same = g.met.F.Files.kept_map c.args.files c.is_worn.new.files told c.is_worn.ensures.reads.kept in
    let no : c.in-Ok-false.field-0 ≡ false = search rules in
    found_then c.timed.result.1 dir (g.F.Files.map c.is_worn.new.files) (λ d done. FoundInRun d [] done.0) (FoundByCounters dir (λ d. FoundInRun dir [] d.0)) same
    (λ done is. record { worn = false; counters = subst (TellsWorn dir) no (c.in-Ok-false.ensures.found told); follows = is }) (c.timed.ensures.found told)

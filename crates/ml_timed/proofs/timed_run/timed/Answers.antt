use Rattle.std.proofs.Common.{◌≡◌, true, ◌∙◌, List, refl, sym, ap, ap₂, subst, rules, []}
use Rattle.ml_base.specs.Dir.{Dir, touches_only, with_puts}
use Rattle.ml_base.specs.Layers.{files_below, puts_over}
use Rattle.ml_base.specs.declared.puts.Put.{Put}
use Rattle.ml_base.proofs.DamagedNames.{on_both}
use Rattle.ml_plain.specs.Directory.{IsList}
use Rattle.ml_plain.specs.Timing.{after_timed}
use Rattle.ml_acts.specs.Asked.{IsDamagedOf, Undigested}
use Rattle.ml_acts.specs.Growing.{is_of_time}
use Rattle.ml_timed.specs.Digesting.{AgreesIfRead, IsDamagedInRun}
use Rattle.ml_timed.specs.Reads.{is_of_timed, is_seen_in_timed}
use Rattle.ml_timed.proofs.Apart.{alike_kept, room_there}
use Rattle.ml_timed.proofs.Spared.{timed_spared}
use Rattle.ml_timed.proofs.Runs.{grown_own, runs}
use Rattle.ml_timed.proofs.Finding.{found_run_so}
use Rattle.ml_timed.proofs.timed_run.timed.Goals as goal

pub returns-in-Ok-clause-apart : goal.returns-in-Ok-clause-apart
returns-in-Ok-clause-apart g c told dir p alike is same =
    let old = g.F.Files.map c.args.files in
    let seen = is_seen_in_timed c.args.config.now.flags.d in
    let empty = c.new-layer.ensures.txn ∙ c.new.ensures in
    let below = ap g.F.Files.map c.new-layer.ensures.files in
    let begun = subst (λ (t : List Put). IsList (with_puts dir t) p) (sym empty) is in
    let there = alike_kept seen old (g.F.Files.map (files_below c.new-layer.result)) dir below alike in
    runs dir c.args.now p c.parts-files.result.1 c.in-Ok.reply is (room_there c.args.config.now.flags.d old dir alike (c.requires.room told))
    (subst (λ (t : List Put). IsList (with_puts dir t) (after_timed c.args.now p)) (sym c.parts-files.ensures.txn) (c.in-Ok.ensures.list told dir p there begun same))
    (c.in-Ok.ensures.reply told dir p there begun same)

pub returns-in-Ok-clause-value : goal.returns-in-Ok-clause-value
returns-in-Ok-clause-value g c told p = returns-in-Ok-clause-apart g c told (g.F.Files.map c.args.files) p (λ name e. refl)

pub returns-in-Ok-clause-act : goal.returns-in-Ok-clause-act
returns-in-Ok-clause-act g c =
    let grown = grown_own is_of_time (puts_over c.new-layer.result) (puts_over c.run-answer.new.files) (c.new-layer.ensures.txn ∙ c.new.ensures) c.run-answer.ensures.part.grown in
    let own = ap (touches_only is_of_time) c.parts-files.ensures.txn ∙ grown in
    search rules

pub returns-in-Err-clause-act : goal.returns-in-Err-clause-act
returns-in-Err-clause-act g c = record {
  own = search rules;
  files = search rules;
  reply = search rules;
  names = record {
    named = c.in-Err.ensures.part.names.named;
    damaged = λ told.
        let layer = c.new-layer.result in
        let start = with_puts (g.F.Files.map (files_below layer)) (puts_over layer) in
        let now = with_puts (g.F.Files.map (files_below layer)) (puts_over c.run-answer.new.files) in
        let same : start ≡ g.F.Files.map c.args.files = ap₂ (λ (d : Dir) (t : List Put). with_puts d t) (ap g.F.Files.map c.new-layer.ensures.files) (c.new-layer.ensures.txn ∙ c.new.ensures) in
        on_both c.in-Err.error (λ name. is_of_timed c.args.config.now.flags.d name ≡ true) (IsDamagedInRun start now) (IsDamagedOf (g.F.Files.map c.args.files) Undigested)
        (λ name read bad.
        subst (λ (d : Dir). IsDamagedOf d Undigested name) same (record { damaged = c.run-answer.ensures.part.harmless told name bad.damaged; own = bad.own }))
        c.in-Err.ensures.part.names.named (c.in-Err.ensures.part.names.damaged told);
  };
  reads = search rules;
}

pub returns-in-Err-clause-spared : goal.returns-in-Err-clause-spared
returns-in-Err-clause-spared g c told dir p alike is =
    let layer = c.new-layer.result in
    let digests = c.args.config.now.flags.d in
    let start = with_puts (g.F.Files.map (files_below layer)) (puts_over layer) in
    let now = with_puts (g.F.Files.map (files_below layer)) (puts_over c.run-answer.new.files) in
    let same : start ≡ g.F.Files.map c.args.files = ap₂ (λ (d : Dir) (t : List Put). with_puts d t) (ap g.F.Files.map c.new-layer.ensures.files) (c.new-layer.ensures.txn ∙ c.new.ensures) in
    on_both c.in-Err.error (λ name. is_of_timed digests name ≡ true) (IsDamagedInRun start now) (λ _. ⊥)
    (λ name read bad.
    timed_spared digests (g.F.Files.map c.args.files) dir p is alike name read
    (subst (λ (d : Dir). IsDamagedOf d Undigested name) same (record { damaged = c.run-answer.ensures.part.harmless told name bad.damaged; own = bad.own })))
    c.in-Err.ensures.part.names.named (c.in-Err.ensures.part.names.damaged told)

pub returns-in-Ok-clause-agrees : goal.returns-in-Ok-clause-agrees
returns-in-Ok-clause-agrees g c told on =
    let layer = c.new-layer.result in
    let same : with_puts (g.F.Files.map (files_below layer)) (puts_over layer) ≡ g.F.Files.map c.args.files = ap₂ (λ (d : Dir) (t : List Put). with_puts d t) (ap g.F.Files.map c.new-layer.ensures.files) (c.new-layer.ensures.txn ∙ c.new.ensures) in
    subst (λ (d : Dir). AgreesIfRead d) same (c.in-Ok.ensures.agrees told on)

pub returns-in-Ok-clause-found : goal.returns-in-Ok-clause-found
returns-in-Ok-clause-found g c told =
    found_run_so _ (g.F.Files.map c.args.files) _ [] _ c.parts-files.result.1 (ap g.F.Files.map c.new-layer.ensures.files) (c.new-layer.ensures.txn ∙ c.new.ensures) (sym c.parts-files.ensures.txn) (c.in-Ok.ensures.found told)

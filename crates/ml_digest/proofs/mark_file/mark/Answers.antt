use Rattle.std.proofs.Common.{refl}
use Rattle.ml_digest.proofs.Marks.{mark_one, file_mark, file_none, file_ranges}
use Rattle.ml_digest.proofs.mark_file.mark.Goals as goal

pub returns-in-Some-clause-value : goal.returns-in-Some-clause-value
returns-in-Some-clause-value g c = λ tells. file_mark (g.F.Files.map c.args.files.now) c.in_ok-file.file c.in-Some.mark (c.in_ok-file.ensures.value tells) c.in-Some.ensures

pub returns-in-Some-clause-read : goal.returns-in-Some-clause-read
returns-in-Some-clause-read g c = λ tells mark held.
    mark_one (g.F.Files.map c.args.files.now) c.in-Some.mark mark (file_mark (g.F.Files.map c.args.files.now) c.in_ok-file.file c.in-Some.mark (c.in_ok-file.ensures.value tells) c.in-Some.ensures) held

pub returns-in-Some-clause-ranges : goal.returns-in-Some-clause-ranges
returns-in-Some-clause-ranges g c = file_ranges c.in_ok-file.file c.in-Some.mark c.in-Some.ensures

pub returns-clause-names : goal.returns-clause-names
returns-clause-names g c = record {
  named = refl;
  damaged = λ tells. file_none (g.F.Files.map c.args.files.now) c.in_ok-file.file (c.in_ok-file.ensures.value tells) c.in-None.ensures;
}

pub returns-clause-sound : goal.returns-clause-sound
returns-clause-sound g c = λ tells mark held. file_none (g.F.Files.map c.args.files.now) c.in_ok-file.file (c.in_ok-file.ensures.value tells) c.in-None.ensures mark held

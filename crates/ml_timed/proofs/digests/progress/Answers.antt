use Rattle.std.proofs.Common.{◌≡◌, inl, inr, true, refl, sym, rules}
use Rattle.ml_acts.specs.Damaged.{ahead, mark, number}
use Rattle.ml_acts.proofs.Asked.{other_name}
use Rattle.ml_filing.specs.Answers.{IsNoNumber}
use Rattle.ml_base.specs.declared.names.Name.{Name}
use Rattle.ml_digest.specs.Due.{mark_name}
use Rattle.ml_timed.specs.Reads.{is_of_progress}
use Rattle.ml_timed.proofs.digests.progress.Goals as goal
use Rattle.ml_timed.proofs.digests.progress.Goals.{then-mark-count-via-then-mark-count, then-mark-count-via-else-mark-count+then-mark}
use Rattle.ml_filing.specs.Archive.{IsNumberFile, number_name}
use Rattle.ml_base.specs.Dir.{Dir}
use Rattle.std.proofs.Common.{subst}
use Rattle.ml_timed.proofs.Joined.{both_kept, names_after, names_err, names_so, one_kept, reads_beside, reads_ok, reads_then}

pub returns-in_err-mark-clause-names : goal.returns-in_err-mark-clause-names
returns-in_err-mark-clause-names g c =
    names_err (names_so (λ name e. subst (λ (a : Name). is_of_progress a ≡ true) (sym e) refl)
    (λ name e no. record { damaged = mark e no; own = λ of. absurd (other_name name mark_name refl e of) }) c.in_err-mark.ensures.names) (search rules)

pub returns-in_err-count-clause-names : goal.returns-in_err-count-clause-names
returns-in_err-count-clause-names g c =
    names_err (names_after (λ d _. IsNoNumber d) g.met.F.Files.kept_map (one_kept c.mark.ensures.reads) (λ name e. subst (λ (a : Name). is_of_progress a ≡ true) (sym e) refl)
    (λ told name e none. record { damaged = number e none; own = λ of. inl (e, inl none) }) c.in_err-count.ensures.names) (search rules)

pub returns-then-mark-count-clause-names : goal.returns-then-mark-count-clause-names
returns-then-mark-count-clause-names g c = record {
  named = refl;
  damaged = λ told.
      let same = g.met.F.Files.kept_map c.args.files.now c.mark.new.files told c.mark.ensures.reads.kept in
      let counted = subst (λ (d : Dir). IsNumberFile (d number_name) c.in_ok-count.count) same (c.in_ok-count.ensures.read told) in
      record {
        damaged = ahead c.in_ok-mark.mark c.in_ok-count.count refl (c.in_ok-mark.ensures.value told) counted
            (elim c.then-mark-count.branch [ then-mark-count-via-then-mark-count w ↦ inl w.if-mark-count.true | then-mark-count-via-else-mark-count+then-mark w ↦ inr w.if-mark.true ]);
        own = λ of. absurd (other_name mark_name mark_name refl refl of);
      };
}

pub returns-clause-read : goal.returns-clause-read
returns-clause-read g c told =
    let same = g.met.F.Files.kept_map c.args.files.now c.mark.new.files told c.mark.ensures.reads.kept in
    subst (λ (d : Dir). IsNumberFile (d number_name) c.in_ok-count.count) same (c.in_ok-count.ensures.read told)

pub returns-in_err-count-clause-reads : goal.returns-in_err-count-clause-reads
returns-in_err-count-clause-reads g c =
    let read = reads_then g.met.F.Files.kept_then c.mark.ensures.reads c.count.ensures.reads in
    search rules

pub returns-then-mark-count-clause-reads : goal.returns-then-mark-count-clause-reads
returns-then-mark-count-clause-reads g c = reads_beside (both_kept g.met.F.Files.kept_then c.mark.ensures.reads c.count.ensures.reads) (λ bad. search rules)

pub returns-clause-reads : goal.returns-clause-reads
returns-clause-reads g c = reads_ok (both_kept g.met.F.Files.kept_then c.mark.ensures.reads c.count.ensures.reads)

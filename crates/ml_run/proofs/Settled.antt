-- What a commit and its answers come to.
use Rattle.std.proofs.Common.{◌≡◌, ◌≢◌, inl, inr, ⊎_elim, ℕ, IsTrue, true, false, List, [], ◌++◌, length, take, Some, None, ap, refl, sym, ◌∙◌, arith}
use Rattle.std.proofs.lemmas.List.{append-nil}
use Rattle.ml_base.specs.Bytes.{Text}
use Rattle.ml_base.specs.Faults.{Rose}
use Rattle.ml_base.specs.declared.puts.Put.{Put}
use Rattle.ml_site.specs.Disk.{Contents}
use Rattle.ml_site.specs.declared.site.Site.{Ghosts}
use Rattle.ml_journal.specs.Calls.{ChangesDirectory, Keeps, LeavesDisk}
use Rattle.ml_journal.specs.Log.{directory}
use Rattle.ml_journal.specs.Instants.{with_txn}
use Rattle.ml_journal.specs.Spending.{Spends}
use Rattle.ml_journal.specs.declared.errors.CommitError.{CommitError}
use Rattle.ml_journal.specs.declared.errors.CommitError.TheVariants as commits
use Rattle.ml_ending.specs.declared.lines.Why.{Why}
use Rattle.ml_ending.specs.Stops.{why_of_commit}
use Rattle.ml_run.specs.Settling.{IsRefused, IsUnsettled}

some_none : (a : Why) → Some a ≡ None → ⊥
some_none a e = cc

module _ {S : Type 0} (ghosts : Ghosts S) where
  -- what a commit spent is spent still once lines are given
  pub spends_on : (size contents : ℕ) (old mid new : S) → IsTrue ghosts.tells_all → IsTrue ghosts.tells_reads → Spends ghosts size contents old mid → LeavesDisk ghosts mid new → Spends ghosts size contents old new
  spends_on size contents old mid new t r s d =
      let syncs = d.syncs t in
      let bytes = d.log_bytes t in
      let log : length (ghosts.disk new).reads.log ≡ length (ghosts.disk mid).reads.log = ap (λ (held : Contents). length held.log) (d.reads r) in record {
        handed = omega (arith, s.handed, bytes);
        cost = ⊎_elim
            (λ a. inl (a.0, record { syncs = omega (arith, a.1.syncs, syncs); grows = omega (arith, a.1.grows, bytes, log) }))
            (λ b. inr (b.0, record { syncs = omega (arith, b.1.syncs, syncs); paid = omega (arith, b.1.paid, bytes); short = log ∙ b.1.short }))
            s.cost;
      }

  -- the output failed after the commit
  pub answers_refused : (failed : Type 0) (old mid new : S) (txn : List Put) (lines : Text) → (IsTrue ghosts.tells_reads → directory (ghosts.disk mid).reads ≡ with_txn txn (directory (ghosts.disk old).reads)) → Keeps ghosts 5 failed old mid → LeavesDisk ghosts mid new
      → (IsTrue ghosts.tells_all → (n : ℕ) × (ghosts.output new ≡ ghosts.output mid ++ take n lines)) → Rose (ghosts.output_faults mid) (ghosts.output_faults new) → IsUnsettled ghosts txn lines None old new
  answers_refused failed old mid new txn lines done keeps d cut rose =
      let dir : IsTrue ghosts.tells_reads → directory (ghosts.disk new).reads ≡ with_txn txn (directory (ghosts.disk old).reads) = λ t. ap directory (d.reads t) ∙ done t in record {
        any = λ t. inr (dir t);
        committed = λ t none. dir t;
        quiet = λ t some. absurd (let bad : false ≡ true = some in cc);
        cut = λ t. let c = cut t in (c.0, c.1 ∙ ap (λ (o : Text). o ++ take c.0 lines) (keeps.output t));
        refused = omega (arith, rose, keeps.others);
        some = λ some. absurd (let bad : false ≡ true = some in cc);
        spends = λ t. record { few = omega (arith, keeps.syncs t, d.syncs t); stay = omega (arith, keeps.syncs_stay t, d.syncs t); bytes_stay = omega (arith, keeps.log_bytes_stay t, d.log_bytes t) };
      }

  pub commit_cause : (error : CommitError) (old new : S) → (error ≡ commits.Fault → Rose (ghosts.disk_faults old) (ghosts.disk_faults new)) → IsRefused ghosts (Some (why_of_commit error)) old new
  commit_cause commits.Fault old new cause = cause refl
  commit_cause commits.Memory old new cause = tt

  -- the commit was refused
  pub commit_refused : (failed : Type 0) (old new : S) (txn : List Put) (lines : Text) (why : Why) → ChangesDirectory ghosts txn old new → Keeps ghosts 5 failed old new → IsRefused ghosts (Some why) old new → txn ≢ [] → IsUnsettled ghosts txn lines (Some why) old new
  commit_refused failed old new txn lines why changes keeps refused some = record {
    any = changes.any;
    committed = λ t none. absurd (some_none why none);
    quiet = λ t is. keeps.output t;
    cut = λ t. (0, keeps.output t ∙ sym (append-nil (ghosts.output old)));
    refused = refused;
    some = λ is. some;
    spends = λ t. record { few = keeps.syncs t; stay = keeps.syncs_stay t; bytes_stay = keeps.log_bytes_stay t };
  }

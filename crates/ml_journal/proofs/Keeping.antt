-- How one call of the journal follows another: what both together keep or change.
use Rattle.std.proofs.Common.{◌≡◌, ◌⊎◌, inl, inr, ⊎_elim, ◌≤◌, ◌+◌, ℕ, IsTrue, List, Option, refl, ◌∙◌, ap, arith}
use Rattle.ml_base.specs.Bytes.{Text}
use Rattle.ml_base.specs.Dir.{Dir}
use Rattle.ml_base.specs.declared.puts.Put.{Put}
use Rattle.ml_site.specs.Disk.{Contents, Elapses, IsAtRest, Now}
use Rattle.ml_site.specs.declared.site.Site.{Ghosts}
use Rattle.ml_site.proofs.Steps.{joins, weaker, at_start, after_read}
use Rattle.ml_journal.specs.Log.{directory}
use Rattle.ml_journal.specs.Instants.{with_txn, IsOld, IsOldOrNew}
use Rattle.ml_journal.specs.Calls.{Leaves, OnlyNow, Keeps, KeepsDirectory, ChangesDirectory}

module _ {S : Type 0} (ghosts : Ghosts S) where
  -- no call
  pub keeps_none : (most : ℕ) (failed : Type 0) (site : S) → (failed → ⊥) → Keeps ghosts most failed site site
  keeps_none most failed site none = record {
    output = λ t. refl;
    syncs = λ t. omega arith;
    syncs_stay = λ t. omega arith;
    log_bytes_stay = λ t. omega arith;
    faults = omega arith;
    cause = λ f. absurd (none f);
    others = refl;
  }

  -- one call after another
  pub keeps_on : (first then most : ℕ) (before failed : Type 0) (old mid new : S) → first + then ≤ most → Keeps ghosts first before old mid → Keeps ghosts then failed mid new → Keeps ghosts most failed old new
  keeps_on first then most before failed old mid new few one two = record {
    output = λ t. two.output t ∙ one.output t;
    syncs = λ t. omega (arith, few, one.syncs t, two.syncs t);
    syncs_stay = λ t. omega (arith, one.syncs_stay t, two.syncs_stay t);
    log_bytes_stay = λ t. omega (arith, one.log_bytes_stay t, two.log_bytes_stay t);
    faults = omega (arith, one.faults, two.faults);
    cause = λ f. omega (arith, one.faults, two.cause f);
    others = two.others ∙ one.others;
  }

  -- the directory stays if whatever may be left has it
  pub directory_by : (old new : S) (P : Contents → Text → Type 0) → Leaves ghosts old new P
      → (IsTrue ghosts.tells_reads → directory (ghosts.disk new).reads ≡ directory (ghosts.disk old).reads)
      → (IsTrue ghosts.tells_all → (left : Contents) (out : Text) → P left out → IsOld (directory (ghosts.disk old).reads) (ghosts.output old) left out)
      → KeepsDirectory ghosts old new
  directory_by old new P leaves same is = record {
    same = same;
    instants = λ t. weaker ghosts.instant ghosts.left_since ghosts.disk ghosts.output old new P (IsOld (directory (ghosts.disk old).reads) (ghosts.output old)) (leaves t) (is t);
  }

  -- the directory changes as it should if whatever may be left has the old one or the one with the txn
  pub changes_by : (txn : List Put) (old new : S) (P : Contents → Text → Type 0) → Leaves ghosts old new P
      → (IsTrue ghosts.tells_reads → (directory (ghosts.disk new).reads ≡ directory (ghosts.disk old).reads) ⊎ (directory (ghosts.disk new).reads ≡ with_txn txn (directory (ghosts.disk old).reads)))
      → (IsTrue ghosts.tells_all → (left : Contents) (out : Text) → P left out → IsOldOrNew (directory (ghosts.disk old).reads) txn (ghosts.output old) left out)
      → ChangesDirectory ghosts txn old new
  changes_by txn old new P leaves any is = record {
    any = any;
    instants = λ t. weaker ghosts.instant ghosts.left_since ghosts.disk ghosts.output old new P (IsOldOrNew (directory (ghosts.disk old).reads) txn (ghosts.output old)) (leaves t) (is t);
  }

  -- a directory that stays is the old one
  pub changes_none : (txn : List Put) (old new : S) → KeepsDirectory ghosts old new → ChangesDirectory ghosts txn old new
  changes_none txn old new keeps = changes_by txn old new (IsOld (directory (ghosts.disk old).reads) (ghosts.output old)) keeps.instants (λ r. inl (keeps.same r)) (λ t left out p. (inl p.0, p.1))

  module _ (only_now : OnlyNow ghosts) where
    -- no call on a disk at rest
    pub directory_at_rest : (site : S) → (IsTrue ghosts.tells_all → IsAtRest (ghosts.disk site)) → KeepsDirectory ghosts site site
    directory_at_rest site rest = record {
      same = λ r. refl;
      instants = λ t. at_start ghosts.instant ghosts.left_since ghosts.disk ghosts.output (λ s left out l. only_now s left out t l) site (IsOld (directory (ghosts.disk site).reads) (ghosts.output site)) (rest t) (λ left is out same. (ap directory is, same));
    }

    -- a call that leaves a disk at rest as it is
    pub directory_read : (old new : S) → (IsTrue ghosts.tells_all → IsAtRest (ghosts.disk old)) → (IsTrue ghosts.tells_reads → (ghosts.disk new).reads ≡ (ghosts.disk old).reads)
        → (IsTrue ghosts.tells_all → ghosts.disk new ≡ ghosts.disk old) → (IsTrue ghosts.tells_all → ghosts.output new ≡ ghosts.output old)
        → (IsTrue ghosts.tells_all → Elapses (ghosts.instant old) (ghosts.instant new) (ghosts.left_since old) (ghosts.left_since new) (Now (ghosts.disk new) (ghosts.output new))) → KeepsDirectory ghosts old new
    directory_read old new rest reads disk output time = record {
      same = λ r. ap directory (reads r);
      instants = λ t. after_read ghosts.instant ghosts.left_since ghosts.disk ghosts.output (λ s left out l. only_now s left out t l) old new (IsOld (directory (ghosts.disk old).reads) (ghosts.output old))
          (rest t) (disk t) (output t) (time t) (λ left is out same. (ap directory is, same));
    }

  module _ (all_has_reads : IsTrue ghosts.tells_all → IsTrue ghosts.tells_reads) where
    -- one call after another
    pub directory_on : (old mid new : S) → (IsTrue ghosts.tells_all → ghosts.output mid ≡ ghosts.output old) → KeepsDirectory ghosts old mid → KeepsDirectory ghosts mid new → KeepsDirectory ghosts old new
    directory_on old mid new output one two = record {
      same = λ r. two.same r ∙ one.same r;
      instants = λ t. joins ghosts.instant ghosts.left_since ghosts.disk ghosts.output old mid new (IsOld (directory (ghosts.disk old).reads) (ghosts.output old)) (IsOld (directory (ghosts.disk mid).reads) (ghosts.output mid)) (IsOld (directory (ghosts.disk old).reads) (ghosts.output old))
          (one.instants t) (two.instants t) (λ left out p. p) (λ left out p. (p.0 ∙ one.same (all_has_reads t), p.1 ∙ output t));
    }

    -- a change after calls that keep the directory
    pub changes_after : (txn : List Put) (old mid new : S) → (IsTrue ghosts.tells_all → ghosts.output mid ≡ ghosts.output old) → KeepsDirectory ghosts old mid → ChangesDirectory ghosts txn mid new → ChangesDirectory ghosts txn old new
    changes_after txn old mid new output one two = record {
      any = λ r. or_new (directory (ghosts.disk new).reads) (one.same r) (two.any r);
      instants = λ t. joins ghosts.instant ghosts.left_since ghosts.disk ghosts.output old mid new (IsOld (directory (ghosts.disk old).reads) (ghosts.output old)) (IsOldOrNew (directory (ghosts.disk mid).reads) txn (ghosts.output mid)) (IsOldOrNew (directory (ghosts.disk old).reads) txn (ghosts.output old))
          (one.instants t) (two.instants t) (λ left out p. (inl p.0, p.1)) (λ left out p. (or_new (directory left) (one.same (all_has_reads t)) p.0, p.1 ∙ output t));
    }
      where
        or_new : (dir : Option Dir) → directory (ghosts.disk mid).reads ≡ directory (ghosts.disk old).reads → (dir ≡ directory (ghosts.disk mid).reads) ⊎ (dir ≡ with_txn txn (directory (ghosts.disk mid).reads))
            → (dir ≡ directory (ghosts.disk old).reads) ⊎ (dir ≡ with_txn txn (directory (ghosts.disk old).reads))
        or_new dir same is = ⊎_elim (λ a. inl (a ∙ same)) (λ b. inr (b ∙ ap (with_txn txn) same)) is

    -- calls that keep the directory, after a change that was done
    pub changes_then : (txn : List Put) (old mid new : S) → (IsTrue ghosts.tells_all → ghosts.output mid ≡ ghosts.output old) → ChangesDirectory ghosts txn old mid
        → (IsTrue ghosts.tells_reads → directory (ghosts.disk mid).reads ≡ with_txn txn (directory (ghosts.disk old).reads)) → KeepsDirectory ghosts mid new → ChangesDirectory ghosts txn old new
    changes_then txn old mid new output one done two = record {
      any = λ r. inr (two.same r ∙ done r);
      instants = λ t. joins ghosts.instant ghosts.left_since ghosts.disk ghosts.output old mid new (IsOldOrNew (directory (ghosts.disk old).reads) txn (ghosts.output old)) (IsOld (directory (ghosts.disk mid).reads) (ghosts.output mid)) (IsOldOrNew (directory (ghosts.disk old).reads) txn (ghosts.output old))
          (one.instants t) (two.instants t) (λ left out p. p) (λ left out p. (inr (p.0 ∙ done (all_has_reads t)), p.1 ∙ output t));
    }

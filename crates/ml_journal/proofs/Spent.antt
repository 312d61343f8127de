-- What a commit spends.
use Rattle.std.proofs.Common.{◌≡◌, ◌≢◌, inl, inr, ⊎_elim, ◌≤◌, ◌<◌, ◌+◌, ℕ, true, false, List, [], ◌∷◌, length, Result, Ok, Err, refl, ◌∙◌, subst, sym, arith}
use Rattle.std.specs.Prelude.{IfOk, IfErr, ◌==◌}
use Rattle.std.proofs.lemmas.Bool.{cases_lt}
use Rattle.std.proofs.lemmas.Bool.Decides.{nat_tests}
use Rattle.ml_base.specs.declared.puts.Put.{Put}
use Rattle.ml_site.specs.declared.site.Site.{Ghosts}
use Rattle.ml_journal.specs.Records.{content_size, spelled_record}
use Rattle.ml_journal.specs.Spending.{Spends, SpendsAtMost}
use Rattle.ml_journal.specs.Stores.{grown}

-- what holds always holds at an error
pub err_always : {A E P : Type 0} (result : Result A E) → P → IfErr result (λ e. P)
err_always (Ok a) p = tt
err_always (Err e) p = p

-- a txn of no puts, and one of some
pub empty_txn : (puts txn : List Put) → puts ≡ txn → true ≡ (length puts == 0) → txn ≡ []
empty_txn [] txn same is = sym same
empty_txn (put ∷ puts) txn same is = grind (arith, nat_tests)

pub some_txn : (puts txn : List Put) → puts ≡ txn → false ≡ (length puts == 0) → txn ≢ []
some_txn [] txn same is none = cc
some_txn (put ∷ puts) txn same is none = let bad : put ∷ puts ≡ [] = same ∙ none in cc

-- how long the log is with one more record
pub grown_some : (size : ℕ) (txn : List Put) → txn ≢ [] → grown size txn ≡ size + length (spelled_record txn) + 1
grown_some size [] some = absurd (some refl)
grown_some size (put ∷ puts) some = refl

module _ {S : Type 0} (ghosts : Ghosts S) where
  -- no call
  pub spends_none : (txn : List Put) (site : S) → txn ≡ [] → length (ghosts.disk site).reads.log ≤ 8_388_608 → Spends ghosts (grown (length (ghosts.disk site).reads.log) txn) (content_size txn) site site
  spends_none [] site none short = record { handed = omega arith; cost = inl (short, record { syncs = omega arith; grows = omega arith }) }
  spends_none (put ∷ puts) site none short = cc

  -- a record is added, and files are laid down if the log is long then
  pub spends_done : {E : Type 0} (result : Result ℕ E) (end size at contents : ℕ) (old mid new : S) → length (ghosts.disk old).reads.log ≡ end + 1 → at ≡ end + size + 1 → contents ≤ size
      → ghosts.syncs mid ≤ ghosts.syncs old + 2 → ghosts.log_bytes mid ≡ ghosts.log_bytes old + size + 2 → ghosts.syncs new ≤ ghosts.syncs mid + 3 → ghosts.log_bytes mid ≤ ghosts.log_bytes new
      → (at < 8_388_608 → ghosts.syncs new ≡ ghosts.syncs mid) → (at < 8_388_608 → IfOk result (λ last. last ≡ at)) → (8_388_608 ≤ at → IfOk result (λ last. last ≡ 0)) → IfOk result (λ last. length (ghosts.disk new).reads.log ≡ last + 1)
      → IfOk result (λ last. Spends ghosts (length (ghosts.disk old).reads.log + size + 1) contents old new)
  spends_done (Ok last) end size at contents old mid new start is holds s1 b1 s2 b2 few stays short log = record {
    handed = omega arith;
    cost = ⊎_elim
        (λ lt. inl (omega (arith, lt), record { syncs = omega (arith, few lt); grows = omega (arith, stays lt) }))
        (λ le. inr (omega (arith, le), record { syncs = omega arith; paid = omega (arith, le); short = omega (arith, short le) }))
        (cases_lt at 8_388_608);
  }
  spends_done (Err e) end size at contents old mid new start is holds s1 b1 s2 b2 few stays short log = tt

  -- a commit that failed after its record was written
  pub spends_refused : (end size at : ℕ) (old mid new : S) → length (ghosts.disk old).reads.log ≡ end + 1 → at ≡ end + size + 1
      → ghosts.syncs mid ≤ ghosts.syncs old + 2 → ghosts.log_bytes mid ≡ ghosts.log_bytes old + size + 2 → ghosts.syncs new ≤ ghosts.syncs mid + 3 → ghosts.log_bytes mid ≤ ghosts.log_bytes new
      → (at < 8_388_608 → ghosts.syncs new ≡ ghosts.syncs mid) → SpendsAtMost ghosts (length (ghosts.disk old).reads.log + size + 1) old new
  spends_refused end size at old mid new start is s1 b1 s2 b2 few = record {
    cost = ⊎_elim (λ lt. inl (omega (arith, few lt))) (λ le. inr (omega (arith, le), omega (arith, le), omega arith)) (cases_lt at 8_388_608);
  }

  -- what a commit spends, in terms of the log that it leaves
  pub spends_grown : (size : ℕ) (txn : List Put) (old new : S) → txn ≢ [] → Spends ghosts (size + length (spelled_record txn) + 1) (content_size txn) old new → Spends ghosts (grown size txn) (content_size txn) old new
  spends_grown size txn old new some spends = subst (λ (n : ℕ). Spends ghosts n (content_size txn) old new) (sym (grown_some size txn some)) spends

  pub refused_grown : (size : ℕ) (txn : List Put) (old new : S) → txn ≢ [] → SpendsAtMost ghosts (size + length (spelled_record txn) + 1) old new → SpendsAtMost ghosts (grown size txn) old new
  refused_grown size txn old new some spends = subst (λ (n : ℕ). SpendsAtMost ghosts n old new) (sym (grown_some size txn some)) spends

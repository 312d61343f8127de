-- What holds after a store was closed and its stop line put out.
use Rattle.std.proofs.Common.{◌≡◌, ⊎_elim, ℕ, ◌+◌, ◌≤◌, IsTrue, [], Option, ap, ◌∙◌, arith}
use Rattle.ml_base.specs.Faults.{Rose}
use Rattle.ml_site.specs.Disk.{Disk}
use Rattle.ml_site.specs.declared.site.Site.{Ghosts}
use Rattle.ml_ending.specs.declared.lines.Why.{Why}
use Rattle.ml_ending.specs.declared.lines.Why.TheVariants as whys
use Rattle.ml_ending.specs.Stops.{status_of_why}
use Rattle.ml_ending.specs.Endings.{StopLine, Says, Finishes}

pub rose_earlier : (a b c : ℕ) → a ≤ b → Rose b c → Rose a c
rose_earlier a b c le rose = omega (arith, rose, le)

module _ {S : Type 0} (ghosts : Ghosts S) where
  pub memory_status : (mid new : S) (status : ℕ) (who : Option ℕ) (why : Why) → Says ghosts mid new status who why → why ≡ whys.Memory → (status ≡ 71 → ⊥) → (status ≡ 73 → ⊥) → ⊥
  memory_status mid new status who why s is one two = ⊎_elim (λ whole. one (whole.0 ∙ ap status_of_why is)) (λ cut. two cut.0) s.line

  pub disk_status : (mid new : S) (status : ℕ) (who : Option ℕ) (why : Why) → Says ghosts mid new status who why → why ≡ whys.Disk → (status ≡ 111 → ⊥) → (status ≡ 73 → ⊥) → ⊥
  disk_status mid new status who why s is one two = ⊎_elim (λ whole. one (whole.0 ∙ ap status_of_why is)) (λ cut. two cut.0) s.line

  pub finished_syncs : (now new : S) (line : StopLine) (status last : ℕ) → Finishes ghosts now new line status last → IsTrue ghosts.tells_all → (ghosts.syncs new ≤ ghosts.syncs now + 3) × (ghosts.syncs now ≤ ghosts.syncs new) × (ghosts.log_bytes now ≤ ghosts.log_bytes new)
  finished_syncs now new line status last f t =
      let spends = f.spends t in
      ⊎_elim
      (λ quiet. (omega (arith, spends.few, ap ghosts.syncs quiet.2), omega (arith, spends.stay, ap ghosts.syncs quiet.2), omega (arith, spends.bytes_stay, ap ghosts.log_bytes quiet.2)))
      (λ said. (omega (arith, spends.few, said.3.syncs t), omega (arith, spends.stay, said.3.syncs t), omega (arith, spends.bytes_stay, said.3.log_bytes t)))
      f.said

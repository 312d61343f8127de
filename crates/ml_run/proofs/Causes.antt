-- Which statuses a run has, and which counts rose.
use Rattle.std.proofs.Common.{◌≡◌, ◌⊎◌, inl, inr, ⊎_elim, ℕ, ◌<◌, ◌≤◌, true, IsTrue, Option, Some, None, ap, sym, refl, subst, arith}
use Rattle.std.proofs.lemmas.Bool.Decides.{nat_tests}
use Rattle.ml_base.specs.Faults.{Rose}
use Rattle.ml_base.specs.declared.names.Name.{Name}
use Rattle.ml_site.specs.declared.site.Site.{Ghosts}
use Rattle.ml_plain.specs.Replies.{is_status}
use Rattle.ml_ending.specs.declared.lines.Why.{Why}
use Rattle.ml_ending.specs.declared.lines.Why.TheVariants as whys
use Rattle.ml_ending.specs.Stops.{status_of_why}
use Rattle.ml_run.specs.Stops.{is_run_status}
use Rattle.ml_run.specs.declared.batches.BatchEnd.{BatchEnd}
use Rattle.ml_run.specs.declared.batches.BatchEnd.TheVariants as ends
use Rattle.ml_run.specs.Batches.{HasReason, EndsWithReason}
use Rattle.ml_run.specs.Settling.{IsRefused}
use Rattle.ml_ending.proofs.Finished.{rose_earlier}
use Rattle.ml_ending.specs.Endings.{Says, Refuses}
use Rattle.ml_run.specs.Endings.{HasCauses}

-- what follows from the causes of a reason
pub reason_map : (why : Why) (input input' d d' : Type 0) (damaged damaged' : Name → Type 0) → (input → input') → (d → d') → ((name : Name) → damaged name → damaged' name) → HasReason why input d damaged → HasReason why input' d' damaged'
reason_map (whys.Bad at) input input' d d' damaged damaged' e f h r = r
reason_map (whys.Short at) input input' d d' damaged damaged' e f h r = r
reason_map whys.More input input' d d' damaged damaged' e f h r = r
reason_map whys.Input input input' d d' damaged damaged' e f h r = e r
reason_map whys.Memory input input' d d' damaged damaged' e f h r = r
reason_map whys.Disk input input' d d' damaged damaged' e f h r = f r
reason_map (whys.At name) input input' d d' damaged damaged' e f h r = (r.0, h name r.1)
reason_map whys.NoList input input' d d' damaged damaged' e f h r = absurd r
reason_map whys.Usage input input' d d' damaged damaged' e f h r = absurd r
reason_map whys.Words input input' d d' damaged damaged' e f h r = absurd r
reason_map whys.Long input input' d d' damaged damaged' e f h r = absurd r
reason_map whys.Clock input input' d d' damaged damaged' e f h r = absurd r
reason_map whys.There input input' d d' damaged damaged' e f h r = absurd r
reason_map whys.Absent input input' d d' damaged damaged' e f h r = absurd r

reason_weaker : (why : Why) (input d d' : Type 0) (damaged : Name → Type 0) → (d → d') → HasReason why input d damaged → HasReason why input d' damaged
reason_weaker why input d d' damaged f r = reason_map why input input d d' damaged damaged (λ x. x) f (λ name x. x) r

-- the causes of the end of a batch, without what is damaged
pub end_reason : (end : BatchEnd) (input input' disk : Type 0) (damaged : Name → Type 0) → (input → input') → EndsWithReason end input disk damaged → EndsWithReason end input' disk (λ name. Unit {0})
end_reason ends.Full input input' disk damaged f r = r
end_reason ends.Last input input' disk damaged f r = r
end_reason (ends.Stopped who why) input input' disk damaged f r = reason_map why input input' disk disk damaged (λ name. Unit {0}) f (λ d. d) (λ name d. tt) r

other_status : (status : ℕ) (input disk output : Type 0) → IsTrue (is_run_status status) → (status ≡ 74 → ⊥) → (status ≡ 111 → ⊥) → (status ≡ 73 → ⊥) → HasCauses status input disk output
other_status status input disk output known one two three = record { known = known; of_input = λ e. absurd (one e); of_disk = λ e. absurd (two e); of_output = λ e. absurd (three e) }

why_causes : (why : Why) (input d o : Type 0) (damaged : Name → Type 0) → HasReason why input d damaged → HasCauses (status_of_why why) input d o
why_causes (whys.Bad at) input d o damaged r = other_status 65 input d o refl (λ e. omega (arith, e)) (λ e. omega (arith, e)) (λ e. omega (arith, e))
why_causes (whys.Short at) input d o damaged r = other_status 65 input d o refl (λ e. omega (arith, e)) (λ e. omega (arith, e)) (λ e. omega (arith, e))
why_causes whys.More input d o damaged r = other_status 72 input d o refl (λ e. omega (arith, e)) (λ e. omega (arith, e)) (λ e. omega (arith, e))
why_causes whys.Input input d o damaged r = record { known = refl; of_input = λ e. r; of_disk = λ e. absurd (omega (arith, e)); of_output = λ e. absurd (omega (arith, e)) }
why_causes whys.Memory input d o damaged r = other_status 71 input d o refl (λ e. omega (arith, e)) (λ e. omega (arith, e)) (λ e. omega (arith, e))
why_causes whys.Disk input d o damaged r = record { known = refl; of_input = λ e. absurd (omega (arith, e)); of_disk = λ e. r; of_output = λ e. absurd (omega (arith, e)) }
why_causes (whys.At name) input d o damaged r = other_status 75 input d o refl (λ e. omega (arith, e)) (λ e. omega (arith, e)) (λ e. omega (arith, e))
why_causes whys.NoList input d o damaged r = absurd r
why_causes whys.Usage input d o damaged r = absurd r
why_causes whys.Words input d o damaged r = absurd r
why_causes whys.Long input d o damaged r = absurd r
why_causes whys.Clock input d o damaged r = absurd r
why_causes whys.There input d o damaged r = absurd r
why_causes whys.Absent input d o damaged r = absurd r

cut_causes : (input d o : Type 0) → o → HasCauses 73 input d o
cut_causes input d o rose = record { known = refl; of_input = λ e. absurd (omega (arith, e)); of_disk = λ e. absurd (omega (arith, e)); of_output = λ e. rose }

pub status_not : (last n : ℕ) → is_status last ≡ true → 0 < n → n < 100 → ¬ (last ≡ n)
status_not last n is low high e = grind (arith, nat_tests)

module _ {S : Type 0} (ghosts : Ghosts S) where
  pub said_causes : (mid new : S) (d0 o0 status : ℕ) (who : Option ℕ) (why : Why) (input : Type 0) (damaged : Name → Type 0) → o0 ≤ ghosts.output_faults mid → HasReason why input (Rose d0 (ghosts.disk_faults mid)) damaged → Says ghosts mid new status who why
      → HasCauses status input (Rose d0 (ghosts.disk_faults new)) (Rose o0 (ghosts.output_faults new))
  said_causes mid new d0 o0 status who why input damaged le r s =
      let P : ℕ → Type 0 = λ n. HasCauses n input (Rose d0 (ghosts.disk_faults new)) (Rose o0 (ghosts.output_faults new)) in
      ⊎_elim
      (λ whole. subst P (sym whole.0) (why_causes why input (Rose d0 (ghosts.disk_faults new)) (Rose o0 (ghosts.output_faults new)) damaged
      (reason_weaker why input (Rose d0 (ghosts.disk_faults mid)) (Rose d0 (ghosts.disk_faults new)) damaged (λ rose. subst (λ (n : ℕ). Rose d0 n) (sym s.disk_faults) rose) r)))
      (λ cut. subst P (sym cut.0) (cut_causes input (Rose d0 (ghosts.disk_faults new)) (Rose o0 (ghosts.output_faults new)) (rose_earlier o0 (ghosts.output_faults mid) (ghosts.output_faults new) le cut.1)))
      s.line

  -- a refused batch has one of the statuses 71, 73 and 111, the last only if the disk failed
  pub refused_by : (read mid new : S) (status : ℕ) (first : Option ℕ) (why : Option Why) → IsRefused ghosts why read mid → Refuses ghosts mid new first why status
      → (status ≡ 71) ⊎ ((status ≡ 73) ⊎ ((status ≡ 111) × Rose (ghosts.disk_faults read) (ghosts.disk_faults new)))
  refused_by read mid new status first None refused f = inr (inl (f.quiet refl).0)
  refused_by read mid new status first (Some whys.Memory) refused f = ⊎_elim (λ whole. inl whole.0) (λ cut. inr (inl cut.0)) (f.said whys.Memory refl).line
  refused_by read mid new status first (Some whys.Disk) refused f =
      let s = f.said whys.Disk refl in
      ⊎_elim (λ whole. inr (inr (whole.0, subst (λ (n : ℕ). Rose (ghosts.disk_faults read) n) (sym s.disk_faults) refused))) (λ cut. inr (inl cut.0)) s.line
  refused_by read mid new status first (Some (whys.Bad at)) refused f = absurd refused
  refused_by read mid new status first (Some (whys.Short at)) refused f = absurd refused
  refused_by read mid new status first (Some whys.More) refused f = absurd refused
  refused_by read mid new status first (Some whys.Input) refused f = absurd refused
  refused_by read mid new status first (Some whys.Usage) refused f = absurd refused
  refused_by read mid new status first (Some whys.Words) refused f = absurd refused
  refused_by read mid new status first (Some whys.Long) refused f = absurd refused
  refused_by read mid new status first (Some whys.Clock) refused f = absurd refused
  refused_by read mid new status first (Some whys.NoList) refused f = absurd refused
  refused_by read mid new status first (Some (whys.At name)) refused f = absurd refused
  refused_by read mid new status first (Some whys.There) refused f = absurd refused
  refused_by read mid new status first (Some whys.Absent) refused f = absurd refused

  pub refused_status : (read mid new : S) (status : ℕ) (first : Option ℕ) (why : Option Why) → IsRefused ghosts why read mid → Refuses ghosts mid new first why status → (status ≡ 71 → ⊥) → (status ≡ 73 → ⊥) → (status ≡ 111 → ⊥) → ⊥
  refused_status read mid new status first why refused f one two three = ⊎_elim one (λ more. ⊎_elim two (λ disk. three disk.0) more) (refused_by read mid new status first why refused f)

  -- a batch was refused
  pub refused_causes : (read mid new : S) (d0 o0 status : ℕ) (first : Option ℕ) (why : Option Why) (input : Type 0) → d0 ≤ ghosts.disk_faults read → o0 ≤ ghosts.output_faults read → o0 ≤ ghosts.output_faults mid → IsRefused ghosts why read mid → Refuses ghosts mid new first why status
      → HasCauses status input (Rose d0 (ghosts.disk_faults new)) (Rose o0 (ghosts.output_faults new))
  refused_causes read mid new d0 o0 status first None input dle ole mle refused f =
      let quiet = f.quiet refl in
      subst (λ (n : ℕ). HasCauses n input (Rose d0 (ghosts.disk_faults new)) (Rose o0 (ghosts.output_faults new))) (sym quiet.0)
      (cut_causes input (Rose d0 (ghosts.disk_faults new)) (Rose o0 (ghosts.output_faults new)) (subst (λ (x : S). Rose o0 (ghosts.output_faults x)) (sym quiet.1) (rose_earlier o0 (ghosts.output_faults read) (ghosts.output_faults mid) ole refused)))
  refused_causes read mid new d0 o0 status first (Some reason) input dle ole mle refused f =
      said_causes mid new d0 o0 status first reason input (λ name. Unit {0}) mle (refused_reason reason input refused) (f.said reason refl)
    where
      refused_reason : (reason : Why) (input : Type 0) → IsRefused ghosts (Some reason) read mid → HasReason reason input (Rose d0 (ghosts.disk_faults mid)) (λ name. Unit {0})
      refused_reason whys.Disk input r = rose_earlier d0 (ghosts.disk_faults read) (ghosts.disk_faults mid) dle r
      refused_reason whys.Memory input r = tt
      refused_reason (whys.Bad at) input r = absurd r
      refused_reason (whys.Short at) input r = absurd r
      refused_reason whys.More input r = absurd r
      refused_reason whys.Input input r = absurd r
      refused_reason whys.Usage input r = absurd r
      refused_reason whys.Words input r = absurd r
      refused_reason whys.Long input r = absurd r
      refused_reason whys.Clock input r = absurd r
      refused_reason whys.NoList input r = absurd r
      refused_reason (whys.At name) input r = absurd r
      refused_reason whys.There input r = absurd r
      refused_reason whys.Absent input r = absurd r

  -- the counts after a refused batch
  pub refused_counts : (mid new : S) (status : ℕ) (first : Option ℕ) (why : Option Why) → Refuses ghosts mid new first why status → (ghosts.disk_faults new ≡ ghosts.disk_faults mid) × (ghosts.output_faults mid ≤ ghosts.output_faults new)
  refused_counts mid new status first None f = (ap ghosts.disk_faults (f.quiet refl).1, omega (arith, ap ghosts.output_faults (f.quiet refl).1))
  refused_counts mid new status first (Some reason) f = ((f.said reason refl).disk_faults, (f.said reason refl).output_faults)

  pub refused_syncs : (mid new : S) (status : ℕ) (first : Option ℕ) (why : Option Why) → Refuses ghosts mid new first why status → IsTrue ghosts.tells_all → (ghosts.syncs new ≡ ghosts.syncs mid) × (ghosts.log_bytes new ≡ ghosts.log_bytes mid)
  refused_syncs mid new status first None f t = (ap ghosts.syncs (f.quiet refl).1, ap ghosts.log_bytes (f.quiet refl).1)
  refused_syncs mid new status first (Some reason) f t = ((f.said reason refl).syncs t, (f.said reason refl).log_bytes t)

  -- something is pending after a refused batch only because of a fault, or because memory ran out, or because the output failed
  pub refused_rest : (read mid new : S) (d0 status : ℕ) (first : Option ℕ) (why : Option Why) → d0 ≤ ghosts.disk_faults read → IsRefused ghosts why read mid → Refuses ghosts mid new first why status
      → (Rose d0 (ghosts.disk_faults new) → ⊥) → (status ≡ 71 → ⊥) → (status ≡ 73 → ⊥) → ⊥
  refused_rest read mid new d0 status first why dle refused f none one two = ⊎_elim one (λ more. ⊎_elim two (λ disk. none (rose_earlier d0 (ghosts.disk_faults read) (ghosts.disk_faults new) dle disk.1)) more) (refused_by read mid new status first why refused f)

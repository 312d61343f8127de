-- The counters of ids and of tickets are the same on every directory that has their files.
use Rattle.std.proofs.Common.{◌≡◌, inl, inr, ◌||◌, ℕ, Option, refl, sym, ap, ◌∙◌, subst, arith}
use Rattle.ml_base.specs.Bytes.{Text}
use Rattle.ml_base.specs.Dir.{Dir, same_name}
use Rattle.ml_base.specs.Drawn.{IsCounter}
use Rattle.ml_base.specs.declared.names.Name.{Name}
use Rattle.ml_drawn.proofs.Reading.{counter_one}
use Rattle.ml_hold.specs.Answers as waiting
use Rattle.ml_hold.specs.Answers.{tickets_name}
use Rattle.ml_queue.specs.Answers.{Breaks, entry_name, ids_name}
use Rattle.ml_plain.specs.Directory.{IsList}
use Rattle.ml_plain.specs.Plain.{Plain}
use Rattle.ml_acts.specs.Doing.{Alike}

kinds : (name other that : Name) → name ≡ other → name ≡ that → other.kind ≡ that.kind
kinds name other that e f = ap (λ (n : Name). n.kind) (sym e ∙ f)

module _ (old dir : Dir) (p : Plain) where
  abbrev AlikeCounters : Type 0
  AlikeCounters = Alike (λ name. same_name name ids_name || same_name name tickets_name) old dir

  -- the next id is the list's
  pub ids_there : (next : ℕ) → AlikeCounters → IsList dir p → (low : ℕ) × IsCounter (old ids_name) low next → next ≡ p.queue.next
  ids_there next alike is counted =
      (counter_one (old ids_name) counted.0 next (is.queue).low p.queue.next counted.1 (subst (λ (f : Option Text). IsCounter f (is.queue).low p.queue.next) (alike ids_name refl) (is.queue).counted)).1

  -- so is the next ticket
  pub tickets_there : (next : ℕ) → AlikeCounters → IsList dir p → (low : ℕ) × IsCounter (old tickets_name) low next → next ≡ p.held.next
  tickets_there next alike is counted =
      (counter_one (old tickets_name) counted.0 next (is.held).low p.held.next counted.1 (subst (λ (f : Option Text). IsCounter f (is.held).low p.held.next) (alike tickets_name refl) (is.held).counted)).1

  -- neither is damaged
  pub ids_spared : AlikeCounters → IsList dir p → (name : Name) → name ≡ ids_name → Breaks old name → ⊥
  ids_spared alike is name named (inl bad) = bad.1 (is.queue).low p.queue.next (subst (λ (f : Option Text). IsCounter f (is.queue).low p.queue.next) (alike ids_name refl) (is.queue).counted)
  ids_spared alike is name named (inr bad) = absurd (let no : 18 ≡ 17 = kinds name ids_name (entry_name bad.0) named bad.1 in omega (arith, no))

  pub tickets_spared : AlikeCounters → IsList dir p → (name : Name) → name ≡ tickets_name → waiting.Breaks old name → ⊥
  tickets_spared alike is name named (inl bad) = bad.1 (is.held).low p.held.next (subst (λ (f : Option Text). IsCounter f (is.held).low p.held.next) (alike tickets_name refl) (is.held).counted)
  tickets_spared alike is name named (inr bad) = absurd (let no : 14 ≡ 13 = kinds name tickets_name (waiting.post_name bad.0) named bad.1 in omega (arith, no))

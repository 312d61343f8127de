-- The statuses of the items of a run, and of the run.
use Rattle.std.proofs.Common.{◌≡◌, ◌⊎◌, inl, inr, ⊎_elim, ℕ, Bool, true, false, eqb, cond, List, [], ◌∷◌, length, ap, sym, refl, ◌∙◌, arith, ◌-◌}
use Rattle.std.proofs.lemmas.Bool.Decides.{nat_tests}
use Rattle.std.specs.List.{list_all}
use Rattle.ml_base.specs.Bytes.{Text}
use Rattle.ml_base.specs.Faults.{Rose}
use Rattle.ml_base.proofs.Bools.{both}
use Rattle.ml_site.specs.Disk.{Contents}
use Rattle.ml_plain.specs.Histories.{State, step, last_from}
use Rattle.ml_plain.specs.Replies.{Kind, is_status, kind_at, kinds, status_of}
use Rattle.ml_plain.specs.declared.Item.{Item}
use Rattle.ml_reading.specs.Readings.{IsHindered, is_reading_status}
use Rattle.ml_run.specs.Endings.{CutOff, Ended, HasMore, IsBroken, Runs, Stopped}
use Rattle.ml_run.specs.Stops.{is_run_status}
use Rattle.ml_run.proofs.Complete.{answers_all}
use Rattle.ml_stream.specs.Stream.{End, Broken}
use Rattle.ml_stream.specs.declared.stream_error.StreamError.{StreamError}
use Rattle.ml_stream.specs.declared.stream_error.StreamError.TheVariants as errors
use Rattle.ml_exercise.specs.Running.{is_items_status}

abbrev is_kind : Kind → Bool
is_kind kind = is_status kind.status

kind_status : (ks : List Kind) (n : ℕ) → list_all is_kind ks ≡ true → is_status (kind_at ks n).status ≡ true
kind_status [] n all = refl
kind_status (k ∷ ks) n all = let parts = both (is_kind k) (list_all is_kind ks) all in go (eqb n 0) parts.0 (kind_status ks (n - 1) parts.1)
  where
    go : (t : Bool) → is_kind k ≡ true → is_status (kind_at ks (n - 1)).status ≡ true → is_status (cond t k (kind_at ks (n - 1))).status ≡ true
    go true here more = here
    go false here more = more

reply_status : (code : ℕ) → is_status (status_of code) ≡ true
reply_status code = kind_status kinds (code - 1) refl

-- the last item's status is that of a reply
pub last_status : (status : ℕ) (q : State) (items : List Item) → is_status status ≡ true → is_status (last_from status q items) ≡ true
last_status status q [] is = is
last_status status q (item ∷ more) is = last_status (status_of (step q item).1.code) (step q item).0 more (reply_status (step q item).1.code)

fails : (status : ℕ) → is_status status ≡ true → (status ≡ 71) ⊎ ((status ≡ 73) ⊎ ((status ≡ 74) ⊎ (status ≡ 111))) → ⊥
fails status is f = grind (arith, nat_tests)

-- a run whose status is that of a reply has answered all items
pub all_ended : (told input : Type 0) (status limit answered : ℕ) (held : Contents) (output : Text) (all : List Item) (q : State) (before : Text) → length all ≡ limit → is_status status ≡ true
    → Runs told input status limit answered held output all End q before → Ended told status limit answered held output all End q before
all_ended told input status limit answered held output all q before few is r =
    ⊎_elim (λ ended. ended) (λ f. absurd (fails status is f)) (answers_all told input status limit answered held output all q before (omega (arith, few)) r)

hindered : (status : ℕ) → is_items_status status ≡ true → (status ≡ 71) ⊎ ((status ≡ 73) ⊎ ((status ≡ 74) ⊎ (status ≡ 111))) → IsHindered status
hindered status known (inl is) = inl is
hindered status known (inr (inl is)) = inr (inl is)
hindered status known (inr (inr (inl is))) = let no : ⊥ = grind (arith, nat_tests) in absurd no
hindered status known (inr (inr (inr is))) = inr (inr is)

-- any other has ended early
pub early : (told input : Type 0) (status limit answered : ℕ) (held : Contents) (output : Text) (all : List Item) (q : State) (before : Text) → length all ≡ limit → is_items_status status ≡ true → is_status status ≡ false
    → Runs told input status limit answered held output all End q before
    → (Stopped told input status limit answered held output all End q before ⊎ CutOff told status limit answered held output all q before) × IsHindered status
early told input status limit answered held output all q before few known is r = (
  ⊎_elim (λ e. absurd (no_end e)) (λ other. other) r,
  ⊎_elim (λ e. absurd (no_end e)) (λ f. hindered status known f) (answers_all told input status limit answered held output all q before (omega (arith, few)) r),
)
  where
    no_end : Ended told status limit answered held output all End q before → ⊥
    no_end e = let bad : true ≡ false = sym (ap is_status e.status_is ∙ last_status 0 q all refl) ∙ is in cc

-- the statuses of the run of an exercise that has ended early
pub items_known : (status : ℕ) → is_run_status status ≡ true → (status ≡ 65 → ⊥) → (status ≡ 72 → ⊥) → (status ≡ 74 → ⊥) → is_items_status status ≡ true
items_known status known one two three = grind (arith, nat_tests)

pub early_known : (status : ℕ) → is_items_status status ≡ true → is_status status ≡ false → is_reading_status status ≡ true
early_known status known is = grind (arith, nat_tests)

-- what never comes from a source that never fails, and from a stream that ends where its items do
pub none_rose : Rose 0 0 → ⊥
none_rose rose = omega (arith, rose)

end_not : (e : StreamError) → End ≡ Broken e → ⊥
end_not e is = cc

pub never_broken : IsBroken End → ⊥
never_broken broken = ⊎_elim (λ e. end_not (errors.Bad broken.0) e) (λ e. end_not (errors.Short broken.0) e) broken.1

pub never_more : (limit : ℕ) (items : List Item) → length items ≡ limit → HasMore limit items End → ⊥
never_more limit items long more = ⊎_elim (λ over. omega (arith, over, long)) (λ other. other refl) more

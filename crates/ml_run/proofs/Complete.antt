-- A run that answers all items.
use Rattle.std.proofs.Common.{◌≡◌, ◌⊎◌, inl, inr, ⊎_elim, ℕ, ◌≤◌, List, length, refl, arith}
use Rattle.ml_base.specs.Bytes.{Text}
use Rattle.ml_site.specs.Disk.{Contents}
use Rattle.ml_plain.specs.declared.Item.{Item}
use Rattle.ml_plain.specs.Histories.{State}
use Rattle.ml_ending.specs.declared.lines.Why.{Why}
use Rattle.ml_ending.specs.declared.lines.Why.TheVariants as whys
use Rattle.ml_stream.specs.declared.stream_error.StreamError.{StreamError}
use Rattle.ml_ending.specs.Stops.{status_of_why}
use Rattle.ml_stream.specs.Stream.{End, Broken}
use Rattle.ml_run.specs.Endings.{Runs, EndsEarly, AnswersAll}

end_broken : (e : StreamError) → End ≡ Broken e → ⊥
end_broken e is = cc

abbrev Fails : ℕ → Type 0
Fails status = (status ≡ 71) ⊎ ((status ≡ 73) ⊎ ((status ≡ 74) ⊎ (status ≡ 111)))

early_fails : (why : Why) (who : _) (input : Type 0) (limit status : ℕ) (held : Contents) (all : List Item) (q : State) (done after : List Item) → length all ≤ limit → status ≡ status_of_why why
    → EndsEarly why who input limit held all End q done after → Fails status
early_fails (whys.Bad at) who input limit status held all q done after few is e = absurd (end_broken _ e.3)
early_fails (whys.Short at) who input limit status held all q done after few is e = absurd (end_broken _ e.3)
early_fails whys.More who input limit status held all q done after few is e = absurd (⊎_elim (λ more. omega (arith, more, few)) (λ not. not refl) e.2)
early_fails whys.Input who input limit status held all q done after few is e = inr (inr (inl is))
early_fails whys.Memory who input limit status held all q done after few is e = inl is
early_fails whys.Disk who input limit status held all q done after few is e = inr (inr (inr is))
early_fails whys.Usage who input limit status held all q done after few is e = absurd e
early_fails whys.Words who input limit status held all q done after few is e = absurd e
early_fails whys.Long who input limit status held all q done after few is e = absurd e
early_fails whys.Clock who input limit status held all q done after few is e = absurd e
early_fails whys.NoList who input limit status held all q done after few is e = absurd e
early_fails (whys.At name) who input limit status held all q done after few is e = absurd e
early_fails whys.There who input limit status held all q done after few is e = absurd e
early_fails whys.Absent who input limit status held all q done after few is e = absurd e

-- a run over a stream that ends within the limit
pub answers_all : (told input : Type 0) (status limit answered : ℕ) (held : Contents) (output : Text) (all : List Item) (q : State) (before : Text) → length all ≤ limit
    → Runs told input status limit answered held output all End q before → AnswersAll told status limit answered held output all q before
answers_all told input status limit answered held output all q before few r = ⊎_elim
    (λ ended. inl ended)
    (λ other. inr (⊎_elim
    (λ s. early_fails s.why s.who input limit status held all q s.done s.after few s.status_is s.early)
    (λ cut. inr (inl cut.status_is))
    other))
    r

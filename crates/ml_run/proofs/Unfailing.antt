-- A run over a source that never fails.
use Rattle.std.proofs.Common.{inl, inr, ⊎_elim, ℕ, List, Option}
use Rattle.ml_base.specs.Bytes.{Text}
use Rattle.ml_site.specs.Disk.{Contents}
use Rattle.ml_plain.specs.Histories.{State}
use Rattle.ml_plain.specs.declared.Item.{Item}
use Rattle.ml_ending.specs.declared.lines.Why.{Why}
use Rattle.ml_ending.specs.declared.lines.Why.TheVariants as whys
use Rattle.ml_run.specs.Endings.{EndsEarly, Runs, Stopped}
use Rattle.ml_stream.specs.Stream.{StreamEnd}

-- what holds if a source fails, for a source that never does
early : (why : Why) (who : Option ℕ) (input : Type 0) (limit : ℕ) (held : Contents) (all : List Item) (ending : StreamEnd) (q : State) (done after : List Item) → (input → ⊥)
    → EndsEarly why who input limit held all ending q done after → EndsEarly why who ⊥ limit held all ending q done after
early (whys.Bad at) who input limit held all ending q done after never e = e
early (whys.Short at) who input limit held all ending q done after never e = e
early whys.More who input limit held all ending q done after never e = e
early whys.Input who input limit held all ending q done after never e = absurd (never e.1)
early whys.Memory who input limit held all ending q done after never e = e
early whys.Disk who input limit held all ending q done after never e =
    (e.0, λ none. ⊎_elim (λ a. inl a) (λ more. ⊎_elim (λ b. inr (inl b)) (λ f. absurd (never f)) more) (e.1 none))
early whys.Usage who input limit held all ending q done after never e = absurd e
early whys.Words who input limit held all ending q done after never e = absurd e
early whys.Long who input limit held all ending q done after never e = absurd e
early whys.Clock who input limit held all ending q done after never e = absurd e
early whys.NoList who input limit held all ending q done after never e = absurd e
early (whys.At name) who input limit held all ending q done after never e = absurd e
early whys.There who input limit held all ending q done after never e = absurd e
early whys.Absent who input limit held all ending q done after never e = absurd e

pub never_fails : (told input : Type 0) (status limit answered : ℕ) (held : Contents) (output : Text) (all : List Item) (ending : StreamEnd) (q : State) (before : Text) → (input → ⊥)
    → Runs told input status limit answered held output all ending q before → Runs told ⊥ status limit answered held output all ending q before
never_fails told input status limit answered held output all ending q before never r =
    ⊎_elim (λ ended. inl ended) (λ more. ⊎_elim (λ s. inr (inl (stopped s))) (λ cut. inr (inr cut)) more) r
  where
    stopped : Stopped told input status limit answered held output all ending q before → Stopped told ⊥ status limit answered held output all ending q before
    stopped s = record {
      why = s.why;
      who = s.who;
      done = s.done;
      after = s.after;
      split = s.split;
      count = s.count;
      reached = s.reached;
      early = early s.why s.who input limit held all ending q s.done s.after never s.early;
      status_is = s.status_is;
      put = s.put;
    }

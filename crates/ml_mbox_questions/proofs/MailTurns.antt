-- One more mail in the stream.
use Rattle.std.proofs.Common.{◌≡◌, ℕ, suc, ◌+◌, List, [], ◌∷◌, ◌++◌, length, Option, Some, Result, Err, refl, sym, ap, ◌∙◌, subst, arith, append_assoc}
use Rattle.std.specs.Prelude.{All, Any, IsErrAnd}
use Rattle.std.specs.Option.{MatchOption}
use Rattle.std.proofs.lemmas.List.Elements.{All-cons}
use Rattle.ml_base.specs.Bytes.{Text}
use Rattle.ml_config.specs.declared.configuration.Config.{Config}
use Rattle.ml_plain.specs.Items.{numbered}
use Rattle.ml_stream.specs.Writing.{spelled_item, stream_text}
use Rattle.ml_mbox.specs.Importing.{act_of, acts_of}
use Rattle.ml_mbox.specs.declared.mails.Boxed.{Boxed}
use Rattle.ml_mbox_questions.specs.declared.error.ImportError.{ImportError}
use Rattle.ml_mbox_questions.specs.Import.{Fits, IsLong}

-- the mails that were left are this one and then those that are left now
abbrev pub IsNext : List Boxed → List Boxed → Option Boxed → Type 0
IsNext old new found = MatchOption found ((old ≡ []) × (new ≡ [])) (λ mail. old ≡ mail ∷ new)

pub next_is : (old new : List Boxed) (found : Option Boxed) (mail : Boxed) → IsNext old new found → found ≡ Some mail → old ≡ mail ∷ new
next_is old new found mail next is = subst (IsNext old new) is next

-- the error that was passed on
pub same_error : (r : Result Text ImportError) (x y : ImportError) → IsErrAnd r (λ e. e ≡ x) → r ≡ Err y → x ≡ y
same_error r x y handed is = sym (subst (λ (r : Result Text ImportError). IsErrAnd r (λ e. e ≡ x)) is handed)

module _ (c : Config) (old new : List Boxed) (mail : Boxed) (cut : old ≡ mail ∷ new) where
  pub fits_more : Fits c mail → All (Fits c) new → All (Fits c) old
  fits_more is all = subst (λ (ms : List Boxed). All (Fits c) ms) (sym cut) (All-cons (Fits c) mail new is all)

  pub long_first : IsLong c mail → Any (IsLong c) old
  long_first is = subst (λ (ms : List Boxed). Any (IsLong c) ms) (sym cut) (0, mail, omega arith, refl, is)

  pub long_later : Any (IsLong c) new → Any (IsLong c) old
  long_later any = subst (λ (ms : List Boxed). Any (IsLong c) ms) (sym cut) (suc any.0, any.1, omega (arith, any.2), any.3, any.4)

  pub one_more : (number moment : ℕ) (out added all : Text) → added ≡ out ++ spelled_item (record { number = number; moment = moment; act = act_of c mail })
      → out ++ stream_text (numbered number moment (acts_of c old)) ≡ all → added ++ stream_text (numbered (number + 1) moment (acts_of c new)) ≡ all
  one_more number moment out added all is before =
      ap (λ (t : Text). t ++ stream_text (numbered (number + 1) moment (acts_of c new))) is
      ∙ append_assoc out (spelled_item (record { number = number; moment = moment; act = act_of c mail })) (stream_text (numbered (number + 1) moment (acts_of c new)))
      ∙ ap (λ (ms : List Boxed). out ++ stream_text (numbered number moment (acts_of c ms))) (sym cut) ∙ before

  pub count : (number all : ℕ) → number + length old ≡ all → number + 1 + length new ≡ all
  count number all before = let size = ap length cut in omega (arith, size, before)

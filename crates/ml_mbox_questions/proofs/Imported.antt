-- The answer of an import, and the items of the stream that it is.
use Rattle.std.proofs.Common.{◌≡◌, ℕ, Bool, true, false, cond, ◌||◌, List, [], ◌∷◌, Option, Some, None, Result, Ok, Err, refl, sym, ap, ◌∙◌, subst}
use Rattle.std.specs.Prelude.{All, Any, unwrap_or}
use Rattle.std.specs.List.{AllByRecursion, list_any}
use Rattle.std.proofs.lemmas.List.Elements.{All-from_recursion}
use Rattle.std.proofs.lemmas.List.Folds.{list_any_none, list_any-from_Any}
use Rattle.ml_base.specs.Bytes.{Text}
use Rattle.ml_config.specs.declared.configuration.Config.{Config}
use Rattle.ml_mbox_questions.specs.Import.{Fits, IsLong, is_long}
use Rattle.ml_mbox.specs.Importing.{act_of, acts_of}
use Rattle.ml_mbox.specs.Reading.{read}
use Rattle.ml_mbox.specs.declared.mails.Boxed.{Boxed}
use Rattle.ml_plain.specs.Items.{numbered}
use Rattle.ml_reading.specs.Meanings.{IsKnown}
use Rattle.ml_reading.specs.declared.question.Answer.{Answer}
use Rattle.ml_reading.specs.declared.question.Answer.TheVariants as answers
use Rattle.ml_stream.specs.Writing.{stream_text}
use Rattle.ml_mbox_questions.specs.Imports.{import_answer, mails_of}
use Rattle.ml_mbox_questions.specs.Questions.{importing_by, importing_meaning, importing_of}
use Rattle.ml_mbox_questions.specs.declared.import_question.Importing.{Importing}

-- whether one of the deliveries is too long, by the mails
any_made : (c : Config) (mails : List Boxed) → list_any is_long (acts_of c mails) ≡ list_any (λ (m : Boxed). is_long (act_of c m)) mails
any_made c [] = refl
any_made c (m ∷ ms) = ap (λ (b : Bool). is_long (act_of c m) || b) (any_made c ms)

none_long : (c : Config) (mails : List Boxed) → All (Fits c) mails → list_any is_long (acts_of c mails) ≡ false
none_long c mails all = any_made c mails ∙ list_any_none (λ (m : Boxed). is_long (act_of c m)) mails all

one_long : (c : Config) (mails : List Boxed) → Any (IsLong c) mails → list_any is_long (acts_of c mails) ≡ true
one_long c mails any = any_made c mails ∙ list_any-from_Any (λ (m : Boxed). is_long (act_of c m)) mails any

abbrev when_long : Config → ℕ → ℕ → List Boxed → Bool → Answer
when_long c first moment mails t = cond t answers.Long (answers.Text (stream_text (numbered first moment (acts_of c mails))))

pub long_answer : (c : Config) (first moment : ℕ) (mails : List Boxed) → Any (IsLong c) mails → answers.Long ≡ import_answer c first moment mails
long_answer c first moment mails any = sym (ap (when_long c first moment mails) (one_long c mails any))

pub stream_answer : (c : Config) (first moment : ℕ) (mails : List Boxed) (text : Text) → text ≡ stream_text (numbered first moment (acts_of c mails)) → All (Fits c) mails → answers.Text text ≡ import_answer c first moment mails
stream_answer c first moment mails text is all = ap answers.Text is ∙ sym (ap (when_long c first moment mails) (none_long c mails all))

pub known_answer : (f m : ℕ) (t : Text) (c : Config) (first moment : ℕ) (mails : List Boxed) (answer : Answer) → answer ≡ import_answer c first moment mails → IsKnown (importing_meaning f m t) answer
known_answer f m t c first moment mails answer is = subst (IsKnown (importing_meaning f m t)) (sym is) (go (list_any is_long (acts_of c mails)))
  where
    go : (b : Bool) → IsKnown (importing_meaning f m t) (when_long c first moment mails b)
    go true = refl
    go false = tt

-- what a question of an import was made of
record IsOf (first moment : ℕ) (text : Text) (question : Importing) : Type 0 where
  pub mails : List Boxed
  pub found : read text ≡ Some mails
  pub is : question ≡ record { words = first; moment = moment; text = text }

one_question : (made : Result Importing ℕ) (q r : Importing) → made ≡ Ok q → made ≡ Ok r → r ≡ q
one_question made q r is other = cc

no_question : (made : Result Importing ℕ) (at : ℕ) (q : Importing) → made ≡ Err at → made ≡ Ok q → ⊥
no_question made at q is other = cc

made_of : (first moment : ℕ) (text : Text) (question : Importing) (o : Option (List Boxed)) → read text ≡ o → importing_by first moment text o ≡ Ok question → IsOf first moment text question
made_of first moment text question None found made = absurd (no_question (importing_by first moment text None) 0 question refl made)
made_of first moment text question (Some mails) found made = record { mails = mails; found = found; is = one_question (importing_by first moment text (Some mails)) (record { words = first; moment = moment; text = text }) question refl made }

each_fits : (c : Config) (mails : List Boxed) → list_any is_long (acts_of c mails) ≡ false → AllByRecursion (Fits c) mails
each_fits c [] none = tt
each_fits c (m ∷ ms) none = go (is_long (act_of c m)) refl none (each_fits c ms)
  where
    go : (t : Bool) → is_long (act_of c m) ≡ t → (t || list_any is_long (acts_of c ms)) ≡ false → (list_any is_long (acts_of c ms) ≡ false → AllByRecursion (Fits c) ms) → AllByRecursion (Fits c) (m ∷ ms)
    go true is bad more = cc
    go false is rest more = (is, more rest)

-- a text that answers an import is the stream of the mails, none of which is too long
pub record IsStreamOf (c : Config) (first moment : ℕ) (text stream : Text) : Type 0 where
  pub mails : List Boxed
  pub found : read text ≡ Some mails
  pub fits : All (Fits c) mails
  pub is : stream ≡ stream_text (numbered first moment (acts_of c mails))

one_text : (a b : Text) → answers.Text a ≡ answers.Text b → a ≡ b
one_text a b e = cc

no_text : (a : Text) → answers.Text a ≡ answers.Long → ⊥
no_text a e = cc

pub stream_of : (c : Config) (first moment : ℕ) (text stream : Text) (question : Importing) → importing_of first moment text ≡ Ok question
    → answers.Text stream ≡ import_answer c question.words question.moment (mails_of question.text) → IsStreamOf c first moment text stream
stream_of c first moment text stream question made answer =
    let of = made_of first moment text question (read text) refl made in
    go of.mails of.found (list_any is_long (acts_of c of.mails)) refl
    (answer ∙ ap (λ (q : Importing). import_answer c q.words q.moment (mails_of q.text)) of.is ∙ ap (λ (o : Option (List Boxed)). import_answer c first moment (unwrap_or o [])) of.found)
  where
    go : (mails : List Boxed) → read text ≡ Some mails → (t : Bool) → list_any is_long (acts_of c mails) ≡ t → answers.Text stream ≡ when_long c first moment mails (list_any is_long (acts_of c mails)) → IsStreamOf c first moment text stream
    go mails found true long same = absurd (no_text stream (same ∙ ap (when_long c first moment mails) long))
    go mails found false long same = record {
      mails = mails;
      found = found;
      fits = All-from_recursion (Fits c) mails (each_fits c mails long);
      is = one_text stream (stream_text (numbered first moment (acts_of c mails))) (same ∙ ap (when_long c first moment mails) long);
    }

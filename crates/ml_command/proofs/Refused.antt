-- What is done for words that ask for nothing is what the program does for them.
use Rattle.std.proofs.Common.{◌≡◌, inl, inr, ⊎_elim, ℕ, Bool, true, false, None, Result, Ok, Err, refl, subst, arith}
use Rattle.ml_site.specs.declared.site.Site.{Ghosts}
use Rattle.ml_site.specs.declared.source.Clock.{Ghosts as ClockGhosts}
use Rattle.ml_site.specs.declared.source.Source.{Ghosts as SourceGhosts}
use Rattle.ml_ending.specs.declared.lines.Why.{Why}
use Rattle.ml_ending.specs.Endings.{Says}
use Rattle.ml_command.specs.Commands.{Does, LeavesInput, ReadsClock, why_of}
use Rattle.ml_command.specs.Delivering.{longest_message}
use Rattle.ml_command.specs.Giving.{LeavesInputOf, ReadsClockOf}
use Rattle.ml_command.specs.Inquiries.{Asking, ByWords, ByInput, asking_of}
use Rattle.ml_command.specs.Reading.{Reads}
use Rattle.ml_command.specs.declared.words.Command.{Command}
use Rattle.ml_command.specs.declared.words.Command.TheVariants.{Spool, Deliver, Make, Exercise, Single, Give}
use Rattle.ml_command.specs.declared.words.WordsError.{WordsError}
use Rattle.ml_command.specs.declared.words.WordsError.TheVariants.{Memory}
use Rattle.ml_input.specs.Asking.{ReadsClock as ReadsClockWhere}
use Rattle.ml_input.proofs.Pieces.{nothing_read}

-- an input that isn't read is as it was
kept_of_asking : {I : Type 0} (source : SourceGhosts I) (asking : Asking) (input : I) → LeavesInputOf source asking input input
kept_of_asking source (ByWords asked) input = refl
kept_of_asking source (ByInput asked) input = nothing_read source asked.limit input

input_kept : {I : Type 0} (source : SourceGhosts I) (wanted : Result Command WordsError) (input : I) → LeavesInput source wanted input input
input_kept source (Ok (Spool limit)) input = refl
input_kept source (Ok (Deliver number sender recipient)) input = nothing_read source longest_message input
input_kept source (Ok (Make config key)) input = refl
input_kept source (Ok (Exercise count)) input = refl
input_kept source (Ok (Single number act)) input = refl
input_kept source (Ok (Give inquiry)) input = kept_of_asking source (asking_of inquiry) input
input_kept source (Err error) input = refl

-- a clock that isn't read is as it was
kept_where : {K : Type 0} (clocks : ClockGhosts K) (timed : Bool) (clock : K) → ReadsClockWhere clocks timed clock clock
kept_where clocks true clock = omega arith
kept_where clocks false clock = refl

clock_of_asking : {K : Type 0} (clocks : ClockGhosts K) (asking : Asking) (clock : K) → ReadsClockOf clocks asking clock clock
clock_of_asking clocks (ByWords asked) clock = refl
clock_of_asking clocks (ByInput asked) clock = kept_where clocks asked.timed clock

pub clock_kept : {K : Type 0} (clocks : ClockGhosts K) (wanted : Result Command WordsError) (clock : K) → ReadsClock clocks wanted clock clock
clock_kept clocks (Ok (Spool limit)) clock = refl
clock_kept clocks (Ok (Deliver number sender recipient)) clock = omega arith
clock_kept clocks (Ok (Make config key)) clock = refl
clock_kept clocks (Ok (Exercise count)) clock = refl
clock_kept clocks (Ok (Single number act)) clock = omega arith
clock_kept clocks (Ok (Give inquiry)) clock = clock_of_asking clocks (asking_of inquiry) clock
clock_kept clocks (Err error) clock = refl

same_error : (a b : WordsError) → ◌≡◌ {A = Result Command WordsError} (Err a) (Err b) → a ≡ b
same_error a b e = cc

-- a stop line says why words ask for nothing, or that memory ran out
pub refused : {I S K : Type 0} (source : SourceGhosts I) (ghosts : Ghosts S) (clocks : ClockGhosts K) (wanted : Result Command WordsError) (error : WordsError) (why : Why) (input : I) (old new : S) (clock : K) (status : ℕ)
    → Reads wanted (Err error) → why ≡ why_of error → Says ghosts old new status None why → Does source ghosts clocks wanted input input old new clock clock status
refused source ghosts clocks wanted error why input old new clock status reads line says =
    let said : Says ghosts old new status None (why_of error) = subst (λ (w : Why). Says ghosts old new status None w) line says in
    ⊎_elim (λ is. subst (λ (w : Result Command WordsError). Does source ghosts clocks w input input old new clock clock status) is (inl (said, refl)))
    (λ is. inr (subst (λ (e : WordsError). Says ghosts old new status None (why_of e)) (same_error error Memory is) said, input_kept source wanted input)) reads

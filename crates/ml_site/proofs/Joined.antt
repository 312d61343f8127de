-- What holds of the record whether a call was added to it or not.
use Rattle.std.proofs.Common.{◌≡◌, inl, inr, ⊎_elim, ◌≤◌, ℕ, ◌+◌, Bool, true, false, cond, List, [], ◌∷◌, ◌++◌, length, Option, Ok, Err, sym, ◌∙◌, ap, subst, arith}
use Rattle.std.proofs.lemmas.List.{append-nil}
use Rattle.std.specs.Prelude.{nat_le}
use Rattle.ml_base.specs.declared.names.Name.{Name}
use Rattle.ml_site.specs.declared.call.Call.{Call}
use Rattle.ml_site.specs.declared.call.Call.TheVariants.{WriteLog}
use Rattle.ml_site.specs.Disk.{Contents, Part, Disk, Range, Pends, IsImage, Now, Giving, Elapses, log_with}
use Rattle.ml_site.specs.Recorded.{step, after, given, size_given, pends, Left, total}
use Rattle.ml_site.proofs.Pushed.{after-push, given-append, elapses_quiet, elapses_same}

module _ (start : Disk) (calls : List Call) (call : Call) (longer : List Call) where
  abbrev before : Disk
  before = after start calls

  pub stepped : longer ≡ calls ++ call ∷ [] → after start longer ≡ step before call
  stepped is = ap (after start) is ∙ after-push start calls call

  pub given_more : longer ≡ calls ++ call ∷ [] → given longer ≡ given calls + size_given call
  given_more is = omega (arith, ap given is, given-append calls (call ∷ []))

  -- when it isn't known whether the call was added
  module _ (b : Bool) (is : longer ≡ cond b (calls ++ call ∷ []) calls) where
    pub reads_same : (step before call).reads ≡ before.reads → (after start longer).reads ≡ before.reads
    reads_same same = elim b as (λ v. longer ≡ cond v (calls ++ call ∷ []) calls → (after start longer).reads ≡ before.reads) [
      | true ↦ λ more. ap (λ (d : Disk). d.reads) (stepped more) ∙ same
      | false ↦ λ none. ap (λ (cs : List Call). (after start cs).reads) none
    ] is

    -- what a call would change, it changes if it was added
    pub stands : {A : Type 0} (f : Disk → A) → f (after start longer) ≡ cond b (f (step before call)) (f before)
    stands {A} f = elim b as (λ v. longer ≡ cond v (calls ++ call ∷ []) calls → f (after start longer) ≡ cond v (f (step before call)) (f before)) [
      | true ↦ λ more. ap f (stepped more)
      | false ↦ λ none. ap (λ (cs : List Call). f (after start cs)) none
    ] is

    pub given_same : size_given call ≡ 0 → given longer ≡ given calls
    given_same quiet = elim b as (λ v. longer ≡ cond v (calls ++ call ∷ []) calls → given longer ≡ given calls) [
      | true ↦ λ more. omega (arith, given_more more, quiet)
      | false ↦ λ none. ap given none
    ] is

    -- a call that changes nothing
    pub disk_same : step before call ≡ before → after start longer ≡ before
    disk_same same = elim b as (λ v. longer ≡ cond v (calls ++ call ∷ []) calls → after start longer ≡ before) [
      | true ↦ λ more. stepped more ∙ same
      | false ↦ λ none. ap (after start) none
    ] is

    -- what was kept beside the record stays right after a call that changes nothing that is read and puts nothing out
    pub log_kept : (log : List ℕ) → log ≡ before.reads.log → (step before call).reads ≡ before.reads → log ≡ (after start longer).reads.log
    log_kept log was same = was ∙ sym (ap (λ (d : Contents). d.log) (reads_same same))

    pub file_kept : (name : Name) (file : Option (List ℕ)) → file ≡ before.reads.files name → (step before call).reads ≡ before.reads → file ≡ (after start longer).reads.files name
    file_kept name file was same = was ∙ sym (ap (λ (d : Contents). d.files name) (reads_same same))

    pub given_kept : (output : List ℕ) → length output ≡ given calls → size_given call ≡ 0 → length output ≡ given longer
    given_kept output was quiet = was ∙ sym (given_same quiet)

    pub time_quiet : (output : List ℕ) → length output ≡ given calls → size_given call ≡ 0 → Elapses (length calls) (length longer) (Left start calls output) (Left start longer output) (Now (after start longer) output)
    time_quiet output output_is quiet = elim b as (λ v. longer ≡ cond v (calls ++ call ∷ []) calls → Elapses (length calls) (length longer) (Left start calls output) (Left start longer output) (Now (after start longer) output)) [
      | true ↦ λ more. elapses_quiet start calls call output output_is quiet longer more
      | false ↦ λ none. subst (λ (cs : List Call). Elapses (length calls) (length cs) (Left start calls output) (Left start cs output) (Now (after start cs) output)) (sym none) (elapses_same start calls output (Now (after start calls) output))
    ] is

    pub pends_err : {E : Type 0} (e : E) (part : Part) → step before call ≡ pends before part before.reads → Pends (Err e) part before (after start longer)
    pends_err e part stepping = elim b as (λ v. longer ≡ cond v (calls ++ call ∷ []) calls → Pends (Err e) part before (after start longer)) [
      | true ↦ λ more. let e : after start longer ≡ pends before part before.reads = stepped more ∙ stepping in record {
        settled = ap (λ (d : Disk). d.settled) e;
        ok = tt;
        err = inl (ap (λ (d : Disk). d.pending) e);
      }
      | false ↦ λ none. let e : after start longer ≡ before = ap (after start) none in record {
        settled = ap (λ (d : Disk). d.settled) e;
        ok = tt;
        err = inr (ap (λ (d : Disk). d.pending) e);
      }
    ] is

-- a call that was done
pub pends_ok : {E : Type 0} (part : Part) (reads : Contents) (old new : Disk) → new ≡ pends old part reads → Pends {E = E} (Ok tt) part old new
pends_ok part reads old new is = record { settled = ap (λ (d : Disk). d.settled) is; ok = ap (λ (d : Disk). d.pending) is; err = tt }

pub step_write : (disk : Disk) (at : ℕ) (bytes : _) → at ≤ length disk.reads.log → step disk (WriteLog at bytes) ≡ pends disk (Range at (length bytes)) (log_with disk.reads at bytes)
step_write disk at bytes le = let fits : nat_le at (length disk.reads.log) ≡ true = grind arith in ap (λ (b : Bool). pends disk (Range at (length bytes)) (cond b (log_with disk.reads at bytes) disk.reads)) fits

total-append : (size : Call → ℕ) (calls more : List Call) → total size (calls ++ more) ≡ total size calls + total size more
total-append size [] more = omega arith
total-append size (call ∷ calls) more = omega (arith, total-append size calls more)

pub total_more : (size : Call → ℕ) (calls longer : List Call) (call : Call) → longer ≡ calls ++ call ∷ [] → total size longer ≡ total size calls + size call
total_more size calls longer call is = omega (arith, ap (total size) is, total-append size calls (call ∷ []))

pub total_same : (size : Call → ℕ) (calls longer : List Call) (b : Bool) (call : Call) → longer ≡ cond b (calls ++ call ∷ []) calls → size call ≡ 0 → total size longer ≡ total size calls
total_same size calls longer true call is none = omega (arith, total_more size calls longer call is, none)
total_same size calls longer false call is none = ap (total size) is

-- a piece of which nothing was put out
pub elapses_nothing_given : (start : Disk) (calls longer : List Call) (output piece : List ℕ) → after start longer ≡ after start calls
    → Elapses (length calls) (length longer) (Left start calls output) (Left start longer output) (Now (after start longer) output)
    → Elapses (length calls) (length longer) (Left start calls output) (Left start longer output) (Giving (after start calls) output piece)
elapses_nothing_given start calls longer output piece same time = record {
  later = time.later;
  nothing_else = λ t left out le l. ⊎_elim
      (λ past. inl past)
      (λ (now : Now (after start longer) output left out). inr (subst (λ (d : Disk). IsImage d left) same now.0, (0, now.1 ∙ sym (append-nil output))))
      (time.nothing_else t left out le l);
}

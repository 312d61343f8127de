-- Calls that read, one after the other.
use Rattle.std.proofs.Common.{◌≡◌, Err, IfErr, IsErrOf, IsTrue, Ok, Result, subst, sym}
use Rattle.ml_base.specs.Dir.{Dir}
use Rattle.ml_base.specs.PartErrors.{OnDamaged}
use Rattle.ml_base.specs.ReadFiles.{AreKept, IsReading, NamesDamaged}
use Rattle.ml_base.specs.declared.files.Files.{Ghosts}
use Rattle.ml_base.specs.declared.names.Name.{Name}
use Rattle.ml_base.specs.declared.part_error.PartError.{PartError}
use Rattle.ml_base.specs.declared.part_error.PartError.TheVariants.{Fault}
use Rattle.ml_base.proofs.DamagedNames.{err_both_damaged, err_damaged}
use Rattle.ml_base.proofs.ReadingLemmas.{KeepsOn, kept_read, kept_then, reading_ok, reading_then}
use Rattle.ml_acts.proofs.Damages.{named_so}
use Rattle.ml_acts.proofs.OfActs.{KeepsMap}

pub reads_then : {F T U : Type 0} {ghosts : Ghosts F} {a b c : F} {r : Result T PartError} {s : Result U PartError} → KeepsOn ghosts → IsReading ghosts a b r → IsReading ghosts b c s → IsReading ghosts a c s
reads_then {ghosts = ghosts} {a = a} {b = b} {c = c} {r = r} {s = s} on one two = reading_then ghosts on a b c s (kept_read ghosts a b r one) two

pub one_kept : {F T : Type 0} {ghosts : Ghosts F} {a b : F} {r : Result T PartError} → IsReading ghosts a b r → AreKept ghosts a b
one_kept is = record { kept = is.kept; later = is.later }

pub both_kept : {F T U : Type 0} {ghosts : Ghosts F} {a b c : F} {r : Result T PartError} {s : Result U PartError} → KeepsOn ghosts → IsReading ghosts a b r → IsReading ghosts b c s → AreKept ghosts a c
both_kept {ghosts = ghosts} {a = a} {b = b} {c = c} {r = r} {s = s} on one two = kept_then ghosts on a b c (kept_read ghosts a b r one) (kept_read ghosts b c s two)

-- what is answered after them, if it is no fault
pub reads_ok : {F T : Type 0} {ghosts : Ghosts F} {a b : F} {x : T} → AreKept ghosts a b → IsReading ghosts a b (Ok x)
reads_ok {ghosts = ghosts} {a = a} {b = b} {x = x} kept = reading_ok ghosts a b x kept

pub reads_beside : {F T : Type 0} {ghosts : Ghosts F} {a b : F} {r : Result T PartError} → AreKept ghosts a b → (IsErrOf r Fault → ⊥) → IsReading ghosts a b r
reads_beside kept none = record { kept = kept.kept; later = kept.later; cause = λ bad. absurd (none bad) }

-- The file that a call names, after calls that only read. It may name fewer, and what it names is damaged in other terms.
pub names_after : {F T : Type 0} {ghosts : Ghosts F} {a b : F} {Few May Worse : Name → Type 0} {r : Result T PartError} (Bad : Dir → Name → Type 0) → KeepsMap ghosts → AreKept ghosts a b → ((name : Name) → Few name → May name)
    → (IsTrue ghosts.tells → (name : Name) → Few name → Bad (ghosts.map a) name → Worse name) → NamesDamaged ghosts Few (Bad (ghosts.map b)) r → NamesDamaged ghosts May Worse r
names_after {ghosts = ghosts} {a = a} {b = b} {Few = Few} {May = May} {Worse = Worse} {r = r} Bad maps kept may worse is = record {
  named = err_damaged r Few May may is.named;
  damaged = λ t. err_both_damaged r Few (Bad (ghosts.map a)) Worse (worse t) is.named (subst (λ (d : Dir). IfErr r (λ e. OnDamaged e (Bad d))) (maps a b t kept.kept) (is.damaged t));
}

-- of a first call
pub names_so : {F T : Type 0} {ghosts : Ghosts F} {Few May Bad Worse : Name → Type 0} {r : Result T PartError} → ((name : Name) → Few name → May name) → ((name : Name) → Few name → Bad name → Worse name) → NamesDamaged ghosts Few Bad r
    → NamesDamaged ghosts May Worse r
names_so {ghosts = ghosts} {Few = Few} {May = May} {Bad = Bad} {Worse = Worse} {r = r} may worse is = named_so ghosts May r Few Bad Worse may worse is

-- the same error in an answer of another type
pub names_err : {F T U : Type 0} {ghosts : Ghosts F} {May Bad : Name → Type 0} {r : Result U PartError} {e : PartError} → NamesDamaged {T = T} ghosts May Bad (Err e) → r ≡ Err e → NamesDamaged ghosts May Bad r
names_err {U = U} {ghosts = ghosts} {May = May} {Bad = Bad} is same = subst (λ (r : Result U PartError). NamesDamaged ghosts May Bad r) (sym same) (record { named = is.named; damaged = is.damaged })

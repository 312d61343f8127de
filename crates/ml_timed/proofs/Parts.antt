-- The parts of a run, one after another.
use Rattle.std.proofs.Common.{◌≡◌, ◌≤◌, ◌++◌, ◌∙◌, Bool, true, List, Result, Ok, Err, IsErrOf, IsTrue, IfErr, refl, sym, ap, ap₂, subst}
use Rattle.ml_base.specs.Dir.{Dir, are_files, touches_only, with_puts}
use Rattle.ml_base.specs.Faults.{Rose}
use Rattle.ml_base.specs.Layers.{files_below, puts_over}
use Rattle.ml_base.specs.PartErrors.{OnDamaged}
use Rattle.ml_base.specs.ReadFiles.{AreKept, NamesDamaged}
use Rattle.ml_base.specs.declared.files.Files.{Ghosts}
use Rattle.ml_base.specs.declared.layer.Layer.{Layer}
use Rattle.ml_base.specs.declared.names.Name.{Name}
use Rattle.ml_base.specs.declared.part_error.PartError.{PartError}
use Rattle.ml_base.specs.declared.part_error.PartError.TheVariants.{Fault, Memory}
use Rattle.ml_base.specs.declared.puts.Put.{Put}
use Rattle.ml_base.proofs.DamagedNames.{err_both_damaged, err_damaged}
use Rattle.ml_base.proofs.ReadingLemmas.{KeepsItself, KeepsOn, kept_read, kept_self, kept_then, reading_ok, reading_then}
use Rattle.ml_acts.specs.Growing.{IsGrown}
use Rattle.ml_acts.specs.Spelled.{AreSpelled, DamagesNothing}
use Rattle.ml_acts.proofs.Grown.{grown_by, grown_none, grown_then}
use Rattle.ml_acts.proofs.Harmless.{harmless_more, harmless_same, harmless_then}
use Rattle.ml_acts.proofs.OfActs.{KeepsMap}
use Rattle.ml_timed.specs.Parts.{AnswersPart, over}
use Rattle.ml_timed.proofs.Layered.{laid_over}

-- a layer that was only read
pub record HasRead {F : Type 0} (ghosts : Ghosts F) (old new : Layer F) : Type 0 where
  pub read : AreKept ghosts (files_below old) (files_below new)
  pub same : puts_over new ≡ puts_over old

pub only_read : {F : Type 0} (ghosts : Ghosts F) (old new : Layer F) → ghosts.kept (files_below old) (files_below new) × (puts_over new ≡ puts_over old) → ghosts.faults (files_below old) ≤ ghosts.faults (files_below new) → HasRead ghosts old new
only_read ghosts old new kept later = record { read = record { kept = kept.0; later = later }; same = kept.1 }

pub read_then : {F : Type 0} {ghosts : Ghosts F} {a b c : Layer F} → KeepsOn ghosts → HasRead ghosts a b → HasRead ghosts b c → HasRead ghosts a c
read_then {ghosts = ghosts} {a = a} {b = b} {c = c} on one two = record { read = kept_then ghosts on (files_below a) (files_below b) (files_below c) one.read two.read; same = two.same ∙ one.same }

-- and to which puts could not be added
pub read_still : {F : Type 0} {ghosts : Ghosts F} {a b c : Layer F} → HasRead ghosts a b → files_below c ≡ files_below b → puts_over c ≡ puts_over b → HasRead ghosts a c
read_still {ghosts = ghosts} {a = a} read below puts = record { read = subst (λ f. AreKept ghosts (files_below a) f) (sym below) read.read; same = puts ∙ read.same }

-- what a part does, whatever it answers
pub record HasLaid {F : Type 0} (may : Name → Bool) (ghosts : Ghosts F) (old new : Layer F) : Type 0 where
  pub grown : IsGrown may (puts_over old) (puts_over new)
  pub harmless : IsTrue ghosts.tells → DamagesNothing (over ghosts old old) (over ghosts old new)
  pub read : AreKept ghosts (files_below old) (files_below new)

pub has_laid : {F T : Type 0} {may : Name → Bool} {ghosts : Ghosts F} {May : Name → Type 0} {Bad : Dir → Dir → Name → Type 0} {a b : Layer F} {r : Result T PartError} → AnswersPart may ghosts May Bad a b r → HasLaid may ghosts a b
has_laid {ghosts = ghosts} {a = a} {b = b} {r = r} part = record { grown = part.grown; harmless = part.harmless; read = kept_read ghosts (files_below a) (files_below b) r part.reads }

-- it does nothing if the layer was only read
pub laid_none : {F : Type 0} {may : Name → Bool} {ghosts : Ghosts F} {a b : Layer F} → HasRead ghosts a b → HasLaid may ghosts a b
laid_none {may = may} {ghosts = ghosts} {a = a} {b = b} read = record {
  grown = subst (λ (t : List Put). IsGrown may (puts_over a) t) (sym read.same) (grown_none may (puts_over a));
  harmless = λ t. harmless_same (ghosts.map (files_below a)) (puts_over a) (puts_over b) read.same;
  read = read.read;
}

pub laid_self : {F : Type 0} {may : Name → Bool} (ghosts : Ghosts F) → KeepsItself ghosts → (files : Layer F) → HasLaid may ghosts files files
laid_self ghosts itself files = laid_none (record { read = kept_self ghosts itself (files_below files); same = refl })

-- it lays the puts of an act, after a call that only read
pub laid_put : {F : Type 0} {may : Name → Bool} {ghosts : Ghosts F} {a b c : Layer F} (txn : List Put) → HasRead ghosts a b → files_below c ≡ files_below b → puts_over c ≡ puts_over b ++ txn → touches_only may txn ≡ true → IsTrue (are_files txn)
    → (IsTrue ghosts.tells → AreSpelled (over ghosts a a) txn) → HasLaid may ghosts a c
laid_put {ghosts = ghosts} {a = a} {c = c} txn read below puts own files spelled =
    let is : puts_over c ≡ puts_over a ++ txn = puts ∙ ap (λ (t : List Put). t ++ txn) read.same in
    record {
      grown = record { more = txn; is = is; own = own; files = files };
      harmless = λ t. harmless_more (over ghosts a a) (over ghosts a c) txn (laid_over (ghosts.map (files_below a)) (puts_over a) (puts_over c) txn is) (spelled t);
      read = subst (λ f. AreKept ghosts (files_below a) f) (sym below) read.read;
    }

-- one part, and then another
pub laid_then : {F : Type 0} {may : Name → Bool} {ghosts : Ghosts F} {a b c : Layer F} → KeepsOn ghosts → KeepsMap ghosts → HasLaid may ghosts a b → HasLaid may ghosts b c → HasLaid may ghosts a c
laid_then {may = may} {ghosts = ghosts} {a = a} {b = b} {c = c} on maps one two = record {
  grown = grown_then may (puts_over a) (puts_over b) (puts_over c) one.grown two.grown;
  harmless = λ t. harmless_then (ghosts.map (files_below a)) (ghosts.map (files_below b)) (puts_over a) (puts_over b) (puts_over c) (maps (files_below a) (files_below b) t one.read.kept) (one.harmless t) (two.harmless t);
  read = kept_then ghosts on (files_below a) (files_below b) (files_below c) one.read two.read;
}

pub laid_wider : {F : Type 0} {few may : Name → Bool} {ghosts : Ghosts F} {a b : Layer F} → ((name : Name) → few name ≡ true → may name ≡ true) → HasLaid few ghosts a b → HasLaid may ghosts a b
laid_wider {few = few} {may = may} {a = a} {b = b} wider laid = record {
  grown = grown_by may few (puts_over a) (puts_over b) laid.grown.more wider laid.grown.is laid.grown.own laid.grown.files;
  harmless = laid.harmless;
  read = laid.read;
}

-- A part's answer, after what was laid before it. It may write and read less, and what it names is damaged in other terms.
pub part_after : {F T : Type 0} {few may : Name → Bool} {ghosts : Ghosts F} {Few May : Name → Type 0} {Bad Worse : Dir → Dir → Name → Type 0} {a b c : Layer F} {r : Result T PartError} → KeepsOn ghosts → KeepsMap ghosts → HasLaid may ghosts a b
    → AnswersPart few ghosts Few Bad b c r → ((name : Name) → few name ≡ true → may name ≡ true) → ((name : Name) → Few name → May name)
    → ((name : Name) → Few name → Bad (over ghosts a b) (over ghosts a c) name → Worse (over ghosts a a) (over ghosts a c) name) → AnswersPart may ghosts May Worse a c r
part_after {ghosts = ghosts} {Few = Few} {May = May} {Bad = Bad} {Worse = Worse} {a = a} {b = b} {c = c} {r = r} on maps before part wider may worse =
    let then = laid_then on maps before (laid_wider wider (has_laid part)) in
    record {
      grown = then.grown;
      harmless = then.harmless;
      names = record {
        named = err_damaged r Few May may part.names.named;
        damaged = λ t.
            err_both_damaged r Few (Bad (over ghosts a b) (over ghosts a c)) (Worse (over ghosts a a) (over ghosts a c)) worse part.names.named
            (subst (λ (d : Dir). IfErr r (λ e. OnDamaged e (Bad (with_puts d (puts_over b)) (with_puts d (puts_over c))))) (maps (files_below a) (files_below b) t before.read.kept) (part.names.damaged t));
      };
      reads = reading_then ghosts on (files_below a) (files_below b) (files_below c) r before.read part.reads;
    }

-- a call that only read the layer, and failed
pub part_read : {F T : Type 0} {may : Name → Bool} {ghosts : Ghosts F} {upper : Ghosts (Layer F)} {Few May : Name → Type 0} {Worse : Dir → Dir → Name → Type 0} {a b c : Layer F} {r : Result T PartError} (Bad : Dir → Name → Type 0)
    → KeepsOn ghosts → KeepsMap ghosts → HasLaid may ghosts a b → HasRead ghosts b c → (IsErrOf r Fault → Rose (ghosts.faults (files_below b)) (ghosts.faults (files_below c))) → (IsTrue ghosts.tells → IsTrue upper.tells)
    → NamesDamaged upper Few (Bad (over ghosts b b)) r → ((name : Name) → Few name → May name) → ((name : Name) → Few name → Bad (over ghosts a c) name → Worse (over ghosts a a) (over ghosts a c) name) → AnswersPart may ghosts May Worse a c r
part_read {ghosts = ghosts} {Few = Few} {May = May} {Worse = Worse} {a = a} {b = b} {c = c} {r = r} Bad on maps before read cause tells names may worse =
    let then = laid_then on maps before (laid_none read) in
    record {
      grown = then.grown;
      harmless = then.harmless;
      names = record {
        named = err_damaged r Few May may names.named;
        damaged = λ t.
            err_both_damaged r Few (Bad (over ghosts a c)) (Worse (over ghosts a a) (over ghosts a c)) worse names.named
            (subst (λ (d : Dir). IfErr r (λ e. OnDamaged e (Bad d))) (ap₂ with_puts (maps (files_below a) (files_below b) t before.read.kept) (sym read.same)) (names.damaged (tells t)));
      };
      reads = reading_then ghosts on (files_below a) (files_below b) (files_below c) r before.read (record { kept = read.read.kept; later = read.read.later; cause = cause });
    }

-- the same error as that of a call, in an answer of another type
pub part_err : {F T U : Type 0} {may : Name → Bool} {ghosts : Ghosts F} {May : Name → Type 0} {Bad : Dir → Dir → Name → Type 0} {a b : Layer F} {r : Result U PartError} {e : PartError} → AnswersPart {T = T} may ghosts May Bad a b (Err e) → r ≡ Err e
    → AnswersPart may ghosts May Bad a b r
part_err {U = U} {may = may} {ghosts = ghosts} {May = May} {Bad = Bad} {a = a} {b = b} part is = subst (λ (r : Result U PartError). AnswersPart may ghosts May Bad a b r) (sym is) (record {
  grown = part.grown;
  harmless = part.harmless;
  names = record { named = part.names.named; damaged = part.names.damaged };
  reads = record { kept = part.reads.kept; later = part.reads.later; cause = λ bad. part.reads.cause (cc) };
})

-- want of memory
pub part_memory : {F T : Type 0} {may : Name → Bool} {ghosts : Ghosts F} {May : Name → Type 0} {Bad : Dir → Dir → Name → Type 0} {a b : Layer F} {r : Result T PartError} → HasLaid may ghosts a b → r ≡ Err Memory → AnswersPart may ghosts May Bad a b r
part_memory {T = T} {may = may} {ghosts = ghosts} {May = May} {Bad = Bad} {a = a} {b = b} laid is = subst (λ (r : Result T PartError). AnswersPart may ghosts May Bad a b r) (sym is) (record {
  grown = laid.grown;
  harmless = laid.harmless;
  names = record { named = tt; damaged = λ t. tt };
  reads = record { kept = laid.read.kept; later = laid.read.later; cause = λ bad. absurd (cc) };
})

-- an answer
pub part_ok : {F T : Type 0} {may : Name → Bool} {ghosts : Ghosts F} {May : Name → Type 0} {Bad : Dir → Dir → Name → Type 0} {a b : Layer F} {x : T} → HasLaid may ghosts a b → AnswersPart may ghosts May Bad a b (Ok x)
part_ok {ghosts = ghosts} {a = a} {b = b} {x = x} laid = record {
  grown = laid.grown;
  harmless = laid.harmless;
  names = record { named = tt; damaged = λ t. tt };
  reads = reading_ok ghosts (files_below a) (files_below b) x laid.read;
}

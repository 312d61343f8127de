-- What is said of the name of a damaged file, or of a call's answer, follows from what was said of it in other words.
use Rattle.std.proofs.Common.{Result, Ok, Err, IfOk, IfErr}
use Rattle.ml_base.specs.declared.names.Name.{Name}
use Rattle.ml_base.specs.declared.part_error.PartError.{PartError}
use Rattle.ml_base.specs.declared.part_error.PartError.TheVariants.{Fault, Memory, Damaged}
use Rattle.ml_base.specs.PartErrors.{OnDamaged}

-- if every name with one property has another, then so has the damaged file's name
pub on_damaged : (e : PartError) (P Q : Name → Type 0) → ((name : Name) → P name → Q name) → OnDamaged e P → OnDamaged e Q
on_damaged Fault P Q f h = tt
on_damaged Memory P Q f h = tt
on_damaged (Damaged name) P Q f h = f name h

-- the same for two properties
pub on_both : (e : PartError) (P Q R : Name → Type 0) → ((name : Name) → P name → Q name → R name) → OnDamaged e P → OnDamaged e Q → OnDamaged e R
on_both Fault P Q R f h k = tt
on_both Memory P Q R f h k = tt
on_both (Damaged name) P Q R f h k = f name h k

-- the same through an answer that may be an error
pub err_damaged : {T : Type 0} (r : Result T PartError) (P Q : Name → Type 0) → ((name : Name) → P name → Q name)
    → IfErr r (λ e. OnDamaged e P) → IfErr r (λ e. OnDamaged e Q)
err_damaged (Ok x) P Q f h = tt
err_damaged (Err e) P Q f h = on_damaged e P Q f h

pub err_both_damaged : {T : Type 0} (r : Result T PartError) (P Q R : Name → Type 0) → ((name : Name) → P name → Q name → R name)
    → IfErr r (λ e. OnDamaged e P) → IfErr r (λ e. OnDamaged e Q) → IfErr r (λ e. OnDamaged e R)
err_both_damaged (Ok x) P Q R f h k = tt
err_both_damaged (Err e) P Q R f h k = on_both e P Q R f h k

-- two facts about a value make a third
pub ok_both : {T E : Type 0} (r : Result T E) (P Q R : T → Type 0) → ((x : T) → P x → Q x → R x) → IfOk r P → IfOk r Q → IfOk r R
ok_both (Ok x) P Q R f h k = f x h k
ok_both (Err e) P Q R f h k = tt

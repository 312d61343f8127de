-- What one more call of a record does to what reads give, to what is settled and to what is pending.
use Rattle.std.proofs.Common.{◌≡◌, ◌<◌, ◌≤◌, ℕ, ◌+◌, ◌-◌, true, false, List, [], ◌∷◌, ◌++◌, length, take, get_or, refl, sym, ◌∙◌, ap, arith}
use Rattle.std.proofs.lemmas.List.{take_more}
use Rattle.ml_site.specs.declared.call.Call.{Call}
use Rattle.ml_site.specs.declared.call.Call.TheVariants.{Read, WriteLog, FailedLog, CutLog, FailedCut, WriteFile, RemoveFile, FailedFile, Sync, FailedSync, Give}
use Rattle.ml_site.specs.Disk.{Contents, Disk, Part, Range, Cut, File, MayLeave}
use Rattle.ml_site.specs.Images.{unchanged, more_pending}
use Rattle.ml_site.specs.Recorded.{at_rest, step, after, settles}
use Rattle.ml_site.specs.Filled.{parts_of, bytes_filled}
use Rattle.ml_site.proofs.Pushed.{after-push}
use Rattle.ml_site.proofs.Filling.{more_filled, none_filled}

-- one more call of a record was made
pub one_more : (disk : Disk) (calls : List Call) (k : ℕ) (call : Call) → k < length calls → call ≡ get_or calls k call → after disk (take (k + 1) calls) ≡ step (after disk (take k calls)) call
one_more disk calls k call lt is =
    let more : take (k + 1) calls ≡ take k calls ++ call ∷ [] = take_more calls k call lt ∙ ap (λ (x : Call). take k calls ++ x ∷ []) (sym is) in
    ap (after disk) more ∙ after-push disk (take k calls) call

-- the last of some first calls
pub last_of : (disk : Disk) (calls : List Call) (left : ℕ) (call : Call) → 0 < left → left ≤ length calls → call ≡ get_or calls (left - 1) call → after disk (take left calls) ≡ step (after disk (take (left - 1) calls)) call
last_of disk calls left call some le is = let next : left ≡ left - 1 + 1 = omega arith in
    ap (λ (k : ℕ). after disk (take k calls)) next ∙ one_more disk calls (left - 1) call (omega arith) is

-- what reads give after a call depends only on what they gave before it
pub reads_step : (disk : Disk) (call : Call) → (step disk call).reads ≡ (step (at_rest disk.reads) call).reads
reads_step disk Read = refl
reads_step disk (WriteLog at bytes) = refl
reads_step disk (FailedLog at size) = refl
reads_step disk (CutLog size) = refl
reads_step disk (FailedCut size) = refl
reads_step disk (WriteFile name bytes) = refl
reads_step disk (RemoveFile name) = refl
reads_step disk (FailedFile name) = refl
reads_step disk Sync = refl
reads_step disk FailedSync = refl
reads_step disk (Give n) = refl

-- a sync settles what reads give
pub step_settles : (disk : Disk) (call : Call) → settles call ≡ true → step disk call ≡ at_rest disk.reads
step_settles disk Sync is = refl
step_settles disk Read is = absurd cc
step_settles disk (WriteLog at bytes) is = absurd cc
step_settles disk (FailedLog at size) is = absurd cc
step_settles disk (CutLog size) is = absurd cc
step_settles disk (FailedCut size) is = absurd cc
step_settles disk (WriteFile name bytes) is = absurd cc
step_settles disk (RemoveFile name) is = absurd cc
step_settles disk (FailedFile name) is = absurd cc
step_settles disk FailedSync is = absurd cc
step_settles disk (Give n) is = absurd cc

-- any other call settles nothing
pub step_keeps : (disk : Disk) (call : Call) → settles call ≡ false → (step disk call).settled ≡ disk.settled
step_keeps disk Sync is = absurd cc
step_keeps disk Read is = refl
step_keeps disk (WriteLog at bytes) is = refl
step_keeps disk (FailedLog at size) is = refl
step_keeps disk (CutLog size) is = refl
step_keeps disk (FailedCut size) is = refl
step_keeps disk (WriteFile name bytes) is = refl
step_keeps disk (RemoveFile name) is = refl
step_keeps disk (FailedFile name) is = refl
step_keeps disk FailedSync is = refl
step_keeps disk (Give n) is = refl

-- its part joins what is pending
pub step_pends : (disk : Disk) (call : Call) → settles call ≡ false → (step disk call).pending ≡ parts_of call ++ disk.pending
step_pends disk Sync is = absurd cc
step_pends disk Read is = refl
step_pends disk (WriteLog at bytes) is = refl
step_pends disk (FailedLog at size) is = refl
step_pends disk (CutLog size) is = refl
step_pends disk (FailedCut size) is = refl
step_pends disk (WriteFile name bytes) is = refl
step_pends disk (RemoveFile name) is = refl
step_pends disk (FailedFile name) is = refl
step_pends disk FailedSync is = refl
step_pends disk (Give n) is = refl

-- the part of a call is filled, and then those before it
pub filled_step : (byte : ℕ) (call : Call) (parts : List Part) (held : Contents) → bytes_filled byte (parts_of call ++ parts) held ≡ bytes_filled byte parts (bytes_filled byte (parts_of call) held)
filled_step byte Sync parts held = sym (ap (bytes_filled byte parts) (none_filled byte held))
filled_step byte Read parts held = sym (ap (bytes_filled byte parts) (none_filled byte held))
filled_step byte FailedSync parts held = sym (ap (bytes_filled byte parts) (none_filled byte held))
filled_step byte (Give n) parts held = sym (ap (bytes_filled byte parts) (none_filled byte held))
filled_step byte (WriteLog at bytes) parts held = more_filled byte (Range at (length bytes)) parts held
filled_step byte (FailedLog at size) parts held = more_filled byte (Range at size) parts held
filled_step byte (CutLog size) parts held = more_filled byte (Cut size) parts held
filled_step byte (FailedCut size) parts held = more_filled byte (Cut size) parts held
filled_step byte (WriteFile name bytes) parts held = more_filled byte (File name) parts held
filled_step byte (RemoveFile name) parts held = more_filled byte (File name) parts held
filled_step byte (FailedFile name) parts held = more_filled byte (File name) parts held

-- what is settled is always an image, whatever is pending
pub settled_left : (settled : Contents) (parts : List Part) → MayLeave settled parts settled
settled_left settled [] = unchanged settled
settled_left settled (part ∷ parts) = more_pending part settled parts settled (settled_left settled parts)

-- if nothing is pending, what is held is already what filling gives
pub all_filled : (byte : ℕ) (parts : List Part) (held wanted : Contents) → parts ≡ [] → bytes_filled byte parts held ≡ wanted → held ≡ wanted
all_filled byte parts held wanted none is = sym (none_filled byte held) ∙ ap (λ (ps : List Part). bytes_filled byte ps held) (sym none) ∙ is

-- nothing is pending after a sync, or before the first call
pub none_pending : (start : Contents) (calls : List Call) (left : ℕ) → left ≤ 0 → (after (at_rest start) (take left calls)).pending ≡ []
none_pending start calls left le = ap (λ (k : ℕ). (after (at_rest start) (take k calls)).pending) (let none : left ≡ 0 = omega arith in none)

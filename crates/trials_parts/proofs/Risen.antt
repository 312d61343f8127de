-- Addresses are in order if each key was found to be above the one before.
use Rattle.std.proofs.Common.{◌≡◌, ◌<◌, true, List, [], ◌∷◌, length, refl, arith}
use Rattle.ml_base.specs.Address.{key}
use Rattle.ml_base.specs.Bytes.{Text}
use Rattle.ml_base.specs.Sorted.{byte_cmp, is_sorted}
use Rattle.ml_queue.specs.Reading.{rises}
use Rattle.ml_queue.proofs.Orders.{rising_ordered}

pub all_risen : (last : Text) (rest to : List Text) → length rest < 1 → (rises last rest ≡ true → rises [] to ≡ true) → is_sorted byte_cmp key to ≡ true
all_risen last [] to none risen = (rising_ordered [] to (risen refl)).1
all_risen last (x ∷ xs) to none risen = absurd (omega (arith, none))

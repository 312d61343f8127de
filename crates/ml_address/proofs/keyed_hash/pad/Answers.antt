use Rattle.std.proofs.Common.{◌≡◌, ℕ, ◌<◌, ◌+◌, ◌++◌, List, map, take, drop, set, bit_xor, arith, length, get_or}
use Rattle.std.proofs.lemmas.List.{get_or_default}
use Rattle.std.proofs.lemmas.List.Edits.{map_over_more}
use Rattle.ml_address.proofs.keyed_hash.pad.Goals as goal

-- the invariant of a loop that maps in place
more : (f : ℕ → ℕ) (xs ys : List ℕ) (i : ℕ) → i < length xs → length ys ≡ length xs → ys ≡ map f (take i xs) ++ drop i xs
    → set ys i (f (get_or ys i 0)) ≡ map f (take (i + 1) xs) ++ drop (i + 1) xs
more f xs ys i less same h = map_over_more f xs ys i (get_or ys i 0) less h (get_or_default ys i 0 (get_or ys i 0) (omega arith))

pub loop-byte-preserved : goal.loop-byte-preserved
loop-byte-preserved c = more (λ b. bit_xor b c.args.pad) c.args.block.now c.loop-byte.block c.loop-byte.byte-index (omega arith) (omega arith) c.loop-byte.invariant

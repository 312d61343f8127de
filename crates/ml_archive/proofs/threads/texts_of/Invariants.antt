use Rattle.std.proofs.Common.{◌≡◌, ◌<◌, ◌++◌, ℕ, [], length, get_or}
use Rattle.ml_archive.specs.Found.{text_at}
use Rattle.ml_archive.proofs.threads.texts_of.Given as goal

abbrev pub invariant-loop-key : goal.invariant-loop-key
invariant-loop-key l = record {
  long : length l.texts.items ≡ 256;
  each : (n : ℕ) → n < 256 → get_or l.texts.items n [] ++ text_at n l.key-iterator ≡ text_at n l.keys.entries;
}

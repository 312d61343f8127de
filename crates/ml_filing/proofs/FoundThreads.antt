-- How threads in order of their keys are searched for a key.
use Rattle.std.proofs.Common.{◌≡◌, true, List, [], Option, Some, ap}
use Rattle.std.specs.Prelude.{unwrap_or}
use Rattle.std.specs.List.{AllByRecursion}
use Rattle.std.specs.Option.{option_map}
use Rattle.ml_base.specs.Bytes.{Text}
use Rattle.ml_base.specs.Sorted.{byte_cmp, entry_of, is_sorted}
use Rattle.ml_keyed.proofs.Keys.{each_found}
use Rattle.ml_filing.specs.Threads.{numbers_under}
use Rattle.ml_filing.specs.declared.posts.Thread.{Thread}

-- the thread under a key
abbrev pub find : Text → List Thread → Option Thread
find k ts = entry_of byte_cmp (λ (t : Thread). t.key) k ts

abbrev pub InOrder : List Thread → Type 0
InOrder ts = is_sorted byte_cmp (λ (t : Thread). t.key) ts ≡ true

-- what is true of what is found under every key is true of all threads
pub all_found : (P : Thread → Type 0) (ts : List Thread) → InOrder ts → ((k : Text) (t : Thread) → find k ts ≡ Some t → P t) → AllByRecursion P ts
all_found = each_found (λ (t : Thread). t.key)

pub under_found : (k : Text) (ts : List Thread) (o : Option Thread) → find k ts ≡ o → numbers_under k ts ≡ unwrap_or (option_map (λ (t : Thread). t.numbers) o) []
under_found k ts o is = ap (λ (o : Option Thread). unwrap_or (option_map (λ (t : Thread). t.numbers) o) []) is

-- Files of the archive and held posts have names of the table.
use Rattle.std.proofs.Common.{◌≡◌, ◌<◌, ℕ, true, ap, ◌∙◌}
use Rattle.std.proofs.lemmas.Bool.{lt-ltb}
use Rattle.ml_base.specs.declared.names.Name.{Name}
use Rattle.ml_filing.specs.Archive.{index_name}
use Rattle.ml_filing.specs.Threads.{thread_name}
use Rattle.ml_acts.specs.Doing.{is_index, is_thread_file}

pub index_placed : (g : ℕ) (name : Name) → g < 1_000_000 → name ≡ index_name g → is_index name ≡ true
index_placed g name less e = ap is_index e ∙ lt-ltb g 1_000_000 less

pub threads_placed : (n : ℕ) (name : Name) → n < 256 → name ≡ thread_name n → is_thread_file name ≡ true
threads_placed n name less e = ap is_thread_file e ∙ lt-ltb n 256 less

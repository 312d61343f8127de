-- What a store shows: its site, its directory, and how long its log may become.
use Rattle.std.specs.Prelude.{ℕ, ◌+◌, List, [], ◌∷◌, length, Option, Some, None, Result, Ok, Err}
use Rattle.ml_base.specs.Dir.{Dir}
use Rattle.ml_base.specs.declared.puts.Put.{Put}
use Rattle.ml_site.specs.declared.site.Site.{Ghosts}
use Rattle.ml_journal.specs.Records.{spelled_record}
use Rattle.ml_journal.specs.declared.store.Store.{Store}

-- the site that a store owns
abbrev pub site_of : {S : Type 0} {ghosts : Ghosts S} → Store S ghosts → S
site_of store = store.site

-- the site that a store owns, or that is handed back with an error
abbrev pub site_after : {S E : Type 0} {ghosts : Ghosts S} → Result (Store S ghosts) (E × S) → S
site_after (Ok store) = store.site
site_after (Err error) = error.1

-- the files of a directory; without one there are none
abbrev pub the_dir : Option Dir → Dir
the_dir (Some dir) = dir
the_dir None = λ name. None

-- how long a commit of a txn would leave a log of this length if the files weren't laid down; an empty txn doesn't change it
abbrev pub grown : ℕ → List Put → ℕ
grown size [] = size
grown size (put ∷ puts) = size + length (spelled_record (put ∷ puts)) + 1

-- Posts that go into the archive and to the set list.
use Rattle.std.specs.Prelude.{◌≡◌, ◌+◌, ℕ, Bool, false, List, not, ◌||◌, length}
use Rattle.ml_base.specs.Bytes.{Text}
use Rattle.ml_base.specs.Dir.{Dir, same_name, with_puts}
use Rattle.ml_base.specs.declared.names.Name.{Name}
use Rattle.ml_base.specs.declared.names.Set.TheVariants as sets
use Rattle.ml_base.specs.declared.puts.Put.{Put}
use Rattle.ml_filing.specs.Archive.{number_name}
use Rattle.ml_filing.specs.Subjects.{subject, subject_key}
use Rattle.ml_config.specs.declared.configuration.Config.{Config}
use Rattle.ml_plain.specs.Directory.{IsList, held_kinds}
use Rattle.ml_plain.specs.Plain.{Plain, is_archive_full}
use Rattle.ml_plain.specs.Posting.{sent_text, with_text}
use Rattle.ml_acts.specs.Doing.{is_index, is_mailed_by, is_thread_file}

-- a post that is taken: the archive has room, the post gets the next number, and with these puts laid over the files they stand for the
-- list with it
abbrev pub Publishes : Dir → ℕ → Text → Text → Plain → ℕ → List Put → Type 0
Publishes dir now sender m p number txn =
    (is_archive_full p ≡ false) × (number ≡ length p.posts + 1) × IsList (with_puts dir txn) (with_text now sender (sent_text p.config m) number p)

-- all files except the held posts
abbrev pub is_beside_held : Name → Bool
is_beside_held name = not (held_kinds name.kind)

-- the files that taking a post reads: those of the set list, the next id, the number of posts, an index and a file of threads
abbrev pub is_published_by : Name → Bool
is_published_by name = is_mailed_by sets.List name || same_name name number_name || is_index name || is_thread_file name

-- the key of the subject of the text that the list sends of a message
abbrev pub sent_key : Config → Text → Text
sent_key c m = subject_key c.prefix (subject (sent_text c m))

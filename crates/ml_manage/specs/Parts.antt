-- What a request for a part of the archive reads, and is answered.
use Rattle.std.specs.Prelude.{◌/◌, Bool, false, ◌||◌, unwrap_or}
use Rattle.ml_base.specs.Bytes.{Text}
use Rattle.ml_base.specs.Dir.{Dir}
use Rattle.ml_base.specs.declared.names.Name.{Name}
use Rattle.ml_config.specs.declared.configuration.Config.{Config}
use Rattle.ml_plain.specs.ArchiveText.{get_text, index_text, thread_text}
use Rattle.ml_plain.specs.Plain.{Plain}
use Rattle.ml_acts.specs.Asked.{Asked, Group, Range, ThreadOf}
use Rattle.ml_manage.specs.Found.{TellsIndex, TellsRange, TellsThread}
use Rattle.ml_manage.specs.Reads.{is_of_index, is_of_posts, is_of_thread, is_post_file, is_post_within}
use Rattle.ml_manage.specs.declared.archive.Part.{Part}
use Rattle.ml_manage.specs.declared.archive.Part.TheVariants.{Posts, Thread, Index}

-- the files of a part that may be read and named
abbrev pub is_of : Part → Name → Bool
is_of (Posts from to) = is_of_posts from (unwrap_or to from)
is_of (Thread at) = is_of_thread
is_of (Index at) = is_of_index at

-- its posts, which are never named
abbrev pub is_post_of : Part → Name → Bool
is_post_of (Posts from to) = is_post_within from (unwrap_or to from)
is_post_of (Thread at) = is_post_file
is_post_of (Index at) = λ _. false

-- what is looked at for it
abbrev pub is_seen_of : Part → Name → Bool
is_seen_of part name = is_of part name || is_post_of part name

-- what is asked of the archive
abbrev pub asked_of : Config → Part → Asked
asked_of c (Posts from to) = Range from (unwrap_or to from)
asked_of c (Thread at) = ThreadOf c.prefix at
asked_of c (Index at) = Group (at / 100)

-- what its files tell
abbrev pub TellsPart : Dir → Config → Part → Type 0
TellsPart dir c (Posts from to) = TellsRange dir from (unwrap_or to from)
TellsPart dir c (Thread at) = TellsThread dir c.prefix at
TellsPart dir c (Index at) = TellsIndex dir (at / 100)

-- its text
abbrev pub text_of : Plain → Part → Text
text_of p (Posts from to) = get_text p from to
text_of p (Thread at) = thread_text p at
text_of p (Index at) = index_text p at

-- Adding one post to a mailbox.
use Rattle.std.specs.Prelude.{◌≡◌, ◌⊎◌, ◌/◌, ℕ, ◌++◌, length, min, Some}
use Rattle.ml_base.specs.Bytes.{Text}
use Rattle.ml_base.specs.Dir.{Dir}
use Rattle.ml_base.specs.declared.names.Name.{Name}
use Rattle.ml_filing.specs.Answers.{HasNoEntry, IsEntryByFiles, LacksPost}
use Rattle.ml_filing.specs.Archive.{index_name, number_name, post_name}
use Rattle.ml_filing.specs.declared.posts.Entry.{Entry}
use Rattle.ml_mbox.specs.Mbox.{mail_text}

-- the mail of post n was added, by its entry in the index of its group and by its file
pub record AddsMail (dir : Dir) (n : ℕ) (old new : Text) : Type 0 where
  pub entry : Entry
  pub found : IsEntryByFiles dir n entry
  pub bytes : Text
  pub there : dir (post_name n) ≡ Some bytes
  pub size : length bytes ≡ entry.size
  pub added : new ≡ old ++ mail_text (record { sender = entry.sender; moment = min entry.moment 253_402_300_799; message = bytes })

-- the index of its group lacks post n, or no file of it is as long as its entry says
abbrev pub IsBadIndexed : Dir → ℕ → Name → Type 0
IsBadIndexed dir n name = ((name ≡ number_name) × HasNoEntry dir n) ⊎ ((name ≡ index_name (n / 100)) × LacksPost dir n)

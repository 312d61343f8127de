-- The posts of a range as a mailbox: by the list, and by its files.
use Rattle.std.specs.Prelude.{◌≡◌, ◌⊎◌, ◌≤◌, ◌+◌, ◌-◌, ◌/◌, min, max, ℕ, IsTrue, List, map, Some}
use Rattle.std.specs.List.{AllZip, range_with_len}
use Rattle.ml_base.specs.Bytes.{Text}
use Rattle.ml_base.specs.Dir.{Dir}
use Rattle.ml_base.specs.Ranges.{is_post_number}
use Rattle.ml_base.specs.declared.names.Name.{Name}
use Rattle.ml_filing.specs.Answers.{IsBadForPost, IsNoNumber, IsPostByFiles}
use Rattle.ml_filing.specs.Archive.{IsNumberFile, index_name, number_name}
use Rattle.ml_filing.specs.Posts.{in_range}
use Rattle.ml_filing.specs.declared.posts.Post.{Post}
use Rattle.ml_mbox.specs.Mbox.{mbox_text}
use Rattle.ml_mbox.specs.declared.mails.Mailed.{Mailed}

-- a post as a mail: who sent it, when it was posted, and the text that the list sent
abbrev pub mail_of : Post → Mailed
mail_of p = record { sender = p.sender; moment = p.moment; message = p.bytes }

-- the mailbox of posts
abbrev pub mailbox : List Post → Text
mailbox posts = mbox_text (map mail_of posts)

-- the mailbox of the posts a to b
abbrev pub range_mailbox : ℕ → ℕ → List Post → Text
range_mailbox a b posts = mailbox (map (λ e. e.1) (in_range a b posts))

-- the numbers from a to b among those of so many posts
abbrev pub numbers_of : ℕ → ℕ → ℕ → List ℕ
numbers_of a b count = range_with_len (max a 1) (min b count + 1 - max a 1)

-- the mailbox of the posts of these numbers, as the files have them
pub record IsMailbox (dir : Dir) (numbers : List ℕ) (text : Text) : Type 0 where
  pub posts : List Post
  pub each : AllZip (λ n p. IsPostByFiles dir n (Some p)) numbers posts
  pub text_is : text ≡ mailbox posts

-- the mailbox of the posts a to b, as the files have them, up to the number of posts
pub record IsRangeMailbox (dir : Dir) (a b : ℕ) (text : Text) : Type 0 where
  pub count : ℕ
  pub counted : IsNumberFile (dir number_name) count
  pub is : IsMailbox dir (numbers_of a b count) text

-- the files that tell of the posts a to b
abbrev pub IsMailboxName : ℕ → ℕ → Name → Type 0
IsMailboxName a b name =
    (name ≡ number_name) ⊎ ((n : ℕ) × (a ≤ n) × (n ≤ b) × IsTrue (is_post_number n) × (name ≡ index_name (n / 100)))

-- a post that is there by the number of posts, for which a file is damaged
pub record IsBadForOne (dir : Dir) (a b : ℕ) (name : Name) : Type 0 where
  pub n : ℕ
  pub from : a ≤ n
  pub to : n ≤ b
  pub count : ℕ
  pub counted : IsNumberFile (dir number_name) count
  pub low : 1 ≤ n
  pub high : n ≤ count
  pub bad : IsBadForPost dir n name

-- when one of them is damaged: the number of posts is outside its grammar, or a file is damaged for one of the posts
abbrev pub IsBadForMailbox : Dir → ℕ → ℕ → Name → Type 0
IsBadForMailbox dir a b name = ((name ≡ number_name) × IsNoNumber dir) ⊎ IsBadForOne dir a b name

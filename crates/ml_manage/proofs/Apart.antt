-- What requests find and do is the same on every directory that has the files that they look at.
use Rattle.std.proofs.Common.{◌≡◌, ◌∙◌, ◌&&◌, ◌||◌, cond, ℕ, Bool, true, false, List, [], length, Option, Some, refl, sym, ap, subst}
use Rattle.std.specs.Prelude.{not}
use Rattle.std.proofs.lemmas.Bool.{and_from, or_left, or_right}
use Rattle.ml_base.specs.Address.{key}
use Rattle.ml_base.specs.Bytes.{Text}
use Rattle.ml_base.specs.Dir.{Dir, same_name, with_puts}
use Rattle.ml_base.specs.declared.names.Name.{Name}
use Rattle.ml_base.specs.declared.names.Set.{Set}
use Rattle.ml_base.specs.declared.names.Set.TheVariants as sets
use Rattle.ml_base.specs.declared.puts.Put.{Put}
use Rattle.ml_base.proofs.Bools.{one_name}
use Rattle.ml_config.specs.ConfigFile.{config_name, config_text}
use Rattle.ml_config.specs.KeyFile.{key_name}
use Rattle.ml_config.specs.declared.configuration.Config.{Config}
use Rattle.ml_digest.specs.Due.{IsMark, mark_name}
use Rattle.ml_digest.specs.declared.posts.Mark.{Mark}
use Rattle.ml_digest.proofs.Marks.{mark_one}
use Rattle.ml_filing.specs.Archive.{IsNumberFile, number_name}
use Rattle.ml_filing.proofs.Exact.{count_one}
use Rattle.ml_plain.specs.Bouncing.{is_used}
use Rattle.ml_plain.specs.Directory.{IsList}
use Rattle.ml_plain.specs.Mailing.{mail_to}
use Rattle.ml_plain.specs.Managing.{may_read}
use Rattle.ml_plain.specs.Plain.{Plain, is_in, is_moderator}
use Rattle.ml_plain.specs.declared.Reply.{Reply}
use Rattle.ml_queue.specs.Answers.{ids_name}
use Rattle.ml_reply.specs.declared.mails.Mail.{Mail}
use Rattle.ml_subs.specs.Buckets.{bucket_of}
use Rattle.ml_subs.specs.Subscribers.{bucket_name, is_touched}
use Rattle.ml_acts.specs.Configured.{with_config}
use Rattle.ml_acts.specs.Doing.{Alike, DoesList, is_bucket, is_bucket_of, is_entry_of, is_left_by}
use Rattle.ml_acts.specs.Found.{TellsMember}
use Rattle.ml_acts.proofs.Apart.{member_apart}
use Rattle.ml_acts.proofs.Damages.{same_self}
use Rattle.ml_manage.specs.Found.{is_closed}
use Rattle.ml_manage.specs.Reads.{is_counted_in, is_of_bounce, is_of_members, is_of_probe, is_of_reader, is_of_signed, is_of_warning}

-- of several tests one may come first
one_first : (a b c d : Bool) → (a || (b || c) || d) ≡ true → (c || (a || b || d)) ≡ true
one_first a b true d e = refl
one_first true b false d e = refl
one_first false true false d e = refl
one_first false false false d e = e

-- files that were kept
pub kept_alike : (is : Name → Bool) (old new dir : Dir) → new ≡ old → Alike is old dir → Alike is new dir
kept_alike is old new dir kept alike = subst (λ (d : Dir). Alike is d dir) (sym kept) alike

pub kept_same : (name : Name) (old new dir : Dir) → new ≡ old → dir name ≡ old name → dir name ≡ new name
kept_same name old new dir kept same = same ∙ sym (ap (λ (d : Dir). d name) kept)

-- a directory that stands for a list has its configuration
pub under_alike : (is : Name → Bool) (c : Config) (old dir : Dir) (p : Plain) → IsList dir p → p.config ≡ c → Alike is old dir → Alike is (with_config c old) dir
under_alike is c old dir p list same alike name e = go (same_name name config_name) refl
  where
    go : (t : Bool) → same_name name config_name ≡ t → dir name ≡ cond t (Some (config_text c)) (old name)
    go true named = ap dir (one_name name config_name named) ∙ (list.config).text ∙ ap (λ (k : Config). Some (config_text k)) same
    go false other = alike name e

-- whether an address is in a set
pub bucket_apart : (old dir : Dir) (set : Set) (who : Text) (has : Bool) (p : Plain) → Alike (is_bucket_of set who) old dir → IsList dir p → TellsMember old set (key who) has → has ≡ is_in p set who
bucket_apart old dir set who has p alike is tells =
    let own = bucket_name set (bucket_of (key who)) in
    member_apart old dir set (key who) has p (alike own (same_self own)) tells is

-- whether a sender may be told who is in a set
pub lister_apart : (c : Config) (sender : Text) (p : Plain) (b : Bool) → p.config ≡ c → b ≡ (c.flags.l && is_moderator p sender) → b ≡ (p.config.flags.l && is_moderator p sender)
lister_apart c sender p b same e = e ∙ ap (λ (k : Config). k.flags.l && is_moderator p sender) (sym same)

module _ (old dir : Dir) where
  -- which numbers were used
  pub mark_apart : (mark : Mark) (p : Plain) → dir mark_name ≡ old mark_name → IsList dir p → IsMark old mark → mark ≡ p.mark
  mark_apart mark p same is file = mark_one dir mark p.mark (record { last = file.last; issue = file.issue; text = same ∙ file.text }) is.mark

  pub count_apart : (count : ℕ) (p : Plain) → dir number_name ≡ old number_name → IsList dir p → IsNumberFile (old number_name) count → count ≡ length p.posts
  count_apart count p same is file = count_one (dir number_name) count (length p.posts) (subst (λ (f : Option Text). IsNumberFile f count) (sym same) file) (is.archive).filed.counted

  -- of the files of a bounce, those that each step looks at
  module _ (set : Set) (x : Text) where
    pub bounce_member : Alike (is_of_bounce set x) old dir → Alike (is_bucket_of set x) old dir
    bounce_member alike name e = alike name (or_left (is_bucket_of set x name || is_counted_in set name) (is_entry_of set x name) (or_left (is_bucket_of set x name) (is_counted_in set name) e))

    pub bounce_used : Alike (is_of_bounce set x) old dir → Alike (is_counted_in set) old dir
    bounce_used alike name e = alike name (or_left (is_bucket_of set x name || is_counted_in set name) (is_entry_of set x name) (or_right (is_bucket_of set x name) (is_counted_in set name) e))

    pub bounce_entry : Alike (is_of_bounce set x) old dir → Alike (is_entry_of set x) old dir
    bounce_entry alike name e = alike name (or_right (is_bucket_of set x name || is_counted_in set name) (is_entry_of set x name) e)

    pub signed_member : Alike (is_of_signed set x) old dir → Alike (is_bucket_of set x) old dir
    signed_member alike name e = alike name (or_left (is_bucket_of set x name) (same_name name key_name) e)

    pub signed_keys : Alike (is_of_signed set x) old dir → dir key_name ≡ old key_name
    signed_keys alike = alike key_name (or_right (is_bucket_of set x key_name) (same_name key_name key_name) refl)

    pub warning_signed : Alike (is_of_warning set x) old dir → Alike (is_of_signed set x) old dir
    warning_signed alike name e = alike name (or_left (is_of_signed set x name) (is_entry_of set x name) e)

    pub warning_entry : Alike (is_of_warning set x) old dir → Alike (is_entry_of set x) old dir
    warning_entry alike name e = alike name (or_right (is_of_signed set x name) (is_entry_of set x name) e)

    pub probe_signed : Alike (is_of_probe set x) old dir → Alike (is_of_signed set x) old dir
    probe_signed alike name e =
        alike name (or_left (is_of_signed set x name || is_touched set (key x) name) (is_entry_of set x name) (or_left (is_of_signed set x name) (is_touched set (key x) name) e))

    pub probe_left : Alike (is_of_probe set x) old dir → Alike (is_left_by set x) old dir
    probe_left alike name e = alike name (go (is_of_signed set x name) (is_touched set (key x) name) (is_entry_of set x name) e)
      where
        go : (a b c : Bool) → (b || c) ≡ true → ((a || b) || c) ≡ true
        go true b c e = refl
        go false b c e = e

    pub left_last : Alike (is_left_by set x) old dir → Alike (is_entry_of set x) old dir
    left_last alike name e = alike name (or_right (is_touched set (key x) name) (is_entry_of set x name) e)

  -- the same of a request for the members of a set
  module _ (c : Config) (sender : Text) (set : Set) (alike : Alike (is_of_members c sender set) old dir) where
    pub members_rank : Alike (λ name. c.flags.l && is_bucket_of sets.Moderators sender name) old dir
    members_rank name e =
        let rank = c.flags.l && is_bucket_of sets.Moderators sender name in
        alike name (or_left (rank || is_bucket set name) (same_name name ids_name) (or_left rank (is_bucket set name) e))

    pub members_all : Alike (is_bucket set) old dir
    members_all name e =
        let rank = c.flags.l && is_bucket_of sets.Moderators sender name in
        alike name (or_left (rank || is_bucket set name) (same_name name ids_name) (or_right rank (is_bucket set name) e))

    pub members_ids : dir ids_name ≡ old ids_name
    members_ids = alike ids_name (or_right ((c.flags.l && is_bucket_of sets.Moderators sender ids_name) || is_bucket set ids_name) (same_name ids_name ids_name) refl)

  -- the same of a request for a part of the archive, with the posts of that part
  module _ (c : Config) (sender : Text) (part posts : Name → Bool) (alike : Alike (λ name. posts name || (is_of_reader c sender name || part name || same_name name ids_name)) old dir) where
    pub answer_whole : Alike (λ name. is_of_reader c sender name || (part name || posts name) || same_name name ids_name) old dir
    answer_whole name e = alike name (one_first (is_of_reader c sender name) (part name) (posts name) (same_name name ids_name) e)

  -- the same of a request for a part of the archive
  module _ (c : Config) (sender : Text) (part : Name → Bool) (alike : Alike (λ name. is_of_reader c sender name || part name || same_name name ids_name) old dir) where
    pub answer_reader : Alike (is_of_reader c sender) old dir
    answer_reader name e = alike name (or_left (is_of_reader c sender name || part name) (same_name name ids_name) (or_left (is_of_reader c sender name) (part name) e))

    pub answer_part : Alike part old dir
    answer_part name e = alike name (or_left (is_of_reader c sender name || part name) (same_name name ids_name) (or_right (is_of_reader c sender name) (part name) e))

    pub answer_ids : dir ids_name ≡ old ids_name
    answer_ids = alike ids_name (or_right (is_of_reader c sender ids_name || part ids_name) (same_name ids_name ids_name) refl)

  -- and of what says whether the sender may read it
  module _ (c : Config) (sender : Text) (alike : Alike (is_of_reader c sender) old dir) where
    abbrev subscriber : Name → Bool
    subscriber name = is_bucket_of sets.List sender name || is_bucket_of sets.Digest sender name

    pub reader_rank : Alike (is_bucket_of sets.Moderators sender) old dir
    reader_rank name e = alike name (or_left (is_bucket_of sets.Moderators sender name) (c.flags.g && subscriber name) e)

    pub reader_subscriber : c.flags.g ≡ true → Alike (λ name. is_bucket_of sets.List sender name || is_bucket_of sets.Digest sender name) old dir
    reader_subscriber on name e = alike name (or_right (is_bucket_of sets.Moderators sender name) (c.flags.g && subscriber name) (and_from c.flags.g (subscriber name) on e))

  module _ (who : Text) (alike : Alike (λ name. is_bucket_of sets.List who name || is_bucket_of sets.Digest who name) old dir) where
    pub subscriber_list : Alike (is_bucket_of sets.List who) old dir
    subscriber_list name e = alike name (or_left (is_bucket_of sets.List who name) (is_bucket_of sets.Digest who name) e)

    pub subscriber_digest : Alike (is_bucket_of sets.Digest who) old dir
    subscriber_digest name e = alike name (or_right (is_bucket_of sets.List who name) (is_bucket_of sets.Digest who name) e)

-- a mail and a reply, after no puts
pub sent_so : (dir : Dir) (p : Plain) (done : List Put × Reply) (txn : List Put) (sender : Text) (now : ℕ) {mail own : Mail} {reply given : Reply} → txn ≡ [] → mail ≡ own → reply ≡ given → IsList dir p
    → (IsList (with_puts dir txn) p → DoesList dir done (mail_to sender now mail p, reply)) → DoesList dir done (mail_to sender now own p, given)
sent_so dir p done txn sender now {mail = mail} {own = own} {reply = reply} {given = given} none e f is does =
    subst (λ (m : Mail). DoesList dir done (mail_to sender now m p, given)) e
    (subst (λ (r : Reply). DoesList dir done (mail_to sender now mail p, r)) f (does (subst (λ (t : List Put). IsList (with_puts dir t) p) (sym none) is)))

-- whether the archive is open to somebody who isn't a moderator, if that depends on whether he is a subscriber
pub open_apart : (c : Config) (sender : Text) (p : Plain) (b : Bool) → is_closed c ≡ false → c.flags.g ≡ true → p.config ≡ c → b ≡ (is_in p sets.List sender || is_in p sets.Digest sender)
    → b ≡ (not p.config.flags.b && p.config.flags.p && (not p.config.flags.g || is_in p sets.List sender || is_in p sets.Digest sender))
open_apart c sender p b free only same e =
    e ∙ sym (ap (λ (k : Config). not k.flags.b && k.flags.p && (not k.flags.g || is_in p sets.List sender || is_in p sets.Digest sender)) same
    ∙ go c.flags.b c.flags.p c.flags.g (is_in p sets.List sender) (is_in p sets.Digest sender) free only)
  where
    go : (b p g x y : Bool) → (b || not p) ≡ false → g ≡ true → (not b && p && (not g || x || y)) ≡ (x || y)
    go true p g x y free only = absurd (let bad : true ≡ false = free in cc)
    go false false g x y free only = absurd (let bad : true ≡ false = free in cc)
    go false true false x y free only = absurd (let bad : false ≡ true = only in cc)
    go false true true x y free only = refl

-- whether it is open to a sender
pub reader_apart : (p : Plain) (sender : Text) (rank b : Bool) → rank ≡ is_moderator p sender
    → (rank ≡ false → b ≡ (not p.config.flags.b && p.config.flags.p && (not p.config.flags.g || is_in p sets.List sender || is_in p sets.Digest sender))) → (rank ≡ true → b ≡ true) → b ≡ may_read p sender
reader_apart p sender rank b e other own =
    go rank (not p.config.flags.b && p.config.flags.p && (not p.config.flags.g || is_in p sets.List sender || is_in p sets.Digest sender)) other own
    ∙ ap (λ (t : Bool). t || (not p.config.flags.b && p.config.flags.p && (not p.config.flags.g || is_in p sets.List sender || is_in p sets.Digest sender))) e
  where
    go : (rank rest : Bool) → (rank ≡ false → b ≡ rest) → (rank ≡ true → b ≡ true) → b ≡ (rank || rest)
    go true rest other own = own refl
    go false rest other own = other refl

-- numbers of a set other than digest are those of posts
module _ (old dir : Dir) (set : Set) (none : set ≡ sets.Digest → ⊥) (alike : Alike (is_counted_in set) old dir) where
  pub counted_same : dir number_name ≡ old number_name
  counted_same = go set none alike
    where
      go : (set : Set) → (set ≡ sets.Digest → ⊥) → Alike (is_counted_in set) old dir → dir number_name ≡ old number_name
      go sets.Digest none alike = absurd (none refl)
      go sets.List none alike = alike number_name refl
      go sets.Allow none alike = alike number_name refl
      go sets.Deny none alike = alike number_name refl
      go sets.Moderators none alike = alike number_name refl

pub used_apart : (old dir : Dir) (set : Set) (number : ℕ) (p : Plain) (b : Bool) → (set ≡ sets.Digest → ⊥) → Alike (is_counted_in set) old dir → (dir number_name ≡ old number_name → b ≡ is_used p sets.List number) → b ≡ is_used p set number
used_apart old dir set number p b none alike tells = go set none (tells (counted_same old dir set none alike))
  where
    go : (set : Set) → (set ≡ sets.Digest → ⊥) → b ≡ is_used p sets.List number → b ≡ is_used p set number
    go sets.Digest none e = absurd (none refl)
    go sets.List none e = e
    go sets.Allow none e = e
    go sets.Deny none e = e
    go sets.Moderators none e = e

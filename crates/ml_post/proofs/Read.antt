-- What a post may read.
use Rattle.std.proofs.Common.{◌≡◌, ◌&&◌, ◌||◌, true}
use Rattle.std.specs.Prelude.{not}
use Rattle.std.proofs.lemmas.Bool.{and_from, or_left, or_right}
use Rattle.ml_base.specs.Bytes.{Text}
use Rattle.ml_base.specs.declared.names.Name.{Name}
use Rattle.ml_config.specs.declared.configuration.Config.{Config}
use Rattle.ml_post.specs.Holding.{is_held_by}
use Rattle.ml_post.specs.Judging.{is_judged_by}
use Rattle.ml_post.specs.Posting.{is_posted_by}
use Rattle.ml_post.specs.Publishing.{is_published_by}

module _ (c : Config) (sender : Text) (name : Name) where
  -- what its verdict reads
  pub of_judged : is_judged_by c sender name ≡ true → is_posted_by c sender name ≡ true
  of_judged e =
      or_left (is_judged_by c sender name || (c.flags.m && is_held_by name)) (not c.flags.m && is_published_by name)
      (or_left (is_judged_by c sender name) (c.flags.m && is_held_by name) e)

  -- what holding it reads, if posts wait for the moderators
  pub of_held : c.flags.m ≡ true → is_held_by name ≡ true → is_posted_by c sender name ≡ true
  of_held waits e =
      or_left (is_judged_by c sender name || (c.flags.m && is_held_by name)) (not c.flags.m && is_published_by name)
      (or_right (is_judged_by c sender name) (c.flags.m && is_held_by name) (and_from c.flags.m (is_held_by name) waits e))

  -- what taking it reads, if they don't
  pub of_published : not c.flags.m ≡ true → is_published_by name ≡ true → is_posted_by c sender name ≡ true
  of_published free e =
      or_right (is_judged_by c sender name || (c.flags.m && is_held_by name)) (not c.flags.m && is_published_by name)
      (and_from (not c.flags.m) (is_published_by name) free e)

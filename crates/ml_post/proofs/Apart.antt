-- The files that each step of a post looks at, among those that the post looks at.
use Rattle.std.proofs.Common.{◌≡◌, ◌⊎◌, inl, inr, ◌+◌, ◌/◌, Bool, true, false, ◌&&◌, ◌||◌, Some, cond, refl, sym, ap, ◌∙◌, subst, arith}
use Rattle.std.specs.Prelude.{not}
use Rattle.std.proofs.lemmas.Bool.{and_parts, false≢true, or_cases, or_left}
use Rattle.std.proofs.lemmas.Nat.{div_below, mod_below}
use Rattle.ml_base.specs.Bytes.{Text}
use Rattle.ml_base.specs.Dir.{Dir, same_name}
use Rattle.ml_base.specs.Hash.{hash_of}
use Rattle.ml_base.specs.declared.names.Name.{Name}
use Rattle.ml_base.specs.declared.names.Set.{Set}
use Rattle.ml_base.specs.declared.names.Set.TheVariants as sets
use Rattle.ml_base.proofs.Bools.{one_name}
use Rattle.ml_filing.specs.Answers.{IsAppendName}
use Rattle.ml_filing.specs.Archive.{number_name}
use Rattle.ml_filing.specs.Reads.{IsOfNext}
use Rattle.ml_filing.specs.Threads.{is_of_archive, thread_place}
use Rattle.ml_config.specs.ConfigFile.{config_name, config_text}
use Rattle.ml_config.specs.declared.configuration.Config.{Config}
use Rattle.ml_acts.specs.Configured.{with_config}
use Rattle.ml_acts.specs.Doing.{Alike, is_bucket_of, is_index, is_mailed_by, is_thread_file}
use Rattle.ml_acts.proofs.Asked.{bucket_other, mailed_other}
use Rattle.ml_post.specs.Alike.{AlikeForPost, AlikeToPublish}
use Rattle.ml_post.specs.Holding.{is_held_by}
use Rattle.ml_post.specs.Judging.{is_judged_by, is_of_user}
use Rattle.ml_post.specs.Posting.{is_posted_by}
use Rattle.ml_post.specs.Publishing.{is_published_by, sent_key}
use Rattle.ml_post.proofs.Beside.{held_other}
use Rattle.ml_post.proofs.Posts.{append_read}
use Rattle.ml_post.proofs.Read.{of_held, of_judged, of_published}

module _ (who : Text) (name : Name) where
  abbrev own : Set → Bool
  own set = is_bucket_of set who name

  -- the buckets of the users' sets, one after the other
  pub user_cases : {A : Type 0} → (own sets.List ≡ true → A) → (own sets.Digest ≡ true → A) → (own sets.Allow ≡ true → A) → (own sets.Moderators ≡ true → A) → is_of_user who name ≡ true → A
  user_cases {A = A} list digest allow moderators e = four (or_cases (own sets.List || own sets.Digest || own sets.Allow) (own sets.Moderators) e)
    where
      two : ((own sets.List ≡ true) ⊎ (own sets.Digest ≡ true)) → A
      two (inl a) = list a
      two (inr b) = digest b

      three : (((own sets.List || own sets.Digest) ≡ true) ⊎ (own sets.Allow ≡ true)) → A
      three (inl a) = two (or_cases (own sets.List) (own sets.Digest) a)
      three (inr b) = allow b

      four : (((own sets.List || own sets.Digest || own sets.Allow) ≡ true) ⊎ (own sets.Moderators ≡ true)) → A
      four (inl a) = three (or_cases (own sets.List || own sets.Digest) (own sets.Allow) a)
      four (inr b) = moderators b

  -- what tells a verdict: a bucket of the deny list, those of the users' sets, or the number of posts
  pub judged_cases : {A : Type 0} (c : Config) → (own sets.Deny ≡ true → A) → (is_of_user who name ≡ true → A) → (same_name name number_name ≡ true → A) → is_judged_by c who name ≡ true → A
  judged_cases {A = A} c deny user number e = go (or_cases ((c.flags.k && own sets.Deny) || (c.flags.u && is_of_user who name)) (not c.flags.m && same_name name number_name) e)
    where
      sets_of : (((c.flags.k && own sets.Deny) ≡ true) ⊎ ((c.flags.u && is_of_user who name) ≡ true)) → A
      sets_of (inl a) = deny (and_parts c.flags.k (own sets.Deny) a).1
      sets_of (inr b) = user (and_parts c.flags.u (is_of_user who name) b).1

      go : ((((c.flags.k && own sets.Deny) || (c.flags.u && is_of_user who name)) ≡ true) ⊎ ((not c.flags.m && same_name name number_name) ≡ true)) → A
      go (inl a) = sets_of (or_cases (c.flags.k && own sets.Deny) (c.flags.u && is_of_user who name) a)
      go (inr b) = number (and_parts (not c.flags.m) (same_name name number_name) b).1

-- the only one of the archive is the number of posts
judged_next : (c : Config) (who key : Text) (old : Dir) (name : Name) → is_judged_by c who name ≡ true → is_of_archive name ≡ true → IsOfNext old key name
judged_next c who key old name e of =
    judged_cases who name c (λ a. absurd (bucket_other name sets.Deny who a of))
    (λ a. user_cases who name (λ b. absurd (bucket_other name sets.List who b of)) (λ b. absurd (bucket_other name sets.Digest who b of)) (λ b. absurd (bucket_other name sets.Allow who b of)) (λ b. absurd (bucket_other name sets.Moderators who b of)) a)
    (λ a. inl (one_name name number_name a)) e

-- taking a post reads the place of the next post
pub next_append : (old : Dir) (key : Text) (name : Name) → IsOfNext old key name → IsAppendName name
next_append old key name (inl e) = inl e
next_append old key name (inr (inl at)) = let less = at.2 in inr (inl ((at.0 + 1) / 100, div_below (at.0 + 1) 100 1_000_000 (omega arith) (omega (arith, less)), at.3))
next_append old key name (inr (inr e)) = inr (inr (thread_place key, mod_below (hash_of key) 256 (omega arith), e))

pub mailed_published : (name : Name) → is_mailed_by sets.List name ≡ true → is_published_by name ≡ true
mailed_published name e =
    let mailed = is_mailed_by sets.List name in
    or_left (mailed || same_name name number_name || is_index name) (is_thread_file name)
    (or_left (mailed || same_name name number_name) (is_index name) (or_left mailed (same_name name number_name) e))

module _ (c : Config) (sender m : Text) (old dir : Dir) (alike : AlikeForPost c sender m old dir) where
  pub judged_alike : Alike (is_judged_by c sender) old dir
  judged_alike name e = alike name (of_judged c sender name e) (λ of. judged_next c sender (sent_key c m) old name e of)

  pub held_alike : c.flags.m ≡ true → Alike is_held_by old dir
  held_alike waits name e = alike name (of_held c sender name waits e) (λ of. absurd (held_other name e of))

  pub publish_alike : not c.flags.m ≡ true → AlikeToPublish c m old dir
  publish_alike free = record {
    mailed = λ name e. alike name (of_published c sender name free (mailed_published name e)) (λ of. absurd (mailed_other name sets.List e of));
    placed = λ name next. alike name (of_published c sender name free (append_read name (next_append old (sent_key c m) name next))) (λ of. next);
  }

-- files that were kept
pub publish_kept : (c : Config) (m : Text) (old new dir : Dir) → new ≡ old → AlikeToPublish c m old dir → AlikeToPublish c m new dir
publish_kept c m old new dir kept alike = subst (λ (d : Dir). AlikeToPublish c m d dir) (sym kept) alike

-- the configuration is none of these files, so they are the same with another configuration
judged_not : (c : Config) (sender : Text) → is_judged_by c sender config_name ≡ false
judged_not c sender = go c.flags.k c.flags.u c.flags.m
  where
    go : (k u m : Bool) → ((k && is_bucket_of sets.Deny sender config_name) || (u && is_of_user sender config_name) || (not m && same_name config_name number_name)) ≡ false
    go true true true = refl
    go true true false = refl
    go true false true = refl
    go true false false = refl
    go false true true = refl
    go false true false = refl
    go false false true = refl
    go false false false = refl

posted_not : (c : Config) (sender : Text) → is_posted_by c sender config_name ≡ false
posted_not c sender = go (is_judged_by c sender config_name) c.flags.m (judged_not c sender)
  where
    go : (judged m : Bool) → judged ≡ false → (judged || (m && is_held_by config_name) || (not m && is_published_by config_name)) ≡ false
    go true m e = e
    go false true e = refl
    go false false e = refl

pub under_same : (d : Config) (is : Name → Bool) (old : Dir) (name : Name) → is config_name ≡ false → is name ≡ true → with_config d old name ≡ old name
under_same d is old name none e = go (same_name name config_name) refl
  where
    go : (t : Bool) → same_name name config_name ≡ t → cond t (Some (config_text d)) (old name) ≡ old name
    go true same = absurd (false≢true (sym none ∙ ap is (sym (one_name name config_name same)) ∙ e))
    go false same = refl

pub judged_under : (c d : Config) (sender : Text) (old dir : Dir) → Alike (is_judged_by c sender) old dir → Alike (is_judged_by c sender) (with_config d old) dir
judged_under c d sender old dir alike name e = alike name e ∙ sym (under_same d (is_judged_by c sender) old name (judged_not c sender) e)

pub posted_under : (c d : Config) (sender m : Text) (old dir : Dir) → AlikeForPost c sender m old dir → AlikeForPost c sender m (with_config d old) dir
posted_under c d sender m old dir alike name e next = alike name e next ∙ sym (under_same d (is_posted_by c sender) old name (posted_not c sender) e)

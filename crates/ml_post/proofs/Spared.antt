-- A post looks at no damaged file, if every file that it looks at is the same in a directory that stands for a list.
use Rattle.std.proofs.Common.{◌≡◌, ◌⊎◌, inl, inr, ◌+◌, ◌/◌, ◌<◌, ℕ, true, length, Option, refl, sym, ap, ◌∙◌, subst, arith}
use Rattle.std.proofs.lemmas.Bool.{or_cases}
use Rattle.ml_base.specs.Bytes.{Text}
use Rattle.ml_base.specs.Dir.{Dir, same_name}
use Rattle.ml_base.specs.Drawn.{IsCounter}
use Rattle.ml_base.specs.declared.names.Name.{Name}
use Rattle.ml_base.specs.declared.names.Set.TheVariants as sets
use Rattle.ml_base.proofs.Bools.{one_name}
use Rattle.ml_filing.specs.Answers.{HasOtherCount, IsBadForAppend, IsNoNumber}
use Rattle.ml_filing.specs.Archive.{IsIndexFile, IsNumberFile, index_name, number_name}
use Rattle.ml_filing.specs.Reads.{IsOfNext}
use Rattle.ml_filing.specs.Threads.{IsThreadFile, is_of_archive}
use Rattle.ml_filing.proofs.Exact.{count_one}
use Rattle.ml_filing.proofs.Lengthened.{no_bad_next}
use Rattle.ml_filing.proofs.Looking.{counted_is, no_bad_index}
use Rattle.ml_config.specs.KeyFile.{IsKeyFile, key_name}
use Rattle.ml_config.specs.declared.configuration.Config.{Config}
use Rattle.ml_hold.specs.Answers.{Breaks, tickets_name}
use Rattle.ml_hold.proofs.OfFiles.{broken}
use Rattle.ml_plain.specs.Directory.{IsList}
use Rattle.ml_plain.specs.Plain.{Plain}
use Rattle.ml_acts.specs.Asked.{Count, IsDamagedOf}
use Rattle.ml_acts.specs.Damaged.{IsDamaged, IsNoKeys}
use Rattle.ml_acts.specs.Doing.{Alike, is_mailed_by}
use Rattle.ml_acts.proofs.Spared.{bucket_spared, keys_spared, mailed_spared, tickets_spared}
use Rattle.ml_post.specs.Holding.{is_asked_by, is_held_by}
use Rattle.ml_post.specs.Judging.{is_judged_by}
use Rattle.ml_post.proofs.Apart.{judged_cases, user_cases}

module _ (old dir : Dir) (p : Plain) (is : IsList dir p) where
  -- the number of posts
  pub number_spared : dir number_name ≡ old number_name → IsNoNumber old → ⊥
  number_spared same none = none (length p.posts) (subst (λ (f : Option Text). IsNumberFile f (length p.posts)) same (is.archive).filed.counted)

  -- the files that tell a verdict
  pub judged_spared : (c : Config) (who : Text) → Alike (is_judged_by c who) old dir → (name : Name) → is_judged_by c who name ≡ true → IsDamagedOf old Count name → ⊥
  judged_spared c who alike name e bad =
      let same = alike name e in
      judged_cases who name c (λ a. bucket_spared old dir p is sets.Deny who name a same bad.damaged)
      (λ a.
      user_cases who name (λ b. bucket_spared old dir p is sets.List who name b same bad.damaged) (λ b. bucket_spared old dir p is sets.Digest who name b same bad.damaged)
      (λ b. bucket_spared old dir p is sets.Allow who name b same bad.damaged) (λ b. bucket_spared old dir p is sets.Moderators who name b same bad.damaged) a)
      (λ a. let named = one_name name number_name a in number_spared (subst (λ (n : Name). dir n ≡ old n) named same) (bad.own (ap is_of_archive named)).1) e

  -- a held post, or the next ticket
  pub breaks_spared : (name : Name) → dir name ≡ old name → Breaks old name → ⊥
  breaks_spared name same bad = broken dir name p.held (go bad) is.held
    where
      go : Breaks old name → Breaks dir name
      go (inl b) = inl (b.0, λ low next there. b.1 low next (subst (λ (f : Option Text). IsCounter f low next) (subst (λ (n : Name). dir n ≡ old n) b.0 same) there))
      go (inr b) = inr (b.0, b.1, record { drawn = (b.2).drawn; text = (b.2).text; there = subst (λ (n : Name). dir n ≡ old n) b.1 same ∙ (b.2).there; none = (b.2).none })

  -- the keys
  pub no_keys_spared : dir key_name ≡ old key_name → IsNoKeys old → ⊥
  no_keys_spared same none = none p.keys (subst (λ (f : Option Text). IsKeyFile f p.keys) same is.keys)

  -- the files that holding a post reads
  pub held_spared : Alike is_held_by old dir → (name : Name) → is_held_by name ≡ true → IsDamaged old name → ⊥
  held_spared alike name e = go (or_cases (same_name name tickets_name) (is_asked_by name) e) (alike name e)
    where
      asked : ((same_name name key_name ≡ true) ⊎ (is_mailed_by sets.Moderators name ≡ true)) → dir name ≡ old name → IsDamaged old name → ⊥
      asked (inl a) = keys_spared old dir p is name a
      asked (inr b) = mailed_spared old dir p is sets.Moderators name b

      go : ((same_name name tickets_name ≡ true) ⊎ (is_asked_by name ≡ true)) → dir name ≡ old name → IsDamaged old name → ⊥
      go (inl a) = tickets_spared old dir p is name a
      go (inr b) = asked (or_cases (same_name name key_name) (is_mailed_by sets.Moderators name) b)

  -- those of the place of a new post, if there is room for one
  module _ (key : Text) (count : ℕ) (placed : (name : Name) → IsOfNext old key name → dir name ≡ old name) (file : IsNumberFile (old number_name) count) (less : count < 99_999_999) where
    counted : count ≡ length p.posts
    counted = counted_is dir p.posts (is.archive).filed count (subst (λ (f : Option Text). IsNumberFile f count) (sym (placed number_name (inl refl))) file)

    other_spared : (k : ℕ) → IsNumberFile (old number_name) k → HasOtherCount old (k + 1) → ⊥
    other_spared k there other =
        let one = count_one (old number_name) k count there file in
        let mine = counted in
        let low : k < 99_999_999 = omega (arith, one, less) in
        let same : dir (index_name ((k + 1) / 100)) ≡ old (index_name ((k + 1) / 100)) = placed (index_name ((k + 1) / 100)) (inr (inl (k, there, low, refl))) in
        no_bad_next dir p.posts (k + 1) number_name (is.archive).filed (omega (arith, one, mine)) (omega (arith, low))
        (inl (refl, (other.0, subst (λ (f : Option Text). IsIndexFile ((k + 1) / 100) f other.0) (sym same) other.1, other.2)))

    pub next_spared : (name : Name) → IsBadForAppend old name → IsOfNext old key name → ⊥
    next_spared name (inl (e, inl none)) next = number_spared (placed number_name (inl refl)) none
    next_spared name (inl (e, inr (k, there, other))) next = other_spared k there other
    next_spared name (inr (inl bad)) next =
        let same = subst (λ (n : Name). dir n ≡ old n) bad.2 (placed name next) in
        no_bad_index dir p.posts (is.archive).filed bad.0 bad.1 (λ entries there. bad.3 entries (subst (λ (f : Option Text). IsIndexFile bad.0 f entries) same there))
    next_spared name (inr (inr bad)) next =
        let same = subst (λ (n : Name). dir n ≡ old n) bad.2 (placed name next) in
        let threaded = (is.archive).threaded in
        bad.3 (threaded.threads bad.0) (subst (λ (f : Option Text). IsThreadFile bad.0 f (threaded.threads bad.0)) same (threaded.files bad.0 bad.1))

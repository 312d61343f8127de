-- Which damaged files are damaged for the posts in no digest.
use Rattle.std.proofs.Common.{◌≡◌, ◌≤◌, ◌+◌, ◌*◌, ◌/◌, ◌==◌, nat_lt, ◌∙◌, inl, inr, ⊎_elim, ℕ, true, false, ◌||◌, refl, sym, ap, subst, arith}
use Rattle.std.proofs.lemmas.Bool.{and_parts, or_cases}
use Rattle.ml_base.specs.Dir.{Dir, same_name}
use Rattle.ml_base.specs.Ranges.{is_drawn}
use Rattle.ml_base.specs.declared.names.Name.{Name}
use Rattle.ml_base.specs.declared.names.Set.{Set}
use Rattle.ml_base.specs.declared.names.Set.TheVariants as sets
use Rattle.ml_filing.specs.Answers.{IsNoIndex}
use Rattle.ml_filing.specs.Archive.{IsNumberFile, index_name, number_name}
use Rattle.ml_filing.specs.Threads.{is_of_archive}
use Rattle.ml_bounce.specs.Answers.{ledger_kind}
use Rattle.ml_config.specs.KeyFile.{key_name}
use Rattle.ml_digest.specs.Due.{IsMark}
use Rattle.ml_digest.specs.declared.posts.Mark.{Mark}
use Rattle.ml_hold.specs.Answers.{tickets_name}
use Rattle.ml_queue.specs.Answers.{ids_name}
use Rattle.ml_acts.specs.Asked.{IsDamagedOf, Undigested}
use Rattle.ml_acts.specs.Doing.{is_bucket, is_held_post}
use Rattle.ml_acts.proofs.Asked.{buckets_other, ids_other, kind_other, same_other}
use Rattle.ml_timed.specs.Digesting.{IsDamagedAfter, IsDamagedGroup, IsDamagedWithin}
use Rattle.ml_timed.specs.Reads.{is_followed_by, is_ledger, is_of_following, is_of_giving_back, is_of_issue, is_waiting}

pub hundred : (g : ℕ) → (100 * g) / 100 ≡ g
hundred g = omega arith

-- the index of a group, for one of its posts
pub group_after : (dir : Dir) (last count g n : ℕ) (name : Name) → last + 1 ≤ n → n ≤ count → n / 100 ≡ g → IsDamagedGroup dir g count name → IsDamagedAfter dir last count name
group_after dir last count g n name low high is bad = record {
  damaged = bad.damaged;
  own = λ of. ⊎_elim (λ own. inl (n, low, high, inr (own.0 ∙ ap index_name (sym is), inl (subst (λ (k : ℕ). IsNoIndex dir k) (sym is) own.1)))) (λ small. inr small) (bad.own of);
}

-- one of more posts
pub within_more : (dir : Dir) (n a b : ℕ) (name : Name) → a ≤ n → n ≤ b → IsDamagedWithin dir n n name → IsDamagedWithin dir a b name
within_more dir n a b name low high bad = record {
  damaged = bad.damaged;
  own = λ of.
      let own = bad.own of in
      let from = own.1 in
      let to = own.2 in
      (own.0, omega (arith, low, from), omega (arith, to, high), own.3);
}

-- if the posts are those after the mark
pub within_undigested : (dir : Dir) (mark : Mark) (count a b : ℕ) (name : Name) → IsMark dir mark → IsNumberFile (dir number_name) count → mark.last + 1 ≤ a → b ≤ count → IsDamagedWithin dir a b name → IsDamagedOf dir Undigested name
within_undigested dir mark count a b name is counted from to bad = record {
  damaged = bad.damaged;
  own = λ of.
      let own = bad.own of in
      let n = own.0 in
      let low = own.1 in
      let high = own.2 in
      inr (mark, is, count, counted, (n, omega (arith, from, low), omega (arith, high, to), own.3));
}

pub after_undigested : (dir : Dir) (mark : Mark) (count : ℕ) (name : Name) → IsMark dir mark → IsNumberFile (dir number_name) count → IsDamagedAfter dir mark.last count name → IsDamagedOf dir Undigested name
after_undigested dir mark count name is counted bad = record {
  damaged = bad.damaged;
  own = λ of. ⊎_elim (λ within. inr (mark, is, count, counted, within)) (λ small. inl (small.0, inr small.1)) (bad.own of);
}

-- what the other parts of a run read isn't of the archive
module _ (name : Name) where
  pub issue_other : is_of_issue name ≡ true → is_of_archive name ≡ true → ⊥
  issue_other e of = ⊎_elim (λ a. buckets_other name sets.Digest a of) (λ b. ids_other name b of) (or_cases (is_bucket sets.Digest name) (same_name name ids_name) e)

  pub giving_other : is_of_giving_back name ≡ true → is_of_archive name ≡ true → ⊥
  giving_other e of =
      ⊎_elim (λ a. ⊎_elim (λ h. kind_other name 13 refl (and_parts (name.kind == 13) (is_drawn name.at) h).0 of) (λ t. same_other name tickets_name refl t of) (or_cases (is_held_post name) (same_name name tickets_name) a)) (λ b. ids_other name b of)
      (or_cases (is_waiting name) (same_name name ids_name) e)

  ledgers_other : (set : Set) → is_of_archive (record { kind = ledger_kind set; at = name.at }) ≡ false → is_followed_by set name ≡ true → is_of_archive name ≡ true → ⊥
  ledgers_other set none e of =
      ⊎_elim (λ a. ⊎_elim (λ l. kind_other name (ledger_kind set) none (and_parts (name.kind == ledger_kind set) (nat_lt name.at 53) l).0 of) (λ b. buckets_other name set b of) (or_cases (is_ledger set name) (is_bucket set name) a)) (λ i. ids_other name i of)
      (or_cases (is_ledger set name || is_bucket set name) (same_name name ids_name) e)

  pub following_other : is_of_following name ≡ true → is_of_archive name ≡ true → ⊥
  following_other e of =
      ⊎_elim (λ a. ⊎_elim (λ k. same_other name key_name refl k of) (λ l. ledgers_other sets.List refl l of) (or_cases (same_name name key_name) (is_followed_by sets.List name) a)) (λ d. ledgers_other sets.Digest refl d of)
      (or_cases (same_name name key_name || is_followed_by sets.List name) (is_followed_by sets.Digest name) e)

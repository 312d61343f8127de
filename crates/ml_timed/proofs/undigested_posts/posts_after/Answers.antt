use Rattle.std.proofs.Common.{◌⊎◌, ⊎_elim, inl, inr, ◌≤◌, ◌≡◌, ◌∙◌, ◌++◌, ◌+◌, ◌*◌, ◌/◌, ℕ, List, refl, arith, rules, ap, ap₂, sym, subst}
use Rattle.std.proofs.lemmas.Bool.{cases_lt}
use Rattle.ml_filing.specs.Posts.{index_of}
use Rattle.ml_filing.specs.declared.posts.Entry.{Entry}
use Rattle.ml_base.specs.Dir.{Dir}
use Rattle.ml_filing.specs.Archive.{IsNumberFile, number_name}
use Rattle.ml_acts.specs.Asked.{IsTooSmall}
use Rattle.ml_timed.specs.Digesting.{IsDamagedGroup}
use Rattle.ml_timed.specs.Reads.{is_of_posts_seen}
use Rattle.ml_timed.proofs.Apart.{alike_kept}
use Rattle.std.specs.List.{list_all}
use Rattle.ml_timed.specs.Waiting.{are_short, is_short, moment_after, sizes_after}
use Rattle.ml_timed.proofs.After.{moment_in_first, sizes_of_both}
use Rattle.ml_timed.proofs.Short.{short_after, short_joined}
use Rattle.ml_timed.proofs.Within.{group_after, hundred}
use Rattle.ml_timed.proofs.Joined.{both_kept, names_after, names_err, names_so, one_kept, reads_beside, reads_ok, reads_then}
use Rattle.ml_timed.proofs.undigested_posts.posts_after.Goals as goal

pub returns-clause-sizes : goal.returns-clause-sizes
returns-clause-sizes g c told dir p alike is size =
    let last = c.args.last in
    let group = (last + 1) / 100 in
    let same = g.met.F.Files.kept_map c.args.files.now c.group_of.new.files told c.group_of.ensures.reads.kept in
    let first : c.as_slice.result.now ≡ index_of group p.posts = c.as_slice.ensures ∙ c.in_ok-first.ensures.apart told dir p alike is size in
    let second : c.as_slice-2.result.now ≡ index_of (group + 1) p.posts = c.as_slice-2.ensures ∙ c.in_ok-second.ensures.apart told dir p (alike_kept is_of_posts_seen (g.F.Files.map c.args.files.now) (g.F.Files.map c.group_of.new.files) dir same alike) is size in
    let begun : c.add_sizes.new.sizes ≡ sizes_after last (index_of group p.posts) =
    c.in_ok-add_sizes.ensures ∙ ap₂ (λ (a : List ℕ) (es : List Entry). a ++ sizes_after last es) c.new-sizes.ensures first
    in
    sizes_of_both last group p.posts c.add_sizes-2.new.sizes refl
    (c.in_ok-add_sizes-2.ensures ∙ ap₂ (λ (a : List ℕ) (es : List Entry). a ++ sizes_after last es) begun second)

pub returns-clause-oldest : goal.returns-clause-oldest
returns-clause-oldest g c told dir p alike is size =
    let last = c.args.last in
    let group = (last + 1) / 100 in
    c.oldest.ensures ∙ ap (moment_after last) (c.as_slice-3.ensures ∙ c.in_ok-first.ensures.apart told dir p alike is size) ∙ moment_in_first last group p.posts refl

pub returns-in_err-first-clause-names : goal.returns-in_err-first-clause-names
returns-in_err-first-clause-names g c =
    let last = c.args.last in
    let some = c.requires.some in
    names_err (names_so (λ name e. e) (λ name e bad. group_after (g.F.Files.map c.args.files.now) last c.args.count ((last + 1) / 100) (last + 1) name (omega arith) (omega (arith, some)) refl bad) c.in_err-first.ensures.names) (search rules)

pub returns-in_err-second-clause-names : goal.returns-in_err-second-clause-names
returns-in_err-second-clause-names g c =
    let last = c.args.last in
    let group = (last + 1) / 100 + 1 in
    names_err (names_after (λ d. IsDamagedGroup d group c.args.count) g.met.F.Files.kept_map (one_kept c.group_of.ensures.reads) (λ name e. e)
    (λ told name e bad. let high = bad.few in group_after (g.F.Files.map c.args.files.now) last c.args.count group (100 * group) name (omega arith) (omega (arith, high)) (hundred group) bad) c.in_err-second.ensures.names) (search rules)

pub returns-clause-short : goal.returns-clause-short
returns-clause-short g c =
    let last = c.args.last in
    let first = c.as_slice.result.now in
    let second = c.as_slice-2.result.now in
    let begun = ap (list_all is_short) (c.in_ok-add_sizes.ensures ∙ ap (λ (a : List ℕ). a ++ sizes_after last first) c.new-sizes.ensures) ∙ short_after last first (ap are_short c.as_slice.ensures ∙ c.in_ok-first.ensures.short) in
    ap (list_all is_short) c.in_ok-add_sizes-2.ensures
    ∙ short_joined c.add_sizes.new.sizes (sizes_after last second) begun (short_after last second (ap are_short c.as_slice-2.ensures ∙ c.in_ok-second.ensures.short))

pub group_of-requires-2-clause-counted : goal.group_of-requires-2-clause-counted
group_of-requires-2-clause-counted g c told =
    subst (λ (d : Dir). IsNumberFile (d number_name) c.args.count) (sym (g.met.F.Files.kept_map c.args.files.now c.group_of.new.files told c.group_of.ensures.reads.kept)) (c.requires.counted told)

pub returns-clause-agrees : goal.returns-clause-agrees
returns-clause-agrees g c told near small =
    let last = c.args.last in
    let count = c.args.count in
    let group = (last + 1) / 100 in
    let some = c.requires.some in
    let same = g.met.F.Files.kept_map c.args.files.now c.group_of.new.files told c.group_of.ensures.reads.kept in
    let two : (group ≡ count / 100) ⊎ (group + 1 ≡ count / 100) = one_of_two group (count / 100) (omega (arith, some)) near in
    ⊎_elim (λ first. c.in_ok-first.ensures.agrees told first small) (λ second. c.in_ok-second.ensures.agrees told second (subst (λ (d : Dir). IsTooSmall d) (sym same) small)) two
  where
    one_of_two : (a b : ℕ) → a ≤ b → b ≤ a + 1 → (a ≡ b) ⊎ (a + 1 ≡ b)
    one_of_two a b low high = ⊎_elim (λ less. inr (omega (arith, less, high))) (λ least. inl (omega (arith, least, low))) (cases_lt a b)

pub returns-in_err-second-clause-reads : goal.returns-in_err-second-clause-reads
returns-in_err-second-clause-reads g c =
    let read = reads_then g.met.F.Files.kept_then c.group_of.ensures.reads c.group_of-2.ensures.reads in
    search rules

pub returns-in_err-add_sizes-clause-reads : goal.returns-in_err-add_sizes-clause-reads
returns-in_err-add_sizes-clause-reads g c = reads_beside (both_kept g.met.F.Files.kept_then c.group_of.ensures.reads c.group_of-2.ensures.reads) (λ bad. search rules)

pub returns-in_err-add_sizes-2-clause-reads : goal.returns-in_err-add_sizes-2-clause-reads
returns-in_err-add_sizes-2-clause-reads g c = reads_beside (both_kept g.met.F.Files.kept_then c.group_of.ensures.reads c.group_of-2.ensures.reads) (λ bad. search rules)

pub returns-clause-reads : goal.returns-clause-reads
returns-clause-reads g c = reads_ok (both_kept g.met.F.Files.kept_then c.group_of.ensures.reads c.group_of-2.ensures.reads)

use Rattle.std.proofs.Common.{◌≡◌, ◌+◌, ◌-◌, ℕ, map, take, drop, length, [], ◌∷◌, List, sym, ap, ◌∙◌, subst, arith, rules}
use Rattle.std.proofs.lemmas.List.{length-append}
use Rattle.ml_base.specs.Dir.{Dir}
use Rattle.ml_base.proofs.ReadingLemmas.{kept_read, kept_self, kept_then}
use Rattle.ml_filing.specs.Archive.{IsNumberFile, number_name}
use Rattle.ml_digest.specs.declared.posts.DigestPost.{DigestPost}
use Rattle.ml_plain.specs.Timing.{digest_post}
use Rattle.ml_timed.specs.Digesting.{IsDamagedWithin}
use Rattle.ml_timed.specs.Reads.{is_of_posts_seen}
use Rattle.ml_timed.proofs.Apart.{alike_kept}
use Rattle.ml_timed.proofs.Posted.{one_more}
use Rattle.ml_timed.proofs.Within.{within_more}
use Rattle.ml_timed.proofs.Joined.{names_after, names_err}
use Rattle.ml_timed.proofs.digests.posts_in.Goals as goal

pub loop-number-init : goal.loop-number-init
loop-number-init g c =
    let some = c.requires.some in
    let none = c.new-posts.ensures in
    let zero_is : 0 ≡ c.args.range.first - c.args.range.first = omega arith in
    record {
      read = kept_self g.F.Files g.met.F.Files.kept_self c.args.files.now;
      from = omega arith;
      up = omega (arith, some);
      size = let empty : length c.new-posts.result ≡ 0 = ap (λ (t : List DigestPost). length t) none in omega (arith, empty);
      posts = λ told dir p alike is. none ∙ ap (λ (k : ℕ). map digest_post (take k (drop (c.args.range.first - 1) p.posts))) zero_is;
    }

pub returns-in_err-push-clause-reads : goal.returns-in_err-push-clause-reads
returns-in_err-push-clause-reads g c =
    let read =
    kept_then g.F.Files g.met.F.Files.kept_then c.args.files.now c.loop-number.files c.post_of.new.files c.loop-number.invariant.read
    (kept_read g.F.Files c.loop-number.files c.post_of.new.files c.post_of.result c.post_of.ensures.reads)
    in
    record { kept = read.kept; later = read.later; cause = search rules }

pub loop-number-preserved : goal.loop-number-preserved
loop-number-preserved g c =
    let before = c.loop-number.invariant in
    let low = c.requires.from_one in
    let from = before.from in
    let here = c.loop-number-test.true in
    let size = before.size in
    let more = c.in_ok-push.ensures.ok in
    record {
      read = kept_then g.F.Files g.met.F.Files.kept_then c.args.files.now c.loop-number.files c.post_of.new.files before.read
          (kept_read g.F.Files c.loop-number.files c.post_of.new.files c.post_of.result c.post_of.ensures.reads);
      from = omega (arith, from);
      up = omega (arith, here);
      size = let one : length c.push.new.self ≡ length c.loop-number.posts + 1 = ap (λ (t : List DigestPost). length t) more ∙ length-append c.loop-number.posts (c.in_ok-post_of.field-0 ∷ []) in omega (arith, one, size);
      posts = λ told dir p alike is.
          let same = g.met.F.Files.kept_map c.args.files.now c.loop-number.files told before.read.kept in
          one_more p.posts c.args.range.first c.loop-number.number c.loop-number.posts c.push.new.self c.in_ok-post_of.field-0 low from (before.posts told dir p alike is)
          (c.in_ok-post_of.ensures.apart told dir p (alike_kept is_of_posts_seen (g.F.Files.map c.args.files.now) (g.F.Files.map c.loop-number.files) dir same alike) is) more;
    }

pub returns-clause-apart : goal.returns-clause-apart
returns-clause-apart g c told dir p alike is =
    let up = c.loop-number.invariant.up in
    let past = c.loop-number-test.false in
    let same : c.loop-number.number ≡ c.args.range.last + 1 = omega (arith, up, past) in
    c.loop-number.invariant.posts told dir p alike is ∙ ap (λ (k : ℕ). map digest_post (take (k - c.args.range.first) (drop (c.args.range.first - 1) p.posts))) same

pub returns-in_err-post_of-clause-names : goal.returns-in_err-post_of-clause-names
returns-in_err-post_of-clause-names g c =
    let n = c.loop-number.number in
    let from = c.loop-number.invariant.from in
    let here = c.loop-number-test.true in
    names_err (names_after (λ d. IsDamagedWithin d n n) g.met.F.Files.kept_map c.loop-number.invariant.read (λ name e. e)
    (λ told name e bad. within_more (g.F.Files.map c.args.files.now) n c.args.range.first c.args.range.last name from here bad) c.in_err-post_of.ensures.names) (search rules)

pub post_of-requires-clause-counted : goal.post_of-requires-clause-counted
post_of-requires-clause-counted g c told =
    let same = g.met.F.Files.kept_map c.args.files.now c.loop-number.files told c.loop-number.invariant.read.kept in
    let there = c.requires.counted told in
    let here = c.loop-number-test.true in
    let up = there.2 in
    (there.0, subst (λ (d : Dir). IsNumberFile (d number_name) there.0) (sym same) there.1, omega (arith, here, up))

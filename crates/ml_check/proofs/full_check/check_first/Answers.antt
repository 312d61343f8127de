use Rattle.std.proofs.Common.{◌≡◌, ◌≤◌, List, [], length, arith, subst}
use Rattle.ml_base.specs.Dir.{Dir}
use Rattle.ml_base.specs.Drawn.{nothing_drawn}
use Rattle.ml_base.specs.declared.names.Set.{Set}
use Rattle.ml_subs.specs.Subscribers.{AreSubscribers}
use Rattle.ml_subs.specs.declared.member_list.Member.{Member}
use Rattle.ml_filing.specs.declared.posts.Post.{Post}
use Rattle.ml_archive.specs.Counted.{IsCountedArchive}
use Rattle.ml_digest.specs.Due.{IsMark}
use Rattle.ml_digest.specs.declared.posts.Mark.{Mark}
use Rattle.ml_check.proofs.full_check.check_first.Goals as goal

pub returns-clause-value : goal.returns-clause-value
returns-clause-value g c told =
    let start = c.args.files.now in
    let kept_1 = c.keys_of.ensures.reads.kept in
    let kept_2 = g.met.F.Files.kept_then start c.keys_of.new.files c.check_sets.new.files kept_1 c.check_sets.ensures.reads.kept in
    let kept_3 = g.met.F.Files.kept_then start c.check_sets.new.files c.posts_of.new.files kept_2 c.posts_of.ensures.reads.kept in
    let same_1 = g.met.F.Files.kept_map start c.keys_of.new.files told kept_1 in
    let same_2 = g.met.F.Files.kept_map start c.check_sets.new.files told kept_2 in
    let same_3 = g.met.F.Files.kept_map start c.posts_of.new.files told kept_3 in
    let count = c.in_ok-posts.posts in
    let sets = subst (λ (dir : Dir). (set : Set) → (ms : List Member) × AreSubscribers dir set ms) same_1 (c.in_ok-check_sets.ensures.ok told) in
    let posts = subst (λ (dir : Dir). (posts : List Post) × IsCountedArchive dir c.args.config.now.prefix posts × (count ≡ length posts)) same_2 (c.in_ok-posts.ensures.value told) in
    let mark = subst (λ (dir : Dir). (mark : Mark) × IsMark dir mark × (mark.last ≤ count) × (mark.issue ≤ mark.last)) same_3 (c.in_ok-check_mark.ensures.ok told) in
    let many = posts.2 in
    let last = mark.2 in (
      record {
        config = c.args.config.now;
        keys = c.in_ok-_keys._keys;
        sets = λ set. (sets set).0;
        posts = posts.0;
        held = nothing_drawn;
        list_ledger = [];
        digest_ledger = [];
        queue = nothing_drawn;
        mark = mark.0;
      },
      record {
        config = c.requires told;
        keys = c.in_ok-_keys.ensures.value told;
        sets = λ set. (sets set).1;
        archive = posts.1;
        mark = mark.1;
        digested = omega (arith, many, last);
        issued = mark.3;
      },
      posts.2,
    )

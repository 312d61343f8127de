use Rattle.std.proofs.Common.{◌≡◌, ℕ, None, rules, subst}
use Rattle.ml_base.specs.Dir.{Dir}
use Rattle.ml_base.specs.declared.names.Set.{Set}
use Rattle.ml_subs.specs.Subscribers.{AreSubscribers}
use Rattle.ml_plain.specs.Plain.{Plain, Sets}
use Rattle.ml_check.specs.Counted.{AreParts, AreLaterParts}
use Rattle.ml_check.specs.Sizes.{set_sizes_of, waiting_of}
use Rattle.ml_check.proofs.Counting.{parts_whole}
use Rattle.ml_base.specs.PartErrors.{OnDamaged}
use Rattle.ml_check.specs.Damage.{Breaks, MayRead}
use Rattle.ml_check.proofs.full_check.sizes_of.Goals as goal

pub returns-in_err-waiting-clause-names : goal.returns-in_err-waiting-clause-names
returns-in_err-waiting-clause-names g c =
    let e = c.in_err-waiting.field-0.0 in
    let failed = c.in_err-waiting.ensures.names in
    record {
      named = let own : OnDamaged e MayRead = failed.named in search rules;
      damaged = λ told.
          let same = g.met.F.Files.kept_map c.args.files.now c.check_first.new.files told c.check_first.ensures.reads.kept in
          let bad : OnDamaged e (Breaks c.args.config.now (g.F.Files.map c.args.files.now)) = subst (λ (dir : Dir). OnDamaged e (Breaks c.args.config.now dir)) same (failed.damaged told) in
          search rules;
    }

pub returns-in_err-sets-clause-names : goal.returns-in_err-sets-clause-names
returns-in_err-sets-clause-names g c =
    let e = c.in_err-sets.field-0.0 in
    let failed = c.in_err-sets.ensures.names in
    record {
      named = let own : OnDamaged e MayRead = failed.named in search rules;
      damaged = λ told.
          let kept = g.met.F.Files.kept_then c.args.files.now c.check_first.new.files c.check_later.new.files c.check_first.ensures.reads.kept c.check_later.ensures.reads.kept in
          let same = g.met.F.Files.kept_map c.args.files.now c.check_later.new.files told kept in
          let bad : OnDamaged e (Breaks c.args.config.now (g.F.Files.map c.args.files.now)) = subst (λ (dir : Dir). OnDamaged e (Breaks c.args.config.now dir)) same (failed.damaged told) in
          search rules;
    }

pub returns-clause-value : goal.returns-clause-value
returns-clause-value g c told =
    let start = c.args.files.now in
    let kept_1 = c.check_first.ensures.reads.kept in
    let kept_2 = g.met.F.Files.kept_then start c.check_first.new.files c.check_later.new.files kept_1 c.check_later.ensures.reads.kept in
    let same_1 = g.met.F.Files.kept_map start c.check_first.new.files told kept_1 in
    let same_2 = g.met.F.Files.kept_map start c.check_later.new.files told kept_2 in
    let first = c.in_ok-posts.ensures.value told in
    let later = subst (λ (dir : Dir). (p : Plain) × (floor : ℕ) × AreLaterParts dir p floor × (c.in_ok-waiting.waiting ≡ waiting_of p)) same_1 (c.in_ok-waiting.ensures.value told) in
    let sizes = subst (λ (dir : Dir). (sets : Sets) → ((set : Set) → AreSubscribers dir set (sets set)) → c.in_ok-sets.sets ≡ set_sizes_of sets) same_2 (c.in_ok-sets.ensures.value told) in
    let a = first.1 in
    let b = later.2 in
    let p : Plain = record first.0 { held = later.0.held; list_ledger = later.0.list_ledger; digest_ledger = later.0.digest_ledger; queue = later.0.queue } in
    let parts : AreParts (g.F.Files.map start) p later.1 = record {
      config = a.config;
      keys = a.keys;
      sets = a.sets;
      archive = a.archive;
      held = b.held;
      list_ledger = b.list_ledger;
      digest_ledger = b.digest_ledger;
      queue = b.queue;
      mark = a.mark;
      digested = a.digested;
      issued = a.issued;
      floor_is = b.floor_is;
    } in
    let of_sets = sizes p.sets a.sets in
    (record { plain = p; floor = later.1; kept = λ n. None }, parts_whole (g.F.Files.map start) p later.1 parts, λ i. record { posts = first.2 i; sets = of_sets i; waiting = later.3 i })

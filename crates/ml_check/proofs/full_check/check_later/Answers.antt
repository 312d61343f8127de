use Rattle.std.proofs.Common.{◌≡◌, IsTrue, length, refl, subst}
use Rattle.ml_base.specs.Dir.{Dir}
use Rattle.ml_base.specs.declared.names.Set.{Set}
use Rattle.ml_base.specs.declared.names.Set.TheVariants as sets
use Rattle.ml_bounce.specs.Answers.{has_ledger, ledger_kind}
use Rattle.ml_bounce.specs.Files.{IsLedger}
use Rattle.ml_bounce.specs.Ledger.{Ledger}
use Rattle.ml_hold.specs.Held.{Pending}
use Rattle.ml_hold.specs.Answers.{IsCountedPending}
use Rattle.ml_queue.specs.Queue.{Queue}
use Rattle.ml_queue.specs.Answers.{IsCountedQueue}
use Rattle.ml_plain.specs.KeptFiles.{IsFloorFile, floor_name}
use Rattle.ml_check.proofs.Counting.{any_list}
use Rattle.ml_check.proofs.full_check.check_later.Goals as goal

pub returns-clause-value : goal.returns-clause-value
returns-clause-value g c told =
    let start = c.args.files.now in
    let kept_1 = c.held_of.ensures.reads.kept in
    let kept_2 = g.met.F.Files.kept_then start c.held_of.new.files c.check_ledgers.new.files kept_1 c.check_ledgers.ensures.reads.kept in
    let kept_3 = g.met.F.Files.kept_then start c.check_ledgers.new.files c.queue_of.new.files kept_2 c.queue_of.ensures.reads.kept in
    let same_1 = g.met.F.Files.kept_map start c.held_of.new.files told kept_1 in
    let same_2 = g.met.F.Files.kept_map start c.check_ledgers.new.files told kept_2 in
    let same_3 = g.met.F.Files.kept_map start c.queue_of.new.files told kept_3 in
    let held : (pending : Pending) × IsCountedPending (g.F.Files.map start) pending × (c.in_ok-held.held ≡ length pending.all) = c.in_ok-held.ensures.value told in
    let ledgers = subst (λ (dir : Dir). (set : Set) → IsTrue (has_ledger set) → (ledger : Ledger) × IsLedger dir (ledger_kind set) ledger) same_1 (c.in_ok-check_ledgers.ensures.ok told) in
    let queue = subst (λ (dir : Dir). (queue : Queue) × IsCountedQueue dir queue × (c.in_ok-queue.queue ≡ length queue.all)) same_2 (c.in_ok-queue.ensures.value told) in
    let floor = subst (λ (dir : Dir). IsFloorFile (dir floor_name) c.in_ok-_floor._floor) same_3 (c.in_ok-_floor.ensures.value told) in
    let list = ledgers sets.List refl in
    let digest = ledgers sets.Digest refl in (
      record any_list { held = held.0; list_ledger = list.0; digest_ledger = digest.0; queue = queue.0 },
      c.in_ok-_floor._floor,
      record { held = held.1; list_ledger = list.1; digest_ledger = digest.1; queue = queue.1; floor_is = floor },
      λ i. record { held = held.2 i; queue = queue.2 i },
    )

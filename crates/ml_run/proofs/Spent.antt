-- The bound on syncs.
use Rattle.std.proofs.Common.{◌≡◌, ◌⊎◌, ⊎_elim, ℕ, ◌+◌, ◌-◌, ◌*◌, ◌/◌, ◌^◌, ◌≤◌, ◌<◌, min, IsTrue, List, length, ap, arith}
use Rattle.std.proofs.lemmas.Bool.{cases_lt}
use Rattle.ml_base.specs.Bytes.{Text}
use Rattle.ml_base.specs.declared.puts.Put.{Put}
use Rattle.ml_journal.specs.Records.{content_size}
use Rattle.ml_journal.specs.Kept.{IsKept}
use Rattle.ml_journal.specs.Stores.{site_of, grown}
use Rattle.ml_journal.specs.declared.store.Store.{Store}
use Rattle.ml_site.specs.Disk.{Contents}
use Rattle.ml_site.specs.declared.site.Site.{Ghosts}
use Rattle.ml_ending.specs.Endings.{CostsAtMost}
use Rattle.ml_run.specs.Settling.{IsSettled}
use Rattle.ml_run.specs.Spending.{Costs, HasSpent}

-- nothing is spent at the start, on a log of one gate
pub spent_none : (syncs bytes log : ℕ) → log ≤ 1 → HasSpent syncs syncs bytes bytes log 0 0
spent_none syncs bytes log le = record {
  full = 0;
  heavy = 0;
  laid = 0;
  of_answered = omega arith;
  of_bytes = omega arith;
  of_log = omega (arith, le);
  few = omega arith;
}

-- one batch more, which counts as this many full and this many heavy ones
spent_batch : (s0 s1 s2 b0 b1 b2 l1 l2 answered count others extra full heavy : ℕ) (txn : List Put) → HasSpent s0 s1 b0 b1 l1 answered others → Costs s1 s2 b1 b2 l1 l2 txn
    → 16 * full ≤ count → 4_194_304 * heavy ≤ content_size txn → 2 ≤ extra + 2 * full + 2 * heavy → HasSpent s0 s2 b0 b2 l2 (answered + count) (others + extra)
spent_batch s0 s1 s2 b0 b1 b2 l1 l2 answered count others extra full heavy txn h spends enough size two = ⊎_elim
    (λ lt. let many = spends.many lt in record {
      full = h.full + full;
      heavy = h.heavy + heavy;
      laid = h.laid + 1;
      of_answered = omega (arith, h.of_answered, enough);
      of_bytes = omega (arith, h.of_bytes, spends.content, size);
      of_log = omega (arith, h.of_log, many.1, many.2);
      few = omega (arith, h.few, many.0, two);
    })
    (λ le. let two_syncs = spends.few le in record {
      full = h.full + full;
      heavy = h.heavy + heavy;
      laid = h.laid;
      of_answered = omega (arith, h.of_answered, enough);
      of_bytes = omega (arith, h.of_bytes, spends.content, size);
      of_log = omega (arith, h.of_log, two_syncs.1);
      few = omega (arith, h.few, two_syncs.0, two);
    })
    (cases_lt 8_388_608 (grown l1 txn))

-- a batch of 16 items
pub spent_full : (s0 s1 s2 b0 b1 b2 l1 l2 answered count others : ℕ) (txn : List Put) → HasSpent s0 s1 b0 b1 l1 answered others → Costs s1 s2 b1 b2 l1 l2 txn → count ≡ 16 → HasSpent s0 s2 b0 b2 l2 (answered + count) (others + 0)
spent_full s0 s1 s2 b0 b1 b2 l1 l2 answered count others txn h spends is = spent_batch s0 s1 s2 b0 b1 b2 l1 l2 answered count others 0 1 0 txn h spends (omega (arith, is)) (omega arith) (omega arith)

-- a batch of at least 4,194,304 bytes
pub spent_heavy : (s0 s1 s2 b0 b1 b2 l1 l2 answered count others size : ℕ) (txn : List Put) → HasSpent s0 s1 b0 b1 l1 answered others → Costs s1 s2 b1 b2 l1 l2 txn
    → 4_194_304 ≤ size → size ≡ min (content_size txn) (2 ^ 64 - 1) → HasSpent s0 s2 b0 b2 l2 (answered + count) (others + 0)
spent_heavy s0 s1 s2 b0 b1 b2 l1 l2 answered count others size txn h spends le is = spent_batch s0 s1 s2 b0 b1 b2 l1 l2 answered count others 0 0 1 txn h spends (omega arith) (omega (arith, le, is)) (omega arith)

-- another batch
pub spent_other : (s0 s1 s2 b0 b1 b2 l1 l2 answered count others : ℕ) (txn : List Put) → HasSpent s0 s1 b0 b1 l1 answered others → Costs s1 s2 b1 b2 l1 l2 txn → HasSpent s0 s2 b0 b2 l2 (answered + count) (others + 2)
spent_other s0 s1 s2 b0 b1 b2 l1 l2 answered count others txn h spends = spent_batch s0 s1 s2 b0 b1 b2 l1 l2 answered count others 2 0 0 txn h spends (omega arith) (omega arith) (omega arith)

-- what is spent is bounded by the answers and the log bytes
pub spent_bound : (s0 s1 s2 b0 b1 b2 log answered others more : ℕ) → HasSpent s0 s1 b0 b1 log answered others → CostsAtMost more s1 s2 b1 b2 → s2 ≤ s0 + (others + more + 1) + 2 * (answered / 16) + (b2 - b0) / 1_048_576
spent_bound s0 s1 s2 b0 b1 b2 log answered others more h last =
    let batches : h.full ≤ answered / 16 = full_batches h.full answered h.of_answered in
    let bytes : 2 * h.heavy + 3 * h.laid ≤ (b2 - b0) / 1_048_576 + 1 = heavy_batches h.heavy h.laid (b2 - b0) (omega (arith, h.of_bytes, last.bytes_stay)) (omega (arith, h.of_bytes, h.of_log, last.bytes_stay)) in
    omega (arith, batches, bytes, h.few, last.few)
  where
    full_batches : (full answered : ℕ) → 16 * full ≤ answered → full ≤ answered / 16
    full_batches full answered le = omega (arith, le)

    heavy_batches : (heavy laid bytes : ℕ) → 4_194_304 * heavy ≤ bytes → 8_388_608 * laid ≤ bytes + 1 → 2 * heavy + 3 * laid ≤ bytes / 1_048_576 + 1
    heavy_batches heavy laid bytes one two = omega (arith, one, two)

-- what a batch cost if its store was only read before
pub costs_of : {S : Type 0} (ghosts : Ghosts S) (old read : Store S ghosts) (new : S) (txn : List Put) (lines : Text) → IsTrue ghosts.tells_all → IsTrue ghosts.tells_reads → IsKept old read → IsSettled ghosts txn lines (site_of read) new
    → Costs (ghosts.syncs (site_of old)) (ghosts.syncs new) (ghosts.log_bytes (site_of old)) (ghosts.log_bytes new) (length (ghosts.disk (site_of old)).reads.log) (length (ghosts.disk new).reads.log) txn
costs_of {S} ghosts old read new txn lines t r kept ends =
    let s = ends.spends t in
    let syncs = kept.syncs_are t in
    let bytes = kept.log_bytes_are t in
    let log : length (ghosts.disk (site_of read)).reads.log ≡ length (ghosts.disk (site_of old)).reads.log = ap (λ (held : Contents). length held.log) (kept.reads r) in
    let size : grown (length (ghosts.disk (site_of read)).reads.log) txn ≡ grown (length (ghosts.disk (site_of old)).reads.log) txn = ap (λ n. grown n txn) log in record {
      content = omega (arith, s.handed, bytes);
      few = λ le. ⊎_elim (λ a. (omega (arith, a.1.syncs, syncs), omega (arith, a.1.grows, bytes, log))) (λ b. absurd (omega (arith, le, b.0, size))) s.cost;
      many = λ lt. ⊎_elim (λ a. absurd (omega (arith, lt, a.0, size))) (λ b. (omega (arith, b.1.syncs, syncs), b.1.short, omega (arith, b.1.paid, bytes, log))) s.cost;
    }

-- a batch after which the run goes on: it is full, or heavy, or the last that is to be read
pub spent_next : (s0 s1 s2 b0 b1 b2 l1 l2 answered count limit others size : ℕ) (txn : List Put) → HasSpent s0 s1 b0 b1 l1 answered others → (answered < limit → others ≡ 0) → Costs s1 s2 b1 b2 l1 l2 txn → size ≡ min (content_size txn) (2 ^ 64 - 1)
    → 0 < count → count ≤ limit - answered → (count ≡ 16) ⊎ ((4_194_304 ≤ size) ⊎ (count ≡ limit - answered))
    → (more : ℕ) × (more ≤ 2) × (answered + count < limit → more ≡ 0) × HasSpent s0 s2 b0 b2 l2 (answered + count) more
spent_next s0 s1 s2 b0 b1 b2 l1 l2 answered count limit others size txn h none spends is some few full =
    let zero : others ≡ 0 = none (omega (arith, some, few)) in
    ⊎_elim (λ e. (others + 0, omega (arith, zero), λ lt. omega (arith, zero), spent_full s0 s1 s2 b0 b1 b2 l1 l2 answered count others txn h spends e))
    (λ more. ⊎_elim (λ heavy. (others + 0, omega (arith, zero), λ lt. omega (arith, zero), spent_heavy s0 s1 s2 b0 b1 b2 l1 l2 answered count others size txn h spends heavy is))
    (λ e. (others + 2, omega (arith, zero), λ lt. absurd (omega (arith, lt, e, some)), spent_other s0 s1 s2 b0 b1 b2 l1 l2 answered count others txn h spends)) more) full

use Rattle.std.proofs.Common.{◌≡◌, ◌≤◌, ◌+◌, ◌-◌, ◌*◌, ◌==◌, cond, List, ◌++◌, ℕ}
use Rattle.ml_stream.specs.Stream.{length_at}
use Rattle.ml_stream.specs.Reading.{Stands}
use Rattle.ml_stream.proofs.reader.Reader.length.Given as goal

abbrev pub invariant-loop-b : goal.invariant-loop-b
invariant-loop-b g l =
    let left = g.I.Source.left in
    record {
      n : l.n ≤ l.limit;
      count : l.count ≤ l.n + 1;
      later : g.I.Source.faults l.fn.input ≤ g.I.Source.faults l.input;
      fronts : (bs : List ℕ) → Stands l.fn.self.place l.fn.self.ahead (left l.fn.input) bs → (front rest : List ℕ) × (bs ≡ front ++ rest)
          × Stands l.self.place l.self.ahead (left l.input) rest
          × ((more : List ℕ) → length_at l.start l.limit l.count l.n l.self.place more ≡ length_at l.start l.limit 0 0 l.fn.self.place (front ++ more));
      reads : (bs : List ℕ) → Stands l.fn.self.place l.fn.self.ahead (left l.fn.input) bs → (rest : List ℕ)
          × Stands l.self.place l.self.ahead (left l.input) rest
          × (length_at l.start l.limit l.count l.n l.self.place rest ≡ length_at l.start l.limit 0 0 l.fn.self.place bs);
    }

abbrev pub decreases-loop-b : goal.decreases-loop-b
decreases-loop-b g l = 2 * (l.limit - l.n) + cond (l.count == 0) 1 0

-- What a source and a clock in memory show.
use Rattle.std.specs.Prelude.{ℕ, List, drop}
use Rattle.ml_site.specs.declared.streams.MemSource.{MemSource}
use Rattle.ml_site.specs.declared.streams.MemClock.{MemClock}

-- the bytes that the source has left
abbrev pub mem_left : MemSource → List ℕ
mem_left s = drop s.at s.bytes

-- how often a read has failed
abbrev pub source_faults : MemSource → ℕ
source_faults s = s.faults

-- the reads, counted from 1, that are to fail
abbrev pub source_failing : MemSource → List ℕ
source_failing s = s.plan.failing

-- how many reads were made
abbrev pub source_made : MemSource → ℕ
source_made s = s.plan.made

-- the moment that the clock shows
abbrev pub mem_shows : MemClock → ℕ
mem_shows s = s.moment

-- how often the clock has failed
abbrev pub clock_faults : MemClock → ℕ
clock_faults s = s.faults

-- the calls of the clock, counted from 1, that are to fail
abbrev pub clock_failing : MemClock → List ℕ
clock_failing s = s.plan.failing

-- how many calls of the clock were made
abbrev pub clock_made : MemClock → ℕ
clock_made s = s.plan.made

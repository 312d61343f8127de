use Rattle.std.proofs.Common.{◌≡◌, IsTrue, List, ℕ}
use Rattle.ml_base.specs.declared.names.Name.{Name}
use Rattle.ml_site.specs.Disk.{Contents}
use Rattle.ml_journal.specs.Calls.{Leaves, Keeps}
use Rattle.ml_journal.specs.Newest.{with_newest}
use Rattle.ml_journal.specs.Laying.{Beside, IsOver, IsBeside}
use Rattle.ml_journal.proofs.laid_files.lay_files.Given as goal

abbrev pub invariant-loop-name : goal.invariant-loop-name
invariant-loop-name g l = record {
  can_next : (goal.iterator-loop-name g).can_next l.name-iterator;
  is_finite : (goal.iterator-loop-name g).is_finite l.name-iterator;
  reads : IsTrue g.S.Site.tells_reads → (name : Name) → IsBeside name l.name-iterator → (g.S.Site.disk l.site).reads.files name ≡ with_newest l.newest.puts (g.S.Site.disk l.initial.site).reads.files name;
  beside : IsTrue g.S.Site.tells_reads → Beside l.newest.puts (g.S.Site.disk l.initial.site).reads (g.S.Site.disk l.site).reads;
  instants : Leaves g.S.Site l.initial.site l.site (λ (left : Contents) (out : List ℕ). Beside l.newest.puts (g.S.Site.disk l.initial.site).reads left × (out ≡ g.S.Site.output l.initial.site));
  images : IsTrue g.S.Site.tells_all → IsOver l.newest.puts (g.S.Site.disk l.initial.site).reads (g.S.Site.disk l.site);
  keeps : Keeps g.S.Site 0 ⊥ l.initial.site l.site;
}

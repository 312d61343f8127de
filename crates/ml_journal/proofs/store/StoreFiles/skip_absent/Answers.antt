use Rattle.std.proofs.Common.{◌≡◌, ◌<◌, sym, subst, arith, [], ◌∷◌, ◌++◌, take, get_or}
use Rattle.ml_site.specs.Disk.{Contents, Disk}
use Rattle.ml_site.proofs.Steps.{after_read}
use Rattle.ml_journal.specs.Newest.{with_newest}
use Rattle.ml_journal.specs.Rows.{IsRow}
use Rattle.ml_journal.specs.Kept.{IsStill}
use Rattle.ml_journal.proofs.Fields.{none_shown}
use Rattle.ml_journal.proofs.Held.{held_rests}
use Rattle.ml_journal.proofs.store.StoreFiles.skip_absent.Goals as goal

pub invariant_of-self : goal.invariant_of-self
invariant_of-self g c =
    let self = c.args.self.now in record {
      small = self.small;
      split = λ told. subst (λ (m : Contents). m.log ≡ take self.end m.log ++ 0 ∷ []) (sym (c.skip_some.ensures.same.reads told)) (self.split told);
      begins = λ told. subst (λ (m : Contents). 0 < self.end → get_or m.log 0 0 ≡ 1) (sym (c.skip_some.ensures.same.reads told)) (self.begins told);
      row = λ told. subst (λ (m : Contents). IsRow (take self.end m.log) (with_newest self.newest.puts)) (sym (c.skip_some.ensures.same.reads told)) (self.row told);
      settled = λ told. subst (λ (d : Disk). d.settled ≡ d.reads) (sym (c.skip_some.ensures.same.disk told)) (self.settled told);
      rest = λ told. subst (λ (d : Disk). d.pending ≡ []) (sym (c.skip_some.ensures.same.disk told)) (self.rest told);
    }

pub returns-clause-value : goal.returns-clause-value
returns-clause-value g c = λ told.
    let self = c.args.self.now in
    none_shown (g.S.Site.disk self.site).reads self.end self.newest.puts c.args.kind c.args.from c.next_place-end.result c.skip_some.result (held_rests self told)
    c.next_place-end.ensures.none c.skip_some.ensures.range (c.skip_some.ensures.none told)

pub returns-clause-kept : goal.returns-clause-kept
returns-clause-kept g c =
    let self = c.args.self.now in record {
      reads = λ told. c.skip_some.ensures.same.reads told;
      disk_is = λ told. c.skip_some.ensures.same.disk told;
      output_is = λ told. c.skip_some.ensures.keeps.output told;
      instants = λ told. after_read g.S.Site.instant g.S.Site.left_since g.S.Site.disk g.S.Site.output (λ s left out l. g.met.S.Site.only_now s left out told l)
          self.site c.skip_some.new.site (IsStill g.S.Site self.site) (record { settled = self.settled told; pending = self.rest told }) (c.skip_some.ensures.same.disk told) (c.skip_some.ensures.keeps.output told) (c.skip_some.ensures.keeps.time told)
          (λ left is out same. (is, same));
      syncs_are = λ told. c.skip_some.ensures.numbers.syncs told;
      log_bytes_are = λ told. c.skip_some.ensures.numbers.log_bytes told;
      disk_faults_are = c.skip_some.ensures.keeps.faults;
      output_faults_are = omega (arith, c.skip_some.ensures.keeps.others);
    }

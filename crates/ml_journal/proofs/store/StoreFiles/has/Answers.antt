use Rattle.std.proofs.Common.{◌≡◌, ◌<◌, ◌∙◌, ap, sym, subst, arith, Option, None, is_some, [], ◌∷◌, ◌++◌, take, get_or}
use Rattle.std.proofs.lemmas.Result.{IfOk-weaker}
use Rattle.ml_base.specs.Bytes.{Text}
use Rattle.ml_site.specs.Disk.{Contents, Disk}
use Rattle.ml_site.proofs.Steps.{after_read}
use Rattle.ml_journal.specs.Newest.{newest_of, left_by, with_newest}
use Rattle.ml_journal.specs.Rows.{IsRow}
use Rattle.ml_journal.specs.Kept.{IsStill, kept_itself}
use Rattle.ml_journal.proofs.Fields.{shown}
use Rattle.ml_journal.proofs.Held.{held_rests}
use Rattle.ml_journal.proofs.store.StoreFiles.has.Goals as goal

pub returns-in-Some-clause-kept : goal.returns-in-Some-clause-kept
returns-in-Some-clause-kept g c = kept_itself g.met.S.Site.only_now c.args.self.now

pub invariant_of-self : goal.invariant_of-self
invariant_of-self g c =
    let self = c.args.self.now in record {
      small = self.small;
      split = λ told. subst (λ (m : Contents). m.log ≡ take self.end m.log ++ 0 ∷ []) (sym (c.has_one.ensures.same.reads told)) (self.split told);
      begins = λ told. subst (λ (m : Contents). 0 < self.end → get_or m.log 0 0 ≡ 1) (sym (c.has_one.ensures.same.reads told)) (self.begins told);
      row = λ told. subst (λ (m : Contents). IsRow (take self.end m.log) (with_newest self.newest.puts)) (sym (c.has_one.ensures.same.reads told)) (self.row told);
      settled = λ told. subst (λ (d : Disk). d.settled ≡ d.reads) (sym (c.has_one.ensures.same.disk told)) (self.settled told);
      rest = λ told. subst (λ (d : Disk). d.pending ≡ []) (sym (c.has_one.ensures.same.disk told)) (self.rest told);
    }

pub returns-in-None-clause-value : goal.returns-in-None-clause-value
returns-in-None-clause-value g c = λ told.
    let self = c.args.self.now in
    let held = (g.S.Site.disk self.site).reads in
    let none : newest_of self.newest.puts c.args.name ≡ None = sym c.in-None.ensures in
    let same = shown held self.end self.newest.puts c.args.name (held_rests self told)
    ∙ ap (λ (found : Option (Option Text)). left_by found (held.files c.args.name)) none in
    IfOk-weaker c.has_one.result _ _ (λ there is. is ∙ ap is_some (sym same)) (c.has_one.ensures.there told)

pub returns-in-None-clause-kept : goal.returns-in-None-clause-kept
returns-in-None-clause-kept g c =
    let self = c.args.self.now in record {
      reads = λ told. c.has_one.ensures.same.reads told;
      disk_is = λ told. c.has_one.ensures.same.disk told;
      output_is = λ told. c.has_one.ensures.keeps.output told;
      instants = λ told. after_read g.S.Site.instant g.S.Site.left_since g.S.Site.disk g.S.Site.output (λ s left out l. g.met.S.Site.only_now s left out told l)
          self.site c.has_one.new.site (IsStill g.S.Site self.site) (record { settled = self.settled told; pending = self.rest told }) (c.has_one.ensures.same.disk told) (c.has_one.ensures.keeps.output told) (c.has_one.ensures.keeps.time told)
          (λ left is out same. (is, same));
      syncs_are = λ told. c.has_one.ensures.numbers.syncs told;
      log_bytes_are = λ told. c.has_one.ensures.numbers.log_bytes told;
      disk_faults_are = c.has_one.ensures.keeps.faults;
      output_faults_are = omega (arith, c.has_one.ensures.keeps.others);
    }

use Rattle.std.proofs.Common.{◌≡◌, Option, refl, sym, ap, ◌∙◌, subst, arith, rules}
use Rattle.std.specs.Prelude.{IsSome}
use Rattle.std.specs.Map.Iter.{deref_pair}
use Rattle.std.proofs.lemmas.Map.Iter.{btree_map_turn, rest_more}
use Rattle.ml_base.specs.Bytes.{Text}
use Rattle.ml_base.proofs.NameMaps.{names_total}
use Rattle.ml_site.specs.Disk.{Contents, Now}
use Rattle.ml_site.proofs.FileParts.{over_rest, over_more}
use Rattle.ml_site.proofs.Steps.{goes_on, at_start}
use Rattle.ml_journal.specs.Newest.{newest_of}
use Rattle.ml_journal.specs.Laying.{Beside}
use Rattle.ml_journal.proofs.Keeping.{keeps_none, keeps_on}
use Rattle.ml_journal.proofs.Laid.{no_change, beside_more, over_image, none_laid, laid_more}
use Rattle.ml_journal.proofs.laid_files.lay_files.Goals as goal

pub loop-name-init : goal.loop-name-init
loop-name-init g c =
    let puts = c.args.newest.now.puts in
    let site = c.args.site.now in record {
      can_next = tt;
      is_finite = tt;
      reads = λ told name beside. none_laid puts c.into_iter-name-iterator.result (g.S.Site.disk site).reads.files name (search rules) beside;
      beside = λ told. no_change puts (g.S.Site.disk site).reads;
      instants = λ told. at_start g.S.Site.instant g.S.Site.left_since g.S.Site.disk g.S.Site.output (λ s left out l. g.met.S.Site.only_now s left out told l) site
          (λ left out. Beside puts (g.S.Site.disk site).reads left × (out ≡ g.S.Site.output site)) (c.requires.rest told)
          (λ left is out same. (subst (Beside puts (g.S.Site.disk site).reads) (sym is) (no_change puts (g.S.Site.disk site).reads), same));
      images = λ told. over_rest (λ name. IsSome (newest_of puts name)) (g.S.Site.disk site) (c.requires.rest told);
      keeps = keeps_none g.S.Site 0 ⊥ site (λ f. f);
    }

pub lay_one-requires : goal.lay_one-requires
lay_one-requires g c =
    let turn = btree_map_turn deref_pair c.loop-name.yielded c.into_iter-name-iterator.result c.loop-name.name-iterator c.next.new.self c.next.result (c.in-Some.name, c.in-Some.bytes) c.loop-name.yielded_by c.in-Some.is c.next.ensures.steps names_total c.args.newest.now.puts (search rules) (search rules) in
    c.args.newest.now.files c.in-Some.name.now (subst (λ (o : Option (Option Text)). IsSome o) (sym turn.1) refl)

pub returns-in_err-lay_one-clause-images : goal.returns-in_err-lay_one-clause-images
returns-in_err-lay_one-clause-images g c = λ told.
    let turn = btree_map_turn deref_pair c.loop-name.yielded c.into_iter-name-iterator.result c.loop-name.name-iterator c.next.new.self c.next.result (c.in-Some.name, c.in-Some.bytes) c.loop-name.yielded_by c.in-Some.is c.next.ensures.steps names_total c.args.newest.now.puts (search rules) (search rules) in
    over_more (λ name. IsSome (newest_of c.args.newest.now.puts name)) c.lay_one.result c.in-Some.name.now _ _ _ (subst (λ (o : Option (Option Text)). IsSome o) (sym turn.1) refl) (c.loop-name.invariant.images told) (c.lay_one.ensures.change.pends told)

pub returns-in_err-lay_one-clause-laid : goal.returns-in_err-lay_one-clause-laid
returns-in_err-lay_one-clause-laid g c =
    let puts = c.args.newest.now.puts in
    let old = (g.S.Site.disk c.args.site.now).reads in
    let turn = btree_map_turn deref_pair c.loop-name.yielded c.into_iter-name-iterator.result c.loop-name.name-iterator c.next.new.self c.next.result (c.in-Some.name, c.in-Some.bytes) c.loop-name.yielded_by c.in-Some.is c.next.ensures.steps names_total c.args.newest.now.puts (search rules) (search rules) in record {
      reads = search rules;
      beside = λ r. beside_more puts c.in-Some.name.now _ _ _ (subst (λ (o : Option (Option Text)). IsSome o) (sym turn.1) refl) (c.loop-name.invariant.beside r) (c.lay_one.ensures.change.reads r).part_only;
      instants = λ told.
          let over = returns-in_err-lay_one-clause-images g c told in
          goes_on g.S.Site.instant g.S.Site.left_since g.S.Site.disk g.S.Site.output c.args.site.now c.loop-name.site c.lay_one.new.site
          (λ left out. Beside puts old left × (out ≡ g.S.Site.output c.args.site.now))
          (Now (g.S.Site.disk c.lay_one.new.site) (g.S.Site.output c.lay_one.new.site))
          (c.loop-name.invariant.instants told) (c.lay_one.ensures.keeps.time told)
          (λ left out now. (over_image puts old _ left over now.0, now.1 ∙ c.lay_one.ensures.keeps.output told ∙ c.loop-name.invariant.keeps.output told)) (λ left is. (is, refl));
    }

pub loop-name-preserved : goal.loop-name-preserved
loop-name-preserved g c =
    let puts = c.args.newest.now.puts in
    let name = c.in-Some.name.now in
    let old = (g.S.Site.disk c.args.site.now).reads in
    let turn = btree_map_turn deref_pair c.loop-name.yielded c.into_iter-name-iterator.result c.loop-name.name-iterator c.next.new.self c.next.result (c.in-Some.name, c.in-Some.bytes) c.loop-name.yielded_by c.in-Some.is c.next.ensures.steps names_total puts (search rules) (search rules) in
    let is : IsSome (newest_of puts name) = subst (λ (o : Option (Option Text)). IsSome o) (sym turn.1) refl in
    let more = rest_more deref_pair c.loop-name.name-iterator c.next.new.self c.next.result (c.in-Some.name, c.in-Some.bytes) c.in-Some.is c.next.ensures.steps in record {
      can_next = tt;
      is_finite = tt;
      reads = λ told. laid_more puts old.files (g.S.Site.disk c.loop-name.site).reads.files (g.S.Site.disk c.lay_one.new.site).reads.files name c.in-Some.bytes.now c.next.new.self c.loop-name.name-iterator more turn.1
          (ap (λ (m : Contents). m.files) (c.in_ok-lay_one.ensures.change.reads told).ok) (c.loop-name.invariant.reads told);
      beside = λ told. beside_more puts name old _ _ is (c.loop-name.invariant.beside told) (c.lay_one.ensures.change.reads told).part_only;
      instants = λ told.
          let over = over_more (λ name. IsSome (newest_of puts name)) c.lay_one.result name old _ _ is (c.loop-name.invariant.images told) (c.lay_one.ensures.change.pends told) in
          goes_on g.S.Site.instant g.S.Site.left_since g.S.Site.disk g.S.Site.output c.args.site.now c.loop-name.site c.lay_one.new.site
          (λ left out. Beside puts old left × (out ≡ g.S.Site.output c.args.site.now))
          (Now (g.S.Site.disk c.lay_one.new.site) (g.S.Site.output c.lay_one.new.site))
          (c.loop-name.invariant.instants told) (c.lay_one.ensures.keeps.time told)
          (λ left out now. (over_image puts old _ left over now.0, now.1 ∙ c.lay_one.ensures.keeps.output told ∙ c.loop-name.invariant.keeps.output told)) (λ left is. (is, refl));
      images = λ told. over_more (λ name. IsSome (newest_of puts name)) c.lay_one.result name old _ _ is (c.loop-name.invariant.images told) (c.lay_one.ensures.change.pends told);
      keeps = keeps_on g.S.Site 0 0 0 ⊥ ⊥ c.args.site.now c.loop-name.site c.lay_one.new.site (omega arith) c.loop-name.invariant.keeps (search rules);
    }

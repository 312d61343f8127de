use Rattle.std.proofs.Common.{◌≡◌, List, [], ◌∷◌, Some, ap, subst, sym, ◌∙◌, rules}
use Rattle.ml_site.specs.Disk.{Contents, File, MayLeave, file_with, untold}
use Rattle.ml_site.specs.Images.{set_file}
use Rattle.ml_site.specs.Recorded.{contents}
use Rattle.ml_site.proofs.unfailing_site.UnfailingSite.write_file.Goals as goal

pub returns-clause-change : goal.returns-clause-change
returns-clause-change c =
    let old = contents c.args.self.now.log c.args.self.now.files in
    let new = contents c.args.self.now.log c.set_file.new.files in
    let same : c.in_ok-copy.copy ≡ c.args.bytes.now = search rules in
    let is : new ≡ file_with old c.args.name (Some c.in_ok-copy.copy) = λ i. record { log = c.args.self.now.log; files = λ other. c.if-not-set_file.ensures other i } in
    record {
      reads = λ told. record {
        ok = is ∙ ap (λ (b : List _). file_with old c.args.name (Some b)) same;
        part_only = subst (λ (d : Contents). MayLeave old (File c.args.name ∷ []) d) (sym is) (set_file old c.args.name (Some c.in_ok-copy.copy));
      };
      pends = λ told. untold told;
    }

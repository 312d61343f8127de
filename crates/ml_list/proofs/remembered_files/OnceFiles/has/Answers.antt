use Rattle.std.proofs.Common.{◌≡◌, Some, rules}
use Rattle.ml_base.specs.Dir.{newest_put}
use Rattle.ml_list.proofs.Told.{told_newest}
use Rattle.ml_list.proofs.remembered_files.OnceFiles.has.Goals as goal

pub returns-in-Some-clause-value : goal.returns-in-Some-clause-value
returns-in-Some-clause-value g c told =
    let put = c.in-Some.put.now in
    let self = c.args.self.now in
    let found : newest_put self.read c.args.name ≡ Some put = search rules in
    let is = told_newest (g.F.Files.map self.files) self.read c.args.name put (self.same told) found in
    search rules

use Rattle.std.proofs.Common.{◌≡◌, true, rules, false, ◌&&◌, ap}
use Rattle.std.specs.Prelude.{not}
use Rattle.std.proofs.lemmas.Bool.{and_from}
use Rattle.ml_filing.specs.Archive.{number_name}
use Rattle.ml_base.specs.Dir.{same_name}
use Rattle.ml_acts.proofs.Asked.{count_named}
use Rattle.ml_acts.proofs.Damages.{same_self}
use Rattle.ml_post.proofs.Finding.{full_by}
use Rattle.ml_post.proofs.verdict_table.of_room.Goals as goal

pub returns-in_err-count-clause-names : goal.returns-in_err-count-clause-names
returns-in_err-count-clause-names g c =
    let free = not c.args.config.now.flags.m in
    let is : free ≡ true = ap not c.if-config.false in
    let names = count_named g.F.Files (λ name. (free && same_name name number_name) ≡ true) _ (g.F.Files.map c.args.files.now) (and_from free (same_name number_name number_name) is (same_self number_name))
    c.in_err-count.ensures.names in
    search rules

pub returns-then-count-ge-LAST_POST_NUMBER-clause-found : goal.returns-then-count-ge-LAST_POST_NUMBER-clause-found
returns-then-count-ge-LAST_POST_NUMBER-clause-found g c told =
    let wait : c.args.config.now.flags.m ≡ false = search rules in
    (wait, full_by (g.F.Files.map c.args.files.now) c.in_ok-count.count (c.in_ok-count.ensures.read told) c.if-count-ge-LAST_POST_NUMBER.true)

pub returns-clause-found : goal.returns-clause-found
returns-clause-found g c told =
    let wait : c.args.config.now.flags.m ≡ false = search rules in
    (wait, (c.in_ok-count.count, c.if-count-ge-LAST_POST_NUMBER.false, c.in_ok-count.ensures.read told))

pub returns-clause-counted : goal.returns-clause-counted
returns-clause-counted g c = (c.if-count-ge-LAST_POST_NUMBER.false, c.in_ok-count.ensures.read)

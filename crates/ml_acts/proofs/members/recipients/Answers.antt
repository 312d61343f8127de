use Rattle.std.proofs.Common.{rules, sym}
use Rattle.ml_subs.proofs.Gathering.{ok_from}
use Rattle.ml_subs.proofs.Represented.{own_files}
use Rattle.ml_acts.proofs.Damages.{members_named}
use Rattle.ml_acts.proofs.Apart.{members_apart}
use Rattle.ml_acts.proofs.members.recipients.Goals as goal

pub returns-clause-names : goal.returns-clause-names
returns-clause-names g c =
    let names = members_named g.F.Files _ _ (g.F.Files.map c.args.files.now) c.args.set (λ name e. e) c.all.ensures.names in
    search rules

pub returns-clause-value : goal.returns-clause-value
returns-clause-value g c told =
    let value = c.all.ensures.value told in
    ok_from c.all.result _ _ (λ to is dir p alike list.
    is (p.sets c.args.set) (own_files dir (g.F.Files.map c.args.files.now) c.args.set (p.sets c.args.set) (λ name e. sym (alike name e)) (list.sets c.args.set))) value

pub returns-clause-apart : goal.returns-clause-apart
returns-clause-apart g c told =
    ok_from c.all.result _ _ (λ to spells dir p alike list. members_apart (g.F.Files.map c.args.files.now) dir c.args.set to p alike spells list) (c.all.ensures.union told)

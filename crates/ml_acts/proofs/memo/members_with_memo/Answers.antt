use Rattle.std.proofs.Common.{rules, sym, ◌≡◌}
use Rattle.ml_base.specs.declared.names.Set.TheVariants as sets
use Rattle.ml_subs.proofs.Gathering.{ok_from, joined_in}
use Rattle.ml_subs.proofs.Represented.{own_files}
use Rattle.ml_acts.proofs.Damages.{members_named}
use Rattle.ml_base.proofs.DamagedNames.{ok_both}
use Rattle.ml_subs.specs.Subscribers.{AreFiles, IsSpelled}
use Rattle.ml_acts.specs.Found.{SpellsAddresses}
use Rattle.ml_base.specs.Dir.{Dir}
use Rattle.ml_plain.specs.Directory.{IsList}
use Rattle.ml_plain.specs.Plain.{Plain, addresses}
use Rattle.ml_acts.specs.Doing.{Alike, is_bucket}
use Rattle.ml_acts.proofs.Apart.{members_apart}
use Rattle.ml_acts.proofs.memo.members_with_memo.Goals as goal

pub returns-clause-names : goal.returns-clause-names
returns-clause-names g c =
    let names = members_named g.F.Files _ _ (g.F.Files.map c.args.files.now) sets.List (λ name e. e) c.all_with_memo.ensures.names in
    search rules

pub returns-clause-value : goal.returns-clause-value
returns-clause-value g c told =
    let value = c.all_with_memo.ensures.value told in
    ok_from c.all_with_memo.result _ _ (λ now is dir p alike list.
    is (p.sets sets.List) (own_files dir (g.F.Files.map c.args.files.now) sets.List (p.sets sets.List) (λ name e. sym (alike name e)) (list.sets sets.List))) value

pub returns-clause-found : goal.returns-clause-found
returns-clause-found g c told =
    let dir = g.F.Files.map c.args.files.now in
    ok_both c.all_with_memo.result (λ now. AreFiles dir sets.List 53 now.texts) (IsSpelled sets.List) (λ now. SpellsAddresses dir sets.List now.addresses)
    (λ now files is. (is.members, joined_in dir sets.List now.texts is.members files is.union, is.addresses)) (c.all_with_memo.ensures.files told) c.all_with_memo.ensures.spelled

pub returns-clause-apart : goal.returns-clause-apart
returns-clause-apart g c told =
    let old = g.F.Files.map c.args.files.now in
    ok_both c.all_with_memo.result (λ now. AreFiles old sets.List 53 now.texts) (IsSpelled sets.List) (λ now. (dir : Dir) (p : Plain) → Alike (is_bucket sets.List) old dir → IsList dir p → now.addresses ≡ addresses p sets.List)
    (λ now files is dir p alike list. members_apart old dir sets.List now.addresses p alike (is.members, joined_in old sets.List now.texts is.members files is.union, is.addresses) list) (c.all_with_memo.ensures.files told) c.all_with_memo.ensures.spelled

use Rattle.std.proofs.Common.{◌≡◌, true, List, map}
use Rattle.ml_base.specs.Address.{key}
use Rattle.ml_base.specs.Sorted.{byte_cmp, is_sorted}
use Rattle.ml_base.proofs.DamagedNames.{ok_both}
use Rattle.ml_subs.specs.declared.member_list.Member.{Member}
use Rattle.ml_subs.specs.Subscribers.{AreFiles, AreSubscribers, IsSpelled}
use Rattle.ml_subs.proofs.Addressed.{spelled_only, spelled_sorted}
use Rattle.ml_subs.proofs.Gathering.{ok_from}
use Rattle.ml_subs.proofs.lists.all_with_memo.Goals as goal

pub returns-clause-value : goal.returns-clause-value
returns-clause-value g c told =
    let dir = g.F.Files.map c.args.files.now in
    ok_both c.spell_with_memo.result (λ now. AreFiles dir c.args.set 53 now.texts) (IsSpelled c.args.set)
    (λ now. (ms : List Member) → AreSubscribers dir c.args.set ms → now.addresses ≡ map (λ m. m.who) ms)
    (λ now files is ms stands. spelled_only dir c.args.set now ms files is stands) (c.spell_with_memo.ensures.files told) c.spell_with_memo.ensures.spelled

pub returns-clause-sorted : goal.returns-clause-sorted
returns-clause-sorted g c =
    ok_from c.spell_with_memo.result (IsSpelled c.args.set) (λ now. is_sorted byte_cmp key now.addresses ≡ true) (spelled_sorted c.args.set) c.spell_with_memo.ensures.spelled

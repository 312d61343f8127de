use Rattle.std.proofs.Common.{◌≡◌, ◌++◌, Some, ap, sym, ◌∙◌, arith}
use Rattle.std.proofs.lemmas.Bool.{both_ways}
use Rattle.ml_base.specs.Bytes.{Text}
use Rattle.ml_subs.specs.declared.member_list.Member.{Member}
use Rattle.ml_subs.specs.Buckets.{IsMomentIn, record_text}
use Rattle.ml_subs.specs.Reading.{member_by}
use Rattle.ml_base.specs.Address.{IsAddress}
use Rattle.ml_subs.proofs.Spelled.{own_bytes, own_length, record_from, record_is, record_not, record_some}
use Rattle.ml_subs.proofs.records.next_record.Goals as goal

pub returns-then-not-is_canonical-clause-value : goal.returns-then-not-is_canonical-clause-value
returns-then-not-is_canonical-clause-value c =
    sym (record_not c.args.layout c.args.text.now c.in_ok-who.who.now c.in_ok-who.rest.now c.in-len1-up.len_at_least c.if-first-ne84.false c.in_ok-who.ensures.value
    (λ is. both_ways c.is_canonical.result c.if-not-is_canonical.true (c.is_canonical.ensures.1 is)))

abbrev text : goal.After-more-1 → Text
text c = record_text c.args.layout (member_by c.in_ok-who.who.now c.in_ok-since.since)

-- what was read
is : (c : goal.After-more-1) → IsAddress c.in_ok-who.who.now × IsMomentIn c.args.layout c.in_ok-since.since × (c.args.text.now ≡ text c ++ c.in_ok-since.more.now)
is c =
    record_is c.args.layout c.args.text.now (member_by c.in_ok-who.who.now c.in_ok-since.since) c.in_ok-since.more.now
    (record_from c.args.layout c.args.text.now c.in_ok-who.who.now c.in_ok-who.rest.now c.in-len1-up.len_at_least c.if-first-ne84.false c.in_ok-who.ensures.value c.in_ok-since.since c.in_ok-since.more.now
    (c.is_canonical.ensures.0 c.if-not-is_canonical.false) (sym c.in_ok-since.ensures))

pub slice_bounds-own-count : goal.slice_bounds-own-count
slice_bounds-own-count c = let less = own_length c.args.text.now (text c) c.in_ok-since.more.now (is c).2 (record_some c.args.layout (member_by c.in_ok-who.who.now c.in_ok-since.since)) in omega (arith, less)

pub new-requires-clause-moment : goal.new-requires-clause-moment
new-requires-clause-moment c = (is c).1

pub new-requires-clause-text : goal.new-requires-clause-text
new-requires-clause-text c = own_bytes c.args.text.now (text c) c.in_ok-since.more.now (is c).2

pub returns-clause-value : goal.returns-clause-value
returns-clause-value c =
    ap (λ (m : Member). Some (m, c.in_ok-since.more.now)) c.new.ensures
    ∙ sym (record_from c.args.layout c.args.text.now c.in_ok-who.who.now c.in_ok-who.rest.now c.in-len1-up.len_at_least c.if-first-ne84.false c.in_ok-who.ensures.value c.in_ok-since.since c.in_ok-since.more.now
    (c.is_canonical.ensures.0 c.if-not-is_canonical.false) (sym c.in_ok-since.ensures))

pub returns-clause-shorter : goal.returns-clause-shorter
returns-clause-shorter c =
    let m = member_by c.in_ok-who.who.now c.in_ok-since.since in
    let is =
    record_is c.args.layout c.args.text.now m c.in_ok-since.more.now
    (record_from c.args.layout c.args.text.now c.in_ok-who.who.now c.in_ok-who.rest.now c.in-len1-up.len_at_least c.if-first-ne84.false c.in_ok-who.ensures.value c.in_ok-since.since c.in_ok-since.more.now
    (c.is_canonical.ensures.0 c.if-not-is_canonical.false) (sym c.in_ok-since.ensures)) in
    own_length c.args.text.now (record_text c.args.layout m) c.in_ok-since.more.now is.2 (record_some c.args.layout m)

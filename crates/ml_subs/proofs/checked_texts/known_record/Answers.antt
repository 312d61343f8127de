use Rattle.std.proofs.Common.{◌∙◌, Some, ap, sym, arith}
use Rattle.ml_subs.specs.Buckets.{record_text}
use Rattle.ml_subs.specs.Reading.{member_by}
use Rattle.ml_subs.proofs.Spelled.{known_here, known_parts, own_bytes, own_length, record_some}
use Rattle.ml_subs.proofs.checked_texts.known_record.Goals as goal

pub known_moment-since-requires : goal.known_moment-since-requires
known_moment-since-requires c =
    let there = c.requires in
    let parts = known_parts c.args.layout c.args.text.now there.0 there.1.0 c.in-Some.who.now c.in-Some.rest.now there.1.1 c.in-Some.ensures.value in
    ((there.0).since, (there.1.0, parts.1))

pub slice_bounds-own-count : goal.slice_bounds-own-count
slice_bounds-own-count c =
    let m = member_by c.in-Some.who.now c.known_moment-since.result.0 in
    let is = known_here c.args.layout c.args.text.now c.requires.0 c.requires.1.0 c.in-Some.who.now c.in-Some.rest.now c.known_moment-since.result.0 c.known_moment-since.result.1.now c.requires.1.1 c.in-Some.ensures.value c.known_moment-since.ensures in
    let less = own_length c.args.text.now (record_text c.args.layout m) c.known_moment-since.result.1.now is.2 (record_some c.args.layout m) in
    omega (arith, less)

pub new-requires-clause-address : goal.new-requires-clause-address
new-requires-clause-address c =
    (known_here c.args.layout c.args.text.now c.requires.0 c.requires.1.0 c.in-Some.who.now c.in-Some.rest.now c.known_moment-since.result.0 c.known_moment-since.result.1.now c.requires.1.1 c.in-Some.ensures.value c.known_moment-since.ensures).0

pub new-requires-clause-moment : goal.new-requires-clause-moment
new-requires-clause-moment c =
    (known_here c.args.layout c.args.text.now c.requires.0 c.requires.1.0 c.in-Some.who.now c.in-Some.rest.now c.known_moment-since.result.0 c.known_moment-since.result.1.now c.requires.1.1 c.in-Some.ensures.value c.known_moment-since.ensures).1

pub new-requires-clause-text : goal.new-requires-clause-text
new-requires-clause-text c =
    let m = member_by c.in-Some.who.now c.known_moment-since.result.0 in
    let is = known_here c.args.layout c.args.text.now c.requires.0 c.requires.1.0 c.in-Some.who.now c.in-Some.rest.now c.known_moment-since.result.0 c.known_moment-since.result.1.now c.requires.1.1 c.in-Some.ensures.value c.known_moment-since.ensures in
    own_bytes c.args.text.now (record_text c.args.layout m) c.known_moment-since.result.1.now is.2

pub returns-clause-shorter : goal.returns-clause-shorter
returns-clause-shorter c =
    let m = member_by c.in-Some.who.now c.known_moment-since.result.0 in
    let is = known_here c.args.layout c.args.text.now c.requires.0 c.requires.1.0 c.in-Some.who.now c.in-Some.rest.now c.known_moment-since.result.0 c.known_moment-since.result.1.now c.requires.1.1 c.in-Some.ensures.value c.known_moment-since.ensures in
    own_length c.args.text.now (record_text c.args.layout m) c.known_moment-since.result.1.now is.2 (record_some c.args.layout m)

pub returns-clause-value : goal.returns-clause-value
returns-clause-value c =
    let is = known_here c.args.layout c.args.text.now c.requires.0 c.requires.1.0 c.in-Some.who.now c.in-Some.rest.now c.known_moment-since.result.0 c.known_moment-since.result.1.now c.requires.1.1 c.in-Some.ensures.value c.known_moment-since.ensures in
    is.3 ∙ ap (λ m. Some (m, c.known_moment-since.result.1.now)) (sym c.new.ensures)

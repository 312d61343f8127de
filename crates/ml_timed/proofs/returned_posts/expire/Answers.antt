use Rattle.std.proofs.Common.{◌≡◌, true, List, Option, ap, ◌∙◌, sym, subst, rules, refl}
use Rattle.ml_base.specs.Dir.{Dir, touches_only, same_name}
use Rattle.ml_base.specs.declared.puts.Put.{Put}
use Rattle.ml_drawn.specs.Names.{is_of_series}
use Rattle.ml_drawn.specs.declared.series.Series.TheVariants.{Tickets}
use Rattle.ml_hold.specs.Answers.{TakesBy, puts_of}
use Rattle.ml_hold.specs.declared.posts.Held.{Held}
use Rattle.ml_acts.specs.Doing.{DrawsId}
use Rattle.ml_timed.proofs.Apart.{taken_there}
use Rattle.ml_timed.proofs.Given.{drawn_joined, given_spelled, gives, large_taken, none_taken, own_given, queue_left, taken_read}
use Rattle.std.proofs.lemmas.Bool.{or_right}
use Rattle.ml_queue.specs.Answers.{ids_name}
use Rattle.ml_acts.specs.Damaged.{IsDamaged, waiting}
use Rattle.ml_timed.specs.Reads.{is_waiting}
use Rattle.ml_timed.proofs.Joined.{both_kept, names_after, names_err, names_so, one_kept, reads_beside, reads_ok, reads_then}
use Rattle.ml_timed.proofs.returned_posts.expire.Goals as goal

pub returns-in_default-clause-apart : goal.returns-in_default-clause-apart
returns-in_default-clause-apart g c told dir p alike is same =
    none_taken dir p c.args.now.seconds c.args.ticket c.args.room (taken_there (g.F.Files.map c.args.files.now) dir alike p c.args.ticket _ _ c.in_default.is is (c.in_ok-held.ensures.value told))

pub returns-then-size-room-clause-apart : goal.returns-then-size-room-clause-apart
returns-then-size-room-clause-apart g c told dir p alike is same =
    let gone = taken_there (g.F.Files.map c.args.files.now) dir alike p c.args.ticket _ _ c.in-Some.is is (c.in_ok-held.ensures.value told) in
    large_taken dir p c.args.now.seconds c.args.ticket c.args.room c.len-size.result c.in-Some.held c.in-Some.txn gone c.len-size.ensures.count c.if-size-room.true

pub returns-clause-apart : goal.returns-clause-apart
returns-clause-apart g c told dir p alike is same =
    let kept = g.met.F.Files.kept_map c.args.files.now c.take.new.files told c.take.ensures.reads.kept in
    let gone = taken_there (g.F.Files.map c.args.files.now) dir alike p c.args.ticket _ _ c.in-Some.is is (c.in_ok-held.ensures.value told) in
    let own = subst (λ (o : Option (Held × List Put)). touches_only (is_of_series Tickets) (puts_of o) ≡ true) c.in-Some.is c.in_ok-held.ensures.others in
    gives dir p c.args.config.now c.args.now.seconds c.args.ticket c.args.room c.in-Some.held c.in-Some.txn c.in_ok-more.more c.join.new.self c.len-size.result is same own gone c.len-size.ensures.count c.in_ok-join.ensures.ok
    (λ d q there. c.in_ok-more.ensures.apart told d q (there ∙ alike ids_name refl ∙ sym (ap (λ (o : Dir). o ids_name) kept)))

pub returns-clause-own : goal.returns-clause-own
returns-clause-own g c =
    own_given c.in-Some.txn c.in_ok-more.more c.join.new.self (subst (λ (o : Option (Held × List Put)). touches_only (is_of_series Tickets) (puts_of o) ≡ true) c.in-Some.is c.in_ok-held.ensures.others)
    c.in_ok-more.ensures.own c.in_ok-join.ensures.ok

pub returns-clause-drawn : goal.returns-clause-drawn
returns-clause-drawn g c told most =
    let dir = g.F.Files.map c.args.files.now in
    let kept = g.met.F.Files.kept_map c.args.files.now c.take.new.files told c.take.ensures.reads.kept in
    let own = subst (λ (o : Option (Held × List Put)). touches_only (is_of_series Tickets) (puts_of o) ≡ true) c.in-Some.is c.in_ok-held.ensures.others in
    drawn_joined dir c.in-Some.txn c.in_ok-more.more c.join.new.self most (queue_left dir c.in-Some.txn own)
    (subst (λ (o : Dir). DrawsId o c.in_ok-more.more) kept (c.in_ok-more.ensures.drawn told)) c.in_ok-join.ensures.ok

pub returns-in_default-clause-spelled : goal.returns-in_default-clause-spelled
returns-in_default-clause-spelled g c told = tt

pub returns-then-size-room-clause-spelled : goal.returns-then-size-room-clause-spelled
returns-then-size-room-clause-spelled g c told = tt

pub returns-clause-spelled : goal.returns-clause-spelled
returns-clause-spelled g c told =
    let dir = g.F.Files.map c.args.files.now in
    let kept = g.met.F.Files.kept_map c.args.files.now c.take.new.files told c.take.ensures.reads.kept in
    let by = subst (λ (o : Option (Held × List Put)). TakesBy dir c.args.ticket o) c.in-Some.is (c.in_ok-held.ensures.read told) in
    given_spelled dir c.args.ticket c.in-Some.txn c.in_ok-more.more c.join.new.self by.2 (subst (λ (o : Dir). DrawsId o c.in_ok-more.more) kept (c.in_ok-more.ensures.drawn told)) c.in_ok-join.ensures.ok

pub returns-in_err-more-clause-reads : goal.returns-in_err-more-clause-reads
returns-in_err-more-clause-reads g c =
    let read = reads_then g.met.F.Files.kept_then c.take.ensures.reads c.notice.ensures.reads in
    search rules

pub returns-in_err-join-clause-reads : goal.returns-in_err-join-clause-reads
returns-in_err-join-clause-reads g c = reads_beside (both_kept g.met.F.Files.kept_then c.take.ensures.reads c.notice.ensures.reads) (λ bad. search rules)

pub returns-clause-reads : goal.returns-clause-reads
returns-clause-reads g c = reads_ok (both_kept g.met.F.Files.kept_then c.take.ensures.reads c.notice.ensures.reads)

pub returns-in_err-more-clause-names : goal.returns-in_err-more-clause-names
returns-in_err-more-clause-names g c =
    names_err (names_after IsDamaged g.met.F.Files.kept_map (one_kept c.take.ensures.reads) (λ name e. or_right (is_waiting name) (same_name name ids_name) e) (λ told name e bad. bad) c.in_err-more.ensures.names) (search rules)

pub returns-in_err-held-clause-names : goal.returns-in_err-held-clause-names
returns-in_err-held-clause-names g c =
    names_err (names_so (taken_read c.args.ticket) (λ name is bad. waiting bad) c.in_err-held.ensures.names) (search rules)

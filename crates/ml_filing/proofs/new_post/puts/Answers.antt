use Rattle.std.proofs.Common.{◌∙◌, ◌/◌, length, ap, refl}
use Rattle.ml_filing.specs.Archive.{post_name, index_name, number_name}
use Rattle.ml_filing.specs.Threads.{thread_name, thread_place}
use Rattle.ml_filing.specs.declared.posts.Entry.{Entry}
use Rattle.ml_filing.proofs.Lengthened.{put_is, four_puts, entry_on}
use Rattle.ml_filing.proofs.new_post.puts.Goals as goal

pub returns : goal.returns
returns c =
    let n = c.args.number in
    let new = c.args.new in
    let e : Entry = record { number = n; moment = new.moment; sender = new.sender.now; size = length new.bytes.now; subject = new.subject.now } in
    four_puts c.new-txn.result c.push.new.self c.push-2.new.self c.push-3.new.self c.push-4.new.self c.written.result c.written-2.result c.written-3.result c.written-4.result _ _ _ _ c.new-txn.ensures
    c.in_ok-push.ensures.ok c.in_ok-push-2.ensures.ok c.in_ok-push-3.ensures.ok c.in_ok-push-4.ensures.ok
    (put_is c.written.result c.post.result (post_name n) c.in_ok-from_slice.field-0 new.bytes.now c.written.ensures c.post.ensures.name c.in_ok-from_slice.ensures)
    (put_is c.written-2.result c.index-2.result (index_name (n / 100)) c.push_entry.new.out _ c.written-2.ensures c.index-2.ensures.name (c.in_ok-push_entry.ensures ∙ entry_on c.args.index e))
    (put_is c.written-3.result number_name number_name c.in_ok-count_text.field-0 _ c.written-3.ensures refl c.in_ok-count_text.ensures)
    (put_is c.written-4.result c.threads.result (thread_name (thread_place c.args.key.now)) c.in_ok-text.text _ c.written-4.ensures (c.threads.ensures.name ∙ ap thread_name c.thread_place_of.ensures) c.in_ok-text.ensures)

use Rattle.std.proofs.Common.{◌≡◌, ◌∙◌, [], ap, length}
use Rattle.std.proofs.lemmas.List.{length-replicate, length-set}
use Rattle.std.proofs.lemmas.Map.Iter.{rest_more}
use Rattle.std.specs.Map.Iter.{deref_pair}
use Rattle.ml_base.specs.Bytes.{Text}
use Rattle.ml_filing.specs.Threads.{thread_place}
use Rattle.ml_archive.proofs.Placing.{none_placed, one_placed}
use Rattle.ml_archive.proofs.threads.texts_of.Goals as goal

pub loop-key-init : goal.loop-key-init
loop-key-init c = record {
  long = ap length c.in_ok-texts.ensures ∙ length-replicate {A = Text} 256 [];
  each = none_placed c.in_ok-texts.texts.items c.args.keys.now.entries c.into_iter-key-iterator.result c.in_ok-texts.ensures c.into_iter-key-iterator.ensures.into_iter_gives.0;
}

pub loop-key-preserved : goal.loop-key-preserved
loop-key-preserved c =
    let texts = c.loop-key.texts.items in
    let place : c.thread_place_of.result ≡ thread_place c.in-Some.key.now.items = c.thread_place_of.ensures ∙ ap thread_place c.as_slice.ensures.value in
    record {
      long = length-set texts c.thread_place_of.result c.push_thread.new.out ∙ c.loop-key.invariant.long;
      each = λ n less.
          one_placed texts c.thread_place_of.result n c.index_mut-text.result.now c.push_thread.new.out c.as_slice-in-loop-key.result.now c.as_slice-in-loop-key-2.result.now c.in-Some.numbers.now c.in-Some.key.now
          c.loop-key.key-iterator c.next.new.self c.args.keys.now.entries c.loop-key.invariant.long place c.index_mut-text.ensures.value c.in_ok-push_thread.ensures c.as_slice-in-loop-key.ensures.value
          c.as_slice-in-loop-key-2.ensures (rest_more deref_pair c.loop-key.key-iterator c.next.new.self c.next.result (c.in-Some.key, c.in-Some.numbers) c.in-Some.is c.next.ensures.steps) less (c.loop-key.invariant.each n less);
    }

use Rattle.std.proofs.Common.{Some, None, Ok, Option, sym, subst}
use Rattle.ml_plain.specs.declared.Item.{Item}
use Rattle.ml_stream.specs.Items.{NextRead, place_of}
use Rattle.ml_stream.specs.Stream.{item_at}
use Rattle.ml_run.specs.Feeds.{bytes_held, reader_held}
use Rattle.ml_run.proofs.InHand.{given_held}
use Rattle.ml_run.proofs.feed.ItemFeedFeed.next.Goals as goal

pub returns-clause-read : goal.returns-clause-read
returns-clause-read g c bs has =
    let item = g.K.InHand.item in
    let read = item_at (place_of (reader_held item c.args.self.now.item)) bs in
    subst (λ (left : Option Item). NextRead (Ok c.take.result) (reader_held item left) (Some (bytes_held item left)) read) (sym c.take.ensures.after)
    (subst (λ (found : Option Item). NextRead (Ok found) (reader_held item None) (Some (bytes_held item None)) read) (sym c.take.ensures.value) (given_held item c.args.self.now.item bs c.requires has))

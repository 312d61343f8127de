use Rattle.std.proofs.Common.{◌-◌, length, take, drop, ap, ◌∙◌}
use Rattle.std.specs.List.{prefix_len}
use Rattle.ml_header.proofs.Headers.{rest_slice}
use Rattle.ml_mbox.specs.Reading.{is_of_sender}
use Rattle.ml_mbox.proofs.Senders.{sender_end, too_long, short_enough}
use Rattle.ml_mbox.proofs.mbox_reader.sender_of.Goals as goal

pub returns-then-end-gt1000 : goal.returns-then-end-gt1000
returns-then-end-gt1000 c =
    let line = c.args.line.now in
    let end = c.unwrap_or-end.ensures ∙ sender_end (take (length line - 5) (drop 5 line)) c.memchr2.result c.memchr2.ensures ∙ ap (prefix_len is_of_sender) (rest_slice 5 line) in
    too_long line c.unwrap_or-end.result end c.if-end-gt1000.true

pub returns-else-end-gt1000 : goal.returns-else-end-gt1000
returns-else-end-gt1000 c =
    let line = c.args.line.now in
    let end = c.unwrap_or-end.ensures ∙ sender_end (take (length line - 5) (drop 5 line)) c.memchr2.result c.memchr2.ensures ∙ ap (prefix_len is_of_sender) (rest_slice 5 line) in
    ap (take c.unwrap_or-end.result) (rest_slice 5 line) ∙ short_enough line c.unwrap_or-end.result end c.if-end-gt1000.false

use Rattle.ml_hold.proofs.Spelling.{text_made}
use Rattle.ml_hold.proofs.post_text.text_of.Goals as goal

pub returns-clause-text : goal.returns-clause-text
returns-clause-text c =
    text_made c.args.held.now c.in_ok-out.out c.push_netstring.new.out c.push_netstring-2.new.out c.push_netstring-3.new.out _ c.bytes.result.now c.as_slice.result.now
    c.in_ok-out.ensures c.in_ok-push_netstring.ensures.ok c.in_ok-push_netstring-2.ensures.ok c.in_ok-push_netstring-3.ensures.ok c.write_number-len.ensures.text c.bytes.ensures.value c.as_slice.ensures

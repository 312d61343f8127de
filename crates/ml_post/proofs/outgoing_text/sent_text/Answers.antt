use Rattle.std.proofs.Common.{◌≡◌, true, false, IfOk, Option, Some, sym, ap, ◌∙◌, subst, rules}
use Rattle.ml_base.specs.Bytes.{Text}
use Rattle.ml_header.specs.Rewriting.{rewritten}
use Rattle.ml_header.specs.Sent.{left_out, list_lines}
use Rattle.ml_plain.specs.Posting.{sent_text, prefix_of, trailer_of}
use Rattle.ml_post.proofs.SentText.{trailer_by}
use Rattle.ml_post.proofs.outgoing_text.sent_text.Goals as goal

pub returns-then-not-config : goal.returns-then-not-config
unfolding sent_text
returns-then-not-config c =
    let config = c.args.config.now in
    let flag : config.flags.t ≡ false = search rules in
    subst (λ (t : Option Text). IfOk c.with_lines.result (λ text. text ≡ rewritten c.args.message.now left_out (list_lines config.local config.host) (prefix_of config) t)) (sym (trailer_by config false flag)) c.with_lines.ensures

pub returns : goal.returns
unfolding sent_text
returns c =
    let config = c.args.config.now in
    let flag : config.flags.t ≡ true = search rules in
    let same : Some c.as_slice.result.now ≡ trailer_of config = ap (λ (t : Text). Some t) (c.as_slice.ensures ∙ c.in_ok-trailer.ensures) ∙ sym (trailer_by config true flag) in
    subst (λ (t : Option Text). IfOk c.with_lines-2.result (λ text. text ≡ rewritten c.args.message.now left_out (list_lines config.local config.host) (prefix_of config) t)) same c.with_lines-2.ensures

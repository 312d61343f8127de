use Rattle.std.proofs.Common.{◌≡◌, true, false, rules}
use Rattle.ml_filing.specs.Subjects.{subject}
use Rattle.ml_base.specs.Bytes.{lower, is_empty}
use Rattle.ml_plain.specs.Verdicts as spec
use Rattle.ml_post.proofs.Rows.{filled}
use Rattle.ml_post.proofs.verdict_table.text_refusal.Goals as goal

pub returns-then-is_command : goal.returns-then-is_command
returns-then-is_command c =
    let m = c.args.message.now in
    let text : is_empty (subject m) ≡ false = filled (subject m) c.in_ok-subject.subject c.is_empty.result c.in_ok-subject.ensures.value c.is_empty.ensures c.if-is_empty.false in
    let command : spec.is_command (lower (subject m)) ≡ true = search rules in
    (text, command)

pub returns-then-not-branch : goal.returns-then-not-branch
returns-then-not-branch c =
    let m = c.args.message.now in
    let text : is_empty (subject m) ≡ false = filled (subject m) c.in_ok-subject.subject c.is_empty.result c.in_ok-subject.ensures.value c.is_empty.ensures c.if-is_empty.false in
    let command : spec.is_command (lower (subject m)) ≡ false = search rules in
    let named : spec.is_addressed c.args.config.now m ≡ false = search rules in
    (text, command, named)

pub returns : goal.returns
returns c =
    let m = c.args.message.now in
    let text : is_empty (subject m) ≡ false = filled (subject m) c.in_ok-subject.subject c.is_empty.result c.in_ok-subject.ensures.value c.is_empty.ensures c.if-is_empty.false in
    let command : spec.is_command (lower (subject m)) ≡ false = search rules in
    let named : spec.is_addressed c.args.config.now m ≡ true = search rules in
    (text, command, named)

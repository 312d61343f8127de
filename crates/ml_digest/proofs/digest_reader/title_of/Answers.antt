use Rattle.std.proofs.Common.{Some, None, sym, ◌∙◌, codes}
use Rattle.std.proofs.lemmas.Bool.Decides.{Decides-eqb}
use Rattle.std.proofs.lemmas.Slice.Eq.{strip_prefix_is, strip_suffix_is}
use Rattle.ml_base.proofs.Options.{if_none}
use Rattle.ml_digest.proofs.Titles.{Untitled, no_split, no_name, no_issue, empty_name, zero_issue, titled}
use Rattle.ml_digest.proofs.digest_reader.title_of.Goals as goal

pub returns-in_err-front-clause-none : goal.returns-in_err-front-clause-none
returns-in_err-front-clause-none c =
    let front = strip_prefix_is Decides-eqb c.args.line.now (codes "Subject: ") (Some c.in_ok-title.title) c.in_ok-title.ensures.cases in
    if_none c.from_residual-in_err-front.result (Untitled c.args.line.now) (no_split c.args.line.now c.in_ok-title.title.now front c.in_err-front.ensures.value)

pub returns-in_err-name-clause-none : goal.returns-in_err-name-clause-none
returns-in_err-name-clause-none c =
    let front = strip_prefix_is Decides-eqb c.args.line.now (codes "Subject: ") (Some c.in_ok-title.title) c.in_ok-title.ensures.cases in
    let ends = strip_suffix_is Decides-eqb c.in_ok-front.front.now (codes " Digest Issue") None c.in_err-name.ensures.cases in
    if_none c.from_residual-in_err-name.result (Untitled c.args.line.now) (no_name c.args.line.now c.in_ok-title.title.now front c.in_ok-front.front.now c.in_ok-front.digits.now c.in_ok-front.ensures.value ends)

pub returns-in_err-issue-clause-none : goal.returns-in_err-issue-clause-none
returns-in_err-issue-clause-none c =
    let front = strip_prefix_is Decides-eqb c.args.line.now (codes "Subject: ") (Some c.in_ok-title.title) c.in_ok-title.ensures.cases in
    if_none c.from_residual-in_err-issue.result (Untitled c.args.line.now) (no_issue c.args.line.now c.in_ok-title.title.now front c.in_ok-front.front.now c.in_ok-front.digits.now c.in_ok-front.ensures.value c.in_err-issue.ensures)

pub returns-then-is_empty-clause-none : goal.returns-then-is_empty-clause-none
returns-then-is_empty-clause-none c =
    let front = strip_prefix_is Decides-eqb c.args.line.now (codes "Subject: ") (Some c.in_ok-title.title) c.in_ok-title.ensures.cases in
    let ends = strip_suffix_is Decides-eqb c.in_ok-front.front.now (codes " Digest Issue") (Some c.in_ok-name.name) c.in_ok-name.ensures.cases in
    empty_name c.args.line.now c.in_ok-title.title.now front c.in_ok-front.front.now c.in_ok-front.digits.now c.in_ok-front.ensures.value c.in_ok-name.name.now ends (sym c.is_empty.ensures ∙ c.if-is_empty.true)

pub returns-then-issue-eq0-clause-none : goal.returns-then-issue-eq0-clause-none
returns-then-issue-eq0-clause-none c =
    let front = strip_prefix_is Decides-eqb c.args.line.now (codes "Subject: ") (Some c.in_ok-title.title) c.in_ok-title.ensures.cases in
    zero_issue c.args.line.now c.in_ok-title.title.now front c.in_ok-front.front.now c.in_ok-front.digits.now c.in_ok-front.ensures.value c.in_ok-issue.issue c.in_ok-issue.ensures c.if-issue-eq0.true

pub returns-clause-some : goal.returns-clause-some
returns-clause-some c =
    let front = strip_prefix_is Decides-eqb c.args.line.now (codes "Subject: ") (Some c.in_ok-title.title) c.in_ok-title.ensures.cases in
    let ends = strip_suffix_is Decides-eqb c.in_ok-front.front.now (codes " Digest Issue") (Some c.in_ok-name.name) c.in_ok-name.ensures.cases in
    titled c.args.line.now c.in_ok-title.title.now front c.in_ok-front.front.now c.in_ok-front.digits.now c.in_ok-front.ensures.value c.in_ok-name.name.now ends c.in_ok-issue.issue (sym c.is_empty.ensures ∙ c.if-is_empty.false) c.in_ok-issue.ensures c.if-issue-eq0.false

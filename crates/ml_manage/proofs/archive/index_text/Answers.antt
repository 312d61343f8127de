use Rattle.std.proofs.Common.{◌≡◌, ◌∙◌, ◌/◌, true, ap, rules}
use Rattle.ml_acts.proofs.Asked.{group_named}
use Rattle.ml_manage.specs.Reads.{is_of_index}
use Rattle.ml_manage.specs.Texts.{entries_text}
use Rattle.ml_manage.proofs.Posts.{index_is, index_read}
use Rattle.ml_manage.proofs.PostsApart.{index_apart}
use Rattle.ml_manage.proofs.archive.index_text.Goals as goal

pub returns-in_err-entries-clause-names : goal.returns-in_err-entries-clause-names
returns-in_err-entries-clause-names g c =
    let dir = g.F.Files.map c.args.files.now in
    let at = c.args.at in
    let names = group_named g.F.Files (λ name. is_of_index at name ≡ true) _ dir (at / 100) (index_read at) c.in_err-entries.ensures.sound c.in_err-entries.ensures.table c.in_err-entries.ensures.names in
    search rules

pub returns-clause-found : goal.returns-clause-found
returns-clause-found g c told = (c.in_ok-entries.entries, c.in_ok-entries.ensures.read told)

pub returns-clause-apart : goal.returns-clause-apart
returns-clause-apart g c told dir p alike is =
    let filed = (is.archive).filed in
    c.in_ok-entries_text.ensures
    ∙ ap entries_text (c.as_slice.ensures ∙ index_apart (g.F.Files.map c.args.files.now) dir c.args.at p.posts c.in_ok-entries.entries alike filed (c.in_ok-entries.ensures.read told)) ∙ index_is dir p.posts (c.args.at / 100) filed

use Rattle.std.proofs.Common.{rules, ◌∙◌, ◌++◌, Option, sym, ap, ap₂, append-nil}
use Rattle.ml_filing.specs.Answers.{IsBadForPost, IsPostName}
use Rattle.ml_filing.specs.Archive.{ArePosts}
use Rattle.ml_acts.specs.Damaged.{post}
use Rattle.ml_acts.proofs.Damages.{named_of}
use Rattle.ml_manage.specs.Reads.{IsDamagedPost}
use Rattle.ml_config.specs.declared.configuration.Config.{Config}
use Rattle.ml_filing.specs.declared.posts.Post.{Post}
use Rattle.ml_manage.specs.Texts.{if_post}
use Rattle.ml_manage.proofs.PostsApart.{post_apart}
use Rattle.ml_manage.proofs.archive.add_one.Goals as goal

pub returns-in_err-post-clause-names : goal.returns-in_err-post-clause-names
returns-in_err-post-clause-names g c =
    let dir = g.F.Files.map c.args.files.now in
    let n = c.args.number in
    let names = named_of g.F.Files (IsPostName n) _ (ArePosts dir) (IsPostName n) (IsBadForPost dir n) (IsDamagedPost dir n) (λ name e. e) (λ name bad no. record { damaged = post n bad no; bad = bad })
    c.in_err-post.ensures.sound c.in_err-post.ensures.names in
    search rules

pub returns-in_ok-add_post-in-Some-clause-apart : goal.returns-in_ok-add_post-in-Some-clause-apart
returns-in_ok-add_post-in-Some-clause-apart g c told dir p alike is conf =
    let n = c.args.number in
    let found = post_apart (g.F.Files.map c.args.files.now) dir n alike p.posts c.in_ok-post.field-0 (is.archive).filed (c.in_ok-post.ensures.read told) in
    c.in_ok-add_post-in-Some.ensures ∙ ap₂ (λ (k : Config) (o : Option Post). c.args.out.now ++ if_post k n o) (sym conf) (sym c.in-Some.is ∙ found)

pub returns-in-None-clause-apart : goal.returns-in-None-clause-apart
returns-in-None-clause-apart g c told dir p alike is conf =
    let n = c.args.number in
    let found = post_apart (g.F.Files.map c.args.files.now) dir n alike p.posts c.in_ok-post.field-0 (is.archive).filed (c.in_ok-post.ensures.read told) in
    sym (append-nil c.args.out.now) ∙ ap (λ (o : Option Post). c.args.out.now ++ if_post p.config n o) (sym c.in-None.is ∙ found)

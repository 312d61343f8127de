use Rattle.std.proofs.Common.{◌≡◌, ◌∙◌, true, Option, refl, sym, subst, arith, rules}
use Rattle.ml_filing.specs.Answers.{IsBadForPost, IsPostByFiles, IsPostName}
use Rattle.ml_filing.specs.Archive.{ArePosts}
use Rattle.ml_filing.specs.declared.posts.Post.{Post}
use Rattle.ml_acts.specs.Damaged.{post}
use Rattle.ml_acts.proofs.Damages.{named_of}
use Rattle.ml_timed.specs.Digesting.{IsDamagedWithin}
use Rattle.ml_timed.specs.Reads.{is_of_posts_told}
use Rattle.ml_timed.proofs.Apart.{posts_back}
use Rattle.ml_timed.proofs.Posted.{not_there, post_read}
use Rattle.ml_timed.proofs.digests.post_of.Goals as goal

pub returns-in_err-post-clause-names : goal.returns-in_err-post-clause-names
returns-in_err-post-clause-names g c =
    let dir = g.F.Files.map c.args.files.now in
    let n = c.args.number in
    let names = named_of g.F.Files (λ name. is_of_posts_told name ≡ true) _ (ArePosts dir) (IsPostName n) (IsBadForPost dir n) (IsDamagedWithin dir n n) (post_read n) (λ name bad no. record { damaged = post n bad no; own = λ of. (n, omega arith, omega arith, bad) })
    c.in_err-post.ensures.sound c.in_err-post.ensures.names in
    search rules

pub returns-in-None-clause-names : goal.returns-in-None-clause-names
returns-in-None-clause-names g c =
    let dir = g.F.Files.map c.args.files.now in
    let n = c.args.number in
    record {
      named = refl;
      damaged = λ told. absurd (not_there dir n (subst (λ (o : Option Post). IsPostByFiles dir n o) c.in-None.is (c.in_ok-post.ensures.read told)) c.requires.from_one (c.requires.counted told));
    }

pub returns-in-Some-clause-apart : goal.returns-in-Some-clause-apart
returns-in-Some-clause-apart g c told dir p alike is = (
  c.in-Some.post,
  sym (c.in_ok-post.ensures.value told p.posts (posts_back (g.F.Files.map c.args.files.now) dir p.posts alike (is.archive).filed)) ∙ c.in-Some.is,
  refl,
)

use Rattle.std.proofs.Common.{◌≡◌, map, sym, subst}
use Rattle.ml_base.specs.Bytes.{Text}
use Rattle.ml_digest.specs.Burst.{IsDigest}
use Rattle.ml_digest.specs.Digest as words
use Rattle.ml_digest.specs.Digest.{message_text}
use Rattle.ml_digest.proofs.Apart.{taken_apart}
use Rattle.ml_digest.proofs.Pieces.{digest_pieces}
use Rattle.ml_digest.proofs.issues.digest_text.Goals as goal

pub returns-clause-text : goal.returns-clause-text
returns-clause-text c =
    rw (c.in_ok-add_end.ensures, c.in_ok-add_messages.ensures, c.in_ok-add_preface.ensures, c.in_ok-add_header.ensures, c.in_ok-out.ensures, c.as_slice.ensures, c.as_slice-2.ensures)
    (sym (digest_pieces c.args.config.now c.args.issue c.args.first c.args.posts.now c.args.date.now))

pub returns-clause-taken_apart : goal.returns-clause-taken_apart
returns-clause-taken_apart c = λ is can day.
    let text : c.add_end.new.out ≡ words.digest_text c.args.config.now c.args.issue c.args.first c.args.posts.now c.args.date.now =
    rw (c.in_ok-add_end.ensures, c.in_ok-add_messages.ensures, c.in_ok-add_preface.ensures, c.in_ok-add_header.ensures, c.in_ok-out.ensures, c.as_slice.ensures, c.as_slice-2.ensures)
    (sym (digest_pieces c.args.config.now c.args.issue c.args.first c.args.posts.now c.args.date.now)) in
    subst (λ (t : Text). IsDigest t c.args.issue (map (λ p. message_text p.bytes) c.args.posts.now)) (sym text)
    (taken_apart c.args.config.now c.args.issue c.args.first c.args.posts.now c.args.date.now is can day)

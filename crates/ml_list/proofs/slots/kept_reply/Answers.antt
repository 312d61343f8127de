use Rattle.std.proofs.Common.{◌∙◌, ◌*◌, ◌/◌, ◌%◌, Option, sym, ap, subst}
use Rattle.ml_base.specs.Bytes.{Text}
use Rattle.ml_plain.specs.KeptFiles.{IsRepliesFile}
use Rattle.ml_plain.proofs.Changes.{place_is}
use Rattle.ml_list.specs.Again.{HoldsReply}
use Rattle.ml_list.proofs.Reading.{same_some, no_some}
use Rattle.ml_list.proofs.slots.kept_reply.Goals as goal

pub returns-clause-value : goal.returns-clause-value
returns-clause-value g c told kept is =
    let dir = g.F.Files.map c.args.files.now in
    let n = c.args.number in
    let there = c.in_ok-file.ensures.value told ∙ ap dir c.replies_name-name.ensures.name in
    let read = c.reply_in.ensures.read (512 * (n / 512)) kept (subst (λ (f : Option Text). IsRepliesFile (512 * (n / 512)) f kept) (sym there) is) in
    same_some _ _ (sym c.in-Some.is ∙ read) ∙ ap kept (place_is n)

pub returns-in_default-clause-names : goal.returns-in_default-clause-names
returns-in_default-clause-names g c = record {
  named = c.replies_name-name.ensures.name;
  damaged = λ told kept is.
      let dir = g.F.Files.map c.args.files.now in
      let n = c.args.number in
      let there = c.in_ok-file.ensures.value told ∙ ap dir c.replies_name-name.ensures.name in
      let read = c.reply_in.ensures.read (512 * (n / 512)) kept (subst (λ (f : Option Text). IsRepliesFile (512 * (n / 512)) f kept) (sym there) is) in
      no_some _ (sym c.in_default.is ∙ read);
}

pub returns-clause-file : goal.returns-clause-file
returns-clause-file g c told = c.in_ok-file.ensures.value told ∙ ap (g.F.Files.map c.args.files.now) c.replies_name-name.ensures.name

pub returns-clause-spelled : goal.returns-clause-spelled
returns-clause-spelled g c told =
    let there = c.in_ok-file.ensures.value told ∙ ap (g.F.Files.map c.args.files.now) c.replies_name-name.ensures.name in
    subst (λ (f : Option Text). HoldsReply f (c.args.number % 512) c.in-Some.reply) there c.in-Some.ensures.spelled

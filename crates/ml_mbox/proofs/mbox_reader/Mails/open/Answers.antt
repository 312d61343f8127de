use Rattle.ml_mbox.proofs.Sizes.{few_left}
use Rattle.ml_mbox.proofs.mbox_reader.Mails.open.Goals as goal

pub returns-then-is_box-clause-few : goal.returns-then-is_box-clause-few
returns-then-is_box-clause-few c = few_left c.args.text.now c.without_empty_front-rest.result.now c.without_empty_front-rest.ensures

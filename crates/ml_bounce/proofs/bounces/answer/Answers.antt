use Rattle.std.proofs.Common.{◌∙◌, ap, subst}
use Rattle.std.specs.Option.{option_map}
use Rattle.ml_base.specs.Address.{key, IsAddress}
use Rattle.ml_base.specs.Bytes.{Text}
use Rattle.ml_base.specs.Dir.{same_name}
use Rattle.ml_base.specs.Name.{is_file}
use Rattle.ml_base.proofs.Bools.{name_itself}
use Rattle.ml_bounce.specs.Answers.{key_file, bounced, writes}
use Rattle.ml_bounce.specs.Files.{bucket_of}
use Rattle.ml_bounce.proofs.Leading.{bounced_leads, answer_only, lowered_key}
use Rattle.ml_keyed.proofs.Keys.{bucket_below}
use Rattle.ml_bounce.proofs.Ledgers.{bucket_in, ledger_file_of}
use Rattle.ml_bounce.proofs.bounces.answer.Goals as goal

pub returns-clause-read : goal.returns-clause-read
returns-clause-read g c told = (
  c.in_ok-bucket.bucket.entries,
  c.in_ok-bucket.ensures.value told,
  c.in_ok-answer_in.ensures ∙ ap (λ (k : Text). option_map (writes c.args.set k) (bounced c.args.bounce k c.in_ok-bucket.bucket.entries)) c.in_ok-bucket.ensures.key,
)

pub returns-clause-value : goal.returns-clause-value
returns-clause-value g c told dir ledger same is =
    let read = returns-clause-read g c told in
    bounced_leads dir c.args.set (key c.args.who.now) read.0 ledger (bucket_in dir (g.F.Files.map c.args.files.now) c.args.set (key c.args.who.now) read.0 same read.1) is c.args.bounce c.in_ok-answer_in.field-0
    (subst (λ (k : Text). IsAddress k) c.in_ok-bucket.ensures.key c.in_ok-bucket.ensures.address) (lowered_key c.args.who.now) c.requires.range read.2

pub returns-clause-others : goal.returns-clause-others
returns-clause-others g c =
    answer_only (λ name. same_name name (key_file c.args.set (key c.args.who.now))) c.args.set (key c.args.who.now) (bounced c.args.bounce (key c.args.who.now) c.in_ok-bucket.bucket.entries) c.in_ok-answer_in.field-0
    (name_itself (key_file c.args.set (key c.args.who.now)))
    (c.in_ok-answer_in.ensures ∙ ap (λ (k : Text). option_map (writes c.args.set k) (bounced c.args.bounce k c.in_ok-bucket.bucket.entries)) c.in_ok-bucket.ensures.key)

pub returns-clause-files : goal.returns-clause-files
returns-clause-files g c =
    answer_only is_file c.args.set (key c.args.who.now) (bounced c.args.bounce (key c.args.who.now) c.in_ok-bucket.bucket.entries) c.in_ok-answer_in.field-0
    (ledger_file_of c.args.set (bucket_of (key c.args.who.now)) c.requires.ledger (bucket_below (key c.args.who.now)))
    (c.in_ok-answer_in.ensures ∙ ap (λ (k : Text). option_map (writes c.args.set k) (bounced c.args.bounce k c.in_ok-bucket.bucket.entries)) c.in_ok-bucket.ensures.key)

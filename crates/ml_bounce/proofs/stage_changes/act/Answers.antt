use Rattle.std.proofs.Common.{◌≡◌, ◌∙◌, ap, subst}
use Rattle.ml_base.specs.Address.{key, IsAddress}
use Rattle.ml_base.specs.Bytes.{Text}
use Rattle.ml_base.specs.Dir.{same_name}
use Rattle.ml_base.specs.Name.{is_file}
use Rattle.ml_base.proofs.Bools.{name_itself}
use Rattle.ml_bounce.specs.Answers.{action_key, acts, key_file, IsBucketOf}
use Rattle.ml_bounce.specs.Files.{bucket_of}
use Rattle.ml_bounce.proofs.Acted.{acted_leads, acts_only}
use Rattle.ml_bounce.proofs.Leading.{lowered_key}
use Rattle.ml_keyed.proofs.Keys.{bucket_below}
use Rattle.ml_bounce.proofs.Ledgers.{bucket_in, ledger_file_of}
use Rattle.ml_bounce.proofs.stage_changes.act.Goals as goal

pub returns-clause-read : goal.returns-clause-read
returns-clause-read g c told =
    let k : c.in_ok-bucket.bucket.key ≡ key (action_key c.args.action.now) = c.in_ok-bucket.ensures.key ∙ ap key c.target.ensures in (
      c.in_ok-bucket.bucket.entries,
      subst (λ (who : Text). IsBucketOf (g.F.Files.map c.args.files.now) c.args.set (key who) c.in_ok-bucket.bucket.entries) c.target.ensures (c.in_ok-bucket.ensures.value told),
      c.in_ok-act_in.ensures ∙ ap (λ (k : Text). acts c.args.set k c.args.now c.in_ok-bucket.bucket.entries) k,
    )

pub returns-clause-value : goal.returns-clause-value
returns-clause-value g c told dir ledger e same is found =
    let k : c.in_ok-bucket.bucket.key ≡ key (action_key c.args.action.now) = c.in_ok-bucket.ensures.key ∙ ap key c.target.ensures in
    let read = returns-clause-read g c told in
    let own = key (action_key c.args.action.now) in
    acted_leads dir c.args.set own c.args.now read.0 ledger e c.in_ok-act_in.field-0 (subst (λ (k : Text). IsAddress k) k c.in_ok-bucket.ensures.address) (lowered_key (action_key c.args.action.now)) c.requires.moment
    (bucket_in dir (g.F.Files.map c.args.files.now) c.args.set own read.0 same read.1) is found read.2

pub returns-clause-others : goal.returns-clause-others
returns-clause-others g c =
    let own = key (action_key c.args.action.now) in
    acts_only (λ name. same_name name (key_file c.args.set own)) c.args.set own c.args.now c.in_ok-bucket.bucket.entries c.in_ok-act_in.field-0 (name_itself (key_file c.args.set own))
    (c.in_ok-act_in.ensures ∙ ap (λ (k : Text). acts c.args.set k c.args.now c.in_ok-bucket.bucket.entries) (c.in_ok-bucket.ensures.key ∙ ap key c.target.ensures))

pub returns-clause-files : goal.returns-clause-files
returns-clause-files g c =
    let own = key (action_key c.args.action.now) in
    acts_only is_file c.args.set own c.args.now c.in_ok-bucket.bucket.entries c.in_ok-act_in.field-0 (ledger_file_of c.args.set (bucket_of own) c.requires.ledger (bucket_below own))
    (c.in_ok-act_in.ensures ∙ ap (λ (k : Text). acts c.args.set k c.args.now c.in_ok-bucket.bucket.entries) (c.in_ok-bucket.ensures.key ∙ ap key c.target.ensures))

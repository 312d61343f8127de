use Rattle.std.proofs.Common.{◌≡◌, refl, sym, subst, ap, ◌∙◌, List}
use Rattle.std.proofs.lemmas.Bool.{or_left, or_right}
use Rattle.ml_address.specs.declared.Path.{Path}
use Rattle.ml_base.specs.Bytes.{Text}
use Rattle.ml_base.specs.Dir.{Dir, with_puts, same_name}
use Rattle.ml_base.specs.declared.names.Set.TheVariants as sets
use Rattle.ml_config.specs.declared.configuration.Config.{Config}
use Rattle.ml_plain.specs.Directory.{IsList}
use Rattle.ml_plain.specs.Mailing.{digest_path, send}
use Rattle.ml_acts.specs.Doing.{is_bucket}
use Rattle.ml_acts.proofs.Damages.{ok_then}
use Rattle.ml_queue.specs.Answers.{ids_name}
use Rattle.ml_acts.specs.Damaged.{IsDamaged}
use Rattle.ml_queue.specs.declared.entries.Out.{Out}
use Rattle.ml_acts.specs.Found.{QueuesOut}
use Rattle.ml_timed.proofs.Joined.{names_after, one_kept, reads_then}
use Rattle.ml_timed.proofs.digests.mail_issue.Goals as goal

pub returns-clause-apart : goal.returns-clause-apart
returns-clause-apart g c told =
    let same_map = g.met.F.Files.kept_map c.args.files.now c.recipients.new.files told c.recipients.ensures.reads.kept in
    ok_then c.send.result
    (λ txn value dir p alike is same.
    let way : c.in_ok-way.way ≡ digest_path p.config c.args.issue = c.in_ok-way.ensures ∙ ap (λ (d : Config). digest_path d c.args.issue) (sym same) in
    let to = c.in_ok-to.ensures.apart told dir p (λ name e. alike name (or_left (is_bucket sets.Digest name) (same_name name ids_name) e)) is in
    let sent = value dir p (alike ids_name refl ∙ sym (ap (λ (d : Dir). d ids_name) same_map)) is in
    subst (λ (t : List Text). IsList (with_puts dir txn) (send (digest_path p.config c.args.issue) c.args.body t p)) to
    (subst (λ (w : Path). IsList (with_puts dir txn) (send w c.args.body c.in_ok-to.to p)) way sent))
    (c.send.ensures.apart told)

pub returns-clause-reads : goal.returns-clause-reads
returns-clause-reads g c = reads_then g.met.F.Files.kept_then c.recipients.ensures.reads c.send.ensures.reads

pub returns-clause-names : goal.returns-clause-names
returns-clause-names g c =
    names_after IsDamaged g.met.F.Files.kept_map (one_kept c.recipients.ensures.reads) (λ name e. or_right (is_bucket sets.Digest name) (same_name name ids_name) e) (λ told name e bad. bad) c.send.ensures.names

pub returns-clause-found : goal.returns-clause-found
returns-clause-found g c told =
    let kept = g.met.F.Files.kept_map c.args.files.now c.recipients.new.files told c.recipients.ensures.reads.kept in
    let out : Out = record { path = c.in_ok-way.way; body = c.args.body; to = c.in_ok-to.to } in
    ok_then c.send.result (λ txn queued. record { out = out; to = c.in_ok-to.ensures.found told; queued = subst (λ (d : Dir). QueuesOut d out txn) kept queued }) (c.send.ensures.found told)

use Rattle.std.proofs.Common.{refl}
use Rattle.ml_bounce.specs.Changes.{can_note, noted}
use Rattle.ml_bounce.proofs.Leading.{entry_made}
use Rattle.ml_bounce.proofs.entry_changes.note_in.Goals as goal

pub returns : goal.returns
returns c =
    entry_made (can_note c.args.number) (noted c.args.number c.args.now) (λ e. refl) c.args.set c.args.bucket.now.key c.args.bucket.now.entries c.can_note.result c.in_ok-entry.entry c.in_ok-entry-2.entry c.in_ok-put_entry.field-0
    c.in_ok-entry.ensures c.can_note.ensures c.if-not-can_note.false c.in_ok-entry-2.ensures c.in_ok-put_entry.ensures

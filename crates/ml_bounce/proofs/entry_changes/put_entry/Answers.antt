use Rattle.std.proofs.Common.{◌≡◌, ◌∙◌, Some, sym, ap, rules}
use Rattle.ml_keyed.proofs.Rewritten.{file_with}
use Rattle.ml_bounce.specs.Files.{entry_text, ledger_file}
use Rattle.ml_bounce.specs.Ledger.{Ledger, entry_key, with_ledger}
use Rattle.ml_bounce.proofs.entry_changes.put_entry.Goals as goal

pub returns : goal.returns
returns c =
    let file : Some c.in_ok-bytes.bytes ≡ ledger_file (with_ledger c.args.entry.now c.args.entries.now) =
    ap Some c.in_ok-bytes.ensures ∙ sym (file_with entry_key entry_text c.args.entry.now c.as_slice.result.now) ∙ ap (λ (es : Ledger). ledger_file (with_ledger c.args.entry.now es)) c.as_slice.ensures in
    search rules

use Rattle.std.proofs.Common.{◌≡◌, take}
use Rattle.std.specs.List.{flat_map}
use Rattle.ml_manage.specs.Texts.{entry_text}
use Rattle.ml_manage.proofs.texts.all_entries.Given as goal

abbrev pub invariant-loop-entry : goal.invariant-loop-entry
invariant-loop-entry l = l.out ≡ flat_map entry_text (take l.entry-index l.entries)

-- What is remembered of files is what they hold.
use Rattle.std.proofs.Common.{◌≡◌, Bool, true, false, cond, List, [], ◌∷◌, ◌++◌, Option, Some, refl, sym, ap, ◌∙◌}
use Rattle.ml_base.specs.declared.names.Name.{Name}
use Rattle.ml_base.specs.declared.puts.Put.{Put}
use Rattle.ml_base.specs.Dir.{Dir, same_name, with_puts, newest_put, laid_by}
use Rattle.ml_base.proofs.Bools.{one_name}
use Rattle.ml_base.proofs.Laid.{laid_joined, newest_decides}
use Rattle.ml_list.specs.Once.{Tells}

-- what is remembered of a file is what it holds
pub told_newest : (dir : Dir) (read : List Put) (name : Name) (put : Put) → Tells dir read → newest_put read name ≡ Some put → put.bytes ≡ dir name
told_newest dir read name put told e = sym (newest_decides read name dir ∙ ap (λ (p : Option Put). laid_by p (dir name)) e) ∙ told name

one_more : (dir before : Dir) (put : Put) (other : Name) (b : Bool) → same_name other put.name ≡ b → put.bytes ≡ dir put.name → before other ≡ dir other → cond b put.bytes (before other) ≡ dir other
one_more dir before put other true e bytes was = bytes ∙ ap dir (sym (one_name other put.name e))
one_more dir before put other false e bytes was = was

-- what is read of one file more is told too
pub told_more : (dir : Dir) (read : List Put) (put : Put) → Tells dir read → put.bytes ≡ dir put.name → Tells dir (read ++ put ∷ [])
told_more dir read put told bytes other =
    ap (λ (d : Dir). d other) (laid_joined dir read (put ∷ [])) ∙ one_more dir (with_puts dir read) put other (same_name other put.name) refl bytes (told other)

-- What a row of puts leaves in each file.
use Rattle.std.proofs.Common.{◌≡◌, Bool, true, false, cond, List, [], ◌∷◌, ◌++◌, Option, Some, None, find, reverse, refl, sym, ap, ap₂, ◌∙◌, ◌||◌}
use Rattle.std.proofs.lemmas.List.{reverse-append}
use Rattle.std.proofs.lemmas.List.Folds.{find-append}
use Rattle.std.specs.Option.{option_or}
use Rattle.ml_base.specs.Bytes.{Text}
use Rattle.ml_base.specs.declared.names.Name.{Name}
use Rattle.ml_base.specs.declared.puts.Put.{Put}
use Rattle.ml_base.specs.Dir.{Dir, same_name, with_put, with_puts, touches, touches_only, newest_put, laid_by}
use Rattle.ml_base.proofs.Bools.{both, neither, not_true, one_name}

-- laying one row and then another is the same as laying both joined
pub laid_joined : (dir : Dir) (first second : List Put) → with_puts dir (first ++ second) ≡ with_puts (with_puts dir first) second
laid_joined dir [] second = refl
laid_joined dir (put ∷ first) second = laid_joined (with_put dir put) first second

-- a row that doesn't touch a file leaves it
pub untouched : (dir : Dir) (puts : List Put) (name : Name) → touches puts name ≡ false → with_puts dir puts name ≡ dir name
untouched dir [] name e = refl
untouched dir (put ∷ puts) name e =
    let parts = neither (same_name name put.name) (touches puts name) e in
    untouched (with_put dir put) puts name parts.1 ∙ ap (λ (b : Bool). cond b put.bytes (dir name)) parts.0

-- two names are different if one passes a test and the other doesn't
told_apart : (test : Name → Bool) (a b : Name) → test a ≡ false → test b ≡ true → same_name a b ≡ false
told_apart test a b out in_it = not_true (same_name a b) (λ e. let bad : false ≡ true = sym out ∙ ap test (one_name a b e) ∙ in_it in cc)

-- a row that touches only files that pass a test leaves the others alone
pub left_alone : (test : Name → Bool) (dir : Dir) (puts : List Put) (name : Name) → touches_only test puts ≡ true → test name ≡ false → with_puts dir puts name ≡ dir name
left_alone test dir [] name all out = refl
left_alone test dir (put ∷ puts) name all out =
    let parts = both (test put.name) (touches_only test puts) all in
    left_alone test (with_put dir put) puts name parts.1 out ∙ ap (λ (b : Bool). cond b put.bytes (dir name)) (told_apart test name put.name out parts.0)

of_one : (b : Bool) (put : Put) (before : Option Text) → cond b put.bytes before ≡ laid_by (cond b (Some put) None) before
of_one true put before = refl
of_one false put before = refl

of_two : (newer : Option Put) (b : Bool) (put : Put) (before : Option Text) → laid_by newer (cond b put.bytes before) ≡ laid_by (option_or newer (cond b (Some put) None)) before
of_two (Some newer) b put before = refl
of_two None b put before = of_one b put before

newest_of_more : (put : Put) (puts : List Put) (name : Name) → newest_put (put ∷ puts) name ≡ option_or (newest_put puts name) (cond (same_name name put.name) (Some put) None)
newest_of_more put puts name = ap (find (λ p. same_name name p.name)) (reverse-append (put ∷ []) puts) ∙ find-append (λ p. same_name name p.name) (reverse puts) (put ∷ [])

-- the newest put of a file decides
pub newest_decides : (puts : List Put) (name : Name) (dir : Dir) → with_puts dir puts name ≡ laid_by (newest_put puts name) (dir name)
newest_decides [] name dir = refl
newest_decides (put ∷ puts) name dir =
    newest_decides puts name (with_put dir put) ∙ of_two (newest_put puts name) (same_name name put.name) put (dir name)
    ∙ ap (λ (p : Option Put). laid_by p (dir name)) (sym (newest_of_more put puts name))

none_newest : (newer : Option Put) (b : Bool) (put : Put) → option_or newer (cond b (Some put) None) ≡ None → (newer ≡ None) × (b ≡ false)
none_newest (Some p) b put e = cc
none_newest None true put e = cc
none_newest None false put e = (refl, refl)

-- a file that a row touches has a newest put there
pub newest_touches : (puts : List Put) (name : Name) → newest_put puts name ≡ None → touches puts name ≡ false
newest_touches [] name e = refl
newest_touches (put ∷ puts) name e =
    let parts = none_newest (newest_put puts name) (same_name name put.name) put (sym (newest_of_more put puts name) ∙ e) in
    ap₂ (λ a b. a || b) parts.1 (newest_touches puts name parts.0)

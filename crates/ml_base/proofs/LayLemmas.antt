-- Laying a put in the place of the newest one of its file makes of the files what adding it at the end would make.
use Rattle.std.proofs.Common.{◌≡◌, ℕ, zero, suc, Bool, true, false, not, ◌&&◌, ◌||◌, cond, List, [], ◌∷◌, ◌++◌, Some, None, drop, set, refl, ap, ap₂, sym, ◌∙◌, subst, arith, add-one}
use Rattle.std.proofs.lemmas.Bool.Decides.{nat_tests}
use Rattle.std.specs.Prelude.{slice_get}
use Rattle.std.proofs.lemmas.Bool.{or_right}
use Rattle.ml_base.specs.declared.names.Name.{Name}
use Rattle.ml_base.specs.declared.puts.Put.{Put}
use Rattle.ml_base.specs.Dir.{Dir, same_name, with_put, with_puts, touches, newest_put, laid_by}
use Rattle.ml_base.specs.Laying.{laid_in, are_distinct, IsNewestAt}
use Rattle.ml_base.proofs.Bools.{both, neither, not_true, one_name}
use Rattle.ml_base.proofs.Laid.{laid_joined, untouched, newest_decides}

and_off : (a b : Bool) → b ≡ true → (a && not b) ≡ false
and_off true b e = ap not e
and_off false b e = refl

touched_at : (puts : List Put) (name : Name) (at : ℕ) (put : Put) → slice_get puts at ≡ Some put → same_name name put.name ≡ true → touches puts name ≡ true
touched_at [] name at put is named = let bad : None ≡ Some put = is in cc
touched_at (p ∷ ps) name zero put is named = let same : p ≡ put = cc in ap (λ (q : Put). same_name name q.name || touches ps name) same ∙ ap (λ b. b || touches ps name) named
touched_at (p ∷ ps) name (suc at) put is named = or_right (same_name name p.name) (touches ps name) (touched_at ps name at put is named)

there : (put : Put) (puts : List Put) (at : ℕ) (old : Put) → slice_get puts at ≡ Some old → same_name put.name old.name ≡ true → touches (drop (suc at) puts) put.name ≡ false
    → set puts at put ≡ laid_in put puts
there put [] at old is named last = let bad : None ≡ Some old = is in cc
there put (p ∷ ps) zero old is named last =
    let same : p ≡ old = cc in
    let alike : same_name put.name p.name ≡ true = ap (λ (q : Put). same_name put.name q.name) same ∙ named in
    sym (ap₂ (λ a b. cond (a && not b) (put ∷ ps) (p ∷ laid_in put ps)) alike last)
there put (p ∷ ps) (suc at) old is named last =
    ap (λ rest. p ∷ rest) (there put ps at old is named last)
    ∙ sym (ap (λ a. cond a (put ∷ ps) (p ∷ laid_in put ps)) (and_off (same_name put.name p.name) (touches ps put.name) (touched_at ps put.name at old is named)))

-- if the row's newest put of the file stands at a place, it is replaced there
pub laid_there : (put : Put) (puts : List Put) (at : ℕ) → IsNewestAt puts put.name at → set puts at put ≡ laid_in put puts
laid_there put puts at is = there put puts at is.put is.is is.named (subst (λ n. touches (drop n puts) put.name ≡ false) (add-one at) is.last)

-- if the row has no put of the file, it comes last
pub laid_last : (put : Put) (puts : List Put) → touches puts put.name ≡ false → puts ++ put ∷ [] ≡ laid_in put puts
laid_last put [] e = refl
laid_last put (p ∷ ps) e =
    let parts = neither (same_name put.name p.name) (touches ps put.name) e in
    ap (λ rest. p ∷ rest) (laid_last put ps parts.1) ∙ sym (ap (λ a. cond (a && not (touches ps put.name)) (put ∷ ps) (p ∷ laid_in put ps)) parts.0)

-- what a row makes of a file depends only on that file
same_below : (one other : Dir) (puts : List Put) (name : Name) → one name ≡ other name → with_puts one puts name ≡ with_puts other puts name
same_below one other puts name e = newest_decides puts name one ∙ ap (laid_by (newest_put puts name)) e ∙ sym (newest_decides puts name other)

pushed : (dir : Dir) (puts : List Put) (put : Put) (name : Name) → with_puts dir (puts ++ put ∷ []) name ≡ cond (same_name name put.name) put.bytes (with_puts dir puts name)
pushed dir puts put name = ap (λ (d : Dir). d name) (laid_joined dir puts (put ∷ []))

in_place : (put p : Put) (ps : List Put) (dir : Dir) (name : Name) → same_name put.name p.name ≡ true → touches ps put.name ≡ false
    → with_puts (with_put dir put) ps name ≡ with_puts (with_put dir p) (ps ++ put ∷ []) name
in_place put p ps dir name alike free = go (same_name name put.name) refl
  where
    go : (b : Bool) → same_name name put.name ≡ b → with_puts (with_put dir put) ps name ≡ with_puts (with_put dir p) (ps ++ put ∷ []) name
    go true t =
        untouched (with_put dir put) ps name (subst (λ (n : Name). touches ps n ≡ false) (sym (one_name name put.name t)) free)
        ∙ ap (λ b. cond b put.bytes (dir name)) t ∙ sym (ap (λ b. cond b put.bytes (with_puts (with_put dir p) ps name)) t) ∙ sym (pushed (with_put dir p) ps put name)
    go false f =
        let other : same_name name p.name ≡ false = subst (λ (n : Name). same_name name n ≡ false) (one_name put.name p.name alike) f in
        same_below (with_put dir put) (with_put dir p) ps name (ap (λ b. cond b put.bytes (dir name)) f ∙ sym (ap (λ b. cond b p.bytes (dir name)) other))
        ∙ sym (ap (λ b. cond b put.bytes (with_puts (with_put dir p) ps name)) f) ∙ sym (pushed (with_put dir p) ps put name)

-- laid over any directory, it has the same effect as added after all of them
pub laid_as_pushed : (put : Put) (puts : List Put) (dir : Dir) (name : Name) → with_puts dir (laid_in put puts) name ≡ with_puts dir (puts ++ put ∷ []) name
laid_as_pushed put [] dir name = refl
laid_as_pushed put (p ∷ ps) dir name = go (laid_as_pushed put ps (with_put dir p) name) (same_name put.name p.name && not (touches ps put.name)) refl
  where
    go : with_puts (with_put dir p) (laid_in put ps) name ≡ with_puts (with_put dir p) (ps ++ put ∷ []) name → (b : Bool) → (same_name put.name p.name && not (touches ps put.name)) ≡ b → with_puts dir (laid_in put (p ∷ ps)) name ≡ with_puts dir ((p ∷ ps) ++ put ∷ []) name
    go more true t =
        let parts = both (same_name put.name p.name) (not (touches ps put.name)) t in
        ap (λ b. with_puts dir (cond b (put ∷ ps) (p ∷ laid_in put ps)) name) t ∙ in_place put p ps dir name parts.0 (not_true (touches ps put.name) (λ e. let bad : false ≡ true = ap not (sym e) ∙ parts.1 in cc))
    go more false f = ap (λ b. with_puts dir (cond b (put ∷ ps) (p ∷ laid_in put ps)) name) f ∙ more

same_back : (a b : Name) → same_name a b ≡ false → same_name b a ≡ false
same_back a b e = not_true (same_name b a) (λ t. let bad : false ≡ true = sym e ∙ subst (λ (n : Name). same_name n b ≡ true) (one_name b a t) (itself b) in cc)
  where
    itself : (n : Name) → same_name n n ≡ true
    itself n = grind (arith, nat_tests)

-- it touches the file of the put, and those that the row touched
pub laid_touches : (put : Put) (puts : List Put) (name : Name) → touches puts name ≡ false → same_name name put.name ≡ false → touches (laid_in put puts) name ≡ false
laid_touches put [] name e f = ap (λ b. b || false) f
laid_touches put (p ∷ ps) name e f =
    let parts = neither (same_name name p.name) (touches ps name) e in
    go parts.0 parts.1 (laid_touches put ps name parts.1 f) (same_name put.name p.name && not (touches ps put.name)) refl
  where
    go : same_name name p.name ≡ false → touches ps name ≡ false → touches (laid_in put ps) name ≡ false → (b : Bool) → (same_name put.name p.name && not (touches ps put.name)) ≡ b
        → touches (laid_in put (p ∷ ps)) name ≡ false
    go first rest more true t = ap (λ b. touches (cond b (put ∷ ps) (p ∷ laid_in put ps)) name) t ∙ ap₂ (λ a b. a || b) f rest
    go first rest more false t = ap (λ b. touches (cond b (put ∷ ps) (p ∷ laid_in put ps)) name) t ∙ ap₂ (λ a b. a || b) first more

apart : (put p : Put) (ps : List Put) → touches ps p.name ≡ false → (same_name put.name p.name && not (touches ps put.name)) ≡ false → same_name put.name p.name ≡ false
apart put p ps free e = not_true (same_name put.name p.name) (λ t.
    let none : touches ps put.name ≡ false = subst (λ (n : Name). touches ps n ≡ false) (sym (one_name put.name p.name t)) free in
    let bad : true ≡ false = sym (ap₂ (λ a b. a && not b) t none) ∙ e in
    cc)

-- no file has two puts if none had before
pub laid_distinct : (put : Put) (puts : List Put) → are_distinct puts ≡ true → are_distinct (laid_in put puts) ≡ true
laid_distinct put [] e = refl
laid_distinct put (p ∷ ps) e =
    let parts = both (not (touches ps p.name)) (are_distinct ps) e in
    let free : touches ps p.name ≡ false = not_true (touches ps p.name) (λ t. let bad : false ≡ true = ap not (sym t) ∙ parts.0 in cc) in
    go free parts.1 (laid_distinct put ps parts.1) (same_name put.name p.name && not (touches ps put.name)) refl
  where
    go : touches ps p.name ≡ false → are_distinct ps ≡ true → are_distinct (laid_in put ps) ≡ true → (b : Bool) → (same_name put.name p.name && not (touches ps put.name)) ≡ b
        → are_distinct (laid_in put (p ∷ ps)) ≡ true
    go free rest more true t =
        let is = both (same_name put.name p.name) (not (touches ps put.name)) t in
        ap (λ b. are_distinct (cond b (put ∷ ps) (p ∷ laid_in put ps))) t ∙ ap₂ (λ a b. a && b) is.1 rest
    go free rest more false f =
        ap (λ b. are_distinct (cond b (put ∷ ps) (p ∷ laid_in put ps))) f
        ∙ ap₂ (λ a b. not a && b) (laid_touches put ps p.name free (same_back put.name p.name (apart put p ps free f))) more

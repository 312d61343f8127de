-- What laying puts over others makes of them.
use Rattle.std.proofs.Common.{◌≡◌, ⊎_elim, ℕ, ◌+◌, ◌<◌, ◌≤◌, Bool, true, false, not, ◌&&◌, cond, List, [], ◌∷◌, ◌++◌, length, take, drop, set, get_or, Option, Some, None, refl, ap, ap₂, sym, ◌∙◌, subst, arith, append_assoc, length-take, length-set}
use Rattle.std.specs.Prelude.{slice_get, MatchOption}
use Rattle.std.specs.List.{swap}
use Rattle.std.proofs.lemmas.List.{take-set, take-set-le, take_more_set, drop-set-lt, drop_more}
use Rattle.std.proofs.lemmas.List.Edits.{swap_is}
use Rattle.std.proofs.lemmas.Option.{get_or_from_slice_get, slice_get-get_or}
use Rattle.std.proofs.Math.Seq.{take-set-lt}
use Rattle.std.proofs.lemmas.Bool.{and_parts, and_from, cases_lt}
use Rattle.ml_base.specs.Dir.{Dir, with_puts, are_files, touches, same_name}
use Rattle.ml_base.specs.Laying.{laid_in, are_distinct, IsNewestAt}
use Rattle.ml_base.specs.Name.{is_file}
use Rattle.ml_base.specs.declared.names.Name.{Name}
use Rattle.ml_base.specs.declared.puts.Put.{Put}
use Rattle.ml_base.proofs.Laid.{laid_joined}
use Rattle.ml_base.proofs.LayLemmas.{laid_there, laid_last, laid_as_pushed, laid_distinct}
use Rattle.ml_run.specs.Batches.{laid_all}

-- laid over any directory they make the same as if they came after the others
pub laid_as_joined : (puts more : List Put) (dir : Dir) (name : Name) → with_puts dir (laid_all puts more) name ≡ with_puts dir (puts ++ more) name
laid_as_joined puts [] dir name = ap (λ (ps : List Put). with_puts dir ps name) (sym (append-nil puts))
  where
    append-nil : (xs : List Put) → xs ++ [] ≡ xs
    append-nil [] = refl
    append-nil (x ∷ xs) = ap (λ (l : List Put). x ∷ l) (append-nil xs)
laid_as_joined puts (put ∷ more) dir name =
    laid_as_joined (laid_in put puts) more dir name
    ∙ ap (λ (d : Dir). d name) (laid_joined dir (laid_in put puts) more)
    ∙ ap (λ (d : Dir). with_puts d more name) (λ i other. laid_as_pushed put puts dir other i)
    ∙ ap (λ (d : Dir). d name) (sym (laid_joined dir (puts ++ put ∷ []) more))
    ∙ ap (λ (ps : List Put). with_puts dir ps name) (append_assoc puts (put ∷ []) more)

pub laid_over : (dir : Dir) (puts more : List Put) → with_puts dir (laid_all puts more) ≡ with_puts (with_puts dir puts) more
laid_over dir puts more = (λ i name. laid_as_joined puts more dir name i) ∙ laid_joined dir puts more

in_files : (put : Put) (puts : List Put) → is_file put.name ≡ true → are_files puts ≡ true → are_files (laid_in put puts) ≡ true
in_files put [] one all = and_from (is_file put.name) true one refl
in_files put (p ∷ ps) one all =
    let parts = and_parts (is_file p.name) (are_files ps) all in
    go parts.0 parts.1 (in_files put ps one parts.1) (same_name put.name p.name && not (touches ps put.name)) refl
  where
    go : is_file p.name ≡ true → are_files ps ≡ true → are_files (laid_in put ps) ≡ true → (b : Bool) → (same_name put.name p.name && not (touches ps put.name)) ≡ b → are_files (laid_in put (p ∷ ps)) ≡ true
    go first rest more true t = ap (λ b. are_files (cond b (put ∷ ps) (p ∷ laid_in put ps))) t ∙ and_from (is_file put.name) (are_files ps) one rest
    go first rest more false f = ap (λ b. are_files (cond b (put ∷ ps) (p ∷ laid_in put ps))) f ∙ and_from (is_file p.name) (are_files (laid_in put ps)) first more

pub laid_files : (puts more : List Put) → are_files puts ≡ true → are_files more ≡ true → are_files (laid_all puts more) ≡ true
laid_files puts [] all rest = all
laid_files puts (put ∷ more) all rest =
    let parts = and_parts (is_file put.name) (are_files more) rest in laid_files (laid_in put puts) more (in_files put puts parts.0 all) parts.1

pub all_distinct : (puts more : List Put) → are_distinct puts ≡ true → are_distinct (laid_all puts more) ≡ true
all_distinct puts [] e = e
all_distinct puts (put ∷ more) e = all_distinct (laid_in put puts) more (laid_distinct put puts e)

-- the put at a place takes the place of another, or goes after the first ones
pub laid_swapped : (puts new : List Put) (kept at place : ℕ) (put : Put) → kept ≤ at → at < length puts → slice_get puts at ≡ Some put → IsNewestAt (take kept puts) put.name place → new ≡ swap puts place at → take kept new ≡ laid_in put (take kept puts)
laid_swapped puts new kept at place put le lt here is e =
    let low : place < kept = omega (arith, is.within, length-take kept puts) in
    ap (take kept) (e ∙ sym (swap_is puts place at put (omega (arith, low, le, lt)) lt))
    ∙ take-set-le kept (set puts place (get_or puts at put)) at (get_or puts place put) le
    ∙ take-set-lt kept puts place (get_or puts at put) low
    ∙ ap (set (take kept puts) place) (get_or_from_slice_get puts at put put here)
    ∙ laid_there put (take kept puts) place is

pub laid_after : (puts new : List Put) (kept at : ℕ) (put : Put) → kept ≤ at → at < length puts → slice_get puts at ≡ Some put → touches (take kept puts) put.name ≡ false → new ≡ swap puts kept at → take (kept + 1) new ≡ laid_in put (take kept puts)
laid_after puts new kept at put le lt here free e =
    let is : get_or puts at put ≡ put = get_or_from_slice_get puts at put put here in
    ap (take (kept + 1)) (e ∙ sym (swap_is puts kept at put (omega (arith, le, lt)) lt)) ∙ ⊎_elim
    (λ low. take-set-le (kept + 1) (set puts kept (get_or puts at put)) at (get_or puts kept put) (omega (arith, low))
    ∙ take_more_set puts kept (get_or puts at put) (omega (arith, low, lt))
    ∙ ap (λ (p : Put). take kept puts ++ p ∷ []) is)
    (λ high. let same : at ≡ kept = omega (arith, high, le) in
    ap (λ n. take (kept + 1) (set (set puts kept (get_or puts n put)) n (get_or puts kept put))) same
    ∙ take_more_set (set puts kept (get_or puts kept put)) kept (get_or puts kept put) (omega (arith, same, lt, length-set puts kept (get_or puts kept put)))
    ∙ ap (λ (l : List Put). l ++ get_or puts kept put ∷ []) (take-set puts kept (get_or puts kept put))
    ∙ ap (λ (p : Put). take kept puts ++ p ∷ []) (ap (λ n. get_or puts n put) (sym same) ∙ is))
    (cases_lt kept at)
    ∙ laid_last put (take kept puts) free

pub rest_swapped : (puts new : List Put) (place at : ℕ) → place ≤ at → at < length puts → new ≡ swap puts place at → drop (at + 1) new ≡ drop (at + 1) puts
rest_swapped [] new place at le lt e = absurd (omega (arith, lt))
rest_swapped (p ∷ ps) new place at le lt e =
    let puts = p ∷ ps in
    ap (drop (at + 1)) (e ∙ sym (swap_is puts place at p (omega (arith, le, lt)) lt))
    ∙ drop-set-lt (at + 1) (set puts place (get_or puts at p)) at (get_or puts place p) (omega arith)
    ∙ drop-set-lt (at + 1) puts place (get_or puts at p) (omega (arith, le))

-- one put more is laid over the first ones
pub laid_step : (items slice new now : List Put) (kept result at : ℕ) → slice ≡ items → now ≡ new → at < length items
    → ((put : Put) → slice_get slice at ≡ Some put → take result new ≡ laid_in put (take kept slice)) → drop (at + 1) new ≡ drop (at + 1) slice
    → laid_all (take result now) (drop (at + 1) now) ≡ laid_all (take kept items) (drop at items)
laid_step [] slice new now kept result at same is lt laid rest = absurd (omega (arith, lt))
laid_step (p ∷ ps) slice new now kept result at same is lt laid rest =
    let items = p ∷ ps in
    let put = get_or items at p in
    let here : slice_get slice at ≡ Some put = ap (λ (l : List Put). slice_get l at) same ∙ slice_get-get_or items at p lt in
    ap (λ (l : List Put). laid_all (take result l) (drop (at + 1) l)) is
    ∙ ap₂ laid_all (laid put here ∙ ap (λ (l : List Put). laid_in put (take kept l)) same) (rest ∙ ap (drop (at + 1)) same)
    ∙ ap (laid_all (take kept items)) (sym (drop_more items at p lt))

-- the newest put of the file among the first ones, if it was looked for
pub newest_there : (puts : List Put) (kept : ℕ) (put : Put) (place : ℕ) (found : Option ℕ) → found ≡ Some place → MatchOption found (touches (take kept puts) put.name ≡ false) (IsNewestAt (take kept puts) put.name) → IsNewestAt (take kept puts) put.name place
newest_there puts kept put place found is m = subst (λ (o : Option ℕ). MatchOption o (touches (take kept puts) put.name ≡ false) (IsNewestAt (take kept puts) put.name)) is m

pub none_there : (puts : List Put) (kept : ℕ) (put : Put) (found : Option ℕ) → found ≡ None → MatchOption found (touches (take kept puts) put.name ≡ false) (IsNewestAt (take kept puts) put.name) → touches (take kept puts) put.name ≡ false
none_there puts kept put found is m = subst (λ (o : Option ℕ). MatchOption o (touches (take kept puts) put.name ≡ false) (IsNewestAt (take kept puts) put.name)) is m

-- it stands below the place of the put
newest_before : (puts : List Put) (kept at place : ℕ) (found : Option ℕ) → found ≡ Some place → kept ≤ at → at < length puts
    → ((put : Put) → slice_get puts at ≡ Some put → MatchOption found (touches (take kept puts) put.name ≡ false) (IsNewestAt (take kept puts) put.name)) → place < at
newest_before [] kept at place found is le lt m = absurd (omega (arith, lt))
newest_before (p ∷ ps) kept at place found is le lt m =
    let put = get_or (p ∷ ps) at p in
    let there = newest_there (p ∷ ps) kept put place found is (m put (slice_get-get_or (p ∷ ps) at p lt)) in
    omega (arith, there.within, length-take kept (p ∷ ps), le)

pub newest_below : (puts : List Put) (kept at place : ℕ) (found : Option ℕ) → found ≡ Some place → kept ≤ at → at < length puts
    → ((put : Put) → slice_get puts at ≡ Some put → MatchOption found (touches (take kept puts) put.name ≡ false) (IsNewestAt (take kept puts) put.name)) → place < length puts
newest_below puts kept at place found is le lt m = omega (arith, newest_before puts kept at place found is le lt m, lt)

pub newest_at_most : (puts : List Put) (kept at place : ℕ) (found : Option ℕ) → found ≡ Some place → kept ≤ at → at < length puts
    → ((put : Put) → slice_get puts at ≡ Some put → MatchOption found (touches (take kept puts) put.name ≡ false) (IsNewestAt (take kept puts) put.name)) → place ≤ at
newest_at_most puts kept at place found is le lt m = omega (arith, newest_before puts kept at place found is le lt m)

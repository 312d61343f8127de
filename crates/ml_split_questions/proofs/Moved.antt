-- The part of a name has no more members than the set.
use Rattle.std.proofs.Common.{◌≡◌, ℕ, ◌≤◌, Bool, true, false, cond, List, [], ◌∷◌, length, map, filter, Some, None, option_map, refl, sym, ap, ◌∙◌, subst, arith}
use Rattle.std.proofs.lemmas.List.{length-map}
use Rattle.std.specs.List.{find}
use Rattle.ml_base.specs.Bytes.{Text}
use Rattle.ml_base.specs.declared.names.Set.{Set}
use Rattle.ml_base.proofs.Options.{no_text}
use Rattle.ml_subs.specs.declared.member_list.Member.{Member}
use Rattle.ml_split.specs.declared.parts.Part.{Part}
use Rattle.ml_split.specs.declared.rules.Rule.{Rule}
use Rattle.ml_split.specs.Parts.{goes_to, names, part_named, parts}
use Rattle.ml_split.specs.Steps.{is_named}
use Rattle.ml_plain.specs.Items.{AreNumbers}
use Rattle.ml_split_questions.specs.Texts.{IsMoved, move_text, moving_text, part_under, parts_of}

pub filter_small : (test : Text → Bool) (xs : List Text) → length (filter test xs) ≤ length xs
filter_small test [] = omega arith
filter_small test (x ∷ xs) = go (test x) (filter_small test xs)
  where
    go : (t : Bool) → length (filter test xs) ≤ length xs → length (cond t (x ∷ filter test xs) (filter test xs)) ≤ length (x ∷ xs)
    go true h = omega (arith, h)
    go false h = omega (arith, h)

one_part : (a b : Part) → Some a ≡ Some b → a ≡ b
one_part a b e = cc

no_part : (a : Part) → None ≡ Some a → ⊥
no_part a e = cc

found_small : (rules : List Rule) (set : List Text) (name : Text) (part : Part) (ns : List Text) → find (is_named name) (map (part_named rules set) ns) ≡ Some part → length part.members ≤ length set
found_small rules set name part [] e = absurd (no_part part e)
found_small rules set name part (n ∷ ns) e = go (is_named name (part_named rules set n)) refl (found_small rules set name part ns)
  where
    go : (t : Bool) → is_named name (part_named rules set n) ≡ t → (find (is_named name) (map (part_named rules set) ns) ≡ Some part → length part.members ≤ length set) → length part.members ≤ length set
    go true is more =
        let same = one_part (part_named rules set n) part (sym (ap (λ b. cond b (Some (part_named rules set n)) (find (is_named name) (map (part_named rules set) ns))) is) ∙ e) in
        subst (λ (p : Part). length p.members ≤ length set) same (filter_small (goes_to rules n) set)
    go false is more = more (sym (ap (λ b. cond b (Some (part_named rules set n)) (find (is_named name) (map (part_named rules set) ns))) is) ∙ e)

pub moved : (rules : List Rule) (ms : List Member) (name : Text) (set : Set) (into : Bool) (first now : ℕ) (members : List Text) (ps : List Part) (part : Part) (text : Text) → first ≤ 999_999_900_000 → length ms ≤ 100_000
    → members ≡ map (λ m. m.who) ms → ps ≡ parts rules members → Some part ≡ part_under name ps → (AreNumbers first (length part.members) → text ≡ move_text set into first now part) → Some text ≡ moving_text rules ms name set into first now
moved rules ms name set into first now members ps part text low few all divided found written =
    let whole : ps ≡ parts_of rules ms = divided ∙ ap (parts rules) all in
    let there : part_under name (parts_of rules ms) ≡ Some part = sym (found ∙ ap (part_under name) whole) in
    let size : length (map (λ (m : Member). m.who) ms) ≡ length ms = length-map ms (λ (m : Member). m.who) in
    let small = found_small rules (map (λ m. m.who) ms) name part (names rules) there in
    let numbers : AreNumbers first (length part.members) = omega (arith, low, few, size, small) in
    ap Some (written numbers) ∙ sym (ap (option_map (move_text set into first now)) there)

-- the same, for any number of members
pub moved_joined : (rules : List Rule) (ms : List Member) (name : Text) (set : Set) (into : Bool) (first now : ℕ) (members : List Text) (ps : List Part) (part : Part) (text : Text) → first ≤ 999_999_900_000
    → members ≡ map (λ m. m.who) ms → ps ≡ parts rules members → Some part ≡ part_under name ps → (AreNumbers first (length part.members) → text ≡ move_text set into first now part) → IsMoved rules ms name set into first now (Some text)
moved_joined rules ms name set into first now members ps part text low all divided found written =
    let whole : ps ≡ parts_of rules ms = divided ∙ ap (parts rules) all in
    let there : part_under name (parts_of rules ms) ≡ Some part = sym (found ∙ ap (part_under name) whole) in
    record {
      absent = (λ e. absurd (no_text text e), λ e. absurd (no_part part (sym e ∙ there)));
      stream = λ few. moved rules ms name set into first now members ps part text low few all divided found written;
    }

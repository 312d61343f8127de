-- Six lines are read as they are written, and nothing else is read as six lines.
use Rattle.std.proofs.Common.{◌≡◌, ◌∙◌, true, false, cond, [], ◌∷◌, ◌++◌, length, take, drop, Some, None, refl, sym, ap, ap₂, append_assoc, codes, ◌==◌, arith}
use Rattle.std.proofs.Math.Seq.{drop-append_seam, take-append_seam}
use Rattle.std.proofs.lemmas.List.{append-nil, take-append-drop}
use Rattle.std.proofs.lemmas.Slice.Eq.{bytes_eq-Decides}
use Rattle.std.specs.Option.{option_and_then}
use Rattle.std.specs.Str.{bytes_eq}
use Rattle.std.proofs.lemmas.Bool.{eqb-true}
use Rattle.ml_base.specs.Bytes.{Text}
use Rattle.ml_base.specs.Splits.{has_byte, split_first}
use Rattle.ml_base.proofs.SplitLaws.{first_read, first_written}
use Rattle.ml_config.specs.ConfigFile.{Values, line, values_text}
use Rattle.ml_config.specs.Reading.{after, lines_of, value_at}
use Rattle.ml_config.proofs.Small.{bound, tested}
use Rattle.ml_config.proofs.Clean.{AreLines}

pub value_read : (name text value rest : Text) → value_at name text ≡ Some (value, rest) → text ≡ line name value ++ rest
unfolding value_at
value_read name text value rest e =
    let found = bound (after name text) (split_first 10) (value, rest) e in
    let cut = tested (bytes_eq (take (length name) text) name) (drop (length name) text) found.0 found.1 in
    let front : take (length name) text ≡ name = (bytes_eq-Decides _ _).0 cut.0 in
    let back : drop (length name) text ≡ value ++ 10 ∷ rest = cut.1 ∙ (first_read 10 found.0 value rest found.2).0 in
    sym (take-append-drop (length name) text) ∙ ap₂ (λ a b. a ++ b) front back ∙ simp append_assoc

pub value_written : (name value rest : Text) → has_byte 10 value ≡ false → value_at name (line name value ++ rest) ≡ Some (value, rest)
unfolding value_at
value_written name value rest clean =
    let whole : line name value ++ rest ≡ name ++ (value ++ 10 ∷ rest) = simp append_assoc in
    let front : bytes_eq (take (length name) (name ++ (value ++ 10 ∷ rest))) name ≡ true = (bytes_eq-Decides _ _).1 (take-append_seam name _) in
    ap (λ t. option_and_then (split_first 10) (after name t)) whole
    ∙ ap₂ (λ t u. option_and_then (split_first 10) (cond t (Some u) None)) front (drop-append_seam name (value ++ 10 ∷ rest))
    ∙ first_written 10 value rest clean

six : (a b c d e f : Text) → a ++ (b ++ (c ++ (d ++ (e ++ (f ++ []))))) ≡ a ++ b ++ c ++ d ++ e ++ f
six a b c d e f = simp (append_assoc, append-nil)

no_rest : (rest : Text) → (length rest == 0) ≡ true → rest ≡ []
no_rest [] e = refl
no_rest (b ∷ bs) e = absurd (let none : length (b ∷ bs) ≡ 0 = eqb-true _ 0 e in omega arith)

pub lines_read : (text : Text) (v : Values) → lines_of text ≡ Some v → text ≡ values_text v
unfolding lines_of
lines_read text v e =
    let flags = bound (value_at (codes "flags ") text) _ v e in
    let local = bound (value_at (codes "local ") flags.0.1) _ v flags.2 in
    let host = bound (value_at (codes "host ") local.0.1) _ v local.2 in
    let owner = bound (value_at (codes "owner ") host.0.1) _ v host.2 in
    let prefix = bound (value_at (codes "prefix ") owner.0.1) _ v owner.2 in
    let max = bound (value_at (codes "max ") prefix.0.1) _ v prefix.2 in
    let end = tested (length max.0.1 == 0) _ v max.2 in
    let f = value_read (codes "max ") prefix.0.1 max.0.0 max.0.1 max.1 ∙ ap (λ r. line (codes "max ") max.0.0 ++ r) (no_rest max.0.1 end.0) in
    let p = value_read (codes "prefix ") owner.0.1 prefix.0.0 prefix.0.1 prefix.1 ∙ ap (λ r. line (codes "prefix ") prefix.0.0 ++ r) f in
    let o = value_read (codes "owner ") host.0.1 owner.0.0 owner.0.1 owner.1 ∙ ap (λ r. line (codes "owner ") owner.0.0 ++ r) p in
    let h = value_read (codes "host ") local.0.1 host.0.0 host.0.1 host.1 ∙ ap (λ r. line (codes "host ") host.0.0 ++ r) o in
    let l = value_read (codes "local ") flags.0.1 local.0.0 local.0.1 local.1 ∙ ap (λ r. line (codes "local ") local.0.0 ++ r) h in
    value_read (codes "flags ") text flags.0.0 flags.0.1 flags.1 ∙ ap (λ r. line (codes "flags ") flags.0.0 ++ r) l
    ∙ six (line (codes "flags ") flags.0.0) _ _ _ _ _ ∙ ap values_text end.1

pub lines_written : (v : Values) → AreLines v → lines_of (values_text v) ≡ Some v
unfolding lines_of
lines_written v are =
    let m = line (codes "max ") v.max ++ [] in
    let p = line (codes "prefix ") v.prefix ++ m in
    let o = line (codes "owner ") v.owner ++ p in
    let h = line (codes "host ") v.host ++ o in
    let l = line (codes "local ") v.local ++ h in
    ap lines_of (sym (six (line (codes "flags ") v.flags) _ _ _ _ _))
    ∙ (rw (
      value_written (codes "flags ") v.flags l are.flags,
      value_written (codes "local ") v.local h are.local,
      value_written (codes "host ") v.host o are.host,
      value_written (codes "owner ") v.owner p are.owner,
      value_written (codes "prefix ") v.prefix m are.prefix,
      value_written (codes "max ") v.max [] are.max,
    ) refl)

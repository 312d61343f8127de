-- Names in their order: by kind, and then by place.
use Rattle.std.proofs.Common.{◌≡◌, ◌⊎◌, inl, inr, ◌∙◌, ◌<◌, ◌≤◌, ◌==◌, ℕ, Bool, true, false, refl, sym, ap, subst, nat_lt, arith}
use Rattle.std.proofs.lemmas.Bool.{eqb-true, eqb-false, ltb-true, ltb-false}
use Rattle.std.specs.declared.cmp.Ordering.TheVariants.{Less, Equal, Greater}
use Rattle.std.specs.Cmp.{nat_cmp_is}
use Rattle.std.specs.Ordering.{nat_cmp, is_gt, ordering_then}
use Rattle.std.specs.BTreeMap.{BTreeMap, get}
use Rattle.std.specs.Prelude.{Option, Some, None, List, ◌∷◌, slice_get, IsSome, IfSome}
use Rattle.ml_base.specs.Absent.{NoEntryOf}
use Rattle.ml_base.specs.Name.{name_cmp}
use Rattle.ml_base.specs.declared.names.Name.{Name}

-- how two numbers compare, with what that says of them
compared : (x y : ℕ) → ((nat_cmp x y ≡ Less) × (x < y)) ⊎ (((nat_cmp x y ≡ Equal) × (x ≡ y)) ⊎ ((nat_cmp x y ≡ Greater) × (y < x)))
compared x y = go (nat_lt x y) refl
  where
    go : (t : Bool) → nat_lt x y ≡ t → ((nat_cmp x y ≡ Less) × (x < y)) ⊎ (((nat_cmp x y ≡ Equal) × (x ≡ y)) ⊎ ((nat_cmp x y ≡ Greater) × (y < x)))
    go true e = let less = ltb-true x y e in inl (sym (nat_cmp_is x y Less less), less)
    go false e = equal (x == y) refl
      where
        equal : (u : Bool) → (x == y) ≡ u → ((nat_cmp x y ≡ Less) × (x < y)) ⊎ (((nat_cmp x y ≡ Equal) × (x ≡ y)) ⊎ ((nat_cmp x y ≡ Greater) × (y < x)))
        equal true f = let same = eqb-true x y f in inr (inl (sym (nat_cmp_is x y Equal same), same))
        equal false f =
            let no_less = ltb-false x y e in
            let apart = eqb-false x y f in
            let more : y < x = omega (arith, no_less, apart) in
            inr (inr (sym (nat_cmp_is x y Greater more), more))

-- a name that doesn't come after another has a smaller kind, or the same kind and a place no further
pub up_to : (a b : Name) → is_gt (name_cmp a b) ≡ false → (a.kind < b.kind) ⊎ ((a.kind ≡ b.kind) × (a.at ≤ b.at))
up_to a b h = kinds (compared a.kind b.kind)
  where
    kinds : ((nat_cmp a.kind b.kind ≡ Less) × (a.kind < b.kind)) ⊎ (((nat_cmp a.kind b.kind ≡ Equal) × (a.kind ≡ b.kind)) ⊎ ((nat_cmp a.kind b.kind ≡ Greater) × (b.kind < a.kind)))
        → (a.kind < b.kind) ⊎ ((a.kind ≡ b.kind) × (a.at ≤ b.at))
    kinds (inl less) = inl less.1
    kinds (inr (inr more)) = absurd (let bad : true ≡ false = sym (ap (λ o. is_gt (ordering_then o (nat_cmp a.at b.at))) more.0) ∙ h in cc)
    kinds (inr (inl same)) = inr (same.1, places (compared a.at b.at))
      where
        places : ((nat_cmp a.at b.at ≡ Less) × (a.at < b.at)) ⊎ (((nat_cmp a.at b.at ≡ Equal) × (a.at ≡ b.at)) ⊎ ((nat_cmp a.at b.at ≡ Greater) × (b.at < a.at))) → a.at ≤ b.at
        places (inl less) = let l = less.1 in omega (arith, l)
        places (inr (inl equal)) = let l = equal.1 in omega (arith, l)
        places (inr (inr more)) =
            absurd (let bad : true ≡ false = sym (ap (λ o. is_gt (ordering_then o (nat_cmp a.at b.at))) same.0 ∙ ap is_gt more.0) ∙ h in cc)

-- of two names of a kind, the one whose place is no further doesn't come after the other
pub in_order : (kind from at : ℕ) → from ≤ at → is_gt (name_cmp (record { kind = kind; at = from }) (record { kind = kind; at = at })) ≡ false
in_order kind from at up = ap (λ o. is_gt (ordering_then o (nat_cmp from at))) (sym (nat_cmp_is kind kind Equal refl)) ∙ places (compared from at)
  where
    places : ((nat_cmp from at ≡ Less) × (from < at)) ⊎ (((nat_cmp from at ≡ Equal) × (from ≡ at)) ⊎ ((nat_cmp from at ≡ Greater) × (at < from))) → is_gt (nat_cmp from at) ≡ false
    places (inl less) = ap is_gt less.0
    places (inr (inl equal)) = ap is_gt equal.0
    places (inr (inr more)) = let l = more.1 in absurd (omega (arith, l, up))

-- a map has no name of a kind between a name and the first entry from that name on
pub none_before : {X : Type 0} (map : BTreeMap Name X) (kind from end : ℕ) (first : Name)
    → ((q : Name) → is_gt (name_cmp (record { kind = kind; at = from }) q) ≡ false → IsSome (get name_cmp map q) → is_gt (name_cmp first q) ≡ false)
    → is_gt (name_cmp (record { kind = kind; at = from }) first) ≡ false → (first.kind ≡ kind → end ≤ first.at) → NoEntryOf map kind from end
none_before {X} map kind from end first least onward last at up below = go (get name_cmp map (record { kind = kind; at = at })) refl
  where
    beyond : (first.kind < kind) ⊎ ((first.kind ≡ kind) × (first.at ≤ at)) → (kind < first.kind) ⊎ ((kind ≡ first.kind) × (from ≤ first.at)) → ⊥
    beyond (inl less) (inl more) = omega (arith, less, more)
    beyond (inl less) (inr same) = let k = same.0 in omega (arith, less, k)
    beyond (inr near) on = let l = last near.0 in let n = near.1 in omega (arith, l, n, below)

    go : (o : Option X) → get name_cmp map (record { kind = kind; at = at }) ≡ o → get name_cmp map (record { kind = kind; at = at }) ≡ None
    go None e = e
    go (Some x) e = absurd (beyond (up_to first (record { kind = kind; at = at }) (least (record { kind = kind; at = at }) (in_order kind from at up) (subst IsSome (sym e) refl))) (up_to (record { kind = kind; at = from }) first onward))

-- what holds of the first entry of a list
pub first_of : {X : Type 0} (r rest : List X) (e : X) (P : X → Type 0) → r ≡ e ∷ rest → IfSome (slice_get r 0) P → P e
first_of {X} r rest e P is first = subst (λ (r : List X). IfSome (slice_get r 0) P) is first

-- What values make is a configuration in its ranges, and that configuration's values make it again.
use Rattle.std.proofs.Common.{◌≡◌, ◌∙◌, ◌≤◌, ℕ, ◌&&◌, Bool, true, false, nat_le, cond, [], ◌∷◌, ◌++◌, length, Option, Some, None, is_ok, refl, sym, ap, ap₂, subst, arith}
use Rattle.std.proofs.lemmas.Bool.Decides.{nat_tests}
use Rattle.ml_base.specs.Bytes.{Text, lower}
use Rattle.ml_base.specs.Address.{address_check, address_of}
use Rattle.ml_base.specs.Own.{is_own}
use Rattle.ml_base.proofs.Bools.{both}
use Rattle.ml_base.proofs.Addresses.{address_kept, address_read}
use Rattle.std.proofs.lemmas.List.{length-map}
use Rattle.ml_config.specs.Configuration.{IsConfig, config_of, is_list, is_max, is_prefix, with_owner}
use Rattle.ml_config.specs.declared.configuration.Config.{Config}
use Rattle.ml_config.specs.declared.configuration.Flags.{Flags}
use Rattle.ml_config.proofs.Small.{all_and}
use Rattle.ml_config.proofs.ListAddress.{host_lower, is_ok_checks, list_kept}

at_most : (a b : ℕ) → nat_le a b ≡ true → a ≤ b
at_most a b e = grind (arith, nat_tests)

is_at_most : (a b : ℕ) → a ≤ b → nat_le a b ≡ true
is_at_most a b e = grind (arith, nat_tests)

-- an owner was found whose address is not the list's own
owned : (c d : Config) (owner : Option Text) → with_owner c owner ≡ Some d → (o : Text) × (owner ≡ Some o) × (is_own c.local c.host o ≡ false) × (record c { owner = o } ≡ d)
owned c d None e = absurd cc
owned c d (Some o) e = go (is_own c.local c.host o) refl e
  where
    go : (t : Bool) → is_own c.local c.host o ≡ t → cond t None (Some (record c { owner = o })) ≡ Some d
        → (o' : Text) × (Some o ≡ Some o') × (is_own c.local c.host o' ≡ false) × (record c { owner = o' } ≡ d)
    go true is f = absurd cc
    go false is f = (o, refl, is, cc)

pub config_made : (flags : Flags) (local host owner prefix : Text) (max : ℕ) (c : Config) → config_of flags local host owner prefix max ≡ Some c → IsConfig c
config_made flags local host owner prefix max c e = go (is_list local host && is_prefix flags.f prefix && is_max max) refl e
  where
    base : Config
    base = record { flags = flags; local = local; host = lower host; owner = []; prefix = prefix; max = max }

    go : (t : Bool) → (is_list local host && is_prefix flags.f prefix && is_max max) ≡ t → cond t (with_owner base (address_of owner)) None ≡ Some c → IsConfig c
    go false is f = absurd cc
    go true is f =
        let tests = both (is_list local host && is_prefix flags.f prefix) (is_max max) is in
        let lists = both (is_list local host) (is_prefix flags.f prefix) tests.0 in
        let sizes = both (nat_le (length local) 60 && nat_le (length host) 255) (is_ok (address_check (local ++ 64 ∷ host))) lists.0 in
        let each = both (nat_le (length local) 60) (nat_le (length host) 255) sizes.0 in
        let who = owned base c (address_of owner) f in
        let lowered : length (lower host) ≡ length host = length-map host _ in
        let short : length host ≤ 255 = at_most _ _ each.1 in
        subst IsConfig who.3 (record {
          local = at_most _ _ each.0;
          host = subst (λ n. n ≤ 255) (sym lowered) short;
          list = list_kept local host (is_ok_checks _ sizes.1);
          owner = address_read owner who.0 who.1;
          foreign = who.2;
          prefix = lists.1;
          max = tests.1;
        })

pub config_again : (c : Config) → IsConfig c → config_of c.flags c.local c.host c.owner c.prefix c.max ≡ Some c
config_again c is =
    let list : is_list c.local c.host ≡ true =
    all_and _ _ (all_and _ _ (is_at_most _ _ is.local) (is_at_most _ _ is.host)) (ap is_ok is.list.checks) in
    let tests : (is_list c.local c.host && is_prefix c.flags.f c.prefix && is_max c.max) ≡ true = all_and _ _ (all_and _ _ list is.prefix) is.max in
    let kept : lower c.host ≡ c.host = host_lower c.local c.host is.list in
    ap (λ t. cond t (with_owner (record { flags = c.flags; local = c.local; host = lower c.host; owner = []; prefix = c.prefix; max = c.max }) (address_of c.owner)) None) tests
    ∙ ap₂ (λ h o. with_owner (record { flags = c.flags; local = c.local; host = h; owner = []; prefix = c.prefix; max = c.max }) o) kept (address_kept c.owner is.owner)
    ∙ ap (λ t. cond t None (Some c)) is.foreign

-- the configuration has the values that it was made of, except for the case of its hosts
pub config_parts : (flags : Flags) (local host owner prefix : Text) (max : ℕ) (c : Config) → config_of flags local host owner prefix max ≡ Some c
    → (c.flags ≡ flags) × (c.local ≡ local) × (c.prefix ≡ prefix) × (c.max ≡ max)
config_parts flags local host owner prefix max c e = go (is_list local host && is_prefix flags.f prefix && is_max max) e
  where
    base : Config
    base = record { flags = flags; local = local; host = lower host; owner = []; prefix = prefix; max = max }

    go : (t : Bool) → cond t (with_owner base (address_of owner)) None ≡ Some c → (c.flags ≡ flags) × (c.local ≡ local) × (c.prefix ≡ prefix) × (c.max ≡ max)
    go false f = absurd cc
    go true f =
        let who = owned base c (address_of owner) f in
        let made = sym who.3 in
        (ap (λ (x : Config). x.flags) made, ap (λ (x : Config). x.local) made, ap (λ (x : Config). x.prefix) made, ap (λ (x : Config). x.max) made)

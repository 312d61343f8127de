-- No value of a configuration has an LF.
use Rattle.std.proofs.Common.{◌≡◌, ◌∙◌, ◌<◌, ◌^◌, ℕ, ◌-◌, ◌&&◌, ◌||◌, ◌==◌, Bool, true, false, not, nat_lt, map, List, [], ◌∷◌, ◌++◌, length, Option, Some, None, Ok, Err, refl, sym, ap, ap₂, arith}
use Rattle.std.proofs.lemmas.Bool.Decides.{nat_tests}
use Rattle.std.specs.List.{list_all}
use Rattle.std.specs.Fmt.{decimal}
use Rattle.std.specs.Char.{is_ascii_digit}
use Rattle.std.specs.Str.{all_ascii_digits}
use Rattle.ml_base.specs.Bytes.{Text, is_empty, split_last}
use Rattle.ml_base.specs.Address.{IsAddress, check_parts, is_host_byte, is_local_byte}
use Rattle.ml_base.specs.Splits.{has_byte}
use Rattle.ml_base.specs.declared.address.AddressFault.TheVariants.{NoAt}
use Rattle.ml_base.proofs.Bools.{both, neither}
use Rattle.ml_base.proofs.NumberLaws.{all_digits}
use Rattle.ml_base.proofs.SplitLaws.{last_read, has_lf}
use Rattle.ml_config.specs.Configuration.{IsConfig, is_max, is_prefix, is_prefix_byte, is_prefix_text}
use Rattle.ml_config.specs.ConfigFile.{Values, flags_text, letter, values_of}
use Rattle.ml_config.specs.declared.configuration.Config.{Config}
use Rattle.ml_config.specs.declared.configuration.Flags.{Flags}
use Rattle.ml_config.proofs.ListAddress.{Checked, has_append, lacks, not_long, parts_ok}

local_lf : (b : ℕ) → is_local_byte b ≡ true → (b == 10) ≡ false
local_lf b h = grind (arith, nat_tests)

host_lf : (b : ℕ) → is_host_byte b ≡ true → (b == 10) ≡ false
host_lf b h = grind (arith, nat_tests)

prefix_lf : (b : ℕ) → is_prefix_byte b ≡ true → (b == 10) ≡ false
prefix_lf b h = grind (arith, nat_tests)

digit_lf : (b : ℕ) → is_ascii_digit b ≡ true → (b == 10) ≡ false
digit_lf b h = grind (arith, nat_tests)

pub address_one_line : (text : Text) → IsAddress text → has_lf text ≡ false
address_one_line text is = go (split_last 64 text) refl (not_long (nat_lt 400 (length text)) _ is.checks)
  where
    go : (o : Option (Text × Text)) → split_last 64 text ≡ o → check_parts o ≡ Ok tt → has_lf text ≡ false
    go None e f = absurd (let bad : ◌≡◌ {A = Checked} (Err NoAt) (Ok tt) = f in cc)
    go (Some p) e f =
        let bytes = parts_ok p.0 p.1 f in
        ap has_lf (last_read 64 text p.0 p.1 e).0 ∙ has_append 10 p.0 (64 ∷ p.1)
        ∙ ap₂ (λ a b. a || b) (lacks is_local_byte 10 local_lf p.0 bytes.0) (lacks is_host_byte 10 host_lf p.1 bytes.1)

prefix_text : (text : Text) → is_prefix_text text ≡ true → has_lf text ≡ false
prefix_text text e =
    let a = both _ _ e in
    let b = both _ _ a.0 in
    let d = both _ (list_all is_prefix_byte text) b.0 in
    lacks is_prefix_byte 10 prefix_lf text d.1

no_text : (marks : Bool) (text : Text) → (not marks && is_empty text) ≡ true → has_lf text ≡ false
no_text marks [] e = refl
no_text true (b ∷ bs) e = absurd cc
no_text false (b ∷ bs) e = absurd cc

prefix_one_line : (marks : Bool) (text : Text) → is_prefix marks text ≡ true → has_lf text ≡ false
prefix_one_line marks text e = go (is_prefix_text text) refl e
  where
    go : (t : Bool) → is_prefix_text text ≡ t → (t || (not marks && is_empty text)) ≡ true → has_lf text ≡ false
    go true is f = prefix_text text is
    go false is f = no_text marks text f

pub small : (n : ℕ) → is_max n ≡ true → n < 2 ^ 64
small n e = grind (arith, nat_tests)

negated : (t : Bool) → not t ≡ true → t ≡ false
negated true e = absurd cc
negated false e = refl

one_letter : (l : ℕ) (set : Bool) → (not (l == 10) && not (l - 32 == 10)) ≡ true → (letter l set == 10) ≡ false
one_letter l true e = negated _ (both (not (l == 10)) _ e).0
one_letter l false e = negated _ (both (not (l == 10)) (not (l - 32 == 10)) e).1

letters_one_line : (ls : List (ℕ × Bool)) → list_all (λ p. not (p.0 == 10) && not (p.0 - 32 == 10)) ls ≡ true → has_lf (map (λ p. letter p.0 p.1) ls) ≡ false
letters_one_line [] e = refl
letters_one_line (p ∷ ls) e =
    let parts = both (not (p.0 == 10) && not (p.0 - 32 == 10)) _ e in
    ap₂ (λ a b. a || b) (one_letter p.0 p.1 parts.0) (letters_one_line ls parts.1)

flags_one_line : (f : Flags) → has_lf (flags_text f) ≡ false
flags_one_line f = letters_one_line (
    (98, f.b) ∷ (100, f.d) ∷ (102, f.f) ∷ (103, f.g) ∷ (104, f.h) ∷ (106, f.j) ∷ (107, f.k) ∷ (108, f.l) ∷ (109, f.m) ∷ (112, f.p)
    ∷ (114, f.r) ∷ (115, f.s) ∷ (116, f.t) ∷ (117, f.u) ∷ []
    ) refl

digits_one_line : (ds : Text) → all_ascii_digits ds ≡ true → has_lf ds ≡ false
digits_one_line [] e = refl
digits_one_line (d ∷ ds) e =
    let parts = both (is_ascii_digit d) (all_ascii_digits ds) e in
    ap₂ (λ a b. a || b) (digit_lf d parts.0) (digits_one_line ds parts.1)

-- none of the values has an LF
pub record AreLines (v : Values) : Type 0 where
  pub flags : has_byte 10 v.flags ≡ false
  pub local : has_byte 10 v.local ≡ false
  pub host : has_byte 10 v.host ≡ false
  pub owner : has_byte 10 v.owner ≡ false
  pub prefix : has_byte 10 v.prefix ≡ false
  pub max : has_byte 10 v.max ≡ false

pub values_one_line : (c : Config) → IsConfig c → AreLines (values_of c)
values_one_line c is =
    let list = address_one_line (c.local ++ 64 ∷ c.host) is.list in
    let parts = neither (has_lf c.local) (has_lf c.host) (sym (has_append 10 c.local (64 ∷ c.host)) ∙ list) in
    record {
      flags = flags_one_line c.flags;
      local = parts.0;
      host = parts.1;
      owner = address_one_line c.owner is.owner;
      prefix = prefix_one_line c.flags.f c.prefix is.prefix;
      max = digits_one_line (decimal c.max) (all_digits c.max (small c.max is.max));
    }

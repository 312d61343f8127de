-- A configuration is read from the values that spell it, and from no others.
use Rattle.std.proofs.Common.{◌≡◌, ◌∙◌, ◌≤◌, ◌<◌, ℕ, true, ◌&&◌, [], ◌∷◌, length, Option, Some, refl, sym, ap, arith, slice_index}
use Rattle.std.proofs.lemmas.Bool.Decides.{nat_tests}
use Rattle.std.proofs.lemmas.Slice.Eq.{bytes_eq-Decides}
use Rattle.std.specs.Fmt.{decimal}
use Rattle.std.specs.Str.{bytes_eq}
use Rattle.ml_base.specs.Bytes.{Text}
use Rattle.ml_base.specs.Numbers.{number_of}
use Rattle.ml_base.proofs.NumberLaws.{number_read, number_spelled}
use Rattle.ml_config.specs.Configuration.{IsConfig, config_of, is_max}
use Rattle.ml_config.specs.ConfigFile.{Spells, Values, flags_text, values_of, values_text}
use Rattle.ml_config.specs.Reading.{lines_of}
use Rattle.ml_config.specs.declared.configuration.Config.{Config}
use Rattle.ml_config.specs.declared.configuration.Flags.{Flags}
use Rattle.ml_config.proofs.Small.{all_and}
use Rattle.ml_config.proofs.Checked.{config_again, config_made, config_parts}
use Rattle.ml_config.proofs.Clean.{values_one_line}
use Rattle.ml_config.proofs.LineLemmas.{lines_read, lines_written}

-- a text of fourteen bytes consists of these
pub fourteen : (text : Text) → 14 ≤ length text → length text < 15
    → text ≡ slice_index text 0 ∷ slice_index text 1 ∷ slice_index text 2 ∷ slice_index text 3 ∷ slice_index text 4 ∷ slice_index text 5 ∷ slice_index text 6
    ∷ slice_index text 7 ∷ slice_index text 8 ∷ slice_index text 9 ∷ slice_index text 10 ∷ slice_index text 11 ∷ slice_index text 12 ∷ slice_index text 13 ∷ []
fourteen (b ∷ d ∷ f ∷ g ∷ h ∷ j ∷ k ∷ l ∷ m ∷ p ∷ r ∷ s ∷ t ∷ u ∷ []) low high = refl
fourteen _ low high = absurd (omega arith)

few : (n : ℕ) → is_max n ≡ true → n ≤ 999_999_999_999_999_999
few n e = grind (arith, nat_tests)

pub max_read : (c : Config) (text : Text) → IsConfig c → text ≡ decimal c.max → number_of text ≡ Some c.max
max_read c text is e = ap number_of e ∙ number_read 999_999_999_999_999_999 c.max (omega arith) (few c.max is.max)

pub read_again : (v : Values) (c : Config) (flags : Flags) (max : ℕ) → IsConfig c → v ≡ values_of c → flags ≡ c.flags → max ≡ c.max
    → config_of flags v.local v.host v.owner v.prefix max ≡ Some c
read_again v c flags max is e f m = (λ i. config_of (f i) (e i).local (e i).host (e i).owner (e i).prefix (m i)) ∙ config_again c is

pub made_spelled : (v : Values) (c : Config) (flags : Flags) (max : ℕ) → config_of flags v.local v.host v.owner v.prefix max ≡ Some c → v.flags ≡ flags_text flags
    → number_of v.max ≡ Some max → bytes_eq c.host v.host ≡ true → bytes_eq c.owner v.owner ≡ true → IsConfig c × (v ≡ values_of c)
made_spelled v c flags max made f m host owner =
    let parts = config_parts flags v.local v.host v.owner v.prefix max c made in
    let number = (number_spelled 999_999_999_999_999_999 v.max max (omega arith) m).1 in
    let host_is : c.host ≡ v.host = (bytes_eq-Decides _ _).0 host in
    let owner_is : c.owner ≡ v.owner = (bytes_eq-Decides _ _).0 owner in
    let flags_are : v.flags ≡ flags_text c.flags = f ∙ ap flags_text (sym parts.0) in
    let max_is : v.max ≡ decimal c.max = number ∙ ap decimal (sym parts.3) in (
      config_made flags v.local v.host v.owner v.prefix max c made,
      λ i. record { flags = flags_are i; local = sym parts.1 i; host = sym host_is i; owner = sym owner_is i; prefix = sym parts.2 i; max = max_is i },
    )

-- the lines of the bytes that spell a configuration have its values
pub spelled_lines : (bytes : Text) (c : Config) → Spells bytes c → lines_of bytes ≡ Some (values_of c)
spelled_lines bytes c spells = ap lines_of spells.text ∙ lines_written (values_of c) (values_one_line c spells.is)

pub spelled_by : (bytes : Text) (v : Values) (c : Config) → lines_of bytes ≡ Some v → IsConfig c → v ≡ values_of c → Spells bytes c
spelled_by bytes v c lines is e = record { is = is; text = lines_read bytes v lines ∙ ap values_text e }

-- the configuration that values spell has these values as they are
pub kept : (v : Values) (c d : Config) → v ≡ values_of d → Some c ≡ Some d → (bytes_eq c.host v.host && bytes_eq c.owner v.owner) ≡ true
kept v c d e same =
    let one : c ≡ d = cc in
    all_and _ _ ((bytes_eq-Decides _ _).1 (ap (λ (x : Config). x.host) one ∙ sym (ap (λ (x : Values). x.host) e)))
    ((bytes_eq-Decides _ _).1 (ap (λ (x : Config). x.owner) one ∙ sym (ap (λ (x : Values). x.owner) e)))

-- what is made of values is the configuration that they spell
pub made_again : (v : Values) (d : Config) (flags : Flags) (max : ℕ) (prefix : Text) (made : Option Config) → made ≡ config_of flags v.local v.host v.owner prefix max → prefix ≡ v.prefix
    → IsConfig d → v ≡ values_of d → Some flags ≡ Some d.flags → Some max ≡ Some d.max → made ≡ Some d
made_again v d flags max prefix made is same range e f m =
    let flags_are : flags ≡ d.flags = cc in
    let max_is : max ≡ d.max = cc in
    is ∙ ap (λ p. config_of flags v.local v.host v.owner p max) same ∙ read_again v d flags max range e flags_are max_is

-- Configurations: which values they may have, and which one some values make.
use Rattle.std.specs.Prelude.{◌≡◌, ◌≤◌, ℕ, ◌-◌, Bool, false, not, ◌&&◌, ◌||◌, ◌==◌, nat_le, IsTrue, is_ok, if◌then◌else◌, [], ◌∷◌, ◌++◌, length, slice_index, Option, Some, None}
use Rattle.std.specs.List.{list_all}
use Rattle.ml_base.specs.Bytes.{Text, lower, is_empty, at_sign, space}
use Rattle.ml_base.specs.Address.{IsAddress, address_check, address_of}
use Rattle.ml_base.specs.Own.{is_own}
use Rattle.ml_config.specs.declared.configuration.Config.{Config}
use Rattle.ml_config.specs.declared.configuration.Flags.{Flags}

-- 33 to 126, or a space
abbrev pub is_prefix_byte : ℕ → Bool
is_prefix_byte b = nat_le 32 b && nat_le b 126

-- a text that may be the prefix of subjects: 1 to 62 bytes, each 33 to 126 or a space, with no space at either end
abbrev pub is_prefix_text : Text → Bool
is_prefix_text text =
    nat_le 1 (length text) && nat_le (length text) 62 && list_all is_prefix_byte text
    && not (slice_index text 0 == space) && not (slice_index text (length text - 1) == space)

-- the prefix of a list that marks subjects, or doesn't: such a text, or nothing if subjects aren't marked
abbrev pub is_prefix : Bool → Text → Bool
is_prefix marks text = is_prefix_text text || (not marks && is_empty text)

-- the most bytes that a post may have: 1 to 16,777,216
abbrev pub is_max : ℕ → Bool
is_max n = nat_le 1 n && nat_le n 16_777_216

-- a local part of at most 60 bytes and a host of at most 255 that make an address
abbrev pub is_list : Text → Text → Bool
is_list local host = nat_le (length local) 60 && nat_le (length host) 255 && is_ok (address_check (local ++ at_sign ∷ host))

-- a configuration whose values are in their ranges: LOCAL@HOST and the owner are addresses, their hosts are in lower
-- case, and the owner's is not one of the list's own addresses
pub record IsConfig (c : Config) : Type 0 where
  pub local : length c.local ≤ 60
  pub host : length c.host ≤ 255
  pub list : IsAddress (c.local ++ at_sign ∷ c.host)
  pub owner : IsAddress c.owner
  pub foreign : is_own c.local c.host c.owner ≡ false
  pub prefix : IsTrue (is_prefix c.flags.f c.prefix)
  pub max : IsTrue (is_max c.max)

-- the configuration with an owner, unless the owner's address is one of the list's own
abbrev pub with_owner : Config → Option Text → Option Config
with_owner c None = None
with_owner c (Some owner) = if is_own c.local c.host owner then None else Some (record c { owner = owner })

-- the configuration that these values make, hosts in lower case, or None if a value is out of its range
abbrev pub config_of : Flags → Text → Text → Text → Text → ℕ → Option Config
config_of flags local host owner prefix max =
    if is_list local host && is_prefix flags.f prefix && is_max max
    then with_owner (record { flags = flags; local = local; host = lower host; owner = []; prefix = prefix; max = max }) (address_of owner)
    else None

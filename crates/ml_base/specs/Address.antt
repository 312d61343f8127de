-- Addresses: a local part, `@` and a host. When a text is one, how it is kept, and its key.
use Rattle.std.specs.Prelude.{◌≡◌, ◌<◌, ◌+◌, ◌++◌, take, drop, is_ok, ℕ, Bool, not, ◌&&◌, ◌||◌, ◌==◌, nat_lt, nat_le, [], ◌∷◌, length, Option, Some, None, Result, Ok, Err, if◌then◌else◌}
use Rattle.std.specs.List.{list_all}
use Rattle.std.specs.Char.{is_ascii_alphabetic, is_ascii_digit}
use Rattle.ml_base.specs.Bytes.{Text, lower, is_empty, split_last, at_sign, hyphen}
use Rattle.ml_base.specs.declared.address.AddressFault.{AddressFault}
use Rattle.ml_base.specs.declared.address.AddressFault.TheVariants.{TooLong, NoAt, EmptyPart, BadByte}
use Rattle.ml_base.specs.declared.address.AddressError.{AddressError}
use Rattle.ml_base.specs.declared.address.AddressError.TheVariants as errors

-- the key of an address: two addresses are one subscriber exactly if their keys are equal
abbrev pub key : Text → Text
key address = lower address

-- 33 to 126, without `@`
abbrev pub is_local_byte : ℕ → Bool
is_local_byte b = nat_le 33 b && nat_le b 126 && not (b == at_sign)

-- a letter, a digit, `-`, `_` or `.`
abbrev pub is_host_byte : ℕ → Bool
is_host_byte b = is_ascii_alphabetic b || is_ascii_digit b || b == hyphen || b == 95 || b == 46

abbrev pub check_bytes : Text → Text → Result (Unit {0}) AddressFault
check_bytes local host = if list_all is_local_byte local && list_all is_host_byte host then Ok tt else Err BadByte

abbrev pub check_parts : Option (Text × Text) → Result (Unit {0}) AddressFault
check_parts None = Err NoAt
check_parts (Some parts) = if is_empty parts.0 || is_empty parts.1 then Err EmptyPart else check_bytes parts.0 parts.1

-- whether two parts make an address with an `@` between them, tested on the parts alone
abbrev pub are_parts : Text → Text → Bool
are_parts local host = nat_lt (length local + length host) 400 && not (is_empty local || is_empty host) && list_all is_local_byte local && list_all is_host_byte host

-- whether a text, split at its last `@`, is an address; if not, the first of the four faults that it has
abbrev pub address_check : Text → Result (Unit {0}) AddressFault
address_check text = if nat_lt 400 (length text) then Err TooLong else check_parts (split_last at_sign text)

-- whether two parts make an address with an `@` between them
abbrev pub make_address : Text → Text → Bool
make_address local host = is_ok (address_check (local ++ at_sign ∷ host))

-- the part before the last `@`
abbrev pub before_at : Option (Text × Text) → Text
before_at None = []
before_at (Some parts) = parts.0

-- the part after the last `@`
abbrev pub past_at : Option (Text × Text) → Text
past_at None = []
past_at (Some parts) = parts.1

abbrev pub local_of : Text → Text
local_of address = before_at (split_last at_sign address)

abbrev pub host_of : Text → Text
host_of address = past_at (split_last at_sign address)

-- the spelling that is kept: the host in lower case
abbrev pub as_address : Text → Text
as_address text = local_of text ++ at_sign ∷ lower (host_of text)

-- the address that a text spells, as it is kept
abbrev pub address_of : Text → Option Text
address_of text = if is_ok (address_check text) then Some (as_address text) else None

-- an address, spelled as it is kept
pub record IsAddress (address : Text) : Type 0 where
  pub checks : address_check address ≡ Ok tt
  pub kept : as_address address ≡ address

-- the error is the text's fault, unless it is lack of memory
abbrev pub IsFaultOf : AddressError → Text → Type 0
IsFaultOf (errors.Fault fault) text = address_check text ≡ Err fault
IsFaultOf errors.Memory text = Unit {0}

-- an address, with the place of its last `@`
pub record IsAddressAt (address : Text) (at : ℕ) : Type 0 where
  pub is : IsAddress address
  pub within : at < length address
  pub parts : split_last at_sign address ≡ Some (take at address, drop (at + 1) address)

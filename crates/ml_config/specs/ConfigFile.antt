-- The file of the configuration: a line for each value.
use Rattle.std.specs.Prelude.{◌≡◌, ◌≢◌, ℕ, ◌-◌, Bool, if◌then◌else◌, [], ◌∷◌, ◌++◌, codes, Option, Some, None}
use Rattle.std.specs.Fmt.{decimal}
use Rattle.ml_base.specs.Bytes.{Text, line_feed}
use Rattle.ml_base.specs.declared.names.Name.{Name}
use Rattle.ml_config.specs.Configuration.{IsConfig}
use Rattle.ml_config.specs.declared.configuration.Config.{Config}
use Rattle.ml_config.specs.declared.configuration.Flags.{Flags}
pub use Rattle.ml_base.specs.Kinds.{config_name}

-- the letter of an option: in lower case if it is set, and in upper case if it is clear
abbrev pub letter : ℕ → Bool → ℕ
letter lower set = if set then lower else lower - 32

-- the letters of all options
abbrev pub flags_text : Flags → Text
flags_text f =
    letter 98 f.b ∷ letter 100 f.d ∷ letter 102 f.f ∷ letter 103 f.g ∷ letter 104 f.h ∷ letter 106 f.j ∷ letter 107 f.k
    ∷ letter 108 f.l ∷ letter 109 f.m ∷ letter 112 f.p ∷ letter 114 f.r ∷ letter 115 f.s ∷ letter 116 f.t ∷ letter 117 f.u ∷ []

-- the six values of a configuration, as they are spelled
pub record Values : Type 0 where
  pub flags : Text
  pub local : Text
  pub host : Text
  pub owner : Text
  pub prefix : Text
  pub max : Text

-- the values of a configuration
abbrev pub values_of : Config → Values
values_of c = record { flags = flags_text c.flags; local = c.local; host = c.host; owner = c.owner; prefix = c.prefix; max = decimal c.max }

-- a name and its space, a value and an LF
abbrev pub line : Text → Text → Text
line name value = name ++ value ++ line_feed ∷ []

-- six lines, one for each value
abbrev pub values_text : Values → Text
values_text v =
    line (codes "flags ") v.flags ++ line (codes "local ") v.local ++ line (codes "host ") v.host
    ++ line (codes "owner ") v.owner ++ line (codes "prefix ") v.prefix ++ line (codes "max ") v.max

-- the bytes of a configuration's file
abbrev pub config_text : Config → Text
config_text c = values_text (values_of c)

-- a configuration in its ranges that these bytes spell
pub record Spells (bytes : Text) (c : Config) : Type 0 where
  pub is : IsConfig c
  pub text : bytes ≡ config_text c

-- a file that holds this configuration
pub record IsConfigFile (file : Option Text) (c : Config) : Type 0 where
  pub is : IsConfig c
  pub text : file ≡ Some (config_text c)

-- no configuration if the file is absent, and otherwise the one that it holds
abbrev pub IsLoaded : Option Text → Option Config → Type 0
IsLoaded file None = file ≡ None
IsLoaded file (Some c) = IsConfigFile file c

-- a file that is there and holds no configuration
pub record IsDamagedConfig (file : Option Text) : Type 0 where
  pub there : file ≢ None
  pub outside : (c : Config) → ¬ IsConfigFile file c

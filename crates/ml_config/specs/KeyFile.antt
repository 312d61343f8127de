-- The file of the keys: the key, and once it was replaced, the former key and the moment of the change.
use Rattle.std.specs.Prelude.{◌≡◌, [], ◌++◌, length, Option, Some, None, IfSome}
use Rattle.std.specs.Int.{to_be_bytes, w64}
use Rattle.ml_base.specs.Bytes.{Text}
use Rattle.ml_base.specs.Ranges.{IsMoment}
use Rattle.ml_base.specs.declared.names.Name.{Name}
use Rattle.ml_base.specs.declared.puts.Put.{Put}
use Rattle.ml_config.specs.declared.key_file.Former.{Former}
use Rattle.ml_config.specs.declared.key_file.Keys.{Keys}
pub use Rattle.ml_base.specs.Kinds.{key_name}

-- a former key of 32 bytes that was replaced at a moment, in seconds since 1970 and before the year 10000
pub record IsFormer (f : Former) : Type 0 where
  pub key : length f.key ≡ 32
  pub changed : IsMoment f.changed

-- a key of 32 bytes, and a former one if there is one
pub record AreKeys (keys : Keys) : Type 0 where
  pub key : length keys.key ≡ 32
  pub former : IfSome keys.former IsFormer

-- a former key, and the moment of its change as 8 bytes, most significant first
abbrev pub former_text : Option Former → Text
former_text None = []
former_text (Some f) = f.key ++ to_be_bytes w64 f.changed

-- the bytes of the keys' file
abbrev pub keys_text : Keys → Text
keys_text keys = keys.key ++ former_text keys.former

-- a file that holds these keys
pub record IsKeyFile (file : Option Text) (keys : Keys) : Type 0 where
  pub are : AreKeys keys
  pub text : file ≡ Some (keys_text keys)

-- the put after which the keys' file holds these
abbrev pub keys_put : Keys → Put
keys_put keys = record { name = key_name; bytes = Some (keys_text keys) }

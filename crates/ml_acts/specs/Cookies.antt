-- The cookies that a list's keys make, and where they are put in a path.
use Rattle.std.specs.Prelude.{ℕ, ◌++◌, codes}
use Rattle.ml_base.specs.Bytes.{Text}
use Rattle.ml_base.specs.Name.{set_word}
use Rattle.ml_base.specs.declared.names.Set.{Set}
use Rattle.ml_address.specs.Cookies.{cookie}
use Rattle.ml_address.specs.Requests.{set_front}
use Rattle.ml_address.specs.Writing.{ticket_text}
use Rattle.ml_config.specs.declared.key_file.Keys.{Keys}

-- the cookie that these keys make
abbrev pub cookie_of : Keys → Text → Set → ℕ → Text → Text
cookie_of keys kind set moment what = cookie keys.key kind (set_word set) moment what

-- what follows LOCAL and a hyphen in the path of a warning or of a probe with this cookie
abbrev pub bounce_base : Text → Set → ℕ → Text → Text
bounce_base kind set now cookie = set_front set ++ codes "return-" ++ kind ++ codes "-" ++ ticket_text now cookie ++ codes "-"

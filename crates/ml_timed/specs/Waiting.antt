-- Posts that are in no digest yet, by the entries of the indexes.
use Rattle.std.specs.Prelude.{ℕ, Bool, nat_lt, List, map, filter, find}
use Rattle.std.specs.List.{list_all}
use Rattle.std.specs.Option.{option_map_or}
use Rattle.ml_filing.specs.declared.posts.Entry.{Entry}

-- the sizes of the posts after a number
abbrev pub sizes_after : ℕ → List Entry → List ℕ
sizes_after last entries = map (λ e. e.size) (filter (λ e. nat_lt last e.number) entries)

-- the moment of the first of them, or 0
abbrev pub moment_after : ℕ → List Entry → ℕ
moment_after last entries = option_map_or (λ e. e.moment) (find (λ e. nat_lt last e.number) entries) 0

-- a size that a post may have, and entries of such sizes
abbrev pub is_short : ℕ → Bool
is_short size = nat_lt size 4_294_967_296

abbrev pub are_short : List Entry → Bool
are_short entries = list_all (λ e. is_short e.size) entries

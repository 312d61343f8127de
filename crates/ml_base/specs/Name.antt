-- Names of files: the table of kinds, their order and their paths.
use Rattle.std.specs.Prelude.{ℕ, ◌+◌, ◌/◌, ◌%◌, Bool, ◌&&◌, ◌||◌, ◌==◌, not, nat_le, if◌then◌else◌, [], ◌∷◌, ◌++◌, Option, Some, None, refl, codes}
use Rattle.std.specs.declared.cmp.Ordering.{Ordering}
use Rattle.std.specs.Ordering.{nat_cmp, ordering_then}
use Rattle.std.specs.Coded.{Coded, code_by, coded×, coded_ℕ}
use Rattle.std.specs.Fmt.{decimal}
use Rattle.std.specs.Str.{bytes_eq}
use Rattle.ml_base.specs.Bytes.{Text}
use Rattle.ml_base.specs.declared.names.Name.{Name}
use Rattle.ml_base.specs.declared.names.Set.{Set}
use Rattle.ml_base.specs.declared.names.Set.TheVariants as sets

-- by kind, and then by place
abbrev pub name_cmp : Name → Name → Ordering
name_cmp a b = ordering_then (nat_cmp a.kind b.kind) (nat_cmp a.at b.at)

-- the place of a set in the order list, digest, allow, deny, mod
abbrev pub set_number : Set → ℕ
set_number sets.List = 0
set_number sets.Digest = 1
set_number sets.Allow = 2
set_number sets.Deny = 3
set_number sets.Moderators = 4

-- the kind of the files that hold a set
abbrev pub set_kind : Set → ℕ
set_kind set = 3 + set_number set

-- the word of a set
abbrev pub set_word : Set → Text
set_word sets.List = codes "list"
set_word sets.Digest = codes "digest"
set_word sets.Allow = codes "allow"
set_word sets.Deny = codes "deny"
set_word sets.Moderators = codes "mod"

-- the set of a word
abbrev pub set_of : Text → Option Set
set_of word =
    if bytes_eq word (codes "list") then Some sets.List
    else (if bytes_eq word (codes "digest") then Some sets.Digest
    else (if bytes_eq word (codes "allow") then Some sets.Allow
    else (if bytes_eq word (codes "deny") then Some sets.Deny
    else (if bytes_eq word (codes "mod") then Some sets.Moderators else None))))

-- the kinds with 53 buckets: those of the five sets and of the two ledgers
abbrev pub is_bucket_kind : ℕ → Bool
is_bucket_kind kind = (nat_le 3 kind && nat_le kind 7) || (nat_le 15 kind && nat_le kind 16)

-- the first place of a kind: 1 for posts, held posts and queue entries, 0 for others
abbrev pub first_place : ℕ → ℕ
first_place kind = if kind == 9 || kind == 13 || kind == 17 then 1 else 0

-- the last place of a kind
abbrev pub last_place : ℕ → ℕ
last_place kind =
    if is_bucket_kind kind then 52
    else (if kind == 8 then 4
    else (if kind == 9 then 99_999_999
    else (if kind == 10 then 999_999
    else (if kind == 13 || kind == 17 then 1_000_000_000_000_000
    else (if kind == 19 then 1_953_124_999
    else (if kind == 20 then 255 else 0))))))

-- a name that stands in the table: kinds 0 to 21, each with its places
abbrev pub is_in_table : Name → Bool
is_in_table name = nat_le name.kind 21 && nat_le (first_place name.kind) name.at && nat_le name.at (last_place name.kind)

-- a name of the table other than the log's
abbrev pub is_file : Name → Bool
is_file name = is_in_table name && not (name.kind == 0)

-- the name of this kind and place, if it is one of the table other than the log's
abbrev pub file_named : ℕ → ℕ → Option Name
file_named kind at = if is_file (record { kind = kind; at = at }) then Some (record { kind = kind; at = at }) else None

-- two digits
abbrev pub two_digits : ℕ → Text
two_digits n = (48 + n / 10) ∷ (48 + n % 10) ∷ []

-- three digits
abbrev pub three_digits : ℕ → Text
three_digits n = (48 + n / 100) ∷ two_digits (n % 100)

-- the word of the set that has this number
abbrev pub count_word : ℕ → Text
count_word at =
    if at == 0 then codes "list" else (if at == 1 then codes "digest" else (if at == 2 then codes "allow" else (if at == 3 then codes "deny" else codes "mod")))

-- the path of a kind whose one file has a name of its own
abbrev pub single_path : ℕ → Text
single_path kind =
    if kind == 0 then codes "log"
    else (if kind == 1 then codes "config"
    else (if kind == 2 then codes "key"
    else (if kind == 11 then codes "num"
    else (if kind == 12 then codes "dig"
    else (if kind == 14 then codes "tickets"
    else (if kind == 18 then codes "ids" else codes "floor"))))))

-- the folder of a kind whose files are named by their places, with its slash
abbrev pub folder_of : ℕ → Text
folder_of kind =
    if kind == 3 then codes "subscribers/"
    else (if kind == 4 then codes "digest/subscribers/"
    else (if kind == 5 then codes "allow/subscribers/"
    else (if kind == 6 then codes "deny/subscribers/"
    else (if kind == 7 then codes "mod/subscribers/"
    else (if kind == 8 then codes "counts/"
    else (if kind == 9 || kind == 10 then codes "archive/"
    else (if kind == 13 then codes "pending/"
    else (if kind == 15 then codes "bounce/"
    else (if kind == 16 then codes "digest/bounce/"
    else (if kind == 17 then codes "queue/"
    else (if kind == 19 then codes "done/"
    else (if kind == 20 then codes "archive/threads/" else []))))))))))))

-- the rest of the path after the folder
abbrev pub leaf_of : ℕ → ℕ → Text
leaf_of kind at =
    if is_bucket_kind kind then (64 + at) ∷ []
    else (if kind == 8 then count_word at
    else (if kind == 9 then decimal (at / 100) ++ 47 ∷ two_digits (at % 100)
    else (if kind == 10 then decimal at ++ codes "/index"
    else (if kind == 13 || kind == 17 || kind == 19 then decimal at
    else (if kind == 20 then three_digits at else single_path kind)))))

-- the path of a file below the list's folder
abbrev pub path_of : Name → Text
path_of name = folder_of name.kind ++ leaf_of name.kind name.at

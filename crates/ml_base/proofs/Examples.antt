-- Worked examples.
use Rattle.std.proofs.Common.{◌≡◌, ℕ, ◌-◌, ◌%◌, ◌^◌, true, false, List, [], ◌∷◌, ◌++◌, Some, None, Ok, Err, refl, codes, replicate, lit≤}
use Rattle.std.specs.Ordering.{nat_cmp}
use Rattle.std.specs.Fmt.{digits}
use Rattle.ml_base.specs.Address.{address_check, address_of, local_of, host_of, key, make_address}
use Rattle.ml_base.specs.Numbers.{number_of, number_within}
use Rattle.ml_base.specs.Netstrings.{netstring_at, ns}
use Rattle.ml_base.specs.Name.{set_word, set_of, set_kind, path_of, is_in_table, is_file}
use Rattle.ml_base.specs.Bytes.{split_last}
use Rattle.ml_base.specs.Dir.{Dir, with_file, with_puts, touches, are_files, newest_put}
use Rattle.ml_base.specs.Faults.{Rose}
use Rattle.ml_base.specs.Hash.{hash_of}
use Rattle.ml_base.specs.Keys.{is_below}
use Rattle.ml_base.specs.Laying.{laid_in, are_distinct}
use Rattle.ml_base.specs.Own.{is_own}
use Rattle.ml_base.specs.Ranges.{is_moment}
use Rattle.ml_base.specs.Sorted.{byte_cmp, entry_of, is_sorted, with_entry, without_key}
use Rattle.ml_base.specs.Splits.{split_first, lines, nul_row, ns_row}
use Rattle.ml_base.specs.declared.names.Name.{Name}
use Rattle.ml_base.specs.declared.puts.Put.{Put}
use Rattle.ml_base.specs.declared.names.Set.TheVariants as sets
use Rattle.ml_base.specs.declared.address.AddressFault.TheVariants.{TooLong, NoAt, EmptyPart, BadByte}

-- addresses

good : address_check (codes "list-owner+x@sub_1.ex-2.org") ≡ Ok tt
good = refl

two_signs : address_check (codes "a@b@c.org") ≡ Err BadByte
two_signs = refl

no_sign : address_check (codes "ab") ≡ Err NoAt
no_sign = refl

nothing : address_check [] ≡ Err NoAt
nothing = refl

no_local : address_check (codes "@b") ≡ Err EmptyPart
no_local = refl

no_host : address_check (codes "a@") ≡ Err EmptyPart
no_host = refl

-- the last `@` parts a text, so this one's host is empty
signs_at_both_ends : address_check (codes "@b@") ≡ Err EmptyPart
signs_at_both_ends = refl

longest : address_check (replicate 398 97 ++ codes "@b") ≡ Ok tt
longest = refl

too_long : address_check (replicate 399 97 ++ codes "@b") ≡ Err TooLong
too_long = refl

-- length is looked at first, an `@` next, then empty parts, and bytes last
long_without_sign : address_check (replicate 401 97) ≡ Err TooLong
long_without_sign = refl

not_long_without_sign : address_check (replicate 400 97) ≡ Err NoAt
not_long_without_sign = refl

bad_without_host : address_check (codes "a b@") ≡ Err EmptyPart
bad_without_host = refl

space : address_check (codes "a b@c.org") ≡ Err BadByte
space = refl

byte_127 : address_check (97 ∷ 127 ∷ 64 ∷ 98 ∷ []) ≡ Err BadByte
byte_127 = refl

byte_33_and_126 : address_check (33 ∷ 126 ∷ 64 ∷ 98 ∷ []) ≡ Ok tt
byte_33_and_126 = refl

past_ascii : address_check (97 ∷ 64 ∷ 195 ∷ 169 ∷ []) ≡ Err BadByte
past_ascii = refl

plus_in_host : address_check (codes "a@b+c") ≡ Err BadByte
plus_in_host = refl

kept : address_of (codes "A@EX.org") ≡ Some (codes "A@ex.org")
kept = refl

not_kept : address_of (codes "A") ≡ None
not_kept = refl

local : local_of (codes "A@ex.org") ≡ codes "A"
local = refl

host : host_of (codes "A@ex.org") ≡ codes "ex.org"
host = refl

one_subscriber : key (codes "A@ex.org") ≡ key (codes "a@ex.org")
one_subscriber = refl

-- numbers

zero_alone : number_of (codes "0") ≡ Some 0
zero_alone = refl

leading_zeros : number_of (codes "007") ≡ None
leading_zeros = refl

no_digit : number_of [] ≡ None
no_digit = refl

sign : number_of (codes "+7") ≡ None
sign = refl

eighteen_digits : number_of (codes "999999999999999999") ≡ Some 999999999999999999
eighteen_digits = refl

nineteen_digits : number_of (codes "1000000000000000000") ≡ None
nineteen_digits = refl

at_limit : number_within 255 (codes "255") ≡ Some 255
at_limit = refl

above_limit : number_within 255 (codes "256") ≡ None
above_limit = refl

-- netstrings

word : ns (codes "list") ≡ codes "4:list,"
unfolding digits
word = refl

no_content : ns [] ≡ codes "0:,"
unfolding digits
no_content = refl

ten : ns (codes "0123456789") ≡ codes "10:0123456789,"
unfolding digits
ten = refl

reads_word : netstring_at (codes "4:list,3:") ≡ Some (codes "list", codes "3:")
reads_word = refl

reads_no_content : netstring_at (codes "0:,") ≡ Some ([], [])
reads_no_content = refl

leading_zero : netstring_at (codes "04:list,") ≡ None
leading_zero = refl

two_zeros : netstring_at (codes "00:,") ≡ None
two_zeros = refl

no_length : netstring_at (codes ":,") ≡ None
no_length = refl

no_colon : netstring_at (codes "4list,") ≡ None
no_colon = refl

missing_comma : netstring_at (codes "4:list") ≡ None
missing_comma = refl

other_end : netstring_at (codes "4:list;") ≡ None
other_end = refl

past_end : netstring_at (codes "9:list,") ≡ None
past_end = refl

nineteen_digit_length : netstring_at (codes "1000000000000000000:a,") ≡ None
nineteen_digit_length = refl

-- paths

log : path_of (record { kind = 0; at = 0 }) ≡ codes "log"
log = refl

bucket : path_of (record { kind = 3; at = 29 }) ≡ codes "subscribers/]"
bucket = refl

last_bucket : path_of (record { kind = 16; at = 52 }) ≡ codes "digest/bounce/t"
last_bucket = refl

first_post : path_of (record { kind = 9; at = 1 }) ≡ codes "archive/0/01"
unfolding digits
first_post = refl

last_post : path_of (record { kind = 9; at = 99999999 }) ≡ codes "archive/999999/99"
unfolding digits
last_post = refl

first_index : path_of (record { kind = 10; at = 0 }) ≡ codes "archive/0/index"
unfolding digits
first_index = refl

thread : path_of (record { kind = 20; at = 5 }) ≡ codes "archive/threads/005"
thread = refl

last_thread : path_of (record { kind = 20; at = 255 }) ≡ codes "archive/threads/255"
last_thread = refl

moderators_count : path_of (record { kind = 8; at = 4 }) ≡ codes "counts/mod"
moderators_count = refl

last_replies : path_of (record { kind = 19; at = 1953124999 }) ≡ codes "done/1953124999"
unfolding digits
last_replies = refl

last_entry : path_of (record { kind = 17; at = 1000000000000000 }) ≡ codes "queue/1000000000000000"
unfolding digits
last_entry = refl

floor : path_of (record { kind = 21; at = 0 }) ≡ codes "floor"
floor = refl

posts_from_one : is_in_table (record { kind = 9; at = 0 }) ≡ false
posts_from_one = refl

no_kind_22 : is_in_table (record { kind = 22; at = 0 }) ≡ false
no_kind_22 = refl

log_in_table : is_in_table (record { kind = 0; at = 0 }) ≡ true
log_in_table = refl

log_is_no_file : is_file (record { kind = 0; at = 0 }) ≡ false
log_is_no_file = refl

-- sets

words : set_word sets.List ∷ set_word sets.Digest ∷ set_word sets.Allow ∷ set_word sets.Deny ∷ set_word sets.Moderators ∷ []
    ≡ codes "list" ∷ codes "digest" ∷ codes "allow" ∷ codes "deny" ∷ codes "mod" ∷ []
words = refl

of_word : set_of (codes "mod") ≡ Some sets.Moderators
of_word = refl

capitals : set_of (codes "LIST") ≡ None
capitals = refl

kinds : set_kind sets.List ∷ set_kind sets.Digest ∷ set_kind sets.Allow ∷ set_kind sets.Deny ∷ set_kind sets.Moderators ∷ [] ≡ 3 ∷ 4 ∷ 5 ∷ 6 ∷ 7 ∷ []
kinds = refl

-- directories

abbrev key_file : Name
key_file = record { kind = 2; at = 0 }

abbrev bucket_file : Name
bucket_file = record { kind = 3; at = 29 }

abbrev num_file : Name
num_file = record { kind = 11; at = 0 }

-- a directory with a key and a count
abbrev start : Dir
start = with_file (with_file (λ name. None) key_file (Some (codes "key"))) num_file (Some (codes "0"))

-- a bucket is written twice, and the key is removed
abbrev puts : List Put
puts = record { name = bucket_file; bytes = Some (codes "old") } ∷ record { name = key_file; bytes = None } ∷ record { name = bucket_file; bytes = Some (codes "new") } ∷ []

later_put_wins : with_puts start puts bucket_file ≡ Some (codes "new")
later_put_wins = refl

removed : with_puts start puts key_file ≡ None
removed = refl

not_touched : with_puts start puts num_file ≡ Some (codes "0")
not_touched = refl

other_place : with_puts start puts (record { kind = 3; at = 30 }) ≡ None
other_place = refl

touched : touches puts bucket_file ≡ true
touched = refl

untouched : touches puts num_file ≡ false
untouched = refl

all_files : are_files puts ≡ true
all_files = refl

no_log : are_files (record { name = record { kind = 0; at = 0 }; bytes = None } ∷ []) ≡ false
no_log = refl

newest : newest_put puts bucket_file ≡ Some (record { name = bucket_file; bytes = Some (codes "new") })
newest = refl

-- lists in the order of their keys, here of numbers by their last digit and of texts in lower case

abbrev last_digit : ℕ → ℕ
last_digit n = n % 10

in_its_place : with_entry nat_cmp last_digit 42 (31 ∷ 54 ∷ []) ≡ 31 ∷ 42 ∷ 54 ∷ []
in_its_place = refl

in_place_of_its_key : with_entry nat_cmp last_digit 44 (31 ∷ 54 ∷ []) ≡ 31 ∷ 44 ∷ []
in_place_of_its_key = refl

at_the_end : with_entry byte_cmp key (codes "C@x") (codes "A@x" ∷ codes "b@x" ∷ []) ≡ codes "A@x" ∷ codes "b@x" ∷ codes "C@x" ∷ []
at_the_end = refl

taken_out : without_key byte_cmp key (codes "a@x") (codes "A@x" ∷ codes "b@x" ∷ []) ≡ codes "b@x" ∷ []
taken_out = refl

found : entry_of byte_cmp key (codes "a@x") (codes "A@x" ∷ codes "b@x" ∷ []) ≡ Some (codes "A@x")
found = refl

not_found : entry_of byte_cmp key (codes "c@x") (codes "A@x" ∷ codes "b@x" ∷ []) ≡ None
not_found = refl

sorted : is_sorted byte_cmp key (codes "A@x" ∷ codes "b@x" ∷ []) ≡ true
sorted = refl

key_twice : is_sorted byte_cmp key (codes "A@x" ∷ codes "a@x" ∷ []) ≡ false
key_twice = refl

falling : is_sorted nat_cmp last_digit (31 ∷ 54 ∷ 42 ∷ []) ≡ false
falling = refl

-- splits

at_first : split_first 46 (codes "a.b.c") ≡ Some (codes "a", codes "b.c")
at_first = refl

not_there : split_first 46 (codes "abc") ≡ None
not_there = refl

at_last : split_last 46 (codes "a.b.c") ≡ Some (codes "a.b", codes "c")
at_last = refl

three_lines : lines (97 ∷ 10 ∷ 10 ∷ 98 ∷ []) ≡ (97 ∷ 10 ∷ []) ∷ (10 ∷ []) ∷ (98 ∷ []) ∷ []
three_lines = refl

no_lines : lines [] ≡ []
no_lines = refl

records : nul_row (codes "ab" ∷ codes "c" ∷ []) ≡ 97 ∷ 98 ∷ 0 ∷ 99 ∷ 0 ∷ []
records = refl

netstrings : ns_row (codes "ab" ∷ [] ∷ []) ≡ codes "2:ab,0:,"
unfolding digits
netstrings = refl

-- the list's own addresses

post_address : is_own (codes "List") (codes "ex.Org") (codes "lIST@EX.org") ≡ true
post_address = refl

request_address : is_own (codes "list") (codes "ex.org") (codes "list-subscribe@ex.org") ≡ true
request_address = refl

empty_rest : is_own (codes "list") (codes "ex.org") (codes "list-@ex.org") ≡ true
empty_rest = refl

last_sign : is_own (codes "list") (codes "ex.org") (codes "list-a@b@ex.org") ≡ true
last_sign = refl

longer_local : is_own (codes "list") (codes "ex.org") (codes "lists@ex.org") ≡ false
longer_local = refl

shorter_local : is_own (codes "list") (codes "ex.org") (codes "lis@ex.org") ≡ false
shorter_local = refl

other_host : is_own (codes "list") (codes "ex.org") (codes "list@ex.com") ≡ false
other_host = refl

no_host_at_all : is_own (codes "list") (codes "ex.org") (codes "list") ≡ false
no_host_at_all = refl

-- counts of faults

counted : Rose 3 4
counted = lit≤ tt

as_many_as_can_be_counted : Rose (2 ^ 64 - 1) (2 ^ 64 - 1)
as_many_as_can_be_counted = lit≤ tt

-- puts in place

laid_in_place : laid_in (record { name = bucket_file; bytes = Some (codes "two") }) (record { name = bucket_file; bytes = Some (codes "one") } ∷ record { name = key_file; bytes = None } ∷ [])
    ≡ record { name = bucket_file; bytes = Some (codes "two") } ∷ record { name = key_file; bytes = None } ∷ []
laid_in_place = refl

laid_last : laid_in (record { name = num_file; bytes = None }) (record { name = key_file; bytes = None } ∷ []) ≡ record { name = key_file; bytes = None } ∷ record { name = num_file; bytes = None } ∷ []
laid_last = refl

one_twice : are_distinct (record { name = key_file; bytes = None } ∷ record { name = key_file; bytes = None } ∷ []) ≡ false
one_twice = refl

-- hashes

hash_of_none : hash_of [] ≡ 5381
hash_of_none = refl

-- 5381 * 33 is 0x2B5A5, and with 0x61 for `a` 0x2B5C4
hash_of_one : hash_of (codes "a") ≡ 0x2B5C4
hash_of_one = refl

-- 0x2B5C4 * 33 is 0x596E44, and with 0x62 for `b` 0x596E26
hash_of_two : hash_of (codes "ab") ≡ 0x596E26
hash_of_two = refl

-- parts of addresses, keys and ranges

make_one : make_address (codes "a") (codes "X.org") ≡ true
make_one = refl

make_none : make_address (codes "a@b") (codes "x") ≡ false
make_none = refl

below : is_below (codes "a@x") (codes "B@x") ≡ true
below = refl

not_below_itself : is_below (codes "A@x") (codes "a@x") ≡ false
not_below_itself = refl

last_moment : is_moment 253_402_300_799 ≡ true
last_moment = refl

no_moment : is_moment 253_402_300_800 ≡ false
no_moment = refl

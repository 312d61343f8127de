-- How the texts of the archive's files are read: the number of posts, the indexes and the thread files.
use Rattle.std.specs.Prelude.{ℕ, ◌*◌, ◌/◌, max, Bool, ◌&&◌, ◌==◌, nat_lt, List, [], ◌∷◌, length, Option, Some, None, option_map, if◌then◌else◌}
use Rattle.std.specs.List.{list_all}
use Rattle.std.specs.Option.{option_and_then}
use Rattle.std.specs.Ordering.{nat_cmp}
use Rattle.ml_base.specs.Bytes.{Text, line_feed}
use Rattle.ml_base.specs.Numbers.{moment_in, number_within}
use Rattle.ml_base.specs.Ranges.{is_post_number}
use Rattle.ml_base.specs.Sorted.{is_sorted}
use Rattle.ml_keyed.specs.Records.{records_in}
use Rattle.ml_rows.specs.Rows.{only_if, both_of, row_of, netstrings_at}
use Rattle.ml_rows.specs.Values.{address_in, line_number, comma_numbers}
use Rattle.ml_filing.specs.Threads.{Thread, thread_place}
use Rattle.ml_filing.specs.declared.posts.Entry.{Entry}

-- the number of posts that a text spells, on a line of its own
abbrev pub count_in : Text → Option ℕ
count_in text = line_number 99_999_999 text

-- an entry of this number and these values
abbrev pub entry_with : ℕ → Text × (ℕ × (ℕ × Text)) → Entry
entry_with k values = record { number = k; moment = values.1.0; sender = values.0; size = values.1.1.0; subject = values.1.1.1 }

-- the entry of number k that four texts spell: its moment, sender, size and subject
abbrev pub entry_of_fields : ℕ → List Text → Option Entry
entry_of_fields k (moment ∷ sender ∷ size ∷ subject ∷ []) =
    option_map (entry_with k) (both_of (address_in sender) (both_of (moment_in moment) (both_of (number_within 4_294_967_295 size) (Some subject))))
entry_of_fields k texts = None

-- what comes after an LF
abbrev pub after_lf : Text → Option Text
after_lf [] = None
after_lf (b ∷ bs) = if b == line_feed then Some bs else None

-- the entry of number k at the beginning of a text, in the index of group g, and what comes after it: four netstrings
-- and an LF, if k is of the group
abbrev pub entry_in_place : ℕ → ℕ → Text → Option (Entry × Text)
entry_in_place g k text =
    if k / 100 == g then option_and_then (λ found. both_of (entry_of_fields k found.0) (after_lf found.1)) (netstrings_at 4 text) else None

-- the entries in the index of group g, in a row from the group's first number on
abbrev pub index_in : ℕ → Text → Option (List Entry)
index_in g text = row_of (entry_in_place g) (max 1 (100 * g)) text

-- a thread of this key and these numbers
abbrev pub thread_with : Text → List ℕ → Thread
thread_with key numbers = record { key = key; numbers = numbers }

-- whether a thread may be in the file with this number: it has one or more numbers of posts, in ascending order
abbrev pub fits : ℕ → Thread → Bool
fits n t = thread_place t.key == n && nat_lt 0 (length t.numbers) && list_all is_post_number t.numbers && is_sorted nat_cmp (λ m. m) t.numbers

-- the thread that two texts spell: its key and its numbers
abbrev pub thread_of_fields : ℕ → List Text → Option Thread
thread_of_fields n (key ∷ numbers ∷ []) = only_if (fits n) (option_map (thread_with key) (comma_numbers 99_999_999 numbers))
thread_of_fields n texts = None

-- the thread at the beginning of a text, at whatever place, and what comes after it
abbrev pub thread_at : ℕ → ℕ → Text → Option (Thread × Text)
thread_at n place text = option_and_then (λ found. option_map (λ t. (t, found.1)) (thread_of_fields n found.0)) (netstrings_at 2 text)

-- the threads of the file with this number, in a row in ascending order of key
abbrev pub threads_in : ℕ → Text → Option (List Thread)
threads_in n text = records_in thread_at (λ t. t.key) n text

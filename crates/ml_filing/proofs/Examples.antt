-- Worked examples: subject keys, threads, groups, cuts and the files of three posts.
use Rattle.std.proofs.Common.{◌≡◌, ℕ, List, [], ◌∷◌, ◌++◌, Some, None, refl, codes, length, map, replicate}
use Rattle.std.specs.Fmt.{digits}
use Rattle.std.specs.List.{flat_map}
use Rattle.ml_base.specs.Bytes.{Text}
use Rattle.ml_base.specs.Cuts.{one_or_within}
use Rattle.ml_filing.specs.Subjects.{subject, subject_key, stripped}
use Rattle.ml_filing.specs.Posts.{in_range, in_thread, group, cut, numbers, post_at, index_of}
use Rattle.ml_filing.specs.Archive.{index_text, entry_text}
use Rattle.ml_filing.specs.Reading.{count_in, index_in, threads_in}
use Rattle.ml_filing.specs.Threads.{thread_place, thread_text}
use Rattle.ml_filing.specs.declared.posts.Post.{Post}

subject_of_folded : subject (codes "Subject:\n hello\n\tagain \n\n") ≡ codes "hello\tagain"
subject_of_folded = refl

no_subject : subject (codes "To: x\n\n") ≡ []
no_subject = refl

thousand : length (subject (codes "Subject: " ++ replicate 1200 97)) ≡ 1000
thousand = refl

-- three posts on a list whose prefix is [list]
abbrev prefix : Text
prefix = codes "[list]"

key_of_reply : subject_key prefix (codes "Re: [list] Hello") ≡ codes "hello"
unfolding stripped
key_of_reply = refl

all_marks : subject_key prefix (codes " AW: re[12]:\tFwd:  [LIST]fw:the\r\n other ") ≡ codes "the other"
unfolding stripped
all_marks = refl

no_digit : subject_key prefix (codes "re[]: a") ≡ codes "re[]: a"
unfolding stripped
no_digit = refl

no_mark : subject_key [] (codes "re[1x]: a") ≡ codes "re[1x]: a"
unfolding stripped
no_mark = refl

only_marks : subject_key prefix (codes "Re: Re:") ≡ []
unfolding stripped
only_marks = refl

two_spaces : subject_key (codes "[a  b]") (codes "[a  b] c") ≡ codes "[a b] c"
unfolding stripped
two_spaces = refl

abbrev post : Text → Text → Post
post subject bytes = record { sender = codes "g@h"; moment = 1000000000; subject = subject; bytes = bytes }

abbrev posts : List Post
posts = post (codes "hello") (codes "1\n") ∷ post (codes "Re: [list] Hello") (codes "two\n") ∷ post (codes "other") [] ∷ []

same_thread : numbers (in_thread prefix 2 posts) ≡ 1 ∷ 2 ∷ []
unfolding stripped
same_thread = refl

no_thread : numbers (in_thread prefix 4 posts) ++ numbers (in_thread prefix 0 posts) ≡ []
unfolding stripped
no_thread = refl

first_two : numbers (cut (in_range 1 2 posts)) ≡ 1 ∷ 2 ∷ []
first_two = refl

past_the_end : numbers (cut (in_range 2 9 posts)) ≡ 2 ∷ 3 ∷ []
past_the_end = refl

from_above_to : numbers (cut (in_range 3 2 posts)) ≡ []
from_above_to = refl

-- group 0 begins with post 1, and group 1 with post 100
group_zero : length (group 0 (replicate 250 (post [] []))) ≡ 99
group_zero = refl

group_one : numbers (group 1 (replicate 102 (post [] []))) ≡ 100 ∷ 101 ∷ 102 ∷ []
group_one = refl

third : post_at posts 3 ≡ Some (post (codes "other") [])
third = refl

fourth : post_at posts 4 ≡ None
fourth = refl

index : index_text (index_of 0 (post (codes "hello") (codes "two\n") ∷ [])) ≡ codes "10:1000000000,3:g@h,1:4,5:hello,\n"
unfolding entry_text digits
index = refl

-- the keys `hello`, `other` and the empty one
places : map thread_place (codes "hello" ∷ codes "other" ∷ [] ∷ []) ≡ 231 ∷ 161 ∷ 5 ∷ []
places = refl

thread_file : flat_map thread_text (record { key = codes "hello"; numbers = 1 ∷ 2 ∷ [] } ∷ []) ≡ codes "5:hello,3:1,2,"
unfolding digits
thread_file = refl

other_thread_file : flat_map thread_text (record { key = codes "other"; numbers = 3 ∷ [] } ∷ []) ≡ codes "5:other,1:3,"
unfolding digits
other_thread_file = refl

-- cuts, here of numbers that are their own sizes
abbrev cut_by_value : ℕ → ℕ → List ℕ → List ℕ
cut_by_value count room ns = one_or_within (λ n. n) count room ns

hundred_at_most : length (cut_by_value 100 1000 (replicate 101 1)) ≡ 100
hundred_at_most = refl

up_to_the_limit : cut_by_value 100 10 (4 ∷ 6 ∷ 0 ∷ 1 ∷ 0 ∷ []) ≡ 4 ∷ 6 ∷ 0 ∷ []
up_to_the_limit = refl

first_alone : cut_by_value 100 10 (11 ∷ 0 ∷ []) ≡ 11 ∷ []
first_alone = refl

nothing_to_cut : cut_by_value 100 10 [] ≡ []
nothing_to_cut = refl

-- the files are read back
count_read : count_in (codes "3\n") ≡ Some 3
count_read = refl

count_without_end : count_in (codes "3") ≡ None
count_without_end = refl

index_read : index_in 0 (codes "10:1000000000,3:g@h,1:4,5:hello,\n") ≡ Some (record { number = 1; moment = 1000000000; sender = codes "g@h"; size = 4; subject = codes "hello" } ∷ [])
index_read = refl

-- a host in capitals, and an entry without its LF
capitals : index_in 0 (codes "10:1000000000,3:g@H,1:4,5:hello,\n") ≡ None
capitals = refl

cut_entry : index_in 0 (codes "10:1000000000,3:g@h,1:4,5:hello,") ≡ None
cut_entry = refl

threads_read : threads_in 231 (codes "5:hello,3:1,2,") ≡ Some (record { key = codes "hello"; numbers = 1 ∷ 2 ∷ [] } ∷ [])
threads_read = refl

-- a key of another file, numbers that don't rise, and no number
another_file : threads_in 161 (codes "5:hello,3:1,2,") ≡ None
another_file = refl

falling : threads_in 231 (codes "5:hello,3:2,1,") ≡ None
falling = refl

no_number : threads_in 231 (codes "5:hello,0:,") ≡ None
no_number = refl

-- The items of an exercise make a stream, and it isn't too long.
use Rattle.std.proofs.Common.{◌≡◌, ℕ, zero, suc, ◌+◌, ◌*◌, ◌/◌, ◌%◌, ◌^◌, ◌<◌, ◌≤◌, [], ◌∷◌, ◌++◌, length, drop, Some, ap, refl, ◌∙◌, arith, codes, length-append, length-drop}
use Rattle.std.proofs.lemmas.Bool.Decides.{nat_tests}
use Rattle.std.proofs.lemmas.List.Concat.{flat_map-cons}
use Rattle.std.specs.Fmt.{decimal}
use Rattle.ml_base.specs.Bytes.{Text}
use Rattle.ml_base.specs.Netstrings.{ns}
use Rattle.ml_stream.specs.Stream.{IsStream, End, got, item_at}
use Rattle.ml_stream.specs.Writing.{IsGood, spelled_act, spelled_item, stream_text}
use Rattle.ml_stream.proofs.Spelled.{item_written}
use Rattle.ml_generated.specs.Texts.{address, bounce_address, line, list_address, message, request_address}
use Rattle.ml_generated.specs.Items.{act_of, item, items_from, kind_of, left_of}
use Rattle.ml_generated.specs.declared.items.Kind.{Kind}
use Rattle.ml_generated.specs.declared.items.Kind.TheVariants as kinds
use Rattle.ml_generated.proofs.People.{is_address}
use Rattle.ml_generated.proofs.Sizes.{address_size, bounce_size, digits_short, message_size, ns_short}

-- only items whose number ends in 9 report an entry of the queue
nine : (d : ℕ) → kind_of d ≡ kinds.Sent → d ≡ 9
nine d is = grind (arith, nat_tests)

three : (a b c : Text) → length (a ++ b ++ c) ≡ length a + length b + length c
three a b c = grind (arith, length-append)

request_size : (local host : Text) → length local ≤ 60 → length host ≤ 255 → length (request_address local host) ≤ 326
request_size local host few some =
    let all : length (request_address local host) ≡ length local + 10 + length (64 ∷ host) = three local (codes "-subscribe") (64 ∷ host) in
    omega (arith, all)

good : (k : Kind) (local host : Text) (i : ℕ) → length local ≤ 60 → length host ≤ 255 → i < 1_000_000 → kind_of (i % 10) ≡ k → IsGood (act_of k local host i)
good kinds.Join local host i few some small is = (tt, is_address i)
good kinds.Bounce local host i few some small is = (record { from = omega arith; to = (let size = bounce_size local host i few some small in omega (arith, size)); body = omega arith }, tt)
good kinds.Follow local host i few some small is = (tt, is_address i)
good kinds.Leave local host i few some small is = (tt, is_address i)
good kinds.Post local host i few some small is =
    let own = length-append local (64 ∷ host) in
    let who = address_size i in
    let body = message_size local host i few some small in
    (record { from = omega (arith, who); to = omega (arith, own); body = omega (arith, body) }, tt)
good kinds.Request local host i few some small is =
    let own = request_size local host few some in
    let who = address_size i in
    let body = message_size local host i few some small in
    (record { from = omega (arith, who); to = omega (arith, own); body = omega (arith, body) }, tt)
good kinds.Sent local host i few some small is = let last = nine (i % 10) is in (record { from = omega (arith, last); to = omega arith }, tt)
good kinds.Timed local host i few some small is = (tt, tt)

pub item_read : (place : ℕ) (local host rest : Text) (i : ℕ) → length local ≤ 60 → length host ≤ 255 → i < 1_000_000
    → item_at place (spelled_item (item local host i) ++ rest) ≡ got (Some (item local host i)) (place + length (spelled_item (item local host i))) rest
item_read place local host rest i few some small =
    let is = good (kind_of (i % 10)) local host i few some small refl in
    item_written place (item local host i) rest (record { number = omega arith; moment = omega arith; act = is.0 }) is.1

pub items_read : (place : ℕ) (local host : Text) (first more : ℕ) → length local ≤ 60 → length host ≤ 255 → first + more ≤ 1_000_000
    → IsStream place (stream_text (items_from local host first more)) (items_from local host first more) End
items_read place local host first zero few some all = refl
items_read place local host first (suc more) few some all = (
  place + length (spelled_item (item local host first)),
  stream_text (items_from local host (first + 1) more),
  ap (item_at place) (flat_map-cons spelled_item (item local host first) (items_from local host (first + 1) more))
      ∙ item_read place local host (stream_text (items_from local host (first + 1) more)) first few some (omega arith),
  items_read (place + length (spelled_item (item local host first))) local host (first + 1) more few some (omega arith),
)

delivery_size : (from to body : Text) → length from ≤ 28 → length to ≤ 373 → length body ≤ 419 → length (ns from ++ ns to ++ ns body) ≤ 900
delivery_size from to body one two more =
    let all = three (ns from) (ns to) (ns body) in
    let a = ns_short from (omega (arith, one)) in
    let b = ns_short to (omega (arith, two)) in
    let c = ns_short body (omega (arith, more)) in
    omega (arith, one, two, more, all, a, b, c)

member_size : (set : Text) (i : ℕ) → length set ≤ 6 → length (ns set ++ ns (address i)) ≤ 900
member_size set i short =
    let who = address_size i in
    let a = length-append (ns set) (ns (address i)) in
    let b = ns_short (address i) (omega (arith, who)) in
    let c = ns_short set (omega (arith, short)) in
    omega (arith, who, a, b, c)

-- an act takes at most 900 bytes
act_size : (k : Kind) (local host : Text) (i : ℕ) → length local ≤ 60 → length host ≤ 255 → i < 1_000_000 → length (spelled_act (act_of k local host i)) ≤ 900
act_size kinds.Join local host i few some small = member_size (codes "list") i (omega arith)
act_size kinds.Bounce local host i few some small = delivery_size [] (bounce_address local host i) (line []) (omega arith) (bounce_size local host i few some small) (omega arith)
act_size kinds.Follow local host i few some small = member_size (codes "digest") i (omega arith)
act_size kinds.Leave local host i few some small = member_size (codes "list") i (omega arith)
act_size kinds.Post local host i few some small =
    delivery_size (address i) (list_address local host) (message local host i) (address_size i) (let own = length-append local (64 ∷ host) in omega (arith, own)) (message_size local host i few some small)
act_size kinds.Request local host i few some small =
    delivery_size (address i) (request_address local host) (message local host i) (address_size i) (let own = request_size local host few some in omega (arith, own)) (message_size local host i few some small)
act_size kinds.Sent local host i few some small =
    let digits = digits_short ((i + 1) / 10) (omega arith) in
    let a = ns_short (decimal ((i + 1) / 10)) (omega (arith, digits)) in
    omega (arith, digits, a)
act_size kinds.Timed local host i few some small = omega arith

pub item_size : (local host : Text) (i : ℕ) → length local ≤ 60 → length host ≤ 255 → i < 1_000_000 → length (spelled_item (item local host i)) ≤ 1024
item_size local host i few some small =
    let act = spelled_act (act_of (kind_of (i % 10)) local host i) in
    let moment = 1_000_000_000 + 1000 * i in
    let size = act_size (kind_of (i % 10)) local host i few some small in
    let one = digits_short i (omega arith) in
    let two = digits_short moment (omega arith) in
    let a = ns_short (decimal i) (omega (arith, one)) in
    let b = ns_short (decimal moment) (omega (arith, two)) in
    let all : length (spelled_item (item local host i)) ≡ suc (length (ns (decimal i) ++ ns (decimal moment) ++ act)) = refl in
    let parts = three (ns (decimal i)) (ns (decimal moment)) act in
    omega (arith, size, one, two, a, b, all, parts)

stream_size : (local host : Text) (first more : ℕ) → length local ≤ 60 → length host ≤ 255 → first + more ≤ 1_000_000 → length (stream_text (items_from local host first more)) ≤ 1024 * more
stream_size local host first zero few some all = omega arith
stream_size local host first (suc more) few some all =
    let rest = stream_text (items_from local host (first + 1) more) in
    let one = item_size local host first few some (omega arith) in
    let others = stream_size local host (first + 1) more few some (omega arith) in
    let whole : length (stream_text (items_from local host first (suc more))) ≡ length (spelled_item (item local host first)) + length rest =
    ap length (flat_map-cons spelled_item (item local host first) (items_from local host (first + 1) more)) ∙ length-append (spelled_item (item local host first)) rest in
    omega (arith, one, others, whole)

-- the bytes that are left can be counted in 64 bits
pub room : (local host held : Text) (at next ahead : ℕ) → length local ≤ 60 → length host ≤ 255 → next + ahead ≤ 1_000_000 → length held ≤ 1024 → length (left_of local host held at next ahead) < 2 ^ 64
room local host held at next ahead few some all short =
    let rest = stream_text (items_from local host next ahead) in
    let size = stream_size local host next ahead few some all in
    omega (arith, size, length-append (drop at held) rest, length-drop at held)

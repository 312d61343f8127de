-- Reading what was written of an item gives this item.
use Rattle.std.proofs.Common.{◌≡◌, ℕ, suc, ◌+◌, ◌-◌, ◌*◌, ◌<◌, ◌≤◌, ◌^◌, Bool, true, false, nat_lt, [], ◌∷◌, ◌++◌, length, Option, Some, None, Ok, Err, ap, refl, ◌∙◌, arith, eqb, if◌then◌else◌, append_assoc, length-append}
use Rattle.std.specs.Fmt.{decimal}
use Rattle.std.proofs.lemmas.Bool.Decides.{nat_tests}
use Rattle.std.proofs.lemmas.Bool.{ne_eqb}
use Rattle.std.proofs.lemmas.Slice.Eq.{bytes_eq-Decides}
use Rattle.hex.specs.Hex.{encode_lower, lower_digits, IsBytes}
use Rattle.hex.proofs.HexLemmas.{decode_sized-encode_lower, length-encode_with}
use Rattle.std.proofs.lemmas.Fmt.{length-decimal-le}
use Rattle.ml_base.specs.Bytes.{Text}
use Rattle.ml_base.specs.Numbers.{moment_in, digits_from, is_next_digit}
use Rattle.ml_base.specs.Netstrings.{ns}
use Rattle.ml_base.specs.Name.{set_of, set_word}
use Rattle.ml_base.specs.declared.names.Set.{Set}
use Rattle.ml_base.specs.declared.names.Set.TheVariants as sets
use Rattle.ml_base.specs.Address.{IsAddress, address_of}
use Rattle.ml_base.specs.declared.address.AddressFault.TheVariants.{TooLong}
use Rattle.ml_base.proofs.NumberLaws.{number_read}
use Rattle.ml_base.proofs.Netstrings.{no_colon, regroup}
use Rattle.ml_base.proofs.Addresses.{address_kept}
use Rattle.ml_plain.specs.declared.Item.{Item}
use Rattle.ml_plain.specs.declared.Act.{Act}
use Rattle.ml_plain.specs.declared.Act.TheVariants.{Deliver, Timed, Add, Remove, Sent, Rekey, Floor}
use Rattle.ml_stream.specs.declared.reader.Letter.{Letter}
use Rattle.ml_stream.specs.declared.reader.Letter.TheVariants as letters
use Rattle.ml_stream.specs.Stream.{got, and_then, length_at, element_at, item_number_of, floor_of, id_of, positive_within, some_positive, key_of, some_key, any_bytes, deliver_at, member_at, act_at, elements_at, item_at, letter_of, after_letter, some_item}
use Rattle.ml_plain.specs.Items.{IsItem, IsAct, IsDelivery}
use Rattle.ml_stream.specs.Writing.{IsTyped, letter, spelled_act, spelled_item}
use Rattle.ml_stream.proofs.Elements.{content_full, element_ok, comma_some, item_ok, member_ok, deliver_ok, sent_ok, floor_ok, rekey_ok}

-- the digits of a length, and its colon
lengths : (start limit count n place : ℕ) (ds rest : Text) (m : ℕ) → digits_from limit count n ds ≡ Some m → length_at start limit count n place (ds ++ 58 ∷ rest) ≡ got m (place + (length ds + 1)) rest
lengths start limit count n place [] rest m e = go (eqb count 0) refl
  where
    go : (t : Bool) → eqb count 0 ≡ t → length_at start limit count n place (58 ∷ rest) ≡ got m (place + 1) rest
    go true is = let bad : None ≡ Some m = rw is at e in cc
    go false is = let same : n ≡ m = let found : Some n ≡ Some m = rw is at e in cc in rw (is, same)
lengths start limit count n place (b ∷ bs) rest m e =
    go (is_next_digit limit count n b) refl (lengths start limit (suc count) (10 * n + (b - 48)) (place + 1) bs rest m)
  where
    far : place + 1 + (length bs + 1) ≡ place + (suc (length bs) + 1)
    far = omega arith

    go : (t : Bool) → is_next_digit limit count n b ≡ t
        → (digits_from limit (suc count) (10 * n + (b - 48)) bs ≡ Some m → length_at start limit (suc count) (10 * n + (b - 48)) (place + 1) (bs ++ 58 ∷ rest) ≡ got m (place + 1 + (length bs + 1)) rest)
        → length_at start limit count n place (b ∷ (bs ++ 58 ∷ rest)) ≡ got m (place + (suc (length bs) + 1)) rest
    go false is more = let bad : None ≡ Some m = rw (is, digits_from) at e in cc
    go true is more = rw (no_colon limit count n b is, is, length_at) (more (rw (is, digits_from) at e) ∙ ap (λ k. got m k rest) far)

ns_long : (x : Text) → length (ns x) ≡ length (decimal (length x)) + 1 + length x + 1
ns_long x = omega (arith, length-append (decimal (length x) ++ (58 ∷ x)) (44 ∷ []), length-append (decimal (length x)) (58 ∷ x))

-- an element is read from its netstring
element_written : {X : Type 0} (limit start : ℕ) (read : Text → Option X) (content : Text) (value : X) (rest : Text) → limit < 2 ^ 64 → length content ≤ limit → read content ≡ Some value
    → element_at limit read start (ns content ++ rest) ≡ got value (start + length (ns content)) rest
element_written limit start read content value rest small fits is =
    let n = length content in
    let d = decimal n in
    let whole = regroup d content rest in
    let len = lengths start limit 0 0 start d (content ++ (44 ∷ rest)) n (number_read limit n small fits) in
    let place = start + (length d + 1) in
    let text = content_full start limit place n (d ++ (58 ∷ (content ++ (44 ∷ rest)))) (content ++ (44 ∷ rest)) content (44 ∷ rest) len refl refl in
    let far : place + n + 1 ≡ start + length (ns content) = omega (arith, ns_long content) in
    ap (element_at limit read start) whole
    ∙ element_ok limit start (place + n) (place + n + 1) read (d ++ (58 ∷ (content ++ (44 ∷ rest)))) content (44 ∷ rest) rest value text is (comma_some start (place + n) 44 rest refl)
    ∙ ap (λ k. got value k rest) far

set_read : (set : Set) → (set_of (set_word set) ≡ Some set) × (length (set_word set) ≤ 6)
set_read sets.List = (refl, omega arith)
set_read sets.Digest = (refl, omega arith)
set_read sets.Allow = (refl, omega arith)
set_read sets.Deny = (refl, omega arith)
set_read sets.Moderators = (refl, omega arith)

address_short : (who : Text) → IsAddress who → length who ≤ 400
address_short who a = go (nat_lt 400 (length who)) refl
  where
    go : (t : Bool) → nat_lt 400 (length who) ≡ t → length who ≤ 400
    go true is = let bad : Err TooLong ≡ Ok tt = rw is at a.checks in cc
    go false is = grind (arith, nat_tests)

number_short : (n : ℕ) → n ≤ 999_999_999_999 → length (decimal n) ≤ 12
number_short n small = length-decimal-le 12 n (omega arith) (omega arith) (omega arith)

-- the place after two pieces
places : (place : ℕ) (a b : Text) → place + length a + length b ≡ place + length (a ++ b)
places place a b = omega (arith, length-append a b)

positive_spelled : (most n : ℕ) → most < 2 ^ 64 → 1 ≤ n → n ≤ most → positive_within most (decimal n) ≡ Some n
positive_spelled most n fits some small = ap some_positive (number_read most n fits small) ∙ ap (λ b. if b then None else Some n) (ne_eqb n 0 (λ z. omega (arith, z, some)))

key_spelled : (key : Text) → length key ≡ 32 → IsBytes key → key_of (encode_lower key) ≡ Some key
key_spelled key size bytes =
    ap (some_key (encode_lower key)) (decode_sized-encode_lower key 32 size bytes)
    ∙ ap (λ b. if b then Some key else None) ((bytes_eq-Decides (encode_lower key) (encode_lower key)).1 refl)

member_written : (act : Set → Text → Act) (place : ℕ) (set : Set) (who rest : Text) → IsAddress who
    → member_at act place ((ns (set_word set) ++ ns who) ++ rest) ≡ got (act set who) (place + length (ns (set_word set) ++ ns who)) rest
member_written act place set who rest a =
    let set_is = set_read set in
    ap (member_at act place) (append_assoc (ns (set_word set)) (ns who) rest)
    ∙ member_ok act place (place + length (ns (set_word set))) (place + length (ns (set_word set)) + length (ns who)) (ns (set_word set) ++ (ns who ++ rest)) (ns who ++ rest) rest set who
    (element_written 6 place set_of (set_word set) set (ns who ++ rest) (omega arith) set_is.1 set_is.0)
    (element_written 400 (place + length (ns (set_word set))) address_of who who rest (omega arith) (address_short who a) (address_kept who a))
    ∙ ap (λ k. got (act set who) k rest) (places place (ns (set_word set)) (ns who))

deliver_written : (place : ℕ) (sender recipient message rest : Text) → IsDelivery sender recipient message
    → deliver_at place ((ns sender ++ ns recipient ++ ns message) ++ rest) ≡ got (Deliver sender recipient message) (place + length (ns sender ++ ns recipient ++ ns message)) rest
deliver_written place sender recipient message rest fits =
    let p1 = place + length (ns sender) in
    let p2 = p1 + length (ns recipient) in
    let p3 = p2 + length (ns message) in
    let flat : ((ns sender ++ ns recipient) ++ ns message) ++ rest ≡ ns sender ++ (ns recipient ++ (ns message ++ rest)) = append_assoc (ns sender ++ ns recipient) (ns message) rest ∙ append_assoc (ns sender) (ns recipient) (ns message ++ rest) in
    let far : p3 ≡ place + length ((ns sender ++ ns recipient) ++ ns message) = omega (arith, length-append (ns sender ++ ns recipient) (ns message), length-append (ns sender) (ns recipient)) in
    ap (deliver_at place) flat
    ∙ deliver_ok place p1 p2 p3 (ns sender ++ (ns recipient ++ (ns message ++ rest))) (ns recipient ++ (ns message ++ rest)) (ns message ++ rest) rest sender recipient message
    (element_written 1000 place any_bytes sender sender (ns recipient ++ (ns message ++ rest)) (omega arith) fits.from refl)
    (element_written 1000 p1 any_bytes recipient recipient (ns message ++ rest) (omega arith) fits.to refl)
    (element_written 33_554_432 p2 any_bytes message message rest (omega arith) fits.body refl)
    ∙ ap (λ k. got (Deliver sender recipient message) k rest) far

-- the kind of an act
kind : Act → Letter
kind (Deliver sender recipient message) = letters.Deliver
kind Timed = letters.Timed
kind (Add set who) = letters.Add
kind (Remove set who) = letters.Remove
kind (Sent id) = letters.Sent
kind (Rekey key) = letters.Rekey
kind (Floor at) = letters.Floor

letter_read : (act : Act) → letter_of (letter act) ≡ Some (kind act)
unfolding kind
letter_read (Deliver sender recipient message) = refl
letter_read Timed = refl
letter_read (Add set who) = refl
letter_read (Remove set who) = refl
letter_read (Sent id) = refl
letter_read (Rekey key) = refl
letter_read (Floor at) = refl

act_written : (place : ℕ) (act : Act) (rest : Text) → IsAct act → IsTyped act → act_at (kind act) place (spelled_act act ++ rest) ≡ got act (place + length (spelled_act act)) rest
unfolding kind
act_written place (Deliver sender recipient message) rest fits a = deliver_written place sender recipient message rest fits
act_written place Timed rest fits a = ap (λ k. got Timed k rest) (let same : place ≡ place + 0 = omega arith in same)
act_written place (Add set who) rest fits a = member_written (λ set who. Add set who) place set who rest a
act_written place (Remove set who) rest fits a = member_written (λ set who. Remove set who) place set who rest a
act_written place (Sent id) rest fits a =
    sent_ok place (place + length (ns (decimal id))) (ns (decimal id) ++ rest) rest id
    (element_written 16 place id_of (decimal id) id rest (omega arith) (length-decimal-le 16 id (omega arith) (omega arith) (omega (arith, fits.to))) (positive_spelled 1_000_000_000_000_000 id (omega arith) fits.from fits.to))
act_written place (Rekey key) rest fits a =
    rekey_ok place (place + length (ns (encode_lower key))) (ns (encode_lower key) ++ rest) rest key
    (element_written 64 place key_of (encode_lower key) key rest (omega arith) (let size = a.0 in omega (arith, size, length-encode_with lower_digits key)) (key_spelled key a.0 a.1))
act_written place (Floor at) rest fits a =
    floor_ok place (place + length (ns (decimal at))) (ns (decimal at) ++ rest) rest at
    (element_written 12 place floor_of (decimal at) at rest (omega arith) (number_short at fits.1) (positive_spelled 999_999_999_999 at (omega arith) fits.0 fits.1))

pub item_written : (place : ℕ) (item : Item) (rest : Text) → IsItem item → IsTyped item.act
    → item_at place (spelled_item item ++ rest) ≡ got (Some item) (place + length (spelled_item item)) rest
item_written place item rest k a =
    let number = ns (decimal item.number) in
    let moment = ns (decimal item.moment) in
    let act = spelled_act item.act in
    let l = kind item.act in
    let flat : ((number ++ moment) ++ act) ++ rest ≡ number ++ (moment ++ (act ++ rest)) = append_assoc (number ++ moment) act rest ∙ append_assoc number moment (act ++ rest) in
    let p1 = place + 1 + length number in
    let p2 = p1 + length moment in
    let p3 = p2 + length act in
    let one = element_written 12 (place + 1) item_number_of (decimal item.number) item.number (moment ++ (act ++ rest)) (omega arith) (number_short item.number k.number) (number_read 999_999_999_999 item.number (omega arith) k.number) in
    let two = element_written 12 p1 moment_in (decimal item.moment) item.moment (act ++ rest) (omega arith) (number_short item.moment (omega (arith, k.moment))) (number_read 253_402_300_799 item.moment (omega arith) (omega (arith, k.moment))) in
    let three = act_written p2 item.act rest k.act a in
    let all = item_ok l (place + 1) p1 p2 p3 (number ++ (moment ++ (act ++ rest))) (moment ++ (act ++ rest)) (act ++ rest) rest item.number item.moment item.act one two three in
    let far : p3 ≡ place + suc (length ((number ++ moment) ++ act)) = omega (arith, length-append (number ++ moment) act, length-append number moment) in
    ap (λ o. after_letter place o (((number ++ moment) ++ act) ++ rest)) (letter_read item.act)
    ∙ ap (λ t. and_then (elements_at l (place + 1) t) some_item) flat
    ∙ ap (λ r. and_then r some_item) all
    ∙ ap (λ q. got (Some item) q rest) far

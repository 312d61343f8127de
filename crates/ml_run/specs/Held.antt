-- An item in hand is short: a place can count its bytes.
use Rattle.std.proofs.Common.{◌≡◌, ℕ, ◌+◌, ◌<◌, ◌≤◌, ◌^◌, [], ◌∷◌, ◌++◌, length, Option, Some, None, ap, arith, length-append}
use Rattle.std.specs.Fmt.{decimal}
use Rattle.std.proofs.lemmas.Fmt.{length-decimal-le}
use Rattle.hex.specs.Hex.{encode_lower, lower_digits}
use Rattle.hex.proofs.HexLemmas.{length-encode_with}
use Rattle.ml_base.specs.Bytes.{Text, colon, comma}
use Rattle.ml_base.specs.Name.{set_word}
use Rattle.ml_base.specs.Netstrings.{ns}
use Rattle.ml_base.specs.declared.names.Set.{Set}
use Rattle.ml_base.specs.declared.names.Set.TheVariants as sets
use Rattle.ml_base.proofs.Addresses.{address_short}
use Rattle.ml_plain.specs.Items.{IsAct, IsItem}
use Rattle.ml_plain.specs.declared.Item.{Item}
use Rattle.ml_plain.specs.declared.Act.{Act}
use Rattle.ml_plain.specs.declared.Act.TheVariants.{Deliver, Timed, Add, Remove, Sent, Rekey, Floor}
use Rattle.ml_stream.specs.Writing.{IsTyped, spelled_act, spelled_item}
use Rattle.ml_run.specs.Feeds.{IsHeld, bytes_held}

-- a netstring is at most 10 bytes longer than its content, if that is no longer than a message may be
ns_short : (x : Text) → length x ≤ 33_554_432 → length (ns x) ≤ length x + 10
ns_short x fits =
    let digits : length (decimal (length x)) ≤ 8 = length-decimal-le 8 (length x) (omega arith) (omega (arith, fits)) (omega (arith, fits)) in
    omega (arith, digits, length-append (decimal (length x) ++ (colon ∷ x)) (comma ∷ []), length-append (decimal (length x)) (colon ∷ x))

number_short : (n : ℕ) → n < 10 ^ 16 → length (ns (decimal n)) ≤ 26
number_short n small =
    let digits : length (decimal n) ≤ 16 = length-decimal-le 16 n (omega arith) small (omega (arith, small)) in
    omega (arith, digits, ns_short (decimal n) (omega (arith, digits)))

word_short : (set : Set) → length (set_word set) ≤ 6
word_short sets.List = omega arith
word_short sets.Digest = omega arith
word_short sets.Allow = omega arith
word_short sets.Deny = omega arith
word_short sets.Moderators = omega arith

member_short : (set : Set) (who : Text) → length who ≤ 400 → length (ns (set_word set) ++ ns who) ≤ 426
member_short set who fits = omega (arith, word_short set, ns_short (set_word set) (omega (arith, word_short set)), ns_short who (omega (arith, fits)), length-append (ns (set_word set)) (ns who), fits)

act_short : (act : Act) → IsAct act → IsTyped act → length (spelled_act act) ≤ 2 ^ 26
act_short (Deliver sender recipient message) fits typed =
    omega (
      arith,
      fits.from,
      fits.to,
      fits.body,
      ns_short sender (omega (arith, fits.from)),
      ns_short recipient (omega (arith, fits.to)),
      ns_short message fits.body,
      length-append (ns sender ++ ns recipient) (ns message),
      length-append (ns sender) (ns recipient),
    )
act_short Timed fits typed = omega arith
act_short (Add set who) fits typed = omega (arith, member_short set who (address_short who typed))
act_short (Remove set who) fits typed = omega (arith, member_short set who (address_short who typed))
act_short (Sent id) fits typed = omega (arith, number_short id (omega (arith, fits.to)))
act_short (Rekey key) fits typed =
    let size : length (encode_lower key) ≤ 64 = omega (arith, length-encode_with lower_digits key, typed.0) in omega (arith, size, ns_short (encode_lower key) (omega (arith, size)))
act_short (Floor at) fits typed = omega (arith, number_short at (omega (arith, fits.1)))

-- a place can count an item's own bytes
item_short : (item : Item) → IsItem item → IsTyped item.act → length (spelled_item item) < 2 ^ 64
item_short item ranges typed =
    let number = ns (decimal item.number) in
    let moment = ns (decimal item.moment) in
    omega (arith, number_short item.number (omega (arith, ranges.number)), number_short item.moment (omega (arith, ranges.moment)), act_short item.act ranges.act typed, length-append (number ++ moment) (spelled_act item.act), length-append number moment)

pub held_room : (item : Item) (held : Option Item) (bytes : Text) → IsHeld item held → Some (bytes_held item held) ≡ Some bytes → length bytes < 2 ^ 64
held_room item (Some x) bytes h is = let same : spelled_item item ≡ bytes = cc in omega (arith, ap length same, item_short item h.ranges h.typed)
held_room item None bytes h is = let same : [] ≡ bytes = cc in omega (arith, ap length same)

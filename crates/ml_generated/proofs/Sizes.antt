-- How long the texts in the items of an exercise are at most.
use Rattle.std.proofs.Common.{◌≡◌, ℕ, ◌+◌, ◌%◌, ◌^◌, ◌<◌, ◌≤◌, [], ◌∷◌, ◌++◌, length, arith, codes, length-append}
use Rattle.std.proofs.lemmas.Fmt.{length-decimal-le}
use Rattle.std.specs.Fmt.{decimal}
use Rattle.ml_base.specs.Bytes.{Text}
use Rattle.ml_base.specs.Netstrings.{ns}
use Rattle.ml_generated.specs.Texts.{address, bounce_address, bounced_post, line, list_address, message, person}

pub digits_short : (n : ℕ) → n < 2 ^ 64 → length (decimal n) ≤ 20
digits_short n fits = length-decimal-le 20 n (omega arith) (omega arith) fits

pub ns_short : (t : Text) → length t < 2 ^ 64 → length (ns t) ≤ length t + 22
ns_short t fits = let digits = digits_short (length t) fits in grind (arith, digits, length-append)

pub address_size : (i : ℕ) → length (address i) ≤ 28
address_size i =
    let digits = digits_short (person i) (omega arith) in
    let parts = length-append (decimal (person i)) (codes "@ex.com") in
    omega (arith, digits, parts)

five : (a b c d e : Text) → length (a ++ b ++ c ++ d ++ e) ≡ length a + length b + length c + length d + length e
five a b c d e = grind (arith, length-append)

seven : (a b c d e f g : Text) → length (a ++ b ++ c ++ d ++ e ++ f ++ g) ≡ length a + length b + length c + length d + length e + length f + length g
seven a b c d e f g = grind (arith, length-append)

pub bounce_size : (local host : Text) (i : ℕ) → length local ≤ 60 → length host ≤ 255 → i < 1_000_000 → length (bounce_address local host i) ≤ 373
bounce_size local host i few some small =
    let post = digits_short (bounced_post i) (grind arith) in
    let who = digits_short (person i) (omega arith) in
    let all : length (bounce_address local host i) ≡ length local + 8 + length (decimal (bounced_post i)) + 2 + length (decimal (person i)) + 7 + length (64 ∷ host) =
    seven local (codes "-return-") (decimal (bounced_post i)) (codes "-u") (decimal (person i)) (codes "=ex.com") (64 ∷ host) in
    omega (arith, post, who, all)

line_size : (a b : Text) → length (line (a ++ b)) ≡ length a + length b + 1
line_size a b = grind (arith, length-append)

pub message_size : (local host : Text) (i : ℕ) → length local ≤ 60 → length host ≤ 255 → i < 1_000_000 → length (message local host i) ≤ 419
message_size local host i few some small =
    let who = address_size i in
    let topic = digits_short (i % 7) (omega arith) in
    let post = digits_short i (omega arith) in
    let own = length-append local (64 ∷ host) in
    let all : length (message local host i) ≡ length (line (codes "From: " ++ address i)) + length (line (codes "To: " ++ list_address local host)) + length (line (codes "Subject: topic " ++ decimal (i % 7))) + length (line []) + length (line (codes "post " ++ decimal i)) =
    five (line (codes "From: " ++ address i)) (line (codes "To: " ++ list_address local host)) (line (codes "Subject: topic " ++ decimal (i % 7))) (line []) (line (codes "post " ++ decimal i)) in
    let one : length (line (codes "From: " ++ address i)) ≡ 6 + length (address i) + 1 = line_size (codes "From: ") (address i) in
    let two : length (line (codes "To: " ++ list_address local host)) ≡ 4 + length (list_address local host) + 1 = line_size (codes "To: ") (list_address local host) in
    let three : length (line (codes "Subject: topic " ++ decimal (i % 7))) ≡ 15 + length (decimal (i % 7)) + 1 = line_size (codes "Subject: topic ") (decimal (i % 7)) in
    let six : length (line (codes "post " ++ decimal i)) ≡ 5 + length (decimal i) + 1 = line_size (codes "post ") (decimal i) in
    omega (arith, who, topic, post, own, all, one, two, three, six)

use Rattle.std.proofs.Common.{arith, length, length-take, get_or, [], ◌≡◌, ◌∙◌, ℕ, ◌<◌, Some, ap₂, sym}
use Rattle.ml_base.specs.Bytes.{Text}
use Rattle.ml_base.specs.Ranges.{IsMoment}
use Rattle.ml_config.proofs.KeyLemmas.{Cut, former_read, former_text_is, no_bytes, small_number}
use Rattle.ml_config.proofs.key_file.read_former.Goals as goal

pub returns-clause-read : goal.returns-clause-read
returns-clause-read c = λ f is e.
    let key = c.in_ok-key.ensures.cases in
    let number = c.in_ok-digits.ensures.cases in
    let cut : Cut c.args.bytes.now c.in_ok-key.key.now c.in_ok-key.rest.now c.in_ok-digits.digits.now c.in_ok-digits.end.now =
    record { front = key.0; back = key.1; number = number.0; tail = number.1 } in
    let read = former_read _ _ _ _ _ _ f cut c.from_be_bytes-changed.ensures is e in
    ap₂ (λ (k : Text) (n : ℕ). Some (record { key = k; changed = n })) read.0 read.1

pub returns-then-not-is_moment-clause-read : goal.returns-then-not-is_moment-clause-read
returns-then-not-is_moment-clause-read c = λ f is e.
    let key = c.in_ok-key.ensures.cases in
    let number = c.in_ok-digits.ensures.cases in
    let cut : Cut c.args.bytes.now c.in_ok-key.key.now c.in_ok-key.rest.now c.in_ok-digits.digits.now c.in_ok-digits.end.now =
    record { front = key.0; back = key.1; number = number.0; tail = number.1 } in
    let read = former_read _ _ _ _ _ _ f cut c.from_be_bytes-changed.ensures is e in
    let moment : IsMoment c.from_be_bytes-changed.result = rw read.1 is.changed in
    let yes = c.is_moment.ensures.moment.1 moment in
    absurd (cc (yes, c.if-not-is_moment.true))

pub returns-clause-value : goal.returns-clause-value
returns-clause-value c =
    let key = c.in_ok-key.ensures.cases in
    let number = c.in_ok-digits.ensures.cases in
    let cut : Cut c.args.bytes.now c.in_ok-key.key.now c.in_ok-key.rest.now c.in_ok-digits.digits.now c.in_ok-digits.end.now =
    record { front = key.0; back = key.1; number = number.0; tail = number.1 } in
    let size : length c.in_ok-digits.digits.now ≡ 8 = rw number.0 (omega (arith, number.2, length-take {A = ℕ})) in
    let small : (i : ℕ) → get_or c.args.bytes.now i 0 < 256 = λ i. omega (arith, c.type_inv.bytes i) in
    let empty : c.in_ok-digits.end.now ≡ [] = no_bytes _ (sym c.is_empty.ensures ∙ c.if-not-is_empty.false) in
    let size_key : length c.in_ok-key.key.now ≡ 32 = rw key.0 (omega (arith, key.2, length-take {A = ℕ})) in (
      record { key = size_key; changed = c.is_moment.ensures.moment.0 c.if-not-is_moment.false },
      former_text_is _ _ _ _ _ _ cut c.from_be_bytes-changed.ensures size (small_number _ _ _ _ _ cut small) empty,
    )

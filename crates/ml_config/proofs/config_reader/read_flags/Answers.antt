use Rattle.std.proofs.Common.{◌≡◌, ◌∙◌, ℕ, ◌∷◌, ap, ap₂, slice_index, refl}
use Rattle.ml_base.specs.Bytes.{Text}
use Rattle.ml_config.proofs.ReadLemmas.{fourteen}
use Rattle.ml_config.proofs.config_reader.read_flags.Goals as goal

pub returns-in_err-read_letter-clause-read : goal.returns-in_err-read_letter-clause-read
returns-in_err-read_letter-clause-read c = λ flags e.
    let some = c.read_letter.ensures.read flags.b (ap (λ t. slice_index t 0) e) in
    absurd (cc (some, c.in_err-read_letter.was))

pub returns-in_err-read_letter-2-clause-read : goal.returns-in_err-read_letter-2-clause-read
returns-in_err-read_letter-2-clause-read c = λ flags e.
    let some = c.read_letter-2.ensures.read flags.d (ap (λ t. slice_index t 1) e) in
    absurd (cc (some, c.in_err-read_letter-2.was))

pub returns-in_err-read_letter-3-clause-read : goal.returns-in_err-read_letter-3-clause-read
returns-in_err-read_letter-3-clause-read c = λ flags e.
    let some = c.read_letter-3.ensures.read flags.f (ap (λ t. slice_index t 2) e) in
    absurd (cc (some, c.in_err-read_letter-3.was))

pub returns-in_err-read_letter-4-clause-read : goal.returns-in_err-read_letter-4-clause-read
returns-in_err-read_letter-4-clause-read c = λ flags e.
    let some = c.read_letter-4.ensures.read flags.g (ap (λ t. slice_index t 3) e) in
    absurd (cc (some, c.in_err-read_letter-4.was))

pub returns-in_err-read_letter-5-clause-read : goal.returns-in_err-read_letter-5-clause-read
returns-in_err-read_letter-5-clause-read c = λ flags e.
    let some = c.read_letter-5.ensures.read flags.h (ap (λ t. slice_index t 4) e) in
    absurd (cc (some, c.in_err-read_letter-5.was))

pub returns-in_err-read_letter-6-clause-read : goal.returns-in_err-read_letter-6-clause-read
returns-in_err-read_letter-6-clause-read c = λ flags e.
    let some = c.read_letter-6.ensures.read flags.j (ap (λ t. slice_index t 5) e) in
    absurd (cc (some, c.in_err-read_letter-6.was))

pub returns-in_err-read_letter-7-clause-read : goal.returns-in_err-read_letter-7-clause-read
returns-in_err-read_letter-7-clause-read c = λ flags e.
    let some = c.read_letter-7.ensures.read flags.k (ap (λ t. slice_index t 6) e) in
    absurd (cc (some, c.in_err-read_letter-7.was))

pub returns-in_err-read_letter-8-clause-read : goal.returns-in_err-read_letter-8-clause-read
returns-in_err-read_letter-8-clause-read c = λ flags e.
    let some = c.read_letter-8.ensures.read flags.l (ap (λ t. slice_index t 7) e) in
    absurd (cc (some, c.in_err-read_letter-8.was))

pub returns-in_err-read_letter-9-clause-read : goal.returns-in_err-read_letter-9-clause-read
returns-in_err-read_letter-9-clause-read c = λ flags e.
    let some = c.read_letter-9.ensures.read flags.m (ap (λ t. slice_index t 8) e) in
    absurd (cc (some, c.in_err-read_letter-9.was))

pub returns-in_err-read_letter-10-clause-read : goal.returns-in_err-read_letter-10-clause-read
returns-in_err-read_letter-10-clause-read c = λ flags e.
    let some = c.read_letter-10.ensures.read flags.p (ap (λ t. slice_index t 9) e) in
    absurd (cc (some, c.in_err-read_letter-10.was))

pub returns-in_err-read_letter-11-clause-read : goal.returns-in_err-read_letter-11-clause-read
returns-in_err-read_letter-11-clause-read c = λ flags e.
    let some = c.read_letter-11.ensures.read flags.r (ap (λ t. slice_index t 10) e) in
    absurd (cc (some, c.in_err-read_letter-11.was))

pub returns-in_err-read_letter-12-clause-read : goal.returns-in_err-read_letter-12-clause-read
returns-in_err-read_letter-12-clause-read c = λ flags e.
    let some = c.read_letter-12.ensures.read flags.s (ap (λ t. slice_index t 11) e) in
    absurd (cc (some, c.in_err-read_letter-12.was))

pub returns-in_err-read_letter-13-clause-read : goal.returns-in_err-read_letter-13-clause-read
returns-in_err-read_letter-13-clause-read c = λ flags e.
    let some = c.read_letter-13.ensures.read flags.t (ap (λ t. slice_index t 12) e) in
    absurd (cc (some, c.in_err-read_letter-13.was))

pub returns-in_err-read_letter-14-clause-read : goal.returns-in_err-read_letter-14-clause-read
returns-in_err-read_letter-14-clause-read c = λ flags e.
    let some = c.read_letter-14.ensures.read flags.u (ap (λ t. slice_index t 13) e) in
    absurd (cc (some, c.in_err-read_letter-14.was))

then : {a b : ℕ} {xs ys : Text} → a ≡ b → xs ≡ ys → a ∷ xs ≡ b ∷ ys
then e f = ap₂ (λ x y. x ∷ y) e f

pub returns-clause-spelled : goal.returns-clause-spelled
returns-clause-spelled c =
    fourteen c.args.text.now c.in-len14.len_at_least c.in-len14.len_below
    ∙ then c.in_ok-read_letter.ensures.spelled (then c.in_ok-read_letter-2.ensures.spelled (then c.in_ok-read_letter-3.ensures.spelled (
    then c.in_ok-read_letter-4.ensures.spelled (then c.in_ok-read_letter-5.ensures.spelled (then c.in_ok-read_letter-6.ensures.spelled (
    then c.in_ok-read_letter-7.ensures.spelled (then c.in_ok-read_letter-8.ensures.spelled (then c.in_ok-read_letter-9.ensures.spelled (
    then c.in_ok-read_letter-10.ensures.spelled (then c.in_ok-read_letter-11.ensures.spelled (then c.in_ok-read_letter-12.ensures.spelled (
    then c.in_ok-read_letter-13.ensures.spelled (then c.in_ok-read_letter-14.ensures.spelled refl)))))))))))))

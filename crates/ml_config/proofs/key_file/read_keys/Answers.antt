use Rattle.std.proofs.Common.{arith, length, length-take, ◌≡◌, ◌∙◌, ℕ, Option, Some, ap, ap₂, sym, ◌++◌}
use Rattle.std.proofs.lemmas.List.{take-append-drop}
use Rattle.ml_base.specs.Bytes.{Text}
use Rattle.ml_config.specs.KeyFile.{former_text}
use Rattle.ml_config.specs.declared.key_file.Former.{Former}
use Rattle.ml_config.proofs.KeyLemmas.{keys_cut, no_bytes, no_former, some_former}
use Rattle.ml_config.proofs.key_file.read_keys.Goals as goal

pub returns-then-is_empty-clause-read : goal.returns-then-is_empty-clause-read
returns-then-is_empty-clause-read c = λ keys are e.
    let cut = c.in_ok-key.ensures.cases in
    let parts = keys_cut c.args.bytes.now _ _ keys are e cut.0 cut.1 in
    let empty = no_bytes c.in_ok-key.rest.now (sym c.is_empty.ensures ∙ c.if-is_empty.true) in
    let none = no_former keys.former (sym parts.1 ∙ empty) in
    ap₂ (λ (k : Text) (f : Option Former). Some (record { key = k; former = f })) parts.0 (sym none)

pub returns-then-is_empty-clause-value : goal.returns-then-is_empty-clause-value
returns-then-is_empty-clause-value c =
    let cut = c.in_ok-key.ensures.cases in
    let empty = no_bytes c.in_ok-key.rest.now (sym c.is_empty.ensures ∙ c.if-is_empty.true) in
    let size : length c.in_ok-key.key.now ≡ 32 = rw cut.0 (omega (arith, cut.2, length-take {A = ℕ})) in
    (record { key = size; former = tt }, sym (take-append-drop 32 c.args.bytes.now) ∙ ap₂ (λ a b. a ++ b) (sym cut.0) (sym cut.1 ∙ empty))

pub returns-in_err-former-clause-read : goal.returns-in_err-former-clause-read
returns-in_err-former-clause-read c = λ keys are e.
    let cut = c.in_ok-key.ensures.cases in
    let parts = keys_cut c.args.bytes.now _ _ keys are e cut.0 cut.1 in
    let f = some_former keys.former c.in_ok-key.rest.now parts.1 (sym c.is_empty.ensures ∙ c.if-is_empty.false) are.former in
    let some = c.read_former.ensures.read f.0 f.2 (parts.1 ∙ ap former_text f.1) in
    absurd (cc (some, c.in_err-former.was))

pub returns-clause-read : goal.returns-clause-read
returns-clause-read c = λ keys are e.
    let cut = c.in_ok-key.ensures.cases in
    let parts = keys_cut c.args.bytes.now _ _ keys are e cut.0 cut.1 in
    let f = some_former keys.former c.in_ok-key.rest.now parts.1 (sym c.is_empty.ensures ∙ c.if-is_empty.false) are.former in
    let some = c.read_former.ensures.read f.0 f.2 (parts.1 ∙ ap former_text f.1) in
    let same : Some c.in_ok-former.former ≡ keys.former = sym c.in_ok-former.was ∙ some ∙ sym f.1 in
    ap₂ (λ (k : Text) (o : Option Former). Some (record { key = k; former = o })) parts.0 same

pub returns-clause-value : goal.returns-clause-value
returns-clause-value c =
    let cut = c.in_ok-key.ensures.cases in
    let size : length c.in_ok-key.key.now ≡ 32 = rw cut.0 (omega (arith, cut.2, length-take {A = ℕ})) in
    let value = c.in_ok-former.ensures.value in
    (record { key = size; former = value.0 }, sym (take-append-drop 32 c.args.bytes.now) ∙ ap₂ (λ a b. a ++ b) (sym cut.0) (sym cut.1 ∙ value.1))

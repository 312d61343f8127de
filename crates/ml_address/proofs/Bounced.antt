-- The envelope sender of a copy, as it is written, is read as a bounce of that copy's recipient.
use Rattle.std.proofs.Common.{◌≡◌, ℕ, true, false, ◌&&◌, [], ◌∷◌, ◌++◌, Some, refl, ap, ap₂, sym, ◌∙◌, is_ok, append_assoc, append-nil, codes}
use Rattle.std.specs.Fmt.{decimal}
use Rattle.ml_base.specs.Bytes.{Text}
use Rattle.ml_base.specs.Address.{address_check, IsAddress}
use Rattle.ml_base.specs.Ranges.{is_moment, is_post_number}
use Rattle.ml_base.specs.Splits.{has_byte}
use Rattle.ml_base.specs.declared.names.Set.{Set}
use Rattle.ml_base.specs.declared.names.Set.TheVariants as sets
use Rattle.ml_base.proofs.Addresses.{address_parts}
use Rattle.ml_address.specs.Requests.{Signed, Bounce, WarnBounce, ProbeBounce, ReplyBounce, set_front, is_mailed, is_cookie, is_who, is_signed}
use Rattle.ml_address.specs.Reading.{request_of}
use Rattle.ml_address.specs.Writing.{ticket_text, request_text}
use Rattle.ml_address.specs.Paths.{verp, who_at, naming_path, answer_path, with_equals}
use Rattle.ml_address.proofs.Written.{request_read}

parts_are : (address : Text) → IsAddress address → is_who (who_at address) ≡ true
parts_are address a = ap (λ t. is_ok (address_check t)) (sym (address_parts address a).0) ∙ ap is_ok a.checks

abbrev signed : ℕ → Text → Text → Signed
signed time cookie address = record { time = time; cookie = cookie; who = who_at address }

signed_is : (address cookie : Text) (time : ℕ) → IsAddress address → is_moment time ≡ true → is_cookie cookie ≡ true → is_signed (signed time cookie address) ≡ true
signed_is address cookie time a t c = ap₂ (λ p q. p && q) (ap₂ (λ p q. p && q) t c) (parts_are address a)

-- LOCAL, a hyphen, words, an address and HOST, joined in two ways
regrouped : (local front word value named host : Text) → (((local ++ 45 ∷ (((front ++ word) ++ value) ++ 45 ∷ [])) ++ named) ++ 64 ∷ host) ≡ ((local ++ ((((45 ∷ front) ++ word) ++ value) ++ 45 ∷ named)) ++ 64 ∷ host)
regrouped local front word value named host = simp append_assoc

joined_signed : (local front word value named host : Text) → (((local ++ 45 ∷ (((front ++ word) ++ value) ++ 45 ∷ [])) ++ named) ++ 64 ∷ host) ≡ ((local ++ (((45 ∷ front) ++ word) ++ (value ++ 45 ∷ named))) ++ 64 ∷ host)
joined_signed local front word value named host = simp append_assoc

pub numbered : (local host address : Text) (set : Set) (number : ℕ) → has_byte 64 host ≡ false → IsAddress address → is_mailed set ≡ true → is_post_number number ≡ true
    → request_of local host (verp (naming_path local host (set_front set ++ codes "return-" ++ decimal number ++ codes "-")) address) ≡ Some (Bounce set number (who_at address))
unfolding request_text
numbered local host address set number clean a m n =
    ap (request_of local host) (regrouped local (set_front set) (codes "return-") (decimal number) (with_equals address) host)
    ∙ request_read local host (Bounce set number (who_at address)) clean (ap₂ (λ p q. p && q) (ap₂ (λ p q. p && q) m n) (parts_are address a))

pub warned : (local host address cookie : Text) (set : Set) (time : ℕ) → has_byte 64 host ≡ false → IsAddress address → is_mailed set ≡ true → is_moment time ≡ true → is_cookie cookie ≡ true
    → request_of local host (verp (naming_path local host (set_front set ++ codes "return-warn-" ++ ticket_text time cookie ++ codes "-")) address) ≡ Some (WarnBounce set (signed time cookie address))
unfolding request_text
warned local host address cookie set time clean a m t c =
    ap (request_of local host) (joined_signed local (set_front set) (codes "return-warn-") (ticket_text time cookie) (with_equals address) host)
    ∙ request_read local host (WarnBounce set (signed time cookie address)) clean (ap₂ (λ p q. p && q) m (signed_is address cookie time a t c))

pub probed : (local host address cookie : Text) (set : Set) (time : ℕ) → has_byte 64 host ≡ false → IsAddress address → is_mailed set ≡ true → is_moment time ≡ true → is_cookie cookie ≡ true
    → request_of local host (verp (naming_path local host (set_front set ++ codes "return-probe-" ++ ticket_text time cookie ++ codes "-")) address) ≡ Some (ProbeBounce set (signed time cookie address))
unfolding request_text
probed local host address cookie set time clean a m t c =
    ap (request_of local host) (joined_signed local (set_front set) (codes "return-probe-") (ticket_text time cookie) (with_equals address) host)
    ∙ request_read local host (ProbeBounce set (signed time cookie address)) clean (ap₂ (λ p q. p && q) m (signed_is address cookie time a t c))

pub answered : (local host address : Text) → has_byte 64 host ≡ false → request_of local host (verp (answer_path local host) address) ≡ Some (ReplyBounce sets.List)
unfolding request_text
answered local host address clean =
    ap (λ t. request_of local host (t ++ 64 ∷ host)) (append-nil (local ++ codes "-return-"))
    ∙ request_read local host (ReplyBounce sets.List) clean refl

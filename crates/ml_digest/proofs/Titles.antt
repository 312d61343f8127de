-- The subject of a digest is read as exactly the name and the number that it spells.
use Rattle.std.proofs.Common.{◌≡◌, ◌≢◌, ◌<◌, ℕ, true, false, ◌==◌, [], ◌∷◌, ◌++◌, length, Option, Some, None, sym, ap, ap₂, ◌∙◌, arith, append_assoc, codes}
use Rattle.std.specs.Fmt.{decimal}
use Rattle.std.proofs.lemmas.List.{append_cancel_left, append_cancel_right}
use Rattle.std.proofs.lemmas.Bool.{eqb-true}
use Rattle.ml_base.specs.Address.{before_at, past_at}
use Rattle.ml_base.specs.Bytes.{Text, split_last}
use Rattle.ml_base.specs.Numbers.{number_of}
use Rattle.ml_base.proofs.NumberLaws.{number_spelled, number_read}
use Rattle.ml_base.proofs.SplitLaws.{last_read}
use Rattle.ml_base.proofs.Cuts.{two, no_two}
use Rattle.ml_digest.specs.Digest.{issue_title}
use Rattle.ml_digest.specs.Reading.{IsTitle}
use Rattle.ml_digest.proofs.OneDigest.{title_cut}

abbrev one_number : ℕ → Option ℕ
one_number n = Some n

abbrev no_number : Option ℕ
no_number = None

-- a line that is no title
abbrev pub Untitled : Text → Type 0
Untitled line = (name : Text) (issue : ℕ) → ¬ IsTitle line name issue

module _ (line title : Text) (front_is : line ≡ codes "Subject: " ++ title) where
  split : (name : Text) (issue : ℕ) → IsTitle line name issue → split_last 32 title ≡ two (name ++ codes " Digest Issue") (decimal issue)
  split name issue is =
      let small = is.readable in
      ap (split_last 32) (append_cancel_left (codes "Subject: ") title (issue_title name issue) (sym front_is ∙ is.spelled)) ∙ title_cut name issue (omega (arith, small))

  pub no_split : None ≡ split_last 32 title → Untitled line
  no_split none name issue is = let bad : no_two ≡ two (name ++ codes " Digest Issue") (decimal issue) = none ∙ split name issue is in cc

  module _ (front digits : Text) (cut : Some (front, digits) ≡ split_last 32 title) where
    front_told : (name : Text) (issue : ℕ) → IsTitle line name issue → front ≡ name ++ codes " Digest Issue"
    front_told name issue is = ap before_at (let both : two front digits ≡ two (name ++ codes " Digest Issue") (decimal issue) = cut ∙ split name issue is in both)

    digits_told : (name : Text) (issue : ℕ) → IsTitle line name issue → digits ≡ decimal issue
    digits_told name issue is = ap past_at (let both : two front digits ≡ two (name ++ codes " Digest Issue") (decimal issue) = cut ∙ split name issue is in both)

    number_told : (name : Text) (issue : ℕ) → IsTitle line name issue → number_of digits ≡ Some issue
    number_told name issue is = ap number_of (digits_told name issue is) ∙ number_read 999_999_999_999_999_999 issue (omega arith) is.readable

    pub no_name : ((name : Text) → front ≢ name ++ codes " Digest Issue") → Untitled line
    no_name none name issue is = none name (front_told name issue is)

    pub no_issue : None ≡ number_of digits → Untitled line
    no_issue none name issue is = let bad : no_number ≡ one_number issue = none ∙ number_told name issue is in cc

    pub zero_issue : (n : ℕ) → Some n ≡ number_of digits → n ≡ 0 → Untitled line
    zero_issue n read zero name issue is =
        let both : one_number n ≡ one_number issue = read ∙ number_told name issue is in
        let same : n ≡ issue = cc in
        let some = is.from_one in
        omega (arith, same, zero, some)

    module _ (name : Text) (ends : front ≡ name ++ codes " Digest Issue") where
      pub empty_name : (length name == 0) ≡ true → Untitled line
      empty_name none other issue is =
          let same : name ≡ other = append_cancel_right name other (codes " Digest Issue") (sym ends ∙ front_told other issue is) in
          let some = is.named in
          let size = ap length same in
          let n = eqb-true (length name) 0 none in
          omega (arith, some, size, n)

      pub titled : (issue : ℕ) → (length name == 0) ≡ false → Some issue ≡ number_of digits → issue ≢ 0 → IsTitle line name issue
      titled issue some read other =
          let number = number_spelled 999_999_999_999_999_999 digits issue (omega arith) (sym read) in
          record {
            named = filled name some;
            from_one = omega (arith, other);
            readable = number.0;
            spelled = front_is ∙ ap (λ (t : Text). codes "Subject: " ++ t) ((last_read 32 title front digits (sym cut)).0 ∙ ap₂ (λ (a b : Text). a ++ 32 ∷ b) ends number.1
                ∙ append_assoc name (codes " Digest Issue") (32 ∷ decimal issue) ∙ sym (append_assoc name (codes " Digest Issue ") (decimal issue)));
          }
        where
          filled : (t : Text) → (length t == 0) ≡ false → 0 < length t
          filled [] e = absurd (let bad : true ≡ false = e in cc)
          filled (x ∷ xs) e = omega arith

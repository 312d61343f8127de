-- What a bucket's text spells, by its layout and its records.
use Rattle.std.proofs.Common.{◌≡◌, ℕ, ◌<◌, List, [], ◌∷◌, ◌++◌, append_assoc, append-nil, length, drop, get_or, Option, Some, None, sym, ap, ◌∙◌, subst, arith}
use Rattle.std.specs.List.{AllByRecursion}
use Rattle.ml_base.specs.Bytes.{Text}
use Rattle.ml_keyed.specs.Records.{records_in}
use Rattle.ml_keyed.proofs.Exact.{file_one, file_read, file_unread}
use Rattle.ml_subs.specs.declared.member_list.Member.{Member}
use Rattle.ml_subs.specs.declared.records.Layout.{Layout}
use Rattle.ml_subs.specs.declared.records.Layout.TheVariants.{Undated, Dated}
use Rattle.ml_subs.specs.Buckets.{IsBucket, IsMember, bucket_text, layout_line, record_text, records}
use Rattle.ml_subs.specs.Members.{member_key}
use Rattle.ml_subs.specs.Reading.{AreRead, IsFront, member_at, record_at}
use Rattle.ml_rows.proofs.RowLaws.{one_some}
use Rattle.ml_subs.proofs.Spelled.{in_bucket, member_read, member_written, record_parts, record_some, record_there}

module _ (layout : Layout) (n : ℕ) (body : Text) where
  abbrev found : Option (List Member)
  found = records_in member_at member_key (record { n = n; layout = layout }) body

  -- the records of a bucket are read as exactly the members that they spell
  pub body_read : (ms : List Member) → found ≡ Some ms → AreRead layout n body ms
  body_read ms e = file_read (IsMember layout) member_key (record_text layout) (in_bucket layout) (member_written layout) (member_read layout) (record_some layout) n (Some body) ms e

  pub body_unread : found ≡ None → (ms : List Member) → AreRead layout n body ms → ⊥
  body_unread e ms is = file_unread (IsMember layout) member_key (record_text layout) (in_bucket layout) (member_written layout) (member_read layout) (record_some layout) n (Some body) ms e is

  pub body_one : (ms others : List Member) → AreRead layout n body ms → AreRead layout n body others → ms ≡ others
  body_one ms others is other = file_one (IsMember layout) member_key (record_text layout) (in_bucket layout) (member_written layout) (member_read layout) (record_some layout) n (Some body) ms others is other

module _ (text : Text) (layout : Layout) (body : Text) (front : IsFront text layout body) where
  pub layout_only : (n : ℕ) (ms : List Member) → IsBucket n text ms → AreRead layout n body ms
  layout_only n [] is = let some = is.some in absurd (omega arith)
  layout_only n (m ∷ ms) is = go layout front is.layout is.each is.spelled
    where
      made : (l : Layout) → AllByRecursion (IsMember l n) (m ∷ ms) → body ≡ records l (m ∷ ms) → AreRead l n body (m ∷ ms)
      made l each e = record { each = each; sorted = is.ordered; spelled = e }

      go : (l : Layout) → IsFront text l body → (k : Layout) → AllByRecursion (IsMember k n) (m ∷ ms) → text ≡ bucket_text k (m ∷ ms) → AreRead l n body (m ∷ ms)
      go Dated front Dated each e = made Dated each (ap (drop 9) (sym front ∙ e))
      go Dated front Undated each e = absurd (let bad : layout_line Dated ++ body ≡ 84 ∷ _ = sym front ∙ e ∙ record_parts Undated m (records Undated ms) in let first = ap (λ t. get_or t 0 0) bad in omega (arith, first))
      go Undated front Dated each e = absurd (front.1 (records Dated (m ∷ ms)) e)
      go Undated front Undated each e = made Undated each (front.0 ∙ e)

  pub layout_makes : 0 < length body → (n : ℕ) (ms : List Member) → AreRead layout n body ms → IsBucket n text ms
  layout_makes some n [] is = absurd (let none = ap length is.spelled in omega (arith, none, some))
  layout_makes some n (m ∷ ms) is = record { some = omega arith; ordered = is.sorted; layout = layout; each = is.each; spelled = go layout front is.spelled }
    where
      go : (l : Layout) → IsFront text l body → body ≡ records l (m ∷ ms) → text ≡ bucket_text l (m ∷ ms)
      go Dated front e = front ∙ ap (λ t. layout_line Dated ++ t) e
      go Undated front e = sym front.0 ∙ e

  -- a text with nothing after its line is not a bucket's
  pub no_records : length body ≡ 0 → (n : ℕ) (ms : List Member) → IsBucket n text ms → ⊥
  no_records none n [] is = let some = is.some in omega arith
  no_records none n (m ∷ ms) is =
      let read = layout_only n (m ∷ ms) is in
      let long = ap length (read.spelled ∙ record_parts layout m (records layout ms)) in
      omega (arith, none, long)

-- the members of a bucket whose records are left to read, after those that were read
abbrev AreLeft : Layout → ℕ → Text → Text → List Member → Type 0
AreLeft layout n body rest out = (left : List Member) × AllByRecursion (IsMember layout n) left × (rest ≡ records layout left) × AreRead layout n body (out ++ left)

module _ (layout : Layout) (n : ℕ) where
  pub left_first : (rest : Text) (left : List Member) → AllByRecursion (IsMember layout n) left → rest ≡ records layout left → 0 < length rest → (m : Member) × ((more : Text) × (record_at layout rest ≡ Some (m, more)))
  left_first rest [] each e some = absurd (let none = ap length e in omega (arith, none, some))
  left_first rest (m ∷ ms) each e some =
      let first : IsMember layout n m = each.0 in
      (m, (records layout ms, ap (record_at layout) e ∙ record_there layout m (records layout ms) first.address first.since))

  pub left_more : (body rest : Text) (out left : List Member) → AllByRecursion (IsMember layout n) left → rest ≡ records layout left → AreRead layout n body (out ++ left) → (m : Member) (more : Text) → record_at layout rest ≡ Some (m, more)
      → (new : List Member) → new ≡ out ++ m ∷ [] → 0 < length rest → AreLeft layout n body more new
  left_more body rest out [] each e is m more found new made some = absurd (let none = ap length e in omega (arith, none, some))
  left_more body rest out (a ∷ ms) each e is m more found new made some =
      let first : IsMember layout n a = each.0 in
      let pair = one_some (a, records layout ms) (m, more) (sym (record_there layout a (records layout ms) first.address first.since) ∙ ap (record_at layout) (sym e) ∙ found) in
      let all : new ++ ms ≡ out ++ a ∷ ms = ap (λ l. l ++ ms) (made ∙ ap (λ b. out ++ b ∷ []) (sym (ap (λ p. p.0) pair))) ∙ append_assoc out (a ∷ []) ms in
      (ms, each.1, sym (ap (λ p. p.1) pair), subst (AreRead layout n body) (sym all) is)

  pub left_all : (body rest : Text) (out left : List Member) → rest ≡ records layout left → AreRead layout n body (out ++ left) → length rest ≡ 0 → AreRead layout n body out
  left_all body rest out [] e is none = subst (AreRead layout n body) (append-nil out) is
  left_all body rest out (m ∷ ms) e is none = absurd (let long = ap length (e ∙ record_parts layout m (records layout ms)) in omega (arith, none, long))

-- How the records of a bucket's text are read back as its members.
use Rattle.std.proofs.Common.{◌≡◌, ℕ, ◌<◌, ◌^◌, Bool, true, false, ◌==◌, [], ◌∷◌, ◌++◌, length, take, drop, get_or, ◌-◌, ◌≤◌, Option, Some, None, option_map, refl, sym, ap, ap₂, ◌∙◌, subst, arith, append_assoc, length-append}
use Rattle.std.proofs.lemmas.Bool.{eq-eqb, eqb-true}
use Rattle.std.proofs.lemmas.List.{take_all, take_at}
use Rattle.std.specs.Prelude.{if◌then◌else◌}
use Rattle.std.specs.Fmt.{decimal, digits}
use Rattle.std.specs.Option.{option_and_then}
use Rattle.ml_base.specs.Bytes.{Text}
use Rattle.ml_base.specs.Address.{IsAddress}
use Rattle.ml_base.specs.Numbers.{moment_in, number_within}
use Rattle.ml_base.specs.Splits.{split_first}
use Rattle.ml_base.proofs.Addresses.{address_clean}
use Rattle.ml_base.proofs.NumberLaws.{number_read}
use Rattle.ml_base.proofs.SplitLaws.{first_written, first_read}
use Rattle.ml_rows.specs.Rows.{both_of}
use Rattle.ml_rows.specs.Values.{address_in}
use Rattle.ml_rows.proofs.RowLaws.{both_read, both_there, made_read, none_some, one_some, only_read, only_there}
use Rattle.ml_rows.proofs.ValueLaws.{address_is, address_there, decimal_without, moment_read, moment_written}
use Rattle.ml_subs.specs.declared.member_list.Member.{Member}
use Rattle.ml_subs.specs.declared.records.Layout.{Layout}
use Rattle.ml_subs.specs.declared.records.Layout.TheVariants.{Undated, Dated}
use Rattle.ml_subs.specs.Buckets.{bucket_of, IsMomentIn, IsMember, moment_text, record_text}
use Rattle.ml_subs.specs.Members.{member_key}
use Rattle.ml_subs.specs.Reading.{after_letter, member_at, member_by, member_of_parts, moment_at, record_at}

-- a number is written in one way
pub decimal_one : (m n : ℕ) → m < 10 ^ 18 → n < 10 ^ 18 → decimal m ≡ decimal n → m ≡ n
decimal_one m n small fits e =
    let same : Some m ≡ Some n = sym (number_read 999_999_999_999_999_999 m (omega arith) (omega arith)) ∙ ap (number_within 999_999_999_999_999_999) e ∙ number_read 999_999_999_999_999_999 n (omega arith) (omega arith) in
    cc

-- a record as its parts
pub record_parts : (layout : Layout) (m : Member) (more : Text) → record_text layout m ++ more ≡ 84 ∷ (m.who ++ 0 ∷ (moment_text layout m.since ++ more))
record_parts layout m more = ap (λ t. 84 ∷ t) (append_assoc m.who (0 ∷ moment_text layout m.since) more)

pub record_some : (layout : Layout) (m : Member) → 0 < length (record_text layout m)
record_some layout m = omega arith

no_seconds : decimal 0 ≡ 48 ∷ []
unfolding digits
no_seconds = refl

-- a record of layout 1 and the moment 0 are one of layout 2
pub dated_text : (m : Member) → m.since ≡ 0 → record_text Undated m ++ (48 ∷ 0 ∷ []) ≡ record_text Dated m
dated_text m zero = record_parts Undated m (48 ∷ 0 ∷ []) ∙ ap (λ t. 84 ∷ (m.who ++ 0 ∷ (t ++ 0 ∷ []))) (sym no_seconds ∙ ap decimal (sym zero))

-- a step that was taken
then_read : {A B : Type 0} (f : A → Option B) (o : Option A) (b : B) → option_and_then f o ≡ Some b → (a : A) × (o ≡ Some a) × (f a ≡ Some b)
then_read f None b e = absurd (none_some b e)
then_read f (Some a) b e = (a, refl, e)

-- a moment is read as exactly what it spells
pub moment_is : (layout : Layout) (text : Text) (since : ℕ) (more : Text) → moment_at layout text ≡ Some (since, more) → IsMomentIn layout since × (text ≡ moment_text layout since ++ more)
moment_is Undated text since more e = let same = one_some (0, text) (since, more) e in (sym (ap (λ p. p.0) same), ap (λ p. p.1) same)
moment_is Dated text since more e =
    let parts = then_read (λ (p : Text × Text). option_map (λ t. (t, p.1)) (moment_in p.0)) (split_first 0 text) (since, more) e in
    let digits = parts.0.0 in
    let rest = parts.0.1 in
    let number = made_read (λ t. (t, rest)) (moment_in digits) (since, more) parts.2 in
    let is = moment_read digits number.0 number.1 in
    let own : number.0 ≡ since = ap (λ p. p.0) number.2 in
    let left : rest ≡ more = ap (λ p. p.1) number.2 in
    let spelled : digits ≡ decimal since = is.1 ∙ ap decimal own in
    let less = is.0 in (
      omega (arith, less, own),
      (first_read 0 text digits rest parts.1).0 ∙ ap₂ (λ d r. d ++ 0 ∷ r) spelled left ∙ sym (append_assoc (decimal since) (0 ∷ []) more),
    )

pub moment_there : (layout : Layout) (since : ℕ) (more : Text) → IsMomentIn layout since → moment_at layout (moment_text layout since ++ more) ≡ Some (since, more)
moment_there Undated since more is = ap (λ s. Some (s, more)) (sym is)
moment_there Dated since more is =
    let cut : split_first 0 ((decimal since ++ 0 ∷ []) ++ more) ≡ Some (decimal since, more) =
    ap (split_first 0) (append_assoc (decimal since) (0 ∷ []) more) ∙ first_written 0 (decimal since) more (decimal_without 0 since refl (omega (arith, is))) in
    ap (option_and_then (λ (p : Text × Text). option_map (λ t. (t, p.1)) (moment_in p.0))) cut ∙ ap (option_map (λ t. (t, more))) (moment_written since (omega (arith, is)))

-- what comes after a first byte, if that is the letter
abbrev when : Text → Bool → Option Text
when bs t = if t then Some bs else None

-- so is a record
pub record_is : (layout : Layout) (text : Text) (m : Member) (more : Text) → record_at layout text ≡ Some (m, more) → IsAddress m.who × IsMomentIn layout m.since × (text ≡ record_text layout m ++ more)
record_is layout text m more e =
    let letter = then_read (λ rest. option_and_then (member_of_parts layout) (split_first 0 rest)) (after_letter text) (m, more) e in
    let cut = then_read (member_of_parts layout) (split_first 0 letter.0) (m, more) letter.2 in
    let who = cut.0.0 in
    let rest = cut.0.1 in
    let made = made_read (λ (v : Text × (ℕ × Text)). (member_by v.0 v.1.0, v.1.1)) (both_of (address_in who) (moment_at layout rest)) (m, more) cut.2 in
    let v = made.0 in
    let both = both_read (address_in who) (moment_at layout rest) v.0 v.1 made.1 in
    let address = address_is who v.0 both.0 in
    let moment = moment_is layout rest v.1.0 v.1.1 both.1 in
    let own : member_by v.0 v.1.0 ≡ m = ap (λ p. p.0) made.2 in
    let left : v.1.1 ≡ more = ap (λ p. p.1) made.2 in
    let whole : text ≡ record_text layout (member_by v.0 v.1.0) ++ v.1.1 =
    after_is text letter.0 letter.1 ∙ ap (λ t. 84 ∷ t) ((first_read 0 letter.0 who rest cut.1).0 ∙ ap₂ (λ a r. a ++ 0 ∷ r) (sym address.0) moment.1) ∙ sym (record_parts layout (member_by v.0 v.1.0) v.1.1) in (
      subst (λ (p : Member). IsAddress p.who) own (subst IsAddress (sym address.0) address.1),
      subst (λ (p : Member). IsMomentIn layout p.since) own moment.0,
      whole ∙ ap₂ (λ (p : Member) r. record_text layout p ++ r) own left,
    )
  where
    after_is : (text rest : Text) → after_letter text ≡ Some rest → text ≡ 84 ∷ rest
    after_is [] rest e = absurd (none_some rest e)
    after_is (b ∷ bs) rest e = go (b == 84) refl e
      where
        go : (t : Bool) → (b == 84) ≡ t → after_letter (b ∷ bs) ≡ Some rest → b ∷ bs ≡ 84 ∷ rest
        go true is e = ap₂ (λ x xs. x ∷ xs) (eqb-true b 84 is) (one_some bs rest (sym (ap (when bs) is) ∙ e))
        go false is e = absurd (none_some rest (sym (ap (when bs) is) ∙ e))

pub record_there : (layout : Layout) (m : Member) (more : Text) → IsAddress m.who → IsMomentIn layout m.since → record_at layout (record_text layout m ++ more) ≡ Some (m, more)
record_there layout m more address moment =
    let rest = moment_text layout m.since ++ more in
    let cut = first_written 0 m.who rest (address_clean m.who address) in
    ap (record_at layout) (record_parts layout m more) ∙ ap (option_and_then (member_of_parts layout)) cut
    ∙ ap (option_map (λ (v : Text × (ℕ × Text)). (member_by v.0 v.1.0, v.1.1))) (both_there (address_in m.who) (moment_at layout rest) m.who (m.since, more) (address_there m.who address) (moment_there layout m.since more moment))

-- the text after the first byte
abbrev pub body : Text → Text
body text = take (length text - 1) (drop 1 text)

letter_is : (text : Text) → 1 ≤ length text → get_or text 0 0 ≡ 84 → after_letter text ≡ Some (body text)
letter_is [] some first = absurd (omega arith)
letter_is (b ∷ bs) some first = ap (when bs) (eq-eqb b 84 first) ∙ ap Some (sym (take_all (length (b ∷ bs) - 1) bs (omega arith)))

-- a record that is read part by part
module _ (layout : Layout) (text who rest : Text) (some : 1 ≤ length text) (first : get_or text 0 0 ≡ 84) (cut : Some (who, rest) ≡ split_first 0 (body text)) where
  parts_read : record_at layout text ≡ member_of_parts layout (who, rest)
  parts_read = ap (option_and_then (λ t. option_and_then (member_of_parts layout) (split_first 0 t))) (letter_is text some first) ∙ ap (option_and_then (member_of_parts layout)) (sym cut)

  pub record_from : (since : ℕ) (more : Text) → IsAddress who → moment_at layout rest ≡ Some (since, more) → record_at layout text ≡ Some (member_by who since, more)
  record_from since more address moment =
      parts_read ∙ ap (option_map (λ (v : Text × (ℕ × Text)). (member_by v.0 v.1.0, v.1.1))) (both_there (address_in who) (moment_at layout rest) who (since, more) (address_there who address) moment)

  pub record_not : (IsAddress who → ⊥) → record_at layout text ≡ None
  record_not none = parts_read ∙ ap (λ o. option_map (λ (v : Text × (ℕ × Text)). (member_by v.0 v.1.0, v.1.1)) (both_of o (moment_at layout rest))) (go (address_in who) refl)
    where
      go : (o : Option Text) → address_in who ≡ o → address_in who ≡ None
      go None e = e
      go (Some a) e = absurd (none (address_is who a e).1)

-- the bytes of a record that a text begins with
pub own_bytes : (text own more : Text) → text ≡ own ++ more → take (length text - length more) text ≡ own
own_bytes text own more e =
    let long = ap length e in
    let parts = length-append own more in
    ap (take (length text - length more)) e ∙ take_at own more (length text - length more) (omega (arith, long, parts))

pub own_length : (text own more : Text) → text ≡ own ++ more → 0 < length own → length more < length text
own_length text own more e some =
    let long = ap length e in
    let parts = length-append own more in
    omega (arith, long, parts, some)

-- the parts of a record that a text is known to begin with
pub known_parts : (layout : Layout) (text : Text) (m : Member) (more who rest : Text) → record_at layout text ≡ Some (m, more) → Some (who, rest) ≡ split_first 0 (body text) → (who ≡ m.who) × (moment_at layout rest ≡ Some (m.since, more))
known_parts layout text m more who rest e cut =
    let is = record_is layout text m more e in
    let left = moment_text layout m.since ++ more in
    let whole : body text ≡ m.who ++ 0 ∷ left = ap body (is.2 ∙ record_parts layout m more) ∙ take_all (length (84 ∷ (m.who ++ 0 ∷ left)) - 1) (m.who ++ 0 ∷ left) (omega arith) in
    let same : Some (who, rest) ≡ Some (m.who, left) = cut ∙ ap (split_first 0) whole ∙ first_written 0 m.who left (address_clean m.who is.0) in
    let pair = one_some (who, rest) (m.who, left) same in
    (ap (λ p. p.0) pair, ap (moment_at layout) (ap (λ p. p.1) pair) ∙ moment_there layout m.since more is.1)

-- so they are those of the record that was put together from them
pub known_here : (layout : Layout) (text : Text) (m : Member) (more who rest : Text) (since : ℕ) (left : Text) → record_at layout text ≡ Some (m, more) → Some (who, rest) ≡ split_first 0 (body text) → moment_at layout rest ≡ Some (since, left)
    → IsAddress who × IsMomentIn layout since × (text ≡ record_text layout (member_by who since) ++ left) × (record_at layout text ≡ Some (member_by who since, left))
known_here layout text m more who rest since left e cut moment =
    let is = record_is layout text m more e in
    let parts = known_parts layout text m more who rest e cut in
    let pair = one_some (m.since, more) (since, left) (sym parts.1 ∙ moment) in
    let same : m ≡ member_by who since = ap₂ member_by (sym parts.0) (ap (λ p. p.0) pair) in
    let after : more ≡ left = ap (λ p. p.1) pair in (
      subst IsAddress (sym parts.0) is.0,
      subst (IsMomentIn layout) (ap (λ p. p.0) pair) is.1,
      is.2 ∙ ap₂ (λ (p : Member) r. record_text layout p ++ r) same after,
      e ∙ ap₂ (λ (p : Member) (r : Text). Some (p, r)) same after,
    )

-- and a member of a bucket, at whatever place
module _ (layout : Layout) where
  abbrev pub in_bucket : ℕ → ℕ → Text → Option (Member × Text)
  in_bucket n place text = member_at (record { n = n; layout = layout }) place text

  pub member_read : (n place : ℕ) (text : Text) (m : Member) (more : Text) → in_bucket n place text ≡ Some (m, more) → IsMember layout n m × (text ≡ record_text layout m ++ more)
  member_read n place text m more e =
      let there = only_read (λ (found : Member × Text). bucket_of (member_key found.0) == n) (record_at layout text) (m, more) e in
      let is = record_is layout text m more there.0 in
      (record { address = is.0; since = is.1; hashed = eqb-true (bucket_of (member_key m)) n there.1 }, is.2)

  pub member_written : (n place : ℕ) (m : Member) (more : Text) → IsMember layout n m → in_bucket n place (record_text layout m ++ more) ≡ Some (m, more)
  member_written n place m more is =
      only_there (λ (found : Member × Text). bucket_of (member_key found.0) == n) (record_at layout (record_text layout m ++ more)) (m, more) (record_there layout m more is.address is.since) (eq-eqb (bucket_of (member_key m)) n is.hashed)

-- How a bucket's text is read as its members.
use Rattle.std.specs.Prelude.{◌≡◌, ◌≢◌, ◌==◌, ℕ, Bool, true, List, [], ◌∷◌, ◌++◌, Option, Some, None, option_map, if◌then◌else◌}
use Rattle.std.specs.Option.{option_and_then}
use Rattle.ml_base.specs.Bytes.{Text, nul}
use Rattle.ml_base.specs.Address.{key, IsAddress}
use Rattle.ml_base.specs.Numbers.{moment_in}
use Rattle.ml_base.specs.Splits.{split_first}
use Rattle.ml_rows.specs.Rows.{both_of, only_if}
use Rattle.ml_rows.specs.Values.{address_in}
use Rattle.ml_keyed.specs.Records.{IsRecordFile}
use Rattle.ml_subs.specs.declared.member_list.Member.{Member}
use Rattle.ml_subs.specs.declared.records.BucketForm.{BucketForm}
use Rattle.ml_subs.specs.declared.records.Layout.{Layout}
use Rattle.ml_subs.specs.declared.records.Layout.TheVariants.{Undated, Dated}
use Rattle.ml_subs.specs.Members.{member_key}
use Rattle.ml_subs.specs.Buckets.{IsMember, IsMomentIn, IsBucket, bucket_of, layout_line, record_text}

-- a member from a text and a moment
abbrev pub member_by : Text → ℕ → Member
member_by who since = record { who = who; since = since }

-- what comes after the letter that a record begins with
abbrev pub after_letter : Text → Option Text
after_letter [] = None
after_letter (b ∷ bs) = if b == 84 then Some bs else None

-- the moment at the beginning of a text, and what comes after it
abbrev pub moment_at : Layout → Text → Option (ℕ × Text)
moment_at Undated text = Some (0, text)
moment_at Dated text = option_and_then (λ parts. option_map (λ t. (t, parts.1)) (moment_in parts.0)) (split_first nul text)

-- the member of an address and of the moment after it, and what comes after that
abbrev pub member_of_parts : Layout → Text × Text → Option (Member × Text)
member_of_parts layout parts = option_map (λ v. (member_by v.0 v.1.0, v.1.1)) (both_of (address_in parts.0) (moment_at layout parts.1))

-- the member whose record a text begins with, and what comes after it
abbrev pub record_at : Layout → Text → Option (Member × Text)
record_at layout text = option_and_then (λ rest. option_and_then (member_of_parts layout) (split_first nul rest)) (after_letter text)

-- the same, if he belongs to the bucket, at whatever place
abbrev pub member_at : BucketForm → ℕ → Text → Option (Member × Text)
member_at form place text = only_if (λ found. bucket_of (member_key found.0) == form.n) (record_at form.layout text)

-- the records of a bucket spell these members
abbrev pub AreRead : Layout → ℕ → Text → List Member → Type 0
AreRead layout n text ms = IsRecordFile (IsMember layout) member_key (record_text layout) n (Some text) ms

-- the record of a member, as it stands in a text, and whether his address is known to be its own key
pub record IsOwn (layout : Layout) (text who : Text) (since : ℕ) (is_key : Bool) : Type 0 where
  pub address : IsAddress who
  pub moment : IsMomentIn layout since
  pub spelled : text ≡ record_text layout (member_by who since)
  pub own : is_key ≡ true → who ≡ key who

-- the layout of a text, and what comes after its line
abbrev pub IsFront : Text → Layout → Text → Type 0
IsFront text Dated body = text ≡ layout_line Dated ++ body
IsFront text Undated body = (body ≡ text) × ((rest : Text) → text ≢ layout_line Dated ++ rest)

-- the layout of a bucket's text, and its records, of which there is at least one
pub record IsLayoutOf (text : Text) (layout : Layout) (body : Text) : Type 0 where
  pub only : (n : ℕ) (ms : List Member) → IsBucket n text ms → AreRead layout n body ms
  pub makes : (n : ℕ) (ms : List Member) → AreRead layout n body ms → IsBucket n text ms

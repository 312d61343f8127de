-- The pages that words name.
use Rattle.std.specs.Prelude.{ℕ, ◌+◌, ◌-◌, ◌*◌, ◌==◌, ◌&&◌, nat_le, [], ◌∷◌, Option, Some, None, if◌then◌else◌}
use Rattle.std.specs.Char.{is_ascii_digit}
use Rattle.ml_base.specs.Bytes.{Text}
use Rattle.ml_base.specs.Numbers.{number_of}
use Rattle.ml_base.specs.Options.{◌>>=◌}
use Rattle.ml_pages_questions.specs.declared.pages.PageQuery.{PageQuery}
use Rattle.ml_pages_questions.specs.declared.pages.PageQuery.TheVariants as queries

-- the number that two digits spell
abbrev pub two_in : ℕ → ℕ → Option ℕ
two_in tens ones = if is_ascii_digit tens && is_ascii_digit ones then Some (10 * (tens - 48) + (ones - 48)) else None

-- a month as YYYY-MM: four digits, a hyphen, and 01 to 12
abbrev pub month_in : Text → Option (ℕ × ℕ)
month_in (a ∷ b ∷ c ∷ d ∷ hyphen ∷ e ∷ f ∷ []) = do
  century ← two_in a b
  year ← two_in c d
  month ← two_in e f
  if hyphen == 45 && nat_le 1 month && nat_le month 12 then Some (100 * century + year, month) else None
month_in _ = None

-- the number of a page, from 1 on
abbrev pub page_in : Text → Option ℕ
page_in text = do
  page ← number_of text
  if page == 0 then None else Some page

-- a page of a month
abbrev pub month_query : Text → Text → Option PageQuery
month_query month page = do
  m ← month_in month
  k ← page_in page
  Some (queries.Month m.0 m.1 k)

-- a page of the thread whose first post has this number, whatever the number
abbrev pub thread_query : Text → Text → Option PageQuery
thread_query first page = do
  n ← number_of first
  k ← page_in page
  Some (queries.Thread n k)

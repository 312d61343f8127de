-- Which files are in their grammar if reading stops at one, and which pages there are then.
use Rattle.std.proofs.Common.{◌≡◌, ◌≢◌, ◌<◌, ◌+◌, ⊎_elim, ◌==◌, ◌∙◌, ℕ, Bool, true, false, cond, List, [], ◌∷◌, length, Some, None, ap, refl, sym, subst, arith}
use Rattle.std.proofs.lemmas.Bool.{eqb-true, eqb-false}
use Rattle.ml_base.specs.Bytes.{Text}
use Rattle.ml_base.specs.Dir.{Dir}
use Rattle.ml_base.proofs.Options.{no_text}
use Rattle.ml_filing.specs.Answers.{IsIndexByFiles}
use Rattle.ml_filing.specs.declared.posts.Entry.{Entry}
use Rattle.ml_filing.specs.declared.posts.Thread.{Thread}
use Rattle.ml_pages.specs.Counting.{is_first}
use Rattle.ml_pages.specs.Pages.{on_page}
use Rattle.ml_pages.specs.Parts.{IsPageFound}
use Rattle.ml_pages.specs.Reads.{IsIndexRead}

module _ (P : ℕ → Type 0) where
  pub none_below : (g : ℕ) → g < 0 → P g
  none_below g less = absurd (omega (arith, less))

  pub one_more_below : (n : ℕ) → ((g : ℕ) → g < n → P g) → P n → (g : ℕ) → g < n + 1 → P g
  one_more_below n before last g less = go (g == n) refl
    where
      go : (t : Bool) → (g == n) ≡ t → P g
      go true is = let same = eqb-true g n is in subst P (sym same) last
      go false is = let apart = eqb-false g n is in before g (omega (arith, less, apart))

-- an index that is there for fewer than 1,000,000 groups is in its grammar
pub index_read : (dir : Dir) (g : ℕ) (entries : List Entry) → g < 1_000_000 → IsIndexByFiles dir g entries → IsIndexRead dir g
index_read dir g entries low is = ⊎_elim (λ read. (entries, read.1)) (λ past. absurd (let high = past.0 in omega (arith, low, high))) is

no_numbers : (ns : List ℕ) → length ns ≡ 0 → ns ≡ []
no_numbers [] e = refl
no_numbers (n ∷ ns) e = absurd (omega (arith, e))

-- no page of a thread for a post that isn't its first, and none if nothing is on it; otherwise one
pub page_of_another : (first page : ℕ) (t : Thread) → is_first first t.numbers ≡ false → IsPageFound first page (Some t) None
page_of_another first page t is = (λ _. ap (λ (b : Bool). cond b (on_page page t.numbers) []) is, λ _. refl)

pub page_empty : (first page : ℕ) (t : Thread) (row : List ℕ) → row ≡ on_page page t.numbers → length row ≡ 0 → IsPageFound first page (Some t) None
page_empty first page t row cut none = (λ _. go (is_first first t.numbers), λ _. refl)
  where
    go : (b : Bool) → cond b (on_page page t.numbers) [] ≡ []
    go true = sym cut ∙ no_numbers row none
    go false = refl

pub page_there : (first page : ℕ) (t : Thread) (row : List ℕ) (text : Text) → is_first first t.numbers ≡ true → row ≡ on_page page t.numbers → length row ≢ 0 → IsPageFound first page (Some t) (Some text)
page_there first page t row text begun cut some =
    (λ e. absurd (no_text text e), λ e. absurd (some (ap length (cut ∙ sym (ap (λ (b : Bool). cond b (on_page page t.numbers) []) begun) ∙ e))))

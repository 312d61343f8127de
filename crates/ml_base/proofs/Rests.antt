-- If two texts agree after a place, they agree after any later one.
use Rattle.std.proofs.Common.{◌≡◌, ℕ, ◌+◌, ◌-◌, ◌≤◌, List, drop, ap, sym, ◌∙◌, arith}
use Rattle.std.proofs.lemmas.List.{drop-drop}

later_drop : (near far : ℕ) (xs : List ℕ) → near ≤ far → drop far xs ≡ drop (far - near) (drop near xs)
later_drop near far xs later = let same : far ≡ near + (far - near) = omega arith in ap (λ n. drop n xs) same ∙ sym (drop-drop (far - near) near xs)

pub rest_on : (near far : ℕ) (xs ys : List ℕ) → near ≤ far → drop near xs ≡ drop near ys → drop far xs ≡ drop far ys
rest_on near far xs ys later e = later_drop near far xs later ∙ ap (drop (far - near)) e ∙ sym (later_drop near far ys later)

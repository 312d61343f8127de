-- How the texts of the thread files are made, each at its place.
use Rattle.std.proofs.Common.{◌≡◌, ◌<◌, ℕ, Bool, true, false, cond, ◌==◌, List, [], ◌∷◌, ◌++◌, length, get_or, set, replicate, refl, sym, ap, ap₂, ◌∙◌, arith, append_assoc}
use Rattle.std.specs.Prelude.{Vec}
use Rattle.std.proofs.lemmas.Bool.{eqb-true, eqb-false}
use Rattle.std.proofs.lemmas.List.{get_or-replicate, get_or-set_same, get_or-set_other, get_or_read_under}
use Rattle.std.specs.declared.alloc.Global.{Global}
use Rattle.ml_base.specs.Bytes.{Text}
use Rattle.ml_filing.specs.Threads.{thread_place, thread_text}
use Rattle.ml_filing.specs.declared.posts.Thread.{Thread}
use Rattle.ml_archive.specs.Found.{text_at}

abbrev pub Pairs : Type 0
Pairs = List (Vec ℕ Global × List ℕ)

pub none_placed : (texts : List Text) (all it : Pairs) → texts ≡ replicate 256 [] → it ≡ all → (n : ℕ) → n < 256 → get_or texts n [] ++ text_at n it ≡ text_at n all
none_placed texts all it none start n less = ap₂ (λ (ts : List Text) (ps : Pairs). get_or ts n [] ++ text_at n ps) none start ∙ ap (λ (t : Text). t ++ text_at n all) (get_or-replicate 256 n [] [] less)

abbrev thread_of : Vec ℕ Global × List ℕ → Thread
thread_of p = record { key = p.0.items; numbers = p.1 }

text_first : (n : ℕ) (p : Vec ℕ Global × List ℕ) (ps : Pairs) (t : Bool) → (thread_place p.0.items == n) ≡ t → text_at n (p ∷ ps) ≡ cond t (thread_text (thread_of p)) [] ++ text_at n ps
text_first n p ps true here = rw here refl
text_first n p ps false away = rw away refl

pub one_placed : (texts : List Text) (p n : ℕ) (was out key : Text) (numbers ns : List ℕ) (q : Vec ℕ Global) (it rest all : Pairs) → length texts ≡ 256 → p ≡ thread_place q.items → was ≡ get_or texts p was
    → out ≡ was ++ thread_text (record { key = key; numbers = numbers }) → key ≡ q.items → numbers ≡ ns → it ≡ (q, ns) ∷ rest → n < 256 → get_or texts n [] ++ text_at n it ≡ text_at n all
    → get_or (set texts p out) n [] ++ text_at n rest ≡ text_at n all
one_placed texts p n was out key numbers ns q it rest all long place read new named counted one less before = go (thread_place q.items == n) refl
  where
    thread : thread_text (record { key = key; numbers = numbers }) ≡ thread_text (thread_of (q, ns))
    thread = ap₂ (λ (k : Text) (ms : List ℕ). thread_text (record { key = k; numbers = ms })) named counted

    go : (t : Bool) → (thread_place q.items == n) ≡ t → get_or (set texts p out) n [] ++ text_at n rest ≡ text_at n all
    go true here =
        let same : p ≡ n = place ∙ eqb-true (thread_place q.items) n here in
        let text : was ≡ get_or texts n [] = get_or_read_under texts p 256 was [] read (omega (arith, same, less)) (sym long) ∙ ap (λ (i : ℕ). get_or texts i []) same in
        let there : get_or (set texts p out) n [] ≡ out = ap (λ (i : ℕ). get_or (set texts p out) i []) (sym same) ∙ get_or-set_same texts p out [] (omega (arith, same, less, long)) in
        ap (λ (t : Text). t ++ text_at n rest) (there ∙ new ∙ ap₂ (λ (a b : Text). a ++ b) text thread) ∙ append_assoc (get_or texts n []) (thread_text (thread_of (q, ns))) (text_at n rest)
        ∙ ap (λ (t : Text). get_or texts n [] ++ t) (sym (ap (text_at n) one ∙ text_first n (q, ns) rest true here)) ∙ before
    go false away =
        let apart = eqb-false (thread_place q.items) n away in
        ap (λ (t : Text). t ++ text_at n rest) (get_or-set_other texts p n out [] (λ e. apart (sym place ∙ sym e)))
        ∙ ap (λ (t : Text). get_or texts n [] ++ t) (sym (ap (text_at n) one ∙ text_first n (q, ns) rest false away)) ∙ before

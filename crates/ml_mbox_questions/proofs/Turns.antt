-- Adding one post to a mailbox, by the files.
use Rattle.std.proofs.Common.{◌≡◌, ◌<◌, ◌≤◌, ◌+◌, ◌/◌, min, ℕ, Bool, true, false, cond, ◌==◌, ◌&&◌, List, [], ◌∷◌, ◌++◌, map, Some, None, sym, ap, ap₂, ◌∙◌, subst, arith, inl, inr}
use Rattle.std.specs.List.{AllByRecursion, AllZip, flat_map, range_with_len}
use Rattle.std.proofs.lemmas.Bool.{le-leb, ltb-true}
use Rattle.std.proofs.lemmas.Nat.{div_below}
use Rattle.std.proofs.lemmas.List.{append-nil, map-append}
use Rattle.std.proofs.lemmas.List.Concat.{flat_map-append}
use Rattle.ml_base.specs.Bytes.{Text}
use Rattle.ml_base.specs.Dir.{Dir}
use Rattle.ml_base.specs.declared.names.Name.{Name}
use Rattle.ml_filing.specs.Answers.{IsBadForPost, IsPostByFiles, IsPostName}
use Rattle.ml_filing.specs.Archive.{IsEntry, IsNumberFile, number_name}
use Rattle.ml_filing.specs.Threads.{entry_at}
use Rattle.ml_filing.specs.declared.posts.Entry.{Entry}
use Rattle.ml_filing.specs.declared.posts.Post.{Post}
use Rattle.ml_filing.proofs.Looking.{post_by_files}
use Rattle.ml_filing.proofs.OneMore.{range_on_end}
use Rattle.ml_mbox.specs.Mbox.{mail_text}
use Rattle.ml_mbox_questions.specs.Mailboxes.{IsBadForMailbox, IsMailbox, IsMailboxName, mail_of, mailbox}
use Rattle.ml_mbox_questions.specs.Steps.{AddsMail, IsBadIndexed}

one_entry : (e f : Entry) → Some e ≡ Some f → e ≡ f
one_entry e f is = cc

no_entry : (e : Entry) → None ≡ Some e → ⊥
no_entry e is = cc

-- an entry that is found has what every entry has
found_has : (P : Entry → Type 0) (n : ℕ) (es : List Entry) (e : Entry) → AllByRecursion P es → entry_at n es ≡ Some e → P e
found_has P n [] e all found = absurd (no_entry e found)
found_has P n (f ∷ fs) e all found = go (f.number == n) found (λ is. found_has P n fs e all.1 is)
  where
    go : (t : Bool) → cond t (Some f) (entry_at n fs) ≡ Some e → (entry_at n fs ≡ Some e → P e) → P e
    go true is later = subst P (one_entry f e is) all.0
    go false is later = later is

zip_on : {A B : Type 0} (R : A → B → Type 0) (xs : List A) (ys : List B) (x : A) (y : B) → AllZip R xs ys → R x y → AllZip R (xs ++ x ∷ []) (ys ++ y ∷ [])
zip_on R [] [] x y all is = (is, tt)
zip_on R [] (z ∷ zs) x y all is = absurd all
zip_on R (w ∷ ws) [] x y all is = absurd all
zip_on R (w ∷ ws) (z ∷ zs) x y all is = (all.0, zip_on R ws zs x y all.1 is)

-- the mailbox of one post more
mailbox_on : (ps : List Post) (p : Post) → mailbox (ps ++ p ∷ []) ≡ mailbox ps ++ mail_text (mail_of p)
mailbox_on ps p =
    ap (flat_map mail_text) (map-append mail_of ps (p ∷ [])) ∙ flat_map-append mail_text (map mail_of ps) (mail_of p ∷ []) ∙ ap (λ (t : Text). mailbox ps ++ t) (append-nil (mail_text (mail_of p)))

-- the group of a post
pub group_few : (n : ℕ) → n ≤ 99_999_999 → n / 100 < 1_000_000
group_few n few = div_below n 100 1_000_000 (omega arith) (omega (arith, few))

module _ (dir : Dir) (n count : ℕ) (counted : IsNumberFile (dir number_name) count) (low : 1 ≤ n) (high : n ≤ count) where
  pub one_more : (a k m : ℕ) (old new : Text) → n ≡ a + k → m ≡ k + 1 → IsMailbox dir (range_with_len a k) old → AddsMail dir n old new → IsMailbox dir (range_with_len a m) new
  one_more a k m old new at one box adds =
      let e = adds.entry in
      let post : Post = record { sender = e.sender; moment = e.moment; subject = e.subject; bytes = adds.bytes } in
      let is = post_by_files dir n count e adds.bytes counted low high adds.found adds.there adds.size in
      let entry_is = found_has IsEntry n adds.found.0 e adds.found.1.each adds.found.2 in
      let time = ltb-true e.moment 253_402_300_800 entry_is.moment in
      let moment : min e.moment 253_402_300_799 ≡ e.moment = omega (arith, time) in
      let row : range_with_len a k ++ n ∷ [] ≡ range_with_len a m = ap (λ (n : ℕ). range_with_len a k ++ n ∷ []) at ∙ sym (range_on_end a k) ∙ ap (range_with_len a) (sym one) in
      record {
        posts = box.posts ++ post ∷ [];
        each = subst (λ (ns : List ℕ). AllZip (λ n p. IsPostByFiles dir n (Some p)) ns (box.posts ++ post ∷ [])) row (zip_on (λ (n : ℕ) (p : Post). IsPostByFiles dir n (Some p)) (range_with_len a k) box.posts n post box.each is);
        text_is = adds.added ∙ ap₂ (λ (t : Text) (m : ℕ). t ++ mail_text (record { sender = e.sender; moment = m; message = adds.bytes })) box.text_is moment ∙ sym (mailbox_on box.posts post);
      }

  pub bad_post : (name : Name) → IsBadIndexed dir n name → IsBadForPost dir n name
  bad_post name (inl (named, lacks)) = inl (named, inr (record { count = count; counted = counted; low = low; high = high; entries = lacks.0; index = lacks.1; lacks = lacks.2 }))
  bad_post name (inr (named, lacks)) = inr (named, inr lacks)

-- a file that is damaged for a post of the range is damaged for the mailbox
pub bad_one : (dir : Dir) (a b n count : ℕ) (name : Name) → a ≤ n → n ≤ b → IsNumberFile (dir number_name) count → 1 ≤ n → n ≤ count → IsBadForPost dir n name → IsBadForMailbox dir a b name
bad_one dir a b n count name from to counted low high bad = inr (record { n = n; from = from; to = to; count = count; counted = counted; low = low; high = high; bad = bad })

-- a file that tells of a post of the range tells of the mailbox
pub name_of_one : (a b n : ℕ) (name : Name) → a ≤ n → n ≤ b → 1 ≤ n → IsPostName n name → IsMailboxName a b name
name_of_one a b n name from to low (inl named) = inl named
name_of_one a b n name from to low (inr (few, named)) = inr (n, from, to, ap₂ (λ (p q : Bool). p && q) (le-leb 1 n low) (le-leb n 99_999_999 few), named)

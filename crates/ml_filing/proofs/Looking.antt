-- What the files of posts say of one post: exactly what it is, if they stand for a list of posts.
use Rattle.std.proofs.Common.{◌≡◌, ◌≢◌, ◌<◌, ◌≤◌, ◌+◌, ◌*◌, ◌/◌, ℕ, zero, suc, Bool, true, false, cond, ◌==◌, List, [], ◌∷◌, length, map, filter, slice_get, Option, Some, None, refl, sym, ap, ap₂, ◌∙◌, subst, arith, ◌⊎◌, inl, inr}
use Rattle.std.specs.Prelude.{unwrap_or, IsTrue}
use Rattle.std.specs.List.{enumerate_from}
use Rattle.std.specs.Option.{option_map}
use Rattle.std.proofs.lemmas.Bool.{eqb-true, ne_eqb}
use Rattle.std.proofs.lemmas.Nat.{div_below}
use Rattle.ml_base.specs.Bytes.{Text}
use Rattle.ml_base.specs.Dir.{Dir}
use Rattle.ml_base.specs.Name.{is_in_table}
use Rattle.ml_base.specs.declared.names.Name.{Name}
use Rattle.ml_rows.proofs.RowLaws.{one_some, none_some}
use Rattle.ml_filing.specs.Answers.{IsNoNumber, IsNoIndex, IsOtherSize, IsEntryByFiles, HasNoEntry, IsBadForEntry, IsBadForPost, IsPostByFiles}
use Rattle.ml_filing.specs.Archive.{ArePosts, IsIndexFile, IsNumberFile, post_name, index_name, number_name}
use Rattle.ml_filing.specs.Posts.{index_of, entry, post_at}
use Rattle.ml_filing.specs.Reading.{count_in, index_in}
use Rattle.ml_filing.specs.Threads.{entry_at}
use Rattle.ml_filing.specs.declared.posts.Entry.{Entry}
use Rattle.ml_filing.specs.declared.posts.Post.{Post}
use Rattle.ml_filing.proofs.Exact.{count_read, count_one, count_written, index_read, index_one, index_written}
use Rattle.ml_filing.proofs.Represented.{looked_up, get_some, in_table}

-- a file that is read spells its value, and one that isn't read spells none
count_file : (file : Option Text) (n : ℕ) → count_in (unwrap_or file []) ≡ Some n → IsNumberFile file n
count_file None n e = absurd (none_some n e)
count_file (Some text) n e = count_read text n e

pub count_found : (dir : Dir) (file : Option Text) (text : Text) (o : Option ℕ) (n : ℕ) → file ≡ dir number_name → text ≡ unwrap_or file [] → o ≡ count_in text → o ≡ Some n → IsNumberFile (dir number_name) n
count_found dir file text o n there is read some =
    subst (λ (f : Option Text). IsNumberFile f n) there (count_file file n (ap count_in (sym is) ∙ sym read ∙ some))

pub count_lost : (dir : Dir) (file : Option Text) (text : Text) (o : Option ℕ) → file ≡ dir number_name → text ≡ unwrap_or file [] → o ≡ count_in text → o ≡ None → IsNoNumber dir
count_lost dir file text o there is read none n fits =
    none_some n (sym none ∙ read ∙ ap count_in is ∙ count_written file n (subst (λ (f : Option Text). IsNumberFile f n) (sym there) fits))

pub index_found : (dir : Dir) (g : ℕ) (name : Name) (file : Option Text) (text : Text) (o : Option (List Entry)) (es : List Entry) → name ≡ index_name g → file ≡ dir name → text ≡ unwrap_or file [] → o ≡ index_in g text → o ≡ Some es
    → IsIndexFile g (dir (index_name g)) es
index_found dir g name file text o es named there is read some =
    subst (λ (f : Option Text). IsIndexFile g f es) (there ∙ ap dir named) (index_read g file es (ap (index_in g) (sym is) ∙ sym read ∙ some))

pub index_lost : (dir : Dir) (g : ℕ) (name : Name) (file : Option Text) (text : Text) (o : Option (List Entry)) → name ≡ index_name g → file ≡ dir name → text ≡ unwrap_or file [] → o ≡ index_in g text → o ≡ None
    → IsNoIndex dir g
index_lost dir g name file text o named there is read none es fits =
    none_some es (sym none ∙ read ∙ ap (index_in g) is ∙ index_written g file es (subst (λ (f : Option Text). IsIndexFile g f es) (sym (there ∙ ap dir named)) fits))

-- the entry that is found for a number has this number
pub entry_named : (n : ℕ) (es : List Entry) (e : Entry) → entry_at n es ≡ Some e → e.number ≡ n
entry_named n [] e found = absurd (none_some e found)
entry_named n (f ∷ fs) e found = go (f.number == n) refl found (λ is. entry_named n fs e is)
  where
    go : (t : Bool) → (f.number == n) ≡ t → cond t (Some f) (entry_at n fs) ≡ Some e → (entry_at n fs ≡ Some e → e.number ≡ n) → e.number ≡ n
    go true same is later = ap (λ (x : Entry). x.number) (sym (one_some f e is)) ∙ eqb-true f.number n same
    go false other is later = later is

-- a group after the last post has no posts
none_after : (g k : ℕ) (posts : List Post) → k + length posts ≤ 100 * g → filter (λ (e : ℕ × Post). (e.0 / 100) == g) (enumerate_from k posts) ≡ []
none_after g k [] le = refl
none_after g k (p ∷ ps) le =
    let apart : k / 100 ≢ g = λ e. omega (arith, le, e) in
    ap (λ t. cond t ((k, p) ∷ filter (λ (e : ℕ × Post). (e.0 / 100) == g) (enumerate_from (k + 1) ps)) (filter (λ (e : ℕ × Post). (e.0 / 100) == g) (enumerate_from (k + 1) ps))) (ne_eqb (k / 100) g apart)
    ∙ none_after g (k + 1) ps (omega (arith, le))

pub no_group : (g : ℕ) (posts : List Post) → length posts ≤ 99_999_999 → 1_000_000 ≤ g → [] ≡ index_of g posts
no_group g posts few high = sym (ap (map entry) (none_after g 1 posts (omega (arith, few, high))))

pub group_in_table : (g : ℕ) → g < 1_000_000 → IsTrue (is_in_table (index_name g))
group_in_table g less = in_table 10 g 0 999_999 refl refl (omega arith) (omega (arith, less))

module _ (dir : Dir) (posts : List Post) (is : ArePosts dir posts) where
  few : length posts ≤ 99_999_999
  few = (is.counted).few

  pub counted_is : (n : ℕ) → IsNumberFile (dir number_name) n → n ≡ length posts
  counted_is n file = count_one (dir number_name) n (length posts) file is.counted

  pub no_bad_count : ¬ IsNoNumber dir
  no_bad_count none = none (length posts) is.counted

  pub indexed_is : (g : ℕ) (es : List Entry) → g < 1_000_000 → IsIndexFile g (dir (index_name g)) es → es ≡ index_of g posts
  indexed_is g es less file = index_one g (dir (index_name g)) es (index_of g posts) file (is.indexes g (group_in_table g less))

  pub no_bad_index : (g : ℕ) → g < 1_000_000 → ¬ IsNoIndex dir g
  no_bad_index g less none = none (index_of g posts) (is.indexes g (group_in_table g less))

  group_low : (n : ℕ) → n ≤ length posts → n / 100 < 1_000_000
  group_low n le = let f = few in div_below n 100 1_000_000 (omega arith) (omega (arith, le, f))

  -- the entry of a post is in its index, and is its own
  own : (i : ℕ) (p : Post) → slice_get posts i ≡ Some p → entry_at (suc i) (index_of (suc i / 100) posts) ≡ Some (entry (suc i, p))
  own i p get = looked_up 1 (suc i) i posts (omega arith) ∙ ap (option_map (λ (p : Post). entry (suc i, p))) get

  pub entry_there : (n : ℕ) → 1 ≤ n → n ≤ length posts → (p : Post) × (post_at posts n ≡ Some p) × (entry_at n (index_of (n / 100) posts) ≡ Some (entry (n, p)))
  entry_there zero low high = absurd (omega (arith, low))
  entry_there (suc i) low high = let p = get_some posts i (omega (arith, high)) in (p.0, p.1, own i p.0 p.1)

  pub no_missing : (n : ℕ) → 1 ≤ n → n ≤ length posts → ¬ HasNoEntry dir n
  no_missing n low high lost =
      let same = indexed_is (n / 100) lost.0 (group_low n high) lost.1 in
      let there = entry_there n low high in
      none_some (entry (n, there.0)) (sym lost.2 ∙ ap (entry_at n) same ∙ there.2)

  pub entry_is : (n : ℕ) (e : Entry) → 1 ≤ n → n ≤ length posts → IsEntryByFiles dir n e → (p : Post) × (post_at posts n ≡ Some p) × (e ≡ entry (n, p))
  entry_is n e low high found =
      let same = indexed_is (n / 100) found.0 (group_low n high) found.1 in
      let there = entry_there n low high in
      (there.0, there.1, one_some e (entry (n, there.0)) (sym found.2 ∙ ap (entry_at n) same ∙ there.2))

  pub bytes_are : (n : ℕ) (p : Post) → 1 ≤ n → n ≤ length posts → post_at posts n ≡ Some p → dir (post_name n) ≡ Some p.bytes
  bytes_are n p low high get = let f = few in is.files n (in_table 9 n 1 99_999_999 refl refl low (omega (arith, high, f))) ∙ ap (option_map (λ (p : Post). p.bytes)) get

  pub post_found : (n count : ℕ) (e : Entry) (bytes : Text) → 1 ≤ n → n ≤ count → IsNumberFile (dir number_name) count → IsEntryByFiles dir n e → dir (post_name n) ≡ Some bytes
      → Some (record { sender = e.sender; moment = e.moment; subject = e.subject; bytes = bytes }) ≡ post_at posts n
  post_found n count e bytes low high counted found there =
      let c = counted_is count counted in
      let within : n ≤ length posts = omega (arith, high, c) in
      let own = entry_is n e low within found in
      let same : bytes ≡ (own.0).bytes = one_some bytes (own.0).bytes (sym there ∙ bytes_are n own.0 low within own.1) in
      ap₂ (λ (x : Entry) (b : Text). Some (record { sender = x.sender; moment = x.moment; subject = x.subject; bytes = b })) own.2 same ∙ sym own.1

  pub post_none : (n count : ℕ) → IsNumberFile (dir number_name) count → ((n ≡ 0) ⊎ (count < n)) → None ≡ post_at posts n
  post_none zero count counted out = refl
  post_none (suc i) count counted (inl none) = absurd (omega (arith, none))
  post_none (suc i) count counted (inr past) = let c = counted_is count counted in sym (get_past posts i (omega (arith, past, c)))
    where
      get_past : (xs : List Post) (i : ℕ) → length xs ≤ i → slice_get xs i ≡ None
      get_past [] i le = refl
      get_past (x ∷ xs) zero le = absurd (omega (arith, le))
      get_past (x ∷ xs) (suc i) le = get_past xs i (omega (arith, le))

  pub no_bad_entry : (n count : ℕ) (name : Name) → 1 ≤ n → n ≤ count → IsNumberFile (dir number_name) count → ¬ IsBadForEntry dir n name
  no_bad_entry n count name low high counted (inl bad) = let c = counted_is count counted in no_missing n low (omega (arith, high, c)) bad.1
  no_bad_entry n count name low high counted (inr bad) = let c = counted_is count counted in no_bad_index (n / 100) (group_low n (omega (arith, high, c))) bad.1

  pub right_size : (n count : ℕ) (e : Entry) → 1 ≤ n → n ≤ count → IsNumberFile (dir number_name) count → IsEntryByFiles dir n e → ¬ IsOtherSize dir n e.size
  right_size n count e low high counted found other =
      let c = counted_is count counted in
      let within : n ≤ length posts = omega (arith, high, c) in
      let own = entry_is n e low within found in
      other (ap (option_map length) (bytes_are n own.0 low within own.1) ∙ ap (λ (x : Entry). Some x.size) (sym own.2))

-- what was read of a post is what the files say of it
pub post_by_files : (dir : Dir) (n count : ℕ) (e : Entry) (bytes : Text) → IsNumberFile (dir number_name) count → 1 ≤ n → n ≤ count → IsEntryByFiles dir n e → dir (post_name n) ≡ Some bytes → length bytes ≡ e.size
    → IsPostByFiles dir n (Some (record { sender = e.sender; moment = e.moment; subject = e.subject; bytes = bytes }))
post_by_files dir n count e bytes counted low high found there size =
    let named = entry_named n found.0 e found.2 in
    let same : e ≡ record { number = n; moment = e.moment; sender = e.sender; size = length bytes; subject = e.subject } = λ i. record { number = named i; moment = e.moment; sender = e.sender; size = sym size i; subject = e.subject } in
    ((count, counted, low, high), (found.0, found.1, found.2 ∙ ap (λ (x : Entry). Some x) same), there)

-- if the entry of a post that is there is damaged, so is the post; likewise if its size isn't that of its entry
pub entry_bad : (dir : Dir) (n count : ℕ) (name : Name) → IsNumberFile (dir number_name) count → 1 ≤ n → n ≤ count → IsBadForEntry dir n name → IsBadForPost dir n name
entry_bad dir n count name counted low high (inl (is, (entries, index, lacks))) =
    inl (is, inr (record { count = count; counted = counted; low = low; high = high; entries = entries; index = index; lacks = lacks }))
entry_bad dir n count name counted low high (inr (is, none)) = inr (is, inl none)

pub size_bad : (dir : Dir) (n : ℕ) (e : Entry) (name : Name) → IsEntryByFiles dir n e → name ≡ index_name (n / 100) → IsOtherSize dir n e.size → IsBadForPost dir n name
size_bad dir n e name (entries, index, found) is lacks = inr (is, inr (record { entries = entries; index = index; entry = e; found = found; lacks = lacks }))

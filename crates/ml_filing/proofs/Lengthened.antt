-- What appending a post reads and writes leads to the archive with one more post.
use Rattle.std.proofs.Common.{◌≡◌, ◌<◌, ◌≤◌, ◌+◌, ◌*◌, ◌/◌, max, ℕ, List, [], ◌∷◌, ◌++◌, length, Option, Some, sym, ap, ap₂, ◌∙◌, subst, arith, append_assoc, ◌⊎◌, inl, inr}
use Rattle.std.specs.Prelude.{unwrap_or}
use Rattle.std.specs.Fmt.{decimal}
use Rattle.std.proofs.lemmas.Bool.{lt-ltb}
use Rattle.std.proofs.lemmas.Nat.{div_below}
use Rattle.std.proofs.lemmas.List.{length-take}
use Rattle.ml_base.specs.Address.{IsAddress}
use Rattle.ml_base.specs.Bytes.{Text}
use Rattle.ml_base.specs.Dir.{Dir, with_puts}
use Rattle.ml_base.specs.Netstrings.{ns}
use Rattle.ml_base.specs.Ranges.{IsMoment}
use Rattle.ml_base.specs.declared.names.Name.{Name}
use Rattle.ml_base.specs.declared.puts.Put.{Put}
use Rattle.ml_header.specs.Rewriting.{whole_subject}
use Rattle.ml_filing.specs.Answers.{IsAppended, AppendsTo, ReadsAlike, new_post, HasOtherCount, IsBadForNext, IsAppendName, IsBadForAppend}
use Rattle.ml_filing.specs.Appending.{append, next_number, append_puts, written, CanAppend}
use Rattle.ml_filing.specs.Archive.{ArePosts, IsNumberFile, index_name, number_name, entry_text}
use Rattle.ml_filing.specs.Posts.{IsPost, key_of}
use Rattle.ml_filing.specs.Reads.{IsOfNext}
use Rattle.ml_filing.specs.Threads.{IsArchive, IsThreadFile, thread_name, thread_place}
use Rattle.ml_filing.specs.declared.posts.Appended.{Appended}
use Rattle.ml_filing.specs.declared.posts.Appended.TheVariants.{At, Full}
use Rattle.ml_filing.specs.declared.posts.Entry.{Entry}
use Rattle.ml_filing.specs.declared.posts.Post.{Post}
use Rattle.ml_filing.proofs.Exact.{count_one}
use Rattle.ml_filing.proofs.Filed.{appended}
use Rattle.ml_filing.proofs.Looking.{indexed_is, no_bad_index}
use Rattle.ml_filing.proofs.OneMore.{index_size}

-- a put whose parts are known
pub put_is : (p : Put) (n m : Name) (x y : Text) → p ≡ record { name = n; bytes = Some x } → n ≡ m → x ≡ y → p ≡ written m y
put_is p n m x y is name bytes = is ∙ ap₂ (λ (a : Name) (b : Text). written a b) name bytes

-- four puts that were pushed one after another
pub four_puts : (t0 t1 t2 t3 t4 : List Put) (a b c d x y z w : Put) → t0 ≡ [] → t1 ≡ t0 ++ a ∷ [] → t2 ≡ t1 ++ b ∷ [] → t3 ≡ t2 ++ c ∷ [] → t4 ≡ t3 ++ d ∷ [] → a ≡ x → b ≡ y → c ≡ z → d ≡ w
    → t4 ≡ x ∷ y ∷ z ∷ w ∷ []
four_puts t0 t1 t2 t3 t4 a b c d x y z w e0 e1 e2 e3 e4 p q r s =
    let one : t1 ≡ a ∷ [] = e1 ∙ ap (λ (t : List Put). t ++ a ∷ []) e0 in
    let two : t2 ≡ a ∷ b ∷ [] = e2 ∙ ap (λ (t : List Put). t ++ b ∷ []) one in
    let three : t3 ≡ a ∷ b ∷ c ∷ [] = e3 ∙ ap (λ (t : List Put). t ++ c ∷ []) two in
    e4 ∙ ap (λ (t : List Put). t ++ d ∷ []) three ∙ (λ i. p i ∷ q i ∷ r i ∷ s i ∷ [])

-- an entry after a text
pub entry_on : (out : Text) (e : Entry) → out ++ ns (decimal e.moment) ++ ns e.sender ++ ns (decimal e.size) ++ ns e.subject ++ 10 ∷ [] ≡ out ++ entry_text e
unfolding entry_text
entry_on out e =
    let a = ns (decimal e.moment) in let b = ns e.sender in let c = ns (decimal e.size) in let d = ns e.subject in
    ap (λ t. ((t ++ c) ++ d) ++ 10 ∷ []) (append_assoc out a b)
    ∙ ap (λ t. (t ++ d) ++ 10 ∷ []) (append_assoc out (a ++ b) c)
    ∙ ap (λ t. t ++ 10 ∷ []) (append_assoc out ((a ++ b) ++ c) d)
    ∙ append_assoc out (((a ++ b) ++ c) ++ d) (10 ∷ [])

short_subject : (bytes : Text) (sender : Text) (moment : ℕ) → length (new_post sender moment bytes).subject ≤ 1000
short_subject bytes sender moment = let few = length-take 1000 (whole_subject bytes) in omega (arith, few)

leads : (old dir : Dir) (prefix : Text) (post : Post) (posts : List Post) (answer : Appended) → IsPost post → length post.subject ≤ 1000 → IsArchive dir prefix posts
    → ReadsAlike old dir prefix post posts → IsAppended old prefix post answer → AppendsTo dir prefix posts post answer
leads old dir prefix post posts Full is_post short is alike file =
    sym (count_one (dir number_name) 99_999_999 (length posts) (subst (λ (f : Option Text). IsNumberFile f 99_999_999) (sym alike.number) file) (is.filed).counted)
leads old dir prefix post posts (At number txn) is_post short is alike (count, counted, room, next, (threads, file, made), before) =
    (omega (arith, same, room), number_is, subst (λ (t : List Put). IsArchive (with_puts dir t) prefix (append post posts)) (sym txn_is) (appended dir prefix posts post threads is can here))
  where
    same : count ≡ length posts
    same = count_one (dir number_name) count (length posts) (subst (λ (f : Option Text). IsNumberFile f count) (sym alike.number) counted) (is.filed).counted

    number_is : number ≡ next_number posts
    number_is = omega (arith, next, same)

    can : CanAppend posts post
    can = record { is = is_post; subject = short; room = omega (arith, same, room) }

    here : IsThreadFile (thread_place (key_of prefix post)) (dir (thread_name (thread_place (key_of prefix post)))) threads
    here = subst (λ (f : Option Text). IsThreadFile (thread_place (key_of prefix post)) f threads) (sym alike.thread) file

    txn_is : txn ≡ append_puts prefix (next_number posts) post (unwrap_or (dir (index_name (next_number posts / 100))) []) threads
    txn_is =
        made ∙ ap (λ (n : ℕ). append_puts prefix n post (unwrap_or (old (index_name (n / 100))) []) threads) number_is
        ∙ ap (λ (f : Option Text). append_puts prefix (next_number posts) post (unwrap_or f []) threads) (sym alike.index)

-- an append that was computed from files like those of a list leads to the longer list
pub append_leads : (old dir : Dir) (prefix sender : Text) (moment : ℕ) (bytes : Text) (posts : List Post) (answer : Appended) → IsAddress sender → IsMoment moment → length bytes < 4_294_967_296 → IsArchive dir prefix posts
    → ReadsAlike old dir prefix (new_post sender moment bytes) posts → IsAppended old prefix (new_post sender moment bytes) answer → AppendsTo dir prefix posts (new_post sender moment bytes) answer
append_leads old dir prefix sender moment bytes posts answer address time size is alike read =
    leads old dir prefix (new_post sender moment bytes) posts answer (record { sender = address; moment = lt-ltb moment 253_402_300_800 time; size = size }) (short_subject bytes sender moment) is alike read

-- if the files stand for posts, the index for the next post has the right number of entries
pub no_bad_next : (dir : Dir) (posts : List Post) (n : ℕ) (name : Name) → ArePosts dir posts → n ≡ next_number posts → n ≤ 99_999_999 → ¬ IsBadForNext dir n name
no_bad_next dir posts n name is next few (inl bad) =
    let low : n / 100 < 1_000_000 = div_below n 100 1_000_000 (omega arith) (omega (arith, few)) in
    let es = (bad.1).0 in
    let same = indexed_is dir posts is (n / 100) es low (bad.1).1 in
    (bad.1).2 (ap (λ (es : List Entry). length es + max 1 (100 * (n / 100))) same ∙ index_size (n / 100) posts (ap (λ (m : ℕ). m / 100) (sym next)) ∙ sym next)
no_bad_next dir posts n name is next few (inr bad) = no_bad_index dir posts is (n / 100) (div_below n 100 1_000_000 (omega arith) (omega (arith, few))) bad.1

-- the files of the next post's group are among those that appending reads
pub next_named : (n : ℕ) (name : Name) → n ≤ 99_999_999 → ((name ≡ number_name) ⊎ (name ≡ index_name (n / 100))) → IsAppendName name
next_named n name few (inl is) = inl is
next_named n name few (inr is) = inr (inl (n / 100, div_below n 100 1_000_000 (omega arith) (omega (arith, few)), is))

pub next_bad : (dir : Dir) (count n : ℕ) (name : Name) → n ≡ count + 1 → n ≤ 99_999_999 → IsNumberFile (dir number_name) count → IsBadForNext dir n name → IsBadForAppend dir name
next_bad dir count n name next few counted (inl bad) = inl (bad.0, inr (count, counted, subst (λ (m : ℕ). HasOtherCount dir m) next bad.1))
next_bad dir count n name next few counted (inr bad) = inr (inl (n / 100, div_below n 100 1_000_000 (omega arith) (omega (arith, few)), bad.0, bad.1))

-- and which of those they are
pub next_of : (dir : Dir) (key : Text) (count n : ℕ) (name : Name) → n ≡ count + 1 → n ≤ 99_999_999 → IsNumberFile (dir number_name) count → ((name ≡ number_name) ⊎ (name ≡ index_name (n / 100))) → IsOfNext dir key name
next_of dir key count n name next few counted (inl is) = inl is
next_of dir key count n name next few counted (inr is) = inr (inl (count, counted, omega (arith, next, few), is ∙ ap (λ (m : ℕ). index_name (m / 100)) next))

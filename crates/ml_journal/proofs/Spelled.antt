-- How puts are spelled one after another.
use Rattle.std.proofs.Common.{◌≡◌, ◌<◌, ℕ, ◌+◌, List, [], ◌∷◌, ◌++◌, length, take, drop, get_or, Option, Some, None, refl, sym, ◌∙◌, ap, arith, append_assoc, length-append}
use Rattle.std.proofs.lemmas.List.{append-nil, take_more, take-append-drop}
use Rattle.std.specs.Fmt.{decimal}
use Rattle.ml_base.specs.Bytes.{Text}
use Rattle.ml_base.specs.Netstrings.{ns}
use Rattle.ml_base.specs.declared.names.Name.{Name}
use Rattle.ml_base.specs.declared.puts.Put.{Put}
use Rattle.ml_journal.specs.Records.{spelled_as, spelled_head, spelled_name, spelled_put, spelled_puts}

-- one more put
pub spelled_more : (puts : List Put) (put : Put) → spelled_puts (puts ++ put ∷ []) ≡ spelled_puts puts ++ spelled_put put
spelled_more [] put = append-nil (spelled_put put)
spelled_more (first ∷ puts) put = ap (λ (l : Text). spelled_put first ++ l) (spelled_more puts put) ∙ sym (append_assoc (spelled_put first) (spelled_puts puts) (spelled_put put))

-- the puts up to the next place
pub spelled_next : (puts : List Put) (i : ℕ) (d : Put) → i < length puts → spelled_puts (take (i + 1) puts) ≡ spelled_puts (take i puts) ++ spelled_put (get_or puts i d)
spelled_next puts i d lt = ap spelled_puts (take_more puts i d lt) ∙ spelled_more (take i puts) (get_or puts i d)

pub size_next : (puts : List Put) (i : ℕ) (d : Put) → i < length puts → length (spelled_puts (take (i + 1) puts)) ≡ length (spelled_puts (take i puts)) + length (spelled_put (get_or puts i d))
size_next puts i d lt = ap length (spelled_next puts i d lt) ∙ length-append (spelled_puts (take i puts)) (spelled_put (get_or puts i d))

pub ns_size : (content : Text) → length (ns content) ≡ length (decimal (length content)) + length content + 2
ns_size content = omega (arith, length-append (decimal (length content) ++ 58 ∷ content) (44 ∷ []), length-append (decimal (length content)) (58 ∷ content))

-- what follows the head of a put: the content and its comma
abbrev pub spelled_tail : Option Text → Text
spelled_tail (Some bytes) = bytes ++ 44 ∷ []
spelled_tail None = []

-- a put is its head, and the content with its comma
pub put_parts : (name : Name) (bytes : Option Text) → spelled_head name bytes ++ spelled_tail bytes ≡ spelled_as name bytes
put_parts name None = append-nil (88 ∷ spelled_name name)
put_parts name (Some bytes) =
    let front = 87 ∷ spelled_name name in
    let digits = decimal (length bytes) in
    append_assoc (front ++ digits) (58 ∷ []) (bytes ++ 44 ∷ [])
    ∙ append_assoc front digits (58 ∷ (bytes ++ 44 ∷ []))
    ∙ ap (λ (l : Text). front ++ l) (sym (append_assoc digits (58 ∷ bytes) (44 ∷ [])))

-- a record and a closed gate, from the first bytes before its puts on
pub record_parts : (buffered head content : Text) → buffered ≡ [] → head ≡ decimal (length content) ++ 58 ∷ [] → buffered ++ (head ++ content) ++ 44 ∷ 0 ∷ [] ≡ ns content ++ 0 ∷ []
record_parts buffered head content none is =
    let digits = decimal (length content) in
    (λ i. none i ++ (is i ++ content) ++ 44 ∷ 0 ∷ [])
    ∙ ap (λ (l : Text). l ++ 44 ∷ 0 ∷ []) (append_assoc digits (58 ∷ []) content)
    ∙ sym (append_assoc (digits ++ 58 ∷ content) (44 ∷ []) (0 ∷ []))

-- the puts up to the next place, and those after it
pub puts_parts : (puts : List Put) (i : ℕ) → spelled_puts (take i puts) ++ spelled_puts (drop i puts) ≡ spelled_puts puts
puts_parts puts i = sym (spelled_both (take i puts) (drop i puts)) ∙ ap spelled_puts (take-append-drop i puts)
  where
    spelled_both : (one two : List Put) → spelled_puts (one ++ two) ≡ spelled_puts one ++ spelled_puts two
    spelled_both [] two = refl
    spelled_both (put ∷ one) two = ap (λ (l : Text). spelled_put put ++ l) (spelled_both one two) ∙ sym (append_assoc (spelled_put put) (spelled_puts one) (spelled_puts two))

-- What was read of a log so far, and what is left to read: the invariants of the loops that read.
use Rattle.std.proofs.Common.{◌≡◌, ◌<◌, ◌≤◌, ℕ, ◌+◌, ◌-◌, true, List, [], ◌∷◌, ◌++◌, length, drop, get_or, Option, Some, None, refl, sym, ◌∙◌, ap, arith, append_assoc}
use Rattle.std.specs.Prelude.{option_map}
use Rattle.std.specs.Option.{option_and_then}
use Rattle.std.proofs.lemmas.List.{drop_all, length-map, get_or-map}
use Rattle.ml_base.specs.Dir.{Dir, are_files, with_put, with_puts}
use Rattle.ml_base.specs.Name.{is_file}
use Rattle.ml_journal.proofs.Tables.{older_next, each_file}
use Rattle.ml_base.specs.Bytes.{Text}
use Rattle.ml_base.specs.Netstrings.{netstring_at}
use Rattle.ml_base.specs.declared.puts.Put.{Put}
use Rattle.ml_journal.specs.Records.{put_at, puts_of, record_at}
use Rattle.ml_journal.specs.declared.log_reader.FoundPut.{FoundPut}
use Rattle.ml_journal.specs.Found.{put_of, puts_found}
use Rattle.ml_journal.specs.Log.{log_puts, record_and_more}
use Rattle.ml_journal.proofs.Records.{puts_next}
use Rattle.ml_journal.proofs.Logs.{log_opened, log_closed}

abbrev pub after : List Put → Option (List Put) → Option (List Put)
after found more = option_map (λ (puts : List Put). found ++ puts) more

after_both : (found more : List Put) (rest : Option (List Put)) → after found (after more rest) ≡ after (found ++ more) rest
after_both found more None = refl
after_both found more (Some puts) = ap Some (sym (append_assoc found more puts))

-- one more put was read
pub put_read : (found : List Put) (text : Text) (put : Put) (rest : Text) → put_at text ≡ Some (put, rest) → after found (puts_of text) ≡ after (found ++ put ∷ []) (puts_of rest)
put_read found text put rest e = ap (after found) (puts_next text put rest e) ∙ after_both found (put ∷ []) (puts_of rest)

-- the record that begins with a netstring of a row of puts
pub record_read : (text content rest : Text) → netstring_at text ≡ Some (content, rest) → record_at text ≡ option_map (λ (puts : List Put). (puts, rest)) (puts_of content)
record_read text content rest e = ap (option_and_then (λ (found : Text × Text). option_map (λ (puts : List Put). (puts, found.1)) (puts_of found.0))) e

-- one more record was read
pub log_read : (old new : List Put) (b : ℕ) (text content rest : Text) → netstring_at (b ∷ text) ≡ Some (content, rest) → after old (puts_of content) ≡ Some new → after old (log_puts (1 ∷ b ∷ text)) ≡ after new (log_puts rest)
log_read old new b text content rest e is =
    ap (after old) (log_opened b text ∙ ap (record_and_more log_puts) (record_read (b ∷ text) content rest e)) ∙ go (puts_of content) is
  where
    go : (puts : Option (List Put)) → after old puts ≡ Some new → after old (record_and_more log_puts (option_map (λ (ps : List Put). (ps, rest)) puts)) ≡ after new (log_puts rest)
    go None e' = cc
    go (Some puts) e' = let same : old ++ puts ≡ new = cc in after_both old puts (log_puts rest) ∙ ap (λ (l : List Put). after l (log_puts rest)) same

-- no record follows an open gate
pub log_broken : (old : List Put) (b : ℕ) (text : Text) → record_at (b ∷ text) ≡ None → after old (log_puts (1 ∷ b ∷ text)) ≡ None
log_broken old b text e = ap (after old) (log_opened b text ∙ ap (record_and_more log_puts) e)

-- a log that is empty, or whose first gate is closed or its last byte
pub shut : (log : Text) → ((text : Text) → log ≡ 1 ∷ text → length text ≡ 0) → log_puts log ≡ Some []
shut [] closed = refl
shut (gate ∷ []) closed = refl
shut (gate ∷ b ∷ text) closed = log_closed gate b text (λ is_open. let size = closed (b ∷ text) (ap (λ (g : ℕ). g ∷ b ∷ text) is_open) in absurd (omega (arith, size)))

pub found_more : (found : List FoundPut) (put : FoundPut) → puts_found (found ++ put ∷ []) ≡ puts_found found ++ put_of put ∷ []
found_more [] put = refl
found_more (first ∷ found) put = ap (λ (l : List Put). put_of first ∷ l) (found_more found put)

-- one more put was found
pub next_put : (start : Option (List Put)) (found new : List FoundPut) (text : Text) (put : FoundPut) (rest : Text) → put_at text ≡ Some (put_of put, rest) → new ≡ found ++ put ∷ []
    → after (puts_found found) (puts_of text) ≡ start → after (puts_found new) (puts_of rest) ≡ start
next_put start found new text put rest e is so_far =
    ap (λ (l : List FoundPut). after (puts_found l) (puts_of rest)) is ∙ ap (λ (l : List Put). after l (puts_of rest)) (found_more found put)
    ∙ sym (put_read (puts_found found) text (put_of put) rest e) ∙ so_far

-- one more record was found
pub next_record : (log text content rest : Text) (old new : List Put) (at : Text) → at ≡ 1 ∷ text → 0 < length text → netstring_at text ≡ Some (content, rest) → after old (puts_of content) ≡ Some new
    → after old (log_puts at) ≡ log_puts log → after new (log_puts rest) ≡ log_puts log
next_record log [] content rest old new at is some e row so_far = absurd (omega (arith, some))
next_record log (b ∷ text) content rest old new at is some e row so_far = sym (log_read old new b text content rest e row) ∙ ap (λ (l : Text). after old (log_puts l)) (sym is) ∙ so_far

-- no record follows the gate
no_record : (log text : Text) (old : List Put) (at : Text) → at ≡ 1 ∷ text → 0 < length text → record_at text ≡ None → after old (log_puts at) ≡ log_puts log → None ≡ log_puts log
no_record log [] old at is some e so_far = absurd (omega (arith, some))
no_record log (b ∷ text) old at is some e so_far = sym (log_broken old b text e) ∙ ap (λ (l : Text). after old (log_puts l)) (sym is) ∙ so_far

pub no_row : (log text content rest : Text) (old : List Put) (at : Text) → at ≡ 1 ∷ text → 0 < length text → netstring_at text ≡ Some (content, rest) → after old (puts_of content) ≡ None
    → after old (log_puts at) ≡ log_puts log → None ≡ log_puts log
no_row log text content rest old at is some e row so_far = no_record log text old at is some (record_read text content rest e ∙ none (puts_of content) row) so_far
  where
    none : (puts : Option (List Put)) → after old puts ≡ None → option_map {U = List Put × Text} (λ (ps : List Put). (ps, rest)) puts ≡ None
    none None e' = refl
    none (Some puts) e' = cc

-- before the first step no put is looked at
pub none_older : (found : List FoundPut) (dir : Dir) → with_puts dir (drop (length found) (puts_found found)) ≡ dir
none_older found dir = ap (with_puts dir) (drop_all (length found) (puts_found found) (omega (arith, length-map found put_of)))

-- the put before those that were looked at
pub one_older : (found : List FoundPut) (i : ℕ) (d : FoundPut) → i < length found → (dir : Dir) → with_puts (with_put dir (put_of (get_or found i d))) (drop (i + 1) (puts_found found)) ≡ with_puts dir (drop i (puts_found found))
one_older found i d lt dir =
    ap (λ (p : Put). with_puts (with_put dir p) (drop (i + 1) (puts_found found))) (sym (get_or-map put_of found i d (put_of d) lt))
    ∙ older_next (puts_found found) i (put_of d) (omega (arith, lt, length-map found put_of)) dir

pub found_file : (found : List FoundPut) (i : ℕ) (d : FoundPut) → i < length found → are_files (puts_found found) ≡ true → is_file (get_or found i d).name ≡ true
found_file found i d lt files =
    ap (λ (p : Put). is_file p.name) (sym (get_or-map put_of found i d (put_of d) lt)) ∙ each_file (puts_found found) i (put_of d) (omega (arith, lt, length-map found put_of)) files

-- the table has that put too
pub older_so_far : (found : List FoundPut) (left : ℕ) (d : FoundPut) (old new : Dir → Dir) → 0 < left → left ≤ length found → ((dir : Dir) → old dir ≡ with_puts dir (drop left (puts_found found)))
    → ((dir : Dir) → new dir ≡ old (with_put dir (put_of (get_or found (left - 1) d)))) → (dir : Dir) → new dir ≡ with_puts dir (drop (left - 1) (puts_found found))
older_so_far found left d old new some le so_far is dir =
    let again : left - 1 + 1 ≡ left = omega (arith, some) in
    let put = put_of (get_or found (left - 1) d) in
    is dir ∙ so_far (with_put dir put) ∙ ap (λ (k : ℕ). with_puts (with_put dir put) (drop k (puts_found found))) (sym again)
    ∙ one_older found (left - 1) d (omega (arith, some, le)) dir

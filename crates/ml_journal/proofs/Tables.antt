-- A table of newest puts, and what it does to a directory.
use Rattle.std.proofs.Common.{◌≡◌, ◌<◌, ◌+◌, ℕ, zero, suc, Bool, true, false, cond, List, [], ◌∷◌, length, drop, get_or, Result, Ok, Err, OnOk, Option, Some, None, IsSome, refl, sym, ◌∙◌, ap, subst, arith}
use Rattle.std.specs.Prelude.{◌&&◌, IsTrue}
use Rattle.std.specs.BTreeMap.{BTreeMap}
use Rattle.ml_base.specs.Bytes.{Text}
use Rattle.ml_base.specs.Dir.{Dir, are_files, same_name, with_file, with_put, with_puts}
use Rattle.ml_base.specs.Name.{is_file}
use Rattle.ml_base.specs.declared.names.Name.{Name}
use Rattle.ml_base.specs.declared.puts.Put.{Put}
use Rattle.std.proofs.lemmas.List.{drop_more}
use Rattle.ml_base.proofs.Bools.{both, one_name}
use Rattle.ml_journal.specs.Newest.{newest_of, left_by, with_newest, Sets}

abbrev Table : Type 0
Table = BTreeMap Name (Option Text)

-- a table names only files
abbrev pub NamesFiles : Table → Type 0
NamesFiles puts = (name : Name) → IsSome (newest_of puts name) → IsTrue (is_file name)

pub still_files : (done : Bool) (old new : Table) (name : Name) (bytes : Option Text) → IsTrue (is_file name) → Sets done old new name bytes → NamesFiles old → NamesFiles new
still_files done old new name bytes is sets files other some = go (done && same_name other name) refl
  where
    go : (b : Bool) → (done && same_name other name) ≡ b → IsTrue (is_file other)
    go true e = subst (λ (n : Name). IsTrue (is_file n)) (sym (one_name other name (both done (same_name other name) e).1)) is
    go false e = files other (subst IsSome (sets other ∙ ap (λ (b : Bool). cond b (Some bytes) (newest_of old other)) e) some)

-- laid over a directory it has that put too
pub laid_set : (old new : Table) (name : Name) (bytes : Option Text) → Sets true old new name bytes → (dir : Dir) → with_newest new dir ≡ with_file (with_newest old dir) name bytes
laid_set old new name bytes sets dir = λ i other. each other i
  where
    chosen : (b : Bool) (before : Option (Option Text)) (held : Option Text) → left_by (cond b (Some bytes) before) held ≡ cond b bytes (left_by before held)
    chosen true before held = refl
    chosen false before held = refl

    each : (other : Name) → with_newest new dir other ≡ with_file (with_newest old dir) name bytes other
    each other = ap (λ (o : Option (Option Text)). left_by o (dir other)) (sets other) ∙ chosen (same_name other name) (newest_of old other) (dir other)

pub laid_unset : (old new : Table) (name : Name) (bytes : Option Text) → Sets false old new name bytes → (dir : Dir) → with_newest new dir ≡ with_newest old dir
laid_unset old new name bytes sets dir = λ i other. left_by (sets other i) (dir other)

-- a put that is older than the newest of its file has no effect
pub older_hidden : (puts : Table) (put : Put) → IsSome (newest_of puts put.name) → (dir : Dir) → with_newest puts dir ≡ with_newest puts (with_put dir put)
older_hidden puts put some dir = λ i name. each name i
  where
    hidden : (newest : Option (Option Text)) (before after : Option Text) → IsSome newest → left_by newest before ≡ left_by newest after
    hidden None before after has = cc
    hidden (Some bytes) before after has = refl

    each : (name : Name) → with_newest puts dir name ≡ with_newest puts (with_put dir put) name
    each name = go (same_name name put.name) refl
      where
        go : (b : Bool) → same_name name put.name ≡ b → with_newest puts dir name ≡ with_newest puts (with_put dir put) name
        go true e = hidden (newest_of puts name) (dir name) (with_put dir put name) (subst (λ (n : Name). IsSome (newest_of puts n)) (sym (one_name name put.name e)) some)
        go false e = ap (left_by (newest_of puts name)) (sym (ap (λ (b : Bool). cond b put.bytes (dir name)) e))

-- a put of a file that has none yet becomes its newest
pub older_added : (puts : Table) (put : Put) → newest_of puts put.name ≡ None → (dir : Dir) → with_file (with_newest puts dir) put.name put.bytes ≡ with_newest puts (with_put dir put)
older_added puts put none dir = λ i name. each name i
  where
    each : (name : Name) → with_file (with_newest puts dir) put.name put.bytes name ≡ with_newest puts (with_put dir put) name
    each name = go (same_name name put.name) refl
      where
        go : (b : Bool) → same_name name put.name ≡ b → with_file (with_newest puts dir) put.name put.bytes name ≡ with_newest puts (with_put dir put) name
        go true e =
            let alone : newest_of puts name ≡ None = ap (newest_of puts) (one_name name put.name e) ∙ none in
            ap (λ (b : Bool). cond b put.bytes (with_newest puts dir name)) e
            ∙ sym (ap (λ (o : Option (Option Text)). left_by o (with_put dir put name)) alone ∙ ap (λ (b : Bool). cond b put.bytes (dir name)) e)
        go false e =
            ap (λ (b : Bool). cond b put.bytes (with_newest puts dir name)) e
            ∙ ap (left_by (newest_of puts name)) (sym (ap (λ (b : Bool). cond b put.bytes (dir name)) e))

-- the puts from a place on, with the one before that place
pub older_next : (puts : List Put) (i : ℕ) (d : Put) → i < length puts → (dir : Dir) → with_puts (with_put dir (get_or puts i d)) (drop (i + 1) puts) ≡ with_puts dir (drop i puts)
older_next puts i d lt dir = ap (with_puts dir) (sym (drop_more puts i d lt))

-- every put is of a file
pub each_file : (puts : List Put) (i : ℕ) (d : Put) → i < length puts → are_files puts ≡ true → is_file (get_or puts i d).name ≡ true
each_file [] i d lt files = absurd (omega (arith, lt))
each_file (put ∷ puts) zero d lt files = (both (is_file put.name) (are_files puts) files).0
each_file (put ∷ puts) (suc i) d lt files = each_file puts i d (omega (arith, lt)) (both (is_file put.name) (are_files puts) files).1

pub older_set : {E : Type 0} (result : Result (Unit {0}) E) (old new : Table) (put : Put) (bytes : Option Text) → bytes ≡ put.bytes → newest_of old put.name ≡ None
    → OnOk result ((dir : Dir) → with_newest new dir ≡ with_file (with_newest old dir) put.name bytes) → OnOk result ((dir : Dir) → with_newest new dir ≡ with_newest old (with_put dir put))
older_set (Ok u) old new put bytes same none set = λ dir. set dir ∙ ap (with_file (with_newest old dir) put.name) same ∙ older_added old put none dir
older_set (Err e) old new put bytes same none set = tt

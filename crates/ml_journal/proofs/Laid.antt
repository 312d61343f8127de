-- How files are laid down one after another.
use Rattle.std.proofs.Common.{◌≡◌, ◌≢◌, ℕ, Bool, true, false, cond, List, [], ◌∷◌, Option, Some, None, refl, sym, ◌∙◌, ap, subst, arith}
use Rattle.std.specs.Prelude.{IsSome}
use Rattle.std.specs.BTreeMap.{BTreeMap, is_at}
use Rattle.std.specs.Map.{lookup}
use Rattle.std.proofs.lemmas.Bool.Decides.{nat_tests}
use Rattle.std.specs.declared.cmp.Ordering.{Ordering}
use Rattle.std.specs.declared.cmp.Ordering.TheVariants.{Less, Equal, Greater}
use Rattle.std.specs.Ordering.{is_eq}
use Rattle.ml_base.specs.Bytes.{Text}
use Rattle.ml_base.specs.Dir.{Dir, same_name, with_file}
use Rattle.ml_base.specs.Name.{name_cmp}
use Rattle.ml_base.specs.declared.names.Name.{Name}
use Rattle.ml_base.proofs.Bools.{one_name}
use Rattle.ml_base.proofs.NameMaps.{exact_names}
use Rattle.ml_site.specs.Disk.{Contents, File, Disk, MayLeave, IsImage}
use Rattle.ml_site.proofs.FileParts.{file_log, over_log, over_beside}
use Rattle.ml_journal.specs.Newest.{newest_of, left_by, with_newest}
use Rattle.ml_journal.specs.Laying.{Beside, IsOver, IsBeside}

-- a file that has a put differs from a file that has none
apart : (puts : BTreeMap Name (Option Text)) (name other : Name) → IsSome (newest_of puts name) → newest_of puts other ≡ None → other ≢ name
apart puts name other is none same =
    let found : IsSome (newest_of puts other) = subst (λ (n : Name). IsSome (newest_of puts n)) (sym same) is in
    let bad : false ≡ true = subst (λ (o : Option (Option Text)). IsSome o) none found in cc

pub no_change : (puts : BTreeMap Name (Option Text)) (old : Contents) → Beside puts old old
no_change puts old = record { log = refl; files = λ name none. refl }

-- one more of these files
pub beside_more : (puts : BTreeMap Name (Option Text)) (name : Name) (old mid new : Contents) → IsSome (newest_of puts name) → Beside puts old mid → MayLeave mid (File name ∷ []) new → Beside puts old new
beside_more puts name old mid new is so_far may = record {
  log = file_log mid new name may ∙ so_far.log;
  files = λ other none. may.files other (apart puts name other is none, tt) ∙ so_far.files other none;
}

-- an image of a disk on which only these files are pending
pub over_image : (puts : BTreeMap Name (Option Text)) (old : Contents) (disk : Disk) (left : Contents) → IsOver puts old disk → IsImage disk left → Beside puts old left
over_image puts old disk left over image = record {
  log = over_log (λ name. IsSome (newest_of puts name)) old left disk over image;
  files = λ name none. over_beside (λ name. IsSome (newest_of puts name)) old left disk name over image (λ other is. apart puts other name is none);
}

not_at : (a b : Name) → a ≢ b → is_at (name_cmp a) b ≡ false
not_at a b differ = go (name_cmp a b) refl
  where
    go : (o : Ordering) → name_cmp a b ≡ o → is_eq o ≡ false
    go Less is = refl
    go Equal is = absurd (differ (exact_names a b is))
    go Greater is = refl

not_found : (entries : List (Name × Option Text)) (name : Name) → IsBeside name entries → lookup (is_at (name_cmp name)) entries ≡ None
not_found [] name beside = refl
not_found (entry ∷ entries) name beside = ap (λ (b : Bool). cond b (Some entry.1) (lookup (is_at (name_cmp name)) entries)) (not_at name entry.0 beside.0) ∙ not_found entries name beside.1

-- before the first file is laid
pub none_laid : (puts : BTreeMap Name (Option Text)) (entries : List (Name × Option Text)) (old : Dir) (name : Name) → entries ≡ puts.entries → IsBeside name entries → old name ≡ with_newest puts old name
none_laid puts entries old name same beside = ap (λ (found : Option (Option Text)). left_by found (old name)) (sym (not_found puts.entries name (subst (IsBeside name) same beside)))

-- one more file is laid down
pub laid_more : (puts : BTreeMap Name (Option Text)) (old mid new : Dir) (name : Name) (bytes : Option Text) (entries left : List (Name × Option Text)) → left ≡ (name, bytes) ∷ entries → newest_of puts name ≡ Some bytes → new ≡ with_file mid name bytes
    → ((other : Name) → IsBeside other left → mid other ≡ with_newest puts old other) → (other : Name) → IsBeside other entries → new other ≡ with_newest puts old other
laid_more puts old mid new name bytes entries left is found done so_far other beside = ap (λ (d : Dir). d other) done ∙ chosen (same_name other name) refl
  where
    differs : same_name other name ≡ false → other ≢ name
    differs out same = let bad : true ≡ false = sym (itself other) ∙ ap (same_name other) same ∙ out in cc
      where
        itself : (a : Name) → same_name a a ≡ true
        itself a = grind (arith, nat_tests)

    chosen : (b : Bool) → same_name other name ≡ b → cond b bytes (mid other) ≡ with_newest puts old other
    chosen true test =
        let same : other ≡ name = one_name other name test in
        ap (λ (o : Option (Option Text)). left_by o (old other)) (sym (ap (newest_of puts) same ∙ found))
    chosen false test = so_far other (subst (IsBeside other) (sym is) (differs test, beside))

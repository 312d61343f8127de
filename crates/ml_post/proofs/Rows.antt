-- The first of three rows that holds.
use Rattle.std.proofs.Common.{◌≡◌, Bool, true, false, [], ◌∷◌, length, ap, ◌∙◌, cond, sym, refl}
use Rattle.std.specs.Prelude.{◌==◌, not, ◌&&◌, ◌||◌, is_some, Option, Some, None}
use Rattle.ml_base.specs.Address.{key}
use Rattle.ml_base.specs.Bytes.{Text, is_empty, lower}
use Rattle.ml_base.specs.Dir.{same_name}
use Rattle.ml_base.specs.declared.names.Name.{Name}
use Rattle.ml_base.specs.declared.names.Set.TheVariants as sets
use Rattle.ml_filing.specs.Archive.{number_name}
use Rattle.ml_filing.specs.Subjects.{subject}
use Rattle.ml_config.specs.declared.configuration.Config.{Config}
use Rattle.ml_header.proofs.Headers.{no_bytes}
use Rattle.ml_header.specs.Fields.{FieldText, field, has_field}
use Rattle.std.specs.Option.{option_map}
use Rattle.ml_plain.specs.Plain.{Plain, first_row}
use Rattle.ml_plain.specs.Verdicts.{Verdict, Denied, NoSubject, CommandSubject, NotAddressed, UsersOnly, is_command, is_addressed}
use Rattle.ml_post.specs.Judging.{of_sender, of_room, is_judged_by}
use Rattle.ml_subs.specs.Buckets.{bucket_of}
use Rattle.ml_subs.specs.Members.{has_key}
use Rattle.ml_subs.specs.Subscribers.{bucket_name}

module _ {A : Type 0} (a b c : Bool) (x y z rest : A) where
  abbrev three : Bool → Bool → Bool → A
  three a b c = cond a x (cond b y (cond c z rest))

  pub row_first : a ≡ true → three a b c ≡ x
  row_first e = ap (λ (t : Bool). three t b c) e

  pub row_second : a ≡ false → b ≡ true → three a b c ≡ y
  row_second e f = ap (λ (t : Bool). three t b c) e ∙ ap (λ (t : Bool). three false t c) f

  pub row_third : a ≡ false → b ≡ false → c ≡ true → three a b c ≡ z
  row_third e f g = ap (λ (t : Bool). three t b c) e ∙ ap (λ (t : Bool). three false t c) f ∙ ap (λ (t : Bool). three false false t) g

  pub no_row : a ≡ false → b ≡ false → c ≡ false → three a b c ≡ rest
  no_row e f g = ap (λ (t : Bool). three t b c) e ∙ ap (λ (t : Bool). three false t c) f ∙ ap (λ (t : Bool). three false false t) g

-- a text that was tested isn't empty
pub filled : (text found : Text) (test : Bool) → found ≡ text → test ≡ (length found == 0) → test ≡ false → is_empty text ≡ false
filled text found test same is none = sym (ap is_empty same) ∙ no_bytes found ∙ sym is ∙ none

-- what is found after the first rows goes by the sender's key
abbrev by_key : Plain → Text → Text → Verdict
by_key p k m =
    first_row ((p.config.flags.k && has_key k (p.sets sets.Deny), Denied) ∷ [])
    (first_row ((is_empty (subject m), NoSubject) ∷ (is_command (lower (subject m)), CommandSubject) ∷ (not (is_addressed p.config m), NotAddressed) ∷ [])
    (first_row ((p.config.flags.u && not (has_key k (p.sets sets.List) || has_key k (p.sets sets.Digest) || has_key k (p.sets sets.Allow) || has_key k (p.sets sets.Moderators)), UsersOnly) ∷ []) (of_room p)))

pub same_sender : (p : Plain) (who sender m : Text) → key who ≡ key sender → of_sender p who m ≡ of_sender p sender m
same_sender p who sender m e = ap (λ (k : Text). by_key p k m) e

-- and the files that are read go by it too
abbrev read_by_key : Config → Text → Name → Bool
read_by_key c k name =
    (c.flags.k && same_name name (bucket_name sets.Deny (bucket_of k)))
    || (c.flags.u && (same_name name (bucket_name sets.List (bucket_of k)) || same_name name (bucket_name sets.Digest (bucket_of k)) || same_name name (bucket_name sets.Allow (bucket_of k)) || same_name name (bucket_name sets.Moderators (bucket_of k))))
    || (not c.flags.m && same_name name number_name)

pub same_files : (c : Config) (who sender : Text) (name : Name) → key who ≡ key sender → is_judged_by c who name ≡ is_judged_by c sender name
same_files c who sender name e = ap (λ (k : Text). read_by_key c k name) e

-- whether a message has a field, by what was found of it
pub has_some : {F : Type 0} (text_of : F → FieldText) (name m : Text) (found : Option F) (test : Bool) → option_map text_of found ≡ field name m → test ≡ is_some found → has_field name m ≡ test
has_some {F = F} text_of name m found test is tested = sym (ap is_some is) ∙ same found ∙ sym tested
  where
    same : (o : Option F) → is_some (option_map text_of o) ≡ is_some o
    same None = refl
    same (Some f) = refl

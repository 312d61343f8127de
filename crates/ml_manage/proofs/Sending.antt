-- Answers that are one mail, or none.
use Rattle.std.proofs.Common.{◌≡◌, ℕ, Bool, true, false, List, [], sym, arith, subst}
use Rattle.ml_base.specs.Bytes.{Text}
use Rattle.ml_base.specs.Dir.{Dir}
use Rattle.ml_base.specs.declared.names.Set.{Set}
use Rattle.ml_base.specs.declared.puts.Put.{Put}
use Rattle.ml_plain.specs.declared.Reply.{Reply}
use Rattle.ml_plain.specs.Answers.{private}
use Rattle.ml_plain.specs.Directory.{IsList}
use Rattle.ml_plain.specs.Managing.{from_archive, list_members}
use Rattle.ml_plain.specs.Plain.{Plain}
use Rattle.ml_acts.specs.Doing.{DoesList, HasIds, HasRoom}
use Rattle.ml_manage.proofs.Bounced.{does_by}

pub room_ids : (dir : Dir) → HasRoom dir → HasIds dir
room_ids dir room low next is = let most = room.ids low next is in omega (arith, most)

module _ (dir : Dir) (p : Plain) (now : ℕ) (sender : Text) (done : List Put × Reply) (b : Bool) where
  -- the archive is closed
  pub closed : (text : Text) → IsList dir p → b ≡ false → done.0 ≡ [] → done.1 ≡ private → DoesList dir done (from_archive now sender p b text)
  closed text is fails e f = subst (λ (t : Bool). DoesList dir done (from_archive now sender p t text)) (sym fails) (does_by dir done [] private p e f is)

  -- or open
  pub opened : (text lines : Text) → b ≡ true → lines ≡ text → DoesList dir done (from_archive now sender p true lines) → DoesList dir done (from_archive now sender p b text)
  opened text lines holds same does =
      subst (λ (t : Bool). DoesList dir done (from_archive now sender p t text)) (sym holds) (subst (λ (t : Text). DoesList dir done (from_archive now sender p true t)) same does)

  -- a set isn't shown
  pub unlisted : (set : Set) → IsList dir p → b ≡ false → done.0 ≡ [] → done.1 ≡ private → DoesList dir done (list_members now sender set p b)
  unlisted set is fails e f = subst (λ (t : Bool). DoesList dir done (list_members now sender set p t)) (sym fails) (does_by dir done [] private p e f is)

  pub listed : (set : Set) → b ≡ true → DoesList dir done (list_members now sender set p true) → DoesList dir done (list_members now sender set p b)
  listed set holds does = subst (λ (t : Bool). DoesList dir done (list_members now sender set p t)) (sym holds) does

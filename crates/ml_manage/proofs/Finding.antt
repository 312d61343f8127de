-- What an answer to a request found, by the arm of the match that gives it.
use Rattle.std.proofs.Common.{◌≡◌, ℕ, Bool, true, false, Result, Ok, Err, IfOk, inr, refl}
use Rattle.ml_base.specs.Bytes.{Text}
use Rattle.ml_base.specs.Dir.{Dir}
use Rattle.ml_base.specs.declared.names.Set.{Set}
use Rattle.ml_base.specs.declared.names.Set.TheVariants as sets
use Rattle.ml_config.specs.declared.configuration.Config.{Config}
use Rattle.ml_filing.specs.Archive.{IsNumberFile, number_name}
use Rattle.ml_acts.specs.Found.{TellsMember}
use Rattle.ml_manage.specs.Found.{IfMember, TellsLister, TellsOpen, TellsSubscriber, TellsUsed, is_closed}

module _ (dir : Dir) (set : Set) where
  -- a bounce to a member, by what else is read
  pub if_member : (k : Text) (Read : Type 0) (counts : Bool) → TellsMember dir set k true → Read → IfMember dir set k Read counts
  if_member k Read true member read = (member, read)
  if_member k Read false member read = inr (member, read)

-- numbers of a set other than digest are those of posts
pub used_post : (dir : Dir) (set : Set) → (set ≡ sets.Digest → ⊥) → (count : ℕ) × IsNumberFile (dir number_name) count → TellsUsed dir set
used_post dir sets.Digest none read = absurd (none refl)
used_post dir sets.List none read = read
used_post dir sets.Allow none read = read
used_post dir sets.Deny none read = read
used_post dir sets.Moderators none read = read

module _ (dir : Dir) (c : Config) (k : Text) where
  -- if only subscribers may read the archive
  pub open_by : (b : Bool) → is_closed c ≡ false → c.flags.g ≡ true → TellsSubscriber dir k b → TellsOpen dir c k b
  open_by true free only tells = (free, λ _. tells)
  open_by false free only tells = inr (only, tells)

  -- a moderator may be told who is in a set, if that is asked
  pub lister_by : (b : Bool) → (c.flags.l ≡ true → TellsMember dir sets.Moderators k b) → (c.flags.l ≡ false → b ≡ false) → TellsLister dir c k b
  lister_by false tells unasked = tells
  lister_by true tells unasked = go c.flags.l tells unasked
    where
      go : (l : Bool) → (l ≡ true → TellsMember dir sets.Moderators k true) → (l ≡ false → true ≡ false) → (l ≡ true) × TellsMember dir sets.Moderators k true
      go true tells unasked = (refl, tells refl)
      go false tells unasked = absurd (let bad : true ≡ false = unasked refl in cc)

-- what holds anyway holds of an answer
pub always_ok : {T E P : Type 0} (r : Result T E) → P → IfOk r (λ _. P)
always_ok (Ok x) p = p
always_ok (Err e) p = tt

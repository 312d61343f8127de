-- Which damaged files an item may name.
use Rattle.std.proofs.Common.{◌≡◌, true, Result, subst}
use Rattle.ml_base.specs.Bytes.{Text}
use Rattle.ml_base.specs.Dir.{Dir}
use Rattle.ml_base.specs.ReadFiles.{NamesDamaged}
use Rattle.ml_base.specs.declared.files.Files.{Ghosts}
use Rattle.ml_base.specs.declared.names.Name.{Name}
use Rattle.ml_base.specs.declared.part_error.PartError.{PartError}
use Rattle.ml_plain.specs.declared.Act.{Act}
use Rattle.ml_plain.specs.declared.Act.TheVariants.{Deliver, Timed}
use Rattle.ml_acts.specs.Damaged as acts
use Rattle.ml_acts.proofs.Damages.{named_so}
use Rattle.ml_list.specs.Delivering.{IsDelivered}
use Rattle.ml_timed.specs.Reads.{is_of_timed}
use Rattle.ml_list.specs.Reads.{is_of_acts}
use Rattle.ml_list.specs.Asked.{IsDamagedForAct, IsReadByAct, IsTimed}
use Rattle.ml_list.specs.Damage.{IsDamagedInList, is_read_by, part}

module _ {F T : Type 0} (ghosts : Ghosts F) (r : Result T PartError) (dir : Dir) where
  -- an act whose files depend only on itself
  pub acted_named : (act : Act) → ((name : Name) → is_read_by act name ≡ true → IsReadByAct dir act name) → NamesDamaged ghosts (λ name. is_read_by act name ≡ true) (IsDamagedInList dir) r
      → NamesDamaged ghosts (λ name. is_read_by act name ≡ true) (IsDamagedForAct dir act) r
  acted_named act read is =
      named_so ghosts (λ name. is_read_by act name ≡ true) r (λ name. is_read_by act name ≡ true) (IsDamagedInList dir) (IsDamagedForAct dir act) (λ name e. e) (λ name e bad. record { damaged = bad; read = read name e }) is

  -- a delivery
  pub delivered_named : (sender recipient message from to text : Text) → from ≡ sender → to ≡ recipient → text ≡ message → NamesDamaged ghosts (λ name. is_of_acts name ≡ true) (λ name. acts.IsDamaged dir name × IsDelivered dir from to text name) r
      → NamesDamaged ghosts (λ name. is_read_by (Deliver sender recipient message) name ≡ true) (IsDamagedForAct dir (Deliver sender recipient message)) r
  delivered_named sender recipient message from to text same_sender same_recipient same_message is =
      named_so ghosts (λ name. is_read_by (Deliver sender recipient message) name ≡ true) r (λ name. is_of_acts name ≡ true) (λ name. acts.IsDamaged dir name × IsDelivered dir from to text name) (IsDamagedForAct dir (Deliver sender recipient message)) (λ name e. e)
      (λ name e bad. record {
        damaged = part bad.0;
        read = subst (λ (x : Text). IsDelivered dir x recipient message name) same_sender
            (subst (λ (x : Text). IsDelivered dir from x message name) same_recipient (subst (λ (x : Text). IsDelivered dir from to x name) same_message bad.1));
      }) is

  -- a timed run
  pub timed_named : NamesDamaged ghosts (λ name. is_of_timed true name ≡ true) (IsTimed dir) r → NamesDamaged ghosts (λ name. is_read_by Timed name ≡ true) (IsDamagedForAct dir Timed) r
  timed_named is =
      named_so ghosts (λ name. is_read_by Timed name ≡ true) r (λ name. is_of_timed true name ≡ true) (IsTimed dir) (IsDamagedForAct dir Timed) (λ name e. e) (λ name e bad. record { damaged = part bad.bad.damaged; read = bad }) is

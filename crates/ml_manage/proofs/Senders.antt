-- What a request does by its sender and its message.
use Rattle.std.proofs.Common.{◌≡◌, ℕ, Bool, true, false, List, [], Option, Some, None, codes, sym, subst}
use Rattle.ml_address.specs.Requests.{PlainRequest}
use Rattle.ml_base.specs.Bytes.{Text}
use Rattle.ml_base.specs.Dir.{Dir}
use Rattle.ml_base.specs.declared.puts.Put.{Put}
use Rattle.ml_header.specs.Fields.{has_field}
use Rattle.ml_plain.specs.declared.Reply.{Reply}
use Rattle.ml_plain.specs.Answers.{looped, nosender}
use Rattle.ml_plain.specs.Directory.{IsList}
use Rattle.ml_plain.specs.Managing.{by_sender, managed, unless_looped}
use Rattle.ml_plain.specs.Plain.{Plain}
use Rattle.ml_acts.specs.Doing.{DoesList}
use Rattle.ml_manage.proofs.Bounced.{does_by}

module _ (dir : Dir) (p : Plain) (now : ℕ) (m : Text) (r : PlainRequest) (done : List Put × Reply) (found : Option Text) where
  -- the sender isn't an address
  pub of_nobody : IsList dir p → found ≡ None → done.0 ≡ [] → done.1 ≡ nosender → DoesList dir done (by_sender now m p r found)
  of_nobody is none e f = subst (λ (o : Option Text). DoesList dir done (by_sender now m p r o)) (sym none) (does_by dir done [] nosender p e f is)

  -- the message came from a list
  pub of_list : (who : Text) → IsList dir p → found ≡ Some who → has_field (codes "mailing-list") m ≡ true → done.0 ≡ [] → done.1 ≡ looped → DoesList dir done (by_sender now m p r found)
  of_list who is some holds e f =
      subst (λ (o : Option Text). DoesList dir done (by_sender now m p r o)) (sym some)
      (subst (λ (b : Bool). DoesList dir done (unless_looped now who p r b)) (sym holds) (does_by dir done [] looped p e f is))

  -- neither of these
  pub of_somebody : (who : Text) → found ≡ Some who → has_field (codes "mailing-list") m ≡ false → DoesList dir done (managed now who p r) → DoesList dir done (by_sender now m p r found)
  of_somebody who some fails does =
      subst (λ (o : Option Text). DoesList dir done (by_sender now m p r o)) (sym some) (subst (λ (b : Bool). DoesList dir done (unless_looped now who p r b)) (sym fails) does)

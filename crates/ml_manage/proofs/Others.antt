-- The requests that one arm of a match answers alike.
use Rattle.std.proofs.Common.{◌≡◌, ◌∙◌, ◌⊎◌, inl, inr, ℕ, true, false, List, [], Option, refl, sym, subst}
use Rattle.std.proofs.lemmas.Bool.{false≢true}
use Rattle.ml_address.specs.Requests.{PlainRequest}
use Rattle.ml_address.specs.Views.{request_view}
use Rattle.ml_address.specs.declared.Request.{Request}
use Rattle.ml_address.specs.declared.Request.TheVariants as requests
use Rattle.ml_address.specs.declared.Who.{Who}
use Rattle.ml_address.specs.declared.Word.{Word}
use Rattle.ml_base.specs.Address.{address_of}
use Rattle.ml_base.specs.Bytes.{Text}
use Rattle.ml_base.specs.Dir.{Dir, same_name}
use Rattle.ml_base.specs.declared.names.Name.{Name}
use Rattle.ml_base.specs.declared.names.Set.{Set}
use Rattle.ml_base.specs.declared.puts.Put.{Put}
use Rattle.ml_config.specs.declared.configuration.Config.{Config}
use Rattle.ml_filing.specs.Threads.{is_of_archive}
use Rattle.ml_queue.specs.Answers.{ids_name}
use Rattle.ml_plain.specs.Answers.{help}
use Rattle.ml_plain.specs.Managing.{by_request, by_sender, helped, managed}
use Rattle.ml_plain.specs.Plain.{Plain}
use Rattle.ml_plain.specs.declared.Reply.{Reply}
use Rattle.ml_acts.specs.Doing.{is_of_queue}
use Rattle.ml_joining.specs.Found.{SendsMail}
use Rattle.ml_manage.specs.Found.{FoundByRequest, FoundBySender, FoundManaged}
use Rattle.ml_manage.specs.Reads.{IsForRequest, is_asked_of, is_managed, is_read_for, is_read_for_sender}
use Rattle.ml_manage.specs.Written.{is_written_for, is_written_for_sender, is_written_of}
use Rattle.ml_manage.proofs.Requests.{is_other_than_posts}

-- a request other than a bounce and mail to the owner: all that is said of it is said by its sender's address
pub record IsOfSender (r : PlainRequest) : Type 0 where
  pub step : (now : ℕ) (sender m : Text) (p : Plain) → by_request now sender m p r ≡ by_sender now m p r (address_of sender)
  pub reads : (c : Config) (sender : Text) (name : Name) → is_read_for_sender c sender r name ≡ is_read_for c (address_of sender) r name
  pub writes : (sender : Text) (name : Name) → is_written_for_sender sender r name ≡ is_written_for (address_of sender) r name
  pub found : (dir : Dir) (c : Config) (sender m : Text) (done : List Put × Reply) → FoundBySender dir c (address_of sender) m r done → FoundByRequest dir c sender m r done

-- one that is answered with help, and asks nothing of the archive
pub record IsHelped (r : PlainRequest) : Type 0 where
  pub step : (now : ℕ) (sender : Text) (p : Plain) → managed now sender p r ≡ helped now sender p
  pub reads : (c : Config) (sender : Text) (name : Name) → is_asked_of c sender r name ≡ same_name name ids_name
  pub writes : (sender : Text) (name : Name) → is_written_of sender r name ≡ is_of_queue name
  pub found : (dir : Dir) (c : Config) (sender : Text) (done : List Put × Reply) → SendsMail dir [] help done → FoundManaged dir c sender r done
  pub own : (dir : Dir) (c : Config) (name : Name) → (is_of_archive name ≡ true → ⊥) → IsForRequest dir c r name

module _ (r : Request) (managed : is_managed (request_view r) ≡ true) where
  unmanaged : (s : Request) → r ≡ s → is_managed (request_view s) ≡ false → ⊥
  unmanaged s e none = false≢true (sym none ∙ subst (λ (t : Request). is_managed (request_view t) ≡ true) e managed)

  of_sender : {s : Request} → r ≡ s → IsOfSender (request_view s) → IsOfSender (request_view r)
  of_sender e is = subst (λ (t : Request). IsOfSender (request_view t)) (sym e) is

  pub is_of_sender : (r ≡ requests.Help) ⊎ ((r ≡ requests.Other) ⊎ (((set : Set) × (who : Option Who) × (r ≡ requests.Subscribe set who)) ⊎ (((set : Set) × (who : Option Who) × (r ≡ requests.Unsubscribe set who)) ⊎ (((set : Set) × (r ≡ requests.Members set)) ⊎ (((word : Word) × (set : Set) × (time : ℕ) × (cookie : List ℕ) × (who : Who) × (r ≡ requests.Confirm word set time cookie who)) ⊎ (((from : ℕ) × (to : Option ℕ) × (r ≡ requests.Get from to)) ⊎ (((at : ℕ) × (r ≡ requests.Index at)) ⊎ (((at : ℕ) × (r ≡ requests.Thread at)) ⊎ ((r ≡ requests.Post) ⊎ (((ticket : ℕ) × (cookie : List ℕ) × (r ≡ requests.Accept ticket cookie)) ⊎ ((ticket : ℕ) × (cookie : List ℕ) × (r ≡ requests.Reject ticket cookie)))))))))))) → IsOfSender (request_view r)
  is_of_sender (inl e) = of_sender e (record { step = λ now sender m p. refl; reads = λ c sender name. refl; writes = λ sender name. refl; found = λ dir c sender m done is. is })
  is_of_sender (inr (inl e)) = of_sender e (record { step = λ now sender m p. refl; reads = λ c sender name. refl; writes = λ sender name. refl; found = λ dir c sender m done is. is })
  is_of_sender (inr (inr (inl (set, who, e)))) = of_sender e (record { step = λ now sender m p. refl; reads = λ c sender name. refl; writes = λ sender name. refl; found = λ dir c sender m done is. is })
  is_of_sender (inr (inr (inr (inl (set, who, e))))) = of_sender e (record { step = λ now sender m p. refl; reads = λ c sender name. refl; writes = λ sender name. refl; found = λ dir c sender m done is. is })
  is_of_sender (inr (inr (inr (inr (inl (set, e)))))) = of_sender e (record { step = λ now sender m p. refl; reads = λ c sender name. refl; writes = λ sender name. refl; found = λ dir c sender m done is. is })
  is_of_sender (inr (inr (inr (inr (inr (inl (word, set, time, cookie, who, e))))))) = of_sender e (record { step = λ now sender m p. refl; reads = λ c sender name. refl; writes = λ sender name. refl; found = λ dir c sender m done is. is })
  is_of_sender (inr (inr (inr (inr (inr (inr (inl (from, to, e)))))))) = of_sender e (record { step = λ now sender m p. refl; reads = λ c sender name. refl; writes = λ sender name. refl; found = λ dir c sender m done is. is })
  is_of_sender (inr (inr (inr (inr (inr (inr (inr (inl (at, e))))))))) = of_sender e (record { step = λ now sender m p. refl; reads = λ c sender name. refl; writes = λ sender name. refl; found = λ dir c sender m done is. is })
  is_of_sender (inr (inr (inr (inr (inr (inr (inr (inr (inl (at, e)))))))))) = of_sender e (record { step = λ now sender m p. refl; reads = λ c sender name. refl; writes = λ sender name. refl; found = λ dir c sender m done is. is })
  is_of_sender (inr (inr (inr (inr (inr (inr (inr (inr (inr (inl e)))))))))) = absurd (unmanaged requests.Post e refl)
  is_of_sender (inr (inr (inr (inr (inr (inr (inr (inr (inr (inr (inl (ticket, cookie, e)))))))))))) = of_sender e (record { step = λ now sender m p. refl; reads = λ c sender name. refl; writes = λ sender name. refl; found = λ dir c sender m done is. is })
  is_of_sender (inr (inr (inr (inr (inr (inr (inr (inr (inr (inr (inr (ticket, cookie, e)))))))))))) = of_sender e (record { step = λ now sender m p. refl; reads = λ c sender name. refl; writes = λ sender name. refl; found = λ dir c sender m done is. is })

  with_help : {s : Request} → r ≡ s → IsHelped (request_view s) → IsHelped (request_view r)
  with_help e is = subst (λ (t : Request). IsHelped (request_view t)) (sym e) is

  pub is_helped : (r ≡ requests.Help) ⊎ ((r ≡ requests.Other) ⊎ ((r ≡ requests.Owner) ⊎ (((set : Set) × (number : ℕ) × (who : Who) × (r ≡ requests.Bounce set number who)) ⊎ (((set : Set) × (time : ℕ) × (cookie : List ℕ) × (who : Who) × (r ≡ requests.WarnBounce set time cookie who)) ⊎ (((set : Set) × (time : ℕ) × (cookie : List ℕ) × (who : Who) × (r ≡ requests.ProbeBounce set time cookie who)) ⊎ (((set : Set) × (r ≡ requests.ReplyBounce set)) ⊎ ((r ≡ requests.Post) ⊎ (((ticket : ℕ) × (cookie : List ℕ) × (r ≡ requests.Accept ticket cookie)) ⊎ ((ticket : ℕ) × (cookie : List ℕ) × (r ≡ requests.Reject ticket cookie)))))))))) → IsHelped (request_view r)
  is_helped (inl e) = with_help e (record { step = λ now sender p. refl; reads = λ c sender name. refl; writes = λ sender name. refl; found = λ dir c sender done is. is; own = λ dir c name none. tt })
  is_helped (inr (inl e)) = with_help e (record { step = λ now sender p. refl; reads = λ c sender name. refl; writes = λ sender name. refl; found = λ dir c sender done is. is; own = λ dir c name none. tt })
  is_helped (inr (inr (inl e))) = with_help e (record { step = λ now sender p. refl; reads = λ c sender name. refl; writes = λ sender name. refl; found = λ dir c sender done is. is; own = λ dir c name none. tt })
  is_helped (inr (inr (inr (inl (set, number, who, e))))) = with_help e (record { step = λ now sender p. refl; reads = λ c sender name. refl; writes = λ sender name. refl; found = λ dir c sender done is. is; own = λ dir c name none of. absurd (none of) })
  is_helped (inr (inr (inr (inr (inl (set, time, cookie, who, e)))))) = with_help e (record { step = λ now sender p. refl; reads = λ c sender name. refl; writes = λ sender name. refl; found = λ dir c sender done is. is; own = λ dir c name none. tt })
  is_helped (inr (inr (inr (inr (inr (inl (set, time, cookie, who, e))))))) = with_help e (record { step = λ now sender p. refl; reads = λ c sender name. refl; writes = λ sender name. refl; found = λ dir c sender done is. is; own = λ dir c name none. tt })
  is_helped (inr (inr (inr (inr (inr (inr (inl (set, e)))))))) = with_help e (record { step = λ now sender p. refl; reads = λ c sender name. refl; writes = λ sender name. refl; found = λ dir c sender done is. is; own = λ dir c name none. tt })
  is_helped (inr (inr (inr (inr (inr (inr (inr (inl e)))))))) = absurd (unmanaged requests.Post e refl)
  is_helped (inr (inr (inr (inr (inr (inr (inr (inr (inl (ticket, cookie, e)))))))))) = absurd (unmanaged (requests.Accept ticket cookie) e refl)
  is_helped (inr (inr (inr (inr (inr (inr (inr (inr (inr (ticket, cookie, e)))))))))) = absurd (unmanaged (requests.Reject ticket cookie) e refl)

-- a request that is neither a post nor a moderator's answer
pub is_other : (r : Request) → (r ≡ requests.Help) ⊎ ((r ≡ requests.Owner) ⊎ (((set : Set) × (who : Option Who) × (r ≡ requests.Subscribe set who)) ⊎ (((set : Set) × (who : Option Who) × (r ≡ requests.Unsubscribe set who)) ⊎ (((set : Set) × (r ≡ requests.Members set)) ⊎ (((word : Word) × (set : Set) × (time : ℕ) × (cookie : List ℕ) × (who : Who) × (r ≡ requests.Confirm word set time cookie who)) ⊎ (((from : ℕ) × (to : Option ℕ) × (r ≡ requests.Get from to)) ⊎ (((at : ℕ) × (r ≡ requests.Index at)) ⊎ (((at : ℕ) × (r ≡ requests.Thread at)) ⊎ (((set : Set) × (number : ℕ) × (who : Who) × (r ≡ requests.Bounce set number who)) ⊎ (((set : Set) × (time : ℕ) × (cookie : List ℕ) × (who : Who) × (r ≡ requests.WarnBounce set time cookie who)) ⊎ (((set : Set) × (time : ℕ) × (cookie : List ℕ) × (who : Who) × (r ≡ requests.ProbeBounce set time cookie who)) ⊎ (((set : Set) × (r ≡ requests.ReplyBounce set)) ⊎ (r ≡ requests.Other))))))))))))) → true ≡ is_other_than_posts (request_view r)
is_other r (inl e) = rw e refl
is_other r (inr (inl e)) = rw e refl
is_other r (inr (inr (inl (set, who, e)))) = rw e refl
is_other r (inr (inr (inr (inl (set, who, e))))) = rw e refl
is_other r (inr (inr (inr (inr (inl (set, e)))))) = rw e refl
is_other r (inr (inr (inr (inr (inr (inl (word, set, time, cookie, who, e))))))) = rw e refl
is_other r (inr (inr (inr (inr (inr (inr (inl (from, to, e)))))))) = rw e refl
is_other r (inr (inr (inr (inr (inr (inr (inr (inl (at, e))))))))) = rw e refl
is_other r (inr (inr (inr (inr (inr (inr (inr (inr (inl (at, e)))))))))) = rw e refl
is_other r (inr (inr (inr (inr (inr (inr (inr (inr (inr (inl (set, number, who, e))))))))))) = rw e refl
is_other r (inr (inr (inr (inr (inr (inr (inr (inr (inr (inr (inl (set, time, cookie, who, e)))))))))))) = rw e refl
is_other r (inr (inr (inr (inr (inr (inr (inr (inr (inr (inr (inr (inl (set, time, cookie, who, e))))))))))))) = rw e refl
is_other r (inr (inr (inr (inr (inr (inr (inr (inr (inr (inr (inr (inr (inl (set, e)))))))))))))) = rw e refl
is_other r (inr (inr (inr (inr (inr (inr (inr (inr (inr (inr (inr (inr (inr e))))))))))))) = rw e refl

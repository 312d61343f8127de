-- What is said of any request, from what is said of the one request that it is.
use Rattle.std.proofs.Common.{◌≡◌, Bool, true, IfErr, IfOk, List, Result, sym, subst}
use Rattle.std.proofs.lemmas.Result.{IfOk-weaker}
use Rattle.ml_address.specs.Requests.{PlainRequest}
use Rattle.ml_address.specs.Views.{request_view}
use Rattle.ml_address.specs.declared.Request.{Request}
use Rattle.ml_base.specs.Dir.{Dir}
use Rattle.ml_base.specs.PartErrors.{OnDamaged}
use Rattle.ml_base.specs.declared.files.Files.{Ghosts}
use Rattle.ml_base.specs.declared.names.Name.{Name}
use Rattle.ml_base.specs.declared.part_error.PartError.{PartError}
use Rattle.ml_base.specs.declared.puts.Put.{Put}
use Rattle.ml_filing.specs.Threads.{is_of_archive}
use Rattle.ml_config.specs.declared.configuration.Config.{Config}
use Rattle.ml_plain.specs.Directory.{IsList}
use Rattle.ml_plain.specs.Plain.{Plain}
use Rattle.ml_plain.specs.declared.Reply.{Reply}
use Rattle.ml_acts.specs.Acting.{AnswersWithin}
use Rattle.ml_acts.specs.Asked.{Asked, IsBadFor, IsDamagedOf}
use Rattle.ml_acts.specs.Damaged.{IsDamaged}
use Rattle.ml_acts.specs.Doing.{Alike, DoesList}
use Rattle.ml_acts.proofs.OfActs.{act_so}
use Rattle.ml_joining.specs.Damaged.{IsDamagedAmong}
use Rattle.ml_manage.specs.Reads.{IsDamagedFor, IsForRequest}

-- what an act does for a request, on every directory that has the files that it reads
module _ (r : Result (List Put × Reply) PartError) (old : Dir) (c : Config) (reads : PlainRequest → Name → Bool) (step : Plain → PlainRequest → Plain × Reply) {q this : Request} (is : q ≡ this) where
  abbrev Does : Request → Type 0
  Does s = IfOk r (λ done. (dir : Dir) (p : Plain) → Alike (reads (request_view s)) old dir → IsList dir p → p.config ≡ c → DoesList dir done (step p (request_view s)))

  pub done_for : Does this → Does q
  done_for does = subst Does (sym is) does

  -- one that does it whatever the configuration
  pub done_of : IfOk r (λ done. (dir : Dir) (p : Plain) → Alike (reads (request_view this)) old dir → IsList dir p → DoesList dir done (step p (request_view this))) → Does q
  done_of does = done_for (IfOk-weaker r _ _ (λ done so dir p alike list same. so dir p alike list) does)

-- and when it names no file
module _ {T : Type 0} (r : Result T PartError) (old : Dir) (c : Config) (reads : PlainRequest → Name → Bool) {q this : Request} (is : q ≡ this) where
  abbrev Spares : Request → Type 0
  Spares s = (dir : Dir) (p : Plain) → Alike (reads (request_view s)) old dir → IsList dir p → p.config ≡ c → IfErr r (λ e. OnDamaged e (λ _. ⊥))

  pub spared_for : Spares this → Spares q
  spared_for none = subst Spares (sym is) none

-- an act for a request, on files that tell which of them are damaged for that
module _ {F : Type 0} (ghosts : Ghosts F) (Writes : PlainRequest → Name → Bool) (May : PlainRequest → Name → Type 0) {r : Result (List Put × Reply) PartError} {dir : Dir} {c : Config} {old new : F} {q this : Request} (is : q ≡ this) where
  of_this : (Bad : Name → Type 0) → ((name : Name) → Bad name → IsDamagedFor dir c (request_view this) name) → AnswersWithin (Writes (request_view this)) ghosts (May (request_view this)) Bad old new r → AnswersWithin (Writes (request_view q)) ghosts (May (request_view q)) (IsDamagedFor dir c (request_view q)) old new r
  of_this Bad so act =
      let for = IsDamagedFor dir c (request_view this) in
      subst (λ (s : Request). AnswersWithin (Writes (request_view s)) ghosts (May (request_view s)) (IsDamagedFor dir c (request_view s)) old new r) (sym is)
      (act_so ghosts r (May (request_view this)) Bad for (May (request_view this)) old new (λ name e. e) (λ name e bad. so name bad) act)

  -- one that reads nothing of the archive
  pub for_other : ((name : Name) → IsForRequest dir c (request_view this) name) → AnswersWithin (Writes (request_view this)) ghosts (May (request_view this)) (IsDamaged dir) old new r → AnswersWithin (Writes (request_view q)) ghosts (May (request_view q)) (IsDamagedFor dir c (request_view q)) old new r
  for_other none act = of_this (IsDamaged dir) (λ name bad. record { damaged = bad; own = none name }) act

  -- or that says of each that no list has the files that it looks at
  pub for_looking : {looked : Name → Bool} → ((name : Name) → IsForRequest dir c (request_view this) name) → AnswersWithin (Writes (request_view this)) ghosts (May (request_view this)) (IsDamagedAmong looked dir) old new r
      → AnswersWithin (Writes (request_view q)) ghosts (May (request_view q)) (IsDamagedFor dir c (request_view q)) old new r
  for_looking {looked = looked} none act = of_this (IsDamagedAmong looked dir) (λ name bad. record { damaged = bad.damaged; own = none name }) act

  -- one that asks this of the archive
  pub for_asked : (asked : Asked) → ((name : Name) → (is_of_archive name ≡ true → IsBadFor dir asked name) → IsForRequest dir c (request_view this) name) → AnswersWithin (Writes (request_view this)) ghosts (May (request_view this)) (IsDamagedOf dir asked) old new r
      → AnswersWithin (Writes (request_view q)) ghosts (May (request_view q)) (IsDamagedFor dir c (request_view q)) old new r
  for_asked asked own act = of_this (IsDamagedOf dir asked) (λ name bad. record { damaged = bad.damaged; own = own name bad.own }) act

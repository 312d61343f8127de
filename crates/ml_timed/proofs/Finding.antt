-- What a run finds for its digest, over the puts before it.
use Rattle.std.proofs.Common.{◌≡◌, ◌≤◌, ◌∙◌, true, List, ◌++◌, ap, subst, arith}
use Rattle.std.proofs.lemmas.Bool.{and_from, and_parts, le-leb, leb-true}
use Rattle.ml_base.specs.Dir.{Dir, with_puts}
use Rattle.ml_base.specs.declared.names.Name.{Name}
use Rattle.ml_base.specs.declared.puts.Put.{Put}
use Rattle.ml_acts.specs.Growing.{IsGrown, is_of_time}
use Rattle.ml_timed.specs.Found.{FoundInLayer, FoundInRun, FoundToDigest, is_followed_up}
use Rattle.ml_timed.specs.Giving.{is_given}

-- what following up changes, time changes
pub followed_time : (name : Name) → is_followed_up name ≡ true → is_of_time name ≡ true
followed_time name e =
    let parts = and_parts _ _ e in
    let least : 15 ≤ name.kind = leb-true 15 name.kind parts.0 in
    and_from _ _ (le-leb 12 name.kind (omega (arith, least))) parts.1

-- the three parts of a run
pub found_parts : (dir : Dir) (old first second third : List Put) → IsGrown is_given old first → FoundInLayer dir first second → IsGrown is_followed_up second third → FoundInRun dir old third
found_parts dir old first second third given made followed = record {
  before = given.more;
  digest = made.digest;
  after = followed.more;
  is = followed.is ∙ ap (λ (t : List Put). t ++ followed.more) (made.is ∙ ap (λ (t : List Put). t ++ made.digest) given.is);
  given = given.own;
  made = subst (λ (t : List Put). FoundToDigest (with_puts dir t) made.digest) given.is made.made;
  followed = followed.own;
}

-- the same of other names of the directory and of the puts
pub found_run_so : (dir dir' : Dir) (old old' new new' : List Put) → dir ≡ dir' → old ≡ old' → new ≡ new' → FoundInRun dir old new → FoundInRun dir' old' new'
found_run_so dir dir' old old' new new' d o n is =
    subst (λ (x : Dir). FoundInRun x old' new') d (subst (λ (t : List Put). FoundInRun dir t new') o (subst (λ (t : List Put). FoundInRun dir old t) n is))

-- Files of a series that are read one after another, up to the last.
use Rattle.std.proofs.Common.{◌≡◌, ℕ, ◌+◌, ◌≤◌, List, ◌∷◌, [], ◌++◌, Option, Some, None, sym, ◌∙◌, subst, arith, inr}
use Rattle.ml_base.specs.Bytes.{Text}
use Rattle.ml_base.specs.Dir.{Dir}
use Rattle.ml_base.specs.Drawn.{Drawn, Drawing, IsCounter}
use Rattle.ml_base.specs.declared.names.Name.{Name}
use Rattle.ml_drawn.specs.declared.series.Series.{Series}
use Rattle.ml_drawn.specs.declared.search.Found.{Found}
use Rattle.ml_drawn.specs.Names.{thing_name, counter_name}
use Rattle.ml_drawn.specs.Answers.{IsFirst, NoneThere, IsNextNumber, IsNextThere}
use Rattle.ml_drawn.specs.Represented.{AreCounted}
use Rattle.ml_drawn.specs.Things.{IsSpelled, BreaksCounted}
use Rattle.ml_drawn.proofs.Drawings.{under}
use Rattle.ml_drawn.proofs.Stood.{AreWalked, walked_more, walked_end}

-- what was found in files that are kept is there
pub first_at : (dir other : Dir) (series : Series) (from next : ℕ) (answer : Option Found) (f : Found) → other ≡ dir → IsNextThere other series from next answer → answer ≡ Some f → IsFirst dir series from next f
first_at dir other series from next answer f same is some = subst (λ (d : Dir). IsFirst d series from next f) same (subst (λ (o : Option Found). IsNextThere other series from next o) some is)

pub none_at : (dir other : Dir) (series : Series) (from next : ℕ) (answer : Option Found) → other ≡ dir → IsNextThere other series from next answer → answer ≡ None → NoneThere dir series from next
none_at dir other series from next answer same is none = subst (λ (d : Dir). NoneThere d series from next) same (subst (λ (o : Option Found). IsNextThere other series from next o) none is)

-- the same for the number only
pub first_number : (dir other : Dir) (series : Series) (from next : ℕ) (answer : Option ℕ) (n : ℕ) → other ≡ dir → IsNextNumber other series from next answer → answer ≡ Some n
    → (bytes : Text) × IsFirst dir series from next (record { number = n; bytes = bytes })
first_number dir other series from next answer n same is some =
    subst (λ (d : Dir). (bytes : Text) × IsFirst d series from next (record { number = n; bytes = bytes })) same (subst (λ (o : Option ℕ). IsNextNumber other series from next o) some is)

pub none_number : (dir other : Dir) (series : Series) (from next : ℕ) (answer : Option ℕ) → other ≡ dir → IsNextNumber other series from next answer → answer ≡ None → NoneThere dir series from next
none_number dir other series from next answer same is none = subst (λ (d : Dir). NoneThere d series from next) same (subst (λ (o : Option ℕ). IsNextNumber other series from next o) none is)

module _ {E : Type 0} (IsThing : E → Type 0) (spelling : E → Text) (series : Series) (dir : Dir) where
  -- a file that was read and spells no thing is outside its grammar
  pub no_thing : (low from next : ℕ) (f : Found) (text : Text) (name : Name) → IsCounter (dir (counter_name series)) low next → low ≤ from → IsFirst dir series from next f
      → text ≡ f.bytes → ((thing : E) → IsSpelled IsThing spelling text thing → ⊥) → name ≡ thing_name series f.number → BreaksCounted IsThing spelling dir series name
  no_thing low from next f text name counted up first same none named =
      let onward = first.onward in
      inr (
        f.number,
        named,
        record {
          unread = record { drawn = first.drawn; text = f.bytes; there = first.file; none = subst (λ (t : Text). (thing : E) → IsSpelled IsThing spelling t thing → ⊥) same none };
          low = low;
          next = next;
          counted = counted;
          from = omega (arith, up, onward);
          below = first.below;
        },
      )

  -- the files up to a number have been read, and stand for things
  abbrev pub AreRead : ℕ → ℕ → Type 0
  AreRead low at = (done : List (Drawn E)) × AreWalked IsThing spelling dir series low at done

  -- one more was read
  pub read_on : (low from next : ℕ) (f : Found) (text : Text) (thing : E) → low ≤ from → AreRead low from → IsFirst dir series from next f → text ≡ f.bytes → IsSpelled IsThing spelling text thing → AreRead low (f.number + 1)
  read_on low from next f text thing up walked first same spelled =
      (walked.0 ++ under f.number thing ∷ [], walked_more IsThing spelling dir series low from next walked.0 f thing up walked.1 first spelled.is (sym spelled.spelled ∙ same))

  -- all were read
  pub read_all : (low from next : ℕ) → AreRead low from → from ≤ next → NoneThere dir series from next → IsCounter (dir (counter_name series)) low next → (d : Drawing E) × AreCounted IsThing spelling dir series d
  read_all low from next walked less none counted = (record { all = walked.0; next = next }, walked_end IsThing spelling dir series low from next walked.0 walked.1 less none counted)

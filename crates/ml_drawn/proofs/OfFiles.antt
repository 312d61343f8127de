-- What holds of the files of a series, and what the answers that are read from them say of the things for which they stand.
use Rattle.std.proofs.Common.{◌≡◌, ℕ, ◌<◌, Bool, true, false, cond, IsTrue, List, Option, Some, None, Result, IfOk, refl, sym, ap, ◌∙◌, subst, arith, inl, inr}
use Rattle.std.specs.Option.{option_map}
use Rattle.ml_base.specs.Bytes.{Text}
use Rattle.ml_base.specs.Dir.{Dir, with_puts}
use Rattle.ml_base.specs.Drawn.{Drawn, Drawing, IsCounter, counter_text, nothing_drawn, thing_of, with_next}
use Rattle.ml_base.specs.Ranges.{is_drawn}
use Rattle.ml_base.specs.declared.names.Name.{Name}
use Rattle.ml_base.specs.declared.part_error.PartError.{PartError}
use Rattle.ml_base.specs.declared.puts.Put.{Put}
use Rattle.ml_drawn.specs.declared.series.Series.{Series}
use Rattle.ml_drawn.specs.declared.series.Series.TheVariants.{Tickets, Ids}
use Rattle.ml_drawn.specs.Names.{is_of_series, thing_name, counter_name}
use Rattle.ml_drawn.specs.Answers.{IsDrawing, IsTaking}
use Rattle.ml_drawn.specs.Represented.{AreRepresented, AreCounted, without_number}
use Rattle.ml_drawn.specs.Things.{IsSpelled, Breaks, BreaksCounted, LooksBy}
use Rattle.ml_drawn.proofs.Cutting.{if_ok_from}
use Rattle.ml_drawn.proofs.Reading.{counter_one}
use Rattle.ml_drawn.proofs.Drawings.{at_number}
use Rattle.ml_drawn.proofs.Stood.{IsWithin, counted_of, standing_with, standing_without, entry_there}

thing_in : (series : Series) (n : ℕ) → is_of_series series (thing_name series n) ≡ true
thing_in Tickets n = refl
thing_in Ids n = refl

counter_in : (series : Series) → is_of_series series (counter_name series) ≡ true
counter_in Tickets = refl
counter_in Ids = refl

-- what a look-up finds is the number's file
pub file_there : (dir : Dir) (series : Series) (n : ℕ) (file : Option Text) (text : Text) → file ≡ cond (is_drawn n) (dir (thing_name series n)) None → file ≡ Some text → IsTrue (is_drawn n) × (dir (thing_name series n) ≡ Some text)
file_there dir series n file text is some = go (is_drawn n) refl
  where
    go : (t : Bool) → is_drawn n ≡ t → IsTrue (is_drawn n) × (dir (thing_name series n) ≡ Some text)
    go false e = absurd (let bad : Some text ≡ None = sym some ∙ is ∙ ap (λ t. cond t (dir (thing_name series n)) None) e in cc)
    go true e = (e, sym (ap (λ t. cond t (dir (thing_name series n)) None) e) ∙ sym is ∙ some)

-- if a look-up finds nothing, the number has no file
pub file_absent : (dir : Dir) (series : Series) (n : ℕ) (file : Option Text) → file ≡ cond (is_drawn n) (dir (thing_name series n)) None → file ≡ None → IsTrue (is_drawn n) → dir (thing_name series n) ≡ None
file_absent dir series n file is none drawn = sym (sym none ∙ is ∙ ap (λ t. cond t (dir (thing_name series n)) None) drawn)

module _ {E : Type 0} (IsThing : E → Type 0) (spelling : E → Text) (series : Series) (dir : Dir) where
  abbrev thing_at : Option (Drawn E) → Option E
  thing_at o = option_map (λ (e : Drawn E). e.thing) o

  abbrev text_of : Option (Drawn E) → Option Text
  text_of o = option_map spelling (thing_at o)

  -- only the files of a series matter
  pub own : (other : Dir) (d : Drawing E) → ((name : Name) → is_of_series series name ≡ true → other name ≡ dir name) → AreRepresented IsThing spelling dir series d → AreRepresented IsThing spelling other series d
  own other d same is = record {
    low = is.low;
    counted = subst (λ (file : Option Text). IsCounter file is.low d.next) (sym (same (counter_name series) (counter_in series))) is.counted;
    sorted = is.sorted;
    numbers = is.numbers;
    things = is.things;
    files = λ n drawn. same (thing_name series n) (thing_in series n) ∙ is.files n drawn;
  }

  -- if a number has a file, it has a thing
  spelled_at : (d : Drawing E) (is : AreCounted IsThing spelling dir series d) (n : ℕ) (text : Text) → Some text ≡ text_of (at_number n d.all) → (thing : E) × (thing_of n d ≡ Some thing) × IsSpelled IsThing spelling text thing
  spelled_at d is n text file = go (at_number n d.all) refl
    where
      go : (o : Option (Drawn E)) → at_number n d.all ≡ o → (thing : E) × (thing_of n d ≡ Some thing) × IsSpelled IsThing spelling text thing
      go None e = absurd (let bad : Some text ≡ None = file ∙ ap text_of e in cc)
      go (Some x) e =
          let texts : Some text ≡ Some (spelling x.thing) = file ∙ ap text_of e in
          let same : text ≡ spelling x.thing = cc in
          (x.thing, ap thing_at e, record { is = ((entry_there IsThing spelling dir series d is n x e).0).1; spelled = same })

  pub broken_counted : (name : Name) (d : Drawing E) → BreaksCounted IsThing spelling dir series name → AreCounted IsThing spelling dir series d → ⊥
  broken_counted name d (inl none) is = none.1 is.low d.next is.counted
  broken_counted name d (inr (n, named, bad)) is =
      let counts = counter_one (dir (counter_name series)) bad.low bad.next is.low d.next bad.counted is.counted in
      let a = counts.0 in
      let b = counts.1 in
      let from = bad.from in
      let below = bad.below in
      let found = spelled_at d is n (bad.unread).text (sym (bad.unread).there ∙ is.files n (bad.unread).drawn (omega (arith, from, a)) (omega (arith, below, b))) in
      (bad.unread).none found.0 found.2

  pub broken : (name : Name) (d : Drawing E) → Breaks IsThing spelling dir series name → AreRepresented IsThing spelling dir series d → ⊥
  broken name d (inl none) is = none.1 is.low d.next is.counted
  broken name d (inr (n, named, bad)) is =
      let found = spelled_at d (counted_of IsThing spelling dir series d is) n bad.text (sym bad.there ∙ is.files n bad.drawn) in
      bad.none found.0 found.2

  pub nothing : ((n : ℕ) → IsTrue (is_drawn n) → dir (thing_name series n) ≡ None) → dir (counter_name series) ≡ Some (counter_text 1 1) → AreRepresented IsThing spelling dir series nothing_drawn
  nothing none counter = record {
    low = 1;
    counted = record { from_one = omega arith; up_to_next = omega arith; fits = omega arith; spelled = counter };
    sorted = refl;
    numbers = tt;
    things = tt;
    files = none;
  }

  -- what is drawn by the counter comes last, under the next number
  pub drawing : (thing : E) (n : ℕ) (puts : List Put) (d : Drawing E) → IsThing thing → IsDrawing dir series (spelling thing) n puts → AreRepresented IsThing spelling dir series d
      → (n ≡ d.next) × AreRepresented IsThing spelling (with_puts dir puts) series (with_next thing d)
  drawing thing n puts d is drawn stands =
      let next = (counter_one (dir (counter_name series)) stands.low d.next drawn.low n stands.counted drawn.counted).1 in
      (sym next, standing_with IsThing spelling dir series d thing puts stands is (subst (λ (k : ℕ). IsDrawing dir series (spelling thing) k puts) (sym next) drawn))

  pub next_is : (low next : ℕ) → IsCounter (dir (counter_name series)) low next → (d : Drawing E) → AreCounted IsThing spelling dir series d → next ≡ d.next
  next_is low next counted d is = (counter_one (dir (counter_name series)) low next is.low d.next counted is.counted).1

  -- a file that was read spells the thing that was looked at
  pub looked_some : (n : ℕ) (file : Option Text) (text line : Text) (thing part : E) → file ≡ cond (is_drawn n) (dir (thing_name series n)) None → file ≡ Some text → line ≡ text → IsSpelled IsThing spelling line part → thing ≡ part
      → LooksBy IsThing spelling dir series n (Some thing)
  looked_some n file text line thing part is some same spelled one =
      let there = file_there dir series n file text is some in
      subst (λ (x : E). LooksBy IsThing spelling dir series n (Some x)) (sym one) (there.0, record { is = spelled.is; spelled = there.1 ∙ ap Some (sym same ∙ spelled.spelled) })

  -- a file that was read and spells no thing is outside its grammar
  pub unread : (n : ℕ) (file : Option Text) (text line : Text) (name : Name) → file ≡ cond (is_drawn n) (dir (thing_name series n)) None → file ≡ Some text → line ≡ text → ((thing : E) → IsSpelled IsThing spelling line thing → ⊥)
      → name ≡ thing_name series n → Breaks IsThing spelling dir series name
  unread n file text line name is some same none named =
      let there = file_there dir series n file text is some in
      inr (n, named, record { drawn = there.0; text = text; there = there.1; none = subst (λ (t : Text). (thing : E) → IsSpelled IsThing spelling t thing → ⊥) same none })

  pub drawn_by : (thing : E) (text : Text) (result : Result (ℕ × List Put) PartError) → IsThing thing → text ≡ spelling thing → IfOk result (λ r. IsDrawing dir series text r.0 r.1)
      → IfOk result (λ r. (d : Drawing E) → AreRepresented IsThing spelling dir series d → (r.0 ≡ d.next) × AreRepresented IsThing spelling (with_puts dir r.1) series (with_next thing d))
  drawn_by thing text result is same drawn =
      if_ok_from result (λ r. IsDrawing dir series text r.0 r.1) (λ r. (d : Drawing E) → AreRepresented IsThing spelling dir series d → (r.0 ≡ d.next) × AreRepresented IsThing spelling (with_puts dir r.1) series (with_next thing d)) drawn
      (λ r by d stands. drawing thing r.0 r.1 d is (subst (λ (t : Text). IsDrawing dir series t r.0 r.1) same by) stands)

  module _ (d : Drawing E) (is : AreRepresented IsThing spelling dir series d) where
    entry : (n : ℕ) (e : Drawn E) → at_number n d.all ≡ Some e → IsWithin IsThing is.low d.next e × (n ≡ e.number)
    entry = entry_there IsThing spelling dir series d (counted_of IsThing spelling dir series d is)

    -- if a number has a file, it has a thing
    pub thing_there : (n : ℕ) (text : Text) → IsTrue (is_drawn n) → dir (thing_name series n) ≡ Some text → (thing : E) × (thing_of n d ≡ Some thing) × IsSpelled IsThing spelling text thing
    thing_there n text drawn there = spelled_at d (counted_of IsThing spelling dir series d is) n text (sym there ∙ is.files n drawn)

    -- if a number has no file, it has no thing
    pub none_there : (n : ℕ) → (IsTrue (is_drawn n) → dir (thing_name series n) ≡ None) → None ≡ thing_of n d
    none_there n none = go (at_number n d.all) refl
      where
        go : (o : Option (Drawn E)) → at_number n d.all ≡ o → None ≡ thing_at o
        go None e = refl
        go (Some x) e =
            let there = entry n x e in
            let drawn : IsTrue (is_drawn n) = ap is_drawn there.1 ∙ ((there.0).0).0 in
            absurd (let bad : None ≡ Some (spelling x.thing) = sym (none drawn) ∙ is.files n drawn ∙ ap text_of e in cc)

    -- a thing that is there is taken out
    pub released : (n : ℕ) (puts : List Put) (thing : E) → IsTaking dir series n puts → thing_of n d ≡ Some thing → AreRepresented IsThing spelling (with_puts dir puts) series (without_number n d)
    released n puts thing by waits = standing_without IsThing spelling dir series d n puts is (below (at_number n d.all) refl) by
      where
        below : (o : Option (Drawn E)) → at_number n d.all ≡ o → n < d.next
        below None e = absurd (let bad : Some thing ≡ None = sym waits ∙ ap thing_at e in cc)
        below (Some x) e =
            let there = entry n x e in
            let less = ((there.0).0).2 in
            let same = there.1 in
            omega (arith, less, same)

    -- what a number's file answers is the number's thing, if no two things have the same text
    pub looking : ((a b : E) → IsThing a → IsThing b → spelling a ≡ spelling b → a ≡ b) → (n : ℕ) (answer : Option E) → LooksBy IsThing spelling dir series n answer → answer ≡ thing_of n d
    looking one n None by = none_there n by
    looking one n (Some thing) by =
        let found = thing_there n (spelling thing) by.0 (by.1).spelled in
        ap Some (one thing found.0 (by.1).is (found.2).is (found.2).spelled) ∙ sym found.1

-- The files of a series, each of which spells a thing, and which of them are outside their grammar.
use Rattle.std.specs.Prelude.{◌≡◌, ◌<◌, ◌≤◌, ◌⊎◌, ℕ, Bool, true, false, IsTrue, Option, Some, None}
use Rattle.ml_base.specs.Bytes.{Text}
use Rattle.ml_base.specs.Dir.{Dir}
use Rattle.ml_base.specs.Drawn.{IsCounter}
use Rattle.ml_base.specs.Ranges.{is_drawn}
use Rattle.ml_base.specs.declared.names.Name.{Name}
use Rattle.ml_drawn.specs.declared.series.Series.{Series}
use Rattle.ml_drawn.specs.Names.{thing_name, counter_name}
use Rattle.ml_drawn.specs.Answers.{IsNoCounter}

-- the file of the thing of a number that may be drawn
abbrev pub IsThingName : Series → ℕ → Name → Type 0
IsThingName series n name = IsTrue (is_drawn n) × (name ≡ thing_name series n)

-- a file of the series: that of the counter, or of a thing
abbrev pub IsSeriesName : Series → Name → Type 0
IsSeriesName series name = (name ≡ counter_name series) ⊎ ((n : ℕ) × IsThingName series n name)

module _ {E : Type 0} (IsThing : E → Type 0) (spelling : E → Text) where
  -- the file of a thing
  pub record IsFileOf (file : Option Text) (thing : E) : Type 0 where
    pub is : IsThing thing
    pub spelled : file ≡ Some (spelling thing)

  -- a text that spells a thing
  pub record IsSpelled (text : Text) (thing : E) : Type 0 where
    pub is : IsThing thing
    pub spelled : text ≡ spelling thing

  -- whether a text spells a thing
  abbrev pub TellsSpelled : Text → Bool → Type 0
  TellsSpelled text true = (thing : E) × IsSpelled text thing
  TellsSpelled text false = (thing : E) → ¬ IsSpelled text thing

  -- a file that is there and spells no thing
  pub record IsNoThing (dir : Dir) (series : Series) (n : ℕ) : Type 0 where
    pub drawn : IsTrue (is_drawn n)
    pub text : Text
    pub there : dir (thing_name series n) ≡ Some text
    pub none : (thing : E) → ¬ IsSpelled text thing

  -- a file of the series that is outside its grammar
  abbrev pub Breaks : Dir → Series → Name → Type 0
  Breaks dir series name = ((name ≡ counter_name series) × IsNoCounter dir series) ⊎ ((n : ℕ) × (name ≡ thing_name series n) × IsNoThing dir series n)

  -- a file from the counter's `low` on and below its next number that is there and spells no thing
  pub record IsNoThingWithin (dir : Dir) (series : Series) (n : ℕ) : Type 0 where
    pub unread : IsNoThing dir series n
    pub low : ℕ
    pub next : ℕ
    pub counted : IsCounter (dir (counter_name series)) low next
    pub from : low ≤ n
    pub below : n < next

  -- a file that an audit reads and that is outside its grammar
  abbrev pub BreaksCounted : Dir → Series → Name → Type 0
  BreaksCounted dir series name = ((name ≡ counter_name series) × IsNoCounter dir series) ⊎ ((n : ℕ) × (name ≡ thing_name series n) × IsNoThingWithin dir series n)

  -- what a look at a number answers, given the number's file
  abbrev pub LooksBy : Dir → Series → ℕ → Option E → Type 0
  LooksBy dir series n None = IsTrue (is_drawn n) → dir (thing_name series n) ≡ None
  LooksBy dir series n (Some thing) = IsTrue (is_drawn n) × IsFileOf (dir (thing_name series n)) thing

-- The lines of the queue's entries, one id after another.
use Rattle.std.proofs.Common.{◌≡◌, ◌+◌, ◌≤◌, ◌++◌, ◌∷◌, [], ℕ, List, Option, Some, None, IsTrue, sym, ap, map, subst, ◌∙◌, append-nil, append_assoc, refl, arith, inl, inr}
use Rattle.std.proofs.lemmas.Bool.{cases_eq, cases_lt}
use Rattle.ml_base.specs.Bytes.{Text}
use Rattle.ml_base.specs.Dir.{Dir}
use Rattle.ml_base.specs.Drawn.{Drawn, IsCounter}
use Rattle.ml_base.specs.Ranges.{is_drawn}
use Rattle.ml_base.specs.Texts.{lf, lines_text}
use Rattle.ml_drawn.specs.declared.series.Series.TheVariants.{Ids}
use Rattle.ml_drawn.specs.declared.search.Found.{Found}
use Rattle.ml_drawn.specs.Answers.{IsFirst, NoneThere}
use Rattle.ml_drawn.proofs.Drawings.{under}
use Rattle.ml_drawn.proofs.Stood.{AreWalked, walked_end, walked_more, walked_none}
use Rattle.ml_queue.specs.declared.entries.Out.{Out}
use Rattle.ml_queue.specs.Queue.{IsOut, out_text}
use Rattle.ml_queue.specs.Answers.{LooksBy, entry_name, ids_name}
use Rattle.ml_reading.specs.Queries.{IsQueueText, entry_line, line_of}

-- the lines of entries
abbrev entry_lines : List (Drawn Out) → Text
entry_lines es = lines_text (map (λ (e : Drawn Out). entry_line e.number e.thing) es)

-- with the line of one more entry
lines_more : (es : List (Drawn Out)) (e : Drawn Out) → entry_lines (es ++ e ∷ []) ≡ entry_lines es ++ (entry_line e.number e.thing ++ lf)
lines_more [] e = append-nil (entry_line e.number e.thing ++ lf)
lines_more (f ∷ fs) e = ap (λ (t : Text). (entry_line f.number f.thing ++ lf) ++ t) (lines_more fs e) ∙ sym (append_assoc (entry_line f.number f.thing ++ lf) (entry_lines fs) (entry_line e.number e.thing ++ lf))

-- A text that is the lines of the entries from the lowest id on and below another one. After the last of these entries there is none up to
-- that other id.
pub record AreListed (dir : Dir) (low id : ℕ) (text : Text) : Type 0 where
  pub done : List (Drawn Out)
  pub after : ℕ
  pub up : low ≤ after
  pub within : after ≤ id
  pub gap : NoneThere dir Ids after id
  pub walked : AreWalked IsOut out_text dir Ids low after done
  pub text_is : text ≡ entry_lines done

-- none yet
pub none_listed : (dir : Dir) (low : ℕ) → AreListed dir low low []
none_listed dir low = record {
  done = [];
  after = low;
  up = omega arith;
  within = omega arith;
  gap = λ n from below drawn. absurd (omega arith);
  walked = walked_none IsOut out_text dir Ids low;
  text_is = refl;
}

-- one more id
pub listed_more : (dir : Dir) (low id : ℕ) (text new : Text) (found : Option Out) → AreListed dir low id text → LooksBy dir id found → new ≡ text ++ line_of id found → AreListed dir low (id + 1) new
listed_more dir low id text new None before looks is =
    let within = before.within in
    record {
      done = before.done;
      after = before.after;
      up = before.up;
      within = omega (arith, within);
      gap = λ n from below drawn. elim (cases_eq n id) [
        | inl same ↦ subst (λ (m : ℕ). IsTrue (is_drawn m) → dir (entry_name m) ≡ None) (sym same) looks drawn
        | inr other ↦ before.gap n from (omega arith) drawn
      ];
      walked = before.walked;
      text_is = is ∙ append-nil text ∙ before.text_is;
    }
listed_more dir low id text new (Some out) before looks is =
    let up = before.up in
    let within = before.within in
    let found : Found = record { number = id; bytes = out_text out } in
    let first : IsFirst dir Ids before.after (id + 1) found = record { onward = within; below = omega arith; drawn = looks.0; before = before.gap; file = looks.1.spelled } in
    record {
      done = before.done ++ under id out ∷ [];
      after = id + 1;
      up = omega (arith, up, within);
      within = omega arith;
      gap = λ n from below drawn. absurd (omega arith);
      walked = walked_more IsOut out_text dir Ids low before.after (id + 1) before.done found out up before.walked first looks.1.is refl;
      text_is = is ∙ ap (λ (t : Text). t ++ line_of id (Some out)) before.text_is ∙ sym (lines_more before.done (under id out));
    }

-- the same up to an id before which there is no further entry
pub listed_on : (dir : Dir) (low from id : ℕ) (text : Text) → AreListed dir low from text → from ≤ id → NoneThere dir Ids from id → AreListed dir low id text
listed_on dir low from id text before up none =
    let within = before.within in
    record {
      done = before.done;
      after = before.after;
      up = before.up;
      within = omega (arith, within, up);
      gap = λ n on below drawn. elim (cases_lt n from) [
        | inl under ↦ before.gap n on under drawn
        | inr over ↦ none n over below drawn
      ];
      walked = before.walked;
      text_is = before.text_is;
    }

-- all that are below the next one
pub all_listed : (dir : Dir) (low next : ℕ) (text : Text) → IsCounter (dir ids_name) low next → AreListed dir low next text → IsQueueText dir text
all_listed dir low next text counted are = (
  record { all = are.done; next = next },
  walked_end IsOut out_text dir Ids low are.after next are.done are.walked are.within are.gap counted,
  are.text_is,
)

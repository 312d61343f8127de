-- How messages are read one after another, up to the end of a digest.
use Rattle.std.proofs.Common.{◌≡◌, ◌≢◌, ◌<◌, ◌+◌, ℕ, zero, suc, true, false, cond, ◌==◌, ◌&&◌, nat_eq, List, [], ◌∷◌, ◌++◌, length, take, drop, get_or, Bor, refl, sym, ap, ap₂, ◌∙◌, subst, arith, append_assoc, append-nil, length-append, codes}
use Rattle.std.specs.Cmp.Lexicographic.{pointwise}
use Rattle.std.specs.List.{flat_map, AllByRecursion, ends_with}
use Rattle.std.proofs.lemmas.Bool.{eqb-true}
use Rattle.std.proofs.lemmas.List.{append_cancel_left, append_cancel_right, take_at, map-append, length-map}
use Rattle.ml_base.specs.Bytes.{Text}
use Rattle.ml_base.specs.Splits.{has_byte}
use Rattle.ml_base.specs.Texts.{lf, lines_text, with_last_line_end}
use Rattle.ml_base.proofs.Bools.{neither}
use Rattle.ml_header.specs.Lines.{begins_with}
use Rattle.ml_digest.specs.Burst.{IsLine, HaveNo, IsMessage, message_lines}
use Rattle.ml_digest.specs.Digest.{message_rule}
use Rattle.ml_digest.specs.Reading.{IsCut, HasNoCut, IsEnded, HasEmptyEnd, IsEntry, AreEntries, AreRead, last_of}
use Rattle.ml_digest.proofs.Laid.{all_both, lines_both, last_after, ended_line, at_middle}
use Rattle.ml_digest.proofs.Cutting.{lines_cons, cut_one, cuts_one, all_left, all_right}
use Rattle.ml_digest.proofs.Told.{Ending, ending}

-- whether a text is empty or ends in an LF
pub ended_empty : (t : Text) → (length t == 0) ≡ true → IsEnded t
ended_empty [] e = refl
ended_empty (x ∷ xs) e = absurd (let n = eqb-true (length (x ∷ xs)) 0 e in omega (arith, n))

pub ended_line_end : (t : Text) → ends_with nat_eq t lf ≡ true → IsEnded t
ended_line_end [] e = refl
ended_line_end (x ∷ xs) e = ap (λ is. cond is (x ∷ xs) ((x ∷ xs) ++ lf)) e

-- lines that end in an empty one
pub record Emptied (rows : List Text) (front : Text) : Type 0 where
  pub before : List Text
  pub all : rows ≡ before ++ [] ∷ []
  pub text : front ≡ lines_text before

pub empty_end : (rows : List Text) (front : Text) → AllByRecursion IsLine rows → HasEmptyEnd (lines_text rows) front → Emptied rows front
empty_end rows front each is = go (ending rows (some rows is.whole)) refl
  where
    some : (rows : List Text) → lines_text rows ≡ front ++ lf → 0 < length rows
    some [] e = absurd (let n = ap length e in omega (arith, n, length-append front lf))
    some (x ∷ xs) e = omega arith

    go : (end : Ending rows) → ending rows (some rows is.whole) ≡ end → Emptied rows front
    go end same = by_last (last_of rows) end.front end.all
      where
        by_last : (last : Text) (before : List Text) → rows ≡ before ++ last ∷ [] → Emptied rows front
        by_last [] before all =
            let text : lines_text before ++ lf ≡ front ++ lf = sym (lines_both before ([] ∷ [])) ∙ ap lines_text (sym all) ∙ is.whole in
            record { before = before; all = all; text = sym (append_cancel_right (lines_text before) front lf text) }
        by_last (x ∷ xs) before all =
            let line : IsLine (x ∷ xs) = (all_right IsLine before ((x ∷ xs) ∷ []) (subst (λ rows. AllByRecursion IsLine rows) all each)).0 in
            let text : (lines_text before ++ (x ∷ xs)) ++ lf ≡ front ++ lf =
            append_assoc (lines_text before) (x ∷ xs) lf ∙ ap (λ t. lines_text before ++ t) (sym (append-nil ((x ∷ xs) ++ lf))) ∙ sym (lines_both before ((x ∷ xs) ∷ [])) ∙ ap lines_text (sym all) ∙ is.whole in
            let same : lines_text before ++ (x ∷ xs) ≡ front = append_cancel_right (lines_text before ++ (x ∷ xs)) front lf text in
            let longer : with_last_line_end front ≡ lines_text before ++ ((x ∷ xs) ++ lf) =
            ap with_last_line_end (sym same) ∙ last_after (lines_text before) (x ∷ xs) (omega arith) ∙ ap (λ t. lines_text before ++ t) (ended_line x xs line) in
            let bad : lines_text before ++ ((x ∷ xs) ++ lf) ≡ lines_text before ++ (x ∷ xs) = sym longer ∙ is.ended ∙ sym same in
            absurd (let n = ap length (append_cancel_left (lines_text before) ((x ∷ xs) ++ lf) (x ∷ xs) bad) in omega (arith, n, length-append (x ∷ xs) lf))

-- lines that are split at the first empty one
pub record Split (m : List Text) : Type 0 where
  pub fields : List Text
  pub rest : List Text
  pub all : m ≡ fields ++ [] ∷ rest
  pub filled : HaveNo [] fields

at_empty : (m : List Text) (i : ℕ) → i < length m → [] ≡ get_or m i [] → Split m
at_empty [] i less e = absurd (omega (arith, less))
at_empty ([] ∷ xs) i less e = record { fields = []; rest = xs; all = refl; filled = tt }
at_empty ((b ∷ bs) ∷ xs) zero less e = absurd (let n = ap length e in omega (arith, n))
at_empty ((b ∷ bs) ∷ xs) (suc i) less e =
    let more = at_empty xs i (omega (arith, less)) e in
    record { fields = (b ∷ bs) ∷ more.fields; rest = more.rest; all = ap (λ (t : List Text). (b ∷ bs) ∷ t) more.all; filled = (λ e. let n = ap length e in omega (arith, n), more.filled) }

pub split_empty : (m : List Text) → IsMessage m → Split m
split_empty m is = at_empty m (is.empty).0 (is.empty).1.0 (is.empty).1.1

-- how a text that begins with a message is cut
message_whole : (h k : List Text) (rest : Text) → lines_text (message_lines (h ++ [] ∷ k)) ++ rest ≡ lines_text h ++ 10 ∷ (lines_text (k ++ [] ∷ []) ++ (message_rule ++ 10 ∷ 10 ∷ rest))
message_whole h k rest =
    ap (λ t. t ++ rest) (ap lines_text (append_assoc h ([] ∷ k) ([] ∷ message_rule ∷ [] ∷ [])) ∙ lines_both h ([] ∷ (k ++ [] ∷ message_rule ∷ [] ∷ [])))
    ∙ append_assoc (lines_text h) (10 ∷ lines_text (k ++ [] ∷ message_rule ∷ [] ∷ [])) rest
    ∙ ap (λ t. lines_text h ++ 10 ∷ t) (ap (λ t. t ++ rest) (ap lines_text (sym (append_assoc k ([] ∷ []) (message_rule ∷ [] ∷ []))) ∙ lines_both (k ++ [] ∷ []) (message_rule ∷ [] ∷ []))
    ∙ append_assoc (lines_text (k ++ [] ∷ [])) (lines_text (message_rule ∷ [] ∷ [])) rest)

pub record Cuts (text rest : Text) (m : List Text) : Type 0 where
  pub at : Split m
  pub first : IsCut [] message_rule text (lines_text at.fields) (lines_text (at.rest ++ [] ∷ []) ++ (message_rule ++ 10 ∷ 10 ∷ rest))
  pub second : IsCut message_rule message_rule (lines_text (at.rest ++ [] ∷ []) ++ (message_rule ++ 10 ∷ 10 ∷ rest)) (lines_text (at.rest ++ [] ∷ [])) (10 ∷ rest)

no_rule : (line : Text) → line ≡ [] → line ≢ message_rule
no_rule line none same = let n = ap length (sym none ∙ same) in omega (arith, n)

pub cuts_of : (text rest : Text) (m : List Text) → IsMessage m → text ≡ lines_text (message_lines m) ++ rest → Cuts text rest m
cuts_of text rest m is whole = by (split_empty m is)
  where
    by : Split m → Cuts text rest m
    by at =
        let each = subst (λ rows. AllByRecursion IsLine rows) at.all is.each in
        let rule = subst (λ rows. HaveNo message_rule rows) at.all is.rule in
        let tail = all_right IsLine at.fields ([] ∷ at.rest) each in
        let tail_rule = all_right (λ l. l ≢ message_rule) at.fields ([] ∷ at.rest) rule in
        let second_each = all_both IsLine at.rest ([] ∷ []) tail.1 (refl, tt) in
        let second_rule = all_both (λ l. l ≢ message_rule) at.rest ([] ∷ []) tail_rule.1 (no_rule [] refl, tt) in
        record {
          at = at;
          first = record {
            rows = at.fields;
            each = all_left IsLine at.fields ([] ∷ at.rest) each;
            none_wanted = at.filled;
            none_barred = all_left (λ l. l ≢ message_rule) at.fields ([] ∷ at.rest) rule;
            front = refl;
            whole = whole ∙ ap (λ m. lines_text (message_lines m) ++ rest) at.all ∙ message_whole at.fields at.rest rest;
          };
          second = record { rows = at.rest ++ [] ∷ []; each = second_each; none_wanted = second_rule; none_barred = second_rule; front = refl; whole = refl };
        }

-- the message that a text begins with is determined
pub entry_one : (m n : List Text) (a b : Text) → AllByRecursion IsLine m → AllByRecursion IsLine n → HaveNo message_rule m → HaveNo message_rule n
    → lines_text (message_lines m) ++ a ≡ lines_text (message_lines n) ++ b → (m ≡ n) × (a ≡ b)
entry_one m n a b p q none also e =
    let one = cut_one message_rule (m ++ [] ∷ []) (n ++ [] ∷ []) (10 ∷ a) (10 ∷ b) refl (all_both IsLine m ([] ∷ []) p (refl, tt)) (all_both IsLine n ([] ∷ []) q (refl, tt))
    (all_both (λ l. l ≢ message_rule) m ([] ∷ []) none (no_rule [] refl, tt)) (all_both (λ l. l ≢ message_rule) n ([] ∷ []) also (no_rule [] refl, tt))
    (sym (at_rule m a) ∙ e ∙ at_rule n b) in
    (append_cancel_right m n ([] ∷ []) one.0, ap (λ (t : Text). drop 1 t) one.1)
  where
    at_rule : (m : List Text) (a : Text) → lines_text (message_lines m) ++ a ≡ lines_text (m ++ [] ∷ []) ++ (message_rule ++ 10 ∷ 10 ∷ a)
    at_rule m a =
        ap (λ t. t ++ a) (ap lines_text (sym (append_assoc m ([] ∷ []) (message_rule ∷ [] ∷ []))) ∙ lines_both (m ++ [] ∷ []) (message_rule ∷ [] ∷ []))
        ∙ append_assoc (lines_text (m ++ [] ∷ [])) (lines_text (message_rule ∷ [] ∷ [])) a

-- no message is at the beginning of a text
abbrev pub NoEntry : Text → Type 0
NoEntry text = (message rest : Text) → ¬ IsEntry text message rest

pub no_fields : (text : Text) → HasNoCut [] message_rule text → NoEntry text
no_fields text none message rest is = let cuts = cuts_of text rest is.rows is.is is.whole in none _ _ cuts.first

module _ (text fields after : Text) (first : IsCut [] message_rule text fields after) where
  second_of : (rest : Text) (m : List Text) (cuts : Cuts text rest m) → IsCut message_rule message_rule after (lines_text ((cuts.at).rest ++ [] ∷ [])) (10 ∷ rest)
  second_of rest m cuts =
      subst (λ (t : Text). IsCut message_rule message_rule t (lines_text ((cuts.at).rest ++ [] ∷ [])) (10 ∷ rest))
      (sym (cuts_one [] message_rule text fields after (lines_text (cuts.at).fields) (lines_text ((cuts.at).rest ++ [] ∷ []) ++ (message_rule ++ 10 ∷ 10 ∷ rest)) refl first cuts.first).1) cuts.second

  pub no_body : HasNoCut message_rule message_rule after → NoEntry text
  no_body none message rest is = let cuts = cuts_of text rest is.rows is.is is.whole in none _ _ (second_of rest is.rows cuts)

  module _ (body after_rule : Text) (second : IsCut message_rule message_rule after body after_rule) where
    told : (rest : Text) (m : List Text) (cuts : Cuts text rest m) → (body ≡ lines_text ((cuts.at).rest ++ [] ∷ [])) × (after_rule ≡ 10 ∷ rest)
    told rest m cuts = cuts_one message_rule message_rule after body after_rule (lines_text ((cuts.at).rest ++ [] ∷ [])) (10 ∷ rest) refl second (second_of rest m cuts)

    pub no_empty_end : ((front : Text) → ¬ HasEmptyEnd body front) → NoEntry text
    no_empty_end none message rest is =
        let cuts = cuts_of text rest is.rows is.is is.whole in
        let same = (told rest is.rows cuts).0 in
        none (lines_text (cuts.at).rest) (record { whole = same ∙ lines_both (cuts.at).rest ([] ∷ []); ended = lines_ended (cuts.at).rest })
      where
        lines_ended : (rows : List Text) → IsEnded (lines_text rows)
        lines_ended [] = refl
        lines_ended (x ∷ []) = ap with_last_line_end (append-nil (x ++ lf)) ∙ last_after x lf (omega arith) ∙ sym (append-nil (x ++ lf))
        lines_ended (x ∷ y ∷ ys) = last_after (x ++ lf) (lines_text (y ∷ ys)) (omega (arith, length-append (y ++ lf) (lines_text ys), length-append y lf)) ∙ ap (λ t. (x ++ lf) ++ t) (lines_ended (y ∷ ys))

    pub no_line_after : ((rest : Text) → after_rule ≢ (10 ∷ []) ++ rest) → NoEntry text
    no_line_after none message rest is = let cuts = cuts_of text rest is.rows is.is is.whole in none rest (told rest is.rows cuts).1

    module _ (front rest : Text) (end : HasEmptyEnd body front) (line : after_rule ≡ (10 ∷ []) ++ rest) where
      emptied : Emptied second.rows front
      emptied = empty_end second.rows front second.each (record { whole = sym second.front ∙ end.whole; ended = end.ended })

      abbrev message_rows : List Text
      message_rows = first.rows ++ [] ∷ emptied.before

      each_row : AllByRecursion IsLine message_rows
      each_row = all_both IsLine first.rows ([] ∷ emptied.before) first.each (refl, all_left IsLine emptied.before ([] ∷ []) (subst (λ rows. AllByRecursion IsLine rows) emptied.all second.each))

      rule_row : HaveNo message_rule message_rows
      rule_row =
          all_both (λ l. l ≢ message_rule) first.rows ([] ∷ emptied.before) first.none_barred
          (no_rule [] refl, all_left (λ l. l ≢ message_rule) emptied.before ([] ∷ []) (subst (λ rows. HaveNo message_rule rows) emptied.all second.none_wanted))

      whole : text ≡ lines_text (message_lines message_rows) ++ rest
      whole =
          first.whole
          ∙ ap (λ t. lines_text first.rows ++ 10 ∷ t)
          (second.whole ∙ ap (λ rows. lines_text rows ++ (message_rule ++ 10 ∷ after_rule)) emptied.all ∙ ap (λ t. lines_text (emptied.before ++ [] ∷ []) ++ (message_rule ++ 10 ∷ t)) line)
          ∙ sym (message_whole first.rows emptied.before rest)

      size : length (lines_text message_rows) ≡ length fields + 1 + length front
      size =
          let all = ap length (lines_both first.rows ([] ∷ emptied.before)) in
          let one = ap length first.front in
          let two = ap length emptied.text in
          omega (arith, all, one, two, length-append (lines_text first.rows) (10 ∷ lines_text emptied.before))

      taken : take (length fields + 1 + length front) text ≡ lines_text message_rows
      taken =
          ap (take (length fields + 1 + length front))
          (whole ∙ ap (λ t. t ++ rest) (lines_both message_rows ([] ∷ message_rule ∷ [] ∷ [])) ∙ append_assoc (lines_text message_rows) (lines_text ([] ∷ message_rule ∷ [] ∷ [])) rest)
          ∙ take_at (lines_text message_rows) (lines_text ([] ∷ message_rule ∷ [] ∷ []) ++ rest) (length fields + 1 + length front) size

      pub entry : begins_with (codes "End of ") (take (length fields + 1 + length front) text) ≡ false → IsEntry text (take (length fields + 1 + length front) text) rest
      entry start = record {
        rows = message_rows;
        is = record {
          each = each_row;
          rule = rule_row;
          empty = (length first.rows, (omega (arith, length-append first.rows ([] ∷ emptied.before)), at_middle first.rows emptied.before []));
          start = ap (begins_with (codes "End of ")) (sym taken) ∙ start;
        };
        message_is = taken;
        whole = whole;
      }

      pub ends_here : begins_with (codes "End of ") (take (length fields + 1 + length front) text) ≡ true → NoEntry text
      ends_here start message other is =
          let one = entry_one message_rows is.rows rest other each_row (is.is).each rule_row (is.is).rule (sym whole ∙ is.whole) in
          let bad : true ≡ false = sym start ∙ ap (begins_with (codes "End of ")) (taken ∙ ap lines_text one.0) ∙ (is.is).start in
          cc

-- what a text begins with doesn't depend on what comes after its first line
pub begins_same : (p x t u : Text) → has_byte 10 p ≡ false → begins_with p (x ++ 10 ∷ t) ≡ begins_with p (x ++ 10 ∷ u)
begins_same [] x t u none = refl
begins_same (b ∷ bs) [] t u none =
    let parts = neither (b == 10) (has_byte 10 bs) none in
    let other : nat_eq b 10 ≡ false = parts.0 in
    ap (λ s. s && pointwise nat_eq bs (take (length bs) t)) other ∙ sym (ap (λ s. s && pointwise nat_eq bs (take (length bs) u)) other)
begins_same (b ∷ bs) (y ∷ ys) t u none =
    let parts = neither (b == 10) (has_byte 10 bs) none in
    ap (λ s. nat_eq b y && s) (begins_same bs ys t u parts.1)

pub message_begins : (m : List Text) (t : Text) → IsMessage m → begins_with (codes "End of ") (lines_text (message_lines m) ++ t) ≡ false
message_begins [] t is = absurd (let less = (is.empty).1.0 in omega (arith, less))
message_begins (x ∷ xs) t is =
    ap (begins_with (codes "End of ")) (lines_cons x (xs ++ [] ∷ message_rule ∷ [] ∷ []) t)
    ∙ begins_same (codes "End of ") x (lines_text (xs ++ [] ∷ message_rule ∷ [] ∷ []) ++ t) (lines_text xs) refl ∙ ap (begins_with (codes "End of ")) (sym (append_assoc x lf (lines_text xs))) ∙ is.start

-- the text of messages, each with the lines that follow it
abbrev pub all_text : List (List Text) → Text
all_text ms = lines_text (flat_map message_lines ms)

pub all_cons : (m : List Text) (ms : List (List Text)) (t : Text) → all_text (m ∷ ms) ++ t ≡ lines_text (message_lines m) ++ (all_text ms ++ t)
all_cons m ms t = ap (λ s. s ++ t) (lines_both (message_lines m) (flat_map message_lines ms)) ∙ append_assoc (lines_text (message_lines m)) (all_text ms) t

pub all_push : (ms : List (List Text)) (m : List Text) (t : Text) → all_text (ms ++ m ∷ []) ++ t ≡ all_text ms ++ (lines_text (message_lines m) ++ t)
all_push [] m t = all_cons m [] t
all_push (n ∷ ns) m t = all_cons n (ns ++ m ∷ []) t ∙ ap (λ s. lines_text (message_lines n) ++ s) (all_push ns m t) ∙ sym (all_cons n ns (lines_text (message_lines m) ++ t))

all_more : (ms : List (List Text)) (m : List Text) → AllByRecursion IsMessage ms → IsMessage m → AllByRecursion IsMessage (ms ++ m ∷ [])
all_more [] m all is = (is, tt)
all_more (n ∷ ns) m all is = (all.0, all_more ns m all.1 is)

-- one more message was read
pub read_more : (text message more rest : Text) (messages : List Text) → AreRead text messages rest → IsEntry rest message more → AreRead text (messages ++ message ∷ []) more
read_more text message more rest messages was is = record {
  rows = was.rows ++ is.rows ∷ [];
  are = all_more was.rows is.rows was.are is.is;
  messages_are = ap₂ (λ (ms : List Text) (m : Text). ms ++ m ∷ []) was.messages_are is.message_is ∙ sym (map-append lines_text was.rows (is.rows ∷ []));
  whole = was.whole ∙ ap (λ t. all_text was.rows ++ t) is.whole ∙ sym (all_push was.rows is.rows more);
}

-- the messages that were read come before all others
pub record Further (ms ns : List (List Text)) (rest end : Text) : Type 0 where
  pub more : List (List Text)
  pub are : AllByRecursion IsMessage more
  pub left : rest ≡ all_text more ++ end

module _ (end : Text) (ends : begins_with (codes "End of ") end ≡ true) where
  not_message : (m : List Text) (t : Text) → IsMessage m → end ≢ lines_text (message_lines m) ++ t
  not_message m t is same = let bad : true ≡ false = sym ends ∙ ap (begins_with (codes "End of ")) same ∙ message_begins m t is in cc

  pub further : (ms ns : List (List Text)) (rest : Text) → AllByRecursion IsMessage ms → AllByRecursion IsMessage ns → all_text ms ++ rest ≡ all_text ns ++ end → Further ms ns rest end
  further [] ns rest a b e = record { more = ns; are = b; left = e }
  further (m ∷ ms) [] rest a b e = absurd (not_message m (all_text ms ++ rest) a.0 (sym e ∙ all_cons m ms rest))
  further (m ∷ ms) (n ∷ ns) rest a b e =
      let one = entry_one m n (all_text ms ++ rest) (all_text ns ++ end) (a.0).each (b.0).each (a.0).rule (b.0).rule (sym (all_cons m ms rest) ∙ e ∙ all_cons n ns end) in
      let more = further ms ns rest a.1 b.1 one.1 in
      record { more = more.more; are = more.are; left = more.left }

  abbrev pub NoEntries : Text → Type 0
  NoEntries text = (messages : List Text) → ¬ AreEntries text end messages

  pub stops : (text rest : Text) (messages : List Text) → AreRead text messages rest → rest ≢ end → NoEntry rest → NoEntries text
  stops text rest messages was other none others is = by (further was.rows is.rows rest was.are is.are (sym was.whole ∙ is.whole))
    where
      by_more : (more : List (List Text)) → AllByRecursion IsMessage more → rest ≡ all_text more ++ end → ⊥
      by_more [] are left = other left
      by_more (m ∷ ms) are left = none (lines_text m) (all_text ms ++ end) (record { rows = m; is = are.0; message_is = refl; whole = left ∙ all_cons m ms end })

      by : Further was.rows is.rows rest end → ⊥
      by f = by_more f.more f.are f.left

  pub nothing : (text rest : Text) (messages : List Text) → AreRead text messages rest → rest ≡ end → (length messages == 0) ≡ true → NoEntries text
  nothing text rest messages was same none others is = by_rows was.rows is.rows (let n = eqb-true (length messages) 0 none in let m = ap length was.messages_are in omega (arith, n, m, length-map was.rows lines_text)) is.some is.are (sym was.whole ∙ is.whole)
    where
      by_rows : (ms ns : List (List Text)) → length ms ≡ 0 → 0 < length ns → AllByRecursion IsMessage ns → all_text ms ++ rest ≡ all_text ns ++ end → ⊥
      by_rows (m ∷ ms) ns empty some are e = omega (arith, empty)
      by_rows [] [] empty some are e = omega (arith, some)
      by_rows [] (n ∷ ns) empty some are e = not_message n (all_text ns ++ end) are.0 (sym same ∙ e ∙ all_cons n ns end)

pub all_read : (text rest end : Text) (messages : List Text) → AreRead text messages rest → rest ≡ end → (length messages == 0) ≡ false → AreEntries text end messages
all_read text rest end messages was same some = record {
  rows = was.rows;
  are = was.are;
  some = by_length messages some (ap length was.messages_are ∙ length-map was.rows lines_text);
  messages_are = was.messages_are;
  whole = was.whole ∙ ap (λ t. all_text was.rows ++ t) same;
}
  where
    by_length : (ms : List Text) → (length ms == 0) ≡ false → length ms ≡ length was.rows → 0 < length was.rows
    by_length [] e n = absurd (let bad : true ≡ false = e in cc)
    by_length (m ∷ ms) e n = omega (arith, n)

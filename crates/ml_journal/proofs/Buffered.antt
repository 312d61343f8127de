-- Texts that a writer of the log takes one after another.
use Rattle.std.proofs.Common.{◌≡◌, ◌≤◌, ℕ, ◌+◌, IsTrue, [], ◌++◌, length, Result, Ok, Err, OnOk, refl, sym, ◌∙◌, ap, subst, arith, append_assoc, length-append}
use Rattle.std.proofs.lemmas.List.{append-nil}
use Rattle.ml_base.specs.Bytes.{Text}
use Rattle.ml_site.specs.Disk.{Contents}
use Rattle.ml_site.specs.declared.site.Site.{Ghosts}
use Rattle.ml_site.specs.declared.site.SiteError.{SiteError}
use Rattle.ml_journal.specs.Handing.{Hands}
use Rattle.ml_journal.specs.Buffering.{Buffers}
use Rattle.ml_journal.specs.declared.log_writer.LogWriter.{LogWriter}
use Rattle.ml_journal.proofs.Handed.{hands_on, hands_cut, with_long, ok_then}

module _ {S : Type 0} (ghosts : Ghosts S) where
  -- all of it was handed to the log
  pub buffers_all : (result : Result (Unit {0}) SiteError) (text : Text) (before after : LogWriter) (old new : S) → OnOk result ((after.buffered ≡ []) × (after.at ≡ before.at + length (before.buffered ++ text)))
      → Hands ghosts result before.at (before.buffered ++ text) old new → Buffers ghosts result text before after old new
  buffers_all result text before after old new ok hands = record {
    handed = before.buffered ++ text;
    left = [];
    all = append-nil (before.buffered ++ text);
    buffered = ok_then result (λ done. sym done.0) ok;
    at = ok_then result (λ done. done.1) ok;
    hands = hands;
  }

  -- the place for the writer's next bytes is inside the log or at its end
  pub buffers_place : (text : Text) (before after : LogWriter) (old new : S) (r : IsTrue ghosts.tells_reads) → before.at ≤ length (ghosts.disk old).reads.log → Buffers ghosts (Ok tt) text before after old new → after.at ≤ length (ghosts.disk new).reads.log
  buffers_place text before after old new r place gathers =
      omega (arith, gathers.at, ap (λ (c : Contents). length c.log) (gathers.hands.reads r).ok, with_long (ghosts.disk old).reads before.at gathers.handed place)

  -- how much is buffered or was handed over
  pub buffers_size : (text : Text) (before after : LogWriter) (old new : S) → Buffers ghosts (Ok tt) text before after old new → after.at + length after.buffered ≡ before.at + length before.buffered + length text
  buffers_size text before after old new gathers =
      omega (arith, gathers.at, ap length gathers.buffered, ap length gathers.all, length-append gathers.handed gathers.left, length-append before.buffered text)

  -- one text after another
  pub buffers_on : (result : Result (Unit {0}) SiteError) (one two : Text) (a b c : LogWriter) (old mid new : S) → (IsTrue ghosts.tells_reads → a.at ≤ length (ghosts.disk old).reads.log)
      → Buffers ghosts (Ok tt) one a b old mid → Buffers ghosts result two b c mid new → Buffers ghosts result (one ++ two) a c old new
  buffers_on result one two a b c old mid new place first then = record {
    handed = first.handed ++ then.handed;
    left = then.left;
    all = append_assoc first.handed then.handed then.left
        ∙ ap (λ (l : Text). first.handed ++ l) then.all
        ∙ sym (append_assoc first.handed b.buffered two)
        ∙ ap (λ (l : Text). l ++ two) (ap (λ (l : Text). first.handed ++ l) (sym first.buffered) ∙ first.all)
        ∙ append_assoc a.buffered one two;
    buffered = then.buffered;
    at = ok_then result (λ same. omega (arith, same, first.at, length-append first.handed then.handed)) then.at;
    hands = hands_on ghosts result a.at first.handed then.handed old mid new place first.hands (subst (λ (n : ℕ). Hands ghosts result n then.handed mid new) first.at then.hands);
  }

  -- an error in a text that others were to follow
  pub buffers_cut : (error : SiteError) (one two : Text) (a b c : LogWriter) (old new : S) → Buffers ghosts (Err error) one a b old new → Buffers ghosts (Err error) (one ++ two) a c old new
  buffers_cut error one two a b c old new gathers = record {
    handed = gathers.handed;
    left = gathers.left ++ two;
    all = sym (append_assoc gathers.handed gathers.left two) ∙ ap (λ (l : Text). l ++ two) gathers.all ∙ append_assoc a.buffered one two;
    buffered = tt;
    at = tt;
    hands = gathers.hands;
  }

  -- the last bytes are handed to the log after the others
  pub hands_last : (result : Result (Unit {0}) SiteError) (text last : Text) (a b : LogWriter) (old mid new : S) → (IsTrue ghosts.tells_reads → a.at ≤ length (ghosts.disk old).reads.log)
      → Buffers ghosts (Ok tt) text a b old mid → Hands ghosts result b.at (b.buffered ++ last) mid new → Hands ghosts result a.at (a.buffered ++ text ++ last) old new
  hands_last result text last a b old mid new place gathers hands =
      subst (λ (l : Text). Hands ghosts result a.at l old new)
      (ap (λ (l : Text). gathers.handed ++ (l ++ last)) (sym gathers.buffered) ∙ sym (append_assoc gathers.handed gathers.left last) ∙ ap (λ (l : Text). l ++ last) gathers.all)
      (hands_on ghosts result a.at gathers.handed (b.buffered ++ last) old mid new place gathers.hands (subst (λ (n : ℕ). Hands ghosts result n (b.buffered ++ last) mid new) gathers.at hands))

  -- an error before them
  pub hands_broken : (error : SiteError) (text last : Text) (a b : LogWriter) (old new : S) → Buffers ghosts (Err error) text a b old new → Hands ghosts (Err error) a.at (a.buffered ++ text ++ last) old new
  hands_broken error text last a b old new gathers =
      subst (λ (l : Text). Hands ghosts (Err error) a.at l old new)
      (sym (append_assoc gathers.handed gathers.left last) ∙ ap (λ (l : Text). l ++ last) gathers.all)
      (hands_cut ghosts error a.at gathers.handed (gathers.left ++ last) old new gathers.hands)

  -- what was buffered could not be handed to the log
  pub buffers_stuck : (error : SiteError) (text : Text) (before after : LogWriter) (old new : S) → Hands ghosts (Err error) before.at before.buffered old new → Buffers ghosts (Err error) text before after old new
  buffers_stuck error text before after old new hands = record {
    handed = before.buffered;
    left = text;
    all = refl;
    buffered = tt;
    at = tt;
    hands = hands;
  }

  -- what was buffered was handed to the log, and then the text
  pub buffers_through : (result : Result (Unit {0}) SiteError) (text : Text) (before mid after : LogWriter) (old flushed new : S) → (IsTrue ghosts.tells_reads → before.at ≤ length (ghosts.disk old).reads.log)
      → Hands ghosts (Ok tt) before.at before.buffered old flushed → mid.at ≡ before.at + length before.buffered → Hands ghosts result mid.at text flushed new
      → OnOk result ((after.buffered ≡ []) × (after.at ≡ mid.at + length text)) → Buffers ghosts result text before after old new
  buffers_through result text before mid after old flushed new place first is then ok = buffers_all result text before after old new
      (ok_then result (λ done. (done.0, omega (arith, done.1, is, length-append before.buffered text))) ok)
      (hands_on ghosts result before.at before.buffered text old flushed new place first (subst (λ (n : ℕ). Hands ghosts result n text flushed new) is then))

  -- the same, with its result and text named otherwise
  pub buffers_as : (result told_as : Result (Unit {0}) SiteError) (text other : Text) (before after : LogWriter) (old new : S) → told_as ≡ result → text ≡ other → Buffers ghosts result text before after old new → Buffers ghosts told_as other before after old new
  buffers_as result told_as text other before after old new same is gathers =
      subst (λ (r : Result (Unit {0}) SiteError). Buffers ghosts r other before after old new) (sym same)
      (subst (λ (l : Text). Buffers ghosts result l before after old new) is gathers)

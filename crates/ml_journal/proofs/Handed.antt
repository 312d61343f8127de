-- Bytes that are handed to the log in several writes have the same effect as if they were handed to it as one text.
use Rattle.std.proofs.Common.{◌≡◌, ◌⊎◌, inl, inr, ⊎_elim, ◌<◌, ◌≤◌, ℕ, ◌+◌, max, IsTrue, List, [], ◌∷◌, ◌++◌, length, take, drop, Result, Ok, Err, OnOk, refl, sym, ◌∙◌, ap, subst, arith, append_assoc, length-append}
use Rattle.std.specs.Prelude.{IsErrOf}
use Rattle.std.proofs.lemmas.List.{length-take, take_at}
use Rattle.std.proofs.lemmas.Slice.{drop-append-drop}
use Rattle.ml_base.specs.Bytes.{Text}
use Rattle.ml_base.specs.Faults.{Rose}
use Rattle.ml_base.specs.declared.names.Name.{Name}
use Rattle.ml_site.specs.Clauses.{ChangesPart, OnDisk}
use Rattle.ml_site.specs.Disk.{Contents, Part, Range, Cut, File, Disk, MayLeave, IsImage, IsAtRest, Now, Pends, Elapses, least, greatest, IsSettledAt, IsSettledFile, log_with}
use Rattle.ml_site.specs.Images.{after_part, unchanged_part}
use Rattle.ml_site.specs.Instants.{LeavesOnly, Within}
use Rattle.ml_site.proofs.Steps.{goes_on, at_start}
use Rattle.ml_site.specs.declared.site.Site.{Ghosts}
use Rattle.ml_site.specs.declared.site.SiteError.{SiteError}
use Rattle.ml_site.specs.declared.site.SiteError.TheVariants.{Failed as FailedCall}
use Rattle.ml_journal.specs.Handing.{AreWithin, IsPendingIn, Hands}
use Rattle.ml_journal.specs.Calls.{OnlyNow}
use Rattle.ml_journal.proofs.Keeping.{keeps_on}

within_least : (at size n : ℕ) (parts : List Part) → AreWithin at size parts → least n parts ≡ n
within_least at size n [] are = refl
within_least at size n (Range from k ∷ parts) are = within_least at size n parts are.2
within_least at size n (Cut k ∷ parts) are = absurd are
within_least at size n (File name ∷ parts) are = absurd are

within_greatest : (at size n : ℕ) (parts : List Part) → AreWithin at size parts → greatest n parts ≤ max (at + size) n
within_greatest at size n [] are = omega arith
within_greatest at size n (Range from k ∷ parts) are = omega (arith, are.1, within_greatest at size n parts are.2)
within_greatest at size n (Cut k ∷ parts) are = absurd are
within_greatest at size n (File name ∷ parts) are = absurd are

within_place : (at size place : ℕ) (parts : List Part) → (place < at) ⊎ (at + size ≤ place) → AreWithin at size parts → IsSettledAt place parts
within_place at size place [] out are = tt
within_place at size place (Range from k ∷ parts) out are = (
  ⊎_elim (λ below. inl (omega (arith, below, are.0))) (λ past. inr (omega (arith, past, are.1))) out,
  within_place at size place parts out are.2,
)
within_place at size place (Cut k ∷ parts) out are = absurd are
within_place at size place (File name ∷ parts) out are = absurd are

within_file : (at size : ℕ) (name : Name) (parts : List Part) → AreWithin at size parts → IsSettledFile name parts
within_file at size name [] are = tt
within_file at size name (Range from k ∷ parts) are = within_file at size name parts are.2
within_file at size name (Cut k ∷ parts) are = absurd are
within_file at size name (File other ∷ parts) are = absurd are

-- what parts of a range may leave, the whole range may leave
pub as_one : (at size : ℕ) (old left : Contents) (parts : List Part) → AreWithin at size parts → MayLeave old parts left → MayLeave old (Range at size ∷ []) left
as_one at size old left parts are may = record {
  no_shorter = omega (arith, within_least at size (length old.log) parts are, may.no_shorter);
  no_longer = omega (arith, within_greatest at size (length old.log) parts are, may.no_longer);
  log = λ place lt out. may.log place lt (within_place at size place parts out.0 are);
  files = λ name out. may.files name (within_file at size name parts are);
}

-- an image of a disk on which only parts of a range are pending
pub image_in : (at size : ℕ) (old : Contents) (disk : Disk) (left : Contents) → IsPendingIn at size old disk → IsImage disk left → MayLeave old (Range at size ∷ []) left
image_in at size old disk left pends image = as_one at size old left disk.pending pends.pending (subst (λ (c : Contents). MayLeave c disk.pending left) pends.settled image)

-- nothing is pending on a disk at rest
pub rest_in : (at size : ℕ) (disk : Disk) → IsAtRest disk → IsPendingIn at size disk.reads disk
rest_in at size disk rest = record { settled = rest.settled; pending = subst (AreWithin at size) (sym rest.pending) tt }

-- one more write
more_in : {E : Type 0} (result : Result (Unit {0}) E) (from size at n : ℕ) (base : Contents) (old new : Disk) → from ≤ at → at + n ≤ from + size → Pends result (Range at n) old new → IsPendingIn from size base old → IsPendingIn from size base new
more_in {E} result from size at n base old new low high pends over = record { settled = pends.settled ∙ over.settled; pending = parts result pends }
  where
    longer : new.pending ≡ Range at n ∷ old.pending → AreWithin from size new.pending
    longer pended = subst (AreWithin from size) (sym pended) (low, high, over.pending)

    parts : (r : Result (Unit {0}) E) → Pends r (Range at n) old new → AreWithin from size new.pending
    parts (Ok u) p = longer p.ok
    parts (Err e) p = ⊎_elim longer (λ none. subst (AreWithin from size) (sym none) over.pending) p.err

-- one write after another
with_more : (old : Contents) (at : ℕ) (one two : Text) → at ≤ length old.log → log_with (log_with old at one) (at + length one) two ≡ log_with old at (one ++ two)
with_more old at one two le = λ i. record { log = log i; files = old.files }
  where
    front : Text
    front = take at old.log ++ one

    size : length front ≡ at + length one
    size = omega (arith, length-append (take at old.log) one, length-take at old.log, le)

    rest : Text
    rest = drop (at + length one) old.log

    dropped : drop (at + length one + length two) (front ++ rest) ≡ drop (at + length one + length two) old.log
    dropped = drop-append-drop (at + length one) old.log front (at + length one + length two) (omega arith) size

    end : at + length one + length two ≡ at + length (one ++ two)
    end = omega (arith, length-append one two)

    log : take (at + length one) (front ++ rest) ++ two ++ drop (at + length one + length two) (front ++ rest) ≡ take at old.log ++ (one ++ two) ++ drop (at + length (one ++ two)) old.log
    log = (λ i. take_at front rest (at + length one) size i ++ two ++ dropped i) ∙ (λ i. append_assoc (take at old.log) one two i ++ drop (end i) old.log)

-- the log is no shorter than what was written
pub with_long : (old : Contents) (at : ℕ) (text : Text) → at ≤ length old.log → at + length text ≤ length (log_with old at text).log
with_long old at text le = omega (arith, length-append (take at old.log ++ text) (drop (at + length text) old.log), length-append (take at old.log) text, length-take at old.log, le)

pub ok_then : {E P Q : Type 0} (result : Result (Unit {0}) E) → (P → Q) → OnOk result P → OnOk result Q
ok_then (Ok u) f p = f p
ok_then (Err e) f p = tt

module _ {S : Type 0} (ghosts : Ghosts S) where
  -- one write
  pub hands_one : (result : Result (Unit {0}) SiteError) (at : ℕ) (text : Text) (old new : S)
      → ChangesPart ghosts.tells_reads ghosts.tells_all ghosts.disk result (Range at (length text)) (log_with (ghosts.disk old).reads at text) old new
      → OnDisk ghosts.tells_all ghosts.disk ghosts.output ghosts.instant ghosts.left_since ghosts.disk_faults ghosts.output_faults ghosts.disk_calls old new
      → (IsTrue ghosts.tells_all → ghosts.syncs new ≡ ghosts.syncs old) → (IsTrue ghosts.tells_all → OnOk result (ghosts.log_bytes new ≡ ghosts.log_bytes old + length text))
      → (IsTrue ghosts.tells_all → ghosts.log_bytes old ≤ ghosts.log_bytes new) → (IsErrOf result FailedCall → Rose (ghosts.disk_faults old) (ghosts.disk_faults new))
      → Hands ghosts result at text old new
  hands_one result at text old new change on syncs bytes stay cause = record {
    reads = change.reads;
    pends = λ t from size base low high over. more_in result from size at (length text) base (ghosts.disk old) (ghosts.disk new) low high (change.pends t) over;
    time = λ t from size base low high over.
        let more : IsPendingIn from size base (ghosts.disk new) = more_in result from size at (length text) base (ghosts.disk old) (ghosts.disk new) low high (change.pends t) over in
        record {
          later = (on.time t).later;
          nothing_else = λ time left out le since. ⊎_elim
              (λ past. inl past)
              (λ now. inr (image_in from size base (ghosts.disk new) left more now.0, now.1 ∙ on.output t))
              ((on.time t).nothing_else time left out le since);
        };
    log_bytes = bytes;
    keeps = record {
      output = on.output;
      syncs = λ t. omega (arith, syncs t);
      syncs_stay = λ t. omega (arith, syncs t);
      log_bytes_stay = stay;
      faults = on.faults;
      cause = cause;
      others = on.others;
    };
  }

  -- one text after another
  pub hands_on : (result : Result (Unit {0}) SiteError) (at : ℕ) (one two : Text) (old mid new : S) → (IsTrue ghosts.tells_reads → at ≤ length (ghosts.disk old).reads.log)
      → Hands ghosts (Ok tt) at one old mid → Hands ghosts result (at + length one) two mid new → Hands ghosts result at (one ++ two) old new
  hands_on result at one two old mid new place first then = record {
    reads = λ r.
        let before = first.reads r in
        let now = then.reads r in record {
          ok = ok_then result (λ done. done ∙ ap (λ (c : Contents). log_with c (at + length one) two) before.ok ∙ with_more (ghosts.disk old).reads at one two (place r)) now.ok;
          part_only = as_one at (length (one ++ two)) (ghosts.disk old).reads (ghosts.disk new).reads (Range (at + length one) (length two) ∷ Range at (length one) ∷ [])
              (omega arith, omega (arith, length-append one two), (omega arith, omega (arith, length-append one two), tt))
              (after_part (Range (at + length one) (length two)) (ghosts.disk old).reads (Range at (length one) ∷ []) (ghosts.disk mid).reads (ghosts.disk new).reads
              (omega (arith, ap (λ (c : Contents). length c.log) before.ok, with_long (ghosts.disk old).reads at one (place r))) before.part_only now.part_only);
        };
    pends = λ t from size base low high over. then.pends t from size base (omega (arith, low)) (omega (arith, high, length-append one two)) (first.pends t from size base low (omega (arith, high, length-append one two)) over);
    time = λ t from size base low high over.
        let before = first.time t from size base low (omega (arith, high, length-append one two)) over in
        let now = then.time t from size base (omega (arith, low)) (omega (arith, high, length-append one two)) (first.pends t from size base low (omega (arith, high, length-append one two)) over) in
        record {
          later = omega (arith, before.later, now.later);
          nothing_else = λ time left out le since. ⊎_elim
              (λ past. before.nothing_else time left out le past)
              (λ here. inr (here.0, here.1 ∙ first.keeps.output t))
              (now.nothing_else time left out (omega (arith, le, before.later)) since);
        };
    log_bytes = λ t. ok_then result (λ done. omega (arith, done, first.log_bytes t, length-append one two)) (then.log_bytes t);
    keeps = keeps_on ghosts 0 0 0 (IsErrOf {T = Unit {0}} (Ok tt) FailedCall) (IsErrOf result FailedCall) old mid new (omega arith) first.keeps then.keeps;
  }

  -- an error in a text that others were to follow
  pub hands_cut : (error : SiteError) (at : ℕ) (one two : Text) (old new : S) → Hands ghosts (Err error) at one old new → Hands ghosts (Err error) at (one ++ two) old new
  hands_cut error at one two old new hands = record {
    reads = λ r. record {
      ok = tt;
      part_only = as_one at (length (one ++ two)) (ghosts.disk old).reads (ghosts.disk new).reads (Range at (length one) ∷ []) (omega arith, omega (arith, length-append one two), tt) (hands.reads r).part_only;
    };
    pends = λ t from size base low high over. hands.pends t from size base low (omega (arith, high, length-append one two)) over;
    time = λ t from size base low high over. hands.time t from size base low (omega (arith, high, length-append one two)) over;
    log_bytes = λ t. tt;
    keeps = hands.keeps;
  }

  -- the same, with its result, place and text named otherwise
  pub hands_as : (result told_as : Result (Unit {0}) SiteError) (at place : ℕ) (text other : Text) (old new : S) → told_as ≡ result → at ≡ place → text ≡ other → Hands ghosts result at text old new → Hands ghosts told_as place other old new
  hands_as result told_as at place text other old new same here is hands =
      subst (λ (r : Result (Unit {0}) SiteError). Hands ghosts r place other old new) (sym same)
      (subst (λ (n : ℕ). Hands ghosts result n other old new) here
      (subst (λ (l : Text). Hands ghosts result at l old new) is hands))

  module _ (only_now : OnlyNow ghosts) where
    -- what a crash leaves of a disk that was at rest
    pub hands_leave : (result : Result (Unit {0}) SiteError) (at : ℕ) (text : Text) (old new : S) (t : IsTrue ghosts.tells_all) → IsAtRest (ghosts.disk old) → Hands ghosts result at text old new
        → LeavesOnly ghosts.instant ghosts.left_since ghosts.disk ghosts.output old new (Within (ghosts.disk old).reads (Range at (length text) ∷ []) (ghosts.output old))
    hands_leave result at text old new t rest hands =
        let over : IsPendingIn at (length text) (ghosts.disk old).reads (ghosts.disk old) = rest_in at (length text) (ghosts.disk old) rest in
        let more : IsPendingIn at (length text) (ghosts.disk old).reads (ghosts.disk new) = hands.pends t at (length text) (ghosts.disk old).reads (omega arith) (omega arith) over in
        goes_on ghosts.instant ghosts.left_since ghosts.disk ghosts.output old old new (Within (ghosts.disk old).reads (Range at (length text) ∷ []) (ghosts.output old)) (Within (ghosts.disk old).reads (Range at (length text) ∷ []) (ghosts.output old))
        (at_start ghosts.instant ghosts.left_since ghosts.disk ghosts.output (λ s left out l. only_now s left out t l) old (Within (ghosts.disk old).reads (Range at (length text) ∷ []) (ghosts.output old)) rest
        (λ left is out same. (subst (MayLeave (ghosts.disk old).reads (Range at (length text) ∷ [])) (sym is) (unchanged_part (Range at (length text)) (ghosts.disk old).reads), same)))
        (hands.time t at (length text) (ghosts.disk old).reads (omega arith) (omega arith) over)
        (λ left out within. within)
        (λ left is. (image_in at (length text) (ghosts.disk old).reads (ghosts.disk new) left more is, hands.keeps.output t))

    -- the same after a sync
    pub synced_leave : (result : Result (Unit {0}) SiteError) (at : ℕ) (text : Text) (old mid new : S) (t : IsTrue ghosts.tells_all) → IsAtRest (ghosts.disk old) → Hands ghosts result at text old mid
        → ((left : Contents) → IsImage (ghosts.disk new) left → IsImage (ghosts.disk mid) left) → ghosts.output new ≡ ghosts.output mid
        → Elapses (ghosts.instant mid) (ghosts.instant new) (ghosts.left_since mid) (ghosts.left_since new) (Now (ghosts.disk new) (ghosts.output new))
        → LeavesOnly ghosts.instant ghosts.left_since ghosts.disk ghosts.output old new (Within (ghosts.disk old).reads (Range at (length text) ∷ []) (ghosts.output old))
    synced_leave result at text old mid new t rest hands crash same time =
        let more : IsPendingIn at (length text) (ghosts.disk old).reads (ghosts.disk mid) = hands.pends t at (length text) (ghosts.disk old).reads (omega arith) (omega arith) (rest_in at (length text) (ghosts.disk old) rest) in
        goes_on ghosts.instant ghosts.left_since ghosts.disk ghosts.output old mid new (Within (ghosts.disk old).reads (Range at (length text) ∷ []) (ghosts.output old)) (Now (ghosts.disk new) (ghosts.output new))
        (hands_leave result at text old mid t rest hands) time
        (λ left out now. (image_in at (length text) (ghosts.disk old).reads (ghosts.disk mid) left more (crash left now.0), now.1 ∙ same ∙ hands.keeps.output t))
        (λ left is. (is, refl))

-- What a call of a site in memory keeps, whether it succeeds or fails.
use Rattle.std.proofs.Common.{◌≡◌, ◌⊎◌, inl, inr, ⊎_elim, ◌<◌, ◌≤◌, ℕ, ◌+◌, Bool, true, false, cond, List, [], ◌∷◌, ◌++◌, length, Result, Ok, Err, refl, sym, ◌∙◌, ap, subst, arith, length-append}
use Rattle.std.proofs.lemmas.Bool.{le-leb, leb-true}
use Rattle.std.specs.Prelude.{nat_le, nat_lt, IsTrue, IsOk, IsErr, IsErrOf, Contains}
use Rattle.ml_base.specs.Faults.{next_call, one_more}
use Rattle.ml_site.specs.declared.call.Call.{Call}
use Rattle.ml_site.specs.declared.mem_site.MemSite.{MemSite}
use Rattle.ml_site.specs.declared.site.Failed.{Failed}
use Rattle.ml_site.specs.declared.site.SiteError.{SiteError}
use Rattle.ml_site.specs.declared.site.SiteError.TheVariants.{Memory, Failed as FailedCall}
use Rattle.ml_site.specs.Clauses.{SameDisk, ChangesPart, OnDisk, SameNumbers}
use Rattle.ml_site.specs.Disk.{Contents, Part, Disk, MayLeave, Pends, Now, Elapses, untold}
use Rattle.ml_site.specs.Failing.{FailsAsPlanned}
use Rattle.ml_site.specs.Images.{unchanged_part}
use Rattle.ml_site.specs.MemSites.{mem_disk, mem_output, mem_calls, mem_left_since, mem_syncs, mem_log_bytes, site_disk_faults, site_output_faults, site_disk_calls, site_failing, site_last, site_made, call_room}
use Rattle.ml_site.specs.Planned.{EndsAsPlanned}
use Rattle.ml_site.specs.Recorded.{at_rest, contents, step, after, pends, size_given, size_synced, size_logged, Left}
use Rattle.ml_site.proofs.Joined.{disk_same, reads_same, stands, stepped, time_quiet, total_same, pends_err, pends_ok}

-- both began over the same contents, with the same last call and the same room for output
pub record SameStart (old new : MemSite) : Type 0 where
  pub log : new.start_log ≡ old.start_log
  pub files : new.start_files ≡ old.start_files
  pub last : new.last_call ≡ old.last_call
  pub room_out : new.output_room ≡ old.output_room

pub le_self : (n : ℕ) → n ≤ n
le_self n = omega arith

module _ (old new : MemSite) (same : SameStart old new) where
  abbrev start : Disk
  start = at_rest (contents old.start_log old.start_files)

  abbrev before : Disk
  before = mem_disk old

  start_same : at_rest (contents new.start_log new.start_files) ≡ start
  start_same = λ i. at_rest (contents (same.log i) (same.files i))

  disk_is : mem_disk new ≡ after start new.calls.items
  disk_is = ap (λ (d : Disk). after d new.calls.items) start_same

  -- a call that may or may not have been added to the record
  module _ (call : Call) (b : Bool) (is : new.calls.items ≡ cond b (old.calls.items ++ call ∷ []) old.calls.items) where
    pub keeps : size_given call ≡ 0 → mem_output new ≡ mem_output old → site_disk_faults old ≤ site_disk_faults new → site_output_faults new ≡ site_output_faults old → site_disk_calls new ≡ next_call (site_disk_calls old)
        → OnDisk true mem_disk mem_output mem_calls mem_left_since site_disk_faults site_output_faults site_disk_calls old new
    keeps quiet put faults others calls = record {
      output = λ told. put;
      time = λ told. subst (λ (d : Disk). Elapses (mem_calls old) (mem_calls new) (mem_left_since old) (Left d new.calls.items (mem_output new)) (Now (after d new.calls.items) (mem_output new))) (sym start_same)
          (subst (λ (o : List ℕ). Elapses (mem_calls old) (mem_calls new) (mem_left_since old) (Left start new.calls.items o) (Now (after start new.calls.items) o)) (sym put)
          (time_quiet start old.calls.items call new.calls.items b is (mem_output old) old.output_is quiet));
      faults = faults;
      others = others;
      calls = calls;
    }

    pub numbers : size_synced call ≡ 0 → size_logged call ≡ 0 → SameNumbers true mem_syncs mem_log_bytes old new
    numbers synced logged = record {
      syncs = λ told. total_same size_synced old.calls.items new.calls.items b call is synced;
      log_bytes = λ told. total_same size_logged old.calls.items new.calls.items b call is logged;
    }

    pub unchanged : step before call ≡ before → SameDisk true true mem_disk old new
    unchanged quiet =
        let is_same : mem_disk new ≡ before = disk_is ∙ disk_same start old.calls.items call new.calls.items b is quiet in record {
          reads = λ told. ap (λ (d : Disk). d.reads) is_same;
          disk = λ told. is_same;
        }

    pub failed_change : {E : Type 0} (e : E) (part : Part) (done : Contents) → step before call ≡ pends before part before.reads → ChangesPart true true mem_disk (Err e) part done old new
    failed_change e part done stepping =
        let read : (mem_disk new).reads ≡ before.reads = ap (λ (d : Disk). d.reads) disk_is ∙ reads_same start old.calls.items call new.calls.items b is (ap (λ (d : Disk). d.reads) stepping) in record {
          reads = λ told. record { ok = tt; part_only = subst (MayLeave before.reads (part ∷ [])) (sym read) (unchanged_part part before.reads) };
          pends = λ told. subst (Pends (Err e) part before) (sym disk_is) (pends_err start old.calls.items call new.calls.items b is e part stepping);
        }

  -- a change that succeeded
  pub done_change : {E : Type 0} (call : Call) (part : Part) (done : Contents) → new.calls.items ≡ old.calls.items ++ call ∷ [] → step before call ≡ pends before part done → MayLeave before.reads (part ∷ []) done
      → ChangesPart {E = E} true true mem_disk (Ok tt) part done old new
  done_change call part done is stepping image =
      let stepped_is : mem_disk new ≡ pends before part done = disk_is ∙ stepped start old.calls.items call new.calls.items is ∙ stepping in record {
        reads = λ told. record {
          ok = ap (λ (d : Disk). d.reads) stepped_is;
          part_only = subst (λ (d : Disk). MayLeave before.reads (part ∷ []) d.reads) (sym stepped_is) image;
        };
        pends = λ told. pends_ok part done before (mem_disk new) stepped_is;
      }

length_more : (calls longer : List Call) (call : Call) → longer ≡ calls ++ call ∷ [] → length longer ≡ length calls + 1
length_more calls longer call is = omega (arith, ap length is, length-append calls (call ∷ []))

length_noted : (b : Bool) (calls longer : List Call) (call : Call) → longer ≡ cond b (calls ++ call ∷ []) calls → length longer ≡ cond b (length calls + 1) (length calls)
length_noted true calls longer call is = length_more calls longer call is
length_noted false calls longer call is = ap length is

pub no_short : IsTrue false → ⊥
no_short told = untold told

pub never : ⊥ → IsTrue false
never none = absurd none

-- how a call ends, if `short` says whether there is no room besides the record's
module _ (old new : MemSite) (same : SameStart old new) (short : Bool) (no_room : Type 0) (to : IsTrue short → no_room) (from : no_room → IsTrue short) (room : call_room new ≡ call_room old) (faults : MemSite → ℕ) (parts : List Part) where
  abbrev full : Bool
  full = nat_le (call_room old) (mem_calls old)

  there : Contains (site_failing old) (site_made new) ⊎ ((site_last old < site_made new) ⊎ (IsTrue full ⊎ IsTrue short)) → Contains (site_failing old) (site_made new) ⊎ ((site_last old < site_made new) ⊎ ((call_room old ≤ mem_calls old) ⊎ no_room))
  there = ⊎_elim (λ named. inl named) (⊎_elim (λ late. inr (inl late)) (⊎_elim (λ is. inr (inr (inl (leb-true (call_room old) (mem_calls old) is)))) (λ is. inr (inr (inr (to is))))))

  back : Contains (site_failing old) (site_made new) ⊎ ((site_last old < site_made new) ⊎ ((call_room old ≤ mem_calls old) ⊎ no_room)) → Contains (site_failing old) (site_made new) ⊎ ((site_last old < site_made new) ⊎ (IsTrue full ⊎ IsTrue short))
  back = ⊎_elim (λ named. inl named) (⊎_elim (λ late. inr (inl late)) (⊎_elim (λ le. inr (inr (inl (le-leb (call_room old) (mem_calls old) le)))) (λ none. inr (inr (inr (from none))))))

  failed_as : (done failed wanting : Type 0) (call : Call) → FailsAsPlanned old.plan new.plan old.last_call full short true
      → new.calls.items ≡ cond (nat_lt (mem_calls old) (call_room old)) (old.calls.items ++ call ∷ []) old.calls.items → faults new ≡ one_more (faults old) → mem_output new ≡ mem_output old
      → (step (mem_disk old) call).reads ≡ (mem_disk old).reads → (step (mem_disk old) call).pending ≡ parts ++ (mem_disk old).pending
      → failed → (done → ⊥) → (wanting → ⊥) → EndsAsPlanned done failed wanting no_room parts faults old new
  failed_as done failed wanting call plan is fault put reads pending is_failed not_done not_wanting =
      let begun = at_rest (contents old.start_log old.start_files) in
      let noted = nat_lt (mem_calls old) (call_room old) in record {
        made = plan.counted;
        failing = plan.failing;
        last = same.last;
        room = room;
        room_out = same.room_out;
        named = (λ f. there (plan.cause refl), λ cause. is_failed);
        if_done = λ d. absurd (not_done d);
        if_failed = λ f. record {
          calls = length_noted noted old.calls.items new.calls.items call is;
          fault = fault;
          reads = ap (λ (d : Disk). d.reads) (disk_is old new same) ∙ reads_same begun old.calls.items call new.calls.items noted is reads;
          output = put;
          pending = ap (λ (d : Disk). d.pending) (disk_is old new same) ∙ stands begun old.calls.items call new.calls.items noted is (λ d. d.pending) ∙ ap (λ (ps : List Part). cond noted ps (mem_disk old).pending) pending;
        };
        if_wanting = λ w. absurd (not_wanting w);
      }

  done_as : (done failed wanting : Type 0) (call : Call) → FailsAsPlanned old.plan new.plan old.last_call full short false → new.calls.items ≡ old.calls.items ++ call ∷ [] → faults new ≡ faults old
      → (failed → ⊥) → (wanting → ⊥) → EndsAsPlanned done failed wanting no_room parts faults old new
  done_as done failed wanting call plan is kept not_failed not_wanting = record {
    made = plan.counted;
    failing = plan.failing;
    last = same.last;
    room = room;
    room_out = same.room_out;
    named = (λ f. absurd (not_failed f), λ cause. untold (plan.named (back cause)));
    if_done = λ d. record { calls = length_more old.calls.items new.calls.items call is; faults_same = kept };
    if_failed = λ f. absurd (not_failed f);
    if_wanting = λ w. absurd (not_wanting w);
  }

  -- the same by what the call answers
  pub failed_disk : {T : Type 0} (call : Call) → FailsAsPlanned old.plan new.plan old.last_call full short true
      → new.calls.items ≡ cond (nat_lt (mem_calls old) (call_room old)) (old.calls.items ++ call ∷ []) old.calls.items → faults new ≡ one_more (faults old) → mem_output new ≡ mem_output old
      → (step (mem_disk old) call).reads ≡ (mem_disk old).reads → (step (mem_disk old) call).pending ≡ parts ++ (mem_disk old).pending
      → EndsAsPlanned (IsOk {T = T} (Err FailedCall)) (IsErrOf {T = T} (Err FailedCall) FailedCall) (IsErrOf {T = T} (Err FailedCall) Memory) no_room parts faults old new
  failed_disk call plan is fault put reads pending = failed_as _ _ _ call plan is fault put reads pending refl (λ d. cc d) (λ w. cc w)

  pub failed_plain : (e : Failed) (call : Call) → FailsAsPlanned old.plan new.plan old.last_call full short true
      → new.calls.items ≡ cond (nat_lt (mem_calls old) (call_room old)) (old.calls.items ++ call ∷ []) old.calls.items → faults new ≡ one_more (faults old) → mem_output new ≡ mem_output old
      → (step (mem_disk old) call).reads ≡ (mem_disk old).reads → (step (mem_disk old) call).pending ≡ parts ++ (mem_disk old).pending
      → EndsAsPlanned (IsOk {T = Unit {0}} (Err e)) (IsErr {T = Unit {0}} (Err e)) ⊥ no_room parts faults old new
  failed_plain e call plan is fault put reads pending = failed_as _ _ _ call plan is fault put reads pending refl (λ d. cc d) (λ w. w)

  pub done_disk : {T : Type 0} (value : T) (call : Call) → FailsAsPlanned old.plan new.plan old.last_call full short false → new.calls.items ≡ old.calls.items ++ call ∷ [] → faults new ≡ faults old
      → EndsAsPlanned (IsOk {E = SiteError} (Ok value)) (IsErrOf (Ok value) FailedCall) (IsErrOf (Ok value) Memory) no_room parts faults old new
  done_disk value call plan is kept = done_as _ _ _ call plan is kept (λ f. cc f) (λ w. cc w)

  pub done_plain : (call : Call) → FailsAsPlanned old.plan new.plan old.last_call full short false → new.calls.items ≡ old.calls.items ++ call ∷ [] → faults new ≡ faults old
      → EndsAsPlanned (IsOk {T = Unit {0}} {E = Failed} (Ok tt)) (IsErr {T = Unit {0}} {E = Failed} (Ok tt)) ⊥ no_room parts faults old new
  done_plain call plan is kept = done_as _ _ _ call plan is kept (λ f. cc f) (λ w. w)

  pub wanting_disk : {T : Type 0} (result : Result T SiteError) → result ≡ Err Memory → FailsAsPlanned old.plan new.plan old.last_call full short false → new.calls.items ≡ old.calls.items → faults new ≡ faults old
      → EndsAsPlanned (IsOk result) (IsErrOf result FailedCall) (IsErrOf result Memory) no_room parts faults old new
  wanting_disk {T} result wants plan is kept = record {
    made = plan.counted;
    failing = plan.failing;
    last = same.last;
    room = room;
    room_out = same.room_out;
    named = (λ f. absurd (not_failed f), λ cause. untold (plan.named (back cause)));
    if_done = λ d. absurd (not_done d);
    if_failed = λ f. absurd (not_failed f);
    if_wanting = λ w. record {
      calls = ap length is;
      disk = disk_is old new same ∙ ap (after (at_rest (contents old.start_log old.start_files))) is;
      faults_same = kept;
    };
  }
    where
      not_failed : result ≡ Err FailedCall → ⊥
      not_failed f = cc

      not_done : IsOk result → ⊥
      not_done d = let none : IsOk {T = T} {E = SiteError} (Err Memory) = subst (λ (r : Result T SiteError). IsOk r) wants d in cc none

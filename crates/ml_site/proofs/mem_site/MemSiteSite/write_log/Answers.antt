use Rattle.std.proofs.Common.{◌≡◌, ◌+◌, ◌≤◌, ℕ, true, false, length, take, drop, List, [], ◌∷◌, ◌++◌, Err, ap, sym, ◌∙◌, refl, arith, rules}
use Rattle.ml_site.specs.declared.call.Call.TheVariants.{WriteLog, FailedLog}
use Rattle.ml_site.specs.declared.site.SiteError.TheVariants.{Memory}
use Rattle.ml_site.specs.Disk.{Disk, Range, log_with}
use Rattle.ml_site.specs.Images.{wrote}
use Rattle.ml_site.specs.Recorded.{contents, lookup, at_rest, after, total, size_synced, size_logged, step}
use Rattle.ml_site.specs.MemSites.{site_disk_faults}
use Rattle.ml_site.proofs.Joined.{total_more, total_same, stepped, step_write, log_kept, file_kept, given_kept}
use Rattle.ml_site.proofs.MemCalls.{keeps, failed_change, done_change, le_self, no_short, never, failed_disk, done_disk, wanting_disk}
use Rattle.ml_site.proofs.mem_site.MemSiteSite.write_log.Goals as goal

pub invariant_of-self : goal.invariant_of-self
invariant_of-self c =
    let start = at_rest (contents c.args.self.now.start_log c.args.self.now.start_files) in
    let calls = c.args.self.now.calls.items in
    let longer = c.note_failure.new.calls.items in record {
      log_is = log_kept start calls (FailedLog c.args.at (length c.args.bytes.now)) longer _ c.note_failure.ensures.calls c.args.self.now.log c.args.self.now.log_is refl;
      files_are = λ name. file_kept start calls (FailedLog c.args.at (length c.args.bytes.now)) longer _ c.note_failure.ensures.calls name (lookup c.args.self.now.files name) (c.args.self.now.files_are name) refl;
      output_is = given_kept start calls (FailedLog c.args.at (length c.args.bytes.now)) longer _ c.note_failure.ensures.calls c.args.self.now.output.items c.args.self.now.output_is refl;
      within = c.args.self.now.within;
      room = c.args.self.now.room;
    }

pub returns-then-fails-clause-keeps : goal.returns-then-fails-clause-keeps
returns-then-fails-clause-keeps c = keeps c.args.self.now _ (record { log = refl; files = refl; last = refl; room_out = refl }) (FailedLog c.args.at (length c.args.bytes.now)) _ c.note_failure.ensures.calls refl refl c.note_failure.ensures.later refl c.saturating_add-self.ensures

pub returns-then-fails-clause-change : goal.returns-then-fails-clause-change
returns-then-fails-clause-change c = failed_change c.args.self.now _ (record { log = refl; files = refl; last = refl; room_out = refl }) (FailedLog c.args.at (length c.args.bytes.now)) _ c.note_failure.ensures.calls _ (Range c.args.at (length c.args.bytes.now)) _ refl

pub returns-then-fails-clause-syncs : goal.returns-then-fails-clause-syncs
returns-then-fails-clause-syncs c = total_same size_synced c.args.self.now.calls.items c.note_failure.new.calls.items _ (FailedLog c.args.at (length c.args.bytes.now)) c.note_failure.ensures.calls refl

pub returns-then-fails-clause-log_bytes_stay : goal.returns-then-fails-clause-log_bytes_stay
returns-then-fails-clause-log_bytes_stay c = omega (arith, total_same size_logged c.args.self.now.calls.items c.note_failure.new.calls.items _ (FailedLog c.args.at (length c.args.bytes.now)) c.note_failure.ensures.calls refl)

pub returns-in_err-piece-clause-keeps : goal.returns-in_err-piece-clause-keeps
returns-in_err-piece-clause-keeps c = keeps c.args.self.now _ (record { log = refl; files = refl; last = refl; room_out = refl }) (FailedLog c.args.at (length c.args.bytes.now)) false refl refl refl (le_self _) refl c.saturating_add-self.ensures

pub returns-in_err-piece-clause-syncs : goal.returns-in_err-piece-clause-syncs
returns-in_err-piece-clause-syncs c = total_same size_synced c.args.self.now.calls.items c.args.self.now.calls.items false (FailedLog c.args.at (length c.args.bytes.now)) refl refl

pub returns-in_err-piece-clause-log_bytes_stay : goal.returns-in_err-piece-clause-log_bytes_stay
returns-in_err-piece-clause-log_bytes_stay c = omega (arith, total_same size_logged c.args.self.now.calls.items c.args.self.now.calls.items false (FailedLog c.args.at (length c.args.bytes.now)) refl refl)

pub returns-in_err-next-clause-keeps : goal.returns-in_err-next-clause-keeps
returns-in_err-next-clause-keeps c = keeps c.args.self.now _ (record { log = refl; files = refl; last = refl; room_out = refl }) (FailedLog c.args.at (length c.args.bytes.now)) false refl refl refl (le_self _) refl c.saturating_add-self.ensures

pub returns-in_err-next-clause-syncs : goal.returns-in_err-next-clause-syncs
returns-in_err-next-clause-syncs c = total_same size_synced c.args.self.now.calls.items c.args.self.now.calls.items false (FailedLog c.args.at (length c.args.bytes.now)) refl refl

pub returns-in_err-next-clause-log_bytes_stay : goal.returns-in_err-next-clause-log_bytes_stay
returns-in_err-next-clause-log_bytes_stay c = omega (arith, total_same size_logged c.args.self.now.calls.items c.args.self.now.calls.items false (FailedLog c.args.at (length c.args.bytes.now)) refl refl)

pub invariant_of-self-2 : goal.invariant_of-self-2
invariant_of-self-2 c =
    let start = at_rest (contents c.args.self.now.start_log c.args.self.now.start_files) in
    let calls = c.args.self.now.calls.items in
    let disk = after start calls in
    let same : c.in_ok-piece.piece ≡ c.args.bytes.now = search rules in
    let bytes = c.in_ok-piece.piece in
    let is = stepped start calls (WriteLog c.args.at c.in_ok-piece.piece) c.push_reserved.new.self.items c.push_reserved.ensures.items ∙ step_write disk c.args.at bytes c.requires in record {
      log_is = c.in_ok-next.ensures ∙ ap (λ (l : List ℕ). take c.args.at l ++ c.args.bytes.now ++ drop (c.args.at + length c.args.bytes.now) l) (c.as_slice.ensures ∙ c.args.self.now.log_is)
          ∙ ap (λ (b : List ℕ). (log_with disk.reads c.args.at b).log) (sym same) ∙ sym (ap (λ (d : Disk). d.reads.log) is);
      files_are = λ name. c.args.self.now.files_are name ∙ sym (ap (λ (d : Disk). d.reads.files name) is);
      output_is = given_kept start calls (WriteLog c.args.at c.in_ok-piece.piece) c.push_reserved.new.self.items true c.push_reserved.ensures.items c.args.self.now.output.items c.args.self.now.output_is refl;
      within = c.args.self.now.within;
      room = c.args.self.now.room;
    }

pub returns-clause-keeps : goal.returns-clause-keeps
returns-clause-keeps c = keeps c.args.self.now _ (record { log = refl; files = refl; last = refl; room_out = refl }) (WriteLog c.args.at c.in_ok-piece.piece) true c.push_reserved.ensures.items refl refl (le_self _) refl c.saturating_add-self.ensures

pub returns-clause-change : goal.returns-clause-change
returns-clause-change c =
    let start = at_rest (contents c.args.self.now.start_log c.args.self.now.start_files) in
    let calls = c.args.self.now.calls.items in
    let disk = after start calls in
    let same : c.in_ok-piece.piece ≡ c.args.bytes.now = search rules in
    let le : c.args.at ≤ length disk.reads.log = c.requires in
    let stepping = ap (λ (b : List ℕ). step disk (WriteLog c.args.at b)) same ∙ step_write disk c.args.at c.args.bytes.now le in
    done_change c.args.self.now _ (record { log = refl; files = refl; last = refl; room_out = refl }) (WriteLog c.args.at c.in_ok-piece.piece) (Range c.args.at (length c.args.bytes.now)) (log_with disk.reads c.args.at c.args.bytes.now) c.push_reserved.ensures.items stepping (wrote disk.reads c.args.at c.args.bytes.now le)

pub returns-clause-syncs : goal.returns-clause-syncs
returns-clause-syncs c = total_same size_synced c.args.self.now.calls.items c.push_reserved.new.self.items true (WriteLog c.args.at c.in_ok-piece.piece) c.push_reserved.ensures.items refl

pub returns-clause-log_bytes : goal.returns-clause-log_bytes
returns-clause-log_bytes c =
    let same : c.in_ok-piece.piece ≡ c.args.bytes.now = search rules in
    total_more size_logged c.args.self.now.calls.items c.push_reserved.new.self.items (WriteLog c.args.at c.in_ok-piece.piece) c.push_reserved.ensures.items ∙ ap (λ (b : List ℕ). total size_logged c.args.self.now.calls.items + length b) same

pub returns-clause-log_bytes_stay : goal.returns-clause-log_bytes_stay
returns-clause-log_bytes_stay c = omega (arith, total_more size_logged c.args.self.now.calls.items c.push_reserved.new.self.items (WriteLog c.args.at c.in_ok-piece.piece) c.push_reserved.ensures.items)

pub returns-then-fails-clause-ends : goal.returns-then-fails-clause-ends
returns-then-fails-clause-ends c = failed_disk c.args.self.now _ (record { log = refl; files = refl; last = refl; room_out = refl }) false ⊥ no_short never c.note_failure.ensures.room site_disk_faults (Range c.args.at (length c.args.bytes.now) ∷ []) (FailedLog c.args.at (length c.args.bytes.now)) c.if-fails.ensures.planned c.note_failure.ensures.calls c.note_failure.ensures.faults refl refl refl

pub returns-clause-ends : goal.returns-clause-ends
returns-clause-ends c = done_disk c.args.self.now _ (record { log = refl; files = refl; last = refl; room_out = refl }) false ⊥ no_short never c.push_reserved.ensures.capacity site_disk_faults (Range c.args.at (length c.args.bytes.now) ∷ []) _ (WriteLog c.args.at c.in_ok-piece.piece) c.if-fails.ensures.planned c.push_reserved.ensures.items refl

pub returns-in_err-piece-clause-ends : goal.returns-in_err-piece-clause-ends
returns-in_err-piece-clause-ends c =
    let is : c.from_residual.result ≡ Err Memory = search rules in
    wanting_disk c.args.self.now _ (record { log = refl; files = refl; last = refl; room_out = refl }) false ⊥ no_short never refl site_disk_faults (Range c.args.at (length c.args.bytes.now) ∷ []) c.from_residual.result is c.if-fails.ensures.planned refl refl

pub returns-in_err-next-clause-ends : goal.returns-in_err-next-clause-ends
returns-in_err-next-clause-ends c =
    let is : c.from_residual-in_err-next.result ≡ Err Memory = search rules in
    wanting_disk c.args.self.now _ (record { log = refl; files = refl; last = refl; room_out = refl }) false ⊥ no_short never refl site_disk_faults (Range c.args.at (length c.args.bytes.now) ∷ []) c.from_residual-in_err-next.result is c.if-fails.ensures.planned refl refl

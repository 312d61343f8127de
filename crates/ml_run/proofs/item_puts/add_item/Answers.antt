use Rattle.std.proofs.Common.{◌≡◌, refl, sym, ap, subst, ◌∙◌, List, ℕ, true, Err, IsTrue}
use Rattle.ml_base.specs.declared.part_error.PartError.TheVariants.{Fault}
use Rattle.ml_base.specs.declared.part_error.PartError.{PartError}
use Rattle.ml_base.specs.Faults.{Rose}
use Rattle.ml_journal.specs.Stores.{site_of}
use Rattle.ml_base.specs.PartErrors.{OnDamaged}
use Rattle.ml_base.specs.Dir.{Dir, are_files, touches_only, with_puts}
use Rattle.ml_base.specs.declared.puts.Put.{Put}
use Rattle.ml_plain.specs.declared.Reply.{Reply}
use Rattle.ml_list.specs.Again.{CountsOnce}
use Rattle.ml_list.specs.Found.{FoundWhole}
use Rattle.ml_list.specs.Applying.{Does}
use Rattle.ml_list.specs.Looked.{AlikeFor, StandsForNone}
use Rattle.ml_list.proofs.Looked.{alike_self}
use Rattle.ml_list.specs.Written.{WritesAsAsked, is_written_by}
use Rattle.ml_list.specs.Asked.{IsDamagedFor, IsReadBy}
use Rattle.ml_list.specs.Damage.{IsDamagedInList, IsNamed, is_read_by_item}
use Rattle.ml_base.proofs.DamagedNames.{on_damaged}
use Rattle.ml_list.proofs.Named.{may_read_named}
use Rattle.ml_plain.specs.Directory.{IsState}
use Rattle.ml_plain.specs.Histories.{State, step}
use Rattle.ml_run.specs.Leaving.{dir_of}
use Rattle.ml_run.proofs.Batching.{same_batch, added_next, next_over, at_ok, at_err, part_reason, when_told}
use Rattle.ml_run.specs.Batches.{HasReason, IsOfItem, IsPartReason, NamesAsked, NamesOwn}
use Rattle.ml_run.proofs.ItemPaths.{asked_of, blocked, of_item, own_of, part_of_item}
use Rattle.ml_ending.specs.declared.lines.Why.{Why}
use Rattle.ml_plain.specs.Replies.{is_code}
use Rattle.ml_run.proofs.ServedAnywhere.{added_done}
use Rattle.ml_run.proofs.item_puts.add_item.Goals as goal

pub returns-in-Ok-clause-done : goal.returns-in-Ok-clause-done
returns-in-Ok-clause-done g c told =
    let txn : c.parts-store.result.1 ≡ c.args.batch.txn = c.parts-store.ensures.txn ∙ c.apply_with_memo-layer.ensures.reads.kept.1 ∙ c.new.ensures.txn in
    let same = same_batch c.args.batch c.parts-store.result.1 c.args.batch.lines txn refl in
    let over : with_puts (dir_of c.new.result.files) c.new.result.txn ≡ with_puts (dir_of c.args.store) c.args.batch.txn = λ i. with_puts (dir_of (c.new.ensures.files i)) (c.new.ensures.txn i) in
    let here = with_puts (dir_of c.new.result.files) c.new.result.txn in
    let item = c.args.item.now in
    let there : (dir : Dir) (q : State) → AlikeFor item here dir → IsState dir q → Does dir (c.in-Ok.more, c.in-Ok.reply) (step q item) =
    at_ok (λ (done : List Put × Reply). (dir : Dir) (q : State) → AlikeFor item here dir → IsState dir q → Does dir done (step q item))
    c.apply_with_memo-layer.result.1 (c.in-Ok.more, c.in-Ok.reply) (c.apply_with_memo-layer.ensures.value told) c.in-Ok.is in
    let does : (q : State) → IsState here q → Does here (c.in-Ok.more, c.in-Ok.reply) (step q item) = λ q is. there here q (alike_self item here) is in
    added_next c.with_answer-batch.result.1 (dir_of c.args.store) c.args.batch _ c.with_answer-batch.result.0 c.args.item.now c.in-Ok.more c.in-Ok.reply same c.with_answer-batch.ensures.done
    (subst (λ (d : Dir). (q : State) → IsState d q → Does d (c.in-Ok.more, c.in-Ok.reply) (step q c.args.item.now)) over does)

pub returns-in-Err-clause-reason : goal.returns-in-Err-clause-reason
returns-in-Err-clause-reason g c =
    let item = c.args.item.now in
    let error = c.in-Err.error in
    let txn : c.parts-store.result.1 ≡ c.args.batch.txn = c.parts-store.ensures.txn ∙ c.apply_with_memo-layer.ensures.reads.kept.1 ∙ c.new.ensures.txn in
    let now = with_puts (dir_of c.args.store) c.parts-store.result.1 in
    let over : with_puts (dir_of c.new.result.files) c.new.result.txn ≡ with_puts (dir_of c.args.store) c.parts-store.result.1 = λ i. with_puts (dir_of (c.new.ensures.files i)) ((c.new.ensures.txn ∙ sym txn) i) in
    let named : OnDamaged error IsNamed = on_damaged error _ IsNamed (λ name e. may_read_named item name c.requires.limits e)
    (at_err (λ (e : PartError). OnDamaged e (λ name. is_read_by_item item name ≡ true)) c.apply_with_memo-layer.result.1 error c.apply_with_memo-layer.ensures.names.named c.in-Err.is) in
    let damaged : IsTrue g.S.Site.tells_reads → OnDamaged error (IsDamagedInList now) =
    λ told. subst (λ (d : Dir). OnDamaged error (IsDamagedInList d)) over
    (on_damaged error (IsDamagedFor (with_puts (dir_of c.new.result.files) c.new.result.txn) item) (IsDamagedInList (with_puts (dir_of c.new.result.files) c.new.result.txn)) (λ name bad. bad.damaged)
    (at_err (λ (e : PartError). OnDamaged e (IsDamagedFor (with_puts (dir_of c.new.result.files) c.new.result.txn) item)) c.apply_with_memo-layer.result.1 error (c.apply_with_memo-layer.ensures.names.damaged told) c.in-Err.is)) in
    let cause : error ≡ Fault → Rose (g.S.Site.disk_faults (site_of c.args.store)) (g.S.Site.disk_faults (site_of c.parts-store.result.0)) =
    λ e. subst (λ (x : ℕ × ℕ). Rose x.0 x.1) (λ i. (g.S.Site.disk_faults (site_of (c.new.ensures.files i)), g.S.Site.disk_faults (site_of ((sym c.parts-store.ensures.files) i)))) (c.apply_with_memo-layer.ensures.reads.cause (c.in-Err.is ∙ ap Err e)) in
    subst (λ (w : Why). HasReason w ⊥ (Rose (g.S.Site.disk_faults (site_of c.args.store)) (g.S.Site.disk_faults (site_of c.parts-store.result.0))) (λ name. IsTrue g.S.Site.tells_reads → IsDamagedInList now name)) (sym c.why_of.ensures)
    (part_reason error _ _ cause named (when_told error (IsTrue g.S.Site.tells_reads) (IsDamagedInList now) damaged))

pub returns-in-Ok-clause-next : goal.returns-in-Ok-clause-next
returns-in-Ok-clause-next g c =
    let txn : c.parts-store.result.1 ≡ c.args.batch.txn = c.parts-store.ensures.txn ∙ c.apply_with_memo-layer.ensures.reads.kept.1 ∙ c.new.ensures.txn in
    next_over c.with_answer-batch.result.1 c.args.batch _ c.with_answer-batch.result.0 c.args.item.now.number c.in-Ok.more c.in-Ok.reply (same_batch c.args.batch c.parts-store.result.1 c.args.batch.lines txn refl) c.with_answer-batch.ensures.done

pub returns-in-Err-clause-part : goal.returns-in-Err-clause-part
returns-in-Err-clause-part g c =
    let item = c.args.item.now in
    let named : OnDamaged c.in-Err.error IsOfItem = on_damaged c.in-Err.error _ IsOfItem (λ name e. of_item item name e)
    (at_err (λ (e : PartError). OnDamaged e (λ name. is_read_by_item item name ≡ true)) c.apply_with_memo-layer.result.1 c.in-Err.error c.apply_with_memo-layer.ensures.names.named c.in-Err.is) in
    subst IsPartReason (sym c.why_of.ensures) (part_of_item c.in-Err.error named)

pub returns-in-Err-clause-own : goal.returns-in-Err-clause-own
returns-in-Err-clause-own g c =
    let item = c.args.item.now in
    subst (NamesOwn item) (sym c.why_of.ensures)
    (own_of item c.in-Err.error (at_err (λ (e : PartError). OnDamaged e (λ name. is_read_by_item item name ≡ true)) c.apply_with_memo-layer.result.1 c.in-Err.error c.apply_with_memo-layer.ensures.names.named c.in-Err.is))

pub returns-in-Err-clause-asked : goal.returns-in-Err-clause-asked
returns-in-Err-clause-asked g c told =
    let item = c.args.item.now in
    let error = c.in-Err.error in
    let txn : c.parts-store.result.1 ≡ c.args.batch.txn = c.parts-store.ensures.txn ∙ c.apply_with_memo-layer.ensures.reads.kept.1 ∙ c.new.ensures.txn in
    let here = with_puts (dir_of c.new.result.files) c.new.result.txn in
    let now = with_puts (dir_of c.args.store) c.parts-store.result.1 in
    let over : here ≡ now = λ i. with_puts (dir_of (c.new.ensures.files i)) ((c.new.ensures.txn ∙ sym txn) i) in
    let none : (dir : Dir) (q : State) → AlikeFor item here dir → IsState dir q → OnDamaged error (λ _. ⊥) =
    λ dir q alike is. at_err (λ (e : PartError). OnDamaged e (λ _. ⊥)) c.apply_with_memo-layer.result.1 error (c.apply_with_memo-layer.ensures.sound told dir q alike is) c.in-Err.is in
    let read = blocked here item error (at_err (λ (e : PartError). OnDamaged e (IsDamagedFor here item)) c.apply_with_memo-layer.result.1 error (c.apply_with_memo-layer.ensures.names.damaged told) c.in-Err.is) none in
    subst (NamesAsked now item) (sym c.why_of.ensures) (asked_of now item error (subst (λ (d : Dir). OnDamaged error (λ name. IsReadBy d item name × StandsForNone d item)) over read))

pub returns-in-Ok-clause-adds : goal.returns-in-Ok-clause-adds
returns-in-Ok-clause-adds g c told =
    let item = c.args.item.now in
    let done : List Put × Reply = (c.in-Ok.more, c.in-Ok.reply) in
    let txn : c.parts-store.result.1 ≡ c.args.batch.txn = c.parts-store.ensures.txn ∙ c.apply_with_memo-layer.ensures.reads.kept.1 ∙ c.new.ensures.txn in
    let here = with_puts (dir_of c.new.result.files) c.new.result.txn in
    let over : here ≡ with_puts (dir_of c.args.store) c.args.batch.txn = λ i. with_puts (dir_of (c.new.ensures.files i)) (c.new.ensures.txn i) in
    added_done c.with_answer-batch.result.1 (dir_of c.args.store) c.args.batch _ c.with_answer-batch.result.0 item c.in-Ok.more c.in-Ok.reply (same_batch c.args.batch c.parts-store.result.1 c.args.batch.lines txn refl) c.with_answer-batch.ensures.done
    (at_ok (λ (done : List Put × Reply). IsTrue (are_files done.0)) c.apply_with_memo-layer.result.1 done c.apply_with_memo-layer.ensures.files c.in-Ok.is)
    (at_ok (λ (done : List Put × Reply). IsTrue (is_code done.1.code)) c.apply_with_memo-layer.result.1 done c.apply_with_memo-layer.ensures.reply c.in-Ok.is)
    (at_ok (λ (done : List Put × Reply). touches_only (is_written_by item) done.0 ≡ true) c.apply_with_memo-layer.result.1 done (c.apply_with_memo-layer.ensures.written told) c.in-Ok.is)
    (subst (λ (d : Dir). WritesAsAsked d item done.0) over
    (at_ok (λ (done : List Put × Reply). WritesAsAsked here item done.0) c.apply_with_memo-layer.result.1 done (c.apply_with_memo-layer.ensures.asked told) c.in-Ok.is))
    (subst (λ (d : Dir). CountsOnce d item.number done) over
    (at_ok (λ (done : List Put × Reply). CountsOnce here item.number done) c.apply_with_memo-layer.result.1 done (c.apply_with_memo-layer.ensures.once told) c.in-Ok.is))
    (subst (λ (d : Dir). FoundWhole d item done) over
    (at_ok (FoundWhole here item) c.apply_with_memo-layer.result.1 done (c.apply_with_memo-layer.ensures.found told) c.in-Ok.is))
    (subst (λ (d : Dir). (dir : Dir) (q : State) → AlikeFor item d dir → IsState dir q → Does dir done (step q item)) over
    (at_ok (λ (done : List Put × Reply). (dir : Dir) (q : State) → AlikeFor item here dir → IsState dir q → Does dir done (step q item)) c.apply_with_memo-layer.result.1 done (c.apply_with_memo-layer.ensures.value told) c.in-Ok.is))

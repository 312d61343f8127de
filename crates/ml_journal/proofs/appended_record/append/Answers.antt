use Rattle.std.proofs.Common.{◌≡◌, ◌+◌, ℕ, [], ◌∷◌, ◌++◌, length, sym, ◌∙◌, ap, subst, arith, rules}
use Rattle.ml_base.specs.Dir.{Dir, with_puts}
use Rattle.ml_site.specs.Disk.{Contents}
use Rattle.ml_site.proofs.Steps.{on_ok}
use Rattle.ml_journal.specs.Log.{directory}
use Rattle.ml_journal.specs.Instants.{with_txn}
use Rattle.ml_journal.specs.Calls.{KeepsDirectory, ChangesDirectory}
use Rattle.ml_journal.specs.Newest.{with_newest}
use Rattle.ml_journal.specs.Records.{spelled_record}
use Rattle.ml_journal.specs.Rows.{IsRecord, Rests, Staged}
use Rattle.ml_journal.proofs.Crash.{staged_then, opened, opened_directory}
use Rattle.ml_journal.proofs.Keeping.{changes_none, changes_after}
use Rattle.ml_journal.proofs.Records.{record_written}
use Rattle.ml_journal.proofs.Settled.{record_step, gate_step}
use Rattle.ml_journal.proofs.appended_record.append.Goals as goal

pub returns-in_err-settle_record-clause-directory : goal.returns-in_err-settle_record-clause-directory
returns-in_err-settle_record-clause-directory g c = changes_none g.S.Site c.args.txn c.args.site.now c.settle_record.new.site
    (record_step g.S.Site c.settle_record.result _ c.args.end (length (spelled_record c.as_slice.result.now ++ 0 ∷ [])) (λ r. with_newest c.args.newest.now.puts) c.args.site.now c.settle_record.new.site g.met.S.Site.all_has_reads c.settle_record.ensures.settles c.requires.held)

pub returns-in_err-set_all-clause-directory : goal.returns-in_err-set_all-clause-directory
returns-in_err-set_all-clause-directory g c = changes_none g.S.Site c.args.txn c.args.site.now c.settle_record.new.site
    (record_step g.S.Site c.settle_record.result _ c.args.end (length (spelled_record c.as_slice.result.now ++ 0 ∷ [])) (λ r. with_newest c.args.newest.now.puts) c.args.site.now c.settle_record.new.site g.met.S.Site.all_has_reads c.settle_record.ensures.settles c.requires.held)

pub returns-clause-held : goal.returns-clause-held
returns-clause-held g c = λ told.
    let old = (g.S.Site.disk c.args.site.now).reads in
    let mid = (g.S.Site.disk c.settle_record.new.site).reads in
    let change = with_newest c.args.newest.now.puts in
    let txn = c.args.txn in
    let same : c.as_slice.result.now ≡ txn = search rules in
    let body = spelled_record txn in
    let bytes = spelled_record c.as_slice.result.now ++ 0 ∷ [] in
    let reads : IsRecord body txn = λ rest. record_written txn rest c.requires.files (omega (arith, c.requires.size, c.requires.small)) in
    let at : Staged mid.log c.args.end body change = staged_then old mid c.args.end body bytes change (c.requires.held told) (λ i. spelled_record (same i) ++ 0 ∷ []) (c.in_ok-settle_record.ensures.settles.reads told).ok in
    let size : c.args.end + 1 + length body ≡ c.args.end + length body + 1 = omega arith in
    let grown : (λ (d : Dir). with_puts (change d) txn) ≡ with_newest c.set_all.new.self.puts = λ i d. sym (c.in_ok-set_all.ensures d) i in
    on_ok c.settle_log.result (c.settle_log.ensures.settles.reads told).ok (λ done.
    subst (λ (n : ℕ). Rests (g.S.Site.disk c.settle_log.new.site).reads.log n (with_newest c.set_all.new.self.puts)) size
    (subst (λ (f : Dir → Dir). Rests (g.S.Site.disk c.settle_log.new.site).reads.log (c.args.end + 1 + length body) f) grown
    (subst (λ (m : Contents). Rests m.log (c.args.end + 1 + length body) (λ (d : Dir). with_puts (change d) txn)) (sym done) (opened mid c.args.end body change txn at reads))))

pub returns-clause-done : goal.returns-clause-done
returns-clause-done g c = λ told.
    let old = (g.S.Site.disk c.args.site.now).reads in
    let mid = (g.S.Site.disk c.settle_record.new.site).reads in
    let change = with_newest c.args.newest.now.puts in
    let txn = c.args.txn in
    let same : c.as_slice.result.now ≡ txn = search rules in
    let body = spelled_record txn in
    let bytes = spelled_record c.as_slice.result.now ++ 0 ∷ [] in
    let reads : IsRecord body txn = λ rest. record_written txn rest c.requires.files (omega (arith, c.requires.size, c.requires.small)) in
    let before : KeepsDirectory g.S.Site c.args.site.now c.settle_record.new.site = record_step g.S.Site c.settle_record.result _ c.args.end (length bytes) (λ r. change) c.args.site.now c.settle_record.new.site g.met.S.Site.all_has_reads c.settle_record.ensures.settles c.requires.held in
    let at : Staged mid.log c.args.end body change = staged_then old mid c.args.end body bytes change (c.requires.held told) (λ i. spelled_record (same i) ++ 0 ∷ []) (c.in_ok-settle_record.ensures.settles.reads told).ok in
    on_ok c.settle_log.result (c.settle_log.ensures.settles.reads told).ok (λ done.
    ap directory done ∙ opened_directory mid c.args.end body change txn at reads ∙ ap (with_txn txn) (before.same told))

pub returns-clause-directory : goal.returns-clause-directory
returns-clause-directory g c =
    let told = g.S.Site in
    let old = c.args.site.now in
    let mid = c.settle_record.new.site in
    let new = c.settle_log.new.site in
    let change = with_newest c.args.newest.now.puts in
    let txn = c.args.txn in
    let same : c.as_slice.result.now ≡ txn = search rules in
    let body = spelled_record txn in
    let bytes = spelled_record c.as_slice.result.now ++ 0 ∷ [] in
    let reads : IsRecord body txn = λ rest. record_written txn rest c.requires.files (omega (arith, c.requires.size, c.requires.small)) in
    let before : KeepsDirectory told old mid = record_step told c.settle_record.result _ c.args.end (length bytes) (λ r. change) old mid g.met.S.Site.all_has_reads c.settle_record.ensures.settles c.requires.held in
    let then : ChangesDirectory told txn mid new = gate_step told c.settle_log.result _ c.args.end body txn (λ r. change) mid new g.met.S.Site.all_has_reads c.settle_log.ensures.settles
    (λ r. staged_then (told.disk old).reads (told.disk mid).reads c.args.end body bytes change (c.requires.held r) (λ i. spelled_record (same i) ++ 0 ∷ []) (c.in_ok-settle_record.ensures.settles.reads r).ok) reads in
    changes_after told g.met.S.Site.all_has_reads txn old mid new c.settle_record.ensures.keeps.output before then

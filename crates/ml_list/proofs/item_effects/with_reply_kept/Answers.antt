use Rattle.std.proofs.Common.{◌∙◌, sym, ap, [], refl}
use Rattle.std.proofs.lemmas.Result.{IfOk-weaker}
use Rattle.ml_base.specs.Dir.{with_puts}
use Rattle.ml_base.specs.Name.{is_file}
use Rattle.ml_base.proofs.DamagedNames.{ok_both}
use Rattle.ml_list.proofs.Steps.{unkept_does, with_reply_does, files_more}
use Rattle.std.proofs.lemmas.List.{append-nil}
use Rattle.ml_list.proofs.item_effects.with_reply_kept.Goals as goal

pub returns-then-number-eq0-clause-value : goal.returns-then-number-eq0-clause-value
returns-then-number-eq0-clause-value c = λ dir q there is high. unkept_does dir c.args.txn c.args.number c.args.reply q c.if-number-eq0.true is

pub returns-clause-value : goal.returns-clause-value
returns-clause-value c =
    let some = c.if-number-eq0.false in
    ok_both c.with_put.result _ _ _ (λ done puts reply dir q there is high.
    with_reply_does dir c.args.txn c.in_ok-put.put c.args.number c.args.reply q done is puts reply c.in_ok-put.ensures.name
    (c.in_ok-put.ensures.value (with_puts dir c.args.txn) q.floor q.kept (c.in_ok-left.ensures dir (there some ∙ ap dir (sym c.replies_name.ensures.name)) ∙ ap (with_puts dir c.args.txn) c.replies_name.ensures.name) (high some) is.replies))
    c.with_put.ensures.puts c.with_put.ensures.reply

pub returns-clause-files : goal.returns-clause-files
returns-clause-files c = IfOk-weaker c.with_put.result _ _ (λ done puts. files_more is_file c.args.txn done.0 c.in_ok-put.put puts c.requires.names c.in_ok-put.ensures.file) c.with_put.ensures.puts

pub returns-then-number-eq0-clause-written : goal.returns-then-number-eq0-clause-written
returns-then-number-eq0-clause-written c = λ own all one. all

pub returns-clause-written : goal.returns-clause-written
returns-clause-written c =
    IfOk-weaker c.with_put.result _ _ (λ done puts own all one. files_more own c.args.txn done.0 c.in_ok-put.put puts all (ap own c.in_ok-put.ensures.name ∙ one c.if-number-eq0.false)) c.with_put.ensures.puts

pub returns-then-number-eq0-clause-found : goal.returns-then-number-eq0-clause-found
returns-then-number-eq0-clause-found c = record { kept = []; puts = sym (append-nil c.args.txn); reply = refl }

pub returns-clause-found : goal.returns-clause-found
returns-clause-found c = ok_both c.with_put.result _ _ _ (λ done puts reply. record { kept = _; puts = puts; reply = reply }) c.with_put.ensures.puts c.with_put.ensures.reply

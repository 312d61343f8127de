use Rattle.std.proofs.Common.{◌∙◌, List, sym, ap, subst}
use Rattle.std.proofs.lemmas.Result.{IfOk-weaker}
use Rattle.std.specs.Prelude.{IsTrue}
use Rattle.ml_base.specs.Dir.{are_files, with_puts}
use Rattle.ml_base.specs.declared.puts.Put.{Put}
use Rattle.ml_config.specs.FirstFiles.{no_files}
use Rattle.ml_config.proofs.FirstFileLemmas.{files_agree, files_over, puts_are_files}
use Rattle.ml_config.proofs.first_files.initial.Goals as goal

pub returns : goal.returns
returns c = record {
  puts = c.first_puts.ensures;
  files = IfOk-weaker c.first_puts.result _ _ (λ txn e name. ap (λ (puts : List Put). with_puts no_files puts name) e ∙ files_agree c.args.config.now c.args.key.now name) c.first_puts.ensures;
  over = IfOk-weaker c.first_puts.result _ _ (λ txn e dir name absent. ap (λ (puts : List Put). with_puts dir puts name) e ∙ files_over c.args.config.now c.args.key.now dir name absent) c.first_puts.ensures;
  names = IfOk-weaker c.first_puts.result _ _ (λ txn e. subst (λ (puts : List Put). IsTrue (are_files puts)) (sym e) (puts_are_files c.args.config.now c.args.key.now)) c.first_puts.ensures;
}

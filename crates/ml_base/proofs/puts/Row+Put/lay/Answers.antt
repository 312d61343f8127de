use Rattle.std.proofs.Common.{◌≡◌, ◌∙◌, ap, subst, set, List, ℕ, false}
use Rattle.std.proofs.lemmas.Result.{on_ok_weaker}
use Rattle.ml_base.specs.declared.puts.Put.{Put}
use Rattle.ml_base.specs.Dir.{with_puts, touches}
use Rattle.ml_base.specs.Laying.{laid_in, are_distinct, IsNewestAt}
use Rattle.ml_base.proofs.LayLemmas.{laid_there, laid_last, laid_as_pushed, laid_distinct}
use Rattle.ml_base.proofs.puts.Row+Put.lay.Goals as goal

there : (read old new : List Put) (put : Put) (at : ℕ) → read ≡ old → IsNewestAt read put.name at → new ≡ set old at put → new ≡ laid_in put old
there read old new put at same is e = e ∙ laid_there put old at (subst (λ ps. IsNewestAt ps put.name at) same is)

free : (read old : List Put) (put : Put) → read ≡ old → touches read put.name ≡ false → touches old put.name ≡ false
free read old put same e = subst (λ ps. touches ps put.name ≡ false) same e

pub returns-in-Some-clause-ok : goal.returns-in-Some-clause-ok
returns-in-Some-clause-ok c = there _ _ _ c.args.put c.in-Some.at c.as_slice.ensures c.in-Some.ensures c.replace.ensures

pub returns-in-Some-clause-as_pushed : goal.returns-in-Some-clause-as_pushed
returns-in-Some-clause-as_pushed c = λ dir name.
    ap (λ ps. with_puts dir ps name) (there _ _ _ c.args.put c.in-Some.at c.as_slice.ensures c.in-Some.ensures c.replace.ensures) ∙ laid_as_pushed c.args.put c.args.self.now dir name

pub returns-in-Some-clause-distinct : goal.returns-in-Some-clause-distinct
returns-in-Some-clause-distinct c = λ distinct.
    ap are_distinct (there _ _ _ c.args.put c.in-Some.at c.as_slice.ensures c.in-Some.ensures c.replace.ensures) ∙ laid_distinct c.args.put c.args.self.now distinct

pub returns-in-None-clause-ok : goal.returns-in-None-clause-ok
returns-in-None-clause-ok c = on_ok_weaker c.push.result (λ e. e ∙ laid_last c.args.put c.args.self.now (free _ _ c.args.put c.as_slice.ensures c.in-None.ensures)) c.push.ensures.ok

pub returns-in-None-clause-distinct : goal.returns-in-None-clause-distinct
returns-in-None-clause-distinct c = λ distinct.
    on_ok_weaker c.push.result (λ e.
    ap are_distinct (e ∙ laid_last c.args.put c.args.self.now (free _ _ c.args.put c.as_slice.ensures c.in-None.ensures)) ∙ laid_distinct c.args.put c.args.self.now distinct) c.push.ensures.ok

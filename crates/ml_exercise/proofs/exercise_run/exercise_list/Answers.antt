use Rattle.std.proofs.Common.{◌∙◌, sym}
use Rattle.ml_exercise.proofs.Joined.{early_list, joined_list}
use Rattle.ml_exercise.proofs.exercise_run.exercise_list.Goals as goal

pub returns-then-answered : goal.returns-then-answered
returns-then-answered g c =
    joined_list g.S.Site g.met.S.Site.all_has_reads c.args.config.now c.args.count c.args.site c.run_items-status.result.1 c.run_items-status.result.0 c.requires.found c.requires.range c.requires.count c.requires.rest
    c.run_items-status.ensures c.sum_up.result.1 c.sum_up.result.0 c.sum_up.ensures (sym c.is_reply_status-answered.ensures ∙ c.if-answered.true)

pub returns-else-answered : goal.returns-else-answered
returns-else-answered g c =
    early_list g.S.Site g.met.S.Site.all_has_reads c.args.config.now c.args.count c.args.site c.run_items-status.result.1 c.run_items-status.result.0 c.requires.found c.requires.range c.requires.count c.requires.rest
    c.run_items-status.ensures (sym c.is_reply_status-answered.ensures ∙ c.if-answered.false)

use Rattle.ml_run.proofs.LaidPuts.{laid_swapped, laid_after, rest_swapped, newest_there, none_there, newest_below, newest_at_most}
use Rattle.ml_run.proofs.laid_puts.lay_one.Goals as goal

pub swap-requires-clause-a_in_bounds : goal.swap-requires-clause-a_in_bounds
swap-requires-clause-a_in_bounds c = newest_below c.args.puts.now c.args.kept c.args.at c.in-Some.place c.args.place c.in-Some.is c.requires.kept c.requires.at c.requires.place

pub returns-in-Some-clause-laid : goal.returns-in-Some-clause-laid
returns-in-Some-clause-laid c put here = laid_swapped c.args.puts.now c.swap.new.self c.args.kept c.args.at c.in-Some.place put c.requires.kept c.requires.at here (newest_there c.args.puts.now c.args.kept put c.in-Some.place c.args.place c.in-Some.is (c.requires.place put here)) c.swap.ensures.after

pub returns-in-Some-clause-rest : goal.returns-in-Some-clause-rest
returns-in-Some-clause-rest c = rest_swapped c.args.puts.now c.swap.new.self c.in-Some.place c.args.at (newest_at_most c.args.puts.now c.args.kept c.args.at c.in-Some.place c.args.place c.in-Some.is c.requires.kept c.requires.at c.requires.place) c.requires.at c.swap.ensures.after

pub returns-in-None-clause-laid : goal.returns-in-None-clause-laid
returns-in-None-clause-laid c put here = laid_after c.args.puts.now c.swap-in-None.new.self c.args.kept c.args.at put c.requires.kept c.requires.at here (none_there c.args.puts.now c.args.kept put c.args.place c.in-None.is (c.requires.place put here)) c.swap-in-None.ensures.after

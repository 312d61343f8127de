use Rattle.ml_base.proofs.SplitLaws.{lines_joined, line_written, last_line}
use Rattle.ml_base.proofs.laws.law_lines.Goals as goal

pub returns-clause-whole : goal.returns-clause-whole
returns-clause-whole c = lines_joined

pub returns-clause-ended : goal.returns-clause-ended
returns-clause-ended c = line_written

pub returns-clause-last : goal.returns-clause-last
returns-clause-last c = last_line

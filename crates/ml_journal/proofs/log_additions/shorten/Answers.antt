use Rattle.ml_journal.proofs.Closing.{rests_lays}
use Rattle.ml_journal.proofs.Fields.{one_gate_rests}
use Rattle.ml_journal.proofs.Keeping.{directory_at_rest}
use Rattle.ml_journal.proofs.log_additions.shorten.Goals as goal

pub returns-then-end-lt-LAY-clause-directory : goal.returns-then-end-lt-LAY-clause-directory
returns-then-end-lt-LAY-clause-directory g c = directory_at_rest g.S.Site g.met.S.Site.only_now c.args.site.now c.requires.rest

pub lay_down-requires-clause-held : goal.lay_down-requires-clause-held
lay_down-requires-clause-held g c = λ told. rests_lays _ _ _ (c.requires.held told)

pub returns-clause-held : goal.returns-clause-held
returns-clause-held g c = λ told. one_gate_rests _ _ (c.in_ok-lay_down.ensures.clean.log told) c.new.ensures

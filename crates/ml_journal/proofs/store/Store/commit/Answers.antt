use Rattle.std.proofs.Common.{sym, subst}
use Rattle.ml_journal.specs.Calls.{ChangesDirectory}
use Rattle.ml_journal.proofs.Held.{held_rest}
use Rattle.ml_journal.proofs.Keeping.{changes_none, directory_at_rest}
use Rattle.ml_journal.proofs.store.Store.commit.Goals as goal

pub returns-in-Err-clause-directory : goal.returns-in-Err-clause-directory
returns-in-Err-clause-directory g c = subst (λ (s : g.row.S.Denot). ChangesDirectory g.S.Site c.args.txn.now c.args.self.site s) (sym c.leave.ensures.site)
    (changes_none g.S.Site c.args.txn.now c.args.self.site c.args.self.site (directory_at_rest g.S.Site g.met.S.Site.only_now c.args.self.site (held_rest c.args.self)))

use Rattle.std.proofs.Common.{[], ◌∷◌, ◌++◌, rules}
use Rattle.ml_journal.specs.Records.{spelled_record}
use Rattle.ml_journal.proofs.Handed.{hands_leave, synced_leave}
use Rattle.ml_journal.proofs.log_changes.settle_record.Goals as goal

pub returns-in_err-write_record-clause-settles : goal.returns-in_err-write_record-clause-settles
returns-in_err-write_record-clause-settles g c = record {
  reads = search rules;
  rest = search rules;
  instants = λ told. hands_leave g.S.Site g.met.S.Site.only_now c.write_record.result c.args.at (spelled_record c.args.puts.now ++ 0 ∷ []) c.args.site.now c.write_record.new.site told (c.requires.rest told) c.write_record.ensures;
}

pub returns-clause-settles : goal.returns-clause-settles
returns-clause-settles g c = record {
  reads = search rules;
  rest = search rules;
  instants = λ told. synced_leave g.S.Site g.met.S.Site.only_now c.write_record.result c.args.at (spelled_record c.args.puts.now ++ 0 ∷ []) c.args.site.now c.write_record.new.site c.sync.new.self told (c.requires.rest told) c.write_record.ensures
      (c.sync.ensures.crash told) (c.sync.ensures.keeps.output told) (c.sync.ensures.keeps.time told);
}

pub returns-in_err-sync-clause-settles : goal.returns-in_err-sync-clause-settles
returns-in_err-sync-clause-settles g c = record {
  reads = search rules;
  rest = search rules;
  instants = λ told. synced_leave g.S.Site g.met.S.Site.only_now c.write_record.result c.args.at (spelled_record c.args.puts.now ++ 0 ∷ []) c.args.site.now c.write_record.new.site c.sync.new.self told (c.requires.rest told) c.write_record.ensures
      (c.sync.ensures.crash told) (c.sync.ensures.keeps.output told) (c.sync.ensures.keeps.time told);
}

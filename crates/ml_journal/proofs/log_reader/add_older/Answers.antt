use Rattle.std.proofs.Common.{rules, ◌≡◌, None, IsSome}
use Rattle.ml_journal.specs.Found.{put_of}
use Rattle.ml_journal.specs.Newest.{newest_of}
use Rattle.ml_journal.proofs.Tables.{older_hidden, older_set}
use Rattle.ml_journal.proofs.log_reader.add_older.Goals as goal

pub returns-then-is_some : goal.returns-then-is_some
returns-then-is_some c =
    let some : IsSome (newest_of c.args.newest.now.puts c.args.put.name) = search rules in
    older_hidden c.args.newest.now.puts (put_of c.args.put) some

pub returns : goal.returns
returns c =
    let none : newest_of c.args.newest.now.puts c.args.put.name ≡ None = search rules in
    older_set c.set.result c.args.newest.now.puts c.set.new.self.puts (put_of c.args.put) _ c.in_ok-copied.ensures none c.set.ensures.ok

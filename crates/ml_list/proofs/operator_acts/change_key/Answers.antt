use Rattle.std.proofs.Common.{◌≡◌, rules, ◌∙◌, ◌∷◌, [], None, sym, ap, subst}
use Rattle.ml_base.specs.Dir.{same_name, touches_only}
use Rattle.ml_base.specs.ReadFiles.{NamesDamaged}
use Rattle.ml_config.specs.KeyFile.{AreKeys, IsKeyFile, key_name, keys_put}
use Rattle.ml_config.specs.declared.key_file.Keys.{Keys}
use Rattle.ml_list.proofs.Lists.{key_changes, key_stays}
use Rattle.ml_list.proofs.Looked.{keys_there, keys_whole}
use Rattle.ml_list.proofs.operator_acts.change_key.Goals as goal

pub returns-clause-value : goal.returns-clause-value
returns-clause-value g c told dir p alike is =
    let old = g.F.Files.map c.args.files.now in
    let same = c.changed_keys-changed.ensures in
    let are = subst (λ (k : Keys). AreKeys k) same (c.in_ok-txn.ensures.file (λ name. None)).are in
    key_changes dir p c.in_ok-keys.keys c.args.now c.args.new.now (c.in_ok-txn.txn, c.plain-2.result) is (keys_there old dir c.in_ok-keys.keys alike (c.in_ok-keys.ensures.value told)) (sym c.is_recent.ensures ∙ c.if-is_recent.false) are
    (c.in_ok-txn.ensures.puts ∙ ap (λ (k : Keys). keys_put k ∷ []) same) c.plain-2.ensures

pub returns-then-is_recent-clause-value : goal.returns-then-is_recent-clause-value
returns-then-is_recent-clause-value g c told dir p alike is =
    let old = g.F.Files.map c.args.files.now in
    key_stays dir p c.in_ok-keys.keys c.args.now c.args.new.now (c.new.result, c.plain.result) is (keys_there old dir c.in_ok-keys.keys alike (c.in_ok-keys.ensures.value told)) (sym c.is_recent.ensures ∙ c.if-is_recent.true) c.new.ensures c.plain.ensures

pub returns-in_err-keys-clause-sound : goal.returns-in_err-keys-clause-sound
returns-in_err-keys-clause-sound g c told dir p alike is =
    let old = g.F.Files.map c.args.files.now in
    let names : NamesDamaged g.F.Files (λ name. name ≡ key_name) (λ _. (keys : Keys) → ¬ IsKeyFile (old key_name) keys) c.from_residual.result = search rules in
    keys_whole old dir p.keys c.from_residual.result alike is.keys (names.damaged told)

pub returns-clause-written : goal.returns-clause-written
returns-clause-written g c = ap (touches_only (λ name. same_name name key_name)) c.in_ok-txn.ensures.puts

pub returns-clause-act : goal.returns-clause-act
returns-clause-act g c =
    let own = ap (touches_only (λ name. same_name name key_name)) c.in_ok-txn.ensures.puts in
    search rules

pub returns-then-is_recent-clause-found : goal.returns-then-is_recent-clause-found
returns-then-is_recent-clause-found g c told = (c.in_ok-keys.keys, c.in_ok-keys.ensures.value told)

pub returns-clause-found : goal.returns-clause-found
returns-clause-found g c told = (c.in_ok-keys.keys, c.in_ok-keys.ensures.value told)

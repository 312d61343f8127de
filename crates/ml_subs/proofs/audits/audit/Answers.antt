use Rattle.std.proofs.Common.{◌≡◌, subst, rules, true, List}
use Rattle.std.proofs.lemmas.Result.{on_ok_weaker, IfErr-weaker}
use Rattle.ml_base.specs.Dir.{Dir}
use Rattle.ml_base.specs.PartErrors.{OnDamaged}
use Rattle.ml_base.specs.declared.names.Set.{Set}
use Rattle.ml_base.specs.declared.names.Set.TheVariants as sets
use Rattle.ml_base.proofs.DamagedNames.{on_damaged, err_damaged}
use Rattle.ml_subs.specs.declared.member_list.Member.{Member}
use Rattle.ml_subs.specs.Subscribers.{AreSubscribers, Breaks, is_of_set}
use Rattle.ml_subs.proofs.Gathering.{each_set, sound_sets}
use Rattle.ml_subs.proofs.audits.audit.Goals as goal

pub returns-in_err-audit_set-clause-names : goal.returns-in_err-audit_set-clause-names
returns-in_err-audit_set-clause-names g c =
    let e = c.in_err-audit_set.field-0.0 in
    let failed = c.in_err-audit_set.ensures.names in
    record {
      named =
          let own : OnDamaged e (λ name. (set : Set) × (is_of_set set name ≡ true)) = on_damaged e (λ name. is_of_set sets.List name ≡ true) (λ name. (set : Set) × (is_of_set set name ≡ true)) (λ name is. (sets.List, is)) failed.named in
          search rules;
      damaged = λ told.
          let breaks : OnDamaged e (λ name. (set : Set) × Breaks (g.F.Files.map c.args.files.now) set name) =
          on_damaged e (Breaks (g.F.Files.map c.args.files.now) sets.List) (λ name. (set : Set) × Breaks (g.F.Files.map c.args.files.now) set name) (λ name bad. (sets.List, bad)) (failed.damaged told) in
          search rules;
    }

pub returns-in_err-audit_set-clause-sound : goal.returns-in_err-audit_set-clause-sound
returns-in_err-audit_set-clause-sound g c told all = IfErr-weaker _ _ _ (sound_sets (g.F.Files.map c.args.files.now) all) ((returns-in_err-audit_set-clause-names g c).damaged told)

pub returns-in_err-audit_set-2-clause-names : goal.returns-in_err-audit_set-2-clause-names
returns-in_err-audit_set-2-clause-names g c =
    let e = c.in_err-audit_set-2.field-0.0 in
    let failed = c.in_err-audit_set-2.ensures.names in
    let kept_1 = c.audit_set.ensures.reads.kept in
    record {
      named =
          let own : OnDamaged e (λ name. (set : Set) × (is_of_set set name ≡ true)) = on_damaged e (λ name. is_of_set sets.Digest name ≡ true) (λ name. (set : Set) × (is_of_set set name ≡ true)) (λ name is. (sets.Digest, is)) failed.named in
          search rules;
      damaged = λ told.
          let same = g.met.F.Files.kept_map c.args.files.now c.audit_set.new.files told kept_1 in
          let breaks : OnDamaged e (λ name. (set : Set) × Breaks (g.F.Files.map c.args.files.now) set name) =
          on_damaged e (Breaks (g.F.Files.map c.args.files.now) sets.Digest) (λ name. (set : Set) × Breaks (g.F.Files.map c.args.files.now) set name) (λ name bad. (sets.Digest, bad)) (subst (λ (dir : Dir). OnDamaged e (Breaks dir sets.Digest)) same (failed.damaged told)) in
          search rules;
    }

pub returns-in_err-audit_set-2-clause-sound : goal.returns-in_err-audit_set-2-clause-sound
returns-in_err-audit_set-2-clause-sound g c told all = IfErr-weaker _ _ _ (sound_sets (g.F.Files.map c.args.files.now) all) ((returns-in_err-audit_set-2-clause-names g c).damaged told)

pub returns-in_err-audit_set-3-clause-names : goal.returns-in_err-audit_set-3-clause-names
returns-in_err-audit_set-3-clause-names g c =
    let e = c.in_err-audit_set-3.field-0.0 in
    let failed = c.in_err-audit_set-3.ensures.names in
    let kept_1 = c.audit_set.ensures.reads.kept in
    let kept_2 = g.met.F.Files.kept_then c.args.files.now c.audit_set.new.files c.audit_set-2.new.files kept_1 c.audit_set-2.ensures.reads.kept in
    record {
      named =
          let own : OnDamaged e (λ name. (set : Set) × (is_of_set set name ≡ true)) = on_damaged e (λ name. is_of_set sets.Allow name ≡ true) (λ name. (set : Set) × (is_of_set set name ≡ true)) (λ name is. (sets.Allow, is)) failed.named in
          search rules;
      damaged = λ told.
          let same = g.met.F.Files.kept_map c.args.files.now c.audit_set-2.new.files told kept_2 in
          let breaks : OnDamaged e (λ name. (set : Set) × Breaks (g.F.Files.map c.args.files.now) set name) =
          on_damaged e (Breaks (g.F.Files.map c.args.files.now) sets.Allow) (λ name. (set : Set) × Breaks (g.F.Files.map c.args.files.now) set name) (λ name bad. (sets.Allow, bad)) (subst (λ (dir : Dir). OnDamaged e (Breaks dir sets.Allow)) same (failed.damaged told)) in
          search rules;
    }

pub returns-in_err-audit_set-3-clause-sound : goal.returns-in_err-audit_set-3-clause-sound
returns-in_err-audit_set-3-clause-sound g c told all = IfErr-weaker _ _ _ (sound_sets (g.F.Files.map c.args.files.now) all) ((returns-in_err-audit_set-3-clause-names g c).damaged told)

pub returns-in_err-audit_set-4-clause-names : goal.returns-in_err-audit_set-4-clause-names
returns-in_err-audit_set-4-clause-names g c =
    let e = c.in_err-audit_set-4.field-0.0 in
    let failed = c.in_err-audit_set-4.ensures.names in
    let kept_1 = c.audit_set.ensures.reads.kept in
    let kept_2 = g.met.F.Files.kept_then c.args.files.now c.audit_set.new.files c.audit_set-2.new.files kept_1 c.audit_set-2.ensures.reads.kept in
    let kept_3 = g.met.F.Files.kept_then c.args.files.now c.audit_set-2.new.files c.audit_set-3.new.files kept_2 c.audit_set-3.ensures.reads.kept in
    record {
      named =
          let own : OnDamaged e (λ name. (set : Set) × (is_of_set set name ≡ true)) = on_damaged e (λ name. is_of_set sets.Deny name ≡ true) (λ name. (set : Set) × (is_of_set set name ≡ true)) (λ name is. (sets.Deny, is)) failed.named in
          search rules;
      damaged = λ told.
          let same = g.met.F.Files.kept_map c.args.files.now c.audit_set-3.new.files told kept_3 in
          let breaks : OnDamaged e (λ name. (set : Set) × Breaks (g.F.Files.map c.args.files.now) set name) =
          on_damaged e (Breaks (g.F.Files.map c.args.files.now) sets.Deny) (λ name. (set : Set) × Breaks (g.F.Files.map c.args.files.now) set name) (λ name bad. (sets.Deny, bad)) (subst (λ (dir : Dir). OnDamaged e (Breaks dir sets.Deny)) same (failed.damaged told)) in
          search rules;
    }

pub returns-in_err-audit_set-4-clause-sound : goal.returns-in_err-audit_set-4-clause-sound
returns-in_err-audit_set-4-clause-sound g c told all = IfErr-weaker _ _ _ (sound_sets (g.F.Files.map c.args.files.now) all) ((returns-in_err-audit_set-4-clause-names g c).damaged told)

pub returns-clause-names : goal.returns-clause-names
returns-clause-names g c =
    let kept_1 = c.audit_set.ensures.reads.kept in
    let kept_2 = g.met.F.Files.kept_then c.args.files.now c.audit_set.new.files c.audit_set-2.new.files kept_1 c.audit_set-2.ensures.reads.kept in
    let kept_3 = g.met.F.Files.kept_then c.args.files.now c.audit_set-2.new.files c.audit_set-3.new.files kept_2 c.audit_set-3.ensures.reads.kept in
    let kept_4 = g.met.F.Files.kept_then c.args.files.now c.audit_set-3.new.files c.audit_set-4.new.files kept_3 c.audit_set-4.ensures.reads.kept in
    record {
      named = err_damaged c.audit_set-5.result (λ name. is_of_set sets.Moderators name ≡ true) (λ name. (set : Set) × (is_of_set set name ≡ true)) (λ name is. (sets.Moderators, is)) c.audit_set-5.ensures.names.named;
      damaged = λ told.
          let same_4 = g.met.F.Files.kept_map c.args.files.now c.audit_set-4.new.files told kept_4 in
          err_damaged c.audit_set-5.result (Breaks (g.F.Files.map c.audit_set-4.new.files) sets.Moderators) (λ name. (set : Set) × Breaks (g.F.Files.map c.args.files.now) set name)
          (λ name bad. (sets.Moderators, subst (λ (dir : Dir). Breaks dir sets.Moderators name) same_4 bad)) (c.audit_set-5.ensures.names.damaged told);
    }

pub returns-clause-sound : goal.returns-clause-sound
returns-clause-sound g c told all = IfErr-weaker _ _ _ (sound_sets (g.F.Files.map c.args.files.now) all) ((returns-clause-names g c).damaged told)

pub returns-clause-ok : goal.returns-clause-ok
returns-clause-ok g c told =
    let kept_1 = c.audit_set.ensures.reads.kept in
    let kept_2 = g.met.F.Files.kept_then c.args.files.now c.audit_set.new.files c.audit_set-2.new.files kept_1 c.audit_set-2.ensures.reads.kept in
    let kept_3 = g.met.F.Files.kept_then c.args.files.now c.audit_set-2.new.files c.audit_set-3.new.files kept_2 c.audit_set-3.ensures.reads.kept in
    let kept_4 = g.met.F.Files.kept_then c.args.files.now c.audit_set-3.new.files c.audit_set-4.new.files kept_3 c.audit_set-4.ensures.reads.kept in
    let same_1 = g.met.F.Files.kept_map c.args.files.now c.audit_set.new.files told kept_1 in
    let same_2 = g.met.F.Files.kept_map c.args.files.now c.audit_set-2.new.files told kept_2 in
    let same_3 = g.met.F.Files.kept_map c.args.files.now c.audit_set-3.new.files told kept_3 in
    let same_4 = g.met.F.Files.kept_map c.args.files.now c.audit_set-4.new.files told kept_4 in
    on_ok_weaker c.audit_set-5.result
    (λ last. each_set (λ set. (ms : List Member) × AreSubscribers (g.F.Files.map c.args.files.now) set ms)
    (c.in_ok-audit_set.ensures.value told)
    (subst (λ (dir : Dir). (ms : List Member) × AreSubscribers dir sets.Digest ms) same_1 (c.in_ok-audit_set-2.ensures.value told))
    (subst (λ (dir : Dir). (ms : List Member) × AreSubscribers dir sets.Allow ms) same_2 (c.in_ok-audit_set-3.ensures.value told))
    (subst (λ (dir : Dir). (ms : List Member) × AreSubscribers dir sets.Deny ms) same_3 (c.in_ok-audit_set-4.ensures.value told))
    (subst (λ (dir : Dir). (ms : List Member) × AreSubscribers dir sets.Moderators ms) same_4 last))
    (c.audit_set-5.ensures.value told)

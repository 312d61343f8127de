use Rattle.std.proofs.Common.{◌≡◌, ◌∙◌, ◌+◌, ap, ap₂, sym, subst, rules, arith, true, false, ℕ, List, Some, Option, IfSome}
use Rattle.std.proofs.lemmas.Result.{IfErr-weaker}
use Rattle.ml_base.specs.Bytes.{Text}
use Rattle.ml_base.specs.Address.{key}
use Rattle.ml_base.specs.Dir.{Dir}
use Rattle.ml_subs.specs.declared.member_list.Member.{Member}
use Rattle.ml_subs.specs.declared.set_changes.AddAnswer.TheVariants.{Added}
use Rattle.ml_subs.specs.Buckets.{bucket_file, bucket_of, IsBucketFile}
use Rattle.ml_subs.specs.Subscribers.{IsNoCount, IsUnread, count_name, count_text, is_touched}
use Rattle.ml_base.specs.PartErrors.{OnDamaged}
use Rattle.ml_subs.specs.Answers.{changes}
use Rattle.ml_subs.specs.Reading.{member_by}
use Rattle.ml_base.proofs.DamagedNames.{on_damaged, on_both}
use Rattle.ml_subs.specs.Members.{with_member}
use Rattle.ml_subs.proofs.Represented.{bucket_with}
use Rattle.ml_subs.proofs.Answering.{file_with, has_found, bucket_there, addition, has_of_set, count_of_set, count_touched, unread_count, unread}
use Rattle.ml_subs.proofs.sets.add_with_memo.Goals as goal

pub returns-then-is_some-clause-read : goal.returns-then-is_some-clause-read
returns-then-is_some-clause-read g c told =
    let is = subst (λ (o : Option (List Member)). IfSome o (IsBucketFile c.bucket-n.result c.in_ok-file.file)) c.in-Some.is c.in_ok-members.ensures.some in (
      c.in-Some.members,
      bucket_there (g.F.Files.map c.args.files.now) c.args.set (key c.args.a.now) c.bucket-n.result c.bucket-name.result c.in_ok-file.file c.in-Some.members c.bucket-n.ensures.value c.bucket-name.ensures.name (c.in_ok-file.ensures.value told) is,
      (has_found (λ r. r.now) (key c.args.a.now) c.in-Some.members c.lookup.result c.lookup.ensures) ∙ sym c.is_some.ensures ∙ c.if-is_some.true,
    )

pub returns-then-is_some-clause-value : goal.returns-then-is_some-clause-value
returns-then-is_some-clause-value g c told ms is =
    let read = returns-then-is_some-clause-read g c told in
    has_of_set (g.F.Files.map c.args.files.now) c.args.set ms read.0 (key c.args.a.now) is read.1 ∙ read.2

pub returns-then-count-eq-MAX_MEMBERS-clause-read : goal.returns-then-count-eq-MAX_MEMBERS-clause-read
returns-then-count-eq-MAX_MEMBERS-clause-read g c told =
    let is = subst (λ (o : Option (List Member)). IfSome o (IsBucketFile c.bucket-n.result c.in_ok-file.file)) c.in-Some.is c.in_ok-members.ensures.some in
    let count = c.in_ok-count.ensures.value told in
    let same = g.met.F.Files.kept_map c.args.files.now c.get.new.self told c.get.ensures.kept in (
      c.in-Some.members,
      bucket_there (g.F.Files.map c.args.files.now) c.args.set (key c.args.a.now) c.bucket-n.result c.bucket-name.result c.in_ok-file.file c.in-Some.members c.bucket-n.ensures.value c.bucket-name.ensures.name (c.in_ok-file.ensures.value told) is,
      (
        (has_found (λ r. r.now) (key c.args.a.now) c.in-Some.members c.lookup.result c.lookup.ensures) ∙ sym c.is_some.ensures ∙ c.if-is_some.false,
        sym (ap (λ (dir : Dir). dir (count_name c.args.set)) same) ∙ count.2 ∙ ap (λ n. Some (count_text n)) c.if-count-eq-MAX_MEMBERS.true,
      ),
    )

pub returns-then-count-eq-MAX_MEMBERS-clause-value : goal.returns-then-count-eq-MAX_MEMBERS-clause-value
returns-then-count-eq-MAX_MEMBERS-clause-value g c told ms is =
    let read = returns-then-count-eq-MAX_MEMBERS-clause-read g c told in (
      has_of_set (g.F.Files.map c.args.files.now) c.args.set ms read.0 (key c.args.a.now) is read.1 ∙ (read.2).0,
      count_of_set (g.F.Files.map c.args.files.now) c.args.set ms 100_000 is (omega arith) (read.2).1,
    )

pub note-requires : goal.note-requires
note-requires g c =
    let is = subst (λ (o : Option (List Member)). IfSome o (IsBucketFile c.bucket-n.result c.in_ok-file.file)) c.in-Some.is c.in_ok-members.ensures.some in
    let m = member_by c.args.a.now c.args.now in
    let all = with_member m c.in-Some.members in
    let text : Some c.as_slice.result.now ≡ bucket_file all = ap Some (c.as_slice.ensures ∙ c.in_ok-text.ensures.text) ∙ sym (file_with m c.in-Some.members) in
    let there = subst (λ (n : ℕ). IsBucketFile n c.in_ok-file.file c.in-Some.members) c.bucket-n.ensures.value is in
    let made : IsBucketFile (bucket_of (key c.args.a.now)) (Some c.as_slice.result.now) all = subst (λ (f : Option Text). IsBucketFile (bucket_of (key c.args.a.now)) f all) (sym text) (bucket_with m c.in_ok-file.file c.in-Some.members c.in_ok-text.ensures.address c.requires there) in
    (all, subst (λ (n : ℕ). IsBucketFile n (Some c.as_slice.result.now) all) (sym c.bucket-n.ensures.value) made)

pub returns-clause-read : goal.returns-clause-read
returns-clause-read g c told =
    let is = subst (λ (o : Option (List Member)). IfSome o (IsBucketFile c.bucket-n.result c.in_ok-file.file)) c.in-Some.is c.in_ok-members.ensures.some in
    let count = c.in_ok-count.ensures.value told in
    let same = g.met.F.Files.kept_map c.args.files.now c.get.new.self told c.get.ensures.kept in
    let m = member_by c.args.a.now c.args.now in
    let text = ap Some c.in_ok-text.ensures.text ∙ sym (file_with m c.in-Some.members) in (
      c.in-Some.members,
      bucket_there (g.F.Files.map c.args.files.now) c.args.set (key c.args.a.now) c.bucket-n.result c.bucket-name.result c.in_ok-file.file c.in-Some.members c.bucket-n.ensures.value c.bucket-name.ensures.name (c.in_ok-file.ensures.value told) is,
      (
        (has_found (λ r. r.now) (key c.args.a.now) c.in-Some.members c.lookup.result c.lookup.ensures) ∙ sym c.is_some.ensures ∙ c.if-is_some.false,
        (
          c.in_ok-count.count,
          omega (arith, count.1, c.if-count-eq-MAX_MEMBERS.false),
          sym (ap (λ (dir : Dir). dir (count_name c.args.set)) same) ∙ count.2,
          c.in_ok-changes.ensures ∙ ap₂ (λ n (bytes : Option Text). changes c.args.set n bytes (c.in_ok-count.count + 1)) c.bucket-n.ensures.value text,
        ),
      ),
    )

pub returns-clause-value : goal.returns-clause-value
returns-clause-value g c told ms is =
    let read = returns-clause-read g c told in
    addition (g.F.Files.map c.args.files.now) c.args.set (member_by c.args.a.now c.args.now) (Added _) read.0 ms c.in_ok-text.ensures.address c.requires read.1 read.2 is

pub returns-in_err-count-clause-names : goal.returns-in_err-count-clause-names
returns-in_err-count-clause-names g c =
    let e = c.in_err-count.field-0.0 in
    let failed = c.in_err-count.ensures.names in
    record {
      named = let own : OnDamaged e (λ name. is_touched c.args.set (key c.args.a.now) name ≡ true) = on_damaged e (λ name. name ≡ count_name c.args.set) (λ name. is_touched c.args.set (key c.args.a.now) name ≡ true) (count_touched c.args.set (key c.args.a.now)) failed.named in search rules;
      damaged = λ told.
          let dir = g.F.Files.map c.args.files.now in
          let is = subst (λ (o : Option (List Member)). IfSome o (IsBucketFile c.bucket-n.result c.in_ok-file.file)) c.in-Some.is c.in_ok-members.ensures.some in
          let same = g.met.F.Files.kept_map c.args.files.now c.get.new.self told c.get.ensures.kept in
          let there = bucket_there dir c.args.set (key c.args.a.now) c.bucket-n.result c.bucket-name.result c.in_ok-file.file c.in-Some.members c.bucket-n.ensures.value c.bucket-name.ensures.name (c.in_ok-file.ensures.value told) is in
          let none = subst (λ (d : Dir). OnDamaged e (λ _. IsNoCount d c.args.set 0)) same (failed.damaged told) in
          let unread : OnDamaged e (IsUnread dir c.args.set (key c.args.a.now) false) =
          on_both e (λ name. name ≡ count_name c.args.set) (λ _. IsNoCount dir c.args.set 0) (IsUnread dir c.args.set (key c.args.a.now) false) (unread_count dir c.args.set (key c.args.a.now) false c.in-Some.members there ((has_found (λ r. r.now) (key c.args.a.now) c.in-Some.members c.lookup.result c.lookup.ensures) ∙ sym c.is_some.ensures ∙ c.if-is_some.false)) failed.named none in
          search rules;
    }

pub returns-in_err-count-clause-sound : goal.returns-in_err-count-clause-sound
returns-in_err-count-clause-sound g c told ms is =
    IfErr-weaker _ _ _ (λ e. on_damaged e (IsUnread (g.F.Files.map c.args.files.now) c.args.set (key c.args.a.now) false) (λ _. ⊥) (λ name bad. unread (g.F.Files.map c.args.files.now) c.args.set (key c.args.a.now) false name ms bad is)) ((returns-in_err-count-clause-names g c).damaged told)

use Rattle.std.proofs.Common.{◌≡◌, ◌∙◌, inl, inr, ℕ, true, List, IfErr, sym, ap, subst, rules}
use Rattle.std.specs.List.{IsAmong}
use Rattle.ml_base.specs.Bytes.{Text}
use Rattle.ml_base.specs.Dir.{Dir}
use Rattle.ml_filing.specs.Answers.{IsBadForThread, IsThreadAnswer, IsThreadName}
use Rattle.ml_filing.specs.Archive.{number_name}
use Rattle.ml_filing.specs.Reads.{IsOfRow, IsOfSubject, IsOfThread}
use Rattle.ml_filing.specs.Posts.{cut, in_thread}
use Rattle.ml_filing.specs.Threads.{IsArchive}
use Rattle.ml_config.specs.declared.configuration.Config.{Config}
use Rattle.ml_base.specs.declared.names.Name.{Name}
use Rattle.ml_acts.specs.Asked.{IsBadAmong, IsDamagedOf, ThreadOf}
use Rattle.ml_acts.specs.Damaged.{thread}
use Rattle.ml_acts.proofs.Damages.{on_all, ok_then}
use Rattle.ml_base.proofs.DamagedNames.{err_both_damaged, err_damaged, on_both, on_damaged}
use Rattle.ml_base.specs.PartErrors.{OnDamaged}
use Rattle.ml_filing.specs.declared.posts.Post.{Post}
use Rattle.ml_manage.specs.Reads.{IsDamagedAmong, is_of_thread, AlikeEach}
use Rattle.ml_manage.specs.Texts.{posts_text}
use Rattle.ml_manage.proofs.Posts.{posts_are, row_of_thread, row_thread_read, thread_ones, thread_read}
use Rattle.ml_manage.proofs.Finding.{always_ok}
use Rattle.ml_manage.proofs.PostsApart.{each_of_thread, thread_apart}
use Rattle.ml_manage.proofs.archive.thread_text.Goals as goal

pub returns-in_err-numbers-clause-names : goal.returns-in_err-numbers-clause-names
returns-in_err-numbers-clause-names g c =
    let dir = g.F.Files.map c.args.files.now in
    let conf = c.args.config.now in
    let prefix = c.as_slice.ensures in
    let n = c.args.at in
    let failed = c.in_err-numbers.ensures.names in
    let e = c.in_err-numbers.field-0.0 in
    record {
      named = let own : OnDamaged e (λ name. is_of_thread name ≡ true) = on_damaged e IsThreadName (λ name. is_of_thread name ≡ true) thread_read failed.named in search rules;
      damaged = λ told.
          let bad : OnDamaged e (IsDamagedOf dir (ThreadOf conf.prefix n)) =
          on_both e (λ name. IsBadForThread dir c.as_slice.result.now n name × IsOfThread dir c.as_slice.result.now n name) (λ _. (posts : List Post) → IsArchive dir conf.prefix posts → ⊥) (IsDamagedOf dir (ThreadOf conf.prefix n))
          (λ name bad none. record {
            damaged = thread conf n (c.requires told) (subst (λ (t : Text). IsBadForThread dir t n name) prefix bad.0) none;
            own = λ of. (subst (λ (t : Text). IsOfThread dir t n name) prefix bad.1, inl (subst (λ (t : Text). IsBadForThread dir t n name) prefix bad.0));
          }) (failed.damaged told)
          (on_all e (IsArchive dir conf.prefix) (λ posts is. c.in_err-numbers.ensures.sound told posts (subst (λ (t : Text). IsArchive dir t posts) (sym prefix) is))) in
          search rules;
    }

pub returns-clause-names : goal.returns-clause-names
returns-clause-names g c =
    let dir = g.F.Files.map c.args.files.now in
    let conf = c.args.config.now in
    let prefix = c.as_slice.ensures in
    let n = c.args.at in
    let ns = c.as_slice-2.result.now in
    let r = c.posts_text.result in
    record {
      named = err_damaged r (IsOfRow number_name ns) (λ name. is_of_thread name ≡ true) (λ name own. row_thread_read ns name own) c.posts_text.ensures.names.named;
      damaged = λ told.
          let same = g.met.F.Files.kept_map c.args.files.now c.thread.new.files told c.thread.ensures.reads.kept in
          let numbers = c.in_ok-numbers.numbers in
          let read : IsThreadAnswer dir conf.prefix n numbers = subst (λ (t : Text). IsThreadAnswer dir t n numbers) prefix (c.in_ok-numbers.ensures.read told) in
          let answered : (name : Name) → IsOfRow number_name ns name → IsOfThread dir conf.prefix n name =
          λ name own. row_of_thread dir conf.prefix n ns name (λ m among. subst (λ (t : Text). IsOfSubject dir t n m) prefix (c.in_ok-numbers.ensures.among told m (subst (λ (t : List ℕ). IsAmong t m) c.as_slice-2.ensures among))) own in
          err_both_damaged r (IsOfRow number_name ns) (IsDamagedAmong dir ns) (IsDamagedOf dir (ThreadOf conf.prefix n))
          (λ name own bad. record { damaged = bad.damaged; own = λ of. (answered name own, inr (numbers, read, subst (λ (t : List ℕ). IsBadAmong dir t name) c.as_slice-2.ensures bad.bad)) })
          c.posts_text.ensures.names.named (subst (λ (d : Dir). IfErr r (λ e. OnDamaged e (IsDamagedAmong d ns))) same (c.posts_text.ensures.names.damaged told));
    }

pub returns-clause-found : goal.returns-clause-found
returns-clause-found g c told = always_ok c.posts_text.result (c.in_ok-numbers.numbers, subst (λ (p : Text). IsThreadAnswer (g.F.Files.map c.args.files.now) p c.args.at c.in_ok-numbers.numbers) c.as_slice.ensures (c.in_ok-numbers.ensures.read told))

pub returns-clause-apart : goal.returns-clause-apart
returns-clause-apart g c told =
    let old = g.F.Files.map c.args.files.now in
    let n = c.args.at in
    let row = c.in_ok-numbers.numbers in
    let read = c.in_ok-numbers.ensures.read told in
    let prefix = c.as_slice.ensures in
    let same = g.met.F.Files.kept_map c.args.files.now c.thread.new.files told c.thread.ensures.reads.kept in
    ok_then c.posts_text.result
    (λ text value dir p alike is conf.
    let own : c.as_slice.result.now ≡ p.config.prefix = prefix ∙ sym (ap (λ (k : Config). k.prefix) conf) in
    let each = subst (λ (ns : List ℕ). AlikeEach ns (g.F.Files.map c.thread.new.files) dir) (sym c.as_slice-2.ensures) (subst (λ (d : Dir). AlikeEach row d dir) (sym same) (each_of_thread row old dir alike)) in
    let found = thread_apart old dir alike p.config.prefix p.posts n row is.archive (subst (λ (t : Text). IsThreadAnswer old t n row) own read) in
    value dir p each is conf ∙ ap (posts_text p) (c.as_slice-2.ensures ∙ found) ∙ posts_are p (cut (in_thread p.config.prefix n p.posts)) (thread_ones p.posts p.config.prefix n))
    (c.posts_text.ensures.apart told)

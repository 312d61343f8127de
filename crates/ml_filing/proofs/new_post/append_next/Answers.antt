use Rattle.std.proofs.Common.{◌≡◌, ◌<◌, ◌≤◌, inr, ◌+◌, ◌/◌, [], ℕ, List, arith, rules, subst, ap, ap₂, ◌∙◌, refl, ◌⊎◌}
use Rattle.std.specs.Prelude.{unwrap_or}
use Rattle.std.proofs.lemmas.Nat.{mod_below}
use Rattle.ml_base.specs.Bytes.{Text}
use Rattle.ml_base.specs.Dir.{Dir}
use Rattle.ml_base.specs.PartErrors.{OnDamaged}
use Rattle.ml_base.specs.Hash.{hash_of}
use Rattle.ml_base.proofs.DamagedNames.{on_both, on_damaged}
use Rattle.ml_base.proofs.ReadingLemmas.{reading_ok}
use Rattle.ml_filing.specs.Answers.{IsAppendName, IsBadForAppend, IsBadForNext, IsNoThreads, new_post}
use Rattle.ml_filing.specs.Appending.{key_puts}
use Rattle.ml_filing.specs.Archive.{index_name, number_name}
use Rattle.ml_filing.specs.Posts.{key_of}
use Rattle.ml_filing.specs.Reads.{IsOfNext}
use Rattle.ml_filing.specs.Subjects as subjects
use Rattle.ml_filing.specs.Subjects.{subject, subject_key}
use Rattle.ml_filing.specs.Threads.{Thread, IsThreadFile, thread_name, thread_place}
use Rattle.ml_filing.specs.declared.posts.Appended.TheVariants.{At}
use Rattle.ml_filing.specs.declared.posts.Post.{Post}
use Rattle.ml_filing.proofs.Lengthened.{append_leads, no_bad_next, next_named, next_bad, next_of}
use Rattle.ml_filing.proofs.Looking.{counted_is}
use Rattle.ml_filing.proofs.Calls.{kept_by, kept_on, read_on}
use Rattle.ml_filing.proofs.new_post.append_next.Goals as goal

pub returns-in_err-index-clause-names : goal.returns-in_err-index-clause-names
returns-in_err-index-clause-names g c =
    let e = c.in_err-index.field-0.0 in
    let failed = c.in_err-index.ensures.names in
    let n = c.args.count + 1 in
    let room : n ≤ 99_999_999 = omega (arith, c.requires.room) in
    record {
      named =
          let own : OnDamaged e IsAppendName = on_damaged e (λ name. (name ≡ number_name) ⊎ (name ≡ index_name (n / 100))) IsAppendName (λ name is. next_named n name room is) failed.named in
          search rules;
      damaged = λ told.
          let dir = g.F.Files.map c.args.files.now in
          let counted = c.requires.count told in
          let key = subject_key c.args.prefix.now (subject c.args.bytes.now) in
          let bad : OnDamaged e (λ name. IsBadForAppend dir name × IsOfNext dir key name) =
          on_both e (λ name. (name ≡ number_name) ⊎ (name ≡ index_name (n / 100))) (IsBadForNext dir n) (λ name. IsBadForAppend dir name × IsOfNext dir key name)
          (λ name own is. (next_bad dir c.args.count n name refl room counted is, next_of dir key c.args.count n name refl room counted own)) failed.named
          (failed.damaged told) in
          search rules;
    }

pub returns-in_err-index-clause-sound : goal.returns-in_err-index-clause-sound
returns-in_err-index-clause-sound g c told posts is =
    let e = c.in_err-index.field-0.0 in
    let n = c.args.count + 1 in
    let room : n ≤ 99_999_999 = omega (arith, c.requires.room) in
    let dir = g.F.Files.map c.args.files.now in
    let count = counted_is dir posts is.filed c.args.count (c.requires.count told) in
    let none : OnDamaged e (λ _. ⊥) =
    on_damaged e (IsBadForNext dir n) (λ _. ⊥) (λ name bad. no_bad_next dir posts n name is.filed (omega (arith, count)) room bad) (c.in_err-index.ensures.names.damaged told) in
    search rules

pub returns-in_err-threads-clause-names : goal.returns-in_err-threads-clause-names
returns-in_err-threads-clause-names g c =
    let e = c.in_err-threads.field-0.0 in
    let failed = c.in_err-threads.ensures.names in
    let key = subject_key c.args.prefix.now (subject c.args.bytes.now) in
    let place : ℕ = thread_place key in
    let key_is : c.in_ok-key.key ≡ key = c.in_ok-key.ensures ∙ ap (subject_key c.args.prefix.now) (c.as_slice.ensures ∙ c.in_ok-subject.ensures.value ∙ ap subject c.scan.ensures) in
    let place_is : c.thread_place_of.result ≡ place = c.thread_place_of.ensures ∙ ap thread_place (c.as_slice-2.ensures ∙ key_is) in
    let less : place < 256 = mod_below (hash_of key) 256 (omega arith) in
    let named : OnDamaged e (λ name. name ≡ thread_name place) = subst (λ (p : ℕ). OnDamaged e (λ name. name ≡ thread_name p)) place_is failed.named in
    record {
      named = let own : OnDamaged e IsAppendName = on_damaged e (λ name. name ≡ thread_name place) IsAppendName (λ name is. inr (inr (place, less, is))) named in search rules;
      damaged = λ told.
          let dir = g.F.Files.map c.args.files.now in
          let second = g.met.F.Files.kept_map c.args.files.now c.next_index.new.files told c.next_index.ensures.reads.kept in
          let none : OnDamaged e (λ _. IsNoThreads dir place) =
          subst (λ (p : ℕ). OnDamaged e (λ _. IsNoThreads dir p)) place_is (subst (λ (d : Dir). OnDamaged e (λ _. IsNoThreads d c.thread_place_of.result)) second (failed.damaged told)) in
          let bad : OnDamaged e (λ name. IsBadForAppend dir name × IsOfNext dir key name) =
          on_both e (λ name. name ≡ thread_name place) (λ _. IsNoThreads dir place) (λ name. IsBadForAppend dir name × IsOfNext dir key name) (λ name is no. (inr (inr (place, less, is, no)), inr (inr is))) named none in
          search rules;
    }

pub returns-in_err-threads-clause-reads : goal.returns-in_err-threads-clause-reads
returns-in_err-threads-clause-reads g c =
    let on = g.met.F.Files.kept_then in
    let read = read_on on (kept_by c.next_index.ensures.reads) c.read_thread_file.ensures.reads in
    search rules

pub returns-in_err-txn-clause-reads : goal.returns-in_err-txn-clause-reads
returns-in_err-txn-clause-reads g c =
    let on = g.met.F.Files.kept_then in
    let all = kept_on on (kept_by c.next_index.ensures.reads) c.read_thread_file.ensures.reads in
    record { kept = all.kept; later = all.later; cause = λ bad. absurd (search rules) }

pub returns-clause-reads : goal.returns-clause-reads
returns-clause-reads g c = let on = g.met.F.Files.kept_then in reading_ok g.F.Files _ _ _ (kept_on on (kept_by c.next_index.ensures.reads) c.read_thread_file.ensures.reads)

pub returns-clause-read : goal.returns-clause-read
returns-clause-read g c told =
    let old = g.F.Files.map c.args.files.now in
    let second = g.met.F.Files.kept_map c.args.files.now c.next_index.new.files told c.next_index.ensures.reads.kept in
    let n = c.args.count + 1 in
    let post = new_post c.args.sender.now c.args.moment c.args.bytes.now in
    let threads = c.in_ok-threads.threads in
    let subject_is : c.in_ok-subject.subject ≡ subjects.subject c.args.bytes.now = c.in_ok-subject.ensures.value ∙ ap subjects.subject c.scan.ensures in
    let key_is : c.in_ok-key.key ≡ key_of c.args.prefix.now post = c.in_ok-key.ensures ∙ ap (subjects.subject_key c.args.prefix.now) (c.as_slice.ensures ∙ subject_is) in
    let place_is : c.thread_place_of.result ≡ thread_place (key_of c.args.prefix.now post) = c.thread_place_of.ensures ∙ ap thread_place (c.as_slice-2.ensures ∙ key_is) in
    let index_is : c.in_ok-index.index ≡ unwrap_or (old (index_name (n / 100))) [] = c.in_ok-index.ensures.value told in
    let file = subst (λ (p : ℕ). IsThreadFile p (old (thread_name p)) threads) place_is (subst (λ (d : Dir). IsThreadFile c.thread_place_of.result (d (thread_name c.thread_place_of.result)) threads) second (c.in_ok-threads.ensures.value told)) in
    let made : Post = record { sender = c.bytes.result.now; moment = c.args.moment; subject = c.as_slice-3.result.now; bytes = c.args.bytes.now } in
    let made_is : made ≡ post = ap₂ (λ (a s : Text). record { sender = a; moment = c.args.moment; subject = s; bytes = c.args.bytes.now }) c.bytes.ensures.value (c.as_slice-3.ensures ∙ subject_is) in (
      c.args.count,
      c.requires.count told,
      omega (arith, c.requires.room),
      refl,
      (
        threads,
        file,
        c.in_ok-txn.ensures ∙ ap₂ (λ (k : Text) (p : Post). key_puts k n p c.in_ok-index.index c.as_slice-5.result.now) (c.as_slice-4.ensures ∙ key_is) made_is
            ∙ ap₂ (λ (i : Text) (ts : List Thread). key_puts (key_of c.args.prefix.now post) n post i ts) index_is c.as_slice-5.ensures,
      ),
      c.in_ok-index.ensures.before told,
    )

pub returns-clause-value : goal.returns-clause-value
returns-clause-value g c told dir posts is alike =
    append_leads (g.F.Files.map c.args.files.now) dir c.args.prefix.now c.args.sender.now c.args.moment c.args.bytes.now posts (At (c.args.count + 1) c.in_ok-txn.txn) c.bytes.ensures.address c.requires.moment c.requires.size is alike
    (returns-clause-read g c told)

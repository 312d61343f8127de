use Rattle.std.proofs.Common.{◌≡◌, ◌≤◌, ◌+◌, ◌-◌, ◌/◌, ◌∙◌, min, max, IsErrOf, List, sym, subst, ap, arith, rules}
use Rattle.ml_base.specs.Dir.{Dir}
use Rattle.ml_base.specs.PartErrors.{OnDamaged}
use Rattle.ml_base.specs.declared.part_error.PartError.TheVariants.{Fault}
use Rattle.ml_base.proofs.DamagedNames.{on_damaged}
use Rattle.ml_base.proofs.ReadingLemmas.{kept_then, kept_read, reading_then}
use Rattle.ml_filing.specs.Answers.{AreIndexes, IsPostName, has_group}
use Rattle.ml_filing.specs.declared.lookups.Index.{Index}
use Rattle.ml_mbox_questions.specs.Mailboxes.{IsBadForMailbox, IsMailboxName}
use Rattle.ml_mbox_questions.specs.Steps.{AddsMail, IsBadIndexed}
use Rattle.ml_mbox_questions.proofs.Turns.{bad_one, bad_post, group_few, name_of_one, one_more}
use Rattle.ml_mbox_questions.proofs.mailbox.mailbox.Goals as goal

pub read_alone-requires : goal.read_alone-requires
read_alone-requires g c =
    let few = c.in_ok-count.ensures.few in
    let l : c.min-end.result ≡ min c.args.last c.in_ok-count.count = search rules in
    let test = c.loop-number-test.true in
    group_few c.loop-number.number (omega (arith, l, test, few))

pub push_post-requires-clause-known : goal.push_post-requires-clause-known
push_post-requires-clause-known g c told =
    let first = g.met.F.Files.kept_map c.args.files.now c.loop-number.files told c.loop-number.invariant.read.kept in
    let same = g.met.F.Files.kept_map c.loop-number.files c.read_alone.new.files told c.read_alone.ensures.reads.kept in
    let was = subst (λ (d : Dir). AreIndexes d c.loop-number.indexes) (sym first) (c.loop-number.invariant.known told) in
    let known = c.read_alone.ensures.known told was in
    subst (λ (is : List Index). AreIndexes (g.F.Files.map c.read_alone.new.files) is) (sym c.as_slice.ensures) (subst (λ (d : Dir). AreIndexes d c.read_alone.new.indexes) (sym same) known)

pub push_post-requires-clause-there : goal.push_post-requires-clause-there
push_post-requires-clause-there g c = ap (has_group (c.loop-number.number / 100)) c.as_slice.ensures ∙ c.in_ok-read_alone.ensures.there

pub returns-in_err-push_post-clause-names : goal.returns-in_err-push_post-clause-names
returns-in_err-push_post-clause-names g c =
    let a = c.args.first in
    let b = c.args.last in
    let n = c.loop-number.number in
    let count = c.in_ok-count.count in
    let f : c.max-from.result ≡ max a 1 = search rules in
    let l : c.min-end.result ≡ min b count = search rules in
    let up = c.loop-number.auto.number in
    let test = c.loop-number-test.true in
    let low : 1 ≤ n = omega (arith, f, up) in
    let from : a ≤ n = omega (arith, f, up) in
    let to : n ≤ b = omega (arith, l, test) in
    let high : n ≤ count = omega (arith, l, test) in
    let e = c.in_err-push_post.field-0.0 in
    let failed = c.in_err-push_post.ensures.names in
    record {
      named = let own : OnDamaged e (IsMailboxName a b) = on_damaged e (IsPostName n) (IsMailboxName a b) (λ name is. name_of_one a b n name from to low is) failed.named in search rules;
      damaged = λ told.
          let dir = g.F.Files.map c.args.files.now in
          let first = g.met.F.Files.kept_map c.args.files.now c.loop-number.files told c.loop-number.invariant.read.kept in
          let same = g.met.F.Files.kept_map c.loop-number.files c.read_alone.new.files told c.read_alone.ensures.reads.kept ∙ first in
          let counted = c.in_ok-count.ensures.read told in
          let bad : OnDamaged e (IsBadForMailbox dir a b) =
          on_damaged e (IsBadIndexed dir n) (IsBadForMailbox dir a b) (λ name is. bad_one dir a b n count name from to counted low high (bad_post dir n count counted low high name is))
          (subst (λ (d : Dir). OnDamaged e (IsBadIndexed d n)) same (failed.damaged told)) in
          search rules;
    }

pub returns-in_err-push_post-clause-reads : goal.returns-in_err-push_post-clause-reads
returns-in_err-push_post-clause-reads g c =
    let before =
    kept_then g.F.Files g.met.F.Files.kept_then c.args.files.now c.loop-number.files c.read_alone.new.files c.loop-number.invariant.read
    (kept_read g.F.Files c.loop-number.files c.read_alone.new.files c.read_alone.result c.read_alone.ensures.reads) in
    let read = reading_then g.F.Files g.met.F.Files.kept_then c.args.files.now c.read_alone.new.files c.push_post.new.files c.push_post.result before c.push_post.ensures.reads in
    record { kept = read.kept; later = read.later; cause = λ bad. let failed : IsErrOf c.push_post.result Fault = search rules in read.cause failed }

pub loop-number-preserved : goal.loop-number-preserved
loop-number-preserved g c =
    let a = c.args.first in
    let n = c.loop-number.number in
    let count = c.in_ok-count.count in
    let f : c.max-from.result ≡ max a 1 = search rules in
    let l : c.min-end.result ≡ min c.args.last count = search rules in
    let up = c.loop-number.auto.number in
    let test = c.loop-number-test.true in
    let low : 1 ≤ n = omega (arith, f, up) in
    let high : n ≤ count = omega (arith, l, test) in
    let dir = g.F.Files.map c.args.files.now in
    record {
      read = kept_then g.F.Files g.met.F.Files.kept_then c.args.files.now c.read_alone.new.files c.push_post.new.files
          (kept_then g.F.Files g.met.F.Files.kept_then c.args.files.now c.loop-number.files c.read_alone.new.files c.loop-number.invariant.read
          (kept_read g.F.Files c.loop-number.files c.read_alone.new.files c.read_alone.result c.read_alone.ensures.reads))
          (kept_read g.F.Files c.read_alone.new.files c.push_post.new.files c.push_post.result c.push_post.ensures.reads);
      past = omega (arith, test);
      known = λ told.
          let first = g.met.F.Files.kept_map c.args.files.now c.loop-number.files told c.loop-number.invariant.read.kept in
          let was = subst (λ (d : Dir). AreIndexes d c.loop-number.indexes) (sym first) (c.loop-number.invariant.known told) in
          subst (λ (d : Dir). AreIndexes d c.read_alone.new.indexes) first (c.read_alone.ensures.known told was);
      value = λ told.
          let first = g.met.F.Files.kept_map c.args.files.now c.loop-number.files told c.loop-number.invariant.read.kept in
          let same = g.met.F.Files.kept_map c.loop-number.files c.read_alone.new.files told c.read_alone.ensures.reads.kept ∙ first in
          let adds = subst (λ (d : Dir). AddsMail d n c.loop-number.out c.push_post.new.out) same (c.in_ok-push_post.ensures.value told) in
          one_more dir n count (c.in_ok-count.ensures.read told) low high c.max-from.result (n - c.max-from.result) (n + 1 - c.max-from.result) c.loop-number.out c.push_post.new.out (omega (arith, up)) (omega (arith, up))
          (c.loop-number.invariant.value told) adds;
    }

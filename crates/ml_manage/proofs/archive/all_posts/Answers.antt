use Rattle.std.proofs.Common.{subst, refl, arith, get_or, rules}
use Rattle.ml_base.specs.Dir.{Dir}
use Rattle.ml_base.specs.PartErrors.{OnDamaged}
use Rattle.ml_base.proofs.DamagedNames.{on_damaged}
use Rattle.ml_base.proofs.ReadingLemmas.{kept_then, kept_read}
use Rattle.ml_filing.specs.Answers.{IsPostName}
use Rattle.ml_filing.specs.Archive.{number_name}
use Rattle.ml_filing.specs.Reads.{IsOfRow}
use Rattle.ml_manage.specs.Reads.{IsDamagedAmong, IsDamagedPost, is_seen_of_posts}
use Rattle.ml_manage.proofs.Apart.{kept_alike}
use Rattle.ml_manage.specs.Texts.{post_text}
use Rattle.ml_manage.proofs.Posts.{among_at, one_of_row}
use Rattle.ml_manage.proofs.archive.all_posts.Goals as goal
use Rattle.ml_rows.proofs.RowLaws.{one_more}

pub loop-number-preserved : goal.loop-number-preserved
loop-number-preserved g c =
    let before = c.loop-number.invariant in
    record {
      read = kept_then g.F.Files g.met.F.Files.kept_then c.args.files.now c.loop-number.files c.add_one.new.files before.read (kept_read g.F.Files c.loop-number.files c.add_one.new.files c.add_one.result c.add_one.ensures.reads);
      text = λ told dir p alike is conf.
          let ns = c.args.numbers.now in
          let i = c.loop-number.number-index in
          let n = get_or ns i 0 in
          let same = g.met.F.Files.kept_map c.args.files.now c.loop-number.files told before.read.kept in
          let own = kept_alike (is_seen_of_posts n n) (g.F.Files.map c.args.files.now) (g.F.Files.map c.loop-number.files) dir same (alike n (among_at ns i (omega arith))) in
          one_more (post_text p) ns i _ c.loop-number.out c.add_one.new.out (omega arith) refl (before.text told dir p alike is conf) (c.in_ok-add_one.ensures.apart told dir p own is conf);
    }

pub returns-in_err-add_one-clause-names : goal.returns-in_err-add_one-clause-names
returns-in_err-add_one-clause-names g c =
    let ns = c.args.numbers.now in
    let i = c.loop-number.number-index in
    let e = c.in_err-add_one.field-0.0 in
    let failed = c.in_err-add_one.ensures.names in
    record {
      named = let own : OnDamaged e (IsOfRow number_name ns) = on_damaged e (IsPostName (get_or ns i 0)) (IsOfRow number_name ns) (λ name is. one_of_row ns i name (omega arith) is) failed.named in search rules;
      damaged = λ told.
          let same = g.met.F.Files.kept_map c.args.files.now c.loop-number.files told c.loop-number.invariant.read.kept in
          let dir = g.F.Files.map c.args.files.now in
          let n = get_or ns i 0 in
          let bad : OnDamaged e (IsDamagedAmong dir ns) =
          on_damaged e (IsDamagedPost dir n) (IsDamagedAmong dir ns) (λ name is. record { damaged = is.damaged; bad = (n, among_at ns i (omega arith), is.bad) }) (subst (λ (d : Dir). OnDamaged e (IsDamagedPost d n)) same (failed.damaged told)) in
          search rules;
    }

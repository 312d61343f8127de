use Rattle.std.proofs.Common.{◌≡◌, inl, inr, ◌∙◌, ℕ, true, List, IfErr, sym, ap, subst, rules}
use Rattle.std.specs.List.{AllByRecursion}
use Rattle.std.specs.Prelude.{unwrap_or}
use Rattle.ml_base.specs.Dir.{Dir}
use Rattle.ml_base.specs.PartErrors.{OnDamaged}
use Rattle.ml_base.proofs.DamagedNames.{err_damaged}
use Rattle.ml_filing.specs.Answers.{IsBadForRange, IsRangeByFiles}
use Rattle.ml_filing.specs.Archive.{ArePosts, number_name}
use Rattle.ml_filing.specs.Posts.{cut, in_range}
use Rattle.ml_filing.specs.Reads.{IsOfRange, IsOfRow, IsWithin}
use Rattle.ml_acts.specs.Asked.{IsBadAmong, IsDamagedOf, Range}
use Rattle.ml_acts.specs.Damaged.{range}
use Rattle.ml_acts.proofs.Damages.{named_of, ok_then}
use Rattle.ml_manage.specs.Reads.{IsDamagedAmong, is_of_posts, AlikeEach}
use Rattle.ml_manage.specs.Texts.{posts_text}
use Rattle.ml_manage.proofs.Posts.{posts_are, range_ones, range_read, row_read}
use Rattle.ml_manage.proofs.Finding.{always_ok}
use Rattle.ml_manage.proofs.PostsApart.{each_of_range, range_apart}
use Rattle.ml_manage.proofs.archive.get_text.Goals as goal

pub returns-in_err-numbers-clause-names : goal.returns-in_err-numbers-clause-names
returns-in_err-numbers-clause-names g c =
    let dir = g.F.Files.map c.args.files.now in
    let a = c.args.from in
    let b = c.unwrap_or.result in
    let last : b ≡ unwrap_or c.args.to a = search rules in
    let names = named_of g.F.Files (λ name. is_of_posts a (unwrap_or c.args.to a) name ≡ true) _ (ArePosts dir) (IsOfRange a b) (IsBadForRange dir a b) (IsDamagedOf dir (Range a (unwrap_or c.args.to a)))
    (λ name e. subst (λ (n : ℕ). is_of_posts a n name ≡ true) last (range_read a b name e))
    (λ name bad no. record { damaged = range a b bad no; own = λ of. inl (subst (λ (n : ℕ). IsBadForRange dir a n name) last bad) }) c.in_err-numbers.ensures.sound c.in_err-numbers.ensures.names in
    search rules

pub returns-clause-names : goal.returns-clause-names
returns-clause-names g c =
    let dir = g.F.Files.map c.args.files.now in
    let a = c.args.from in
    let b = c.unwrap_or.result in
    let ns = c.as_slice.result.now in
    let numbers = c.in_ok-numbers.numbers in
    let r = c.posts_text.result in
    let last : b ≡ unwrap_or c.args.to a = search rules in
    let asked = Range a (unwrap_or c.args.to a) in
    record {
      named = err_damaged r (IsOfRow number_name ns) (λ name. is_of_posts a (unwrap_or c.args.to a) name ≡ true)
          (λ name own. subst (λ (n : ℕ). is_of_posts a n name ≡ true) last (row_read a b ns name (subst (λ (t : List ℕ). AllByRecursion (IsWithin a b) t) (sym c.as_slice.ensures) c.in_ok-numbers.ensures.within) own))
          c.posts_text.ensures.names.named;
      damaged = λ told.
          let same = g.met.F.Files.kept_map c.args.files.now c.range.new.files told c.range.ensures.reads.kept in
          let read : IsRangeByFiles dir a (unwrap_or c.args.to a) numbers = subst (λ (n : ℕ). IsRangeByFiles dir a n numbers) last (c.in_ok-numbers.ensures.read told) in
          err_damaged r (IsDamagedAmong dir ns) (IsDamagedOf dir asked)
          (λ name bad. record { damaged = bad.damaged; own = λ of. inr (numbers, read, subst (λ (t : List ℕ). IsBadAmong dir t name) c.as_slice.ensures bad.bad) })
          (subst (λ (d : Dir). IfErr r (λ e. OnDamaged e (IsDamagedAmong d ns))) same (c.posts_text.ensures.names.damaged told));
    }

pub returns-clause-found : goal.returns-clause-found
returns-clause-found g c told =
    let last : c.unwrap_or.result ≡ unwrap_or c.args.to c.args.from = search rules in
    always_ok c.posts_text.result (c.in_ok-numbers.numbers, subst (λ (to : ℕ). IsRangeByFiles (g.F.Files.map c.args.files.now) c.args.from to c.in_ok-numbers.numbers) last (c.in_ok-numbers.ensures.read told))

pub returns-clause-apart : goal.returns-clause-apart
returns-clause-apart g c told =
    let old = g.F.Files.map c.args.files.now in
    let a = c.args.from in
    let b = unwrap_or c.args.to a in
    let row = c.in_ok-numbers.numbers in
    let last : c.unwrap_or.result ≡ b = search rules in
    let within = subst (λ (n : ℕ). AllByRecursion (IsWithin a n) row) last c.in_ok-numbers.ensures.within in
    let read = subst (λ (n : ℕ). IsRangeByFiles old a n row) last (c.in_ok-numbers.ensures.read told) in
    let same = g.met.F.Files.kept_map c.args.files.now c.range.new.files told c.range.ensures.reads.kept in
    ok_then c.posts_text.result
    (λ text value dir p alike is conf.
    let each = subst (λ (ns : List ℕ). AlikeEach ns (g.F.Files.map c.range.new.files) dir) (sym c.as_slice.ensures) (subst (λ (d : Dir). AlikeEach row d dir) (sym same) (each_of_range a b row old dir within alike)) in
    value dir p each is conf ∙ ap (posts_text p) (c.as_slice.ensures ∙ range_apart old dir a b p.posts row alike (is.archive).filed read) ∙ posts_are p (cut (in_range a b p.posts)) (range_ones p.posts a b))
    (c.posts_text.ensures.apart told)

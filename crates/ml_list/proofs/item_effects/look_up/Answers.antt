use Rattle.std.proofs.Common.{◌≡◌, ◌∙◌, ◌*◌, ◌/◌, ◌%◌, ◌<◌, ℕ, Option, IfErr, IfSome, true, refl, sym, ap, subst, arith, rules}
use Rattle.std.proofs.lemmas.Nat.{div_below}
use Rattle.ml_base.specs.Dir.{Dir}
use Rattle.ml_plain.specs.declared.Reply.{Reply}
use Rattle.ml_plain.specs.KeptFiles.{IsFloorFile, IsRepliesFile, floor_name, replies_name}
use Rattle.ml_list.specs.Again.{HoldsReply, IsAgain}
use Rattle.ml_list.specs.Lookups.{IsInRange}
use Rattle.ml_list.specs.Applying.{Repeats}
use Rattle.ml_list.specs.Damage.{IsDamagedInList, IsNoReplies, is_looked_up, replies, IsNoFloor}
use Rattle.ml_list.proofs.Again.{found_below, found_slot}
use Rattle.ml_list.proofs.Damages.{one_named}
use Rattle.ml_list.proofs.Named.{looks_up_replies}
use Rattle.ml_base.specs.PartErrors.{OnDamaged}
use Rattle.ml_base.specs.ReadFiles.{NamesDamaged}
use Rattle.ml_list.proofs.Looked.{floor_there, floor_whole, looked_up_there, replies_there, replies_whole}
use Rattle.ml_list.proofs.LookedUp.{is_new_weaker}
use Rattle.ml_list.proofs.Steps.{below_floor, above_floor}
use Rattle.ml_list.proofs.item_effects.look_up.Goals as goal

pub returns-then-number-floor-clause-value : goal.returns-then-number-floor-clause-value
returns-then-number-floor-clause-value g c told dir q alike is =
    let old = g.F.Files.map c.args.files.now in
    below_floor dir q c.args.number c.in_ok-floor.floor c.plain.result is (floor_there old dir c.args.number (looked_up_there old dir c.args.number c.if-number-eq0.false alike) c.in_ok-floor.floor (c.in_ok-floor.ensures.value told)) c.if-number-eq0.false c.if-number-floor.true c.plain.ensures

pub returns-clause-value : goal.returns-clause-value
returns-clause-value g c told dir q alike is =
    let old = g.F.Files.map c.args.files.now in
    let n = c.args.number in
    let most = c.requires in
    let there = looked_up_there old dir n c.if-number-eq0.false alike in
    let same = g.met.F.Files.kept_map c.args.files.now c.floor.new.files told c.floor.ensures.reads.kept in
    let block : n / 512 < 1_953_125_000 = div_below n 512 1_953_125_000 (omega arith) (omega (arith, most)) in
    let found = c.in_ok-found.ensures.value told q.kept (subst (λ (d : Dir). IsRepliesFile (512 * (n / 512)) (d (replies_name (n / 512))) q.kept) (sym same) (replies_there old dir n there q is block)) in
    subst (λ (o : Option Reply). Repeats q n o) (sym c.looked_up.ensures.answer)
    (above_floor dir q n c.in_ok-floor.floor c.in_ok-found.found.reply is (floor_there old dir n there c.in_ok-floor.floor (c.in_ok-floor.ensures.value told)) c.if-number-eq0.false c.if-number-floor.false found)

pub returns-in_err-floor-clause-sound : goal.returns-in_err-floor-clause-sound
returns-in_err-floor-clause-sound g c told dir q alike is =
    let old = g.F.Files.map c.args.files.now in
    let r = c.from_residual.result in
    let names : NamesDamaged g.F.Files (λ name. name ≡ floor_name) (λ _. IsNoFloor old) r = search rules in
    floor_whole old dir c.args.number (looked_up_there old dir c.args.number c.if-number-eq0.false alike) q r is (names.damaged told)

pub returns-in_err-found-clause-sound : goal.returns-in_err-found-clause-sound
returns-in_err-found-clause-sound g c told dir q alike is =
    let old = g.F.Files.map c.args.files.now in
    let n = c.args.number in
    let most = c.requires in
    let same = g.met.F.Files.kept_map c.args.files.now c.floor.new.files told c.floor.ensures.reads.kept in
    let r = c.from_residual-in_err-found.result in
    let names : NamesDamaged g.F.Files (λ name. name ≡ replies_name (n / 512)) (λ _. IsNoReplies (g.F.Files.map c.floor.new.files) (n / 512)) r = search rules in
    replies_whole old dir n (looked_up_there old dir n c.if-number-eq0.false alike) q r is (div_below n 512 1_953_125_000 (omega arith) (omega (arith, most)))
    (subst (λ (d : Dir). IfErr r (λ e. OnDamaged e (λ _. IsNoReplies d (n / 512)))) same (names.damaged told))

pub returns-clause-known : goal.returns-clause-known
returns-clause-known g c told =
    let dir = g.F.Files.map c.args.files.now in
    let same = g.met.F.Files.kept_map c.args.files.now c.floor.new.files told c.floor.ensures.reads.kept in
    is_new_weaker c.looked_up.result _ _ (λ known are. record {
      floor = subst (λ (o : Option ℕ). IfSome o (IsFloorFile (dir floor_name))) (sym are.0) (c.in_ok-floor.ensures.value told);
      file = λ some. are.1 ∙ c.in_ok-found.ensures.file told ∙ ap (λ (d : Dir). d (replies_name (c.args.number / 512))) same;
    }) c.looked_up.ensures.known

pub returns-clause-range : goal.returns-clause-range
returns-clause-range g c =
    is_new_weaker c.looked_up.result _ _ (λ known are. subst (λ (o : Option ℕ). IsInRange o) (sym are.0) (c.in_ok-floor.ensures.least, c.in_ok-floor.ensures.most)) c.looked_up.ensures.known

pub returns-in_err-found-clause-names : goal.returns-in_err-found-clause-names
returns-in_err-found-clause-names g c =
    let dir = g.F.Files.map c.args.files.now in
    let n = c.args.number in
    let most = c.requires in
    let block = div_below n 512 1_953_125_000 (omega arith) (omega (arith, most)) in
    let names = one_named g.F.Files (λ name. is_looked_up n name ≡ true) _ (replies_name (n / 512)) (IsNoReplies (g.F.Files.map c.floor.new.files) (n / 512)) (IsDamagedInList dir) (looks_up_replies n c.if-number-eq0.false)
    (λ told none. replies (n / 512) block refl (subst (λ (d : Dir). IsNoReplies d (n / 512)) (g.met.F.Files.kept_map c.args.files.now c.floor.new.files told c.floor.ensures.reads.kept) none)) c.in_err-found.ensures.names in
    search rules

pub returns-then-number-eq0-clause-looked : goal.returns-then-number-eq0-clause-looked
returns-then-number-eq0-clause-looked g c told some = absurd (some c.if-number-eq0.true)

pub returns-then-number-floor-clause-looked : goal.returns-then-number-floor-clause-looked
returns-then-number-floor-clause-looked g c told some =
    found_below (g.F.Files.map c.args.files.now) c.args.number c.in_ok-floor.floor c.plain.result (c.in_ok-floor.ensures.value told) c.if-number-floor.true c.plain.ensures

pub returns-clause-looked : goal.returns-clause-looked
returns-clause-looked g c told some =
    let dir = g.F.Files.map c.args.files.now in
    let n = c.args.number in
    let same = g.met.F.Files.kept_map c.args.files.now c.floor.new.files told c.floor.ensures.reads.kept in
    let spelled = subst (λ (d : Dir). HoldsReply (d (replies_name (n / 512))) (n % 512) c.in_ok-found.found.reply) same (c.in_ok-found.ensures.spelled told) in
    subst (λ (o : Option Reply). IsAgain dir n o) (sym c.looked_up.ensures.answer) (found_slot dir n c.in_ok-floor.floor c.in_ok-found.found.reply (c.in_ok-floor.ensures.value told) c.if-number-floor.false some c.in_ok-found.ensures.fits spelled)

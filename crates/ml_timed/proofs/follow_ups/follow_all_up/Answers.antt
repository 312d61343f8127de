use Rattle.std.proofs.Common.{◌≡◌, ◌≤◌, ◌-◌, ◌+◌, true, List, Option, length, refl, sym, ap, ap₂, ◌∙◌, subst, arith, rules}
use Rattle.std.proofs.lemmas.Bool.{eqb-true}
use Rattle.ml_base.specs.Bytes.{Text}
use Rattle.ml_base.specs.Dir.{Dir, with_puts}
use Rattle.ml_base.specs.Drawn.{IsCounter}
use Rattle.ml_base.specs.Layers.{files_below, puts_over}
use Rattle.ml_base.specs.declared.names.Name.{Name}
use Rattle.ml_base.specs.declared.names.Set.TheVariants as sets
use Rattle.ml_base.specs.declared.puts.Put.{Put}
use Rattle.ml_bounce.specs.Answers.{IsBadFile}
use Rattle.ml_bounce.specs.Files.{IsLedger}
use Rattle.ml_bounce.specs.declared.actions.Action.{Action}
use Rattle.ml_config.specs.KeyFile.{IsKeyFile, key_name}
use Rattle.ml_plain.specs.Directory.{IsList}
use Rattle.ml_plain.specs.Plain.{Plain}
use Rattle.ml_queue.specs.Answers.{ids_name}
use Rattle.ml_acts.specs.Damaged.{IsNoKeys}
use Rattle.ml_acts.specs.Damaged as damage
use Rattle.ml_acts.proofs.Apart.{alike_fewer}
use Rattle.ml_acts.proofs.Damages.{ok_then}
use Rattle.ml_timed.specs.Ahead.{HasIdsFor, IsAhead}
use Rattle.ml_timed.specs.Reads.{is_followed_by, is_of_following}
use Rattle.ml_timed.proofs.Apart.{alike_kept, alike_laid, ledger_over}
use Rattle.ml_timed.proofs.Amid.{ids_left, ids_more, none_left}
use Rattle.ml_timed.proofs.Named.{followed_of, ledger_read}
use Rattle.ml_timed.proofs.Whole.{ahead_digest, ahead_list, digest_due, few_due, halfway, ids_due, in_none, in_two, list_due}
use Rattle.ml_timed.proofs.Parts.{has_laid, laid_none, laid_self, laid_then, only_read, part_after, part_err, part_ok, part_read, read_then}
use Rattle.ml_timed.proofs.follow_ups.follow_all_up.Goals as goal

pub returns-then-is_empty-2-clause-apart : goal.returns-then-is_empty-2-clause-apart
returns-then-is_empty-2-clause-apart g c tells dir p alike is config =
    let below = g.F.Files.map (files_below c.args.files.now) in
    let puts = puts_over c.args.files.now in
    let left : c.saturating_sub-left.result ≡ 1000 - length c.in_ok-list.list = omega (arith, c.saturating_sub-left.ensures, ap length c.as_slice.ensures) in
    let no_list = sym c.as_slice-2.ensures ∙ none_left c.as_slice-2.result.now (omega (arith, eqb-true (length c.as_slice-2.result.now) 0 (sym c.is_empty.ensures ∙ c.if-is_empty.true))) in
    let no_digest = sym c.as_slice-then-is_empty.ensures ∙ none_left c.as_slice-then-is_empty.result.now (omega (arith, eqb-true (length c.as_slice-then-is_empty.result.now) 0 (sym c.is_empty-then-is_empty.ensures ∙ c.if-is_empty-2.true))) in
    let is_digest : IsLedger (with_puts (g.F.Files.map (files_below c.due.new.files)) (puts_over c.due.new.files)) 16 p.digest_ledger = subst (λ (d : Dir). IsLedger d 16 p.digest_ledger) (sym (ap₂ with_puts (g.met.F.Files.kept_map (files_below c.args.files.now) (files_below c.due.new.files) tells c.due.ensures.reads.kept.0) (c.due.ensures.reads.kept.1))) (ledger_over below dir puts sets.Digest p.digest_ledger refl alike is.digest_ledger) in
    let none = in_none c.args.now.seconds 1000 c.saturating_sub-left.result p c.in_ok-list.list c.in_ok-digest.digest (c.in_ok-list.ensures.value tells p.list_ledger (ledger_over below dir puts sets.List p.list_ledger refl alike is.list_ledger)) left (c.in_ok-digest.ensures.value tells p.digest_ledger is_digest)
    no_list no_digest in
    subst (λ (q : Plain). IsList (with_puts dir (puts_over c.due-2.new.files)) q) (sym none) (subst (λ (puts : List Put). IsList (with_puts dir puts) p) (sym (c.due-2.ensures.reads.kept.1 ∙ c.due.ensures.reads.kept.1)) is)

pub follow_each-requires-clause-room : goal.follow_each-requires-clause-room
follow_each-requires-clause-room g c tells =
    let n = length c.as_slice-3.result.now in
    let due = c.in_ok-list.ensures.read tells in
    let few : n ≤ 1000 = omega (arith, ap length c.as_slice-3.ensures, few_due c.args.now.seconds 1000 due.0 c.in_ok-list.list due.2) in
    subst (λ (d : Dir). HasIdsFor d n) (sym (ap₂ with_puts (g.met.F.Files.kept_map (files_below c.due-2.new.files) (files_below c.key.new.files) tells c.key.ensures.reads.kept.0 ∙ g.met.F.Files.kept_map (files_below c.due.new.files) (files_below c.due-2.new.files) tells c.due-2.ensures.reads.kept.0 ∙ g.met.F.Files.kept_map (files_below c.args.files.now) (files_below c.due.new.files) tells c.due.ensures.reads.kept.0) (c.key.ensures.reads.kept.1 ∙ c.due-2.ensures.reads.kept.1 ∙ c.due.ensures.reads.kept.1))) (ids_due (with_puts (g.F.Files.map (files_below c.args.files.now)) (puts_over c.args.files.now)) n (c.requires.room tells) few)

pub follow_each-requires-2-clause-room : goal.follow_each-requires-2-clause-room
follow_each-requires-2-clause-room g c tells =
    let a = length c.as_slice-3.result.now in
    let b = length c.as_slice-4.result.now in
    let list = c.in_ok-list.ensures.read tells in
    let digest = c.in_ok-digest.ensures.read tells in
    let left : c.saturating_sub-left.result ≡ 1000 - length c.in_ok-list.list = omega (arith, c.saturating_sub-left.ensures, ap length c.as_slice.ensures) in
    let few : a + b ≤ 1000 = omega (arith, left, ap length c.as_slice-3.ensures, ap length c.as_slice-4.ensures, few_due c.args.now.seconds 1000 list.0 c.in_ok-list.list list.2, few_due c.args.now.seconds c.saturating_sub-left.result digest.0 c.in_ok-digest.digest digest.2) in
    subst (λ (d : Dir). HasIdsFor (with_puts d (puts_over c.follow_each.new.files)) b) (sym (g.met.F.Files.kept_map (files_below c.key.new.files) (files_below c.follow_each.new.files) tells c.follow_each.ensures.part.reads.kept))
    (c.in_ok-follow_each.ensures.drawn tells b (subst (λ (d : Dir). HasIdsFor d (a + b)) (sym (ap₂ with_puts (g.met.F.Files.kept_map (files_below c.due-2.new.files) (files_below c.key.new.files) tells c.key.ensures.reads.kept.0 ∙ g.met.F.Files.kept_map (files_below c.due.new.files) (files_below c.due-2.new.files) tells c.due-2.ensures.reads.kept.0 ∙ g.met.F.Files.kept_map (files_below c.args.files.now) (files_below c.due.new.files) tells c.due.ensures.reads.kept.0) (c.key.ensures.reads.kept.1 ∙ c.due-2.ensures.reads.kept.1 ∙ c.due.ensures.reads.kept.1))) (ids_due (with_puts (g.F.Files.map (files_below c.args.files.now)) (puts_over c.args.files.now)) (a + b) (c.requires.room tells) few)))

pub returns-clause-apart : goal.returns-clause-apart
returns-clause-apart g c tells =
    ok_then c.follow_each-2.result (λ done value dir p alike is config.
    let below = g.F.Files.map (files_below c.args.files.now) in
    let puts = puts_over c.args.files.now in
    let first = g.met.F.Files.kept_map (files_below c.args.files.now) (files_below c.due.new.files) tells c.due.ensures.reads.kept.0 in
    let second = g.met.F.Files.kept_map (files_below c.due.new.files) (files_below c.due-2.new.files) tells c.due-2.ensures.reads.kept.0 ∙ first in
    let third = g.met.F.Files.kept_map (files_below c.due-2.new.files) (files_below c.key.new.files) tells c.key.ensures.reads.kept.0 ∙ second in
    let fourth = g.met.F.Files.kept_map (files_below c.key.new.files) (files_below c.follow_each.new.files) tells c.follow_each.ensures.part.reads.kept ∙ third in
    let left : c.saturating_sub-left.result ≡ 1000 - length c.as_slice-3.result.now = omega (arith, c.saturating_sub-left.ensures, ap length c.as_slice.ensures, ap length c.as_slice-3.ensures) in
    let list_is = c.as_slice-3.ensures ∙ c.in_ok-list.ensures.value tells p.list_ledger (ledger_over below dir puts sets.List p.list_ledger refl alike is.list_ledger) in
    let is_digest : IsLedger (with_puts (g.F.Files.map (files_below c.due.new.files)) (puts_over c.due.new.files)) 16 p.digest_ledger = subst (λ (d : Dir). IsLedger d 16 p.digest_ledger) (sym (ap₂ with_puts first (c.due.ensures.reads.kept.1))) (ledger_over below dir puts sets.Digest p.digest_ledger refl alike is.digest_ledger) in
    let digest_is = c.in_ok-digest.ensures.value tells p.digest_ledger is_digest in
    let is_keys : IsKeyFile ((with_puts (g.F.Files.map (files_below c.due-2.new.files)) (puts_over c.due-2.new.files)) key_name) p.keys = subst (λ (d : Dir). IsKeyFile (d key_name) p.keys) (sym (ap₂ with_puts second (c.due-2.ensures.reads.kept.1 ∙ c.due.ensures.reads.kept.1)))
    (subst (λ (f : Option Text). IsKeyFile f p.keys) (alike_laid is_of_following below dir puts alike key_name refl) is.keys) in
    let keys_are = sym (c.in_ok-keys.ensures.read tells p.keys is_keys) in
    let start = subst (λ (t : List Put). IsList (with_puts dir t) p) (sym (c.key.ensures.reads.kept.1 ∙ c.due-2.ensures.reads.kept.1 ∙ c.due.ensures.reads.kept.1)) is in
    let ahead = ahead_list c.args.now.seconds 1000 c.saturating_sub-left.result p c.as_slice-3.result.now c.in_ok-digest.digest list_is left digest_is (with_puts dir (puts_over c.key.new.files)) c.args.config.now c.in_ok-keys.keys start config keys_are in
    let due = list_due c.args.now.seconds 1000 c.saturating_sub-left.result p c.as_slice-3.result.now c.in_ok-digest.digest list_is left digest_is in
    let list_alike = alike_kept (is_followed_by sets.List) below (g.F.Files.map (files_below c.key.new.files)) dir third (alike_fewer (is_followed_by sets.List) is_of_following below dir (followed_of sets.List refl) alike) in
    let then = c.in_ok-follow_each.ensures.apart tells dir p due list_alike ahead in
    let next = ahead_digest c.args.now.seconds 1000 c.saturating_sub-left.result p c.as_slice-3.result.now c.in_ok-digest.digest list_is left digest_is (with_puts dir (puts_over c.key.new.files)) (with_puts dir (puts_over c.follow_each.new.files)) c.args.config.now c.in_ok-keys.keys start then config keys_are in
    let next_due = digest_due c.args.now.seconds 1000 c.saturating_sub-left.result p c.as_slice-3.result.now c.in_ok-digest.digest list_is left digest_is in
    let middle = halfway c.args.now.seconds 1000 c.saturating_sub-left.result p c.as_slice-3.result.now c.in_ok-digest.digest list_is left digest_is in
    let here = subst (λ (actions : List Action). IsAhead (with_puts dir (puts_over c.follow_each.new.files)) c.args.config.now c.in_ok-keys.keys sets.Digest actions middle next_due) (sym c.as_slice-4.ensures) next in
    let whole = in_two c.args.now.seconds 1000 c.saturating_sub-left.result p c.as_slice-3.result.now c.in_ok-digest.digest list_is left digest_is in
    let digest_alike = alike_kept (is_followed_by sets.Digest) below (g.F.Files.map (files_below c.follow_each.new.files)) dir fourth (alike_fewer (is_followed_by sets.Digest) is_of_following below dir (followed_of sets.Digest refl) alike) in
    subst (λ (q : Plain). IsList (with_puts dir (puts_over c.follow_each-2.new.files)) q) (sym whole) (value dir middle next_due digest_alike here))
    (c.follow_each-2.ensures.apart tells)

pub returns-then-is_empty-2-clause-room : goal.returns-then-is_empty-2-clause-room
returns-then-is_empty-2-clause-room g c tells low next counted =
    let up = c.requires.room tells low next (subst (λ (puts : List Put). IsCounter (with_puts (g.F.Files.map (files_below c.args.files.now)) puts ids_name) low next) (c.due-2.ensures.reads.kept.1 ∙ c.due.ensures.reads.kept.1) counted) in
    omega (arith, up)

pub returns-clause-room : goal.returns-clause-room
returns-clause-room g c tells =
    let a = length c.as_slice-3.result.now in
    let b = length c.as_slice-4.result.now in
    let list = c.in_ok-list.ensures.read tells in
    let digest = c.in_ok-digest.ensures.read tells in
    let left : c.saturating_sub-left.result ≡ 1000 - length c.in_ok-list.list = omega (arith, c.saturating_sub-left.ensures, ap length c.as_slice.ensures) in
    let few : a + b ≤ 1000 = omega (arith, left, ap length c.as_slice-3.ensures, ap length c.as_slice-4.ensures, few_due c.args.now.seconds 1000 list.0 c.in_ok-list.list list.2, few_due c.args.now.seconds c.saturating_sub-left.result digest.0 c.in_ok-digest.digest digest.2) in
    let maps = g.met.F.Files.kept_map (files_below c.due-2.new.files) (files_below c.key.new.files) tells c.key.ensures.reads.kept.0 ∙ g.met.F.Files.kept_map (files_below c.due.new.files) (files_below c.due-2.new.files) tells c.due-2.ensures.reads.kept.0 ∙ g.met.F.Files.kept_map (files_below c.args.files.now) (files_below c.due.new.files) tells c.due.ensures.reads.kept.0 in
    let below = g.met.F.Files.kept_map (files_below c.key.new.files) (files_below c.follow_each.new.files) tells c.follow_each.ensures.part.reads.kept in
    let over = ap₂ with_puts maps (c.key.ensures.reads.kept.1 ∙ c.due-2.ensures.reads.kept.1 ∙ c.due.ensures.reads.kept.1) in
    let start = subst (λ (d : Dir). HasIdsFor d (a + b)) (sym over) (ids_due (with_puts (g.F.Files.map (files_below c.args.files.now)) (puts_over c.args.files.now)) (a + b) (c.requires.room tells) few) in
    let amid = subst (λ (d : Dir). HasIdsFor (with_puts d (puts_over c.follow_each.new.files)) b) (sym below) (c.in_ok-follow_each.ensures.drawn tells b start) in
    ok_then c.follow_each-2.result
    (λ done drawn.
    ids_left (with_puts (g.F.Files.map (files_below c.args.files.now)) (puts_over c.follow_each-2.new.files))
    (subst (λ (d : Dir). HasIdsFor (with_puts d (puts_over c.follow_each-2.new.files)) 0) (below ∙ maps)
    (drawn 0 (ids_more (with_puts (g.F.Files.map (files_below c.follow_each.new.files)) (puts_over c.follow_each.new.files)) b amid))))
    (c.follow_each-2.ensures.drawn tells)

pub returns-in_err-list-clause-part : goal.returns-in_err-list-clause-part
returns-in_err-list-clause-part g c =
    let list = only_read g.F.Files c.args.files.now c.due.new.files c.due.ensures.reads.kept c.due.ensures.reads.later in
    part_err (part_read (λ d. IsBadFile d sets.List) g.met.F.Files.kept_then g.met.F.Files.kept_map (laid_self g.F.Files g.met.F.Files.kept_self c.args.files.now) list c.in_err-list.ensures.reads.cause (λ t. t) c.in_err-list.ensures.names (ledger_read sets.List refl) (λ name file bad. damage.ledger sets.List refl bad)) (search rules)

pub returns-in_err-digest-clause-part : goal.returns-in_err-digest-clause-part
returns-in_err-digest-clause-part g c =
    let list = only_read g.F.Files c.args.files.now c.due.new.files c.due.ensures.reads.kept c.due.ensures.reads.later in
    let digest = only_read g.F.Files c.due.new.files c.due-2.new.files c.due-2.ensures.reads.kept c.due-2.ensures.reads.later in
    part_err (part_read (λ d. IsBadFile d sets.Digest) g.met.F.Files.kept_then g.met.F.Files.kept_map (laid_none list) digest c.in_err-digest.ensures.reads.cause (λ t. t) c.in_err-digest.ensures.names (ledger_read sets.Digest refl) (λ name file bad. damage.ledger sets.Digest refl bad)) (search rules)

pub returns-then-is_empty-2-clause-part : goal.returns-then-is_empty-2-clause-part
returns-then-is_empty-2-clause-part g c =
    let list = only_read g.F.Files c.args.files.now c.due.new.files c.due.ensures.reads.kept c.due.ensures.reads.later in
    let digest = only_read g.F.Files c.due.new.files c.due-2.new.files c.due-2.ensures.reads.kept c.due-2.ensures.reads.later in
    part_ok (laid_none (read_then g.met.F.Files.kept_then list digest))

pub returns-in_err-keys-clause-part : goal.returns-in_err-keys-clause-part
returns-in_err-keys-clause-part g c =
    let list = only_read g.F.Files c.args.files.now c.due.new.files c.due.ensures.reads.kept c.due.ensures.reads.later in
    let digest = only_read g.F.Files c.due.new.files c.due-2.new.files c.due-2.ensures.reads.kept c.due-2.ensures.reads.later in
    let keys = only_read g.F.Files c.due-2.new.files c.key.new.files c.key.ensures.reads.kept c.key.ensures.reads.later in
    part_err (part_read (λ d _. IsNoKeys d) g.met.F.Files.kept_then g.met.F.Files.kept_map (laid_none (read_then g.met.F.Files.kept_then list digest)) keys c.in_err-keys.ensures.reads.cause (λ t. t) c.in_err-keys.ensures.names
    (λ name e. subst (λ (a : Name). is_of_following a ≡ true) (sym e) refl) (λ name e no. damage.keys e no)) (search rules)

pub returns-in_err-follow_each-clause-part : goal.returns-in_err-follow_each-clause-part
returns-in_err-follow_each-clause-part g c =
    let list = only_read g.F.Files c.args.files.now c.due.new.files c.due.ensures.reads.kept c.due.ensures.reads.later in
    let digest = only_read g.F.Files c.due.new.files c.due-2.new.files c.due-2.ensures.reads.kept c.due-2.ensures.reads.later in
    let keys = only_read g.F.Files c.due-2.new.files c.key.new.files c.key.ensures.reads.kept c.key.ensures.reads.later in
    part_err (part_after g.met.F.Files.kept_then g.met.F.Files.kept_map (laid_none (read_then g.met.F.Files.kept_then (read_then g.met.F.Files.kept_then list digest) keys)) c.in_err-follow_each.ensures.part (λ name e. e) (followed_of sets.List refl) (λ name e bad. bad)) (search rules)

pub returns-clause-part : goal.returns-clause-part
returns-clause-part g c =
    let list = only_read g.F.Files c.args.files.now c.due.new.files c.due.ensures.reads.kept c.due.ensures.reads.later in
    let digest = only_read g.F.Files c.due.new.files c.due-2.new.files c.due-2.ensures.reads.kept c.due-2.ensures.reads.later in
    let keys = only_read g.F.Files c.due-2.new.files c.key.new.files c.key.ensures.reads.kept c.key.ensures.reads.later in
    part_after g.met.F.Files.kept_then g.met.F.Files.kept_map (laid_then g.met.F.Files.kept_then g.met.F.Files.kept_map (laid_none (read_then g.met.F.Files.kept_then (read_then g.met.F.Files.kept_then list digest) keys)) (has_laid c.follow_each.ensures.part)) c.follow_each-2.ensures.part (λ name e. e) (followed_of sets.Digest refl) (λ name e bad. bad)

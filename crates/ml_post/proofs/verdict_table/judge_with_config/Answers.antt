use Rattle.std.proofs.Common.{◌≡◌, ◌≤◌, ◌&&◌, ◌||◌, true, false, refl, length, Option, Some, IfOk, IfSome, sym, ap, ◌∙◌, rules, subst}
use Rattle.std.specs.Prelude.{not, codes, nat_lt}
use Rattle.std.proofs.lemmas.Bool.{le-ltb, or_right}
use Rattle.ml_base.specs.Address.{address_of, key}
use Rattle.ml_base.specs.Bytes.{Text}
use Rattle.ml_config.specs.declared.configuration.Config.{Config}
use Rattle.ml_header.specs.Fields.{has_field}
use Rattle.ml_header.specs.Places.{text_of}
use Rattle.ml_plain.proofs.Leaving.{key_checked}
use Rattle.ml_plain.specs.Verdicts.{verdict, is_usable, TooBig, BounceSender, Looped}
use Rattle.ml_post.specs.Judging as rows
use Rattle.ml_post.specs.Posting.{TellsSender}
use Rattle.ml_acts.proofs.Damages.{fewer_named, ok_then}
use Rattle.ml_post.proofs.Outcomes.{none_read, who_read}
use Rattle.ml_post.proofs.Rows.{row_first, row_second, row_third, no_row, same_sender, same_files, has_some}
use Rattle.ml_base.specs.Dir.{Dir, same_name}
use Rattle.ml_base.specs.declared.names.Set.TheVariants as sets
use Rattle.ml_base.proofs.ReadingLemmas.{kept_read, reading_then}
use Rattle.ml_filing.specs.Archive.{number_name}
use Rattle.ml_acts.specs.Asked.{Count, IsDamagedOf}
use Rattle.ml_acts.specs.Doing.{is_bucket_of}
use Rattle.ml_acts.proofs.Asked.{named_as}
use Rattle.ml_acts.proofs.Found.{found_then}
use Rattle.ml_post.specs.Found.{FoundOfPost, FoundOfRoom, FoundOfSender, TellsRefusal}
use Rattle.ml_post.specs.declared.verdict_table.Judged.{Judged}
use Rattle.ml_post.specs.declared.verdicts.Verdict.{Verdict}
use Rattle.ml_post.proofs.Finding.{counted_as, post_then, refusal_found, refusal_plain, refused_as, taken_as}
use Rattle.ml_post.proofs.Judged.{refused_row, taken_row}
use Rattle.ml_post.proofs.verdict_table.judge_with_config.Goals as goal

pub returns-in_err-found-clause-names : goal.returns-in_err-found-clause-names
returns-in_err-found-clause-names g c =
    let config = c.args.config.now in
    let sender = c.args.sender.now in
    let who = c.in-Some.who in
    let read : address_of sender ≡ Some who = sym c.in_ok-who.ensures ∙ c.in-Some.is in
    let names = fewer_named g.F.Files (λ name. rows.is_judged_by config sender name ≡ true) _ (λ name. rows.is_judged_by config who name ≡ true) _
    (λ name e. sym (same_files config who sender name (key_checked sender who read)) ∙ e) c.in_err-found.ensures.names in
    search rules

pub returns-clause-names : goal.returns-clause-names
returns-clause-names g c =
    let dir = g.F.Files.map c.args.files.now in
    let config = c.args.config.now in
    let sender = c.args.sender.now in
    named_as g.F.Files (λ name. rows.is_judged_by config sender name ≡ true) c.of_room.result dir (g.F.Files.map c.refusal.new.files) (λ name. (not config.flags.m && same_name name number_name) ≡ true) (λ d. IsDamagedOf d Count) (IsDamagedOf dir Count)
    (λ told. g.met.F.Files.kept_map c.args.files.now c.refusal.new.files told c.refusal.ensures.reads.kept)
    (λ name e. or_right ((config.flags.k && is_bucket_of sets.Deny sender name) || (config.flags.u && rows.is_of_user sender name)) (not config.flags.m && same_name name number_name) e) (λ name e bad. bad) c.of_room.ensures.names

pub returns-clause-reads : goal.returns-clause-reads
returns-clause-reads g c =
    let one = kept_read g.F.Files c.args.files.now c.refusal.new.files c.refusal.result c.refusal.ensures.reads in
    reading_then g.F.Files g.met.F.Files.kept_then c.args.files.now c.refusal.new.files c.of_room.new.files c.of_room.result one c.of_room.ensures.reads

pub returns-then-bytes-config-clause-fits : goal.returns-then-bytes-config-clause-fits
returns-then-bytes-config-clause-fits g c other = absurd (other refl)

pub returns-in_default-clause-fits : goal.returns-in_default-clause-fits
returns-in_default-clause-fits g c other = subst (λ (t : Text). length t ≤ c.args.config.now.max) c.bytes.ensures c.if-bytes-config.false

pub returns-then-is_some-clause-fits : goal.returns-then-is_some-clause-fits
returns-then-is_some-clause-fits g c other = subst (λ (t : Text). length t ≤ c.args.config.now.max) c.bytes.ensures c.if-bytes-config.false

pub returns-in-Some-2-clause-fits : goal.returns-in-Some-2-clause-fits
returns-in-Some-2-clause-fits g c other = subst (λ (t : Text). length t ≤ c.args.config.now.max) c.bytes.ensures c.if-bytes-config.false

pub returns-clause-fits : goal.returns-clause-fits
returns-clause-fits g c =
    ok_then c.of_room.result (λ (found : Judged) (is : rows.may_be_found c.args.config.now.flags.m (rows.verdict_of found) ≡ true) other. subst (λ (t : Text). length t ≤ c.args.config.now.max) c.bytes.ensures c.if-bytes-config.false) c.of_room.ensures.moderated

pub returns-in-Some-2-clause-moderated : goal.returns-in-Some-2-clause-moderated
returns-in-Some-2-clause-moderated g c = refusal_found c.args.config.now.flags.m c.in-Some-2.found (subst (λ (o : Option Verdict). IfSome o (λ v. rows.is_refusal v ≡ true)) c.in-Some-2.is c.in_ok-found.ensures.refuses)

pub returns-in-Some-2-clause-sender : goal.returns-in-Some-2-clause-sender
returns-in-Some-2-clause-sender g c = refusal_plain c.in-Some-2.found (subst (λ (o : Option Verdict). IfSome o (λ v. rows.is_refusal v ≡ true)) c.in-Some-2.is c.in_ok-found.ensures.refuses)

pub returns-clause-sender : goal.returns-clause-sender
returns-clause-sender g c = subst (λ (o : Option Text). IfOk c.of_room.result (TellsSender o)) (sym c.in-Some.is ∙ c.in_ok-who.ensures) c.of_room.ensures.sender

pub returns-clause-counted : goal.returns-clause-counted
returns-clause-counted g c =
    let dir = g.F.Files.map c.args.files.now in
    let later = g.F.Files.map c.refusal.new.files in
    ok_then c.of_room.result (λ found is. counted_as g.F.Files.tells later dir found (λ told. g.met.F.Files.kept_map c.args.files.now c.refusal.new.files told c.refusal.ensures.reads.kept) is) c.of_room.ensures.counted

pub returns-in_default-clause-found : goal.returns-in_default-clause-found
returns-in_default-clause-found g c told = none_read c.args.sender.now (sym c.in_ok-who.ensures ∙ c.in_default.is)

pub returns-then-is_some-clause-found : goal.returns-then-is_some-clause-found
returns-then-is_some-clause-found g c told =
    has_some text_of (codes "mailing-list") c.args.message.now c.field.result c.is_some.result c.field.ensures c.is_some.ensures ∙ c.if-is_some.true

pub returns-in-Some-2-clause-found : goal.returns-in-Some-2-clause-found
returns-in-Some-2-clause-found g c told =
    let dir = g.F.Files.map c.args.files.now in
    let config = c.args.config.now in
    let sender = c.args.sender.now in
    let m = c.args.message.now in
    let who = c.in-Some.who in
    let v = c.in-Some-2.found in
    let read : address_of sender ≡ Some who = sym c.in_ok-who.ensures ∙ c.in-Some.is in
    let tells = subst (TellsRefusal dir config (key who) m) c.in-Some-2.is (c.in_ok-found.ensures.found told) in
    post_then dir config sender m v (who_read sender who read).0 (subst (λ (k : Text). FoundOfSender dir config k m v) (key_checked sender who read) (refused_as dir config (key who) m v tells))

pub returns-clause-found : goal.returns-clause-found
returns-clause-found g c told =
    let dir = g.F.Files.map c.args.files.now in
    let config = c.args.config.now in
    let sender = c.args.sender.now in
    let m = c.args.message.now in
    let who = c.in-Some.who in
    let read : address_of sender ≡ Some who = sym c.in_ok-who.ensures ∙ c.in-Some.is in
    let tells = subst (TellsRefusal dir config (key who) m) c.in_default-2.is (c.in_ok-found.ensures.found told) in
    let kept = g.met.F.Files.kept_map c.args.files.now c.refusal.new.files told c.refusal.ensures.reads.kept in
    found_then c.of_room.result dir (g.F.Files.map c.refusal.new.files) (λ d j. FoundOfRoom d config (rows.verdict_of j)) (λ j. FoundOfPost dir config sender m (rows.verdict_of j)) kept
    (λ j room.
    let v = rows.verdict_of j in
    post_then dir config sender m v (who_read sender who read).0 (subst (λ (k : Text). FoundOfSender dir config k m v) (key_checked sender who read) (taken_as dir config (key who) m v tells room))) (c.of_room.ensures.found told)

pub returns-then-bytes-config-clause-apart : goal.returns-then-bytes-config-clause-apart
unfolding verdict
returns-then-bytes-config-clause-apart g c told dir p alike is same =
    let m = c.args.message.now in
    let sender = c.args.sender.now in
    let big : nat_lt c.args.config.now.max (length m) ≡ true = search rules in
    sym (row_first (nat_lt p.config.max (length m)) (not (is_usable sender)) (has_field (codes "mailing-list") m) TooBig BounceSender Looped (rows.of_sender p sender m)
    (ap (λ (a : Config). nat_lt a.max (length m)) same ∙ big))

pub returns-in_default-clause-apart : goal.returns-in_default-clause-apart
unfolding verdict
returns-in_default-clause-apart g c told dir p alike is same =
    let m = c.args.message.now in
    let sender = c.args.sender.now in
    let small : nat_lt c.args.config.now.max (length m) ≡ false = le-ltb c.args.config.now.max (length m) (subst (λ (t : Text). length t ≤ c.args.config.now.max) c.bytes.ensures c.if-bytes-config.false) in
    let none : is_usable sender ≡ false = none_read sender (sym c.in_ok-who.ensures ∙ c.in_default.is) in
    sym (row_second (nat_lt p.config.max (length m)) (not (is_usable sender)) (has_field (codes "mailing-list") m) TooBig BounceSender Looped (rows.of_sender p sender m)
    (ap (λ (a : Config). nat_lt a.max (length m)) same ∙ small) (ap not none))

pub returns-then-is_some-clause-apart : goal.returns-then-is_some-clause-apart
unfolding verdict
returns-then-is_some-clause-apart g c told dir p alike is same =
    let m = c.args.message.now in
    let sender = c.args.sender.now in
    let small : nat_lt c.args.config.now.max (length m) ≡ false = le-ltb c.args.config.now.max (length m) (subst (λ (t : Text). length t ≤ c.args.config.now.max) c.bytes.ensures c.if-bytes-config.false) in
    let usable : is_usable sender ≡ true = (who_read sender c.in-Some.who (sym c.in_ok-who.ensures ∙ c.in-Some.is)).0 in
    let looped : has_field (codes "mailing-list") m ≡ true = has_some text_of (codes "mailing-list") m c.field.result c.is_some.result c.field.ensures c.is_some.ensures ∙ c.if-is_some.true in
    sym (row_third (nat_lt p.config.max (length m)) (not (is_usable sender)) (has_field (codes "mailing-list") m) TooBig BounceSender Looped (rows.of_sender p sender m)
    (ap (λ (a : Config). nat_lt a.max (length m)) same ∙ small) (ap not usable) looped)

pub returns-in-Some-2-clause-apart : goal.returns-in-Some-2-clause-apart
unfolding verdict
returns-in-Some-2-clause-apart g c told dir p alike is same =
    let old = g.F.Files.map c.args.files.now in
    let config = c.args.config.now in
    let m = c.args.message.now in
    let sender = c.args.sender.now in
    let who = c.in-Some.who in
    let small : nat_lt config.max (length m) ≡ false = le-ltb config.max (length m) (subst (λ (t : Text). length t ≤ config.max) c.bytes.ensures c.if-bytes-config.false) in
    let read : address_of sender ≡ Some who = sym c.in_ok-who.ensures ∙ c.in-Some.is in
    let own = key_checked sender who read in
    let fresh : has_field (codes "mailing-list") m ≡ false = has_some text_of (codes "mailing-list") m c.field.result c.is_some.result c.field.ensures c.is_some.ensures ∙ c.if-is_some.false in
    let tells = subst (TellsRefusal old config (key who) m) c.in-Some-2.is (c.in_ok-found.ensures.found told) in
    refused_row config who old dir p (λ name e. alike name (sym (same_files config who sender name own) ∙ e)) is same m c.in-Some-2.found tells ∙ same_sender p who sender m own
    ∙ sym (no_row (nat_lt p.config.max (length m)) (not (is_usable sender)) (has_field (codes "mailing-list") m) TooBig BounceSender Looped (rows.of_sender p sender m)
    (ap (λ (a : Config). nat_lt a.max (length m)) same ∙ small) (ap not (who_read sender who read).0) fresh)

pub returns-clause-apart : goal.returns-clause-apart
unfolding verdict
returns-clause-apart g c told =
    let old = g.F.Files.map c.args.files.now in
    let config = c.args.config.now in
    let m = c.args.message.now in
    let sender = c.args.sender.now in
    let who = c.in-Some.who in
    let small : nat_lt config.max (length m) ≡ false = le-ltb config.max (length m) (subst (λ (t : Text). length t ≤ config.max) c.bytes.ensures c.if-bytes-config.false) in
    let read : address_of sender ≡ Some who = sym c.in_ok-who.ensures ∙ c.in-Some.is in
    let own = key_checked sender who read in
    let fresh : has_field (codes "mailing-list") m ≡ false = has_some text_of (codes "mailing-list") m c.field.result c.is_some.result c.field.ensures c.is_some.ensures ∙ c.if-is_some.false in
    let tells = subst (TellsRefusal old config (key who) m) c.in_default-2.is (c.in_ok-found.ensures.found told) in
    let kept = g.met.F.Files.kept_map c.args.files.now c.refusal.new.files told c.refusal.ensures.reads.kept in
    let found = subst (λ (d : Dir). IfOk c.of_room.result (λ j. FoundOfRoom d config (rows.verdict_of j))) kept (c.of_room.ensures.found told) in
    ok_then c.of_room.result (λ j room dir p alike is same.
    taken_row config who old dir p (λ name e. alike name (sym (same_files config who sender name own) ∙ e)) is same m (rows.verdict_of j) tells room ∙ same_sender p who sender m own
    ∙ sym (no_row (nat_lt p.config.max (length m)) (not (is_usable sender)) (has_field (codes "mailing-list") m) TooBig BounceSender Looped (rows.of_sender p sender m)
    (ap (λ (a : Config). nat_lt a.max (length m)) same ∙ small) (ap not (who_read sender who read).0) fresh)) found

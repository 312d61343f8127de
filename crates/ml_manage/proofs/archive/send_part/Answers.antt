use Rattle.std.proofs.Common.{◌∙◌, true, sym, subst, rules, false, [], Bool}
use Rattle.ml_base.specs.Dir.{Dir}
use Rattle.ml_config.specs.ConfigFile.{IsConfigFile, config_name}
use Rattle.ml_plain.specs.Managing.{may_read}
use Rattle.ml_acts.specs.Doing.{HasIds}
use Rattle.ml_manage.specs.Parts as parts
use Rattle.ml_manage.proofs.OfArchive.{answer_act, reader_named, part_named}
use Rattle.ml_manage.proofs.Sending.{closed, opened}
use Rattle.ml_base.proofs.ReadingLemmas.{kept_read, kept_then, reading_then}
use Rattle.ml_base.specs.Address.{key}
use Rattle.ml_plain.specs.Answers as answers
use Rattle.ml_acts.proofs.Found.{found_then}
use Rattle.ml_joining.specs.Found.{SendsMail}
use Rattle.ml_manage.specs.Found.{FoundToRead, TellsReader}
use Rattle.ml_manage.proofs.Apart.{answer_ids, answer_part, answer_reader, answer_whole, kept_alike, kept_same}
use Rattle.ml_acts.proofs.Damages.{ok_then}
use Rattle.ml_queue.specs.Answers.{ids_name}
use Rattle.ml_base.specs.declared.names.Name.{Name}
use Rattle.ml_acts.proofs.OfActs.{act_err}
use Rattle.ml_manage.proofs.archive.send_part.Goals as goal

pub part_text-requires : goal.part_text-requires
part_text-requires g c told =
    let first = g.met.F.Files.kept_map c.args.files.now c.may_read.new.files told c.may_read.ensures.reads.kept in
    subst (λ (d : Dir). IsConfigFile (d config_name) c.args.config.now) (sym first) (c.requires.loaded told)

pub mail_lines-requires : goal.mail_lines-requires
mail_lines-requires g c = record {
  room = λ told.
      let first = g.met.F.Files.kept_map c.args.files.now c.may_read.new.files told c.may_read.ensures.reads.kept in
      let all = g.met.F.Files.kept_map c.may_read.new.files c.part_text.new.files told c.part_text.ensures.reads.kept ∙ first in
      subst (λ (d : Dir). HasIds d) (sym all) (c.requires.room told);
}

pub returns-in_err-may_read-clause-act : goal.returns-in_err-may_read-clause-act
returns-in_err-may_read-clause-act g c =
    let names = reader_named g.F.Files (parts.asked_of c.args.config.now c.args.part) c.args.config.now c.args.sender.now (parts.is_of c.args.part) _ (g.F.Files.map c.args.files.now) c.in_err-may_read.ensures.names in
    search rules

pub returns-clause-act : goal.returns-clause-act
returns-clause-act g c =
    let first = c.args.files.now in
    let second = c.part_text.new.files in
    let on = g.met.F.Files.kept_then in
    let kept = kept_then g.F.Files on first c.may_read.new.files second (kept_read g.F.Files first c.may_read.new.files c.may_read.result c.may_read.ensures.reads) (kept_read g.F.Files c.may_read.new.files second c.part_text.result c.part_text.ensures.reads) in
    answer_act g.F.Files (parts.asked_of c.args.config.now c.args.part) c.args.config.now c.args.sender.now (parts.is_of c.args.part) c.mail_lines.result on first second c.mail_lines.new.files kept (λ told. g.met.F.Files.kept_map first second told kept.kept) c.mail_lines.ensures.act

pub returns-then-not-branch-clause-found : goal.returns-then-not-branch-clause-found
returns-then-not-branch-clause-found g c told = record {
  may = false;
  tells = subst (TellsReader (g.F.Files.map c.args.files.now) c.args.config.now (key c.args.sender.now)) c.if-not-branch.true (c.in_ok-may_read.ensures.found told);
  follows = record { puts = c.new.ensures; is = c.plain.ensures };
}

pub returns-clause-found : goal.returns-clause-found
returns-clause-found g c told =
    let old = g.F.Files.map c.args.files.now in
    let conf = c.args.config.now in
    let k = key c.args.sender.now in
    let first = g.met.F.Files.kept_map c.args.files.now c.may_read.new.files told c.may_read.ensures.reads.kept in
    let all = g.met.F.Files.kept_map c.may_read.new.files c.part_text.new.files told c.part_text.ensures.reads.kept ∙ first in
    let may = subst (TellsReader old conf k) c.if-not-branch.false (c.in_ok-may_read.ensures.found told) in
    let read = subst (λ (d : Dir). parts.TellsPart d c.args.config.now c.args.part) first (c.in_ok-lines.ensures.found told) in
    found_then c.mail_lines.result old (g.F.Files.map c.part_text.new.files) (λ d. SendsMail d [] answers.archive) (FoundToRead old conf k (parts.TellsPart old conf c.args.part)) all
    (λ done sent. record { may = true; tells = may; follows = (read, sent) }) (c.mail_lines.ensures.found told)

pub returns-then-not-branch-clause-apart : goal.returns-then-not-branch-clause-apart
returns-then-not-branch-clause-apart g c told dir p alike is same =
    let old = g.F.Files.map c.args.files.now in
    let conf = c.args.config.now in
    let sender = c.args.sender.now in
    let whole = answer_whole old dir conf sender (parts.is_of c.args.part) (parts.is_post_of c.args.part) alike in
    closed dir p c.args.now.seconds sender (c.new.result, c.plain.result) (may_read p sender) (parts.text_of p c.args.part) is
    (sym (c.in_ok-may_read.ensures.apart told dir p (answer_reader old dir conf sender (parts.is_seen_of c.args.part) whole) is same) ∙ c.if-not-branch.true) c.new.ensures c.plain.ensures

pub returns-clause-apart : goal.returns-clause-apart
returns-clause-apart g c told =
    let old = g.F.Files.map c.args.files.now in
    let conf = c.args.config.now in
    let sender = c.args.sender.now in
    let part : Name → Bool = parts.is_seen_of c.args.part in
    let first = g.met.F.Files.kept_map c.args.files.now c.may_read.new.files told c.may_read.ensures.reads.kept in
    let all = g.met.F.Files.kept_map c.may_read.new.files c.part_text.new.files told c.part_text.ensures.reads.kept ∙ first in
    ok_then c.mail_lines.result
    (λ done does dir p alike is same.
    let whole = answer_whole old dir conf sender (parts.is_of c.args.part) (parts.is_post_of c.args.part) alike in
    opened dir p c.args.now.seconds sender done (may_read p sender) (parts.text_of p c.args.part) c.in_ok-lines.lines
    (sym (c.in_ok-may_read.ensures.apart told dir p (answer_reader old dir conf sender part whole) is same) ∙ c.if-not-branch.false)
    (c.in_ok-lines.ensures.apart told dir p (kept_alike part old (g.F.Files.map c.may_read.new.files) dir first (answer_part old dir conf sender part whole)) is same)
    (does dir p (kept_same ids_name old (g.F.Files.map c.part_text.new.files) dir all (answer_ids old dir conf sender part whole)) is same))
    (c.mail_lines.ensures.apart told)

pub returns-in_err-lines-clause-act : goal.returns-in_err-lines-clause-act
returns-in_err-lines-clause-act g c =
    let first = c.args.files.now in
    let second = c.may_read.new.files in
    let kept = kept_read g.F.Files first second c.may_read.result c.may_read.ensures.reads in
    let names = part_named g.F.Files (parts.asked_of c.args.config.now c.args.part) c.args.config.now c.args.sender.now (parts.is_of c.args.part) _ (g.F.Files.map second) (g.F.Files.map first) (λ told. g.met.F.Files.kept_map first second told kept.kept) c.in_err-lines.ensures.names in
    act_err names (reading_then g.F.Files g.met.F.Files.kept_then first second c.part_text.new.files _ kept c.in_err-lines.ensures.reads) (λ name e. e) (search rules)

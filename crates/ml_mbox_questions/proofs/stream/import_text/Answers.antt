use Rattle.std.proofs.Common.{length, ◌+◌, ap, Err}
use Rattle.ml_mbox.specs.Importing.{acts_of}
use Rattle.ml_plain.specs.Items.{numbered}
use Rattle.ml_stream.specs.Writing.{stream_text}
use Rattle.ml_mbox_questions.specs.declared.error.ImportError.TheVariants.{Long}
use Rattle.ml_mbox_questions.proofs.MailTurns.{next_is, same_error, fits_more, long_first, long_later, one_more, count}
use Rattle.ml_mbox_questions.proofs.stream.import_text.Goals as goal

pub returns-in_err-push_post-clause-long : goal.returns-in_err-push_post-clause-long
returns-in_err-push_post-clause-long c is =
    let mail = c.in-Some.mail in
    let cut = next_is c.loop-out.mails c.next.new.self c.in_ok-mail.field-0 mail c.in_ok-mail.ensures.ok c.in-Some.is in
    let same = same_error c.from_residual-in_err-push_post.result c.in_err-push_post.field-0.0 Long c.from_residual-in_err-push_post.ensures.1 is in
    c.loop-out.invariant.long (long_first c.args.config.now c.loop-out.mails c.next.new.self mail cut (c.in_err-push_post.ensures.long (ap Err same)))

pub loop-out-preserved : goal.loop-out-preserved
loop-out-preserved c =
    let mail = c.in-Some.mail in
    let old = c.loop-out.mails in
    let new = c.next.new.self in
    let config = c.args.config.now in
    let cut = next_is old new c.in_ok-mail.field-0 mail c.in_ok-mail.ensures.ok c.in-Some.is in
    record {
      text_is =
          one_more config old new mail cut c.loop-out.number c.args.moment c.loop-out.out c.push_post.new.out (stream_text (numbered c.args.first c.args.moment (acts_of config c.args.mails)))
          c.in_ok-push_post.ensures.text c.loop-out.invariant.text_is;
      counted = count config old new mail cut c.loop-out.number (c.args.first + length c.args.mails) c.loop-out.invariant.counted;
      fits = λ all. c.loop-out.invariant.fits (fits_more config old new mail cut c.in_ok-push_post.ensures.fits all);
      long = λ any. c.loop-out.invariant.long (long_later config old new mail cut any);
    }

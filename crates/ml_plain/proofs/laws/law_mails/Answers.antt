use Rattle.ml_plain.proofs.MailLaw.{law_mails}
use Rattle.ml_plain.proofs.SentMails.{law_sent_mails}
use Rattle.ml_plain.proofs.laws.law_mails.Goals as goal

pub returns-clause-read : goal.returns-clause-read
returns-clause-read c = law_mails

pub returns-clause-sent : goal.returns-clause-sent
returns-clause-sent c = law_sent_mails

use Rattle.std.proofs.Common.{sym, subst}
use Rattle.ml_base.specs.Bytes.{Text}
use Rattle.ml_mbox.specs.Importing.{acts_of}
use Rattle.ml_plain.specs.Items.{numbered}
use Rattle.ml_stream.specs.Stream.{IsStream, End}
use Rattle.ml_mbox_questions.proofs.Imported.{stream_of}
use Rattle.ml_mbox_questions.proofs.laws.law_importing.Goals as goal

pub returns : goal.returns
returns c = λ first moment text stream question config dir number time size is made answer.
    let of = stream_of config first moment text stream question made answer in
    (of.mails, of.found, subst (λ (t : Text). IsStream 0 t (numbered first moment (acts_of config of.mails)) End) (sym of.is) (c.law_import.ensures config first moment text of.mails is number.high time size of.found of.fits))

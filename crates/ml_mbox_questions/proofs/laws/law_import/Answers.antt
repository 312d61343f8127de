use Rattle.std.proofs.Common.{arith}
use Rattle.std.proofs.lemmas.List.Elements.{recursion_from_All}
use Rattle.ml_mbox.proofs.Sizes.{few, senders}
use Rattle.ml_mbox_questions.specs.Import.{Fits}
use Rattle.ml_mbox_questions.proofs.Streams.{whole_stream}
use Rattle.ml_mbox_questions.proofs.laws.law_import.Goals as goal

pub returns : goal.returns
returns c = λ config first moment text mails is low time size found fits.
    let count = few text mails found in
    whole_stream config first moment mails is time (omega (arith, count, size, low)) (senders text mails found) (recursion_from_All (Fits config) mails fits)

-- Records as they are spelled, worked out by hand.
use Rattle.std.proofs.Common.{◌≡◌, [], ◌∷◌, Some, None, refl}
use Rattle.std.specs.Fmt.{digits}
use Rattle.std.specs.Prelude.{codes}
use Rattle.ml_journal.specs.Records.{spelled_record}

no_puts : spelled_record [] ≡ codes "0:,"
unfolding digits
no_puts = refl

two_puts : spelled_record (record { name = record { kind = 3; at = 29 }; bytes = Some (codes "Ta@b") } ∷ record { name = record { kind = 21; at = 0 }; bytes = None } ∷ []) ≡ codes "27:W1:3,2:29,4:Ta@b,X2:21,1:0,,"
unfolding digits
two_puts = refl

use Rattle.ml_base.proofs.Addresses.{address_read, address_kept, address_parts, address_key, address_clean, address_short}
use Rattle.ml_base.proofs.laws.law_addresses.Goals as goal

pub returns-clause-read : goal.returns-clause-read
returns-clause-read c = address_read

pub returns-clause-kept : goal.returns-clause-kept
returns-clause-kept c = address_kept

pub returns-clause-parts : goal.returns-clause-parts
returns-clause-parts c = address_parts

pub returns-clause-keys : goal.returns-clause-keys
returns-clause-keys c = address_key

pub returns-clause-no_nul : goal.returns-clause-no_nul
returns-clause-no_nul c = address_clean

pub returns-clause-short : goal.returns-clause-short
returns-clause-short c = address_short

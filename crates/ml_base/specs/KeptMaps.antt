-- Files in memory are kept from themselves, and what is kept twice is kept.
use Rattle.std.proofs.Common.{refl, ◌∙◌, arith}
use Rattle.ml_base.specs.declared.maps.MapFiles.{MapFiles}
use Rattle.ml_base.specs.FilesInMemory.{IsMapKept}

pub map_kept_self : (files : MapFiles) → IsMapKept files files
map_kept_self files = record { dir = refl; failing = refl; made = omega arith; faults = omega arith }

pub map_kept_then : (first second third : MapFiles) → IsMapKept first second → IsMapKept second third → IsMapKept first third
map_kept_then first second third one two = record {
  dir = two.dir ∙ one.dir;
  failing = two.failing ∙ one.failing;
  made = omega (arith, one.made, two.made);
  faults = omega (arith, one.faults, two.faults);
}

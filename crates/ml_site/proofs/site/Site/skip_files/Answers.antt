use Rattle.std.proofs.Common.{refl, inl, arith}
use Rattle.ml_site.proofs.site.Site.skip_files.Goals as goal

pub returns-clause-keeps : goal.returns-clause-keeps
returns-clause-keeps g c = record {
  output = λ told. refl;
  time = λ told. record { later = omega arith; nothing_else = λ t left out le since. inl since };
  faults = omega arith;
  others = refl;
  calls = omega arith;
  once = omega arith;
}

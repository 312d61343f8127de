-- No two configurations have the same spelling.
use Rattle.std.proofs.Common.{◌≡◌, ◌∙◌, ℕ, ◌-◌, ◌==◌, Bool, true, false, Option, Some, refl, sym, ap, slice_index}
use Rattle.std.proofs.lemmas.Bool.{eq-eqb}
use Rattle.std.proofs.lemmas.Fmt.{decimal_injective}
use Rattle.ml_base.specs.Bytes.{Text}
use Rattle.ml_config.specs.ConfigFile.{IsConfigFile, Spells, config_text, Values, flags_text, letter, values_of}
use Rattle.ml_config.specs.Reading.{lines_of}
use Rattle.ml_config.specs.declared.configuration.Config.{Config}
use Rattle.ml_config.specs.declared.configuration.Flags.{Flags}
use Rattle.ml_config.proofs.Clean.{small, values_one_line}
use Rattle.ml_config.proofs.LineLemmas.{lines_written}

pub letter_same : (l : ℕ) (a b : Bool) → (l == l - 32) ≡ false → letter l a ≡ letter l b → a ≡ b
letter_same l true true two e = refl
letter_same l false false two e = refl
letter_same l true false two e = absurd (let bad : true ≡ false = sym (eq-eqb l (l - 32) e) ∙ two in cc)
letter_same l false true two e = absurd (let bad : true ≡ false = sym (eq-eqb l (l - 32) (sym e)) ∙ two in cc)

pub flags_same : (f g : Flags) → flags_text f ≡ flags_text g → f ≡ g
flags_same f g e = λ i. record {
  b = letter_same 98 f.b g.b refl (ap (λ t. slice_index t 0) e) i;
  d = letter_same 100 f.d g.d refl (ap (λ t. slice_index t 1) e) i;
  f = letter_same 102 f.f g.f refl (ap (λ t. slice_index t 2) e) i;
  g = letter_same 103 f.g g.g refl (ap (λ t. slice_index t 3) e) i;
  h = letter_same 104 f.h g.h refl (ap (λ t. slice_index t 4) e) i;
  j = letter_same 106 f.j g.j refl (ap (λ t. slice_index t 5) e) i;
  k = letter_same 107 f.k g.k refl (ap (λ t. slice_index t 6) e) i;
  l = letter_same 108 f.l g.l refl (ap (λ t. slice_index t 7) e) i;
  m = letter_same 109 f.m g.m refl (ap (λ t. slice_index t 8) e) i;
  p = letter_same 112 f.p g.p refl (ap (λ t. slice_index t 9) e) i;
  r = letter_same 114 f.r g.r refl (ap (λ t. slice_index t 10) e) i;
  s = letter_same 115 f.s g.s refl (ap (λ t. slice_index t 11) e) i;
  t = letter_same 116 f.t g.t refl (ap (λ t. slice_index t 12) e) i;
  u = letter_same 117 f.u g.u refl (ap (λ t. slice_index t 13) e) i;
}

pub one_spelling : (bytes : Text) (c d : Config) → Spells bytes c → Spells bytes d → c ≡ d
one_spelling bytes c d p q =
    let values : Some (values_of c) ≡ Some (values_of d) =
    sym (lines_written (values_of c) (values_one_line c p.is)) ∙ (ap lines_of (sym p.text ∙ q.text) ∙ lines_written (values_of d) (values_one_line d q.is)) in
    let same : values_of c ≡ values_of d = cc in
    let flags = flags_same c.flags d.flags (ap (λ (v : Values). v.flags) same) in
    let max = decimal_injective c.max d.max (small c.max p.is.max) (small d.max q.is.max) (ap (λ (v : Values). v.max) same) in
    λ i. record { flags = flags i; local = (same i).local; host = (same i).host; owner = (same i).owner; prefix = (same i).prefix; max = max i }

pub one_in_file : (file : Option Text) (c d : Config) → IsConfigFile file c → IsConfigFile file d → c ≡ d
one_in_file file c d p q =
    let same : Some (config_text c) ≡ Some (config_text d) = sym p.text ∙ q.text in
    one_spelling (config_text c) c d (record { is = p.is; text = refl }) (record { is = q.is; text = cc })

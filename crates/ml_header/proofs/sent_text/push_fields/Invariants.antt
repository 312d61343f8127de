use Rattle.std.proofs.Common.{◌≡◌, ◌++◌, length, codes}
use Rattle.std.specs.Option.{option_map, option_or}
use Rattle.ml_header.specs.Steps.{AreWhole, value_in, with_first, sent_fields}
use Rattle.ml_header.proofs.sent_text.push_fields.Given as goal

abbrev pub invariant-loop-field : goal.invariant-loop-field
invariant-loop-field l = record {
  whole : AreWhole l.fields;
  text_is : l.text ++ sent_fields l.remove (with_first (option_map (λ p. p.now) l.due) l.fields) ≡ l.initial.text ++ sent_fields l.remove (with_first (option_map (λ p. p.now) l.fn.prefix) l.initial.fields);
  kind_is : option_or (option_map (λ v. v.now) l.met.kind) (value_in (codes "content-type") l.fields) ≡ value_in (codes "content-type") l.initial.fields;
  encoding_is : option_or (option_map (λ v. v.now) l.met.encoding) (value_in (codes "content-transfer-encoding") l.fields) ≡ value_in (codes "content-transfer-encoding") l.initial.fields;
}

abbrev pub decreases-loop-field : goal.decreases-loop-field
decreases-loop-field l = length l.fields

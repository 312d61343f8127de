-- Puts grow by those of one act after another.
use Rattle.std.proofs.Common.{◌≡◌, Bool, true, List, [], ◌++◌, refl, ap, sym, ◌∙◌, IsTrue}
use Rattle.std.proofs.lemmas.List.{append_assoc, append-nil}
use Rattle.ml_base.specs.Dir.{are_files, touches_only}
use Rattle.ml_base.specs.Name.{is_file}
use Rattle.ml_base.specs.declared.names.Name.{Name}
use Rattle.ml_base.specs.declared.puts.Put.{Put}
use Rattle.ml_acts.specs.Growing.{IsGrown}
use Rattle.ml_acts.proofs.Queued.{touches_both, touches_weaker}

-- by nothing
pub grown_none : (may : Name → Bool) (puts : List Put) → IsGrown may puts puts
grown_none may puts = record { more = []; is = sym (append-nil puts); own = refl; files = refl }

-- by the puts of an act
pub grown_by : (may few : Name → Bool) (old new more : List Put) → ((name : Name) → few name ≡ true → may name ≡ true) → new ≡ old ++ more → touches_only few more ≡ true → IsTrue (are_files more) → IsGrown may old new
grown_by may few old new more weak is own files = record { more = more; is = is; own = touches_weaker few may more weak own; files = files }

-- and then by more
pub grown_then : (may : Name → Bool) (old mid new : List Put) → IsGrown may old mid → IsGrown may mid new → IsGrown may old new
grown_then may old mid new a b = record {
  more = a.more ++ b.more;
  is = b.is ∙ ap (λ (puts : List Put). puts ++ b.more) a.is ∙ append_assoc old a.more b.more;
  own = touches_both may a.more b.more a.own b.own;
  files = touches_both is_file a.more b.more a.files b.files;
}

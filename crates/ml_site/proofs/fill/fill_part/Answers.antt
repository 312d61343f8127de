use Rattle.std.proofs.Common.{◌≡◌, ◌-◌, ℕ, List, [], ◌∷◌, length, min, refl, sym, ◌∙◌, ap, subst, rules, arith}
use Rattle.ml_site.specs.Disk.{Part, Range, Cut, File}
use Rattle.ml_site.specs.Recorded.{contents, lookup}
use Rattle.ml_site.specs.Filled.{parts_of, bytes_filled}
use Rattle.ml_site.proofs.Filling.{range_filled, cut_filled, file_log, other_filled, both_filled, none_filled}
use Rattle.ml_site.proofs.fill.fill_part.Goals as goal

pub returns-in-WriteLog : goal.returns-in-WriteLog
returns-in-WriteLog c =
    let old = contents c.args.log.now.items c.args.files.now in
    let part = Range c.in-WriteLog.at (length c.in-WriteLog.bytes) in
    let parts : parts_of c.args.call.now ≡ part ∷ [] = search rules in
    let end : c.len-end.result ≡ length old.log = search rules in
    let from : c.min-from.result ≡ min (length old.log) c.in-WriteLog.at = c.min-from.ensures ∙ ap (λ (n : ℕ). min n c.in-WriteLog.at) end in
    let count : c.min.result ≡ min (length c.in-WriteLog.bytes) (length old.log - c.min-from.result) =
    c.min.ensures ∙ (λ i. min (c.len.ensures.count i) (end i - c.min-from.result)) in
    subst (λ (ps : List Part). contents c.overwrite.new.log.items c.args.files.now ≡ bytes_filled c.args.byte ps old) (sym parts)
    (both_filled c.args.byte (part ∷ []) old c.overwrite.new.log.items (lookup c.args.files.now)
    (c.overwrite.ensures ∙ range_filled c.args.byte c.in-WriteLog.at (length c.in-WriteLog.bytes) old.log c.min-from.result c.min.result from count)
    (λ name. refl))

pub returns-in-FailedLog : goal.returns-in-FailedLog
returns-in-FailedLog c =
    let old = contents c.args.log.now.items c.args.files.now in
    let part = Range c.in-FailedLog.at c.in-FailedLog.size in
    let parts : parts_of c.args.call.now ≡ part ∷ [] = search rules in
    let end : c.len-end.result ≡ length old.log = search rules in
    let from : c.min-from-in-FailedLog.result ≡ min (length old.log) c.in-FailedLog.at = c.min-from-in-FailedLog.ensures ∙ ap (λ (n : ℕ). min n c.in-FailedLog.at) end in
    let count : c.min-in-FailedLog.result ≡ min c.in-FailedLog.size (length old.log - c.min-from-in-FailedLog.result) =
    omega (arith, c.min-in-FailedLog.ensures, end) in
    subst (λ (ps : List Part). contents c.overwrite-in-FailedLog.new.log.items c.args.files.now ≡ bytes_filled c.args.byte ps old) (sym parts)
    (both_filled c.args.byte (part ∷ []) old c.overwrite-in-FailedLog.new.log.items (lookup c.args.files.now)
    (c.overwrite-in-FailedLog.ensures ∙ range_filled c.args.byte c.in-FailedLog.at c.in-FailedLog.size old.log c.min-from-in-FailedLog.result c.min-in-FailedLog.result from count)
    (λ name. refl))

pub returns-in_default : goal.returns-in_default
returns-in_default c =
    let old = contents c.args.log.now.items c.args.files.now in
    let parts : parts_of c.args.call.now ≡ [] = search rules in
    subst (λ (ps : List Part). old ≡ bytes_filled c.args.byte ps old) (sym parts) (sym (none_filled c.args.byte old))

pub returns-in_ok-fill_file-in-WriteFile : goal.returns-in_ok-fill_file-in-WriteFile
returns-in_ok-fill_file-in-WriteFile c =
    let old = contents c.args.log.now.items c.args.files.now in
    let part = File c.in-WriteFile.name in
    let parts : parts_of c.args.call.now ≡ part ∷ [] = search rules in
    subst (λ (ps : List Part). contents c.args.log.now.items c.fill_file.new.files ≡ bytes_filled c.args.byte ps old) (sym parts)
    (both_filled c.args.byte (part ∷ []) old c.args.log.now.items (lookup c.fill_file.new.files)
    (sym (file_log c.args.byte c.in-WriteFile.name 0 old.log))
    (λ name. other_filled c.args.byte c.in-WriteFile.name name (old.files name) (lookup c.fill_file.new.files name) (c.in_ok-fill_file-in-WriteFile.ensures name)))

pub returns-in-CutLog : goal.returns-in-CutLog
returns-in-CutLog c =
    let old = contents c.args.log.now.items c.args.files.now in
    let part = Cut c.in-CutLog.size in
    let parts : parts_of c.args.call.now ≡ part ∷ [] = search rules in
    let end : c.len-end.result ≡ length old.log = search rules in
    subst (λ (ps : List Part). contents c.overwrite-in-CutLog.new.log.items c.args.files.now ≡ bytes_filled c.args.byte ps old) (sym parts)
    (both_filled c.args.byte (part ∷ []) old c.overwrite-in-CutLog.new.log.items (lookup c.args.files.now)
    (c.overwrite-in-CutLog.ensures ∙ cut_filled c.args.byte c.in-CutLog.size old.log c.min-in-CutLog.result c.len-end.result end c.min-in-CutLog.ensures)
    (λ name. refl))

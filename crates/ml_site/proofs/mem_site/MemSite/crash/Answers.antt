use Rattle.std.proofs.Common.{◌≡◌, take, sym, subst, arith}
use Rattle.std.proofs.lemmas.Grind.{common_steps}
use Rattle.std.specs.Prelude.{IfOk}
use Rattle.ml_site.specs.declared.image.Image.{Image}
use Rattle.ml_site.specs.Disk.{IsImage}
use Rattle.ml_site.specs.Filled.{filled}
use Rattle.ml_site.specs.Recorded.{contents, at_rest}
use Rattle.ml_site.specs.MemSites.{mem_disk_at}
use Rattle.ml_site.proofs.Leaving.{filled-is_image, if_ok, left_then}
use Rattle.ml_site.proofs.mem_site.MemSite.crash.Goals as goal

pub returns-clause-image : goal.returns-clause-image
returns-clause-image c =
    let start = contents c.args.self.now.start_log c.args.self.now.start_files in
    let calls = c.args.self.now.calls.items in
    let disk = mem_disk_at c.args.self.now c.args.instant in
    let bytes : IfOk c.image_left.result (λ (image : Image). contents image.log image.files ≡ filled c.args.fill disk) = grind (arith, common_steps) in
    if_ok c.image_left.result _ _ bytes (λ image is. subst (IsImage disk) (sym is) (filled-is_image start (take c.args.instant calls) c.args.fill))

pub returns-clause-instant : goal.returns-clause-instant
returns-clause-instant c =
    let start = contents c.args.self.now.start_log c.args.self.now.start_files in
    let calls = c.args.self.now.calls.items in
    let disk = mem_disk_at c.args.self.now c.args.instant in
    let bytes : IfOk c.image_left.result (λ (image : Image). contents image.log image.files ≡ filled c.args.fill disk) = grind (arith, common_steps) in
    if_ok c.image_left.result _ _ bytes (λ image is t le. left_then (at_rest start) calls c.args.self.now.output.items c.args.instant t (contents image.log image.files) le
    (subst (IsImage disk) (sym is) (filled-is_image start (take c.args.instant calls) c.args.fill)))

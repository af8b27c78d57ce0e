use Rattle.std.proofs.Common.{◌≡◌, ◌++◌, ℕ, List, refl, subst}
use Rattle.md5.specs.Md5.{Holds}
use Rattle.fsl_checkin.specs.Exports.{perm_of}
use Rattle.fsl_checkin.specs.Sums.{summed}
use Rattle.fsl_checkin.proofs.verifying.absorb.Goals as goal

pub returns-in-Ok-Some-clause-absorbed : goal.returns-in-Ok-Some-clause-absorbed
returns-in-Ok-Some-clause-absorbed g c =
    let file = c.args.file.now in
    let content = rw c.in-Ok-Some.field-0-is at c.in-Ok-Some.ensures.content in
    let taken : summed c.bytes.result.now c.bytes-in-Ok-Some-2.result.now ≡ summed file.path c.in-Ok-Some.bytes = λ i. summed (c.bytes.ensures i) (c.bytes-in-Ok-Some-2.ensures i) in (
      record { path = file.path; perm = perm_of file.perm; bytes = c.in-Ok-Some.bytes },
      record { name = content.0; own = content.1; path = refl; perm = refl; content = content.2 },
      λ m holds. subst (λ (l : List ℕ). Holds c.take_file.new.hasher (m ++ l)) taken (c.take_file.ensures m holds),
    )

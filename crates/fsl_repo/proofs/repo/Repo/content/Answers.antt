use Rattle.std.proofs.Common.{◌≡◌, None, subst, sym, ap, refl, ◌↔◌}
use Rattle.fsl_disk.specs.Disk.{Quiet}
use Rattle.std.specs.Prelude.{Err, IfOk, IfErr, OnOk}
use Rattle.std.specs.FinMap as map_of
use Rattle.fsl_blobs.specs.declared.BlobFault.TheVariants as blob_fault
use Rattle.fsl_repo.specs.Contents.{IsContentNow, ContentFails}
use Rattle.fsl_repo.specs.Machine.{Leaves, now}
use Rattle.fsl_repo.specs.Keeping.{state_of}
use Rattle.fsl_repo.specs.Whole.{is_modelled, log_of}
use Rattle.fsl_repo.proofs.Givings.{read_keeps, read_leaves, read_same, content_is, content_fails, absent_now}
use Rattle.fsl_repo.proofs.repo.Repo.content.Goals as goal

pub returns-clause-bytes : goal.returns-clause-bytes
returns-clause-bytes g c =
    let r = c.self.inside in
    let d0 = g.D.Disk.state r.disk in
    subst (λ v. IfOk c.content.result (IsContentNow v.seen.state c.args.name)) c.self.view_is
    (content_is r.journal r.blobs d0 c.self.invariant.same c.self.invariant.cached c.args.name c.content.result c.content.ensures.bytes)

pub returns-clause-absent : goal.returns-clause-absent
returns-clause-absent g c =
    let r = c.self.inside in
    let d0 = g.D.Disk.state r.disk in
    subst (λ v. (c.content.result ≡ Err blob_fault.Absent) ↔ (map_of.get (now v.seen.state).held c.args.name ≡ None)) c.self.view_is
    (absent_now r.journal r.blobs d0 c.self.invariant.same c.self.invariant.cached c.args.name c.content.ensures.absent)

pub returns-clause-fault : goal.returns-clause-fault
returns-clause-fault g c =
    let r = c.self.inside in
    let d0 = g.D.Disk.state r.disk in
    let d1 = g.D.Disk.state c.content.new.disk in
    let s2 = state_of r.journal c.content.new.self d1.faults (is_modelled d1) in
    subst (λ v. IfErr c.content.result (λ fault. ContentFails fault v.seen.state c.args.name s2)) c.self.view_is
    (content_fails r.journal r.blobs d0 c.self.invariant.same c.self.invariant.cached c.args.name c.content.result d1 s2 refl c.content.ensures.absent c.content.ensures.fault)

pub returns-clause-count : goal.returns-clause-count
returns-clause-count g c =
    let r = c.self.inside in
    let d0 = g.D.Disk.state r.disk in
    let d1 = g.D.Disk.state c.content.new.disk in
    let s2 = state_of r.journal c.content.new.self d1.faults (is_modelled d1) in
    subst (λ v. OnOk c.content.result (s2 ≡ v.seen.state)) c.self.view_is
    (read_same r.journal r.blobs c.content.new.self d0 d1 c.content.ensures.value c.content.ensures.quiet c.content.result c.content.ensures.count)

pub returns-clause-state : goal.returns-clause-state
returns-clause-state g c =
    let r = c.self.inside in
    let d0 = g.D.Disk.state r.disk in
    let d1 = g.D.Disk.state c.content.new.disk in
    let s2 = state_of r.journal c.content.new.self d1.faults (is_modelled d1) in
    subst (λ v. Leaves v.seen.state v.seen.state s2) c.self.view_is
    (read_leaves r.journal r.blobs c.content.new.self d0 d1 c.content.ensures.value c.content.ensures.quiet c.content.ensures.later)

pub invariant_of-self : goal.invariant_of-self
invariant_of-self g c =
    let r = c.self.inside in
    let d0 = g.D.Disk.state r.disk in
    let d1 = g.D.Disk.state c.content.new.disk in
    read_keeps r.journal r.blobs c.content.new.self d0 d1 c.content.ensures.value c.content.ensures.quiet r.tables r.loaded r.stored c.self.invariant c.content.ensures.belongs c.content.ensures.kept

pub content-requires : goal.content-requires
content-requires g c = record { same = c.self.invariant.same; belongs = c.self.invariant.belongs }

pub returns-clause-log : goal.returns-clause-log
returns-clause-log g c = ap (λ v. log_of v) c.self.view_is

pub returns-clause-items : goal.returns-clause-items
returns-clause-items g c = ap (λ v. v.seen.items) c.self.view_is

pub returns-clause-loaded : goal.returns-clause-loaded
returns-clause-loaded g c = ap (λ v. v.seen.loaded) c.self.view_is

pub returns-clause-quiet : goal.returns-clause-quiet
returns-clause-quiet g c = subst (λ v. Quiet (g.D.Disk.state v.disk) (g.D.Disk.state c.content.new.disk)) c.self.view_is c.content.ensures.quiet

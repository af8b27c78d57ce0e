use Rattle.std.proofs.Common.{ap, subst, ◌∙◌, ◌≡◌}
use Rattle.std.specs.Prelude.{⊤, Err, Ok, None, true}
use Rattle.fsl_blobs.specs.Fold.{contents}
use Rattle.fsl_blobs.specs.Held.{state_of}
use Rattle.fsl_repo.specs.declared.Arrival.TheVariants as arrival
use Rattle.fsl_repo.specs.declared.ArriveFault.TheVariants as arrive_fault
use Rattle.fsl_repo.specs.Keeping as keeping
use Rattle.fsl_repo.specs.Whole.{is_modelled}
use Rattle.fsl_repo.specs.Machine.{IsDueOrMemory}
use Rattle.fsl_repo.specs.Arriving.{IsPublishing, is_private}
use Rattle.fsl_repo.proofs.Publishing.{published_kept, published_step, private_item}
use Rattle.fsl_cross.specs.Tables.{IsAsBefore}
use Rattle.fsl_repo.proofs.Undoing.{as_before, as_kept}
use Rattle.fsl_repo.proofs.repo.Repo.publish.Goals as goal

pub invariant_of-self-2 : goal.invariant_of-self-2
invariant_of-self-2 g c =
    let r = c.self.inside in
    let disk = g.D.Disk.state r.disk in
    let private : is_private (state_of (contents r.journal.records) c.args.name) ≡ true = ap (λ v. is_private (state_of (contents v.seen.state.records) c.args.name)) c.self.view_is ∙ c.requires.private in
    let runs : r.journal.stopped ≡ None = ap (λ v. v.seen.state.stopped) c.self.view_is ∙ c.requires.runs in
    published_kept r.journal r.blobs r.tables r.loaded r.stored disk c.self.invariant c.args.name private
    c.keep.new.journal c.keep.new.blobs c.publish.new.self runs c.in_default.ensures.journal c.in_default.ensures.blobs c.in_default.ensures.fit c.in-Ok.ensures.items c.in-Ok.ensures.fields c.announced_are_new.ensures

pub returns-clause-step : goal.returns-clause-step
returns-clause-step g c =
    let r = c.self.inside in
    let disk = g.D.Disk.state r.disk in
    let private : is_private (state_of (contents r.journal.records) c.args.name) ≡ true = ap (λ v. is_private (state_of (contents v.seen.state.records) c.args.name)) c.self.view_is ∙ c.requires.private in
    let runs : r.journal.stopped ≡ None = ap (λ v. v.seen.state.stopped) c.self.view_is ∙ c.requires.runs in
    subst (λ v. IsDueOrMemory v.seen.state (IsPublishing v.seen.state c.args.name) (Err arrive_fault.Memory) ⊤ (Ok arrival.Published) (keeping.state_of c.keep.new.journal c.keep.new.blobs disk.faults (is_modelled disk))) c.self.view_is
    (published_step r.journal r.blobs r.tables r.loaded r.stored disk c.self.invariant c.args.name private
    c.keep.new.journal c.keep.new.blobs c.publish.new.self runs c.in_default.ensures.journal c.in_default.ensures.blobs)

pub publish-requires : goal.publish-requires
publish-requires g c =
    let r = c.self.inside in
    let private : is_private (state_of (contents r.journal.records) c.args.name) ≡ true = ap (λ v. is_private (state_of (contents v.seen.state.records) c.args.name)) c.self.view_is ∙ c.requires.private in
    private_item (contents r.journal.records) r.tables.items c.args.name c.self.invariant.items private

pub undo-requires : goal.undo-requires
undo-requires g c = as_before _ _ c.in-Ok.ensures.after

pub invariant_of-self-in-Err-keep : goal.invariant_of-self-in-Err-keep
invariant_of-self-in-Err-keep g c =
    let r = c.self.inside in
    as_kept r.journal c.keep.new.journal r.blobs c.keep.new.blobs r.tables c.undo.new.self r.loaded r.stored (g.D.Disk.state r.disk) c.self.invariant
    c.in-Err-keep.ensures.journal_err c.in-Err-keep.ensures.blobs_err (subst (λ before. IsAsBefore before c.undo.new.self) c.in-Ok.ensures.before c.undo.ensures)

use Rattle.std.proofs.Common.{◌≡◌, ℕ, Bool, ◌+◌, cond, length, map, refl, ap, subst, ◌∙◌, arith}
use Rattle.std.specs.Prelude.{⊤, Err, Ok, None, true}
use Rattle.std.specs.FinSet as set
use Rattle.fsl_order.specs.Names.{has}
use Rattle.fsl_blobs.specs.Fold.{contents}
use Rattle.fsl_cluster.specs.Clusters as clusters
use Rattle.fsl_cross.specs.Facts.{cluster_fact}
use Rattle.fsl_repo.specs.declared.Unshunning.TheVariants as unshunning
use Rattle.fsl_repo.specs.declared.UnshunFault.TheVariants as unshun_fault
use Rattle.fsl_repo.specs.Keeping as keeping
use Rattle.fsl_repo.specs.Machine.{IsDueOrMemory}
use Rattle.fsl_repo.specs.Whole.{is_modelled}
use Rattle.fsl_repo.proofs.Clusterings.{clusters_are}
use Rattle.fsl_repo.proofs.Undoing.{as_before, as_kept}
use Rattle.fsl_repo.proofs.Unshuns.{IsUnlisting, wanted_is, byte_is, full_step, unlisted_step, unlisted_kept, unlisted_state}
use Rattle.fsl_repo.proofs.repo.Repo.unlist.Goals as goal

pub returns-then-wants-gt-MOST_NAMES-clause-step : goal.returns-then-wants-gt-MOST_NAMES-clause-step
returns-then-wants-gt-MOST_NAMES-clause-step g c =
    let r = c.self.inside in
    let disk = g.D.Disk.state r.disk in
    let s = keeping.state_of r.journal r.blobs disk.faults (is_modelled disk) in
    let runs : r.journal.stopped ≡ None = ap (λ v. v.seen.state.stopped) c.self.view_is ∙ c.requires.runs in
    let listed : set.contains (contents r.journal.records).shunned c.args.name ≡ true = ap (λ v. set.contains (contents v.seen.state.records).shunned c.args.name) c.self.view_is ∙ c.requires.listed in
    let are = clusters_are (contents r.journal.records).held r.tables.items r.tables.fields c.self.invariant.items in
    let wants : length c.items.result.now ≡ length (clusters.wants (map cluster_fact r.tables.items) (set.items (contents r.journal.records).shunned)) =
    ap length (c.items.ensures ∙ c.in-Ok.ensures) ∙ ap (λ fs. length (clusters.wants fs (set.items (contents r.blobs.records).shunned))) (c.cluster.ensures.facts ∙ are)
    ∙ ap (λ rs. length (clusters.wants (map cluster_fact r.tables.items) (set.items (contents rs).shunned))) c.self.invariant.same.records in
    let missing : c.from-missing.result ≡ cond (has (clusters.missing (map cluster_fact r.tables.items)) c.args.name) 1 0 =
    c.from-missing.ensures ∙ byte_is c.is_missing.result ∙ ap (λ (b : Bool). cond {A = ℕ} b 1 0) (c.is_missing.ensures ∙ ap (λ fs. has (clusters.missing fs) c.args.name) (c.cluster-2.ensures.facts ∙ are)) in
    let then = wanted_is s c.args.name runs listed r.tables.items c.self.invariant.items (length c.items.result.now) c.from-missing.result wants missing in
    subst (λ v. IsDueOrMemory v.seen.state (IsUnlisting v.seen.state c.args.name) (Err unshun_fault.Memory) ⊤ (Err (unshun_fault.Full (length c.items.result.now + c.from-missing.result))) v.seen.state) c.self.view_is
    (full_step s c.args.name runs listed r.tables.items c.self.invariant.items (length c.items.result.now + c.from-missing.result) then (omega (arith, c.if-wants-gt-MOST_NAMES.true)))

pub invariant_of-self : goal.invariant_of-self
invariant_of-self g c =
    let r = c.self.inside in
    let disk = g.D.Disk.state r.disk in
    let runs : r.journal.stopped ≡ None = ap (λ v. v.seen.state.stopped) c.self.view_is ∙ c.requires.runs in
    unlisted_kept r.journal r.blobs r.tables r.loaded r.stored disk c.self.invariant c.args.name c.keep.new.journal c.keep.new.blobs runs c.in-Ok-keep.ensures.journal c.in-Ok-keep.ensures.blobs
    c.in-Ok-keep.ensures.fit c.announced_are_new.ensures

pub returns-in-Ok-keep-clause-step : goal.returns-in-Ok-keep-clause-step
returns-in-Ok-keep-clause-step g c =
    let r = c.self.inside in
    let disk = g.D.Disk.state r.disk in
    let s = keeping.state_of r.journal r.blobs disk.faults (is_modelled disk) in
    let s2 = keeping.state_of c.keep.new.journal c.keep.new.blobs disk.faults (is_modelled disk) in
    let runs : r.journal.stopped ≡ None = ap (λ v. v.seen.state.stopped) c.self.view_is ∙ c.requires.runs in
    let listed : set.contains (contents r.journal.records).shunned c.args.name ≡ true = ap (λ v. set.contains (contents v.seen.state.records).shunned c.args.name) c.self.view_is ∙ c.requires.listed in
    let are = clusters_are (contents r.journal.records).held r.tables.items r.tables.fields c.self.invariant.items in
    let wants : length c.items.result.now ≡ length (clusters.wants (map cluster_fact r.tables.items) (set.items (contents r.journal.records).shunned)) =
    ap length (c.items.ensures ∙ c.in-Ok.ensures) ∙ ap (λ fs. length (clusters.wants fs (set.items (contents r.blobs.records).shunned))) (c.cluster.ensures.facts ∙ are)
    ∙ ap (λ rs. length (clusters.wants (map cluster_fact r.tables.items) (set.items (contents rs).shunned))) c.self.invariant.same.records in
    let missing : c.from-missing.result ≡ cond (has (clusters.missing (map cluster_fact r.tables.items)) c.args.name) 1 0 =
    c.from-missing.ensures ∙ byte_is c.is_missing.result ∙ ap (λ (b : Bool). cond {A = ℕ} b 1 0) (c.is_missing.ensures ∙ ap (λ fs. has (clusters.missing fs) c.args.name) (c.cluster-2.ensures.facts ∙ are)) in
    let then = wanted_is s c.args.name runs listed r.tables.items c.self.invariant.items (length c.items.result.now) c.from-missing.result wants missing in
    let goes = unlisted_state r.journal r.blobs r.tables r.loaded r.stored disk c.self.invariant c.args.name c.keep.new.journal c.keep.new.blobs runs c.in-Ok-keep.ensures.journal c.in-Ok-keep.ensures.blobs disk.faults (is_modelled disk) in
    subst (λ v. IsDueOrMemory v.seen.state (IsUnlisting v.seen.state c.args.name) (Err unshun_fault.Memory) ⊤ (Ok unshunning.Unshunned) s2) c.self.view_is
    (unlisted_step s c.args.name runs listed r.tables.items c.self.invariant.items (length c.items.result.now + c.from-missing.result) then (omega (arith, c.if-wants-gt-MOST_NAMES.false)) s2 goes)

pub invariant_of-self-2 : goal.invariant_of-self-2
invariant_of-self-2 g c =
    let r = c.self.inside in
    as_kept r.journal c.keep.new.journal r.blobs c.keep.new.blobs r.tables r.tables r.loaded r.stored (g.D.Disk.state r.disk) c.self.invariant
    c.in-Err.ensures.journal_err c.in-Err.ensures.blobs_err (as_before r.tables r.tables refl)

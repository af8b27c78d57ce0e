use Rattle.std.proofs.Common.{◌∙◌, sym, ap, refl, subst, Some, List, ℕ, Option, reverse}
use Rattle.fsl_disk.specs.History.{AreKept, beginning}
use Rattle.fsl_disk.proofs.Failing.{no_success, on_failure, kept_still, seen_still}
use Rattle.fsl_disk.proofs.history.History.cut.Goals as goal

pub invariant_of-self : goal.invariant_of-self
invariant_of-self c =
    let h = c.self.inside in
    subst (λ (first : Option (List ℕ)). AreKept (beginning first h.bytes.items) h.changes.items h.synced h.bytes.items) (sym c.in_err-keep_first.ensures.err) c.self.invariant

pub returns-in_err-keep_first-clause-ok : goal.returns-in_err-keep_first-clause-ok
returns-in_err-keep_first-clause-ok c = no_success c.from_residual.result _ c.from_residual.ensures.1 _

pub returns-in_err-keep_first-clause-err : goal.returns-in_err-keep_first-clause-err
returns-in_err-keep_first-clause-err c =
    let h = c.self.inside in
    on_failure c.from_residual.result _ c.from_residual.ensures.1 _
    ((λ i. record { first = beginning (c.in_err-keep_first.ensures.err i) h.bytes.items; changes = reverse h.changes.items }) ∙ c.self.view_is)

pub invariant_of-self-in_err-push : goal.invariant_of-self-in_err-push
invariant_of-self-in_err-push c =
    let h = c.self.inside in
    let first = c.in_ok-keep_first.ensures.ok ∙ ap (λ (l : List ℕ). Some (beginning h.first l)) c.deref.ensures.value in
    kept_still h.first c.keep_first.new.first h.bytes.items h.bytes.items h.changes.items c.push.new.self.items h.synced first c.in_err-push.ensures.items refl c.self.invariant

pub returns-in_err-push-clause-ok : goal.returns-in_err-push-clause-ok
returns-in_err-push-clause-ok c = no_success c.from_residual-in_err-push.result _ c.from_residual-in_err-push.ensures.1 _

pub returns-in_err-push-clause-err : goal.returns-in_err-push-clause-err
returns-in_err-push-clause-err c =
    let h = c.self.inside in
    let first = c.in_ok-keep_first.ensures.ok ∙ ap (λ (l : List ℕ). Some (beginning h.first l)) c.deref.ensures.value in
    on_failure c.from_residual-in_err-push.result _ c.from_residual-in_err-push.ensures.1 _
    (seen_still h.first c.keep_first.new.first h.bytes.items h.bytes.items h.changes.items c.push.new.self.items h.synced first c.in_err-push.ensures.items refl c.args.self.now c.self.view_is)

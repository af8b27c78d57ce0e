use Rattle.std.proofs.Common.{◌∙◌, sym, ap, refl, subst, Some, List, ℕ, Option, reverse}
use Rattle.fsl_disk.specs.History.{AreKept, beginning}
use Rattle.fsl_disk.proofs.Failing.{no_success, on_failure, kept_still, seen_still}
use Rattle.fsl_disk.proofs.history.History.write.Goals as goal

pub invariant_of-self : goal.invariant_of-self
invariant_of-self c =
    let h = c.self.inside in
    subst (λ (first : Option (List ℕ)). AreKept (beginning first h.bytes.items) h.changes.items h.synced h.bytes.items) (sym c.in_err-keep_first.ensures.err) c.self.invariant

pub returns-in_err-keep_first-clause-ok : goal.returns-in_err-keep_first-clause-ok
returns-in_err-keep_first-clause-ok c = no_success c.from_residual.result _ c.from_residual.ensures.1 _

pub returns-in_err-keep_first-clause-err : goal.returns-in_err-keep_first-clause-err
returns-in_err-keep_first-clause-err c =
    let h = c.self.inside in
    on_failure c.from_residual.result _ c.from_residual.ensures.1 _
    ((λ i. record { first = beginning (c.in_err-keep_first.ensures.err i) h.bytes.items; changes = reverse h.changes.items }) ∙ c.self.view_is)

pub invariant_of-self-in_err-kept : goal.invariant_of-self-in_err-kept
invariant_of-self-in_err-kept c =
    let h = c.self.inside in
    let first = c.in_ok-keep_first.ensures.ok ∙ ap (λ (l : List ℕ). Some (beginning h.first l)) c.deref.ensures.value in
    kept_still h.first c.keep_first.new.first h.bytes.items h.bytes.items h.changes.items h.changes.items h.synced first refl refl c.self.invariant

pub returns-in_err-kept-clause-ok : goal.returns-in_err-kept-clause-ok
returns-in_err-kept-clause-ok c = no_success c.from_residual-in_err-kept.result _ c.from_residual-in_err-kept.ensures.1 _

pub returns-in_err-kept-clause-err : goal.returns-in_err-kept-clause-err
returns-in_err-kept-clause-err c =
    let h = c.self.inside in
    let first = c.in_ok-keep_first.ensures.ok ∙ ap (λ (l : List ℕ). Some (beginning h.first l)) c.deref.ensures.value in
    on_failure c.from_residual-in_err-kept.result _ c.from_residual-in_err-kept.ensures.1 _
    (seen_still h.first c.keep_first.new.first h.bytes.items h.bytes.items h.changes.items h.changes.items h.synced first refl refl c.args.self.now c.self.view_is)

pub invariant_of-self-in_err-reserve : goal.invariant_of-self-in_err-reserve
invariant_of-self-in_err-reserve c =
    let h = c.self.inside in
    let first = c.in_ok-keep_first.ensures.ok ∙ ap (λ (l : List ℕ). Some (beginning h.first l)) c.deref.ensures.value in
    kept_still h.first c.keep_first.new.first h.bytes.items h.bytes.items h.changes.items c.reserve.new.self.items h.synced first c.reserve.ensures.items refl c.self.invariant

pub returns-in_err-reserve-clause-ok : goal.returns-in_err-reserve-clause-ok
returns-in_err-reserve-clause-ok c = no_success c.from_residual-in_err-reserve.result _ c.from_residual-in_err-reserve.ensures.1 _

pub returns-in_err-reserve-clause-err : goal.returns-in_err-reserve-clause-err
returns-in_err-reserve-clause-err c =
    let h = c.self.inside in
    let first = c.in_ok-keep_first.ensures.ok ∙ ap (λ (l : List ℕ). Some (beginning h.first l)) c.deref.ensures.value in
    on_failure c.from_residual-in_err-reserve.result _ c.from_residual-in_err-reserve.ensures.1 _
    (seen_still h.first c.keep_first.new.first h.bytes.items h.bytes.items h.changes.items c.reserve.new.self.items h.synced first c.reserve.ensures.items refl c.args.self.now c.self.view_is)

pub invariant_of-self-in_err-put : goal.invariant_of-self-in_err-put
invariant_of-self-in_err-put c =
    let h = c.self.inside in
    let first = c.in_ok-keep_first.ensures.ok ∙ ap (λ (l : List ℕ). Some (beginning h.first l)) c.deref.ensures.value in
    kept_still h.first c.keep_first.new.first h.bytes.items c.put.new.bytes.items h.changes.items c.reserve.new.self.items h.synced first c.reserve.ensures.items c.in_err-put.ensures.err c.self.invariant

pub returns-in_err-put-clause-ok : goal.returns-in_err-put-clause-ok
returns-in_err-put-clause-ok c = no_success c.from_residual-in_err-put.result _ c.from_residual-in_err-put.ensures.1 _

pub returns-in_err-put-clause-err : goal.returns-in_err-put-clause-err
returns-in_err-put-clause-err c =
    let h = c.self.inside in
    let first = c.in_ok-keep_first.ensures.ok ∙ ap (λ (l : List ℕ). Some (beginning h.first l)) c.deref.ensures.value in
    on_failure c.from_residual-in_err-put.result _ c.from_residual-in_err-put.ensures.1 _
    (seen_still h.first c.keep_first.new.first h.bytes.items c.put.new.bytes.items h.changes.items c.reserve.new.self.items h.synced first c.reserve.ensures.items c.in_err-put.ensures.err c.args.self.now c.self.view_is)

use Rattle.std.proofs.Common.{◌≡◌, List, ℕ, reverse, drop, rules, sym, ap, subst, ◌∙◌}
use Rattle.std.proofs.lemmas.List.{take_rest}
use Rattle.fsl_disk.specs.Change.{Leaves, stable, reads}
use Rattle.fsl_disk.specs.History.{Past, beginning}
use Rattle.fsl_disk.specs.Memory.{reads_left}
use Rattle.fsl_disk.specs.declared.change.Change.{Change}
use Rattle.fsl_disk.proofs.Stopping.{torn_left, stable_left}
use Rattle.fsl_disk.proofs.history.History.crashed.Goals as goal

pub returns-then-pick-eq1-clause-image : goal.returns-then-pick-eq1-clause-image
returns-then-pick-eq1-clause-image c =
    let is : c.in_ok-to_vec.field-0.items ≡ reads c.args.self.now.first c.args.self.now.changes = search rules in
    subst (λ (l : List ℕ). Leaves c.args.self.now.first c.args.self.now.changes l) (sym is) (reads_left c.args.self.now.first c.args.self.now.changes)

pub returns-then-pick-eq0-clause-image : goal.returns-then-pick-eq0-clause-image
returns-then-pick-eq0-clause-image c =
    subst (λ (l : List ℕ). Leaves c.args.self.now.first c.args.self.now.changes l) (sym c.in_ok-bytes.ensures) (stable_left c.args.self.now.first c.args.self.now.changes)

pub returns-clause-image : goal.returns-clause-image
returns-clause-image c =
    let first : List ℕ = beginning c.self.inside.first c.self.inside.bytes.items in
    let changes : List Change = c.self.inside.changes.items in
    let begins : c.in_ok-bytes.bytes.items ≡ stable (beginning c.self.inside.first c.self.inside.bytes.items) (reverse c.self.inside.changes.items) =
    c.in_ok-bytes.ensures ∙ ap (λ (p : Past). stable p.first p.changes) (sym c.self.view_is) in
    let rest = take_rest c.deref-2.result.now c.self.inside.synced ∙ ap (λ (l : List Change). drop c.self.inside.synced l) c.deref-2.ensures.value in
    subst (λ (p : Past). Leaves p.first p.changes c.tear.new.image.items) c.self.view_is
    (torn_left (beginning c.self.inside.first c.self.inside.bytes.items) c.in_ok-bytes.bytes.items c.tear.new.image.items c.self.inside.changes.items _ c.self.inside.synced rest
    c.self.invariant.settled begins c.in_ok-tear.ensures)

use Rattle.std.proofs.Common.{◌∙◌, ◌&&◌, not, sym}
use Rattle.fsl_table.proofs.Outcomes.{both_ok}
use Rattle.fsl_ticket.specs.Kept.{is_kept_set, is_set_of}
use Rattle.fsl_ticket.proofs.Settings.{sets_without, sets_stay}
use Rattle.fsl_ticket.proofs.sets.unset.Goals as goal

pub returns-in-None-clause-sets : goal.returns-in-None-clause-sets
returns-in-None-clause-sets g c = sets_stay c.args.facts.now.held.entries c.args.sets.now.held.entries c.args.name c.requires.sets c.requires.ordered (sym c.in-None.ensures.value)

pub returns-in-Some-clause-sets : goal.returns-in-Some-clause-sets
returns-in-Some-clause-sets g c =
    let es = c.args.facts.now.held.entries in
    let ss = c.args.sets.now.held.entries in
    let e = c.in-Some.entry.now in
    both_ok c.take_sets.result
    (λ sorted are. sets_without es ss c.take_sets.new.sets.held.entries c.args.name e c.requires.sets c.requires.ordered (sym c.in-Some.ensures.value) sorted
    (λ k. are k ∙ (λ i. not (is_set_of e.id (c.new-place.ensures i) (c.items.ensures i) k) && is_kept_set ss k)))
    c.take_sets.ensures.ordered c.take_sets.ensures.sets

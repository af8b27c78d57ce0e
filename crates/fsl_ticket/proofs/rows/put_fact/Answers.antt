use Rattle.std.proofs.Common.{◌∙◌, ◌||◌, sym, subst}
use Rattle.fsl_table.proofs.Outcomes.{both_ok}
use Rattle.fsl_ticket.specs.Kept.{AreSets, entry_of, is_kept_set, is_set_of}
use Rattle.fsl_ticket.proofs.Settings.{sets_with}
use Rattle.fsl_ticket.proofs.rows.put_fact.Goals as goal

pub returns-in-Ok-clause-kept : goal.returns-in-Ok-clause-kept
returns-in-Ok-clause-kept g c =
    let f = c.args.fact in
    let es = c.args.maps.now.facts.held.entries in
    let ss = c.args.maps.now.sets.held.entries in
    let rs = c.put_sets.new.sets.held.entries in
    both_ok c.lay.result
    (λ put laid. record {
      laid = laid;
      sets = subst (λ es. AreSets es rs) (sym put)
          (sets_with es ss rs f.name (entry_of f) c.requires.kept.sets c.requires.absent c.in-Ok.ensures.ordered
          (λ k. c.in-Ok.ensures.sets k ∙ (λ i. is_kept_set ss k || is_set_of f.id (c.new-place.ensures i) (c.items.ensures i) k)));
    })
    c.lay.ensures.entries c.lay.ensures.laid

pub returns-in-Ok-clause-was : goal.returns-in-Ok-clause-was
returns-in-Ok-clause-was g c = λ i. record { facts = c.lay.ensures.facts_was i; spots = c.lay.ensures.spots_was i; sets = c.in-Ok.ensures.was i }

pub returns-in-Err-clause-was : goal.returns-in-Err-clause-was
returns-in-Err-clause-was g c = λ i. record { facts = c.args.maps.now.facts.was; spots = c.args.maps.now.spots.was; sets = c.in-Err.ensures.was i }

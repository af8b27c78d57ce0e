use Rattle.std.proofs.Common.{sym, subst}
use Rattle.fsl_cross.specs.Trails.{LeadsBy}
use Rattle.fsl_cross.proofs.Trailing.{by-last, by-pop}
use Rattle.fsl_cross.proofs.reversible.take_all_back.Goals as goal

pub loop-undo-init : goal.loop-undo-init
loop-undo-init g c = λ first h. subst (λ us. LeadsBy g.T.Reversible.is_good g.T.Reversible.before g.T.Reversible.after first us (g.T.Reversible.seen c.args.table.now)) (sym c.into_vec-left.ensures) h

pub take_back-requires : goal.take_back-requires
take_back-requires g c =
    by-last g.T.Reversible.is_good g.T.Reversible.before g.T.Reversible.after c.requires.0 c.pop.new.undos.items c.in-Some.undo (g.T.Reversible.seen c.loop-undo.table)
    (subst (λ us. LeadsBy g.T.Reversible.is_good g.T.Reversible.before g.T.Reversible.after c.requires.0 us (g.T.Reversible.seen c.loop-undo.table)) c.in-Some.ensures (c.loop-undo.invariant c.requires.0 c.requires.1))

pub loop-undo-preserved : goal.loop-undo-preserved
loop-undo-preserved g c = λ first h.
    by-pop g.T.Reversible.is_good g.T.Reversible.before g.T.Reversible.after g.met.T.Reversible.good_chain first c.pop.new.undos.items c.in-Some.undo (g.T.Reversible.seen c.loop-undo.table) (g.T.Reversible.seen c.take_back.new.self)
    (subst (λ us. LeadsBy g.T.Reversible.is_good g.T.Reversible.before g.T.Reversible.after first us (g.T.Reversible.seen c.loop-undo.table)) c.in-Some.ensures (c.loop-undo.invariant first h)) c.take_back.ensures

pub returns : goal.returns
returns g c = λ first h. subst (λ us. LeadsBy g.T.Reversible.is_good g.T.Reversible.before g.T.Reversible.after first us (g.T.Reversible.seen c.loop-undo.table)) c.in_default.ensures.0 (c.loop-undo.invariant first h)

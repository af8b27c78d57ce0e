use Rattle.std.proofs.Common.{sym, ap, subst}
use Rattle.fsl_order.specs.TableState.{IsAsBefore}
use Rattle.fsl_timeline.specs.Kept.{ends_of, held_of, rows_in, starts_of}
use Rattle.fsl_timeline.proofs.Canonical.{as_good, good_as, kept_good}
use Rattle.fsl_timeline.proofs.timeline.Timeline.take_back.Goals as goal

pub undo-requires : goal.undo-requires
undo-requires g c =
    good_as (ends_of c.undo.inside.ways) (rows_in c.self.inside.maps) c.undo.invariant.1 c.self.invariant
    (subst (λ a. IsAsBefore a (held_of (rows_in c.self.inside.maps))) (sym (ap (λ u. u.after) c.undo.view_is)) (subst (IsAsBefore c.args.undo.after) (sym c.self.view_is) c.requires.last))

pub invariant_of-self : goal.invariant_of-self
invariant_of-self g c = kept_good (starts_of c.undo.inside.ways) (rows_in c.undo-2.new.self) c.undo-2.ensures c.undo.invariant.0

pub returns : goal.returns
returns g c =
    subst (λ b. IsAsBefore b (held_of (rows_in c.undo-2.new.self))) (ap (λ u. u.before) c.undo.view_is) (as_good (starts_of c.undo.inside.ways) (rows_in c.undo-2.new.self) c.undo-2.ensures)

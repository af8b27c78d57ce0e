use Rattle.std.proofs.Common.{arith, sym, ap, subst, refl, ◌∙◌, ◌≡◌, get_or, false}
use Rattle.std.specs.Prelude.{IsSome, IsTrue}
use mathlib.Core.Option.{some-injective}
use Rattle.fsl_history.specs.Rule.{back_in}
use Rattle.fsl_history.specs.Entries.{IsClosed}
use Rattle.fsl_history.proofs.Lists.{unset, some_or}
use Rattle.fsl_history.proofs.Keeper.{closes_at}
use Rattle.fsl_history.proofs.housed.emptied.Goals as goal

pub close_with-closed-requires : goal.close_with-closed-requires
close_with-closed-requires g c = c.requires.table.0

pub take-slot-requires : goal.take-slot-requires
take-slot-requires g c =
    let e = c.close_with-closed.ensures in
    let long = e.counts.1 ∙ c.requires.table.1 in
    (omega (arith, long), subst (λ b. IsTrue b) (sym (e.values.1 0 (omega arith) (omega (arith, long)))) refl)

pub free-requires : goal.free-requires
free-requires g c =
    let o = c.take-slot.ensures.others in
    let long = o.2 ∙ c.close_with-closed.ensures.counts.1 ∙ c.requires.table.1 in
    λ k below. subst (λ l. get_or l k false ≡ false) (sym o.1) (unset _ k (omega (arith, long, below)))

pub unwrap-requires : goal.unwrap-requires
unwrap-requires g c =
    let k = c.requires.all in
    let done = closes_at g.M.Machine.may_step g.M.Machine.stored_count c.args.table.shared.key.items c.args.seat.id c.args.seat.me.0 k.0 k.1 _ _ k.3 (ap (λ x. x.0) k.4) k.2 c.close_with-closed.ensures.values.2 in
    let is = some-injective _ _ (sym c.take-slot.ensures.value ∙ done.1) in
    subst (λ o. IsSome o) (sym is) refl

pub returns : goal.returns
returns g c =
    let k = c.requires.all in
    let done = closes_at g.M.Machine.may_step g.M.Machine.stored_count c.args.table.shared.key.items c.args.seat.id c.args.seat.me.0 k.0 k.1 _ _ k.3 (ap (λ x. x.0) k.4) k.2 c.close_with-closed.ensures.values.2 in
    let is = some-injective _ _ (sym c.take-slot.ensures.value ∙ done.1) in
    let u = c.unwrap.ensures in
    let same = ap (λ o. some_or o done.0) (sym is ∙ u) in
    subst (λ v. IsClosed g.M.Machine.may_step g.M.Machine.stored_count c.args.table.shared.key.items (back_in v) c.unwrap.result) (sym (ap (λ x. x.0) k.4))
    (subst (λ m. IsClosed g.M.Machine.may_step g.M.Machine.stored_count c.args.table.shared.key.items k.1 m) same done.2)

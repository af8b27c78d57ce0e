use Rattle.std.proofs.Common.{◌≡◌, ℕ, Bool, true, false, cond, List, [], Option, Some, ap, ◌∙◌, refl}
use Rattle.std.specs.Option.{unwrap_or}
use Rattle.std.specs.Str.{bytes_eq}
use Rattle.std.specs.BTreeMap.{is_at}
use Rattle.fsl_order.specs.Names.{bytes_cmp}
use Rattle.fsl_ticket.specs.Tickets.{after}
use Rattle.fsl_ticket.specs.Seen.{look, value_in}
use Rattle.fsl_ticket.proofs.Looking.{changed_at}
use Rattle.fsl_ticket.proofs.values.take_card.Goals as goal

or_none : (b : Bool) (x : List ℕ) (o : Option (List ℕ)) → unwrap_or (cond b (Some x) o) [] ≡ cond b x (unwrap_or o [])
or_none true x o = refl
or_none false x o = refl

pub returns-in-Ok : goal.returns-in-Ok
returns-in-Ok c q =
    let card = c.args.card.now in
    let old = c.args.values.now.entries in
    let mid = c.take_out.new.values.entries in
    let value = c.take.new.value in
    ap (λ o. unwrap_or o [])
    (changed_at old mid c.insert.new.self.entries card.field value (λ q. after (value_in old q) card) c.in_ok-field.ensures.others
    (λ q. c.in-Ok.ensures.updates.0 q ∙ ap (λ k. cond (is_at (bytes_cmp k) q) (Some value) (look q mid)) c.in_ok-field.ensures.field)
    (c.in_ok-take.ensures ∙ ap (λ v. after v card) c.in_ok-field.ensures.value) q)
    ∙ or_none (bytes_eq card.field q) (after (value_in old q) card) (look q old)

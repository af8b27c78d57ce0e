use Rattle.std.proofs.lemmas.List.{drop_more}
use Rattle.std.proofs.Common.{◌≡◌, ◌||◌, ◌∙◌, ◌∷◌, ◌+◌, drop, ap, sym}
use Rattle.fsl_table.proofs.Linking.{link-step}
use Rattle.fsl_ticket.specs.Kept.{is_kept_set, is_keyed, is_set, is_set_of, replaces}
use Rattle.fsl_ticket.proofs.sets.put_sets.Goals as goal

pub loop-card-preserved : goal.loop-card-preserved
loop-card-preserved g c =
    let i = c.loop-card.card-index in
    let cards = c.args.cards.now in
    let card = c.card-item.result in
    let id = c.args.id in
    let place = c.args.place in
    let ss = c.loop-card.sets.held.entries in
    let cut : drop i cards ≡ card ∷ drop (i + 1) cards = drop_more cards i card c.loop-card-test.true ∙ ap (λ x. x ∷ drop (i + 1) cards) (sym c.card-item.is) in
    record {
      ordered = c.in_ok-put_set.ensures.ordered;
      sets = λ k.
          ap (λ b. b || is_set_of id place (drop (i + 1) cards) k) (c.in_ok-put_set.ensures.sets k)
          ∙ link-step (is_keyed id place k) (replaces card k.first.field) (is_kept_set ss k) (is_set (drop (i + 1) cards) k.first.field) _
          (ap (λ l. is_kept_set ss k || is_set_of id place l k) (sym cut) ∙ c.loop-card.invariant.sets k);
      was = c.put_set.ensures.was ∙ c.loop-card.invariant.was;
    }

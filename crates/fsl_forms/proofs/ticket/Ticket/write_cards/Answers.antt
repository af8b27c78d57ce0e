use Rattle.std.proofs.Common.{◌∙◌, ◌∷◌, [], map}
use Rattle.std.proofs.lemmas.Result.{on_ok_weaker}
use Rattle.fsl_text.specs.Escapes.{escape}
use Rattle.fsl_name.specs.Name.{name_text}
use Rattle.fsl_grammar.specs.Writing.{card}
use Rattle.fsl_forms.specs.Writing.{change_card}
use Rattle.fsl_date.specs.Moment.{moment_text}
use Rattle.fsl_forms.proofs.SpellingLemmas.{ticket_spelled}
use Rattle.fsl_forms.proofs.ticket.Ticket.write_cards.Goals as goal

pub returns : goal.returns
returns c =
    let v = c.args.self.now in
    on_ok_weaker c.write_text_card.result (λ written. (
      c.text.ensures.moment,
      written ∙ rw (c.bytes.ensures, c.in_ok-write_name_card.ensures.ok, c.in_ok-write_changes.ensures, c.items.ensures, c.in_ok-write_card.ensures.ok, c.text.ensures.value)
          (ticket_spelled _ (map change_card v.changes) (card 68 (moment_text v.date ∷ [])) (card 75 (name_text v.id ∷ [])) (card 85 (escape v.user ∷ []))),
    )) c.write_text_card.ensures.ok

-- What a ticket change is written as reads back as the value.
use Rattle.std.proofs.Common.{◌≡◌, ℕ, Bool, true, false, not, List, [], ◌∷◌, map, Option, Some, None, refl, ap, ◌∙◌}
use Rattle.std.specs.Prelude.{if◌then◌else◌, ◌&&◌, ◌||◌, ◌==◌, slice_index}
use Rattle.std.specs.List.{list_all, AllByRecursion}
use Rattle.std.proofs.lemmas.Bool.{and_from}
use Rattle.fsl_order.proofs.Booleans.{first_holds, second_holds}
use Rattle.fsl_text.specs.Bytes.{is_empty}
use Rattle.fsl_text.specs.Escapes.{escape, unescape}
use Rattle.fsl_text.proofs.Unescaping.{unescape-escape}
use Rattle.fsl_name.specs.Name.{IsName, name_text}
use Rattle.fsl_date.specs.Moment.{IsMoment, moment_text}
use Rattle.fsl_card.specs.declared.types.Card.{Card}
use Rattle.fsl_card.specs.Cards.{IsCard, IsTextOf, are_field_arguments, in_order, is_argument}
use Rattle.fsl_grammar.specs.Letters.{ticket_letters}
use Rattle.fsl_grammar.specs.Forms.{given, date_form, hash_form, user_form}
use Rattle.fsl_grammar.specs.Writing.{card, written_if}
use Rattle.fsl_grammar.proofs.WrittenArguments.{is_argument-date, is_argument-escape, is_argument-name}
use Rattle.fsl_grammar.proofs.Blocks.{AreBlocks, block_each, single_block}
use Rattle.fsl_grammar.proofs.FormsAgain.{date_again, hash_again, read_each, user_again}
use Rattle.fsl_grammar.proofs.BlockLemmas.{all_hold, by_form, letters_are, one_read, some_cards, text_is}
use Rattle.fsl_forms.specs.declared.ticket.TicketChange.{TicketChange}
use Rattle.fsl_forms.specs.declared.ticket.Ticket.{Ticket}
use Rattle.fsl_forms.specs.Kinds.{IsTicket, change_form, change_in}
use Rattle.fsl_forms.specs.WellFormed.{is_change_written, is_ticket_well_formed}
use Rattle.fsl_forms.specs.Writing.{IsTicketText, change_card, ticket_cards}

-- ---- one change

-- what a field is written as, before it is escaped
abbrev written_field : Bool → List ℕ → List ℕ
written_field append field = if append then 43 ∷ field else field

change_in_again : (append : Bool) (field : List ℕ) (value : Option (List ℕ)) → (not (is_empty field) && (append || not (slice_index field 0 == 43))) ≡ true
    → change_in (written_field append field) value ≡ Some (record { append = append; field = field; value = value })
change_in_again true field value h = rw (first_holds _ true h) refl
change_in_again false [] value h = absurd cc
change_in_again false (b ∷ rest) value h = by (b == 43) h
  where
    by : (t : Bool) → not t ≡ true → (if t then given {A = TicketChange} (not (is_empty rest)) (record { append = true; field = rest; value = value }) else Some (record { append = false; field = b ∷ rest; value = value })) ≡ Some (record { append = false; field = b ∷ rest; value = value })
    by true k = absurd cc
    by false k = refl

change_again : (c : TicketChange) → is_change_written c ≡ true → change_form (change_card c).args ≡ Some c
change_again c h = by c.value
  where
    by : (value : Option (List ℕ)) → change_form (escape (written_field c.append c.field) ∷ written_if escape value) ≡ Some (record c { value = value })
    by None = ap (λ (name : List ℕ). change_in name None) (unescape-escape (written_field c.append c.field)) ∙ change_in_again c.append c.field None h
    by (Some value) =
        ap (λ (name : List ℕ). change_in name (Some (unescape (escape value)))) (unescape-escape (written_field c.append c.field))
        ∙ change_in_again c.append c.field (Some (unescape (escape value))) h
        ∙ ap (λ (v : List ℕ). Some (record c { value = Some v })) (unescape-escape value)

field_filled : (append : Bool) (field : List ℕ) → not (is_empty field) ≡ true → not (is_empty (written_field append field)) ≡ true
field_filled true field h = refl
field_filled false field h = h

-- a value may be empty
value_fits : (name value : List ℕ) → is_argument name ≡ true → (not (is_empty value) ≡ true → is_argument value ≡ true) → are_field_arguments (name ∷ value ∷ []) ≡ true
value_fits name [] h k = h
value_fits name (b ∷ bytes) h k = and_from _ _ h (and_from _ _ (k refl) refl)

value_argument : (value : List ℕ) → not (is_empty (escape value)) ≡ true → is_argument (escape value) ≡ true
value_argument [] h = absurd cc
value_argument (b ∷ value) h = is_argument-escape (b ∷ value) refl

whole : (c : TicketChange) → is_change_written c ≡ true → IsCard (change_card c)
whole c h = by c.value
  where
    name : is_argument (escape (written_field c.append c.field)) ≡ true
    name = is_argument-escape (written_field c.append c.field) (field_filled c.append c.field (first_holds _ (c.append || not (slice_index c.field 0 == 43)) h))

    by : (value : Option (List ℕ)) → IsCard (card 74 (escape (written_field c.append c.field) ∷ written_if escape value))
    by None = record { letter = refl; arguments = and_from _ _ name refl; body = refl }
    by (Some value) = record { letter = refl; arguments = value_fits (escape (written_field c.append c.field)) (escape value) name (value_argument value); body = refl }

changes_ordered : (changes : List TicketChange) → in_order (map change_card changes) ≡ true
changes_ordered [] = refl
changes_ordered (a ∷ []) = refl
changes_ordered (a ∷ b ∷ changes) = changes_ordered (b ∷ changes)

-- ---- all cards

-- the cards before the Z card
abbrev blocks : Ticket → List (ℕ × List Card)
blocks t =
    (68, card 68 (moment_text t.date ∷ []) ∷ []) ∷ (74, map change_card t.changes) ∷ (75, card 75 (name_text t.id ∷ []) ∷ []) ∷ (85, card 85 (escape t.user ∷ []) ∷ []) ∷ []

module _ (t : Ticket) (named : IsName t.id) (moment : IsMoment t.date) (w : is_ticket_well_formed t ≡ true) where
  begin : (not (is_empty t.changes) && list_all is_change_written t.changes) ≡ true
  begin = first_holds _ (not (is_empty t.user)) w

  fit : AllByRecursion (λ c. is_change_written c ≡ true) t.changes
  fit = all_hold is_change_written t.changes (second_holds (not (is_empty t.changes)) _ begin)

  are_blocks : AreBlocks (blocks t)
  are_blocks = (
    single_block 68 (moment_text t.date) refl (is_argument-date t.date),
    (
      block_each 74 change_card (λ c. is_change_written c ≡ true) (λ c. refl) whole t.changes fit (changes_ordered t.changes),
      (
        single_block 75 (name_text t.id) refl (is_argument-name t.id named),
        (single_block 85 (escape t.user) refl (is_argument-escape t.user (second_holds (not (is_empty t.changes) && list_all is_change_written t.changes) _ w)), tt),
      ),
    ),
  )

  pub ticket_again : (text : List ℕ) → IsTicketText text t → IsTextOf IsTicket text t
  ticket_again text made =
      let date = moment_text t.date in
      let b = are_blocks in
      text_is (blocks t) b IsTicket t text (ticket_cards t) refl refl made (record {
        letters = letters_are (blocks t) b ticket_letters (record {
          once = refl;
          optional = refl;
          some = and_from _ _ (some_cards change_card t.changes (first_holds _ (list_all is_change_written t.changes) begin)) refl;
          known = refl;
        });
        date = by_form (blocks t) b 68 date_form _ (one_read date_form (date ∷ []) t.date (date_again t.date moment));
        changes = by_form (blocks t) b 74 change_form _ (read_each change_card change_form (λ c. is_change_written c ≡ true) change_again t.changes fit);
        id = by_form (blocks t) b 75 hash_form _ (one_read hash_form (name_text t.id ∷ []) t.id (hash_again t.id named));
        user = by_form (blocks t) b 85 user_form _ (one_read user_form (escape t.user ∷ []) t.user (user_again t.user));
      })

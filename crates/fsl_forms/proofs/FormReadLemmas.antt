-- What is known of ticket changes and attachments that arguments give.
use Rattle.std.proofs.Common.{◌≡◌, Bool, true, false, not, cond, List, [], ◌∷◌, Option, Some, None, ℕ, refl, subst}
use Rattle.std.specs.Prelude.{◌&&◌, ◌==◌, option_map}
use Rattle.std.specs.List.{list_all}
use Rattle.std.proofs.lemmas.Bool.{and_from}
use Rattle.fsl_order.proofs.Booleans.{first_holds, second_holds}
use Rattle.fsl_text.specs.Bytes.{is_empty}
use Rattle.fsl_text.specs.Escapes.{unescape}
use Rattle.fsl_name.specs.Ref.{ref_in}
use Rattle.fsl_name.specs.declared.reference.Ref.{Ref}
use Rattle.fsl_card.specs.Cards.{are_field_arguments, is_argument}
use Rattle.fsl_grammar.specs.Forms.{given}
use Rattle.fsl_grammar.proofs.ReadValues.{given_is, unescape_filled}
use Rattle.fsl_forms.specs.declared.ticket.TicketChange.{TicketChange}
use Rattle.fsl_forms.specs.Kinds.{Attached, attached_form, change_form, change_in}
use Rattle.fsl_forms.specs.WellFormed.{is_change_written}

-- ---- the changes of a ticket

change_of : (name : List ℕ) (value : Option (List ℕ)) (c : TicketChange) → change_in name value ≡ Some c → is_change_written c ≡ true
change_of [] value c e = absurd cc
change_of (b ∷ rest) value c e = by (b == 43) refl e
  where
    by : (t : Bool) → (b == 43) ≡ t → cond t (given {A = TicketChange} (not (is_empty rest)) (record { append = true; field = rest; value = value })) (Some (record { append = false; field = b ∷ rest; value = value })) ≡ Some c → is_change_written c ≡ true
    by true k f =
        let g = given_is {A = TicketChange} (not (is_empty rest)) (record { append = true; field = rest; value = value }) c f in
        subst (λ (c : TicketChange). is_change_written c ≡ true) g.1 (and_from _ _ g.0 refl)
    by false k f = subst (λ (c : TicketChange). is_change_written c ≡ true) (inside f) (rw k refl)
      where
        inside : Some (record { append = false; field = b ∷ rest; value = value }) ≡ Some c → ◌≡◌ {A = TicketChange} (record { append = false; field = b ∷ rest; value = value }) c
        inside k = cc

pub change_read : (args : List (List ℕ)) (c : TicketChange) → are_field_arguments args ≡ true → change_form args ≡ Some c → is_change_written c ≡ true
change_read [] c h e = absurd cc
change_read (name ∷ []) c h e = change_of (unescape name) None c e
change_read (name ∷ value ∷ []) c h e = change_of (unescape name) (Some (unescape value)) c e
change_read (a ∷ b ∷ d ∷ args) c h e = absurd cc

-- ---- the file and the target of an attachment

abbrev with_source : List ℕ → List ℕ → Ref → Attached
with_source file target r = record { file = unescape file; target = unescape target; source = Some r }

pub attached_read : (args : List (List ℕ)) (a : Attached) → list_all is_argument args ≡ true → attached_form args ≡ Some a → (not (is_empty a.file) && not (is_empty a.target)) ≡ true
attached_read [] a h e = absurd cc
attached_read (file ∷ []) a h e = absurd cc
attached_read (file ∷ target ∷ []) a h e = subst (λ (a : Attached). (not (is_empty a.file) && not (is_empty a.target)) ≡ true) (inside e) (and_from _ _ (unescape_filled file (first_holds _ (is_argument target && true) h)) (unescape_filled target (first_holds _ true (second_holds (is_argument file) _ h))))
  where
    inside : Some (record { file = unescape file; target = unescape target; source = None }) ≡ Some a → ◌≡◌ {A = Attached} (record { file = unescape file; target = unescape target; source = None }) a
    inside f = cc
attached_read (file ∷ target ∷ source ∷ []) a h e = by (ref_in source) e
  where
    two : (not (is_empty (unescape file)) && not (is_empty (unescape target))) ≡ true
    two = and_from _ _ (unescape_filled file (first_holds _ (is_argument target && (is_argument source && true)) h)) (unescape_filled target (first_holds _ (is_argument source && true) (second_holds (is_argument file) _ h)))

    by : (o : Option Ref) → option_map (with_source file target) o ≡ Some a → (not (is_empty a.file) && not (is_empty a.target)) ≡ true
    by None f = absurd cc
    by (Some name) f = subst (λ (a : Attached). (not (is_empty a.file) && not (is_empty a.target)) ≡ true) (inside f) two
      where
        inside : Some (record { file = unescape file; target = unescape target; source = Some name }) ≡ Some a → ◌≡◌ {A = Attached} (record { file = unescape file; target = unescape target; source = Some name }) a
        inside g = cc
attached_read (a ∷ b ∷ c ∷ d ∷ args) r h e = absurd cc

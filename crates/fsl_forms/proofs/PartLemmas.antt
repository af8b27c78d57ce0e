-- What a reader answers where a part of what it reads can't be read, and what a ticket's field gives.
use Rattle.std.proofs.Common.{◌≡◌, Bool, true, false, not, cond, ℕ, List, [], ◌∷◌, length, Option, Some, None, Result, Ok, Err, refl, ap, sym, ◌∙◌}
use Rattle.std.specs.Prelude.{◌==◌, IsErrAnd, MatchResult, option_map}
use Rattle.fsl_text.specs.Bytes.{is_empty}
use Rattle.fsl_grammar.specs.declared.Unread.{Unread}
use Rattle.fsl_grammar.specs.declared.Unread.TheVariants.{Form}
use Rattle.fsl_grammar.specs.Forms.{given}
use Rattle.fsl_forms.specs.declared.ticket.TicketChange.{TicketChange}
use Rattle.fsl_forms.specs.Kinds.{change_in}
use Rattle.fsl_forms.specs.Parts.{field_in}

-- the whole has that part, so it can't be read either
pub part_unread : {X Y : Type 0} (Whole : X → Type 0) (Part : Y → Type 0) (part : X → Y) → ((x : X) → Whole x → Part (part x))
    → (result : Result X Unread) (why : Unread) → IsErrAnd result (λ e. e ≡ why) → (why ≡ Form → (y : Y) → Part y → ⊥)
    → MatchResult result Whole (λ e. e ≡ Form → (x : X) → Whole x → ⊥)
part_unread Whole Part part has (Ok x) why is none = absurd is
part_unread Whole Part part has (Err e) why is none = λ form x whole. none (sym is ∙ form) (part x) (has x whole)

-- a change is its field, with the value
abbrev change_with : Option (List ℕ) → Bool × List ℕ → TicketChange
change_with value field = record { append = field.0; field = field.1; value = value }

change_is : (name : List ℕ) (value : Option (List ℕ)) → change_in name value ≡ option_map (change_with value) (field_in name)
change_is [] value = refl
change_is (b ∷ rest) value = by (b == 43) (not (is_empty rest))
  where
    by : (plus some : Bool)
        → cond plus (given {A = TicketChange} some (record { append = true; field = rest; value = value })) (Some (record { append = false; field = b ∷ rest; value = value }))
        ≡ option_map (change_with value) (cond plus (given {A = Bool × List ℕ} some (true, rest)) (Some (false, b ∷ rest)))
    by true true = refl
    by true false = refl
    by false some = refl

pub change_read_from : (name : List ℕ) (value : Option (List ℕ)) (append : Bool) (field : List ℕ) → field_in name ≡ Some (append, field)
    → change_in name value ≡ Some (record { append = append; field = field; value = value })
change_read_from name value append field e = change_is name value ∙ ap (option_map (change_with value)) e

pub no_change : (name : List ℕ) (value : Option (List ℕ)) → field_in name ≡ None → change_in name value ≡ None
no_change name value e = change_is name value ∙ ap (option_map (change_with value)) e

-- a `+` with a byte behind it appends to the field that stands there
pub field_appended : (name rest text : List ℕ) (first : ℕ) → name ≡ first ∷ rest → first ≡ 43 → (length rest == 0) ≡ false → text ≡ rest → field_in name ≡ Some (true, text)
field_appended name [] text first e plus filled same = absurd cc
field_appended name (b ∷ more) text first e plus filled same = ap field_in (e ∙ ap (λ sign. sign ∷ b ∷ more) plus) ∙ ap (λ field. Some (true, field)) (sym same)

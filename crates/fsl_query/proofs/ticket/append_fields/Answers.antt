use Rattle.std.proofs.Common.{◌≡◌, ℕ, List, [], ◌∷◌, ◌++◌, length, refl, sym, ap, ◌∙◌, inl, inr, append_assoc, append-nil, arith}
use Rattle.std.specs.Prelude.{flat_map, zip}
use Rattle.fsl_query.specs.Lines.{field_line, valued_line}
use Rattle.fsl_query.proofs.ticket.append_fields.Goals as goal

-- one line more
one_more : (old new all : List ℕ) (fields values fields' values' : List (List ℕ)) (field value : List ℕ)
    → fields ≡ field ∷ fields' → values ≡ value ∷ values' → new ≡ old ++ valued_line field value
    → old ++ flat_map field_line (zip fields values) ≡ all → new ++ flat_map field_line (zip fields' values') ≡ all
one_more old new all fields values fields' values' field value ef ev e h =
    ap (λ (t : List ℕ). t ++ flat_map field_line (zip fields' values')) e
    ∙ append_assoc old (valued_line field value) (flat_map field_line (zip fields' values'))
    ∙ sym (λ i. old ++ flat_map field_line (zip (ef i) (ev i))) ∙ h

no_first : (xs ys : List (List ℕ)) → length xs ≡ 0 → zip xs ys ≡ []
no_first [] ys h = refl
no_first (x ∷ xs) ys h = absurd (omega arith)

no_second : (xs ys : List (List ℕ)) → length ys ≡ 0 → zip xs ys ≡ []
no_second [] ys h = refl
no_second (x ∷ xs) [] h = refl
no_second (x ∷ xs) (y ∷ ys) h = absurd (omega arith)

-- no line more
whole : (old all : List ℕ) (fields values : List (List ℕ)) → zip fields values ≡ [] → old ++ flat_map field_line (zip fields values) ≡ all → old ≡ all
whole old all fields values none h =
    sym (append-nil old) ∙ sym (ap (λ (pairs : List (List ℕ × List ℕ)). old ++ flat_map field_line pairs) none) ∙ h

pub loop-field-preserved : goal.loop-field-preserved
loop-field-preserved c =
    let steps = c.in-Some.ensures.steps in
    one_more c.loop-field.into c.append_valued.new.into _ _ _ _ _ c.in-Some.field.now c.in-Some.value.now steps.0 steps.1
    (c.in_ok-append_valued.ensures ∙ (λ i. c.loop-field.into ++ valued_line (c.bytes.ensures i) (c.bytes-in-loop-field.ensures i))) c.loop-field.invariant

pub returns : goal.returns
returns c =
    let fields = c.loop-field.field-iterator.a.rest.now in
    let values = c.loop-field.field-iterator.b.rest.now in
    whole c.loop-field.into _ fields values
    (elim c.in-None.ensures.steps as (λ _. zip fields values ≡ []) [ inl first ↦ no_first fields values first.1.0 | inr second ↦ no_second fields values second.1.0 ])
    c.loop-field.invariant

-- The rows of the table.
use Rattle.std.proofs.Common.{◌≡◌, ℕ, ◌%◌, Bool, true, false, List, Result, ap, subst, ◌∙◌, arith, IfOk}
use Rattle.std.specs.Prelude.{◌==◌, if◌then◌else◌}
use Rattle.std.proofs.lemmas.Bool.Decides.{nat_tests}
use Rattle.fsl_card.specs.Writing.{sealed_text}
use Rattle.fsl_manifest.specs.Writing.{manifest_cards}
use Rattle.fsl_forms.specs.Writing.{control_cards, forum_cards, ticket_cards}
use Rattle.fsl_gen.specs.Table.{checkin_at, control_at, post_at, text_in_table, ticket_at}

-- the side of a choice that a test takes
on_true : {A : Type 0} (b : Bool) (x y : A) → b ≡ true → (if b then x else y) ≡ x
on_true b x y h = ap (λ t. if t then x else y) h

on_false : {A : Type 0} (b : Bool) (x y : A) → b ≡ false → (if b then x else y) ≡ y
on_false b x y h = ap (λ t. if t then x else y) h

pub checkin_row : (f : ℕ → List ℕ) (i : ℕ) → i % 4 ≡ 0 → text_in_table f i ≡ sealed_text (manifest_cards (checkin_at f i))
unfolding text_in_table
checkin_row f i h = on_true (i % 4 == 0) _ _ (grind (arith, nat_tests))

pub control_row : (f : ℕ → List ℕ) (i : ℕ) → i % 4 ≡ 1 → text_in_table f i ≡ sealed_text (control_cards (control_at f i))
unfolding text_in_table
control_row f i h = on_false (i % 4 == 0) _ _ (grind (arith, nat_tests)) ∙ on_true (i % 4 == 1) _ _ (grind (arith, nat_tests))

pub ticket_row : (f : ℕ → List ℕ) (i : ℕ) → i % 4 ≡ 2 → text_in_table f i ≡ sealed_text (ticket_cards (ticket_at i))
unfolding text_in_table
ticket_row f i h =
    on_false (i % 4 == 0) _ _ (grind (arith, nat_tests))
    ∙ on_false (i % 4 == 1) _ _ (grind (arith, nat_tests))
    ∙ on_true (i % 4 == 2) _ _ (grind (arith, nat_tests))

pub post_row : (f : ℕ → List ℕ) (i : ℕ) → i % 4 ≡ 3 → text_in_table f i ≡ sealed_text (forum_cards (post_at f i))
unfolding text_in_table
post_row f i h =
    on_false (i % 4 == 0) _ _ (grind (arith, nat_tests))
    ∙ on_false (i % 4 == 1) _ _ (grind (arith, nat_tests))
    ∙ on_false (i % 4 == 2) _ _ (grind (arith, nat_tests))

-- what is the one text is the other, where these are the same
pub written_as : {E : Type 0} (r : Result (List ℕ) E) (a b : List ℕ) → a ≡ b → IfOk r (λ text. text ≡ a) → IfOk r (λ text. text ≡ b)
written_as r a b e h = subst (λ text. IfOk r (λ found. found ≡ text)) e h

-- What the table says of a number rests on the names of smaller ones.
use Rattle.std.proofs.Common.{◌≡◌, ◌≢◌, ℕ, ◌+◌, ◌-◌, ◌*◌, ◌/◌, ◌%◌, ◌<◌, Bool, true, false, List, [], ◌∷◌, Some, None, refl, ap, ap₂, arith}
use Rattle.std.specs.Prelude.{◌==◌, nat_lt, if◌then◌else◌, codes}
use Rattle.std.proofs.lemmas.Bool.Decides.{nat_tests}
use Rattle.fsl_card.specs.Writing.{sealed_text}
use Rattle.fsl_manifest.specs.declared.Manifest.{Manifest}
use Rattle.fsl_manifest.specs.Writing.{manifest_cards}
use Rattle.fsl_forms.specs.declared.control.Control.{Control}
use Rattle.fsl_forms.specs.declared.forum.Forum.{Forum}
use Rattle.fsl_forms.specs.Writing.{control_cards, forum_cards}
use Rattle.fsl_name.specs.declared.reference.Ref.{Ref}
use Rattle.fsl_name.specs.declared.reference.Ref.TheVariants.{Own}
use Rattle.fsl_gen.specs.Table.{checkin_at, control_at, mark, numbered, parents_at, placed_at, post_at, text_in_table}
use Rattle.fsl_gen.specs.Artifacts.{NamesEarlierOnes}

-- two choices by one test are the same where both sides are
choose : {A : Type 0} (b : Bool) (x u y v : A) → (b ≡ true → x ≡ u) → (b ≡ false → y ≡ v) → (if b then x else y) ≡ (if b then u else v)
choose true x u y v p q = p refl
choose false x u y v p q = q refl

-- a post that doesn't begin its thread stands behind the one that does
pub behind_first : (i : ℕ) → i % 4 ≡ 3 → i % 40 ≢ 3 → 40 * (i / 40) + 3 < i
behind_first i h k = omega arith

-- a number that is none of the other remainders by 4
pub is_last : (i : ℕ) → i % 4 ≢ 0 → i % 4 ≢ 1 → i % 4 ≢ 2 → i % 4 ≡ 3
is_last i h k m = omega arith

abbrev AgreeBelow : (ℕ → List ℕ) → (ℕ → List ℕ) → ℕ → Type 0
AgreeBelow f g i = (j : ℕ) → j < i → f j ≡ g j

parents_same : (f g : ℕ → List ℕ) (i : ℕ) → AgreeBelow f g i → parents_at f i ≡ parents_at g i
parents_same f g i same =
    choose (nat_lt i 4) [] [] (Own (f (i - 4)) ∷ []) (Own (g (i - 4)) ∷ []) (λ h. refl)
    (λ h. let k : i - 4 < i = grind (arith, nat_tests) in ap (λ (name : List ℕ). Own name ∷ []) (same (i - 4) k))

checkin_same : (f g : ℕ → List ℕ) (i : ℕ) → AgreeBelow f g i → checkin_at f i ≡ checkin_at g i
checkin_same f g i same =
    let with_parents : List Ref → Manifest = λ parents. record (checkin_at f i) { parents = parents } in
    ap with_parents (parents_same f g i same)

control_same : (f g : ℕ → List ℕ) (i : ℕ) → i % 4 ≡ 1 → AgreeBelow f g i → control_at f i ≡ control_at g i
control_same f g i h same =
    let marking : List ℕ → Control = λ name. record (control_at f i) { tags = mark name ∷ [] } in
    ap marking (same (i - 1) (omega arith))

-- a post that answers another
abbrev reply_at : (ℕ → List ℕ) → ℕ → Forum
reply_at f i = placed_at (Some (f (40 * (i / 40) + 3))) None (Some (f (i - 4))) i

-- a post that begins the k-th thread
abbrev start_at : ℕ → ℕ → Forum
start_at k i = placed_at None (Some (numbered (codes "thread ") k)) None i

replies_same : (f g : ℕ → List ℕ) (i : ℕ) → 40 * (i / 40) + 3 < i → AgreeBelow f g i → reply_at f i ≡ reply_at g i
replies_same f g i h same =
    let answering : List ℕ → List ℕ → Forum = λ root reply. placed_at (Some root) None (Some reply) i in
    ap₂ answering (same (40 * (i / 40) + 3) h) (same (i - 4) (omega arith))

post_same : (f g : ℕ → List ℕ) (i : ℕ) → i % 4 ≡ 3 → AgreeBelow f g i → post_at f i ≡ post_at g i
post_same f g i h same =
    choose (i % 40 == 3) (start_at (i / 40) i) (start_at (i / 40) i) (reply_at f i) (reply_at g i) (λ e. refl)
    (λ e. let k : i % 40 ≢ 3 = grind (arith, nat_tests) in replies_same f g i (behind_first i h k) same)

pub names_earlier : NamesEarlierOnes
unfolding text_in_table
names_earlier f g i same =
    choose (i % 4 == 0) _ _ _ _ (λ e. ap (λ m. sealed_text (manifest_cards m)) (checkin_same f g i same))
    (λ a.
    let h : i % 4 ≢ 0 = grind (arith, nat_tests) in
    choose (i % 4 == 1) _ _ _ _
    (λ e. let k : i % 4 ≡ 1 = grind (arith, nat_tests) in ap (λ m. sealed_text (control_cards m)) (control_same f g i k same))
    (λ b.
    let k : i % 4 ≢ 1 = grind (arith, nat_tests) in
    choose (i % 4 == 2) _ _ _ _ (λ e. refl)
    (λ d.
    let l : i % 4 ≢ 2 = grind (arith, nat_tests) in
    ap (λ m. sealed_text (forum_cards m)) (post_same f g i (is_last i h k l) same))))

-- What a child's row and what waits are, where the row was worked out anew.
use Rattle.std.specs.Prelude.{◌≡◌, ℕ, List, [], ◌∷◌, ◌++◌, Bool, true, false, cond}
use Rattle.std.proofs.Common.{sym, ap, ◌∙◌}
use Rattle.std.proofs.lemmas.List.{append-nil}
use Rattle.std.specs.Str.{bytes_eq}
use Rattle.fsl_tags.specs.declared.Assertion.{Assertion}
use Rattle.fsl_tags.specs.Same.{same_rows}
use Rattle.fsl_tags.specs.Laid.{row_in}
use Rattle.fsl_tags.specs.Joined.{joined}
use Rattle.fsl_tags.proofs.Full.{unchanged}
use Rattle.fsl_tags.proofs.SameRows.{rows-one}

-- the row that was worked out is the child's own and what is above it
pub row_is : (row items near above mine : List Assertion) → items ≡ row → row ≡ joined above near → near ≡ mine → items ≡ joined above mine
row_is row items near above mine is whole near_is = is ∙ whole ∙ ap (joined above) near_is

-- where it is the row that was there, nothing changes
pub stays : (name : List ℕ) (rows : List (List ℕ × List Assertion)) (before items right : List Assertion) (same : Bool) → before ≡ row_in rows name → items ≡ right
    → same ≡ same_rows before items → same ≡ true → (x : List ℕ) → row_in rows x ≡ cond (bytes_eq x name) right (row_in rows x)
stays name rows before items right same before_is items_are test is = unchanged name right rows (sym before_is ∙ rows-one before items (sym test ∙ is) ∙ items_are)

-- so the name waits where the test fails
waits_where : (name : List ℕ) (waiting : List (List ℕ)) (before items was right : List Assertion) (same given : Bool) → before ≡ was → items ≡ right → same ≡ same_rows before items → same ≡ given
    → waiting ++ cond given [] (name ∷ []) ≡ waiting ++ cond (same_rows was right) [] (name ∷ [])
waits_where name waiting before items was right same given before_is items_are test is =
    ap (λ (b : Bool). waiting ++ cond b [] (name ∷ [])) (sym is ∙ test ∙ (λ i. same_rows (before_is i) (items_are i)))

pub waits : (name : List ℕ) (waiting now : List (List ℕ)) (before items was right : List Assertion) (same : Bool) → now ≡ waiting ++ name ∷ [] → before ≡ was → items ≡ right
    → same ≡ same_rows before items → same ≡ false → now ≡ waiting ++ cond (same_rows was right) [] (name ∷ [])
waits name waiting now before items was right same pushed before_is items_are test is = pushed ∙ waits_where name waiting before items was right same false before_is items_are test is

pub waits_not : (name : List ℕ) (waiting : List (List ℕ)) (before items was right : List Assertion) (same : Bool) → before ≡ was → items ≡ right → same ≡ same_rows before items → same ≡ true
    → waiting ≡ waiting ++ cond (same_rows was right) [] (name ∷ [])
waits_not name waiting before items was right same before_is items_are test is =
    sym (append-nil waiting) ∙ waits_where name waiting before items was right same true before_is items_are test is

-- the row that is put is the one that was worked out
pub put_is : (name : List ℕ) (rows then : List (List ℕ × List Assertion)) (row right : List Assertion) → row ≡ right → ((x : List ℕ) → row_in then x ≡ cond (bytes_eq x name) row (row_in rows x))
    → (x : List ℕ) → row_in then x ≡ cond (bytes_eq x name) right (row_in rows x)
put_is name rows then row right is put x = put x ∙ ap (λ (r : List Assertion). cond (bytes_eq x name) r (row_in rows x)) is

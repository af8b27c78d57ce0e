-- The bytes of a record that were added part by part.
use Rattle.std.proofs.Common.{◌≡◌, ℕ, Bool, List, [], ◌∷◌, ◌++◌, length, take, Some, sym, ◌∙◌, ap, refl, arith, append_assoc, length-append}
use Rattle.std.specs.Prelude.{if◌then◌else◌}
use Rattle.std.specs.Int.{to_be_bytes, w32, w64}
use Rattle.std.proofs.lemmas.List.{take-take, take_at}
use Rattle.fsl_record.specs.declared.Record.TheVariants as record_of
use Rattle.fsl_record.specs.Receipts.{Brought, receipt_bytes}
use Rattle.fsl_record.specs.Records.{record_bytes}

three_parts : (old a b c one two new : List ℕ) → one ≡ old ++ a → two ≡ one ++ b → new ≡ two ++ c → new ≡ old ++ ((a ++ b) ++ c)
three_parts old a b c one two new first second third =
    third ∙ ap (λ (l : List ℕ). l ++ c) (second ∙ ap (λ (l : List ℕ). l ++ b) first ∙ append_assoc old a b) ∙ append_assoc old (a ++ b) c

pub receipt_written : (old one two new head size login : List ℕ) (r : Brought) → one ≡ old ++ head → two ≡ one ++ size → new ≡ two ++ login → head ≡ to_be_bytes w64 r.moment → size ≡ to_be_bytes w32 (length r.login) → login ≡ r.login
    → new ≡ old ++ receipt_bytes r
receipt_written old one two new head size login r first second third head_is size_is login_is =
    three_parts old head size login one two new first second third ∙ (λ i. old ++ ((head_is i ++ size_is i) ++ login_is i))

five_parts : (old head name a b c one two three new : List ℕ) → one ≡ old ++ head → two ≡ one ++ name → three ≡ two ++ a → new ≡ (three ++ b) ++ c → new ≡ old ++ ((((head ++ name) ++ a) ++ b) ++ c)
five_parts old head name a b c one two three new first second third last =
    last
    ∙ ap (λ (l : List ℕ). (l ++ b) ++ c) (three_parts old head name a one two three first second third)
    ∙ ap (λ (l : List ℕ). l ++ c) (append_assoc old ((head ++ name) ++ a) b)
    ∙ append_assoc old (((head ++ name) ++ a) ++ b) c

pub brought_written : (private : Bool) (old one two three new name bytes : List ℕ) (r : Brought) → one ≡ old ++ 82 ∷ (if private then 1 else 0) ∷ [] → two ≡ one ++ name → three ≡ two ++ receipt_bytes r
    → new ≡ (three ++ to_be_bytes w64 (length bytes)) ++ bytes → new ≡ old ++ record_bytes (record_of.Blob private name (Some r) bytes)
brought_written private old one two three new name bytes r first second third last =
    five_parts old (82 ∷ (if private then 1 else 0) ∷ []) name (receipt_bytes r) (to_be_bytes w64 (length bytes)) bytes one two three new first second third last

-- what was there stays in front
pub front_stays : (old a b c one two three new : List ℕ) → one ≡ old ++ a → two ≡ one ++ b → three ≡ two ++ c → take (length three) new ≡ three → take (length old) new ≡ old
front_stays old a b c one two three new first second third kept =
    let is = three_parts old a b c one two three first second third in
    sym (take-take (length old) (length three) new (omega (arith, ap length is, length-append old ((a ++ b) ++ c))))
    ∙ ap (λ (l : List ℕ). take (length old) l) (kept ∙ is) ∙ take_at old ((a ++ b) ++ c) (length old) refl

-- The texts follow the table, and no others do.
use Rattle.std.proofs.Common.{◌≡◌, ℕ, zero, suc, ◌<◌, List, [], length, get_or, sym, ◌∙◌, ap, arith}
use Rattle.std.proofs.lemmas.List.FromFn.{length-map-range_with_len, get_or-map-range_with_len}
use Rattle.fsl_name.specs.Name.{name_of}
use Rattle.fsl_gen.specs.Table.{name_among, text_in_table}
use Rattle.fsl_gen.specs.Artifacts.{FollowsTable, IsToldByTable, artifact_text, names_before, text_within}
use Rattle.fsl_gen.proofs.EarlierNames.{names_earlier}

-- to follow names further than a number goes changes nothing
further : (n m i : ℕ) → i < n → i < m → text_within n i ≡ text_within m i
unfolding text_within
further zero m i h k = absurd (omega arith)
further (suc n) zero i h k = absurd (omega arith)
further (suc n) (suc m) i h k =
    names_earlier (λ j. name_of (text_within n j)) (λ j. name_of (text_within m j)) i
    (λ j l. ap name_of (further n m j (omega arith) (omega arith)))

pub follows : FollowsTable artifact_text
unfolding artifact_text text_within
follows i =
    names_earlier (λ j. name_of (text_within i j)) (λ j. name_of (text_within (suc j) j)) i
    (λ j l. ap name_of (further i (suc j) j l (omega arith)))

told_below : (text_of : ℕ → List ℕ) → FollowsTable text_of → (n i : ℕ) → i < n → text_of i ≡ artifact_text i
told_below text_of h zero i l = absurd (omega arith)
told_below text_of h (suc n) i l =
    h i
    ∙ names_earlier (λ j. name_of (text_of j)) (λ j. name_of (artifact_text j)) i (λ j k. ap name_of (told_below text_of h n j (omega arith)))
    ∙ sym (follows i)

pub told : IsToldByTable
told text_of h i = told_below text_of h (suc i) i (omega arith)

-- ---- the names before a number

pub reaches : (names : List (List ℕ)) (i : ℕ) → names ≡ names_before i → length names ≡ i
reaches names i e = ap length e ∙ length-map-range_with_len (λ j. name_of (artifact_text j)) 0 i

pub of_names : (names : List (List ℕ)) (i : ℕ) → names ≡ names_before i → text_in_table (name_among names) i ≡ artifact_text i
of_names names i e =
    names_earlier (name_among names) (λ j. name_of (artifact_text j)) i
    (λ j l.
    ap (λ ns. get_or ns j []) e
    ∙ get_or-map-range_with_len (λ k. name_of (artifact_text k)) 0 i j j [] l (omega arith))
    ∙ sym (follows i)

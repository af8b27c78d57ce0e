-- The texts of the artifacts by their numbers.
use Rattle.std.specs.Prelude.{◌≡◌, ℕ, zero, suc, ◌<◌, List, [], map}
use Rattle.std.specs.List.{range_with_len}
use Rattle.fsl_name.specs.Name.{name_of}
use Rattle.fsl_gen.specs.Table.{text_in_table}

-- the text of an artifact, where names are followed that far
unfoldable pub text_within : ℕ → ℕ → List ℕ
text_within zero i = []
text_within (suc n) i = text_in_table (λ j. name_of (text_within n j)) i

-- the text of an artifact: it names smaller numbers alone, so that its names end after as many as its own number
unfoldable pub artifact_text : ℕ → List ℕ
artifact_text i = text_within (suc i) i

-- the names of the artifacts before a number, in the order of their numbers
abbrev pub names_before : ℕ → List (List ℕ)
names_before i = map (λ j. name_of (artifact_text j)) (range_with_len 0 i)

-- ---- laws

-- each text is what the table says, by the names of the others
abbrev pub FollowsTable : (ℕ → List ℕ) → Type 0
FollowsTable text_of = (i : ℕ) → text_of i ≡ text_in_table (λ j. name_of (text_of j)) i

-- no other texts are
abbrev pub IsToldByTable : Type 0
IsToldByTable = (text_of : ℕ → List ℕ) → FollowsTable text_of → (i : ℕ) → text_of i ≡ artifact_text i

-- what the table says of a number rests on the names of smaller ones
abbrev pub NamesEarlierOnes : Type 0
NamesEarlierOnes =
    (name_at other_at : ℕ → List ℕ) (i : ℕ) → ((j : ℕ) → j < i → name_at j ≡ other_at j)
    → text_in_table name_at i ≡ text_in_table other_at i

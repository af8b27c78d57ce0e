-- What arrivals of texts put behind other records.
use Rattle.std.specs.Prelude.{◌≡◌, ℕ, false, List, [], ◌∷◌, ◌++◌, None, Result}
use Rattle.fsl_name.specs.Name.{name_of}
use Rattle.fsl_record.specs.declared.Record.{Record}
use Rattle.fsl_repo.specs.declared.Arrival.{Arrival}
use Rattle.fsl_repo.specs.declared.ArriveFault.{ArriveFault}
use Rattle.fsl_repo.specs.Machine.{State, IsArrival, arrived}

-- of a repository that isn't stopped, with these records: a text arrives under its name as a public one, as it is answered then
abbrev pub PutsText : List ℕ → List Record → List Record → Type 0
PutsText text old group =
    (s : State) × (r : Result Arrival ArriveFault) × (s.records ≡ old) × (s.stopped ≡ None) × IsArrival s (name_of text) text false r
    × ((arrived s (name_of text) None text false r).records ≡ old ++ group)

-- some texts arrive so, one after the other
abbrev pub PutsTexts : List (List ℕ) → List Record → List Record → Type 0
PutsTexts [] old group = group ≡ []
PutsTexts (text ∷ texts) old group =
    (first : List Record) × (rest : List Record) × PutsText text old first × PutsTexts texts (old ++ first) rest × (group ≡ first ++ rest)

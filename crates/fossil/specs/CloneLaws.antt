-- Laws of the outcomes of clones.
use Rattle.std.specs.Prelude.{◌≡◌, ℕ, Bool, List, ◌++◌, length, Option, Some, None, Result, Ok, Err}
use Rattle.fsl_http.specs.Responses.{Exchanged}
use Rattle.fsl_pull.specs.declared.Pulled.{Pulled}
use Rattle.fsl_pull.specs.declared.PullFault.{PullFault}
use Rattle.fsl_pull.specs.Rounds.{End, most_rounds}
use Rattle.fsl_pull.specs.Dialled.{Rounds}
use Rattle.fsl_pull.specs.Clones.{IsClone}
use Rattle.fsl_pull.specs.Laws.{replies}
use Rattle.fossil.specs.Outcome.{Outcome}
use Rattle.fossil.specs.Syncs.{with_commits}
use Rattle.fossil.specs.Cloned.{result_printed}

-- what is answered of an end behind so many rounds, by its fault and its count
abbrev pub result_of : Option PullFault → ℕ → ℕ → Result Pulled PullFault
result_of None rounds stored = Ok (record { rounds = rounds; stored = stored })
result_of (Some why) rounds stored = Err why

-- the outcome of an end behind so many rounds
abbrev pub end_outcome : ℕ → End → Outcome
end_outcome rounds e = with_commits (result_printed (result_of e.fault rounds e.count)) e.commits

-- the outcome of a whole clone onto a file of so many bytes, whatever its disk and the count of its faults
abbrev pub IsCloneOutcome : List ℕ → List (List ℕ) → ℕ → Rounds → Outcome → Type 0
IsCloneOutcome server fields len rounds o =
    (faults : ℕ) × (honest : Bool) × (e : End) × IsClone server fields None len faults honest rounds e × (o ≡ end_outcome (length rounds) e)

-- Law. A clone has one outcome at most: of replies that begin alike it needs no more than another time
abbrev pub HasOneCloneOutcome : Type 0
HasOneCloneOutcome =
    (server : List ℕ) (fields : List (List ℕ)) (len : ℕ) (xs ys : Rounds) (more : List Exchanged) (a b : Outcome) →
    replies ys ≡ replies xs ++ more → IsCloneOutcome server fields len xs a → IsCloneOutcome server fields len ys b → (ys ≡ xs) × (b ≡ a)

-- Law. And it has one: of as many replies as a clone may have, some first ones are its rounds
abbrev pub HasSomeCloneOutcome : Type 0
HasSomeCloneOutcome =
    (server : List ℕ) (fields : List (List ℕ)) (len : ℕ) (came : List Exchanged) → length came ≡ most_rounds →
    (rounds : Rounds) × (rest : List Exchanged) × (o : Outcome) × (came ≡ replies rounds ++ rest) × IsCloneOutcome server fields len rounds o

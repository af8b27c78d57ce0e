-- What follows from the one of some names that a prefix finds.
use Rattle.std.proofs.Common.{◌≡◌, ℕ, List, Option, Some, None, Ok, Err, ap}
use Rattle.std.specs.Prelude.{Result}
use Rattle.fsl_blobs.specs.declared.Found.{Found}
use Rattle.fsl_blobs.specs.declared.Found.TheVariants as found_as
use Rattle.fsl_blobs.specs.Held.{found}
use Rattle.std.specs.Option.{option_map_or}
use Rattle.fsl_name.specs.Name.{name_in}
use Rattle.fsl_query.specs.declared.Refused.{Refused}
use Rattle.fsl_query.specs.declared.Refused.TheVariants as refused_as
use Rattle.fsl_query.specs.declared.QueryFault.{QueryFault}
use Rattle.fsl_query.specs.declared.QueryFault.TheVariants as query_fault
use Rattle.fsl_query.specs.Answers.{IsAnswer}
use Rattle.fsl_query.specs.Listings.{beginning}
use Rattle.fsl_query.specs.Reports.{by_beginning, of_beginning}

same_name : (a b : List ℕ) → ◌≡◌ {A = Result (List ℕ) Refused} (Ok a) (Ok b) → a ≡ b
same_name a b e = cc

same_refusal : {X : Type 0} (a b : Refused) → ◌≡◌ {A = Result X Refused} (Err a) (Err b) → a ≡ b
same_refusal a b e = cc

-- a name that was read, or else what was found
abbrev named_or : Option (List ℕ) → Result (List ℕ) Refused → Result (List ℕ) Refused
named_or o other = option_map_or (λ name. Ok name) o other

-- a name alone that wasn't told
module _ {X : Type 0} (answer : List ℕ → Result X Refused) where
  untold : (name : List ℕ) (fault : QueryFault) → IsAnswer {X = List ℕ} (Ok name) (Err fault) → IsAnswer (answer name) (Err fault)
  untold name (query_fault.Refused refused) h = absurd (cc h)
  untold name query_fault.Disk h = absurd h
  untold name (query_fault.Damaged other found) h = absurd h
  untold name query_fault.Memory h = tt

  module _ (prefix : List ℕ) (none : Refused) where
    by_one : (name : List ℕ) (f : Found) → by_beginning {X = List ℕ} prefix none (λ name. Ok name) f ≡ Ok name → by_beginning prefix none answer f ≡ answer name
    by_one name found_as.Nothing h = absurd (cc h)
    by_one name found_as.Several h = absurd (cc h)
    by_one name (found_as.One other) h = ap answer (same_name other name h)

    by_err : (fault : QueryFault) (f : Found) → IsAnswer (by_beginning {X = List ℕ} prefix none (λ name. Ok name) f) (Err fault) → IsAnswer (by_beginning prefix none answer f) (Err fault)
    by_err (query_fault.Refused refused) found_as.Nothing h = ap Err (same_refusal {X = List ℕ} none refused h)
    by_err query_fault.Disk found_as.Nothing h = h
    by_err (query_fault.Damaged other found) found_as.Nothing h = h
    by_err query_fault.Memory found_as.Nothing h = tt
    by_err (query_fault.Refused refused) found_as.Several h = ap Err (same_refusal {X = List ℕ} (refused_as.Several prefix) refused h)
    by_err query_fault.Disk found_as.Several h = h
    by_err (query_fault.Damaged other found) found_as.Several h = h
    by_err query_fault.Memory found_as.Several h = tt
    by_err fault (found_as.One name) h = untold name fault h

    read_one : (name : List ℕ) (names : List (List ℕ)) (o : Option (List ℕ)) → named_or o (by_beginning prefix none (λ name. Ok name) (found (beginning prefix names))) ≡ Ok name
        → option_map_or answer o (by_beginning prefix none answer (found (beginning prefix names))) ≡ answer name
    read_one name names None h = by_one name (found (beginning prefix names)) h
    read_one name names (Some other) h = ap answer (same_name other name h)

    read_err : (fault : QueryFault) (names : List (List ℕ)) (o : Option (List ℕ)) → IsAnswer {X = List ℕ} (named_or o (by_beginning prefix none (λ name. Ok name) (found (beginning prefix names)))) (Err fault)
        → IsAnswer (option_map_or answer o (by_beginning prefix none answer (found (beginning prefix names)))) (Err fault)
    read_err fault names None h = by_err fault (found (beginning prefix names)) h
    read_err fault names (Some other) h = untold other fault h

    -- what follows from the name that was found
    pub beginning_one : (names : List (List ℕ)) (name : List ℕ) → of_beginning {X = List ℕ} names prefix none (λ name. Ok name) ≡ Ok name → of_beginning names prefix none answer ≡ answer name
    beginning_one names name h = read_one name names (name_in prefix) h

    -- and where none was told
    pub beginning_err : (names : List (List ℕ)) (fault : QueryFault) → IsAnswer (of_beginning {X = List ℕ} names prefix none (λ name. Ok name)) (Err fault) → IsAnswer (of_beginning names prefix none answer) (Err fault)
    beginning_err names fault h = read_err fault names (name_in prefix) h

-- What a reader answers for each version, in one of them.
use Rattle.std.proofs.Common.{◌≡◌, ℕ, Bool, List, [], ◌∷◌, ◌++◌, Result, Ok, Err}
use Rattle.std.specs.Prelude.{IfOk, IfErr}
use Rattle.fsl_record.specs.declared.Record.{Record}
use Rattle.fsl_record.specs.declared.RecordFault.{RecordFault}
use Rattle.fsl_record.specs.Reading.{IsRead, Fails}

pub in_version : {X : Type 0} (r : Result X RecordFault) (behind : X → List ℕ) (v : ℕ) (config : Bool) (bytes : List ℕ) (old new : List Record)
    → IfOk r (λ rest. (read : Record) × (new ≡ old ++ read ∷ []) × ((version : ℕ) → IsRead version config bytes read (behind rest)))
    → IfOk r (λ rest. (read : Record) × (new ≡ old ++ read ∷ []) × IsRead v config bytes read (behind rest))
in_version (Ok rest) behind v config bytes old new (read, items, each) = (read, items, each v)
in_version (Err fault) behind v config bytes old new _ = tt

pub fails_in_version : {X : Type 0} (r : Result X RecordFault) (v : ℕ) (config : Bool) (bytes : List ℕ) → IfErr r (λ fault. (version : ℕ) → Fails version config bytes fault) → IfErr r (λ fault. Fails v config bytes fault)
fails_in_version (Ok rest) v config bytes _ = tt
fails_in_version (Err fault) v config bytes each = each v

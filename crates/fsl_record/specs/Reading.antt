-- What the steps of a group's reader answer.
use Rattle.std.specs.Prelude.{◌≡◌, ◌≢◌, ℕ, ◌<◌, List, [], ◌∷◌, ◌++◌, length, Bool, flat_map, ⊤, ◌⊎◌, IsTrue, IsFalse}
use Rattle.fsl_order.specs.Names.{has}
use Rattle.fsl_record.specs.declared.Record.{Record}
use Rattle.fsl_record.specs.declared.RecordFault.{RecordFault}
use Rattle.fsl_record.specs.declared.RecordFault.TheVariants as record_fault
use Rattle.fsl_record.specs.Records.{field_bytes, is_field, record_bytes, is_config, IsFit, IsOfVersion, AreFields}
use Rattle.fsl_record.specs.Groups.{FailsFirst}

-- a fit record of this version stands at the front of the bytes; config: whether it is a Config
pub record IsRead (version : ℕ) (config : Bool) (bytes : List ℕ) (read : Record) (rest : List ℕ) : Type 0 where
  pub layout : bytes ≡ record_bytes read ++ rest
  pub kind : is_config read ≡ config
  pub fit : IsFit read
  pub known : IsOfVersion version read

-- that many fields stand at the front of the bytes
pub record AreRead (count : ℕ) (bytes : List ℕ) (fields : List (List ℕ)) (rest : List ℕ) : Type 0 where
  pub layout : bytes ≡ flat_map field_bytes fields ++ rest
  pub counted : length fields ≡ count
  pub fields_fit : AreFields fields

-- a field stands at the front of the bytes, and it goes well behind those before it
pub record IsFieldRead (before : List (List ℕ)) (bytes field rest : List ℕ) : Type 0 where
  pub layout : bytes ≡ field_bytes field ++ rest
  pub fit : AreFields (before ++ field ∷ [])

-- the field at the front of the bytes fails so behind those before it, or memory is missing
abbrev pub FieldFails : List (List ℕ) → List ℕ → RecordFault → Type 0
FieldFails before bytes (record_fault.Length found) =
    (field rest : List ℕ) × (bytes ≡ found ∷ field ++ rest) × (length field ≡ found) × (IsFalse (is_field field) ⊎ IsTrue (has before field))
FieldFails before bytes record_fault.Short = (field tail : List ℕ) × (bytes ++ tail ≡ length field ∷ field) × (tail ≢ [])
FieldFails before bytes record_fault.Memory = ⊤
FieldFails before bytes _ = ⊥

-- fewer fields were read, and the next one fails so
pub record FieldsFail (count : ℕ) (bytes : List ℕ) (fault : RecordFault) : Type 0 where
  pub good : List (List ℕ)
  pub rest : List ℕ
  pub layout : bytes ≡ flat_map field_bytes good ++ rest
  pub fewer : length good < count
  pub fit : AreFields good
  pub fails : FieldFails good rest fault

-- a record at the front of the bytes fails so, or memory is missing
abbrev pub Fails : ℕ → Bool → List ℕ → RecordFault → Type 0
Fails version config_due bytes record_fault.Memory = ⊤
Fails version config_due bytes fault = FailsFirst version config_due bytes fault

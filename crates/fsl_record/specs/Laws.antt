-- A group's bytes are the records of one list, or fail in one way, and not both.
use Rattle.std.specs.Prelude.{◌≡◌, ◌≢◌, ℕ, List, [], Bool}
use Rattle.std.specs.List.{AllByRecursion}
use Rattle.fsl_record.specs.declared.Record.{Record}
use Rattle.fsl_record.specs.declared.RecordFault.{RecordFault}
use Rattle.fsl_record.specs.Records.{records_bytes, IsFit, IsOfVersion}
use Rattle.fsl_record.specs.Groups.{StandInGroup, IsGroupOf, IsGroupFault}

-- fit records of a version that may stand in a group are read back from the bytes that they are written as
abbrev pub WrittenReadsBack : Type 0
WrittenReadsBack = (version : ℕ) (first : Bool) (records : List Record) → records ≢ [] → StandInGroup first records → AllByRecursion IsFit records → AllByRecursion (IsOfVersion version) records
    → IsGroupOf version first (records_bytes records) records

-- bytes are a group of one list of records at most
abbrev pub IsOneGroup : Type 0
IsOneGroup = (version : ℕ) (first : Bool) (bytes : List ℕ) (a b : List Record) → IsGroupOf version first bytes a → IsGroupOf version first bytes b → a ≡ b

-- bytes that are a group of records have no fault
abbrev pub HasNoFault : Type 0
HasNoFault = (version : ℕ) (first : Bool) (bytes : List ℕ) (records : List Record) (fault : RecordFault) → IsGroupOf version first bytes records → IsGroupFault version first bytes fault → ⊥

-- bytes have one fault at most
abbrev pub HasOneFault : Type 0
HasOneFault = (version : ℕ) (first : Bool) (bytes : List ℕ) (a b : RecordFault) → IsGroupFault version first bytes a → IsGroupFault version first bytes b → a ≡ b

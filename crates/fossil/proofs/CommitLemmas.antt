-- What the file stands for where nothing is to be committed.
use Rattle.std.proofs.Common.{◌≡◌, ℕ, ◌+◌, List, [], ◌∷◌, ◌++◌, length, take, flat_map, None, refl, ap, subst, ◌∙◌, arith, length-append}
use Rattle.std.proofs.lemmas.List.{take_all}
use Rattle.fsl_record.specs.declared.Record.{Record}
use Rattle.fsl_disk.specs.Disk.{DiskState, IsModelled, Told}
use Rattle.fsl_journal.specs.File.{IsFileOf, header, group_bytes}
use Rattle.fsl_journal.specs.Log.{Log, IsLog, committed}
use Rattle.fsl_journal.specs.Journal.{Belongs}
use Rattle.fsl_journal.proofs.Belonging.{stands_committed}
use Rattle.fossil.specs.Run.{IsJust}

-- with nothing to commit the committed records are all
committed_all : (log : Log) → log.stable ≡ length log.records → committed log ≡ log.records
committed_all log all = (λ i. take (all i) log.records) ∙ take_all (length log.records) log.records (omega arith)

empty : (bytes : List ℕ) → length bytes ≡ 0 → bytes ≡ []
empty [] e = refl
empty (b ∷ bytes) e = absurd (omega (arith, e))

-- nothing stands behind a closed gate that is the last byte
just : (records : List Record) (mark place : ℕ) (held : List ℕ) → IsLog records mark place held → length held ≡ place + 1 → IsJust held records
just records mark place held is last =
    let f = is.file in
    let groups : List ℕ = flat_map group_bytes f.groups in
    (f, empty f.rest (omega (arith, last, is.at, ap length f.layout, length-append (header f.mark) (groups ++ f.gate ∷ f.rest), length-append groups (f.gate ∷ f.rest))))

pub idle_just : (log : Log) (disk : DiskState) → Belongs log disk → log.stopped ≡ None → log.stable ≡ length log.records → Told disk (λ held. IsJust held log.records)
idle_just log disk belongs runs all held told =
    let is = belongs.reads runs held told in
    subst (λ (rs : List Record). IsJust held rs) (committed_all log all) (just (committed log) log.mark log.place held is.0 is.1)

pub idle_durable : (log : Log) (disk : DiskState) → Belongs log disk → log.stopped ≡ None → log.stable ≡ length log.records → IsModelled disk → (c : List ℕ) → disk.images c → IsFileOf c log.records
idle_durable log disk belongs runs all modelled c image = subst (λ (rs : List Record). IsFileOf c rs) (committed_all log all) (stands_committed log disk belongs runs modelled c image)

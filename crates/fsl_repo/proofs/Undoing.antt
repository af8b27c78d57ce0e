-- What takes a change of all tables back finds the tables after it, and leaves parts that go together as before.
use Rattle.std.proofs.Common.{◌≡◌, ℕ, List, refl, sym, subst, ◌∙◌}
use Rattle.fsl_table.proofs.Trails.{all_at_most-self}
use Rattle.fsl_disk.specs.Disk.{DiskState}
use Rattle.fsl_journal.specs.Log.{Log}
use Rattle.fsl_blobs.specs.Fold.{contents}
use Rattle.fsl_blobs.specs.Seen as blobs
use Rattle.fsl_cross.specs.declared.Item.{Item}
use Rattle.fsl_cross.specs.Tables.{Seen, IsAsBefore}
use Rattle.fsl_repo.specs.Machine.{AreItems}
use Rattle.fsl_repo.specs.Keeping.{IsKept}

-- tables are as before themselves
pub as_before : (a b : Seen) → a ≡ b → IsAsBefore a b
as_before a b is = subst (λ (s : Seen). IsAsBefore a s) is (record { fields = refl; items = refl; spare = all_at_most-self a.spare })

-- the parts as they were go together
pub as_kept : (log log2 : Log) (held held2 : blobs.Seen) (all all2 : Seen) (first count : ℕ) (disk : DiskState) → IsKept log held all first count disk
    → log2 ≡ log → held2 ≡ held → IsAsBefore all all2 → IsKept log2 held2 all2 first count disk
as_kept log log2 held held2 all all2 first count disk kept same_log same_held same_all =
    subst (λ (l : Log). IsKept l held2 all2 first count disk) (sym same_log) (subst (λ (h : blobs.Seen). IsKept log h all2 first count disk) (sym same_held) (record {
      belongs = kept.belongs;
      records = kept.records;
      same = kept.same;
      cached = kept.cached;
      items = subst (λ (items : List Item). AreItems (contents log.records).held items) (sym same_all.items) kept.items;
      fields = same_all.fields ∙ kept.fields;
      announced = kept.announced;
      loaded = kept.loaded;
      stored = kept.stored;
    }))

-- How the files of a message are put in, one after another.
use Rattle.std.specs.Prelude.{◌≡◌, ◌+◌, ◌<◌, ◌≤◌, ◌^◌, ⊤, ℕ, true, false, List, [], ◌∷◌, length, Option, Some, None, is_some, Result, Ok, Err, if◌then◌else◌}
use Rattle.std.specs.Map.{remove_entry}
use Rattle.std.specs.BTreeMap.{is_at, insert_entry}
use Rattle.fsl_order.specs.Names.{bytes_cmp}
use Rattle.fsl_order.specs.Maps.{value_at}
use Rattle.fsl_record.specs.Records.{AreRecords}
use Rattle.fsl_text.specs.declared.memory.Memory.{Memory}
use Rattle.fsl_uv.specs.Maps.{total, is_over}
use Rattle.fsl_uv.specs.declared.applying.Change.{Change}
use Rattle.fsl_journal.specs.Log.{Log}
use Rattle.fsl_journal.specs.Places.{without_last}
use Rattle.fsl_uv.specs.declared.Card.{Card}
use Rattle.fsl_uv.specs.declared.ApplyFault.{ApplyFault}
use Rattle.fsl_uv.specs.declared.ApplyFault.TheVariants as apply_fault
use Rattle.fsl_uv.specs.declared.UvMessageFault.{UvMessageFault}
use Rattle.fsl_uv.specs.declared.UvMessageFault.TheVariants as message_fault
use Rattle.fsl_uv.specs.Entries.{Version}
use Rattle.fsl_uv.specs.Laws.{Rises}
use Rattle.fsl_uv.specs.Syncing.{stored, files, applied}
use Rattle.fsl_uv.specs.Stores.{log_with}

-- these cards put into a log and a map leave what those cards put into another log and another map leave
pub record AreAsThose (log : Log) (m : List (List ℕ × Version)) (cards : List Card) (other : Log) (n : List (List ℕ × Version)) (those : List Card) : Type 0 where
  pub logs : log_with log (stored m (files cards)) ≡ log_with other (stored n (files those))
  pub maps : applied m cards ≡ applied n those

-- a card was put in
pub record IsTaken (log : Log) (m : List (List ℕ × Version)) (c : Card) (other : Log) (n : List (List ℕ × Version)) : Type 0 where
  pub ahead : (cards : List Card) → AreAsThose log m (c ∷ cards) other n cards
  pub rises : Rises n
  pub runs : other.stopped ≡ None
  pub stable : other.stable ≤ length other.records
  pub as_many : length other.places ≡ length other.records

-- what apply answers of a message that doesn't read
abbrev pub refusal : UvMessageFault → ApplyFault
refusal (message_fault.Line line) = apply_fault.Line line
refusal (message_fault.NameWrong kept found) = apply_fault.NameWrong kept found
refusal message_fault.Memory = apply_fault.Memory

-- ---- taking back

-- the map with what a path had before
abbrev pub put_back : List (List ℕ × Version) → List ℕ → Option Version → List (List ℕ × Version)
put_back m path None = remove_entry (is_at (bytes_cmp path)) m
put_back m path (Some v) = insert_entry bytes_cmp m path v

-- the map without a change
abbrev pub without_change : List (List ℕ × Version) → Change → List (List ℕ × Version)
without_change m c = put_back m c.path c.before

-- the map without some changes, the last of which is taken back first
abbrev pub without_changes : List (List ℕ × Version) → List Change → List (List ℕ × Version)
without_changes m [] = m
without_changes m (c ∷ changes) = without_change (without_changes m changes) c

-- the log without a record for each change
abbrev pub log_without : Log → List Change → Log
log_without log [] = log
log_without log (c ∷ changes) = without_last (log_without log changes)

-- a path that had a version has one, and its content has room again
abbrev pub CanPutBack : List (List ℕ × Version) → List ℕ → Option Version → Type 0
CanPutBack m path None = ⊤
CanPutBack m path (Some v) = (is_some (value_at m path) ≡ true) × (total (insert_entry bytes_cmp m path v) < 2 ^ 63)

-- each change can be taken back in its turn
abbrev pub CanTurnBack : List (List ℕ × Version) → List Change → Type 0
CanTurnBack m [] = ⊤
CanTurnBack m (c ∷ changes) = CanTurnBack m changes × CanPutBack (without_changes m changes) c.path c.before

-- the changes can be taken back, and with each the record that it appended
pub record CanTakeBack (log : Log) (m : List (List ℕ × Version)) (changes : List Change) : Type 0 where
  pub runs : log.stopped ≡ None
  pub appended : log.stable + length changes ≤ length log.records
  pub turns : CanTurnBack m changes

-- taking the changes back leads to the first log and the first map
pub record LeadsBack (first : Log) (n : List (List ℕ × Version)) (log : Log) (m : List (List ℕ × Version)) (changes : List Change) : Type 0 where
  pub can : CanTakeBack log m changes
  pub fit : AreRecords log.records
  pub as_many : length log.places ≡ length log.records
  pub count : length log.records ≡ length first.records + length changes
  pub first_log : log_without log changes ≡ first
  pub first_map : without_changes m changes ≡ n

-- whatever the changes led back to before, they lead back to now
abbrev pub StillLeadsBack : Log → List (List ℕ × Version) → List Change → Log → List (List ℕ × Version) → List Change → Type 0
StillLeadsBack log m changes after held noted = (first : Log) (n : List (List ℕ × Version)) → LeadsBack first n log m changes → LeadsBack first n after held noted

-- ---- all or none

-- what is due where the files were put in, or memory wanted, and the map is this one
abbrev pub due_of : List (List ℕ × Version) → Result Unit Memory → ℕ → Result ℕ ApplyFault
due_of m (Err memory) count = Err apply_fault.Memory
due_of m (Ok done) count = if is_over m then Err (apply_fault.Full (total m) (length m)) else Ok count

-- the files of some cards were put in, or all stays
abbrev pub IsTakenAll : Log → List (List ℕ × Version) → List Card → Result ℕ ApplyFault → Log → List (List ℕ × Version) → Type 0
IsTakenAll log m cards (Ok count) after held =
    (is_over (applied m cards) ≡ false) × (count ≡ length (stored m (files cards))) × (after ≡ log_with log (stored m (files cards))) × (held ≡ applied m cards)
IsTakenAll log m cards (Err (apply_fault.Full bytes count)) after held =
    (is_over (applied m cards) ≡ true) × (bytes ≡ total (applied m cards)) × (count ≡ length (applied m cards)) × (after ≡ log) × (held ≡ m)
IsTakenAll log m cards (Err apply_fault.Memory) after held = (after ≡ log) × (held ≡ m)
IsTakenAll log m cards (Err (apply_fault.Stopped faults)) after held = ⊥
IsTakenAll log m cards (Err (apply_fault.Line line)) after held = ⊥
IsTakenAll log m cards (Err (apply_fault.NameWrong kept found)) after held = ⊥

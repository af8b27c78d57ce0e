-- How a journal is kept.
use Rattle.std.specs.Prelude.{◌≡◌, ℕ, ◌+◌, ◌≤◌, ◌<◌, ◌^◌, List, map, length, drop, take, slice_index}
use Rattle.fsl_record.specs.declared.Record.{Record}
use Rattle.fsl_record.specs.Records.{records_bytes, AreRecords}
use Rattle.fsl_journal.specs.Log.{Log}
use Rattle.fsl_journal.specs.Places.{IsCommitted, content_places}
use Rattle.fsl_journal.specs.declared.journal.Journal.TheInside.{Inside}

abbrev pub records_of : Inside → List Record
records_of j = map (λ s. s.value) j.records.items

abbrev pub places_of : Inside → List ℕ
places_of j = map (λ s. s.value) j.places.items

abbrev pub log_of : Inside → Log
log_of j = record { records = records_of j; places = places_of j; stable = j.stable; stopped = j.stopped; mark = j.mark; place = j.place }

-- the records are those of a repository, the pending bytes are those that aren't committed, and each has its start in them
pub record IsSound (j : Inside) : Type 0 where
  pub fit : AreRecords (records_of j)
  pub some : 0 < j.stable
  pub stable : j.stable ≤ length j.records.items
  pub pending : j.pending ≡ records_bytes (drop j.stable (records_of j))
  pub starts : length j.starts.items + j.stable ≡ length j.records.items
  pub each_start : (k : ℕ) → k < length j.starts.items → slice_index j.starts.items k ≡ length (records_bytes (take k (drop j.stable (records_of j))))
  pub place : j.place < 2 ^ 63
  pub header : 15 ≤ j.place
  pub as_many : length j.places.items ≡ length j.records.items
  -- committed contents stand between the header and the closed gate, and the others will stand where their records are written behind it
  pub inside : (at : ℕ) (content : List ℕ) → IsCommitted (log_of j) at content → (at + length content ≤ j.place) × (15 ≤ at)
  pub behind : drop j.stable (places_of j) ≡ content_places (j.place + 9) (drop j.stable (records_of j))

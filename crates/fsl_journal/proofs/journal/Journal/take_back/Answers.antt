use Rattle.std.proofs.Common.{◌≡◌, ℕ, ◌+◌, ◌-◌, ◌<◌, List, length, map, take, drop, sym, ◌∙◌, ap, subst, arith, Some, vec_len, get_or}
use Rattle.std.proofs.lemmas.List.{take-map, take-take, length-map, length-take-le}
use Rattle.fsl_record.specs.declared.Record.{Record}
use Rattle.fsl_record.specs.Records.{records_bytes, AreRecords}
use Rattle.fsl_journal.specs.Inside.{records_of, places_of}
use Rattle.fsl_journal.specs.Places.{content_places}
use Rattle.fsl_journal.proofs.Standing.{has_same}
use Rattle.fsl_journal.specs.Log.{Log}
use Rattle.fsl_journal.proofs.Pending.{records_count, places_count, behind_taken, pending_taken, starts_taken, are_front}
use Rattle.fsl_journal.proofs.journal.Journal.take_back.Goals as goal

some_same : {a b : ℕ} → Some a ≡ Some b → a ≡ b
some_same e = cc

pub invariant_of-self : goal.invariant_of-self
invariant_of-self c =
    let j = c.self.inside in
    let sound = c.self.invariant in
    let n = vec_len j.records - 1 in
    let count = vec_len j.starts - 1 in
    let total = records_count j sound in
    let appended : j.stable < length (records_of j) = subst (λ (log : Log). log.stable < length log.records) (sym c.self.view_is) c.requires.appended in
    let size : length (records_of j) ≡ n + 1 = omega (arith, total, j.records.ok.0, appended) in
    let counts : count + 1 + j.stable ≡ length (records_of j) = omega (arith, total, j.starts.ok.0, sound.starts, appended) in
    let taken : map (λ s. s.value) c.pop-3.new.self.items ≡ take n (records_of j) =
    ap (λ items. map (λ s. s.value) items) c.pop-3.ensures.rest ∙ sym (take-map (λ s. s.value) n j.records.items) in
    let spots_left : map (λ s. s.value) c.pop-2.new.self.items ≡ take n (places_of j) =
    ap (λ items. map (λ s. s.value) items) (c.pop-2.ensures.rest ∙ ap (λ (k : ℕ). take k j.places.items) (omega (arith, j.places.ok.0, j.records.ok.0, sound.as_many))) ∙ sym (take-map (λ s. s.value) n j.places.items) in
    let started : c.unwrap-start.result ≡ get_or j.starts.items count 0 =
    some_same (sym c.unwrap-start.ensures ∙ c.pop.ensures.value 0 (omega (arith, counts))) in
    let start_is = started ∙ sound.each_start count (omega (arith, j.starts.ok.0, counts, sound.starts, total)) in
    let items_left : length c.pop-3.new.self.items ≡ n = ap length c.pop-3.ensures.rest ∙ length-take-le n j.records.items (omega (arith, j.records.ok.0)) in
    let starts_left : length c.pop.new.self.items ≡ count = ap length c.pop.ensures.rest ∙ length-take-le count j.starts.items (omega (arith, j.starts.ok.0)) in
    record {
      fit = subst AreRecords (sym taken) (are_front (records_of j) n (omega (arith, sound.some, size, appended)) (omega (arith, size)) sound.fit);
      some = sound.some;
      stable = omega (arith, items_left, size, appended);
      pending =
          c.truncate.ensures
          ∙ pending_taken (records_of j) j.stable count n size counts j.pending c.unwrap-start.result sound.pending start_is
          ∙ sym (ap (λ (l : List Record). records_bytes (drop j.stable l)) taken);
      starts = omega (arith, items_left, starts_left, size, counts);
      each_start = λ k below.
          ap (λ (l : List ℕ). get_or l k 0) c.pop.ensures.rest
          ∙ starts_taken (records_of j) j.stable count n size counts j.starts.items (λ i less. sound.each_start i (omega (arith, less, j.starts.ok.0, counts))) k (omega (arith, below, starts_left))
          ∙ sym (ap (λ (l : List Record). length (records_bytes (take k (drop j.stable l)))) taken);
      place = sound.place;
      header = sound.header;
      as_many = omega (arith, items_left, ap length spots_left, length-map c.pop-2.new.self.items (λ s. s.value), length-take-le n (places_of j) (omega (arith, places_count j sound, size, total)));
      inside = λ at content has.
          sound.inside at content
          (has_same (take j.stable (map (λ s. s.value) c.pop-3.new.self.items)) (take j.stable (records_of j)) (take j.stable (map (λ s. s.value) c.pop-2.new.self.items)) (take j.stable (places_of j)) at content
          (ap (λ (l : List Record). take j.stable l) taken ∙ take-take j.stable n (records_of j) (omega (arith, size, appended)))
          (ap (λ (l : List ℕ). take j.stable l) spots_left ∙ take-take j.stable n (places_of j) (omega (arith, size, appended))) has);
      behind =
          ap (λ (l : List ℕ). drop j.stable l) spots_left
          ∙ behind_taken (records_of j) (places_of j) j.stable count n (j.place + 9) (omega (arith, size, counts)) sound.behind
          ∙ sym (ap (λ (l : List Record). content_places (j.place + 9) (drop j.stable l)) taken);
    }

pub returns-clause-fit : goal.returns-clause-fit
returns-clause-fit c =
    let j = c.self.inside in
    let sound = c.self.invariant in
    let n = vec_len j.records - 1 in
    let total = records_count j sound in
    let appended : j.stable < length (records_of j) = subst (λ (log : Log). log.stable < length log.records) (sym c.self.view_is) c.requires.appended in
    let size : length (records_of j) ≡ n + 1 = omega (arith, total, j.records.ok.0, appended) in
    let taken : map (λ s. s.value) c.pop-3.new.self.items ≡ take n (records_of j) =
    ap (λ items. map (λ s. s.value) items) c.pop-3.ensures.rest ∙ sym (take-map (λ s. s.value) n j.records.items) in
    subst AreRecords (sym taken) (are_front (records_of j) n (omega (arith, sound.some, size, appended)) (omega (arith, size)) sound.fit)

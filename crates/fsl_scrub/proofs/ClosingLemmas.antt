-- A new file, closed and then opened.
use Rattle.std.proofs.Common.{◌≡◌, ◌≢◌, inl, inr, ℕ, ◌+◌, ◌<◌, ◌≤◌, List, [], ◌∷◌, ◌++◌, length, drop, refl, sym, ap, subst, ◌∙◌, append_assoc, length-append, arith, IsTrue, Some, Result, Ok, Err}
use Rattle.std.specs.Prelude.{◌^◌, IsErrAnd, filter_map, map, option_map, option_to_list}
use Rattle.std.specs.List.{cons_option}
use Rattle.std.specs.FinSet as set
use Rattle.std.proofs.lemmas.Bool.{cases_eq}
use Rattle.std.proofs.lemmas.List.{length-map, take_all}
use Rattle.fsl_order.specs.Causes.{Rose}
use Rattle.fsl_disk.specs.Disk.{DiskState, IsModelled, Told, Keeps, LeavesOnly, Begins, Only, Quiet}
use Rattle.fsl_disk.proofs.Moments.{and_then, modelled_after, quiet_moments, told_before, told_contents, weaker}
use Rattle.fsl_disk.proofs.Pieces.{split}
use Rattle.fsl_record.specs.declared.Record.{Record}
use Rattle.fsl_record.specs.Records.{records_bytes}
use Rattle.fsl_journal.specs.Commit.{HeldOrGated, body_of, eight, gated}
use Rattle.fsl_journal.specs.Create.{IsShort, new_file}
use Rattle.fsl_journal.specs.File.{group_bytes, header, mark_2}
use Rattle.fsl_journal.specs.Log.{WhereEmpty}
use Rattle.fsl_scrub.specs.declared.faults.WriteFault.{WriteFault}
use Rattle.fsl_scrub.specs.declared.faults.WriteFault.TheVariants as write_fault
use Rattle.fsl_scrub.specs.Growing.{EachBegins, EndsAt, Grows}
use Rattle.fsl_scrub.specs.Closing.{ClosesFile, IsOfWriting, IsUnopened, ScrubFailed, UnopenedOr, WritesFile}
use Rattle.fsl_scrub.specs.Faults.{ReadFails, SpareFails, fault_of}
use Rattle.fsl_repo.specs.Machine.{State}
use Rattle.fsl_order.specs.Rows.{ascending}
use Rattle.fsl_record.specs.declared.Record.TheVariants as record_of
use Rattle.fsl_blobs.specs.Fold.{Contents, contents, held_from}
use Rattle.fsl_blobs.specs.declared.Placed.{Placed}
use Rattle.fsl_scrub.specs.Scrubbed.{blob_of, blobs_of, file_text, group_of, scrubbed, shuns_of, unsized}
use Rattle.fsl_scrub.proofs.Opening.{length-eight, some_same}

abbrev closed : ℕ
closed = 67

not_open : closed ≢ 79
not_open e = absurd (omega (arith, e))

-- what begins as a new file has its gate closed
pub begins_unopened : (c : List ℕ) → Begins new_file c → IsUnopened c
begins_unopened c begins = inr (67, drop 16 c, split new_file c begins, not_open)

pub whole_is : (records : List Record) → gated new_file 15 79 (body_of (records_bytes records)) ≡ file_text records
unfolding eight
whole_is records = sym (append_assoc (header mark_2) (group_bytes records) (67 ∷ [])) ∙ refl

pub length_file : (records : List Record) → length (new_file ++ body_of (records_bytes records)) ≡ length (file_text records)
length_file records =
    let body : List ℕ = body_of (records_bytes records) in
    let whole : length (header mark_2 ++ 79 ∷ body) ≡ length (file_text records) = ap length (whole_is records) in
    omega (arith, whole, length-append (header mark_2) (79 ∷ body), length-append new_file body)

pub opened_unopened : (records : List Record) → length (file_text records) < 2 ^ 64 → (c : List ℕ) → HeldOrGated new_file 15 (body_of (records_bytes records)) c → UnopenedOr records c
opened_unopened records small c (inl begins) = inl (begins_unopened c begins)
opened_unopened records small c (inr opened) = elim (cases_eq opened.0 79) [
  | inl same ↦
      let whole : c ≡ file_text records = opened.1 ∙ ap (λ (g : ℕ). gated new_file 15 g (body_of (records_bytes records))) same ∙ whole_is records in
      inr (whole, subst (λ (n : ℕ). n < 2 ^ 64) (sym (ap length whole)) small)
  | inr shut ↦ inl (inr (opened.0, body_of (records_bytes records), opened.1, shut))
]

-- each image is the new file, so each begins so
pub only_begins : (s : DiskState) → Only new_file s.images → EachBegins new_file s
only_begins s only c left = subst (λ (d : List ℕ). Begins new_file d) (sym (only c left)) (take_all (length new_file) new_file (omega arith))

-- the file grows behind its closed gate
pub grows_unopened : (s0 s1 s2 : DiskState) → LeavesOnly s0 s1 IsUnopened → IsTrue s1.is_model → EachBegins new_file s1 → Grows 16 s1 s2 → LeavesOnly s0 s2 IsUnopened
grows_unopened s0 s1 s2 so_far model each grows =
    and_then s0 s1 s2 IsUnopened so_far (weaker s1 s2 (Begins new_file) IsUnopened begins_unopened (grows.moments model new_file (omega arith) each))

pub grows_begins : (s1 s2 : DiskState) → IsTrue s1.is_model → EachBegins new_file s1 → Grows 16 s1 s2 → EachBegins new_file s2
grows_begins s1 s2 model each grows = (grows.moments model new_file (omega arith) each).now

pub length_unsized : (records : List Record) → length (unsized records) ≡ length (records_bytes records) + 9
length_unsized records = omega (arith, length-append ((0 ∷ 0 ∷ 0 ∷ 0 ∷ 0 ∷ 0 ∷ 0 ∷ 0 ∷ []) ++ records_bytes records) (67 ∷ []), length-append (0 ∷ 0 ∷ 0 ∷ 0 ∷ 0 ∷ 0 ∷ 0 ∷ 0 ∷ []) (records_bytes records))

-- ---- how the calls end

pub closed_fault : (records : List Record) (s0 s2 : DiskState) (e : WriteFault) (r : Result ℕ WriteFault) → Keeps s0 s2 → IsErrAnd r (λ f. f ≡ e) → WhereEmpty s0 (LeavesOnly s0 s2 IsUnopened)
    → s0.faults ≤ s2.faults → SpareFails e s0.faults s2.faults → ClosesFile records s0 s2 r
closed_fault records s0 s2 e (Ok n) keeps is moments later fails = absurd is
closed_fault records s0 s2 e (Err f) keeps is moments later fails = record {
  keeps = keeps;
  contents = tt;
  begins = tt;
  moments = moments;
  len = tt;
  later = later;
  same = tt;
  failed = subst (λ (f : WriteFault). SpareFails f s0.faults s2.faults) (sym is) fails;
}

pub file_fault : (records : List Record) (s0 s2 : DiskState) (e : WriteFault) (r : Result ℕ WriteFault) → Keeps s0 s2 → IsErrAnd r (λ f. f ≡ e) → WhereEmpty s0 (LeavesOnly s0 s2 (UnopenedOr records))
    → s0.faults ≤ s2.faults → SpareFails e s0.faults s2.faults → WritesFile records s0 s2 r
file_fault records s0 s2 e (Ok n) keeps is moments later fails = absurd is
file_fault records s0 s2 e (Err f) keeps is moments later fails = record {
  keeps = keeps;
  contents = tt;
  durable = tt;
  moments = moments;
  len = tt;
  later = later;
  same = tt;
  failed = subst (λ (f : WriteFault). SpareFails f s0.faults s2.faults) (sym is) fails;
}

-- a file that is short at each moment
pub short_moments : (s0 s1 : DiskState) → (IsTrue s0.is_model → ((c : List ℕ) → s0.images c → c ≡ []) → LeavesOnly s0 s1 IsShort) → WhereEmpty s0 (LeavesOnly s0 s1 IsUnopened)
short_moments s0 s1 moments modelled empty = weaker s0 s1 IsShort IsUnopened (λ c short. inl short) (moments modelled.model empty)

-- the header is written
module _ (s0 s1 : DiskState) (keeps : Keeps s0 s1)
    (contents : Told s0 (λ held. s1.contents ≡ Some new_file)) (durable : IsTrue s0.is_model → Told s0 (λ held. Only new_file s1.images))
    (moments : IsTrue s0.is_model → ((c : List ℕ) → s0.images c → c ≡ []) → LeavesOnly s0 s1 IsShort) where
  pub header_ends : EndsAt 16 s1
  header_ends held told = let before = told_before s0 s1 held keeps told in ap length (some_same (sym told ∙ contents before.0 before.1))

  pub header_moments : WhereEmpty s0 (LeavesOnly s0 s1 IsUnopened)
  header_moments modelled empty = short_moments s0 s1 moments modelled empty

  header_each : IsModelled s0 → EachBegins new_file s1
  header_each modelled = let told = told_contents s0 modelled in only_begins s1 (durable modelled.model told.0 told.1)

  -- and then the group
  module _ (s2 : DiskState) (grows : Grows 16 s1 s2) where
    pub group_moments : WhereEmpty s0 (LeavesOnly s0 s2 IsUnopened)
    group_moments modelled empty = grows_unopened s0 s1 s2 (header_moments modelled empty) (keeps.model ∙ modelled.model) (header_each modelled) grows

    pub group_each : IsModelled s0 → EachBegins new_file s2
    group_each modelled = grows_begins s1 s2 (keeps.model ∙ modelled.model) (header_each modelled) grows

    -- and its length
    module _ (s3 : DiskState) (length_grows : Grows 16 s2 s3) where
      pub length_moments : WhereEmpty s0 (LeavesOnly s0 s3 IsUnopened)
      length_moments modelled empty = grows_unopened s0 s2 s3 (group_moments modelled empty) (grows.keeps.model ∙ keeps.model ∙ modelled.model) (group_each modelled) length_grows

      pub length_each : IsModelled s0 → EachBegins new_file s3
      length_each modelled = grows_begins s2 s3 (grows.keeps.model ∙ keeps.model ∙ modelled.model) (group_each modelled) length_grows

pub unsized_parts : (records : List Record) → new_file ++ unsized records ≡ new_file ++ (0 ∷ 0 ∷ 0 ∷ 0 ∷ 0 ∷ 0 ∷ 0 ∷ 0 ∷ []) ++ (records_bytes records ++ 67 ∷ [])
unsized_parts records = simp append_assoc

pub closed_is : (records : List Record) (n : ℕ) → n ≡ length (records_bytes records) → new_file ++ eight n ++ (records_bytes records ++ 67 ∷ []) ≡ new_file ++ body_of (records_bytes records)
closed_is records n is = ap (λ (k : ℕ). new_file ++ eight k ++ (records_bytes records ++ 67 ∷ [])) is ∙ simp append_assoc

pub length_closed : (records : List Record) → length (new_file ++ body_of (records_bytes records)) ≡ length (records_bytes records) + 25
length_closed records =
    omega (arith, length-append new_file (body_of (records_bytes records)), length-append (eight (length (records_bytes records)) ++ records_bytes records) (67 ∷ []), length-append (eight (length (records_bytes records))) (records_bytes records), length-eight (length (records_bytes records)))

-- ---- the whole file

-- the gate of a closed file is opened
module _ (records : List Record) (end : ℕ) (s0 s1 s2 : DiskState) (closes : ClosesFile records s0 s1 (Ok end)) where
  pub opened_moments : end < 2 ^ 64 → ((IsTrue s1.is_model → (body : List ℕ) → s1.contents ≡ Some (new_file ++ body) → EachBegins new_file s1 → LeavesOnly s1 s2 (HeldOrGated new_file 15 body))) → WhereEmpty s0 (LeavesOnly s0 s2 (UnopenedOr records))
  opened_moments small opens modelled empty =
      let told = told_contents s0 modelled in
      and_then s0 s1 s2 (UnopenedOr records) (weaker s0 s1 IsUnopened (UnopenedOr records) (λ c u. inl u) (closes.moments modelled empty))
      (weaker s1 s2 (HeldOrGated new_file 15 (body_of (records_bytes records))) (UnopenedOr records) (opened_unopened records (omega (arith, small, closes.len, length_file records)))
      (opens (closes.keeps.model ∙ modelled.model) (body_of (records_bytes records)) (closes.contents told.0 told.1) (closes.begins modelled)))

-- ---- a scrub

-- an empty file
empty_unopened : (records : List Record) (c : List ℕ) → c ≡ [] → UnopenedOr records c
empty_unopened records c empty = inl (inl (omega (arith, ap length empty)))

-- a look at its length, and then what is written
module _ (records : List Record) (s0 s1 : DiskState) (quiet : Quiet s0 s1) (no_other : IsTrue s0.is_model → (c : List ℕ) → s0.since s0.moment c → s0.images c) where
  pub look_moments : WhereEmpty s0 (LeavesOnly s0 s1 (UnopenedOr records))
  look_moments modelled empty = quiet_moments s0 s1 (UnopenedOr records) quiet modelled.model (no_other modelled.model) (λ c left. empty_unopened records c (empty c left))

  pub look_on : (s2 : DiskState) → WhereEmpty s1 (LeavesOnly s1 s2 (UnopenedOr records)) → WhereEmpty s0 (LeavesOnly s0 s2 (UnopenedOr records))
  look_on s2 more modelled empty =
      and_then s0 s1 s2 (UnopenedOr records) (look_moments modelled empty)
      (more (modelled_after s0 s1 quiet.keeps modelled) (λ c left. empty c (quiet.images modelled.model c left)))

-- the names that are written are those of the scrubbed records
filter_mapped : (c : Contents) (names : List Placed) → filter_map (λ (p : Placed). blob_of c p.name) names ≡ filter_map (λ (p : ℕ × List ℕ). blob_of c p.1) (map (λ (p : Placed). (p.place, p.name)) names)
filter_mapped c [] = refl
filter_mapped c (p ∷ names) = ap (cons_option (blob_of c p.name)) (filter_mapped c names)

pub group_scrubbed : (records : List Record) (names : List Placed) (shuns : List (List ℕ)) → map (λ (p : Placed). (p.place, p.name)) names ≡ held_from records 0
    → shuns ≡ ascending (set.items (contents records).shunned) → group_of (contents records) names shuns ≡ scrubbed records
group_scrubbed records names shuns placed is =
    let c = contents records in
    ap (λ (l : List Record). option_to_list (option_map record_of.Config c.config) ++ l ++ map record_of.Shun shuns)
    (filter_mapped c names ∙ ap (λ (l : List (ℕ × List ℕ)). filter_map (λ (p : ℕ × List ℕ). blob_of c p.1) l) placed)
    ∙ ap (λ (l : List (List ℕ)). option_to_list (option_map record_of.Config c.config) ++ blobs_of records ++ map record_of.Shun l) is

-- their numbers
pub count_held : (records : List Record) (names : List Placed) → map (λ (p : Placed). (p.place, p.name)) names ≡ held_from records 0 → length names ≡ length (held_from records 0)
count_held records names placed = sym (length-map names (λ (p : Placed). (p.place, p.name))) ∙ ap length placed

pub count_shuns : (records : List Record) (shuns : List (List ℕ)) → shuns ≡ ascending (set.items (contents records).shunned) → length shuns ≡ length (shuns_of records)
count_shuns records shuns is = ap length is ∙ sym (length-map (ascending (set.items (contents records).shunned)) record_of.Shun)

-- what a failed write is to a scrub
pub scrub_failed : (e : WriteFault) (old new : State) (s0 s1 s2 : DiskState) → s1.faults ≡ s0.faults → ReadFails e old new → SpareFails e s1.faults s2.faults → ScrubFailed (fault_of e) old new s0 s2
scrub_failed write_fault.Unwritten old new s0 s1 s2 same read rose = inr (subst (λ (n : ℕ). Rose n s2.faults) same rose, read)
scrub_failed write_fault.Unread old new s0 s1 s2 same read stays = inl (read, stays ∙ same)
scrub_failed (write_fault.Damaged name found) old new s0 s1 s2 same read stays = (read.0, (read.1, stays ∙ same))
scrub_failed write_fault.Memory old new s0 s1 s2 same read stays = (read, stays ∙ same)

-- and it isn't that the spare file has bytes
pub of_writing : (e : WriteFault) → IsOfWriting (fault_of e)
of_writing write_fault.Unwritten = tt
of_writing write_fault.Unread = tt
of_writing (write_fault.Damaged name found) = tt
of_writing write_fault.Memory = tt

-- What a disk may leave while a repository's file is made.
use Rattle.std.proofs.Common.{◌≡◌, ◌≢◌, inl, inr, ℕ, ◌^◌, ◌<◌, ◌≤◌, true, List, [], ◌∷◌, ◌++◌, length, drop, refl, sym, ◌∙◌, ap, subst, arith, length-append, IsTrue, Some}
use Rattle.std.proofs.lemmas.Bool.{cases_eq}
use Rattle.std.proofs.lemmas.List.{append-nil, take_all}
use Rattle.fsl_disk.specs.Disk.{DiskState, IsModelled, Told, Torn, Begins, Calls, Keeps, Quiet, Only, LeavesOnly, written}
use Rattle.fsl_disk.proofs.Moments.{started, goes_on, and_then, quiet_moments, told_before, modelled_after, weaker}
use Rattle.fsl_disk.proofs.Pieces.{split}
use Rattle.fsl_record.specs.declared.Config.{Config}
use Rattle.fsl_record.specs.declared.Record.{Record}
use Rattle.fsl_record.specs.declared.Record.TheVariants as record_of
use Rattle.fsl_record.specs.Records.{record_bytes, records_bytes, IsFit}
use Rattle.fsl_journal.specs.Commit.{gated, HeldOrGated, EndsAt, body_of}
use Rattle.fsl_journal.specs.Create.{new_file, IsShort}
use Rattle.fsl_journal.specs.File.{header, mark_2, IsFileOf}
use Rattle.fsl_journal.specs.Journal.{NothingOr}
use Rattle.fsl_journal.specs.Reading.{group_body}
use Rattle.fsl_journal.proofs.Files.{laid_file, stands, groups_bytes, records_in}
use Rattle.fsl_journal.proofs.Gate.{some_same}
use Rattle.fsl_journal.proofs.Records.{are_some}
use Rattle.fsl_journal.proofs.Unique.{not_shut}

-- a file that stands for records has a group
long_file : (c : List ℕ) (records : List Record) → IsFileOf c records → 17 ≤ length c
long_file c records is = let log = laid_file records c is in at is.mark log.groups log.gate log.rest (omega (arith, are_some records log.fit, ap length log.all)) log.split
  where
    at : (mark : ℕ) (groups : List (List Record)) (gate : ℕ) (rest : List ℕ) → 0 < length (records_in groups) → c ≡ header mark ++ groups_bytes groups ++ gate ∷ rest → 17 ≤ length c
    at mark [] gate rest some is = absurd (omega (arith, some))
    at mark (k ∷ ks) gate rest some is = omega (arith, ap length is, length-append (header mark ++ groups_bytes (k ∷ ks)) (gate ∷ rest), length-append (header mark) (groups_bytes (k ∷ ks)), length-append (79 ∷ group_body k) (groups_bytes ks))

pub short_nothing : (config : Config) (c : List ℕ) → IsShort c → NothingOr config c
short_nothing config c short = inl (λ records is. omega (arith, short, long_file c records is))

shut_nothing : (config : Config) (c rest : List ℕ) (gate : ℕ) → gate ≢ 79 → c ≡ header mark_2 ++ gate ∷ rest → NothingOr config c
shut_nothing config c rest gate shut is = inl (λ records file. not_shut c records gate rest mark_2 file is shut)

module _ (config : Config) (bytes body : List ℕ) (fit : IsFit (record_of.Config config)) (bytes_are : bytes ≡ record_bytes (record_of.Config config)) (fits : length bytes < 2 ^ 64) (is : body ≡ body_of bytes) where
  pub opened_stands : (c : List ℕ) → c ≡ gated new_file 15 79 body → IsFileOf c (record_of.Config config ∷ [])
  opened_stands c c_is =
      let first = record_of.Config config ∷ [] in
      let bytes_is : bytes ≡ records_bytes (record_of.Config config ∷ []) = bytes_are ∙ sym (append-nil (record_bytes (record_of.Config config))) in
      stands first mark_2 (length (header mark_2 ++ groups_bytes (first ∷ []))) c (record {
        groups = first ∷ [];
        gate = 67;
        rest = [];
        split =
            c_is
            ∙ ap (λ (b : List ℕ). header mark_2 ++ 79 ∷ b) (is ∙ ap body_of bytes_is)
            ∙ ap (λ (l : List ℕ). header mark_2 ++ (79 ∷ (l ++ 67 ∷ []))) (sym (append-nil (group_body (record_of.Config config ∷ []))));
        at = refl;
        shut = λ e. absurd (omega (arith, e));
        whole = ((λ none. absurd (cc), subst (λ (l : List ℕ). length l < 2 ^ 64) bytes_is fits), tt);
        all = refl;
        fit = (λ i. true, λ i. true, (fit, tt));
        known = (tt, tt);
      })

  nothing_or : (c : List ℕ) → HeldOrGated new_file 15 body c → NothingOr config c
  nothing_or c (inl begins) = shut_nothing config c (drop 16 c) 67 (λ e. absurd (omega (arith, e))) (split new_file c begins)
  nothing_or c (inr opened) = elim (cases_eq opened.0 79) [
    | inl open_gate ↦ inr (opened_stands c (opened.1 ∙ ap (λ (g : ℕ). gated new_file 15 g body) open_gate))
    | inr shut ↦ shut_nothing config c body opened.0 shut opened.1
  ]

  -- the header is written, and then the group
  pub create_moments : (s0 s2 s3 : DiskState) → LeavesOnly s0 s2 (NothingOr config) → s2.contents ≡ Some new_file → IsTrue s2.is_model → (IsTrue s2.is_model → Told s2 (λ held. LeavesOnly s2 s3 (HeldOrGated held 15 body))) → LeavesOnly s0 s3 (NothingOr config)
  create_moments s0 s2 s3 so_far told model wrote = and_then s0 s2 s3 (NothingOr config) so_far (weaker s2 s3 (HeldOrGated new_file 15 body) (NothingOr config) nothing_or (wrote model new_file told))

-- a look at the length
pub look_moments : (config : Config) (s0 s1 : DiskState) → Quiet s0 s1 → IsModelled s0 → ((c : List ℕ) → s0.since s0.moment c → s0.images c) → ((c : List ℕ) → s0.images c → c ≡ []) → LeavesOnly s0 s1 (NothingOr config)
look_moments config s0 s1 quiet modelled no_other empty =
    quiet_moments s0 s1 (NothingOr config) quiet modelled.model no_other (λ c left. short_nothing config c (omega (arith, ap length (empty c left))))

-- and then the file
pub file_moments : (config : Config) (s0 s1 s2 : DiskState) → Quiet s0 s1 → IsModelled s0 → ((c : List ℕ) → s0.since s0.moment c → s0.images c) → ((c : List ℕ) → s0.images c → c ≡ [])
    → (IsModelled s1 → ((c : List ℕ) → s1.images c → c ≡ []) → LeavesOnly s1 s2 (NothingOr config)) → LeavesOnly s0 s2 (NothingOr config)
file_moments config s0 s1 s2 quiet modelled no_other empty wrote =
    and_then s0 s1 s2 (NothingOr config) (look_moments config s0 s1 quiet modelled no_other empty)
    (wrote (modelled_after s0 s1 quiet.keeps modelled) (λ c left. empty c (quiet.images modelled.model c left)))

-- the header is written into an empty file
pub header_moments : (s0 s1 : DiskState) → Calls (Torn 0 16) s0 s1 → IsTrue s0.is_model → ((c : List ℕ) → s0.since s0.moment c → s0.images c) → ((c : List ℕ) → s0.images c → c ≡ []) → LeavesOnly s0 s1 IsShort
header_moments s0 s1 call model no_other empty =
    let passes = call.crash model in
    goes_on s0 s0 s1 IsShort (Torn 0 16) (started s0 IsShort no_other (λ c left. omega (arith, ap length (empty c left)))) passes
    (λ c left. let from = passes.follows c left in omega (arith, from.2.no_longer, ap length (empty from.0 from.1)))

pub header_held : (held : List ℕ) (s0 s1 : DiskState) → held ≡ [] → s0.contents ≡ Some held → Told s0 (λ h. s1.contents ≡ Some (written 0 new_file h)) → s1.contents ≡ Some new_file
header_held held s0 s1 empty told wrote = wrote held told ∙ ap (λ h. Some (written 0 new_file h)) empty

pub header_told : (s1 s2 : DiskState) → Keeps s1 s2 → Told s1 (λ held. s2.contents ≡ Some new_file) → (held : List ℕ) → s2.contents ≡ Some held → held ≡ new_file
header_told s1 s2 keeps wrote held told = let before = told_before s1 s2 held keeps told in some_same (sym told ∙ wrote before.0 before.1)

pub header_ends : (s1 s2 : DiskState) → Keeps s1 s2 → Told s1 (λ held. s2.contents ≡ Some new_file) → (IsTrue s1.is_model → Told s1 (λ held. Only new_file s2.images)) → EndsAt 15 s2
header_ends s1 s2 keeps wrote durable = record {
  last = λ held told. ap length (header_told s1 s2 keeps wrote held told);
  images = λ model held told c left.
      let before = told_before s1 s2 held keeps told in
      let is = header_told s1 s2 keeps wrote held told in
      let same : c ≡ held = durable (sym keeps.model ∙ model) before.0 before.1 c left ∙ sym is in
      subst (λ (f : List ℕ). Begins held f) (sym same) (take_all (length held) held (omega arith));
}

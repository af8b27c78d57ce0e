-- What a file stands for while a group is written behind its closed gate.
use Rattle.std.proofs.Common.{◌≡◌, ◌≢◌, ◌⊎◌, inl, inr, ℕ, ◌+◌, List, [], ◌∷◌, ◌++◌, length, take, drop, sym, ◌∙◌, ap, subst, arith, append_assoc, length-append}
use Rattle.std.specs.List.{AllByRecursion}
use Rattle.std.proofs.lemmas.Bool.{cases_eq}
use Rattle.std.proofs.lemmas.List.{take_at, append-nil}
use Rattle.std.proofs.lemmas.List.Concat.{flat_map-append}
use Rattle.fsl_disk.specs.Disk.{Begins}
use Rattle.fsl_disk.proofs.Pieces.{split}
use Rattle.fsl_record.specs.declared.Record.{Record}
use Rattle.fsl_record.specs.Records.{records_bytes, AreRecords, IsOfVersion}
use Rattle.fsl_journal.specs.Commit.{gated, body_of}
use Rattle.fsl_journal.specs.File.{header, version_of, IsGroup, IsFileOf}
use Rattle.fsl_journal.specs.Log.{IsLog}
use Rattle.fsl_journal.specs.Reading.{group_body}
use Rattle.fsl_journal.proofs.Files.{Laid, laid, is_log, stands, groups_bytes, records_in}
use Rattle.fsl_journal.proofs.Records.{all_append}

-- whatever stands behind the closed gate
laid_behind : (records : List Record) (mark place : ℕ) (held c : List ℕ) → Laid records mark place held → Begins held c → Laid records mark place c
laid_behind records mark place held c log begins = record {
  groups = log.groups;
  gate = log.gate;
  rest = log.rest ++ drop (length held) c;
  split = split held c begins ∙ ap (λ (l : List ℕ). l ++ drop (length held) c) log.split ∙ append_assoc (header mark ++ groups_bytes log.groups) (log.gate ∷ log.rest) (drop (length held) c);
  at = log.at;
  shut = log.shut;
  whole = log.whole;
  all = log.all;
  fit = log.fit;
  known = log.known;
}

pub file_behind : (records : List Record) (mark place : ℕ) (held c : List ℕ) → IsLog records mark place held → Begins held c → IsFileOf c records
file_behind records mark place held c log begins = stands records mark place c (laid_behind records mark place held c (laid records mark place held log) begins)

pub groups_push : (groups : List (List Record)) (k : List Record) → groups_bytes (groups ++ k ∷ []) ≡ groups_bytes groups ++ 79 ∷ group_body k
groups_push groups k =
    flat_map-append (λ (g : List Record). 79 ∷ group_body g) groups (k ∷ []) ∙ ap (λ (l : List ℕ). groups_bytes groups ++ l) (append-nil (79 ∷ group_body k))

pub records_push : (groups : List (List Record)) (k : List Record) → records_in (groups ++ k ∷ []) ≡ records_in groups ++ k
records_push groups k =
    flat_map-append (λ (g : List Record). g) groups (k ∷ []) ∙ ap (λ (l : List Record). records_in groups ++ l) (append-nil k)

module _ (records new : List Record) (mark place : ℕ) (held : List ℕ) (is : IsLog records mark place held) (group : IsGroup new) (fit : AreRecords (records ++ new)) (known : AllByRecursion (IsOfVersion (version_of mark)) (records ++ new)) where
  log : Laid records mark place held
  log = laid records mark place held is

  front : take place held ≡ header mark ++ groups_bytes (laid records mark place held is).groups
  front =
      let log = laid records mark place held is in
      ap (λ (l : List ℕ). take place l) log.split ∙ take_at (header mark ++ groups_bytes log.groups) (log.gate ∷ log.rest) place (sym log.at)

  -- a closed gate
  shut_file : (gate : ℕ) (body : List ℕ) → gate ≢ 79 → IsFileOf (gated held place gate body) records
  shut_file gate body shut =
      let log = laid records mark place held is in
      stands records mark place (gated held place gate body) (record {
        groups = log.groups;
        gate = gate;
        rest = body;
        split = ap (λ (l : List ℕ). l ++ gate ∷ body) front;
        at = log.at;
        shut = shut;
        whole = log.whole;
        all = log.all;
        fit = log.fit;
        known = log.known;
      })

  more : header mark ++ groups_bytes ((laid records mark place held is).groups ++ new ∷ []) ≡ header mark ++ groups_bytes (laid records mark place held is).groups ++ 79 ∷ group_body new
  more =
      let groups = (laid records mark place held is).groups in
      ap (λ (l : List ℕ). header mark ++ l) (groups_push groups new) ∙ sym (append_assoc (header mark) (groups_bytes groups) (79 ∷ group_body new))

  -- an open gate
  pub open_log : IsLog (records ++ new) mark (place + length (body_of (records_bytes new))) (gated held place 79 (body_of (records_bytes new)))
  open_log =
      let log = laid records mark place held is in
      is_log (records ++ new) mark (place + length (body_of (records_bytes new))) (gated held place 79 (body_of (records_bytes new))) (record {
        groups = log.groups ++ new ∷ [];
        gate = 67;
        rest = [];
        split =
            ap (λ (l : List ℕ). l ++ (79 ∷ (group_body new ++ 67 ∷ []))) front
            ∙ sym (append_assoc (header mark ++ groups_bytes log.groups) (79 ∷ group_body new) (67 ∷ []))
            ∙ ap (λ (l : List ℕ). l ++ 67 ∷ []) (sym more);
        at = omega (arith, log.at, ap length more, length-append (header mark ++ groups_bytes log.groups) (79 ∷ group_body new), length-append (group_body new) (67 ∷ []));
        shut = λ e. absurd (omega (arith, e));
        whole = all_append IsGroup log.groups (new ∷ []) log.whole (group, tt);
        all = records_push log.groups new ∙ ap (λ (l : List Record). l ++ new) log.all;
        fit = fit;
        known = known;
      })

  -- any gate
  pub gated_file : (gate : ℕ) (c : List ℕ) → c ≡ gated held place gate (body_of (records_bytes new)) → IsFileOf c records ⊎ IsFileOf c (records ++ new)
  gated_file gate c c_is = elim (cases_eq gate 79) [
    | inl open_gate ↦
        let at_open : gated held place gate (body_of (records_bytes new)) ≡ gated held place 79 (body_of (records_bytes new)) = ap (λ (g : ℕ). gated held place g (body_of (records_bytes new))) open_gate in
        inr (subst (λ (f : List ℕ). IsFileOf f (records ++ new)) (sym (c_is ∙ at_open)) open_log.file)
    | inr shut ↦ inl (subst (λ (f : List ℕ). IsFileOf f records) (sym c_is) (shut_file gate (body_of (records_bytes new)) shut))
  ]

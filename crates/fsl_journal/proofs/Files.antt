-- A file and the place of its closed gate, with numbers of 8 bytes that don't unfold.
use Rattle.std.proofs.Common.{◌≡◌, ◌≢◌, ℕ, ◌+◌, List, ◌∷◌, ◌++◌, length, refl, sym, ◌∙◌, subst, length-append}
use Rattle.std.specs.List.{AllByRecursion, flat_map}
use Rattle.fsl_record.specs.declared.Record.{Record}
use Rattle.fsl_record.specs.Records.{AreRecords, IsOfVersion}
use Rattle.fsl_journal.specs.Commit.{eight}
use Rattle.fsl_journal.specs.File.{header, version_of, group_bytes, IsGroup, IsFileOf}
use Rattle.fsl_journal.specs.Log.{IsLog}
use Rattle.fsl_journal.specs.Places.{group_places, IsPlacedFile}
use Rattle.fsl_journal.specs.Reading.{group_body}

pub length-eight : (n : ℕ) → length (eight n) ≡ 8
unfolding eight
length-eight n = refl

-- open groups
abbrev pub groups_bytes : List (List Record) → List ℕ
groups_bytes groups = flat_map (λ records. 79 ∷ group_body records) groups

-- their records
abbrev pub records_in : List (List Record) → List Record
records_in groups = flat_map (λ group. group) groups

pub record Laid (records : List Record) (mark place : ℕ) (file : List ℕ) : Type 0 where
  pub groups : List (List Record)
  pub gate : ℕ
  pub rest : List ℕ
  pub split : file ≡ header mark ++ groups_bytes groups ++ gate ∷ rest
  pub at : place ≡ length (header mark ++ groups_bytes groups)
  pub shut : gate ≢ 79
  pub whole : AllByRecursion IsGroup groups
  pub all : records_in groups ≡ records
  pub fit : AreRecords records
  pub known : AllByRecursion (IsOfVersion (version_of mark)) records

file_laid : (records : List Record) (file : List ℕ) (is : IsFileOf file records) → file ≡ header is.mark ++ groups_bytes is.groups ++ is.gate ∷ is.rest
unfolding eight
file_laid records file is = is.layout

pub laid_file : (records : List Record) (file : List ℕ) (is : IsFileOf file records) → Laid records is.mark (length (header is.mark ++ groups_bytes is.groups)) file
laid_file records file is = record {
  groups = is.groups;
  gate = is.gate;
  rest = is.rest;
  split = file_laid records file is;
  at = refl;
  shut = is.closed;
  whole = is.formed;
  all = sym is.contents;
  fit = is.fit;
  known = is.known;
}

length-front : (mark : ℕ) (groups : List (List Record)) → 15 + length (flat_map group_bytes groups) ≡ length (header mark ++ groups_bytes groups)
unfolding eight
length-front mark groups = sym (length-append (header mark) (groups_bytes groups))

pub laid : (records : List Record) (mark place : ℕ) (file : List ℕ) → IsLog records mark place file → Laid records mark place file
laid records mark place file log = subst (λ (m : ℕ). Laid records m place file) log.marked (record {
  groups = log.file.groups;
  gate = log.file.gate;
  rest = log.file.rest;
  split = file_laid records file log.file;
  at = log.at ∙ length-front log.file.mark log.file.groups;
  shut = log.file.closed;
  whole = log.file.formed;
  all = sym log.file.contents;
  fit = log.file.fit;
  known = log.file.known;
})

pub stands : (records : List Record) (mark place : ℕ) (file : List ℕ) → Laid records mark place file → IsFileOf file records
unfolding eight
stands records mark place file log = record {
  mark = mark;
  groups = log.groups;
  gate = log.gate;
  rest = log.rest;
  layout = log.split;
  closed = log.shut;
  formed = log.whole;
  contents = sym log.all;
  fit = log.fit;
  known = log.known;
}

pub is_log : (records : List Record) (mark place : ℕ) (file : List ℕ) → Laid records mark place file → IsLog records mark place file
unfolding stands
is_log records mark place file log = record { file = stands records mark place file log; marked = refl; at = log.at ∙ sym (length-front mark log.groups) }

pub placed_file : (records : List Record) (mark place : ℕ) (file places : List ℕ) (log : Laid records mark place file) → places ≡ group_places 15 log.groups → IsPlacedFile file records places
unfolding stands
placed_file records mark place file places log is = (stands records mark place file log, is)

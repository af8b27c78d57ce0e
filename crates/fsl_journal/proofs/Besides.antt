-- What one sees of a file who reads it while another process writes to it.
use Rattle.std.proofs.Common.{◌≡◌, ◌⊎◌, inl, inr, ℕ, ◌+◌, ◌≤◌, List, ◌∷◌, take, drop, length, sym, ◌∙◌, ap, subst, refl, arith, length-append, length-take-le, length-drop}
use Rattle.std.specs.Prelude.{slice_index}
use Rattle.std.proofs.lemmas.Bool.{cases_eq}
use Rattle.std.proofs.lemmas.List.{take_at, take-take}
use Rattle.fsl_disk.specs.Disk.{Begins}
use Rattle.fsl_disk.proofs.Pieces.{cut_whole}
use Rattle.fsl_record.specs.declared.Record.{Record}
use Rattle.fsl_journal.specs.Beside.{IsSeenRight, IsFrontWhole, IsBehindNothing, KeepsFront, CommitKeeps}
use Rattle.fsl_journal.specs.Commit.{marked, carried}
use Rattle.fsl_journal.specs.File.{header, IsFileOf, mark_1, mark_2}
use Rattle.fsl_journal.specs.Log.{IsLog}
use Rattle.fsl_journal.proofs.Groups.{file_behind}
use Rattle.fsl_journal.proofs.Opening.{cut_log, last_size}
use Rattle.fsl_journal.proofs.Unique.{one_file}
use Rattle.fsl_journal.proofs.Versions.{marked_log, carried_length, carries, stays}

-- a file with its own place
own_log : (bytes : List ℕ) (records : List Record) (is : IsFileOf bytes records) → (place : ℕ) × IsLog records is.mark place bytes
own_log bytes records is = (_, record { file = is; marked = refl; at = refl })

behind : (seen held : List ℕ) (records : List Record) → Begins seen held → IsFileOf seen records → IsFileOf held records
behind seen held records begins is =
    let log = own_log seen records is in
    file_behind records is.mark log.0 seen held log.1 begins

-- the byte at 13 is the mark
mark_there : (held : List ℕ) (records : List Record) (is : IsFileOf held records) → slice_index held 13 ≡ is.mark
mark_there held records is = ap (λ (l : List ℕ). slice_index l 13) is.layout

first_log : (held : List ℕ) (records : List Record) (is : IsFileOf held records) → slice_index held 13 ≡ mark_1 → (place : ℕ) × IsLog records mark_1 place held
first_log held records is one = (_, record { file = is; marked = sym (mark_there held records is) ∙ one; at = refl })

pub seen_right : IsSeenRight
seen_right held seen records other (inl begins) is was = one_file held records other (behind seen held records begins is) was
seen_right held seen records other (inr (one, (mark, begins))) is was =
    let log = first_log held other was one in
    one_file (marked mark held) records other (behind seen (marked mark held) records begins is) (marked_log other log.0 held mark log.1).file

pub front_whole : IsFrontWhole
front_whole held records mark place other is =
    let log = cut_log records mark place held is (take (place + 1) held) (cut_whole (place + 1) held) in (
      log.file,
      λ one. (marked_log records place (take (place + 1) held) other (subst (λ (m : ℕ). IsLog records m place (take (place + 1) held)) one log)).file,
    )

pub behind_nothing : IsBehindNothing
behind_nothing one other records mark place is same =
    let log = cut_log records mark place one is (take (place + 1) one) (cut_whole (place + 1) one) in
    file_behind records mark place (take (place + 1) one) other log (ap (λ (n : ℕ). take n other) (last_size records mark place one is) ∙ same)

-- ---- while a commit is made

front_of : (whole c : List ℕ) (place : ℕ) → Begins whole c → place ≤ length whole → take place c ≡ take place whole
front_of whole c place begins inside = sym (take-take place (length whole) c inside) ∙ ap (λ (l : List ℕ). take place l) begins

length_marked : (mark : ℕ) (held : List ℕ) → 14 ≤ length held → length (marked mark held) ≡ length held
length_marked mark held long = omega (arith, length-append (take 13 held) (mark ∷ drop 14 held), length-take-le 13 held (omega (arith, long)), length-drop 14 held, long)

kept_carried : (mark place : ℕ) (held c : List ℕ) → take place c ≡ take place (carried mark held) → KeepsFront mark place held c
kept_carried mark place held c same = by (cases_eq mark mark_1)
  where
    by : (mark ≡ mark_1) ⊎ (mark ≡ mark_1 → ⊥) → KeepsFront mark place held c
    by (inl one) = inr (one, (mark_2, same ∙ ap (λ (l : List ℕ). take place l) (carries mark held one)))
    by (inr other) = inl (same ∙ ap (λ (l : List ℕ). take place l) (stays mark held other))

pub keeps : CommitKeeps
keeps mark place held body c header long (inl (one, (other, begins))) =
    inr (one, (other, front_of (marked other held) c place begins (omega (arith, length_marked other held (omega (arith, header, long)), long))))
keeps mark place held body c header long (inr (inl begins)) =
    kept_carried mark place held c (front_of (carried mark held) c place begins (omega (arith, carried_length mark held (omega (arith, header, long)), long)))
keeps mark place held body c header long (inr (inr (gate, is))) =
    kept_carried mark place held c (ap (λ (l : List ℕ). take place l) is ∙ take_at (take place (carried mark held)) (gate ∷ body) place
    (length-take-le place (carried mark held) (omega (arith, carried_length mark held (omega (arith, header, long)), long))))

-- The places of a file's contents, group after group.
use Rattle.std.proofs.Common.{◌≡◌, ◌⊎◌, inl, inr, ℕ, ◌+◌, ◌≤◌, List, [], ◌∷◌, ◌++◌, length, take, sym, ◌∙◌, ap, subst, arith, append_assoc, length-append}
use Rattle.std.proofs.lemmas.List.{take_at, append-nil}
use Rattle.fsl_record.specs.declared.Record.{Record}
use Rattle.fsl_record.specs.Records.{records_bytes}
use Rattle.fsl_journal.specs.Commit.{eight}
use Rattle.fsl_journal.specs.File.{header}
use Rattle.fsl_journal.specs.Places.{content_places, group_places, HasContent, StandsAt, ArePlaced}
use Rattle.fsl_journal.specs.Reading.{group_body}
use Rattle.fsl_journal.proofs.Standing.{stands_on, contents_stand, contents_behind, numbered_places, numbered_append, numbered_length, has_parts}
use Rattle.fsl_journal.proofs.Files.{groups_bytes, length-eight}
use Rattle.fsl_journal.proofs.Groups.{groups_push}

pub placed_none : (records : List Record) (places bytes : List ℕ) → records ≡ [] → places ≡ [] → ArePlaced records places bytes
placed_none records places bytes no_records no_places =
    subst (λ (rs : List Record). ArePlaced rs places bytes) (sym no_records)
    (subst (λ (ps : List ℕ). ArePlaced [] ps bytes) (sym no_places) (record { numbered = tt; stand = λ at content has. absurd has }))

-- one group more, whose gate stands at this place
module _ (records : List Record) (places : List ℕ) (mark : ℕ) (groups : List (List Record)) (k : List Record) (at : ℕ) (at_is : at ≡ length (header mark ++ groups_bytes groups)) (placed : ArePlaced records places (header mark ++ groups_bytes groups)) where
  abbrev front : List ℕ
  front = header mark ++ groups_bytes groups

  abbrev sized : List ℕ
  sized = (header mark ++ groups_bytes groups) ++ 79 ∷ eight (length (records_bytes k))

  layout : header mark ++ groups_bytes (groups ++ k ∷ []) ≡ sized ++ records_bytes k
  layout =
      ap (λ (l : List ℕ). header mark ++ l) (groups_push groups k)
      ∙ sym (append_assoc (header mark) (groups_bytes groups) (79 ∷ group_body k))
      ∙ sym (append_assoc front (79 ∷ eight (length (records_bytes k))) (records_bytes k))

  long : length sized ≡ at + 9
  long = omega (arith, at_is, length-append front (79 ∷ eight (length (records_bytes k))), length-eight (length (records_bytes k)))

  stand : (spot : ℕ) (content : List ℕ) → HasContent records places spot content ⊎ HasContent k (content_places (at + 9) k) spot content → StandsAt spot content (sized ++ records_bytes k) × (15 ≤ spot)
  stand spot content (inl old) =
      let there = placed.stand spot content old in
      (stands_on spot content sized (records_bytes k) (stands_on spot content front (79 ∷ eight (length (records_bytes k))) there.0), there.1)
  stand spot content (inr new) = (
    subst (λ (n : ℕ). StandsAt n content (sized ++ records_bytes k)) (omega arith) (contents_stand k sized 0 (at + 9) spot content (omega (arith, long)) new),
    (let behind = contents_behind k (at + 9) spot content new in omega (arith, behind, at_is, length-append (header mark) (groups_bytes groups))),
  )

  placed_more : ArePlaced (records ++ k) (places ++ content_places (at + 9) k) (header mark ++ groups_bytes (groups ++ k ∷ []))
  placed_more = subst (ArePlaced (records ++ k) (places ++ content_places (at + 9) k)) (sym layout) (record {
    numbered = numbered_append records k places (content_places (at + 9) k) placed.numbered (numbered_places (at + 9) k);
    stand = λ spot content has. stand spot content (has_parts records k places (content_places (at + 9) k) spot content (numbered_length records places placed.numbered) has);
  })

pub placed_on : (records : List Record) (places : List ℕ) (after : List Record) (spots : List ℕ) (mark : ℕ) (groups : List (List Record)) (k : List Record) (at : ℕ) → at ≡ length (header mark ++ groups_bytes groups)
    → ArePlaced records places (header mark ++ groups_bytes groups) → after ≡ records ++ k → spots ≡ places ++ content_places (at + 9) k → ArePlaced after spots (header mark ++ groups_bytes (groups ++ k ∷ []))
placed_on records places after spots mark groups k at at_is placed after_is spots_are =
    subst (λ (rs : List Record). ArePlaced rs spots (header mark ++ groups_bytes (groups ++ k ∷ []))) (sym after_is)
    (subst (λ (ps : List ℕ). ArePlaced (records ++ k) ps (header mark ++ groups_bytes (groups ++ k ∷ []))) (sym spots_are) (placed_more records places mark groups k at at_is placed))

-- in the front of the file
pub placed_front : (records : List Record) (places file front rest : List ℕ) (place : ℕ) → file ≡ front ++ rest → place ≡ length front → ArePlaced records places front → ArePlaced records places (take place file)
placed_front records places file front rest place split place_is placed =
    subst (ArePlaced records places) (sym (ap (λ (l : List ℕ). take place l) split ∙ take_at front rest place (sym place_is))) placed

-- ---- the places by groups

group_long : (k : List Record) (groups : List (List Record)) → length (groups_bytes (k ∷ groups)) ≡ 9 + length (records_bytes k) + length (groups_bytes groups)
group_long k groups = omega (arith, length-append (79 ∷ group_body k) (groups_bytes groups), length-append (79 ∷ eight (length (records_bytes k))) (records_bytes k), length-eight (length (records_bytes k)))

places_push : (start : ℕ) (groups : List (List Record)) (k : List Record) → group_places start (groups ++ k ∷ []) ≡ group_places start groups ++ content_places (start + length (groups_bytes groups) + 9) k
places_push start [] k = append-nil (content_places (start + 9) k) ∙ ap (λ (n : ℕ). content_places n k) (omega arith)
places_push start (g ∷ groups) k =
    let next = start + 9 + length (records_bytes g) in
    let same : next + length (groups_bytes groups) + 9 ≡ start + length (groups_bytes (g ∷ groups)) + 9 = omega (arith, group_long g groups) in
    ap (λ (l : List ℕ). content_places (start + 9) g ++ l) (places_push next groups k)
    ∙ sym (append_assoc (content_places (start + 9) g) (group_places next groups) (content_places (next + length (groups_bytes groups) + 9) k))
    ∙ ap (λ (n : ℕ). (content_places (start + 9) g ++ group_places next groups) ++ content_places n k) same

-- one group more, whose gate stands at this place
pub numbered_on : (places spots : List ℕ) (mark : ℕ) (groups : List (List Record)) (k : List Record) (at : ℕ) → at ≡ length (header mark ++ groups_bytes groups) → places ≡ group_places 15 groups → spots ≡ places ++ content_places (at + 9) k
    → spots ≡ group_places 15 (groups ++ k ∷ [])
numbered_on places spots mark groups k at at_is are spots_are =
    let same : at + 9 ≡ 15 + length (groups_bytes groups) + 9 = omega (arith, at_is, length-append (header mark) (groups_bytes groups)) in
    spots_are ∙ (λ i. are i ++ content_places (same i) k) ∙ sym (places_push 15 groups k)

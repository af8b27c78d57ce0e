-- Contents stay where they stand while a commit writes.
use Rattle.std.proofs.Common.{◌≡◌, inl, inr, Bool, true, false, ℕ, ◌+◌, ◌-◌, ◌==◌, ◌≤◌, List, [], ◌∷◌, ◌++◌, length, take, drop, sym, ◌∙◌, ap, subst, arith, append_assoc, length-append, length-take-le, length-drop, take-append-drop}
use Rattle.std.specs.Bool.{if◌then◌else◌}
use Rattle.std.proofs.lemmas.List.{drop-append-le, take-append-le, drop_at, drop-drop}
use Rattle.fsl_record.specs.declared.Record.{Record}
use Rattle.fsl_record.specs.Records.{records_bytes}
use Rattle.fsl_journal.specs.Commit.{eight, body_of, gated, marked, carried, HeldOrCarried}
use Rattle.fsl_journal.specs.File.{mark_1, mark_2}
use Rattle.fsl_journal.specs.Places.{content_places, HasContent, StandsAt}
use Rattle.fsl_journal.proofs.Standing.{contents_stand, stands_on, stands_begun}
use Rattle.fsl_journal.proofs.Files.{length-eight}

-- behind the header a mark changes nothing
stands_marked : (mark at : ℕ) (content held : List ℕ) → 14 ≤ at → StandsAt at content held → StandsAt at content (marked mark held)
stands_marked mark at content held behind there =
    let front : length (take 13 held) ≡ 13 = length-take-le 13 held (omega (arith, there.inside, behind)) in
    let size : length (marked mark held) ≡ length held = omega (arith, length-append (take 13 held) (mark ∷ drop 14 held), front, length-drop 14 held, there.inside, behind) in
    record {
      inside = omega (arith, there.inside, size);
      same = ap (λ (l : List ℕ). take (length content) l) (dropped front) ∙ there.same;
    }
  where
    dropped : length (take 13 held) ≡ 13 → drop at (marked mark held) ≡ drop at held
    dropped front =
        let n : at ≡ 14 + (at - 14) = omega (arith, behind) in
        ap (λ (k : ℕ). drop k (marked mark held)) n
        ∙ sym (drop-drop (at - 14) 14 (marked mark held))
        ∙ ap (drop (at - 14)) (drop_mark front)
        ∙ drop-drop (at - 14) 14 held
        ∙ ap (λ (k : ℕ). drop k held) (sym n)
      where
        drop_mark : length (take 13 held) ≡ 13 → drop 14 (marked mark held) ≡ drop 14 held
        drop_mark front = ap (drop 14) (sym (append_assoc (take 13 held) (mark ∷ []) (drop 14 held))) ∙ drop_front (take 13 held ++ mark ∷ []) (drop 14 held) (omega (arith, front, length-append (take 13 held) (mark ∷ [])))
          where
            drop_front : (a b : List ℕ) → length a ≡ 14 → drop 14 (a ++ b) ≡ b
            drop_front a b long = drop_at a b 14 long

stands_carried : (mark at : ℕ) (content held : List ℕ) → 14 ≤ at → StandsAt at content held → StandsAt at content (carried mark held)
stands_carried mark at content held behind there = by (mark == mark_1)
  where
    by : (t : Bool) → StandsAt at content (if t then marked mark_2 held else held)
    by true = stands_marked mark_2 at content held behind there
    by false = there

-- before the gate a gate and a body change nothing
stands_gated : (held : List ℕ) (place gate : ℕ) (body : List ℕ) (at : ℕ) (content : List ℕ) → length held ≡ place + 1 → at + length content ≤ place → StandsAt at content held → StandsAt at content (gated held place gate body)
stands_gated held place gate body at content size inside there = stands_on at content (take place held) (gate ∷ body) (record {
  inside = omega (arith, inside, length-take-le place held (omega (arith, size)));
  same = sym cut ∙ there.same;
})
  where
    cut : take (length content) (drop at held) ≡ take (length content) (drop at (take place held))
    cut =
        let front = take place held in
        let long : length (take place held) ≡ place = length-take-le place held (omega (arith, size)) in
        ap (λ (l : List ℕ). take (length content) (drop at l)) (sym (take-append-drop place held))
        ∙ ap (λ (l : List ℕ). take (length content) l) (drop-append-le at (take place held) (drop place held) (omega (arith, long, inside)))
        ∙ take-append-le (length content) (drop at (take place held)) (drop place held) (omega (arith, inside, long, length-drop at (take place held)))

-- what a crash leaves of a commit
pub commit_stands : (mark : ℕ) (held : List ℕ) (place : ℕ) (body c : List ℕ) (at : ℕ) (content : List ℕ) → length held ≡ place + 1 → 15 ≤ at → at + length content ≤ place → HeldOrCarried mark held place body c → StandsAt at content held
    → StandsAt at content c
commit_stands mark held place body c at content size behind inside (inl (one, way)) there =
    stands_begun at content (marked way.0 held) c way.1 (stands_marked way.0 at content held (omega (arith, behind)) there)
commit_stands mark held place body c at content size behind inside (inr (inl begins)) there =
    stands_begun at content (carried mark held) c begins (stands_carried mark at content held (omega (arith, behind)) there)
commit_stands mark held place body c at content size behind inside (inr (inr (gate, is))) there =
    subst (StandsAt at content) (sym is)
    (stands_gated (carried mark held) place gate body at content (carried_size (mark == mark_1)) inside (stands_carried mark at content held (omega (arith, behind)) there))
  where
    carried_size : (t : Bool) → length (if t then marked mark_2 held else held) ≡ place + 1
    carried_size true = omega (arith, length-append (take 13 held) (mark_2 ∷ drop 14 held), length-take-le 13 held (omega (arith, size, behind, inside)), length-drop 14 held, size, behind, inside)
    carried_size false = size

-- the contents of a group that was written
pub new_stands : (held : List ℕ) (place : ℕ) (new : List Record) (at : ℕ) (content : List ℕ) → length held ≡ place + 1 → HasContent new (content_places (place + 9) new) at content
    → StandsAt at content (gated held place 79 (body_of (records_bytes new)))
new_stands held place new at content size has =
    let bytes = records_bytes new in
    let front = take place held ++ 79 ∷ eight (length bytes) in
    let long : length front ≡ place + 9 = omega (arith, length-append (take place held) (79 ∷ eight (length bytes)), length-eight (length bytes), length-take-le place held (omega (arith, size))) in
    subst (StandsAt at content) (layout bytes)
    (stands_on at content (front ++ bytes) (67 ∷ [])
    (subst (λ (n : ℕ). StandsAt n content (front ++ bytes)) (omega arith) (contents_stand new front 0 (place + 9) at content (omega (arith, long)) has)))
  where
    layout : (bytes : List ℕ) → ((take place held ++ 79 ∷ eight (length bytes)) ++ bytes) ++ 67 ∷ [] ≡ gated held place 79 (body_of bytes)
    layout bytes =
        append_assoc (take place held ++ 79 ∷ eight (length bytes)) bytes (67 ∷ [])
        ∙ append_assoc (take place held) (79 ∷ eight (length bytes)) (bytes ++ 67 ∷ [])
        ∙ ap (λ (l : List ℕ). take place held ++ 79 ∷ l) (sym (append_assoc (eight (length bytes)) bytes (67 ∷ [])))

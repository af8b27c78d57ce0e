-- What a reply sends of the public artifacts from a place on, when only the first of them are walked.
use Rattle.std.proofs.Common.{◌≡◌, ℕ, ◌+◌, Bool, true, false, cond, not, List, [], ◌∷◌, length, map, filter, take, drop, suc, Option, Some, None, refl, sym, ap, ◌∙◌, arith}
use Rattle.std.specs.Prelude.{◌&&◌, nat_le, filter_map, if◌then◌else◌}
use Rattle.std.specs.Option.{option_map, option_map_or}
use Rattle.std.specs.List.{cons_option}
use Rattle.std.specs.FinMap as map_of
use Rattle.fsl_record.specs.declared.Record.{Record}
use Rattle.fsl_blobs.specs.Fold.{Held, HeldSet, contents, held_from, held_as_from, is_held_as, size_in, walked}
use Rattle.fsl_answer.specs.Contents as reply
use Rattle.fsl_answer.specs.Contents.{sent_file, taken_count, first_of, place_or_zero, sequel}
use Rattle.fsl_answer.specs.Replies.{taken_after}
use Rattle.fsl_repo.specs.Replies.{held_at, placed_in}
use Rattle.fsl_repo.specs.Sending.{front_after, names_of, public_on, sent_files}
use Rattle.fsl_repo.proofs.Placings.{held_later}
use Rattle.fsl_repo.proofs.Sendings.{sent_all}

abbrev Pairs : Type 0
Pairs = List (ℕ × List ℕ)

module _ (held : HeldSet) where
  abbrev at : ℕ × List ℕ → Option reply.Held
  at p = option_map (held_at p) (map_of.get held p.1)

  abbrev is_so : Bool → Bool → Bool
  is_so private b = if private then b else not b

  -- the names of those that are held so
  names_alike : (private : Bool) (ps : Pairs) → map (λ p. p.1) (filter (λ p. is_held_as private held p.1) ps) ≡ names_of private (filter_map at ps)
  names_alike private [] = refl
  names_alike private (p ∷ ps) =
      elim (map_of.get held p.1) as (λ o.
      map (λ p. p.1) (cond (option_map_or (λ a. if private then a.private else not a.private) o false) (p ∷ filter (λ p. is_held_as private held p.1) ps) (filter (λ p. is_held_as private held p.1) ps))
      ≡ names_of private (cons_option (option_map (held_at p) o) (filter_map at ps))) [
        | None ↦ names_alike private ps
        | Some a ↦ elim (is_so private a.private) as (λ b.
            map (λ p. p.1) (cond b (p ∷ filter (λ p. is_held_as private held p.1) ps) (filter (λ p. is_held_as private held p.1) ps))
            ≡ map (λ h. h.name) (cond b (held_at p a ∷ filter (λ h. if private then h.private else not h.private) (filter_map at ps)) (filter (λ h. if private then h.private else not h.private) (filter_map at ps)))) [
              | true ↦ ap (λ names. p.1 ∷ names) (names_alike private ps)
              | false ↦ names_alike private ps
            ]
      ]

  -- the public ones, from a place on
  public_alike : (from : ℕ) (ps : Pairs) → filter (λ h. not h.private) (filter_map at (filter (λ p. nat_le from p.0) ps)) ≡ public_on from (filter_map at ps)
  public_alike from [] = refl
  public_alike from (p ∷ ps) =
      elim (map_of.get held p.1) as (λ o. map_of.get held p.1 ≡ o →
      filter (λ h. not h.private) (filter_map at (cond (nat_le from p.0) (p ∷ filter (λ p. nat_le from p.0) ps) (filter (λ p. nat_le from p.0) ps)))
      ≡ public_on from (cons_option (option_map (held_at p) o) (filter_map at ps))) [
        | None ↦ λ is. elim (nat_le from p.0) as (λ b.
            filter (λ h. not h.private) (filter_map at (cond b (p ∷ filter (λ p. nat_le from p.0) ps) (filter (λ p. nat_le from p.0) ps))) ≡ public_on from (filter_map at ps)) [
              | true ↦ ap (λ (o : Option Held). filter (λ h. not h.private) (cons_option (option_map (held_at p) o) (filter_map at (filter (λ p. nat_le from p.0) ps)))) is ∙ public_alike from ps
              | false ↦ public_alike from ps
            ]
        | Some a ↦ λ is. elim (nat_le from p.0) as (λ b.
            filter (λ h. not h.private) (filter_map at (cond b (p ∷ filter (λ p. nat_le from p.0) ps) (filter (λ p. nat_le from p.0) ps)))
            ≡ cond (not a.private && b) (held_at p a ∷ public_on from (filter_map at ps)) (public_on from (filter_map at ps))) [
              | true ↦
                  ap (λ (o : Option Held). filter (λ h. not h.private) (cons_option (option_map (held_at p) o) (filter_map at (filter (λ p. nat_le from p.0) ps)))) is
                  ∙ ap (λ (hs : List reply.Held). cond (not a.private) (held_at p a ∷ hs) hs) (public_alike from ps) ∙ both (not a.private) (held_at p a ∷ public_on from (filter_map at ps)) (public_on from (filter_map at ps))
              | false ↦ public_alike from ps ∙ neither (not a.private) (held_at p a ∷ public_on from (filter_map at ps)) (public_on from (filter_map at ps))
            ]
      ] refl
    where
      both : {X : Type 0} (b : Bool) (x y : X) → cond b x y ≡ cond (b && true) x y
      both true x y = refl
      both false x y = refl

      neither : {X : Type 0} (b : Bool) (x y : X) → y ≡ cond (b && false) x y
      neither true x y = refl
      neither false x y = refl

  abbrev walked_rest : ℕ → Pairs → ℕ → Pairs
  walked_rest sum ps n = if nat_le 1000000 sum then [] else walked 1000000 64 (size_in held) (sum + (n + 64)) (filter (λ p. is_held_as false held p.1) ps)

  -- those of the names that are walked
  walk_alike : (sum : ℕ) (ps : Pairs) → filter_map at (walked 1000000 64 (size_in held) sum (filter (λ p. is_held_as false held p.1) ps)) ≡ front_after sum (filter (λ h. not h.private) (filter_map at ps))
  walk_alike sum [] = refl
  walk_alike sum (p ∷ ps) =
      elim (map_of.get held p.1) as (λ o. map_of.get held p.1 ≡ o →
      filter_map at (walked 1000000 64 (size_in held) sum (cond (option_map_or (λ a. not a.private) o false) (p ∷ filter (λ p. is_held_as false held p.1) ps) (filter (λ p. is_held_as false held p.1) ps)))
      ≡ front_after sum (filter (λ h. not h.private) (cons_option (option_map (held_at p) o) (filter_map at ps)))) [
        | None ↦ λ _. walk_alike sum ps
        | Some a ↦ λ is. elim (not a.private) as (λ b.
            filter_map at (walked 1000000 64 (size_in held) sum (cond b (p ∷ filter (λ p. is_held_as false held p.1) ps) (filter (λ p. is_held_as false held p.1) ps)))
            ≡ front_after sum (cond b (held_at p a ∷ filter (λ h. not h.private) (filter_map at ps)) (filter (λ h. not h.private) (filter_map at ps)))) [
              | true ↦ one sum p a is ps (λ n. walk_alike n ps)
              | false ↦ walk_alike sum ps
            ]
      ] refl
    where
      one : (sum : ℕ) (p : ℕ × List ℕ) (a : Held) → map_of.get held p.1 ≡ Some a → (ps : Pairs)
          → ((n : ℕ) → filter_map at (walked 1000000 64 (size_in held) n (filter (λ p. is_held_as false held p.1) ps)) ≡ front_after n (filter (λ h. not h.private) (filter_map at ps)))
          → filter_map at (walked 1000000 64 (size_in held) sum (p ∷ filter (λ p. is_held_as false held p.1) ps)) ≡ front_after sum (held_at p a ∷ filter (λ h. not h.private) (filter_map at ps))
      one sum p a is ps again =
          ap (λ (o : Option Held). cons_option (option_map (held_at p) o) (filter_map at (walked_rest sum ps (option_map_or (λ a. length a.bytes) (map_of.get held p.1) 0)))) is
          ∙ ap (λ (o : Option Held). held_at p a ∷ filter_map at (walked_rest sum ps (option_map_or (λ a. length a.bytes) o 0))) is
          ∙ ap (λ (hs : List reply.Held). held_at p a ∷ hs)
          (elim (nat_le 1000000 sum) as (λ b.
          filter_map at (if b then [] else walked 1000000 64 (size_in held) (sum + (length a.bytes + 64)) (filter (λ p. is_held_as false held p.1) ps))
          ≡ (if b then [] else front_after (sum + length a.bytes + 64) (filter (λ h. not h.private) (filter_map at ps)))) [
            | true ↦ refl
            | false ↦
                let same : sum + (length a.bytes + 64) ≡ sum + length a.bytes + 64 = omega arith in
                ap (λ (n : ℕ). filter_map at (walked 1000000 64 (size_in held) n (filter (λ p. is_held_as false held p.1) ps))) same ∙ again (sum + length a.bytes + 64)
          ])

pub names_placed : (records : List Record) (private : Bool) → map (λ p. p.1) (held_as_from private records 0) ≡ names_of private (placed_in records)
names_placed records private = names_alike (contents records).held private (held_from records 0)

pub front_placed : (records : List Record) (from : ℕ) → filter_map (at (contents records).held) (walked 1000000 64 (size_in (contents records).held) 0 (held_as_from false records from)) ≡ front_after 0 (public_on from (placed_in records))
front_placed records from =
    walk_alike (contents records).held 0 (held_from records from)
    ∙ ap (λ (ps : Pairs). front_after 0 (filter (λ h. not h.private) (filter_map (at (contents records).held) ps))) (held_later records from)
    ∙ ap (front_after 0) (public_alike (contents records).held from (held_from records 0))

-- ---- what the budget takes of the first is what it takes of all

abbrev sizes : List reply.Held → List ℕ
sizes held = map (λ h. length h.bytes) held

abbrev count : ℕ → List reply.Held → ℕ
count sum held = taken_after sum (sizes held)

count_alike : (sum : ℕ) (held : List reply.Held) → count sum (front_after sum held) ≡ count sum held
count_alike sum [] = refl
count_alike sum (h ∷ held) =
    elim (nat_le 1000000 sum) as (λ b.
    (if b then 0 else 1 + taken_after (sum + length h.bytes + 64) (sizes (if b then [] else front_after (sum + length h.bytes + 64) held)))
    ≡ (if b then 0 else 1 + taken_after (sum + length h.bytes + 64) (sizes held))) [
      | true ↦ refl
      | false ↦ ap (λ (n : ℕ). 1 + n) (count_alike (sum + length h.bytes + 64) held)
    ]

taken_alike : (sum : ℕ) (held : List reply.Held) → take (count sum held) (front_after sum held) ≡ take (count sum held) held
taken_alike sum [] = refl
taken_alike sum (h ∷ held) =
    elim (nat_le 1000000 sum) as (λ b.
    take (if b then 0 else 1 + count (sum + length h.bytes + 64) held) (h ∷ (if b then [] else front_after (sum + length h.bytes + 64) held))
    ≡ take (if b then 0 else 1 + count (sum + length h.bytes + 64) held) (h ∷ held)) [
      | true ↦ refl
      | false ↦ step (count (sum + length h.bytes + 64) held) (front_after (sum + length h.bytes + 64) held) held (taken_alike (sum + length h.bytes + 64) held)
    ]
  where
    step : (n : ℕ) (xs ys : List reply.Held) → take n xs ≡ take n ys → take (1 + n) (h ∷ xs) ≡ take (1 + n) (h ∷ ys)
    step n xs ys same =
        let next : 1 + n ≡ suc n = omega arith in
        ap (λ (k : ℕ). take k (h ∷ xs)) next ∙ ap (λ (zs : List reply.Held). h ∷ zs) same ∙ sym (ap (λ (k : ℕ). take k (h ∷ ys)) next)

next_alike : (sum : ℕ) (held : List reply.Held) → first_of (drop (count sum held) (front_after sum held)) ≡ first_of (drop (count sum held) held)
next_alike sum [] = refl
next_alike sum (h ∷ held) =
    elim (nat_le 1000000 sum) as (λ b.
    first_of (drop (if b then 0 else 1 + count (sum + length h.bytes + 64) held) (h ∷ (if b then [] else front_after (sum + length h.bytes + 64) held)))
    ≡ first_of (drop (if b then 0 else 1 + count (sum + length h.bytes + 64) held) (h ∷ held))) [
      | true ↦ refl
      | false ↦ step (count (sum + length h.bytes + 64) held) (front_after (sum + length h.bytes + 64) held) held (next_alike (sum + length h.bytes + 64) held)
    ]
  where
    step : (n : ℕ) (xs ys : List reply.Held) → first_of (drop n xs) ≡ first_of (drop n ys) → first_of (drop (1 + n) (h ∷ xs)) ≡ first_of (drop (1 + n) (h ∷ ys))
    step n xs ys same =
        let next : 1 + n ≡ suc n = omega arith in
        ap (λ (k : ℕ). first_of (drop k (h ∷ xs))) next ∙ same ∙ sym (ap (λ (k : ℕ). first_of (drop k (h ∷ ys))) next)

pub front_files : (held : List reply.Held) → sent_files (map sent_file (front_after 0 held)) ≡ sent_files (map sent_file held)
front_files held =
    sent_all (front_after 0 held) ∙ ap (λ (n : ℕ). map sent_file (take n (front_after 0 held))) (count_alike 0 held) ∙ ap (map sent_file) (taken_alike 0 held) ∙ sym (sent_all held)

pub front_sequel : (held : List reply.Held) → sequel (front_after 0 held) ≡ sequel held
front_sequel held = ap (λ (n : ℕ). place_or_zero (first_of (drop n (front_after 0 held)))) (count_alike 0 held) ∙ ap place_or_zero (next_alike 0 held)

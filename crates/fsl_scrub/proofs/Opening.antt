-- The opening of a gate, over contents that end with it and a body behind it.
use Rattle.std.proofs.Common.{◌≡◌, inl, inr, ℕ, ◌+◌, List, [], ◌∷◌, ◌++◌, length, get_or, take, drop, refl, sym, ◌∙◌, ap, subst, arith, append_assoc, length-take-le, take-append-drop, IsTrue, Some}
use Rattle.std.proofs.lemmas.List.{drop_more, drop_all}
use Rattle.fsl_disk.specs.Disk.{DiskState, Told, Torn, Same, Calls, Keeps, Only, LeavesOnly, Begins, written}
use Rattle.fsl_disk.proofs.Moments.{started, goes_on, rests, weaker}
use Rattle.fsl_disk.proofs.Pieces.{torn_byte, written_byte}
use Rattle.fsl_journal.specs.Commit.{eight, gated, HeldOrGated}
use Rattle.fsl_journal.specs.Create.{new_file, IsShort}

pub some_same : {a b : List ℕ} → Some a ≡ Some b → a ≡ b
some_same e = cc

module _ (held : List ℕ) (place : ℕ) (body : List ℕ) (size : length held ≡ place + 1) where
  front_size : length (take place held) ≡ place
  front_size = length-take-le place held (omega (arith, size))

  parts : (old : ℕ) → old ≡ get_or held place 0 → held ≡ take place held ++ old ∷ []
  parts old is =
      let last : drop place held ≡ old ∷ [] =
      drop_more held place 0 (omega (arith, size)) ∙ (λ i. sym is i ∷ drop_all (place + 1) held (omega (arith, size)) i) in
      sym (take-append-drop place held) ∙ ap (λ (l : List ℕ). take place held ++ l) last

  whole : (old : ℕ) → old ≡ get_or held place 0 → held ++ body ≡ take place held ++ old ∷ body
  whole old is = ap (λ (l : List ℕ). l ++ body) (parts old is) ∙ append_assoc (take place held) (old ∷ []) body

  pub opened : written place (79 ∷ []) (held ++ body) ≡ gated held place 79 body
  opened =
      let old = get_or held place 0 in
      ap (λ (l : List ℕ). written place (79 ∷ []) l) (whole old (λ i. get_or held place 0))
      ∙ subst (λ (n : ℕ). written n (79 ∷ []) (take place held ++ old ∷ body) ≡ gated held place 79 body) front_size (written_byte (take place held) body old 79)

  pub gate_torn : (c : List ℕ) → Torn place 1 (held ++ body) c → (b : ℕ) × (c ≡ gated held place b body)
  gate_torn c torn =
      let old = get_or held place 0 in
      let at_front : Torn (length (take place held)) 1 (take place held ++ old ∷ body) c =
      subst (λ (n : ℕ). Torn n 1 (take place held ++ old ∷ body) c) (sym front_size)
      (subst (λ (l : List ℕ). Torn place 1 l c) (whole old (λ i. get_or held place 0)) torn) in
      torn_byte (take place held) body old c at_front

-- The body is written, and synced.
pub after_body : (held : List ℕ) (place : ℕ) (body : List ℕ) (s0 s1 : DiskState) → LeavesOnly s0 s1 (Begins held) → LeavesOnly s0 s1 (HeldOrGated held place body)
after_body held place body s0 s1 = weaker s0 s1 (Begins held) (HeldOrGated held place body) (λ c begins. inl begins)

pub after_sync : (held : List ℕ) (place : ℕ) (body : List ℕ) (s0 s1 s2 : DiskState) → IsTrue s0.is_model → LeavesOnly s0 s1 (Begins held) → Keeps s0 s1 → Calls Same s1 s2 → LeavesOnly s0 s2 (HeldOrGated held place body)
after_sync held place body s0 s1 s2 model so_far keeps sync = rests s0 s1 s2 (HeldOrGated held place body) (after_body held place body s0 s1 so_far) (keeps.model ∙ model) sync

-- The body is written, synced, the gate is written, and synced.
module _ (held : List ℕ) (place : ℕ) (body : List ℕ) (s0 s1 s2 s3 : DiskState) (size : length held ≡ place + 1) (model : IsTrue s0.is_model) where
  abbrev P : List ℕ → Type 0
  P = HeldOrGated held place body

  -- the gate is written
  pub after_gate : LeavesOnly s0 s1 (Begins held) → Keeps s0 s1 → s1.contents ≡ Some (held ++ body) → Calls Same s1 s2 → (IsTrue s1.is_model → Told s1 (λ h. Only h s2.images)) → Calls (Torn place 1) s2 s3 → LeavesOnly s0 s3 P
  after_gate so_far keeps wrote sync durable gate =
      let model1 = keeps.model ∙ model in
      let only = durable model1 (held ++ body) wrote in
      let passes = gate.crash (sync.keeps.model ∙ model1) in
      goes_on s0 s2 s3 P (Torn place 1) (after_sync held place body s0 s1 s2 model so_far keeps sync) passes
      (λ c left. let from = passes.follows c left in inr (gate_torn held place body size c (subst (λ (d : List ℕ). Torn place 1 d c) (only from.0 from.1) from.2)))

  -- and synced
  pub after_all : (s4 : DiskState) → LeavesOnly s0 s3 P → Keeps s0 s1 → Calls Same s1 s2 → Calls (Torn place 1) s2 s3 → Calls Same s3 s4 → LeavesOnly s0 s4 P
  after_all s4 so_far keeps sync gate sync2 = rests s0 s3 s4 P so_far (gate.keeps.model ∙ sync.keeps.model ∙ keeps.model ∙ model) sync2

-- what the disk holds in the end
pub opened_held : (held : List ℕ) (place : ℕ) (body : List ℕ) (s1 s2 s3 : DiskState) → length held ≡ place + 1 → s1.contents ≡ Some (held ++ body) → s2.contents ≡ s1.contents
    → Told s2 (λ h. s3.contents ≡ Some (written place (79 ∷ []) h)) → s3.contents ≡ Some (gated held place 79 body)
opened_held held place body s1 s2 s3 size wrote same gate = gate (held ++ body) (same ∙ wrote) ∙ ap Some (opened held place body size)

-- ---- the header

-- the header is written into an empty file
pub header_moments : (s0 s1 : DiskState) → Calls (Torn 0 16) s0 s1 → IsTrue s0.is_model → ((c : List ℕ) → s0.since s0.moment c → s0.images c) → ((c : List ℕ) → s0.images c → c ≡ []) → LeavesOnly s0 s1 IsShort
header_moments s0 s1 call model no_other empty =
    let passes = call.crash model in
    goes_on s0 s0 s1 IsShort (Torn 0 16) (started s0 IsShort no_other (λ c left. omega (arith, ap length (empty c left)))) passes
    (λ c left. let from = passes.follows c left in omega (arith, from.2.no_longer, ap length (empty from.0 from.1)))

pub header_held : (held : List ℕ) (s0 s1 : DiskState) → held ≡ [] → s0.contents ≡ Some held → Told s0 (λ h. s1.contents ≡ Some (written 0 new_file h)) → s1.contents ≡ Some new_file
header_held held s0 s1 empty told wrote = wrote held told ∙ ap (λ h. Some (written 0 new_file h)) empty

-- ---- lengths

pub length-eight : (n : ℕ) → length (eight n) ≡ 8
unfolding eight
length-eight n = refl

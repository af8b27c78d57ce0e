-- The steps of a commit, over contents that end with a closed gate.
use Rattle.std.proofs.Common.{◌≡◌, inl, inr, ℕ, ◌+◌, ◌≤◌, List, [], ◌∷◌, ◌++◌, length, get_or, take, drop, refl, sym, ◌∙◌, ap, subst, arith, append_assoc, length-append, length-take-le, take-append-drop, IsTrue, Some}
use Rattle.std.proofs.lemmas.List.{drop_more, drop_all, take-take}
use Rattle.fsl_disk.specs.Disk.{DiskState, Told, Torn, Same, Calls, Keeps, Only, LeavesOnly, Begins, written}
use Rattle.fsl_disk.proofs.Moments.{started, goes_on, rests, weaker, told_before}
use Rattle.fsl_disk.proofs.Pieces.{torn_byte, written_byte, written_behind}
use Rattle.fsl_journal.specs.Commit.{eight, body_of, gated, HeldOrGated, EndsAt}
use Rattle.fsl_journal.proofs.Files.{length-eight}

pub some_same : {a b : List ℕ} → Some a ≡ Some b → a ≡ b
some_same e = cc

-- a write at the end
appended : (held bytes : List ℕ) (at : ℕ) → length held ≡ at → written at bytes held ≡ held ++ bytes
appended held bytes at size = subst (λ (n : ℕ). written n bytes held ≡ held ++ bytes) size (written_behind held bytes)

pub grown : (old new : DiskState) (at end : ℕ) (bytes : List ℕ) → end ≡ at + length bytes → Keeps old new → Told old (λ held. length held ≡ at) → Told old (λ held. new.contents ≡ Some (written at bytes held))
    → Told new (λ held. length held ≡ end)
grown old new at end bytes is keeps long wrote now told =
    let before = told_before old new now keeps told in
    let size = long before.0 before.1 in
    let now_is : now ≡ before.0 ++ bytes = some_same (sym told ∙ wrote before.0 before.1) ∙ appended before.0 bytes at size in
    omega (arith, is, size, ap length now_is, length-append before.0 bytes)

-- what three writes leave
pub body_held : (held head bytes : List ℕ) (place : ℕ) (s0 s1 s2 s3 : DiskState) → length held ≡ place + 1 → head ≡ eight (length bytes) → length head ≡ 8 → s0.contents ≡ Some held
    → Told s0 (λ h. s1.contents ≡ Some (written (place + 1) head h)) → Told s1 (λ h. s2.contents ≡ Some (written (place + 9) bytes h))
    → Told s2 (λ h. s3.contents ≡ Some (written (place + 9 + length bytes) (67 ∷ []) h)) → s3.contents ≡ Some (held ++ body_of bytes)
body_held held head bytes place s0 s1 s2 s3 size is head_size told first second third =
    let one : s1.contents ≡ Some (held ++ head) = first held told ∙ ap Some (appended held head (place + 1) size) in
    let one_size : length (held ++ head) ≡ place + 9 = omega (arith, length-append held head, size, head_size) in
    let two : s2.contents ≡ Some (held ++ head ++ bytes) = second (held ++ head) one ∙ ap Some (appended (held ++ head) bytes (place + 9) one_size) in
    let two_size : length (held ++ head ++ bytes) ≡ place + 9 + length bytes = omega (arith, length-append (held ++ head) bytes, one_size) in
    third (held ++ head ++ bytes) two
    ∙ ap Some (appended (held ++ head ++ bytes) (67 ∷ []) (place + 9 + length bytes) two_size)
    ∙ ap (λ (l : List ℕ). Some (l ++ 67 ∷ [])) (append_assoc held head bytes)
    ∙ ap Some (append_assoc held (head ++ bytes) (67 ∷ []))
    ∙ ap (λ (l : List ℕ). Some (held ++ (l ++ bytes ++ 67 ∷ []))) is

torn_behind : (held d c : List ℕ) (at n : ℕ) → length held ≤ at → Begins held d → Torn at n d c → Begins held c
torn_behind held d c at n behind begins torn =
    sym (take-take (length held) at c behind) ∙ ap (λ (l : List ℕ). take (length held) l) torn.before ∙ take-take (length held) at d behind ∙ begins

-- the first write behind the closed gate, and a further one
module _ (held : List ℕ) (place : ℕ) (s0 : DiskState) (ends : EndsAt place s0) (model : IsTrue s0.is_model) (told : s0.contents ≡ Some held) where
  pub wrote_on : (at n : ℕ) (s1 s2 : DiskState) → place + 1 ≤ at → Keeps s0 s1 → LeavesOnly s0 s1 (Begins held) → Calls (Torn at n) s1 s2 → LeavesOnly s0 s2 (Begins held)
  wrote_on at n s1 s2 behind keeps so_far call =
      let passes = call.crash (keeps.model ∙ model) in
      let size = ends.last held told in
      goes_on s0 s1 s2 (Begins held) (Torn at n) so_far passes
      (λ c left. let from = passes.follows c left in torn_behind held from.0 c at n (omega (arith, size, behind)) (so_far.now from.0 from.1) from.2)

  pub wrote_first : (n : ℕ) (s1 : DiskState) → ((c : List ℕ) → s0.since s0.moment c → s0.images c) → Calls (Torn (place + 1) n) s0 s1 → LeavesOnly s0 s1 (Begins held)
  wrote_first n s1 no_other call =
      wrote_on (place + 1) n s0 s1 (omega arith) (record { tells = refl; model = refl }) (started s0 (Begins held) no_other (ends.images model held told)) call

module _ (held : List ℕ) (place : ℕ) (body : List ℕ) (size : length held ≡ place + 1) where
  front_size : length (take place held) ≡ place
  front_size = length-take-le place held (omega (arith, size))

  parts : (old : ℕ) → old ≡ get_or held place 0 → held ≡ take place held ++ old ∷ []
  parts old is =
      let last : drop place held ≡ old ∷ [] =
      drop_more held place 0 (omega (arith, size)) ∙ (λ i. sym is i ∷ drop_all (place + 1) held (omega (arith, size)) i) in
      sym (take-append-drop place held) ∙ ap (λ (l : List ℕ). take place held ++ l) last

  whole : (old : ℕ) → old ≡ get_or held place 0 → held ++ body ≡ take place held ++ old ∷ body
  whole old is = ap (λ (l : List ℕ). l ++ body) (parts old is) ∙ append_assoc (take place held) (old ∷ []) body

  pub opened : written place (79 ∷ []) (held ++ body) ≡ gated held place 79 body
  opened =
      let old = get_or held place 0 in
      ap (λ (l : List ℕ). written place (79 ∷ []) l) (whole old (λ i. get_or held place 0))
      ∙ subst (λ (n : ℕ). written n (79 ∷ []) (take place held ++ old ∷ body) ≡ gated held place 79 body) front_size (written_byte (take place held) body old 79)

  pub gate_torn : (c : List ℕ) → Torn place 1 (held ++ body) c → (b : ℕ) × (c ≡ gated held place b body)
  gate_torn c torn =
      let old = get_or held place 0 in
      let at_front : Torn (length (take place held)) 1 (take place held ++ old ∷ body) c =
      subst (λ (n : ℕ). Torn n 1 (take place held ++ old ∷ body) c) (sym front_size)
      (subst (λ (l : List ℕ). Torn place 1 l c) (whole old (λ i. get_or held place 0)) torn) in
      torn_byte (take place held) body old c at_front

-- The body is written, and synced.
pub after_body : (held : List ℕ) (place : ℕ) (body : List ℕ) (s0 s1 : DiskState) → LeavesOnly s0 s1 (Begins held) → LeavesOnly s0 s1 (HeldOrGated held place body)
after_body held place body s0 s1 = weaker s0 s1 (Begins held) (HeldOrGated held place body) (λ c begins. inl begins)

pub after_sync : (held : List ℕ) (place : ℕ) (body : List ℕ) (s0 s1 s2 : DiskState) → IsTrue s0.is_model → LeavesOnly s0 s1 (Begins held) → Keeps s0 s1 → Calls Same s1 s2 → LeavesOnly s0 s2 (HeldOrGated held place body)
after_sync held place body s0 s1 s2 model so_far keeps sync = rests s0 s1 s2 (HeldOrGated held place body) (after_body held place body s0 s1 so_far) (keeps.model ∙ model) sync

-- The body is written, synced, the gate is written, and synced.
module _ (held : List ℕ) (place : ℕ) (body : List ℕ) (s0 s1 s2 s3 : DiskState) (size : length held ≡ place + 1) (model : IsTrue s0.is_model) where
  abbrev P : List ℕ → Type 0
  P = HeldOrGated held place body

  -- the gate is written
  pub after_gate : LeavesOnly s0 s1 (Begins held) → Keeps s0 s1 → s1.contents ≡ Some (held ++ body) → Calls Same s1 s2 → (IsTrue s1.is_model → Told s1 (λ h. Only h s2.images)) → Calls (Torn place 1) s2 s3 → LeavesOnly s0 s3 P
  after_gate so_far keeps wrote sync durable gate =
      let model1 = keeps.model ∙ model in
      let only = durable model1 (held ++ body) wrote in
      let passes = gate.crash (sync.keeps.model ∙ model1) in
      goes_on s0 s2 s3 P (Torn place 1) (after_sync held place body s0 s1 s2 model so_far keeps sync) passes
      (λ c left. let from = passes.follows c left in inr (gate_torn held place body size c (subst (λ (d : List ℕ). Torn place 1 d c) (only from.0 from.1) from.2)))

  -- and synced
  pub after_all : (s4 : DiskState) → LeavesOnly s0 s3 P → Keeps s0 s1 → Calls Same s1 s2 → Calls (Torn place 1) s2 s3 → Calls Same s3 s4 → LeavesOnly s0 s4 P
  after_all s4 so_far keeps sync gate sync2 = rests s0 s3 s4 P so_far (gate.keeps.model ∙ sync.keeps.model ∙ keeps.model ∙ model) sync2

-- what the disk holds in the end
pub opened_held : (held : List ℕ) (place : ℕ) (body : List ℕ) (s1 s2 s3 : DiskState) → length held ≡ place + 1 → s1.contents ≡ Some (held ++ body) → s2.contents ≡ s1.contents
    → Told s2 (λ h. s3.contents ≡ Some (written place (79 ∷ []) h)) → s3.contents ≡ Some (gated held place 79 body)
opened_held held place body s1 s2 s3 size wrote same gate = gate (held ++ body) (same ∙ wrote) ∙ ap Some (opened held place body size)

pub length-body : (bytes : List ℕ) → length (body_of bytes) ≡ length bytes + 9
length-body bytes = omega (arith, length-append (eight (length bytes) ++ bytes) (67 ∷ []), length-append (eight (length bytes)) bytes, length-eight (length bytes))

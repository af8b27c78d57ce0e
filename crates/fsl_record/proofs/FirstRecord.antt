-- The record that bytes begin with, and the records that they are to their end.
use Rattle.std.proofs.Common.{◌≡◌, ◌≢◌, inl, inr, ℕ, zero, suc, ◌<◌, ◌≤◌, Bool, true, false, List, [], ◌∷◌, ◌++◌, length, IsTrue, refl, sym, ap, subst, ◌∙◌, arith, length-append}
use Rattle.std.specs.Prelude.{not}
use Rattle.std.specs.List.{AllByRecursion, list_all}
use Rattle.std.proofs.lemmas.List.{append-nil}
use Rattle.std.proofs.lemmas.Bool.{and_parts, and_from}
use Rattle.fsl_record.specs.declared.Record.{Record}
use Rattle.fsl_record.specs.Records.{record_bytes, records_bytes, is_config, IsFit, IsOfVersion}
use Rattle.fsl_record.proofs.Deciding.{Decided, decide_by, decide_text, decide_bool, decide_four, decide_fit, decide_version}
use Rattle.fsl_record.proofs.ReadAgain.{Piece, piece, again}
use Rattle.fsl_record.proofs.Unique.{record_same, record_some}

-- whether a record may follow another
abbrev may_follow : Record → Bool
may_follow r = not (is_config r)

-- bytes begin with a fit record of this version and kind
abbrev pub Begins : ℕ → Bool → List ℕ → Piece → Type 0
Begins v config bytes p = (bytes ≡ record_bytes p.0 ++ p.1) × (is_config p.0 ≡ config) × IsFit p.0 × IsOfVersion v p.0

pub decide_front : (v : ℕ) (config : Bool) (bytes : List ℕ) → Decided ((p : Piece) × Begins v config bytes p)
decide_front v config bytes =
    decide_by (decide_four (decide_text bytes (record_bytes (piece bytes).0 ++ (piece bytes).1)) (decide_bool (is_config (piece bytes).0) config) (decide_fit (piece bytes).0) (decide_version v (piece bytes).0))
    (λ h. inl (piece bytes, h))
    (λ n h. n (subst (λ (p : Piece). Begins v config bytes p) (sym (ap piece h.1.0 ∙ again h.0.0 h.0.1 h.1.2)) h.1))

-- ---- records to the end of the bytes

-- none of them is a Config, and each is of this version
pub record AreMore (v : ℕ) (bytes : List ℕ) (rs : List Record) : Type 0 where
  pub layout : bytes ≡ records_bytes rs
  pub others : IsTrue (list_all may_follow rs)
  pub fit : AllByRecursion IsFit rs
  pub known : AllByRecursion (IsOfVersion v) rs

more_with : (v : ℕ) (p : Piece) (bytes : List ℕ) (rs : List Record) → Begins v false bytes p → AreMore v p.1 rs → AreMore v bytes (p.0 ∷ rs)
more_with v p bytes rs h m = record {
  layout = h.0 ∙ ap (λ (l : List ℕ). record_bytes p.0 ++ l) m.layout;
  others = and_from (may_follow p.0) (list_all may_follow rs) (ap not h.1) m.others;
  fit = (h.2, m.fit);
  known = (h.3, m.known);
}

more_behind : (v : ℕ) (p : Piece) (bytes : List ℕ) (r : Record) (rs : List Record) → Begins v false bytes p → AreMore v bytes (r ∷ rs) → AreMore v p.1 rs
more_behind v p bytes r rs h m =
    let same = record_same p.0 r p.1 (records_bytes rs) h.2 m.fit.0 (sym h.0 ∙ m.layout) in
    record { layout = same.rest; others = (and_parts (may_follow r) (list_all may_follow rs) m.others).1; fit = m.fit.1; known = m.known.1 }

more_begins : (v : ℕ) (bytes : List ℕ) (r : Record) (rs : List Record) → AreMore v bytes (r ∷ rs) → (p : Piece) × Begins v false bytes p
more_begins v bytes r rs m = ((r, records_bytes rs), (m.layout, not_config (is_config r) (and_parts (may_follow r) (list_all may_follow rs) m.others).0, m.fit.0, m.known.0))
  where
    not_config : (t : Bool) → not t ≡ true → t ≡ false
    not_config true e = absurd (cc)
    not_config false e = refl

shorter_behind : (v : ℕ) (p : Piece) (bytes : List ℕ) (config : Bool) (n : ℕ) → Begins v config bytes p → length bytes ≤ suc n → length p.1 ≤ n
shorter_behind v p bytes config n h bound = omega (arith, bound, ap length h.0, length-append (record_bytes p.0) p.1, some (record_bytes p.0) (record_not p.0))
  where
    record_not : (r : Record) → record_bytes r ≢ []
    record_not r none = record_some r [] (append-nil (record_bytes r) ∙ none)

    some : (l : List ℕ) → l ≢ [] → 0 < length l
    some [] not_none = absurd (not_none refl)
    some (x ∷ l) _ = omega arith

abbrev pub Mores : ℕ → List ℕ → Type 0
Mores v bytes = (rs : List Record) × AreMore v bytes rs

pub no_records : (v : ℕ) (b : ℕ) (bytes : List ℕ) → AreMore v (b ∷ bytes) [] → ⊥
no_records v b bytes m = let layout = m.layout in cc

by_front : (v : ℕ) (n : ℕ) → ((rest : List ℕ) → length rest ≤ n → Decided (Mores v rest)) → (b : ℕ) (bytes : List ℕ) → length (b ∷ bytes) ≤ suc n → Decided ((p : Piece) × Begins v false (b ∷ bytes) p) → Decided (Mores v (b ∷ bytes))
by_front v n shorter b bytes bound (inr none) = inr no
  where
    no : Mores v (b ∷ bytes) → ⊥
    no ([], m) = no_records v b bytes m
    no (r ∷ rs, m) = none (more_begins v (b ∷ bytes) r rs m)
by_front v n shorter b bytes bound (inl (p, h)) = by (shorter p.1 (shorter_behind v p (b ∷ bytes) false n h bound))
  where
    by : Decided (Mores v p.1) → Decided (Mores v (b ∷ bytes))
    by (inl (rs, m)) = inl (p.0 ∷ rs, more_with v p (b ∷ bytes) rs h m)
    by (inr none) = inr no
      where
        no : Mores v (b ∷ bytes) → ⊥
        no ([], m) = no_records v b bytes m
        no (r ∷ rs, m) = none (rs, more_behind v p (b ∷ bytes) r rs h m)

mores_up_to : (v : ℕ) (n : ℕ) (bytes : List ℕ) → length bytes ≤ n → Decided (Mores v bytes)
mores_up_to v n [] bound = inl ([], record { layout = refl; others = refl; fit = tt; known = tt })
mores_up_to v zero (b ∷ bytes) bound = absurd (omega (arith, bound))
mores_up_to v (suc n) (b ∷ bytes) bound = by_front v n (mores_up_to v n) b bytes bound (decide_front v false (b ∷ bytes))

pub decide_mores : (v : ℕ) (bytes : List ℕ) → Decided (Mores v bytes)
decide_mores v bytes = mores_up_to v (length bytes) bytes (omega arith)

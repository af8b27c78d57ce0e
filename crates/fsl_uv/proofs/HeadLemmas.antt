-- How the lines of cards are read.
use Rattle.std.proofs.Common.{◌≡◌, ℕ, ◌<◌, ◌^◌, List, ◌∷◌, ◌++◌, Option, Some, None, sym, ap, subst, ◌∙◌, arith}
use Rattle.std.specs.Prelude.{decimal, IsTrue}
use Rattle.fsl_text.specs.Escapes.{escape}
use Rattle.fsl_date.specs.Moment.{IsMoment}
use Rattle.fsl_uv.specs.declared.heads.Stamped.{Stamped}
use Rattle.fsl_uv.specs.Entries.{is_path}
use Rattle.fsl_uv.specs.Cards.{IsSized}
use Rattle.fsl_uv.specs.Words.{IsHash, stamped}
use Rattle.fsl_uv.specs.Reading.{IsStamped, stamped_text}
use Rattle.fsl_uv.proofs.Solid.{Lacks, unique, solid-space, escape-solid, one-decimal}
use Rattle.fsl_uv.proofs.EntryLemmas.{one-stamp}

pub sized-hash : (h : Option (List ℕ)) (n : ℕ) → IsSized h n → IsHash h
sized-hash None n s = tt
sized-hash (Some name) n s = s.0

pub sized-small : (h : Option (List ℕ)) (n : ℕ) → IsSized h n → n < 2 ^ 64
sized-small None n s = omega (arith, s)
sized-small (Some name) n s = let m = s.1 in omega (arith, m)

abbrev NoMarks : List ℕ → Type 0
NoMarks words = (m : ℕ) (h : Option (List ℕ)) (n : ℕ) → IsMoment m → IsSized h n → words ≡ stamped m h (decimal n) → ⊥

module _ (words : List ℕ) (m0 : ℕ) (h0 : Option (List ℕ)) (w0 : List ℕ) (hm : IsMoment m0) (hh : IsHash h0) (is : words ≡ stamped m0 h0 w0) where
  pub no-size-word : ((n : ℕ) → n < 2 ^ 64 → w0 ≡ decimal n → ⊥) → NoMarks words
  no-size-word none m h n km ks e = none n (sized-small h n ks) (one-stamp m0 m h0 h w0 (decimal n) hm km hh (sized-hash h n ks) (sym is ∙ e)).2

  module _ (size : ℕ) (small : size < 2 ^ 64) (word : w0 ≡ decimal size) where
    pub not-sized : (IsSized h0 size → ⊥) → NoMarks words
    not-sized none m h n km ks e =
        let s = one-stamp m0 m h0 h w0 (decimal n) hm km hh (sized-hash h n ks) (sym is ∙ e) in
        let same : n ≡ size = one-decimal n size (sized-small h n ks) small (sym s.2 ∙ word) in
        none (subst (λ (p : Option (List ℕ) × ℕ). IsSized p.0 p.1) (λ i. (sym s.1 i, same i)) ks)

    pub marks-are : (m : ℕ) (h : Option (List ℕ)) (n : ℕ) → m ≡ m0 → h ≡ h0 → n ≡ size → IsSized h0 size → IsMoment m × IsSized h n × (words ≡ stamped m h (decimal n))
    marks-are m h n em eh en s =
        subst (λ (p : ℕ × Option (List ℕ) × ℕ). IsMoment p.0 × IsSized p.1 p.2 × (words ≡ stamped p.0 p.1 (decimal p.2))) (λ i. (sym em i, sym eh i, sym en i))
        (hm, s, is ∙ ap (stamped m0 h0) word)

abbrev NoStamped : List ℕ → Type 0
NoStamped words = (s : Stamped) → IsStamped s → words ≡ stamped_text s → ⊥

module _ (words word rest : List ℕ) (lacks : Lacks 32 word) (is : words ≡ word ++ 32 ∷ rest) where
  words-are : (s : Stamped) → words ≡ stamped_text s → (word ≡ escape s.path) × (rest ≡ stamped s.moment s.hash (decimal s.size))
  words-are s e = unique 32 word rest (escape s.path) (stamped s.moment s.hash (decimal s.size)) lacks (solid-space (escape s.path) (escape-solid s.path)) (sym is ∙ e)

  pub no-marks : NoMarks rest → NoStamped words
  no-marks none s good e = none s.moment s.hash s.size good.moment good.sized (words-are s e).1

  pub no-path-word : ((p : List ℕ) → IsTrue (is_path p) → word ≡ escape p → ⊥) → NoStamped words
  no-path-word none s good e = none s.path good.path (words-are s e).0

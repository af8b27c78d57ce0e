-- How tokens are written one after another.
use Rattle.std.proofs.Common.{◌≡◌, ℕ, ◌+◌, ◌<◌, ◌≤◌, List, [], ◌∷◌, ◌++◌, length, map, take, get_or, refl, sym, ap, ◌∙◌, arith, append_assoc, Bor}
use Rattle.std.specs.List.{join_with_byte}
use Rattle.std.proofs.lemmas.List.{length-map, length-take-le, map-append, take_more}

-- one token more behind others
join_next : (ts : List (List ℕ)) (t : List ℕ) → 0 < length ts → join_with_byte 32 (ts ++ t ∷ []) ≡ join_with_byte 32 ts ++ 32 ∷ t
join_next [] t h = absurd (omega (arith, h))
join_next (s ∷ []) t h = refl
join_next (s ∷ r ∷ ts) t h =
    ap (λ (l : List ℕ). s ++ (32 ∷ l)) (join_next (r ∷ ts) t (omega arith)) ∙ sym (append_assoc s (32 ∷ join_with_byte 32 (r ∷ ts)) (32 ∷ t))

no_tokens : (ts : List (List ℕ)) → length ts ≡ 0 → ts ≡ []
no_tokens [] h = refl
no_tokens (t ∷ ts) h = absurd (omega (arith, h))

abbrev texts : List (Bor (List ℕ)) → List (List ℕ)
texts tokens = map (λ t. t.now) tokens

module _ (old into mid new : List ℕ) (tokens : List (Bor (List ℕ))) (i : ℕ) (d : Bor (List ℕ)) (lt : i < length tokens) (so : into ≡ old ++ join_with_byte 32 (texts (take i tokens))) (more : new ≡ mid ++ (get_or tokens i d).now) where
  count : length (texts (take i tokens)) ≡ i
  count = length-map (take i tokens) (λ (t : Bor (List ℕ)). t.now) ∙ length-take-le i tokens (omega arith)

  next : texts (take (i + 1) tokens) ≡ texts (take i tokens) ++ (get_or tokens i d).now ∷ []
  next = ap texts (take_more tokens i d lt) ∙ map-append (λ (t : Bor (List ℕ)). t.now) (take i tokens) (get_or tokens i d ∷ [])

  pub token_behind : 0 < i → mid ≡ into ++ 32 ∷ [] → new ≡ old ++ join_with_byte 32 (texts (take (i + 1) tokens))
  token_behind some e =
      let n = count in
      more ∙ ap (λ (l : List ℕ). l ++ (get_or tokens i d).now) (e ∙ ap (λ (l : List ℕ). l ++ 32 ∷ []) so)
      ∙ append_assoc (old ++ join_with_byte 32 (texts (take i tokens))) (32 ∷ []) (get_or tokens i d).now
      ∙ append_assoc old (join_with_byte 32 (texts (take i tokens))) (32 ∷ (get_or tokens i d).now)
      ∙ ap (λ (l : List ℕ). old ++ l) (sym (join_next (texts (take i tokens)) (get_or tokens i d).now (omega (arith, n, some))) ∙ ap (join_with_byte 32) (sym next))

  pub token_first : i ≤ 0 → mid ≡ into → new ≡ old ++ join_with_byte 32 (texts (take (i + 1) tokens))
  token_first none e =
      let n = count in
      let empty = no_tokens (texts (take i tokens)) (omega (arith, n, none)) in
      more ∙ ap (λ (l : List ℕ). l ++ (get_or tokens i d).now) (e ∙ so)
      ∙ append_assoc old (join_with_byte 32 (texts (take i tokens))) (get_or tokens i d).now
      ∙ ap (λ (l : List ℕ). old ++ l) (ap (λ (us : List (List ℕ)). join_with_byte 32 us ++ (get_or tokens i d).now) empty ∙ sym (ap (λ (us : List (List ℕ)). join_with_byte 32 (us ++ (get_or tokens i d).now ∷ [])) empty) ∙ ap (join_with_byte 32) (sym next))

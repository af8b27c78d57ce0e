-- What J cards make of a value, and what changes from the newest down make of it.
use Rattle.std.proofs.Common.{◌≡◌, ℕ, List, [], ◌∷◌, ◌++◌, Bool, true, false, cond, not, ◌&&◌, ◌||◌, if◌then◌else◌, Option, Some, None, filter, fold, refl, sym, ap, ◌∙◌, arith}
use mathlib.Core.Bool.{true≢false}
use Rattle.std.specs.Prelude.{flat_map, ◌==◌, length}
use Rattle.fsl_order.proofs.Booleans.{and_true, and_false}
use Rattle.std.specs.Option.{option_map}
use Rattle.std.specs.Str.{bytes_eq}
use Rattle.std.specs.Cmp.Lexicographic.{bytes_decides, nat_list_eq_equiv}
use Rattle.std.proofs.lemmas.List.{append_assoc, append-nil, append_cancel_right, append_cancel_left}
use Rattle.std.proofs.lemmas.List.Elements.{filter-append}
use Rattle.std.proofs.lemmas.Bool.{eqb-true}
use Rattle.std.proofs.lemmas.List.Sums.{fold-append}
use Rattle.std.proofs.lemmas.Grind.{flat_map-append}
use Rattle.fsl_order.specs.Names.{bytes_cmp}
use Rattle.fsl_table.specs.Contents.{value_at}
use Rattle.fsl_ticket.specs.declared.FieldChange.{FieldChange}
use Rattle.fsl_ticket.specs.declared.Fact.{Fact}
use Rattle.fsl_ticket.specs.declared.entry.Entry.{Entry}
use Rattle.fsl_ticket.specs.Tickets.{after}
use Rattle.fsl_ticket.specs.Seen.{value_after, value_from}
use Rattle.fsl_ticket.specs.Kept.{Lines, fact_of, put_before, changes_at, is_set, is_set_at}
use Rattle.fsl_ticket.specs.Walked.{Down, made, made_at, names_of, names_until, value_down, value_below, is_masked, is_other}
use Rattle.fsl_ticket.proofs.Backward.{backward}

abbrev of_field : List ℕ → FieldChange → Bool
of_field q card = bytes_eq card.field q

-- cards that replace a field give it one value, whatever it had
pub made_set : (cards : List FieldChange) (q v w : List ℕ) → is_set cards q ≡ true → made cards q v ≡ made cards q w
made_set [] q v w h = absurd (true≢false (sym h))
made_set (c ∷ cs) q v w h =
    elim (bytes_eq c.field q) as (λ b. ((b && not c.append) || is_set cs q) ≡ true → fold after v (cond b (c ∷ filter (of_field q) cs) (filter (of_field q) cs)) ≡ fold after w (cond b (c ∷ filter (of_field q) cs) (filter (of_field q) cs))) [
      | true ↦ λ h.
          elim c.append as (λ a. (not a || is_set cs q) ≡ true → fold after (if a then v ++ c.value else c.value) (filter (of_field q) cs) ≡ fold after (if a then w ++ c.value else c.value) (filter (of_field q) cs)) [
            | true ↦ λ h. made_set cs q (v ++ c.value) (w ++ c.value) h
            | false ↦ λ h. refl
          ] h
      | false ↦ λ h. made_set cs q v w h
    ] h

-- other cards put one text at its end
pub made_appended : (cards : List FieldChange) (q v : List ℕ) → is_set cards q ≡ false → made cards q v ≡ v ++ made cards q []
made_appended [] q v h = sym (append-nil v)
made_appended (c ∷ cs) q v h =
    elim (bytes_eq c.field q) as (λ b. ((b && not c.append) || is_set cs q) ≡ false → fold after v (cond b (c ∷ filter (of_field q) cs) (filter (of_field q) cs)) ≡ v ++ fold after [] (cond b (c ∷ filter (of_field q) cs) (filter (of_field q) cs))) [
      | true ↦ λ h.
          elim c.append as (λ a. (not a || is_set cs q) ≡ false → fold after (if a then v ++ c.value else c.value) (filter (of_field q) cs) ≡ v ++ fold after (if a then c.value else c.value) (filter (of_field q) cs)) [
            | true ↦ λ h. made_appended cs q (v ++ c.value) h ∙ append_assoc v c.value (made cs q []) ∙ ap (λ l. v ++ l) (sym (made_appended cs q c.value h))
            | false ↦ λ h. absurd (true≢false h)
          ] h
      | false ↦ λ h. made_appended cs q v h
    ] h

itself : (v : List ℕ) → bytes_eq v v ≡ true
itself v = nat_list_eq_equiv.refl v

unlike : (v w : List ℕ) → (v ≡ w → ⊥) → bytes_eq v w ≡ false
unlike v w h = elim (bytes_eq v w) as (λ b. bytes_eq v w ≡ b → b ≡ false) [ true ↦ λ e. absurd (h ((bytes_decides v w).0 e)) | false ↦ λ e. refl ] refl

-- texts with one end are alike where they are alike without it
pub same_end : (v w t : List ℕ) → bytes_eq (v ++ t) (w ++ t) ≡ bytes_eq v w
same_end v w t =
    elim (bytes_eq v w) as (λ b. bytes_eq v w ≡ b → bytes_eq (v ++ t) (w ++ t) ≡ b) [
      | true ↦ λ e. ap (λ x. bytes_eq (v ++ t) (x ++ t)) (sym ((bytes_decides v w).0 e)) ∙ itself (v ++ t)
      | false ↦ λ e. unlike (v ++ t) (w ++ t) (λ s. true≢false (sym ((bytes_decides v w).1 (append_cancel_right v w t s)) ∙ e))
    ] refl

-- a text is another one with more at its end
pub longer : (v t : List ℕ) → bytes_eq v (v ++ t) ≡ bytes_eq [] t
longer v [] = ap (bytes_eq v) (append-nil v) ∙ itself v
longer v (x ∷ t) = unlike v (v ++ x ∷ t) (λ s. let none : [] ≡ x ∷ t = append_cancel_left v [] (x ∷ t) (append-nil v ∙ s) in cc)

-- ---- a walk down

-- below a change that replaces the field nothing counts
pub until_same : (es : Lines) (q : List ℕ) (ws : Down) → value_down es (names_until es (Some q) ws) q ≡ value_down es (names_of ws) q
until_same es q [] = refl
until_same es q (w ∷ ws) = by (until_same es q ws) (value_at bytes_cmp w.0.1 es)
  where
    by : value_down es (names_until es (Some q) ws) q ≡ value_down es (names_of ws) q → (o : Option Entry) → made_at o q (value_down es (if is_set_at o q then [] else names_until es (Some q) ws) q) ≡ made_at o q (value_down es (names_of ws) q)
    by rest None = rest
    by rest (Some e) =
        elim (is_set e.changes q) as (λ b. is_set e.changes q ≡ b → made e.changes q (value_down es (if b then [] else names_until es (Some q) ws) q) ≡ made e.changes q (value_down es (names_of ws) q)) [
          | true ↦ λ h. made_set e.changes q [] (value_down es (names_of ws) q) h
          | false ↦ λ h. ap (made e.changes q) rest
        ] refl

-- without an end a walk passes all
pub until_none : (es : Lines) (ws : Down) → names_until es None ws ≡ names_of ws
until_none es [] = refl
until_none es (w ∷ ws) = ap (λ l. w.0.1 ∷ l) (until_none es ws)

after_last : (v : List ℕ) (fs : List Fact) (f : Fact) (q : List ℕ) → value_after v (fs ++ f ∷ []) q ≡ made f.changes q (value_after v fs q)
after_last v fs f q =
    ap (λ l. fold after v (filter (of_field q) l)) (flat_map-append (λ f. f.changes) fs (f ∷ []) ∙ ap (λ l. flat_map (λ f. f.changes) fs ++ l) (append-nil f.changes))
    ∙ ap (fold after v) (filter-append (of_field q) (flat_map (λ f. f.changes) fs) f.changes)
    ∙ fold-append after v (filter (of_field q) (flat_map (λ f. f.changes) fs)) (filter (of_field q) f.changes)

-- from the oldest on, changes give the value that they give from the newest down
pub value_backward : (es : Lines) (ws : Down) (q : List ℕ) → value_from (backward (changes_at es ws)) q ≡ value_down es (names_of ws) q
value_backward es [] q = refl
value_backward es (w ∷ ws) q = by (value_backward es ws q) (value_at bytes_cmp w.0.1 es)
  where
    by : value_from (backward (changes_at es ws)) q ≡ value_down es (names_of ws) q → (o : Option Entry) → value_from (backward (put_before (option_map (λ e. fact_of (w.0.1, e)) o) (changes_at es ws))) q ≡ made_at o q (value_down es (names_of ws) q)
    by rest None = rest
    by rest (Some e) = after_last [] (backward (changes_at es ws)) (fact_of (w.0.1, e)) q ∙ ap (made e.changes q) rest

-- ---- whether a change makes another value of a field

module _ (es : Lines) (cards : List FieldChange) (p : ℕ × List ℕ) (ws : Down) (q own : List ℕ) (alone : own ≡ made cards q []) where
  -- cards that replace the field make another value where theirs isn't the one that stands
  pub other_set : is_set cards q ≡ true → is_masked es p q ws ≡ false → not (bytes_eq (value_below es p q ws) own) ≡ is_other es cards p ws q
  other_set set seen =
      let v = value_below es p q ws in
      ap (λ x. not (bytes_eq v x)) (alone ∙ made_set cards q [] v set) ∙ ap (λ m. not m && not (bytes_eq v (made cards q v))) (sym seen)

  appended : is_set cards q ≡ false → is_other es cards p ws q ≡ (not (is_masked es p q ws) && not (bytes_eq [] own))
  appended set =
      let v = value_below es p q ws in
      ap (λ b. not (is_masked es p q ws) && not b) (ap (bytes_eq v) (made_appended cards q v set) ∙ longer v (made cards q []) ∙ ap (bytes_eq []) (sym alone))

  empty_is : (t : List ℕ) (b : Bool) → (length t == 0) ≡ b → bytes_eq [] t ≡ b
  empty_is [] b h = h
  empty_is (x ∷ t) false h = refl
  empty_is (x ∷ t) true h = let none : length (x ∷ t) ≡ 0 = eqb-true (length (x ∷ t)) 0 h in absurd (omega (arith, none))

  -- below a newer change that replaces the field nothing counts
  pub other_masked : is_masked es p q ws ≡ true → false ≡ is_other es cards p ws q
  other_masked seen = let v = value_below es p q ws in ap (λ m. not m && not (bytes_eq v (made cards q v))) (sym seen)

  -- others make a longer one where they put something at its end
  pub other_longer : is_set cards q ≡ false → (length own == 0) ≡ false → not (is_masked es p q ws) ≡ is_other es cards p ws q
  other_longer set more = sym (appended set ∙ ap (λ b. not (is_masked es p q ws) && not b) (empty_is own false more) ∙ and_true (not (is_masked es p q ws)))

  pub other_none : is_set cards q ≡ false → (length own == 0) ≡ true → false ≡ is_other es cards p ws q
  other_none set none = sym (appended set ∙ ap (λ b. not (is_masked es p q ws) && not b) (empty_is own true none) ∙ and_false (not (is_masked es p q ws)))

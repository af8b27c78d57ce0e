-- One technote more makes no other one current.
use Rattle.std.specs.Prelude.{◌≡◌, ◌&&◌, ◌||◌, ℕ, List, [], ◌∷◌, Bool, true, false, cond, if◌then◌else◌, Option, Some, None, map, filter, filter_map}
use Rattle.std.proofs.Common.{refl, sym, ap, ◌∙◌}
use mathlib.Core.Bool.{true≢false}
use Rattle.std.specs.List.{list_any}
use Rattle.std.specs.Option.{option_map_or}
use Rattle.std.specs.Ordering.{is_lt}
use Rattle.std.specs.Str.{bytes_eq}
use Rattle.std.proofs.lemmas.List.Sorted.{list_any-IsPermutation}
use Rattle.std.proofs.lemmas.Bool.{and_from}
use Rattle.fsl_order.specs.Rows.{by_name, greater, greatest, AreDistinct}
use Rattle.fsl_order.proofs.Gathered.{moved-given}
use Rattle.fsl_order.proofs.Booleans.{first_holds, second_holds}
use Rattle.fsl_wiki.specs.declared.Note.{Note}
use Rattle.fsl_wiki.specs.declared.Fact.{Fact}
use Rattle.fsl_wiki.specs.declared.Fact.TheVariants as fact
use Rattle.fsl_wiki.specs.Pages.{fact_name, as_note, current_note, pages_row}
use Rattle.fsl_wiki.specs.Kept.{note_cmp}
use Rattle.fsl_wiki.specs.Laws.{NoOtherCurrent}
use Rattle.fsl_wiki.proofs.Moved.{note_name, note-by_name}

any_less : {X : Type 0} (p q : X → Bool) (xs : List X) → ((x : X) → p x ≡ true → q x ≡ true) → list_any p xs ≡ true → list_any q xs ≡ true
any_less p q [] less h = h
any_less p q (x ∷ xs) less h =
    elim (p x) as (λ b. p x ≡ b → (b || list_any p xs) ≡ true → (q x || list_any q xs) ≡ true) [
      | true ↦ λ e _. ap (λ b. b || list_any q xs) (less x e)
      | false ↦ λ e k. either (q x) (list_any q xs) (any_less p q xs less k)
    ] refl h
  where
    either : (a b : Bool) → b ≡ true → (a || b) ≡ true
    either true b k = refl
    either false b k = k

-- whether the current one that may be there has a name
abbrev is_named : List ℕ → Option Note → Bool
is_named name o = option_map_or (λ c. bytes_eq c.name name) o false

-- whether a technote of a name is the current one of its id
abbrev is_own : List Fact → List ℕ → Note → Bool
is_own facts name n = bytes_eq n.name name && is_named name (current_note facts n.id)

by_order : (facts : List Fact) (name : List ℕ) → AreDistinct (map fact_name facts) → (pages_row (by_name fact_name facts) name).1 ≡ (pages_row facts name).1
by_order facts name d =
    (λ i. list_any (λ n. bytes_eq n.name name && is_named name (sym (note-by_name facts d n.id) i)) (filter_map as_note (by_name fact_name facts)))
    ∙ sym (list_any-IsPermutation (is_own facts name) (filter_map as_note facts) (filter_map as_note (by_name fact_name facts)) (moved-given as_note fact_name (λ n. n.name) note_name facts d))

module _ (facts : List Fact) (m : Note) (name : List ℕ) (other : bytes_eq m.name name ≡ false) where
  greater_less : (g : Option Note) → is_named name (greater note_cmp (Some m) g) ≡ true → is_named name g ≡ true
  greater_less None h = absurd (true≢false (sym h ∙ other))
  greater_less (Some y) h =
      elim (is_lt (note_cmp m y)) as (λ b. bytes_eq (if b then y else m).name name ≡ true → bytes_eq y.name name ≡ true) [
        | true ↦ λ k. k
        | false ↦ λ k. absurd (true≢false (sym k ∙ other))
      ] h

  current_less : (id : List ℕ) → is_named name (current_note (fact.Note m ∷ facts) id) ≡ true → is_named name (current_note facts id) ≡ true
  current_less id h =
      elim (bytes_eq m.id id) as (λ b. is_named name (greatest note_cmp (cond b (m ∷ filter (λ n. bytes_eq n.id id) (filter_map as_note facts)) (filter (λ n. bytes_eq n.id id) (filter_map as_note facts)))) ≡ true → is_named name (current_note facts id) ≡ true) [
        | true ↦ greater_less (current_note facts id)
        | false ↦ λ k. k
      ] h

  own_less : (n : Note) → is_own (fact.Note m ∷ facts) name n ≡ true → is_own facts name n ≡ true
  own_less n h =
      let left = first_holds (bytes_eq n.name name) (is_named name (current_note (fact.Note m ∷ facts) n.id)) h in
      let right = second_holds (bytes_eq n.name name) (is_named name (current_note (fact.Note m ∷ facts) n.id)) h in
      and_from (bytes_eq n.name name) (is_named name (current_note facts n.id)) left (current_less n.id right)

  row_less : (pages_row (fact.Note m ∷ facts) name).1 ≡ true → (pages_row facts name).1 ≡ true
  row_less h =
      any_less (is_own (fact.Note m ∷ facts) name) (is_own facts name) (filter_map as_note facts) own_less
      (sym (ap (λ b. (b && is_named name (current_note (fact.Note m ∷ facts) m.id)) || list_any (is_own (fact.Note m ∷ facts) name) (filter_map as_note facts)) other) ∙ h)

pub no_other : NoOtherCurrent
no_other facts m name d other h = row_less facts m name other (sym (by_order (fact.Note m ∷ facts) name d) ∙ h)

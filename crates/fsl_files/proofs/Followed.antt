-- A name that no check-in has as its baseline or primary parent has no pairs.
use Rattle.std.proofs.Common.{◌≡◌, ℕ, List, [], ◌∷◌, Bool, true, false, cond, ◌||◌, Option, Some, None, length, option_and_then, refl, sym, ap, ◌∙◌, arith}
use mathlib.Core.Bool.{true≢false}
use Rattle.std.specs.List.{list_any}
use Rattle.std.specs.Option.{option_map_or}
use Rattle.std.specs.Ordering.{is_eq}
use Rattle.std.specs.Str.{bytes_eq}
use Rattle.std.specs.Cmp.Lexicographic.{nat_list_eq_equiv}
use Rattle.fsl_order.specs.Names.{bytes_cmp, has}
use Rattle.fsl_order.specs.TableState.{TableState}
use Rattle.fsl_table.specs.Contents.{value_at}
use Rattle.fsl_table.specs.Pairs.{is_name, seconds}
use Rattle.fsl_files.specs.declared.Fact.{Fact}
use Rattle.fsl_files.specs.declared.entry.Entry.{Entry}
use Rattle.fsl_files.specs.Kept.{Lines, Pairs, Rows, IsKept, IsUnfollowed, baseline_at, parent_at, facts_of, held_of, is_touched}
use Rattle.fsl_files.specs.Touches.{is_followed}
use Rattle.fsl_files.proofs.Linked.{has-of}
use Rattle.fsl_files.proofs.Staying.{or_left, or_right}

other : (name : List ℕ) (s : Option (List ℕ)) → option_map_or (bytes_eq name) s false ≡ false → is_name s name ≡ false
other name None h = refl
other name (Some b) h = nat_list_eq_equiv.symm b name ∙ h

abbrev names : List ℕ → Entry → Bool
names name e = option_map_or (bytes_eq name) e.baseline false || option_map_or (bytes_eq name) e.parent false

no_baseline : (es : Lines) (name q : List ℕ) → is_followed (facts_of es) name ≡ false → is_name (baseline_at es q) name ≡ false
no_baseline [] name q h = refl
no_baseline (x ∷ es) name q h =
    elim (is_eq (bytes_cmp q x.0)) as (λ b. is_name (option_and_then (λ v. v.baseline) (cond b (Some x.1) (value_at bytes_cmp q es))) name ≡ false) [
      | true ↦ other name x.1.baseline (or_left (option_map_or (bytes_eq name) x.1.baseline false) (option_map_or (bytes_eq name) x.1.parent false) (or_left (names name x.1) (is_followed (facts_of es) name) h))
      | false ↦ no_baseline es name q (or_right (names name x.1) (is_followed (facts_of es) name) h)
    ]

no_parent : (es : Lines) (name q : List ℕ) → is_followed (facts_of es) name ≡ false → is_name (parent_at es q) name ≡ false
no_parent [] name q h = refl
no_parent (x ∷ es) name q h =
    elim (is_eq (bytes_cmp q x.0)) as (λ b. is_name (option_and_then (λ v. v.parent) (cond b (Some x.1) (value_at bytes_cmp q es))) name ≡ false) [
      | true ↦ other name x.1.parent (or_right (option_map_or (bytes_eq name) x.1.baseline false) (option_map_or (bytes_eq name) x.1.parent false) (or_left (names name x.1) (is_followed (facts_of es) name) h))
      | false ↦ no_parent es name q (or_right (names name x.1) (is_followed (facts_of es) name) h)
    ]

none_has : (ns : List (List ℕ)) → ((q : List ℕ) → has ns q ≡ false) → ns ≡ []
none_has [] h = refl
none_has (x ∷ ns) h = absurd (true≢false (sym (ap (λ b. b || has ns x) (nat_list_eq_equiv.refl x)) ∙ h x))

pub unfollowed : (r : Rows) (h : TableState Fact) (name : List ℕ) → IsKept r → held_of r ≡ h → is_followed h.facts name ≡ false → IsUnfollowed r name
unfollowed r h name kept is none =
    let es = r.facts.entries in
    let alone : is_followed (facts_of es) name ≡ false = ap (λ h. is_followed h.facts name) is ∙ none in (
      ap length (none_has (seconds name r.deltas.entries) (λ q. has-of (baseline_at es) r.deltas.entries name q kept.deltas ∙ no_baseline es name q alone)),
      ap length (none_has (seconds name r.children.entries) (λ q. has-of (parent_at es) r.children.entries name q kept.children ∙ no_parent es name q alone)),
    )

nothing : (ns : List (List ℕ)) → length ns ≡ 0 → ns ≡ []
nothing [] h = refl
nothing (n ∷ ns) h = absurd (omega (arith, h))

-- such a name touches no other
pub none_touched : (deltas children : Pairs) (name : List ℕ) (list : List (List ℕ)) → ((q : List ℕ) → has list q ≡ is_touched deltas children name q) → length (seconds name deltas) ≡ 0 → length (seconds name children) ≡ 0 → length list ≡ 0
none_touched deltas children name list all d c =
    ap length (none_has list (λ q. all q ∙ (λ i. list_any (λ up. has (seconds up children) q) (nothing (seconds name deltas) d i) || (has (nothing (seconds name children) c i) q || has (nothing (seconds name deltas) d i) q))))

-- Fit facts with one more that is fit are fit, and so are fit facts of which one has another parent.
use Rattle.std.specs.Prelude.{◌≡◌, false, true, ℕ, List, [], ◌∷◌, Some, None, IfSome, IsTrue, map, Bool, cond}
use Rattle.std.proofs.Common.{sym, subst, ap, ◌∙◌, refl}
use mathlib.Core.Bool.{true≢false}
use Rattle.std.proofs.lemmas.Bool.{or_parts}
use Rattle.std.proofs.lemmas.Slice.Eq.{bytes_eq-Decides}
use Rattle.std.specs.List.{AllByRecursion, IsDistinct}
use Rattle.std.specs.Option.{option_map_or}
use Rattle.std.specs.Str.{bytes_eq}
use Rattle.std.specs.Cmp.Lexicographic.{nat_list_eq_equiv}
use Rattle.std.specs.List.Sorted.{IsStrictlySortedBy}
use Rattle.std.specs.Map.{keys_of}
use Rattle.std.specs.Ordering.{eq_by_cmp}
use Rattle.std.specs.Cmp.Lexicographic.{texts_ties}
use Rattle.std.proofs.lemmas.Map.Keys.{IsDistinct-from_sorted}
use Rattle.fsl_order.specs.TableState.{TableState}
use Rattle.fsl_order.specs.Names.{bytes_cmp, has}
use Rattle.fsl_order.specs.Rows.{named, by_name, AreDistinct}
use Rattle.fsl_order.proofs.NamedLemmas.{named-by_name}
use Rattle.fsl_order.proofs.Orders.{bytes_cmp-IsTotalOrder}
use Rattle.fsl_table.specs.Contents.{with_entry}
use Rattle.fsl_table.proofs.Entries.{sorted-insert_entry}
use Rattle.fsl_tags.specs.Conditions.{IsParentChange}
use Rattle.fsl_tags.specs.declared.node.Node.{Node}
use Rattle.fsl_tags.specs.Held.{Rows, held_of, facts_of}
use Rattle.fsl_tags.proofs.FitByName.{all-by_name}
use Rattle.fsl_tags.proofs.WithFact.{facts_with}
use Rattle.fsl_tags.specs.declared.Fact.{Fact}
use Rattle.fsl_tags.specs.Tags.{IsTagFact, AreTagFacts}

abbrev there : List Fact → List ℕ → Bool
there facts up = option_map_or (λ f. f.checkin) (named (λ f. f.name) facts up) false

-- a name that is there is there with one fact more of another name
stays : (fact : Fact) (facts : List Fact) (up : List ℕ) → (bytes_eq fact.name up ≡ false) → IsTrue (there facts up) → IsTrue (there (fact ∷ facts) up)
stays fact facts up apart h = rw apart h

none_there : (facts : List Fact) (n : List ℕ) → has (map (λ f. f.name) facts) n ≡ false → there facts n ≡ false
none_there [] n h = refl
none_there (f ∷ fs) n h =
    let parts = or_parts (bytes_eq n f.name) (has (map (λ f. f.name) fs) n) h in
    let flipped : bytes_eq f.name n ≡ false = nat_list_eq_equiv.symm f.name n ∙ parts.0 in
    rw flipped (none_there fs n parts.1)

apart : (fact : Fact) (facts : List Fact) (up : List ℕ) → has (map (λ f. f.name) facts) fact.name ≡ false → IsTrue (there facts up) → bytes_eq fact.name up ≡ false
apart fact facts up absent h =
    elim (bytes_eq fact.name up) as (λ b. bytes_eq fact.name up ≡ b → b ≡ false) [
      | true ↦ λ e. absurd (true≢false (sym h ∙ (ap (there facts) (sym ((bytes_eq-Decides fact.name up).0 e)) ∙ none_there facts fact.name absent)))
      | false ↦ λ e. refl
    ] refl

one : (fact : Fact) (facts : List Fact) → has (map (λ f. f.name) facts) fact.name ≡ false → (f : Fact) → IsTagFact facts f → IsTagFact (fact ∷ facts) f
one fact facts absent f fit = record {
  child = elim f.parent as (λ p. IfSome p (λ up. IsTrue f.checkin × IsTrue (there facts up)) → IfSome p (λ up. IsTrue f.checkin × IsTrue (there (fact ∷ facts) up))) [
    | None ↦ λ h. h
    | Some up ↦ λ h. (h.0, stays fact facts up (apart fact facts up absent h.1) h.1)
  ] fit.child;
  sources = fit.sources;
  places = fit.places;
}

moved : (fact : Fact) (facts some : List Fact) → has (map (λ f. f.name) facts) fact.name ≡ false → AllByRecursion (IsTagFact facts) some → AllByRecursion (IsTagFact (fact ∷ facts)) some
moved fact facts [] absent all = tt
moved fact facts (f ∷ fs) absent all = (one fact facts absent f all.0, moved fact facts fs absent all.1)

nowhere : (others : List (List ℕ)) (name : List ℕ) → has others name ≡ false → AllByRecursion (λ q. bytes_eq name q ≡ false) others
nowhere [] name none = tt
nowhere (other ∷ others) name none =
    let parts = or_parts (bytes_eq name other) (has others name) none in
    (parts.0, nowhere others name parts.1)

pub fit_with : (fact : Fact) (facts : List Fact) → AreTagFacts facts → has (map (λ f. f.name) facts) fact.name ≡ false → IsTagFact (fact ∷ facts) fact → AreTagFacts (fact ∷ facts)
unfolding IsDistinct
fit_with fact facts ok absent fit = record {
  differ = (nowhere (map (λ f. f.name) facts) fact.name absent, ok.differ);
  fit = (fit, moved fact facts facts absent ok.fit);
}

-- the same, of facts that are kept
pub fit_more : (fact : Fact) (r : Rows) (held : TableState Fact) → held_of r ≡ held → AreTagFacts (facts_of r.facts.entries) → has (map (λ f. f.name) held.facts) fact.name ≡ false → IsTagFact (fact ∷ held.facts) fact → AreTagFacts (fact ∷ facts_of r.facts.entries)
fit_more fact r held is ok absent fit =
    fit_with fact (facts_of r.facts.entries) ok (subst (λ h. has (map (λ f. f.name) h.facts) fact.name ≡ false) (sym is) absent) (subst (λ h. IsTagFact (fact ∷ h.facts) fact) (sym is) fit)

-- ---- another parent

module _ (fact : Fact) (facts : List Fact) (change : IsParentChange facts fact) where
  stays_there : (up : List ℕ) → IsTrue (there facts up) → IsTrue (there (by_name (λ f. f.name) (fact ∷ facts)) up)
  stays_there up h =
      subst (λ o. IsTrue (option_map_or (λ f. f.checkin) o false)) (sym (named-by_name (λ f. f.name) (fact ∷ facts) up))
      (elim (bytes_eq fact.name up) as (λ b. bytes_eq fact.name up ≡ b → IsTrue (option_map_or (λ f. f.checkin) (cond b (Some fact) (named (λ f. f.name) facts up)) false)) [
        | true ↦ λ e.
            let same : named (λ f. f.name) facts up ≡ Some change.old = ap (named (λ f. f.name) facts) (sym ((bytes_eq-Decides fact.name up).0 e)) ∙ change.there in
            let old : IsTrue change.old.checkin = subst (λ o. IsTrue (option_map_or (λ f. f.checkin) o false)) same h in
            subst (λ b. IsTrue b) (sym (ap (λ f. f.checkin) change.kept)) old
        | false ↦ λ _. h
      ] refl)

  one_stays : (f : Fact) → IsTagFact facts f → IsTagFact (by_name (λ f. f.name) (fact ∷ facts)) f
  one_stays f fit = record {
    child = elim f.parent as (λ p. IfSome p (λ up. IsTrue f.checkin × IsTrue (there facts up)) → IfSome p (λ up. IsTrue f.checkin × IsTrue (there (by_name (λ f. f.name) (fact ∷ facts)) up))) [
      | None ↦ λ h. h
      | Some up ↦ λ h. (h.0, stays_there up h.1)
    ] fit.child;
    sources = fit.sources;
    places = fit.places;
  }

  all_stay : (some : List Fact) → AllByRecursion (IsTagFact facts) some → AllByRecursion (IsTagFact (by_name (λ f. f.name) (fact ∷ facts))) some
  all_stay [] all = tt
  all_stay (f ∷ fs) all = (one_stays f all.0, all_stay fs all.1)

names-keys : (es : List (List ℕ × Node)) → keys_of es ≡ map (λ f. f.name) (facts_of es)
names-keys [] = refl
names-keys (e ∷ es) = ap (λ l. e.0 ∷ l) (names-keys es)

-- facts by rising name differ
pub differ_of : (es : List (List ℕ × Node)) → IsStrictlySortedBy bytes_cmp (keys_of es) → AreDistinct (map (λ f. f.name) (facts_of es))
differ_of es rise =
    let ties : eq_by_cmp bytes_cmp ≡ bytes_eq = λ i x y. sym (texts_ties x y) i in
    subst AreDistinct (names-keys es) (subst (λ e. IsDistinct e (keys_of es)) ties (IsDistinct-from_sorted bytes_cmp (keys_of es) rise))

pub fit_moved : (fact : Fact) (r : Rows) (held : TableState Fact) → held_of r ≡ held → IsStrictlySortedBy bytes_cmp (keys_of r.facts.entries) → AreTagFacts (facts_of r.facts.entries) → IsParentChange held.facts fact → IsTagFact held.facts fact
    → AreTagFacts (by_name (λ f. f.name) (fact ∷ facts_of r.facts.entries))
fit_moved fact r held is ordered ok change fit =
    let es = r.facts.entries in
    let node : Node = record { checkin = fact.checkin; parent = fact.parent; tags = fact.tags } in
    let moved : IsParentChange (facts_of es) fact = subst (λ h. IsParentChange h.facts fact) (sym is) change in
    let own : IsTagFact (facts_of es) fact = subst (λ h. IsTagFact h.facts fact) (sym is) fit in
    record {
      differ = subst (λ fs. AreDistinct (map (λ f. f.name) fs)) (facts_with fact.name node es ordered) (differ_of (with_entry bytes_cmp fact.name node es) (sorted-insert_entry bytes_cmp-IsTotalOrder fact.name node es ordered));
      fit = all-by_name (λ f. f.name) (IsTagFact (by_name (λ f. f.name) (fact ∷ facts_of es))) (fact ∷ facts_of es) (one_stays fact (facts_of es) moved fact own, all_stay fact (facts_of es) moved (facts_of es) ok.fit);
    }

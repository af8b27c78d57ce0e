-- Facts under the names of held artifacts.
use Rattle.std.proofs.Common.{◌≡◌, ℕ, false, cond, List, [], ◌∷◌, Option, Some, None, refl, sym, ap, subst, ◌∙◌}
use Rattle.std.specs.Prelude.{T, ⊤, is_some}
use Rattle.std.specs.List.{AllZip}
use Rattle.std.specs.Map.{lookup, set_value, values_of}
use Rattle.std.specs.BTreeMap.{BTreeMap, get, insert_entry, is_at}
use Rattle.std.specs.Ordering.{is_eq, match_ordering}
use Rattle.std.specs.declared.cmp.Ordering.TheVariants.{Less, Equal, Greater}
use Rattle.std.specs.FinMap as map_of
use Rattle.std.specs.FinMap.{put, find, is_sorted}
use Rattle.std.specs.FinMap.Entries.{by_order, below_all}
use Rattle.fsl_order.specs.Names.{bytes_cmp}
use Rattle.fsl_order.proofs.Orders.{bytes_cmp-IsTotalOrder, bytes_cmp-IsAntisymmetric}
use Rattle.fsl_artifact.specs.Kind.{IsKind}
use Rattle.fsl_blobs.specs.Fold.{Held, HeldSet}
use Rattle.fsl_blobs.proofs.Totals.{front_first, front_second, below_less, none_below}
use Rattle.fsl_cluster.specs.declared.Fact.{Fact}
use Rattle.fossil.specs.Taking.{IsFactOf, IsNotedAs, AreNoted, MakesPublic, is_noted}
use Rattle.fossil.proofs.SetLemmas.{public}

-- ---- one fact more

renamed : (name other : List ℕ) (a : Held) (f : Fact) → name ≡ other → IsFactOf (name, a) f → IsFactOf (other, a) f
renamed name other a f same fits = subst (λ (n : List ℕ). IsFactOf (n, a) f) same fits

noted_put : (k : List ℕ) (a : Held) (f : Fact) → IsFactOf (k, a) f → (es : List (List ℕ × Held)) (fs : List (List ℕ × Fact)) → AllZip IsNotedAs es fs
    → AllZip IsNotedAs (put bytes_cmp k a es) (insert_entry bytes_cmp fs k f)
noted_put k a f fits [] [] all = ((refl, fits), tt)
noted_put k a f fits [] (h ∷ fs) all = absurd all
noted_put k a f fits (e ∷ es) [] all = absurd all
noted_put k a f fits (e ∷ es) (h ∷ fs) all =
    subst (λ (key : List ℕ). AllZip IsNotedAs (put bytes_cmp k a (e ∷ es)) (match_ordering (bytes_cmp k key) ((k, f) ∷ h ∷ fs) ((h.0, f) ∷ fs) (h ∷ insert_entry bytes_cmp fs k f))) (sym all.0.0)
    (elim (bytes_cmp k e.0) as
    (λ r. bytes_cmp k e.0 ≡ r → AllZip IsNotedAs (by_order r ((k, a) ∷ e ∷ es) ((e.0, a) ∷ es) (e ∷ put bytes_cmp k a es))
    (match_ordering r ((k, f) ∷ h ∷ fs) ((h.0, f) ∷ fs) (h ∷ insert_entry bytes_cmp fs k f))) [
      | Less ↦ λ _. ((refl, fits), all)
      | Equal ↦ λ same. ((all.0.0, renamed k e.0 a f (bytes_cmp-IsAntisymmetric k e.0 same) fits), all.1)
      | Greater ↦ λ _. (all.0, noted_put k a f fits es fs all.1)
    ] refl)

pub noted_more : (held : HeldSet) (facts new : BTreeMap (List ℕ) Fact) (name : List ℕ) (a : Held) (f : Fact) → AreNoted held facts → IsFactOf (name, a) f
    → new.entries ≡ insert_entry bytes_cmp facts.entries name f → AreNoted (map_of.insert held name a) new
noted_more held facts new name a f noted fits is =
    subst (λ (es : List (List ℕ × Held)). AllZip IsNotedAs es new.entries) (sym (map_of.entries-insert bytes_cmp-IsTotalOrder held name a))
    (subst (λ (fs : List (List ℕ × Fact)). AllZip IsNotedAs (put bytes_cmp name a (map_of.entries held)) fs) (sym is) (noted_put name a f fits (map_of.entries held) facts.entries noted))

-- ---- an artifact that becomes public

pub public_fact : (e : List ℕ × Held) (a : Held) (h f : Fact) → e.1 ≡ a → h ≡ f → IsFactOf e h → IsFactOf (e.0, public a) (record f { private = false })
public_fact e a h f same is fits = (
  record fits.0 { private = false },
  record { name = fits.1.name; private = refl; kind = subst (λ (x : Held). IsKind x.bytes fits.0.artifact) same fits.1.kind },
  ap (λ (x : Fact). record x { private = false }) (sym is ∙ fits.2),
)

noted_public : (k : List ℕ) (a : Held) (f : Fact) (es : List (List ℕ × Held)) (fs : List (List ℕ × Fact)) → T (is_sorted bytes_cmp es) → find bytes_cmp k es ≡ Some a
    → lookup (is_at (bytes_cmp k)) fs ≡ Some f → AllZip IsNotedAs es fs
    → AllZip IsNotedAs (put bytes_cmp k (public a) es) (set_value (is_at (bytes_cmp k)) fs (record f { private = false }))
noted_public k a f [] fs rise found known all = absurd cc
noted_public k a f (e ∷ es) [] rise found known all = absurd all
noted_public k a f (e ∷ es) (h ∷ fs) rise found known all =
    let under = front_first (below_all bytes_cmp e.0 es) (is_sorted bytes_cmp es) rise in
    subst
    (λ (key : List ℕ). cond (is_eq (bytes_cmp k key)) (Some h.1) (lookup (is_at (bytes_cmp k)) fs) ≡ Some f
    → AllZip IsNotedAs (put bytes_cmp k (public a) (e ∷ es)) (cond (is_eq (bytes_cmp k key)) ((h.0, record f { private = false }) ∷ fs) (h ∷ set_value (is_at (bytes_cmp k)) fs (record f { private = false })))) (sym all.0.0)
    (elim (bytes_cmp k e.0) as
    (λ r. bytes_cmp k e.0 ≡ r → cond (is_eq r) (Some e.1) (find bytes_cmp k es) ≡ Some a → cond (is_eq r) (Some h.1) (lookup (is_at (bytes_cmp k)) fs) ≡ Some f
    → AllZip IsNotedAs (by_order r ((k, public a) ∷ e ∷ es) ((e.0, public a) ∷ es) (e ∷ put bytes_cmp k (public a) es))
    (cond (is_eq r) ((h.0, record f { private = false }) ∷ fs) (h ∷ set_value (is_at (bytes_cmp k)) fs (record f { private = false })))) [
      | Less ↦ λ p there its. let none = none_below k es (below_less k e.0 es p under) in absurd cc
      | Equal ↦ λ p there its.
          let held : e.1 ≡ a = cc in
          let fact : h.1 ≡ f = cc in
          ((all.0.0, public_fact e a h.1 f held fact all.0.1), all.1)
      | Greater ↦ λ p there its. (all.0, noted_public k a f es fs (front_second (below_all bytes_cmp e.0 es) (is_sorted bytes_cmp es) rise) there its all.1)
    ] refl found) known

pub made_public : (name : List ℕ) (f : Fact) (old new : BTreeMap (List ℕ) Fact) → get bytes_cmp old name ≡ Some f
    → new.entries ≡ set_value (is_at (bytes_cmp name)) old.entries (record f { private = false }) → MakesPublic name old new
made_public name f old new known is held a there noted =
    subst (λ (es : List (List ℕ × Held)). AllZip IsNotedAs es new.entries) (sym (map_of.entries-insert bytes_cmp-IsTotalOrder held name (public a)))
    (subst (λ (fs : List (List ℕ × Fact)). AllZip IsNotedAs (put bytes_cmp name (public a) (map_of.entries held)) fs) (sym is)
    (noted_public name a f (map_of.entries held) old.entries (map_of.entries_sorted held) (sym (map_of.get-entries held name) ∙ there) known noted))

-- ---- what a name finds

-- a name finds a held artifact and its fact, or neither
abbrev pub IsFound : List ℕ → Option Held → Option Fact → Type 0
IsFound name None None = ⊤
IsFound name (Some a) (Some f) = IsFactOf (name, a) f
IsFound name None (Some f) = ⊥
IsFound name (Some a) None = ⊥

found_by : (q : List ℕ) (es : List (List ℕ × Held)) (fs : List (List ℕ × Fact)) → AllZip IsNotedAs es fs → IsFound q (find bytes_cmp q es) (lookup (is_at (bytes_cmp q)) fs)
found_by q [] [] all = tt
found_by q [] (h ∷ fs) all = absurd all
found_by q (e ∷ es) [] all = absurd all
found_by q (e ∷ es) (h ∷ fs) all =
    subst (λ (key : List ℕ). IsFound q (find bytes_cmp q (e ∷ es)) (cond (is_eq (bytes_cmp q key)) (Some h.1) (lookup (is_at (bytes_cmp q)) fs))) (sym all.0.0)
    (elim (bytes_cmp q e.0) as
    (λ r. bytes_cmp q e.0 ≡ r → IsFound q (cond (is_eq r) (Some e.1) (find bytes_cmp q es)) (cond (is_eq r) (Some h.1) (lookup (is_at (bytes_cmp q)) fs))) [
      | Less ↦ λ _. found_by q es fs all.1
      | Equal ↦ λ same. renamed e.0 q e.1 h.1 (sym (bytes_cmp-IsAntisymmetric q e.0 same)) all.0.1
      | Greater ↦ λ _. found_by q es fs all.1
    ] refl)

pub found_noted : (held : HeldSet) (facts : BTreeMap (List ℕ) Fact) (q : List ℕ) → AreNoted held facts → IsFound q (map_of.get held q) (get bytes_cmp facts q)
found_noted held facts q noted =
    subst (λ (o : Option Held). IsFound q o (get bytes_cmp facts q)) (sym (map_of.get-entries held q)) (found_by q (map_of.entries held) facts.entries noted)

both_there : (q : List ℕ) (o : Option Held) (p : Option Fact) → IsFound q o p → is_some p ≡ is_some o
both_there q None None is = refl
both_there q None (Some f) is = absurd is
both_there q (Some a) None is = absurd is
both_there q (Some a) (Some f) is = refl

-- a fact stands under the names that are held
pub noted_held : (held : HeldSet) (facts : BTreeMap (List ℕ) Fact) (q : List ℕ) → AreNoted held facts → is_noted facts q ≡ map_of.contains_key held q
noted_held held facts q noted = both_there q (map_of.get held q) (get bytes_cmp facts q) (found_noted held facts q noted)

none_by : (q : List ℕ) (o : Option Held) (p : Option Fact) → IsFound q o p → is_some p ≡ false → o ≡ None
none_by q None None is e = refl
none_by q None (Some f) is e = absurd is
none_by q (Some a) None is e = absurd is
none_by q (Some a) (Some f) is e = absurd cc

pub none_held : (held : HeldSet) (facts : BTreeMap (List ℕ) Fact) (q : List ℕ) → AreNoted held facts → is_some (get bytes_cmp facts q) ≡ false → map_of.get held q ≡ None
none_held held facts q noted none = none_by q (map_of.get held q) (get bytes_cmp facts q) (found_noted held facts q noted) none

some_by : (q : List ℕ) (o : Option Held) (p : Option Fact) (f : Fact) → IsFound q o p → p ≡ Some f → (a : Held) × (o ≡ Some a) × (f.private ≡ a.private)
some_by q None p f is e = absurd (let no : IsFound q None (Some f) = subst (IsFound q None) e is in no)
some_by q (Some a) p f is e =
    let fact : IsFactOf (q, a) f = subst (IsFound q (Some a)) e is in (a, refl, ap (λ (x : Fact). x.private) fact.2 ∙ fact.1.private)

-- a fact is that of an artifact that is held
pub some_held : (held : HeldSet) (facts : BTreeMap (List ℕ) Fact) (q : List ℕ) (f : Fact) → AreNoted held facts → get bytes_cmp facts q ≡ Some f
    → (a : Held) × (map_of.get held q ≡ Some a) × (f.private ≡ a.private)
some_held held facts q f noted known = some_by q (map_of.get held q) (get bytes_cmp facts q) f (found_noted held facts q noted) known

-- a name without a fact is that of nothing to make public
pub none_public : (name : List ℕ) (old new : BTreeMap (List ℕ) Fact) → get bytes_cmp old name ≡ None → new ≡ old → MakesPublic name old new
none_public name old new none same held a there noted = absurd (let no = none_held held old name noted (ap is_some none) in let clash : None ≡ Some a = sym no ∙ there in cc)

-- ---- all facts

pub facts_noted : (es : List (List ℕ × Held)) (fs : List (List ℕ × Fact)) → AllZip IsNotedAs es fs → AllZip IsFactOf es (values_of fs)
facts_noted [] [] all = tt
facts_noted [] (f ∷ fs) all = absurd all
facts_noted (e ∷ es) [] all = absurd all
facts_noted (e ∷ es) (f ∷ fs) all = (all.0.1, facts_noted es fs all.1)

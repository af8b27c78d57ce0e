-- Loops over names at which nothing is to be done, and artifacts that give a table nothing.
use Rattle.std.proofs.Common.{◌≡◌, ◌≤◌, ◌<◌, ◌+◌, ℕ, zero, suc, true, false, List, [], ◌∷◌, ◌++◌, Bool, length, get_or, Option, Some, None, refl, sym, ap, ◌∙◌, arith}
use Rattle.std.specs.Prelude.{◌||◌, ◌&&◌, not, is_some, option_map, option_and_then, IfSome}
use Rattle.std.specs.Option.{option_map_or}
use Rattle.std.specs.Str.{bytes_eq}
use Rattle.fsl_order.specs.TableState.{Change}
use Rattle.fsl_order.specs.Names.{has}
use Rattle.fsl_order.specs.Rows.{named}
use Rattle.fsl_order.proofs.Booleans.{or_true}
use Rattle.fsl_manifest.specs.declared.Manifest.{Manifest}
use Rattle.fsl_leaves.specs.declared.Fact as leaves
use Rattle.fsl_timeline.specs.declared.Row.{Row}
use Rattle.fsl_cross.specs.declared.Item.{Item}
use Rattle.fsl_cross.specs.Facts.{as_manifest}
use Rattle.fsl_cross.specs.Checkins.{checkin}
use Rattle.fsl_cross.specs.Mixed.{is_other_checkin, all_changed}
use Rattle.fsl_cross.specs.Touches.{NoneOf, Untouched}

has-append : (xs ys : List (List ℕ)) (q : List ℕ) → has (xs ++ ys) q ≡ (has xs q || has ys q)
has-append [] ys q = refl
has-append (x ∷ xs) ys q = ap (λ b. bytes_eq q x || b) (has-append xs ys q) ∙ assoc (bytes_eq q x) (has xs q) (has ys q)
  where
    assoc : (a b c : Bool) → (a || (b || c)) ≡ ((a || b) || c)
    assoc true b c = refl
    assoc false b c = refl

-- what one of several changes changed is among what they changed
pub none-at : {F : Type 0} (test : List ℕ → Bool) (us : List (Change F)) (i : ℕ) (u : Change F) → i < length us → u ≡ get_or us i u → NoneOf test (all_changed us) → NoneOf test u.changed
none-at test [] i u lt is none = absurd (omega (arith, lt))
none-at test (v ∷ us) zero u lt is none = λ q h. none q (has-append v.changed (all_changed us) q ∙ ap (λ b. b || has (all_changed us) q) (ap (λ (w : Change _). has w.changed q) (sym is) ∙ h))
none-at test (v ∷ us) (suc i) u lt is none =
    none-at test us i u (omega (arith, lt)) is (λ p k. none p (has-append v.changed (all_changed us) p ∙ ap (λ b. has v.changed p || b) k ∙ or_true (has v.changed p)))

-- nothing is done, and then nothing again
pub quiet-on : {U : Type 0} (a b c : ℕ) (us vs ws : List U) → Untouched a b us vs → Untouched b c vs ws → Untouched a c us ws
quiet-on a b c us vs ws p q = (q.0 ∙ p.0, q.1 ∙ p.1)

-- what nothing is added to is within a bound
pub quiet-within : (a b m : ℕ) → b ≡ a → b ≤ a + m
quiet-within a b m e = omega (arith, e)

-- .. and adds nothing to what is
pub within-quiet : (a b c m : ℕ) → b ≤ a + m → c ≡ b → c ≤ a + m
within-quiet a b c m p e = omega (arith, p, e)

-- what is given of nothing
pub gives-not : {X Y : Type 0} (g : X → Y) (o : Option X) (y : Y) → option_map g o ≡ Some y → o ≡ None → ⊥
gives-not g None y e none = cc
gives-not g (Some x) y e none = cc

some-given : {X Y : Type 0} (g : X → Y) (o : Option X) (y : Y) → option_map g o ≡ Some y → is_some o ≡ true
some-given g None y e = cc
some-given g (Some x) y e = refl

pub true-not : (b : Bool) → b ≡ true → b ≡ false → ⊥
true-not b t f = let both : true ≡ false = sym t ∙ f in cc

-- the number by what is given
pub most-given : {X Y : Type 0} (g : X → Y) (f : X → ℕ) (h : Y → ℕ) → ((x : X) → h (g x) ≡ f x) → (o : Option X) (y : Y) → option_map g o ≡ Some y → option_map_or f o 0 ≡ h y
most-given g f h same None y e = cc
most-given g f h same (Some x) y e = sym (same x) ∙ ap h (inside e)
  where
    inside : Some (g x) ≡ Some y → g x ≡ y
    inside r = cc

module _ (items : List Item) (n q : List ℕ) (apart : bytes_eq q n ≡ false) where
  -- a name that has a row of a check-in is that of another check-in
  pub row-other : (f : Manifest → Row) (r : Row) → option_map f (checkin items q) ≡ Some r → is_other_checkin items n q ≡ true
  row-other f r is = let there = some-given f (checkin items q) r is in λ i. not (apart i) && there i

  -- so is one that gives a leaf's fact
  pub leaf-other : (g : Item → Manifest → leaves.Fact) (f : leaves.Fact) → option_and_then (λ (item : Item). option_map (g item) (as_manifest item.artifact)) (named (λ (i : Item). i.name) items q) ≡ Some f → is_other_checkin items n q ≡ true
  leaf-other g f is = let there = by (named (λ (i : Item). i.name) items q) is in λ i. not (apart i) && there i
    where
      by : (o : Option Item) → option_and_then (λ (item : Item). option_map (g item) (as_manifest item.artifact)) o ≡ Some f → is_some (option_and_then (λ (item : Item). as_manifest item.artifact) o) ≡ true
      by None e = cc
      by (Some y) e = some-given (g y) (as_manifest y.artifact) f e

pub some-not : {X : Type 0} (o : Option X) (x : X) → o ≡ Some x → o ≡ None → ⊥
some-not None x e none = cc
some-not (Some y) x e none = cc

pub if-some-any : {X P : Type 0} (o : Option X) → P → IfSome o (λ _. P)
if-some-any None p = tt
if-some-any (Some x) p = p

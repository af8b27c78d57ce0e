-- What is in order by an order is, from its end on, in order by that order turned round.
use Rattle.std.proofs.Common.{◌≡◌, Bool, true, false, ◌&&◌, T, List, [], ◌∷◌, ◌++◌, map, refl, sym, ap, ◌∙◌}
use Rattle.std.specs.Ordering.{is_lt, flip_args, ordering_reverse}
use Rattle.std.specs.List.{AllByRecursion}
use Rattle.std.specs.Cmp.{IsTotalOrder}
use Rattle.std.specs.FinMap.{is_sorted}
use Rattle.std.specs.FinMap.Entries.{put, by_order, below_all}
use Rattle.std.specs.declared.cmp.Ordering.{Ordering}
use Rattle.std.specs.declared.cmp.Ordering.TheVariants.{Less, Equal, Greater}
use Rattle.std.proofs.lemmas.List.{append_assoc}
use Rattle.fsl_order.specs.Rows.{keyed, in_order}
use Rattle.fsl_order.proofs.RowLemmas.{is_sorted-keyed}

-- a list from its end on
abbrev pub backward : {X : Type 0} → List X → List X
backward [] = []
backward (x ∷ xs) = backward xs ++ x ∷ []

pub map-backward : {X Y : Type 0} (f : X → Y) (xs : List X) → map f (backward xs) ≡ backward (map f xs)
map-backward f [] = refl
map-backward f (x ∷ xs) = with_last (backward xs) ∙ ap (λ l. l ++ f x ∷ []) (map-backward f xs)
  where
    with_last : (ys : List _) → map f (ys ++ x ∷ []) ≡ map f ys ++ f x ∷ []
    with_last [] = refl
    with_last (y ∷ ys) = ap (λ l. f y ∷ l) (with_last ys)

all_backward : {X : Type 0} (P : X → Type 0) (xs : List X) → AllByRecursion P xs → AllByRecursion P (backward xs)
all_backward P [] h = tt
all_backward P (x ∷ xs) h = with_last (backward xs) (all_backward P xs h.1)
  where
    with_last : (ys : List _) → AllByRecursion P ys → AllByRecursion P (ys ++ x ∷ [])
    with_last [] a = (h.0, tt)
    with_last (y ∷ ys) a = (a.0, with_last ys a.1)

less : (r : Ordering) → T (is_lt r) → r ≡ Less
less Less p = refl
less Equal p = absurd p
less Greater p = absurd p

first : (a b : Bool) → T (a && b) → T a
first true b p = tt
first false b p = p

second : (a b : Bool) → T (a && b) → T b
second true b p = p
second false b p = absurd p

module _ {K X : Type 0} {R : K → K → Ordering} (o : IsTotalOrder R) where
  -- behind all these keys, an entry is put behind them
  put_behind : (k : K) (v : X) (hs bs : List (K × X)) → AllByRecursion (λ y. R y.0 k ≡ Greater) hs → put (flip_args R) k v (hs ++ bs) ≡ hs ++ put (flip_args R) k v bs
  put_behind k v [] bs h = refl
  put_behind k v (a ∷ hs) bs h =
      ap (λ r. by_order r ((k, v) ∷ a ∷ hs ++ bs) ((a.0, v) ∷ hs ++ bs) (a ∷ put (flip_args R) k v (hs ++ bs))) h.0 ∙ ap (λ l. a ∷ l) (put_behind k v hs bs h.1)

  -- before the last key, an entry is put before it
  put_before : (k : K) (v : X) (e : K × X) (hs : List (K × X)) → R e.0 k ≡ Less → put (flip_args R) k v (hs ++ e ∷ []) ≡ put (flip_args R) k v hs ++ e ∷ []
  put_before k v e [] h = ap (λ r. by_order r ((k, v) ∷ e ∷ []) ((e.0, v) ∷ []) (e ∷ (k, v) ∷ [])) h
  put_before k v e (a ∷ hs) h =
      elim (R a.0 k) as (λ r. by_order r ((k, v) ∷ a ∷ hs ++ e ∷ []) ((a.0, v) ∷ hs ++ e ∷ []) (a ∷ put (flip_args R) k v (hs ++ e ∷ [])) ≡ by_order r ((k, v) ∷ a ∷ hs) ((a.0, v) ∷ hs) (a ∷ put (flip_args R) k v hs) ++ e ∷ []) [
        | Less ↦ refl
        | Equal ↦ refl
        | Greater ↦ ap (λ l. a ∷ l) (put_before k v e hs h)
      ]

  -- keys above x are above each key that is below x or ties with it
  above_all : (k x : K) → ((y : K) → R x y ≡ Less → R k y ≡ Less) → (es : List (K × X)) → T (below_all R x es) → AllByRecursion (λ y. R y.0 k ≡ Greater) es
  above_all k x h [] b = tt
  above_all k x h (e ∷ es) b =
      (o.antisymm e.0 k ∙ ap ordering_reverse (h e.0 (less (R x e.0) (first (is_lt (R x e.0)) (below_all R x es) b))), above_all k x h es (second (is_lt (R x e.0)) (below_all R x es) b))

  put-backward : (k : K) (v : X) (es : List (K × X)) → T (is_sorted R es) → put (flip_args R) k v (backward es) ≡ backward (put R k v es)
  put-backward k v [] s = refl
  put-backward k v (e ∷ es) s =
      elim (R k e.0) as (λ r. R k e.0 ≡ r → put (flip_args R) k v (backward es ++ e ∷ []) ≡ backward (by_order r ((k, v) ∷ e ∷ es) ((e.0, v) ∷ es) (e ∷ put R k v es))) [
        | Less ↦ λ h.
            put_behind k v (backward es) (e ∷ []) (all_backward (λ y. R y.0 k ≡ Greater) es (above_all k e.0 (λ y less. o.trans k e.0 y h less) es sorted))
            ∙ ap (λ r. backward es ++ by_order r ((k, v) ∷ e ∷ []) ((e.0, v) ∷ []) (e ∷ (k, v) ∷ [])) (o.antisymm e.0 k ∙ ap ordering_reverse h)
            ∙ sym (append_assoc (backward es) (e ∷ []) ((k, v) ∷ []))
        | Equal ↦ λ h.
            put_behind k v (backward es) (e ∷ []) (all_backward (λ y. R y.0 k ≡ Greater) es (above_all k e.0 (λ y less. o.congr k e.0 y h ∙ less) es sorted))
            ∙ ap (λ r. backward es ++ by_order r ((k, v) ∷ e ∷ []) ((e.0, v) ∷ []) (e ∷ (k, v) ∷ [])) (o.antisymm e.0 k ∙ ap ordering_reverse h)
        | Greater ↦ λ h.
            put_before k v e (backward es) (o.antisymm e.0 k ∙ ap ordering_reverse h)
            ∙ ap (λ l. l ++ e ∷ []) (put-backward k v es (second (below_all R e.0 es) (is_sorted R es) s))
      ] refl
    where
      sorted : T (below_all R e.0 es)
      sorted = first (below_all R e.0 es) (is_sorted R es) s

  keyed-backward : (key : X → K) (xs : List X) → keyed (flip_args R) key xs ≡ backward (keyed R key xs)
  keyed-backward key [] = refl
  keyed-backward key (x ∷ xs) = ap (put (flip_args R) (key x) x) (keyed-backward key xs) ∙ put-backward (key x) x (keyed R key xs) (is_sorted-keyed o key xs)

  pub in_order-backward : (key : X → K) (xs : List X) → in_order (flip_args R) key xs ≡ backward (in_order R key xs)
  in_order-backward key xs = ap (map (λ e. e.1)) (keyed-backward key xs) ∙ map-backward (λ e. e.1) (keyed R key xs)

-- The first of the entries above a key is the one that is taken from them.
use Rattle.std.specs.Prelude.{MatchOption}
use Rattle.std.proofs.Common.{◌≡◌, true, cond, ◌&&◌, List, [], ◌∷◌, Option, Some, None, option_map, filter, refl, sym, ap}
use Rattle.std.specs.Ordering.{is_lt}
use Rattle.std.specs.declared.cmp.Ordering.{Ordering}
use Rattle.fsl_order.proofs.Booleans.{and_true}
use Rattle.fsl_table.specs.Contents.{entries_after, first_of}

pub first_taken : {X Y : Type 0} (seen : X → Y) (r : Option X) (ys left : List Y) → MatchOption r ((ys ≡ []) × (left ≡ [])) (λ x. ys ≡ seen x ∷ left) → option_map seen r ≡ first_of ys
first_taken seen None ys left h = sym (ap first_of h.0)
first_taken seen (Some x) ys left h = sym (ap first_of h)

-- no end is set above
pub after_open : {K X : Type 0} (R : K → K → Ordering) (k : K) (es : List (K × X)) → filter (λ e. is_lt (R k e.0) && true) es ≡ entries_after R k es
after_open R k [] = refl
after_open R k (e ∷ es) = λ i. cond (and_true (is_lt (R k e.0)) i) (e ∷ after_open R k es i) (after_open R k es i)

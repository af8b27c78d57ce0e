-- The posts whose chains lead to one.
use Rattle.std.specs.Prelude.{◌≡◌, ◌+◌, ◌⊎◌, ◌||◌, ℕ, List, [], ◌∷◌, true, false, Option, Some, None, if◌then◌else◌, map, length, unwrap_or}
use Rattle.std.specs.Option.{option_map_or}
use Rattle.std.specs.Str.{bytes_eq}
use Rattle.fsl_order.specs.Names.{bytes_cmp, has}
use Rattle.fsl_order.specs.Rows.{steps_on}
use Rattle.fsl_table.specs.Contents.{value_at}
use Rattle.fsl_table.specs.Pairs.{seconds}
use Rattle.fsl_forum.specs.declared.Fact.{Fact}
use Rattle.fsl_forum.specs.Held.{AreOf, Ends, Pairs}
use Rattle.fsl_forum.specs.Threads.{post, next, next_of, end}

-- each of the names leads to the root, by any step that goes from each follower but the root to the one that it follows
abbrev pub AreLed : Pairs → List ℕ → List (List ℕ) → Type 0
AreLed followers root names =
    (go : List ℕ → Option (List ℕ)) → ((x y : List ℕ) → bytes_eq x root ≡ false → has (seconds y followers) x ≡ true → go x ≡ Some y)
    → (x : List ℕ) → has names x ≡ true → (n : ℕ) × (steps_on go x n ≡ Some root)

-- the names are the root and all that lead to it
pub record IsReached (followers : Pairs) (root : List ℕ) (names : List (List ℕ)) : Type 0 where
  pub own : has names root ≡ true
  pub led : AreLed followers root names
  pub closed : (x y : List ℕ) → has (seconds y followers) x ≡ true → has names y ≡ true → has names x ≡ true

-- the root, and the followers that there are
abbrev pub extent : List ℕ → Pairs → List (List ℕ × Unit {0})
extent root followers = (root, tt) ∷ map (λ e. (unwrap_or e.0.second [], tt)) followers

-- so far the names are the root and some that lead to it; the followers of those that wait are still to be seen
pub record IsReaching (followers : Pairs) (root : List ℕ) (seen waiting : List (List ℕ)) : Type 0 where
  pub own : has seen root ≡ true
  pub led : AreLed followers root seen
  pub closed : (x y : List ℕ) → has (seconds y followers) x ≡ true → has seen y ≡ true → (has seen x ≡ true) ⊎ (has waiting y ≡ true)
  pub waits : (x : List ℕ) → has waiting x ≡ true → has seen x ≡ true

-- names were seen, and those of them that are new wait
pub record IsVisited (names seen waiting after more : List (List ℕ)) : Type 0 where
  pub are : (q : List ℕ) → has after q ≡ (has names q || has seen q)
  pub new : (q : List ℕ) → has after q ≡ true → (has seen q ≡ true) ⊎ (has more q ≡ true)
  pub stays : (q : List ℕ) → has waiting q ≡ true → has more q ≡ true
  pub within : (q : List ℕ) → has more q ≡ true → (has waiting q ≡ true) ⊎ (has names q ≡ true)
  pub balance : length more + length seen ≡ length waiting + length after

-- where what may be there stands in the list
abbrev pub stands : List (List ℕ) → Option (List ℕ) → Option (List ℕ) → Option (List ℕ)
stands names None near = near
stands names (Some y) near = if has names y then None else near

-- the end of the chain that goes on at what may be there, else the post itself
abbrev pub end_above : Ends → List ℕ → Option (List ℕ) → Option (List ℕ)
end_above ends name up = option_map_or (λ y. value_at bytes_cmp y ends) up (Some name)

-- the names are all that lead to the post; or it alone, where it neither has nor gets an end
abbrev pub AreAffected : Pairs → Ends → List ℕ → Option (List ℕ) → List (List ℕ) → Type 0
AreAffected followers ends name near names =
    IsReached followers name names ⊎ ((names ≡ name ∷ []) × (near ≡ None) × (value_at bytes_cmp name ends ≡ None))

-- a post of this name with this next post gives the names this end, and no other name another
pub record IsStep (facts : List Fact) (name : List ℕ) (up : Option (List ℕ)) (names : List (List ℕ)) (found : Option (List ℕ)) : Type 0 where
  pub own : has names name ≡ true
  pub ends : (f : Fact) (now : List Fact) → f.name ≡ name → next f ≡ up → ((x : List ℕ) → post now x ≡ (if bytes_eq x name then Some f else post facts x))
      → (x : List ℕ) → end now x ≡ (if has names x then found else end facts x)

-- by these pairs and ends, a post of this name with this next post gives the names this end, and no other name another
abbrev pub IsPlanned : Pairs → Ends → List ℕ → Option (List ℕ) → List (List ℕ) → Option (List ℕ) → Type 0
IsPlanned followers ends name up names found =
    (facts : List Fact) → AreOf (next_of facts) followers → ((x : List ℕ) → value_at bytes_cmp x ends ≡ end facts x) → IsStep facts name up names found

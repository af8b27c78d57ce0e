-- How many files and how many notices a reply takes.
use Rattle.std.proofs.Common.{◌≡◌, ℕ, ◌+◌, ◌-◌, ◌≤◌, min, Bool, true, cond, List, [], ◌∷◌, ◌++◌, length, take, drop, refl, sym, ap, ◌∙◌, ⊎_elim, arith}
use Rattle.std.specs.Prelude.{flat_map, nat_le, sum_by}
use Rattle.std.proofs.lemmas.Bool.{cases_lt}
use Rattle.std.proofs.lemmas.List.{take_all}
use Rattle.fsl_answer.specs.Replies.{taken, taken_after}

-- ---- the budget

abbrev spent : List ℕ → ℕ → ℕ
spent sizes i = sum_by (λ size. size + 64) (take i sizes)

shut_budget : (sum : ℕ) → 1000000 ≤ sum → nat_le 1000000 sum ≡ true
shut_budget sum h = grind (arith, h)

none_taken : (sum : ℕ) (sizes : List ℕ) → nat_le 1000000 sum ≡ true → taken_after sum sizes ≡ 0
none_taken sum [] h = refl
none_taken sum (size ∷ sizes) h = ap (λ (b : Bool). cond b 0 (1 + taken_after (sum + size + 64) sizes)) h

-- nothing is left
pub stops : (sizes : List ℕ) (i left : ℕ) → taken sizes ≡ i + taken_after (spent sizes i) (drop i sizes) → left ≡ 1000000 - spent sizes i → left ≡ 0 → i ≡ taken sizes
stops sizes i left so is none =
    let step = none_taken (spent sizes i) (drop i sizes) (shut_budget (spent sizes i) (omega (arith, is, none))) in
    omega (arith, so, step)

-- ---- notices

few : (xs : List (List ℕ)) (n m : ℕ) → n ≡ min (length xs) m → take n xs ≡ take m xs
few xs n m e =
    ⊎_elim
    (λ lt. let same : n ≡ length xs = omega (arith, e, lt) in take_all n xs (omega (arith, same)) ∙ sym (take_all m xs (omega (arith, lt))))
    (λ le. let same : n ≡ m = omega (arith, e, le) in ap (λ (k : ℕ). take k xs) same)
    (cases_lt (length xs) m)

pub notices_taken : (old into : List ℕ) (xs : List (List ℕ)) (n i : ℕ) (line : List ℕ → List ℕ) → n ≡ min (length xs) 100 → length (take n xs) ≤ i → into ≡ old ++ flat_map line (take i (take n xs))
    → into ≡ old ++ flat_map line (take 100 xs)
notices_taken old into xs n i line e past so =
    so ∙ ap (λ (ys : List (List ℕ)). old ++ flat_map line ys) (take_all i (take n xs) past ∙ few xs n 100 e)

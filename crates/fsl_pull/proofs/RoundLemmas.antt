-- Rounds that go on, with one more behind them, and what two lists of the same replies come to.
use Rattle.std.specs.Prelude.{◌≡◌, ◌+◌, ◌⊎◌, List, [], ◌∷◌, ◌++◌, length}
use Rattle.std.proofs.Common.{refl, sym, ap, subst, ◌∙◌, inl, inr, arith, length-append}
use Rattle.fsl_record.specs.declared.Record.{Record}
use Rattle.fsl_pull.specs.Rounds.{Round, Point, End, Then, goes_on, ends, Course, GoOn, EndsIn, IsSync}
use Rattle.fsl_pull.specs.Turns.{commits_of}
use Rattle.fsl_pull.proofs.OneEnd.{IsDecided}

module _ {M Q A : Type 0} (R : Course M Q A) where
  -- one round more that goes on, and one that is the end
  pub go_behind : (p : Point M) (rounds : List (Round Q A)) (q m : Point M) (r : Round Q A) → GoOn R p rounds q → R q r (goes_on m) → GoOn R p (rounds ++ r ∷ []) m
  go_behind p [] q m r h k = (m, subst (λ (x : Point M). R x r (goes_on m)) h k, refl)
  go_behind p (s ∷ rounds) q m r h k = (h.0, h.1, go_behind h.0 rounds q m r h.2 k)

  pub end_behind : (p : Point M) (rounds : List (Round Q A)) (q : Point M) (e : End) (r : Round Q A) → GoOn R p rounds q → R q r (ends e) → EndsIn R p (rounds ++ r ∷ []) e
  end_behind p [] q e r h k = inl (refl, subst (λ (x : Point M). R x r (ends e)) h k)
  end_behind p (s ∷ rounds) q e r h k = inr (h.0, h.1, end_behind h.0 rounds q e r h.2 k)

pub length_behind : {X : Type 0} (xs : List X) (x : X) → length (xs ++ x ∷ []) ≡ length xs + 1
length_behind xs x = length-append xs (x ∷ [])

-- what stands before the last one
rest_is : {X : Type 0} (a b : X) (xs ys : List X) → a ∷ xs ≡ b ∷ ys → (a ≡ b) × (xs ≡ ys)
rest_is a b xs ys e = (cc, cc)

pub fronts_are : {X : Type 0} (xs ys : List X) (x y : X) → xs ++ x ∷ [] ≡ ys ++ y ∷ [] → ys ≡ xs
fronts_are [] [] x y e = refl
fronts_are {X} [] (b ∷ ys) x y e = absurd (omega (arith, ap (λ (zs : List X). length zs) e, length_behind ys y))
fronts_are {X} (a ∷ xs) [] x y e = absurd (omega (arith, ap (λ (zs : List X). length zs) e, length_behind xs x))
fronts_are (a ∷ xs) (b ∷ ys) x y e =
    let k = rest_is a b (xs ++ x ∷ []) (ys ++ y ∷ []) e in
    let more = fronts_are xs ys x y k.1 in λ i. sym k.0 i ∷ more i

-- the commits that rounds come to from a point: those of their end, or of rounds that all went on
abbrev pub CommitsFrom : {M Q A : Type 0} → Course M Q A → Point M → List (Round Q A) → List (List Record) → Type 0
CommitsFrom {M} R p rounds commits =
    ((e : End) × IsSync R p rounds e × (commits ≡ e.commits)) ⊎ ((q : Point M) × GoOn R p rounds q × (commits ≡ q.commits))

point_is : {M : Type 0} (p q : Point M) → goes_on q ≡ goes_on p → q ≡ p
point_is p q h = cc

not_end : {M : Type 0} (e : End) (p : Point M) → ends e ≡ goes_on p → ⊥
not_end e p h = cc

module _ {M Q A : Type 0} (R : Course M Q A) (one : IsDecided R) where
  step_is : (p : Point M) (r : Round Q A) (a b : Then M) → R p r a → R p r b → b ≡ a
  step_is p r a b h k = one p r r a b refl h k

  -- the same rounds go on to one point
  pub go_one : (p : Point M) (rounds : List (Round Q A)) (a b : Point M) → GoOn R p rounds a → GoOn R p rounds b → b ≡ a
  go_one p [] a b h k = k ∙ sym h
  go_one p (r ∷ rounds) a b h k =
      go_one h.0 rounds a b h.2 (subst (λ (m : Point M). GoOn R m rounds b) (point_is h.0 k.0 (step_is p r (goes_on h.0) (goes_on k.0) h.1 k.1)) k.2)

  -- rounds that go on have no end
  go_endless : (p : Point M) (rounds : List (Round Q A)) (a : Point M) (e : End) → GoOn R p rounds a → EndsIn R p rounds e → ⊥
  go_endless p [] a e h k = k
  go_endless p (r ∷ rounds) a e h (inl k) = not_end e h.0 (step_is p r (goes_on h.0) (ends e) h.1 k.1)
  go_endless p (r ∷ rounds) a e h (inr k) =
      go_endless h.0 rounds a e h.2 (subst (λ (m : Point M). EndsIn R m rounds e) (point_is h.0 k.0 (step_is p r (goes_on h.0) (goes_on k.0) h.1 k.1)) k.2)

  -- behind rounds that go on the last one is the end or goes on
  end_last : (p : Point M) (rounds : List (Round Q A)) (a : Point M) (r : Round Q A) (e : End) → GoOn R p rounds a → EndsIn R p (rounds ++ r ∷ []) e → R a r (ends e)
  end_last p [] a r e h (inl k) = subst (λ (m : Point M). R m r (ends e)) (sym h) k.1
  end_last p [] a r e h (inr k) = absurd k.2
  end_last p (s ∷ rounds) a r e h (inl k) = absurd (not_end e h.0 (step_is p s (goes_on h.0) (ends e) h.1 k.1))
  end_last p (s ∷ rounds) a r e h (inr k) =
      end_last h.0 rounds a r e h.2 (subst (λ (m : Point M). EndsIn R m (rounds ++ r ∷ []) e) (point_is h.0 k.0 (step_is p s (goes_on h.0) (goes_on k.0) h.1 k.1)) k.2)

  go_last : (p : Point M) (rounds : List (Round Q A)) (a : Point M) (r : Round Q A) (q : Point M) → GoOn R p rounds a → GoOn R p (rounds ++ r ∷ []) q → R a r (goes_on q)
  go_last p [] a r q h k = subst (λ (m : Point M). R m r (goes_on q)) (sym h) (subst (λ (m : Point M). R p r (goes_on m)) (sym k.2) k.1)
  go_last p (s ∷ rounds) a r q h k =
      go_last h.0 rounds a r q h.2 (subst (λ (m : Point M). GoOn R m (rounds ++ r ∷ []) q) (point_is h.0 k.0 (step_is p s (goes_on h.0) (goes_on k.0) h.1 k.1)) k.2)

  -- the commits of rounds that go on are those of the point behind them
  pub front_commits : (p : Point M) (rounds : List (Round Q A)) (a : Point M) (commits : List (List Record)) → GoOn R p rounds a → CommitsFrom R p rounds commits → commits ≡ a.commits
  front_commits p rounds a commits h (inl (e, inl k, is)) = absurd (go_endless p rounds a e h k.1)
  front_commits p rounds a commits h (inl (e, inr k, is)) =
      is ∙ ap (λ (x : End). x.commits) k.1.2 ∙ ap (λ (m : Point M). m.commits) (go_one p rounds a k.1.0 h k.1.1)
  front_commits p rounds a commits h (inr (q, k, is)) = is ∙ ap (λ (m : Point M). m.commits) (go_one p rounds a q h k)

  -- the commits of such rounds and one more are those of its step
  pub step_commits : (p : Point M) (rounds : List (Round Q A)) (a : Point M) (r : Round Q A) (commits : List (List Record)) → GoOn R p rounds a → CommitsFrom R p (rounds ++ r ∷ []) commits → (step : Then M) × R a r step × (commits ≡ commits_of step)
  step_commits p rounds a r commits h (inl (e, inl k, is)) = (ends e, end_last p rounds a r e h k.1, is)
  step_commits p rounds a r commits h (inl (e, inr k, is)) = (goes_on k.1.0, go_last p rounds a r k.1.0 h k.1.1, is ∙ ap (λ (x : End). x.commits) k.1.2)
  step_commits p rounds a r commits h (inr (q, k, is)) = (goes_on q, go_last p rounds a r q h k, is)

  -- where the step is known, they are its own
  pub known_commits : (p : Point M) (rounds : List (Round Q A)) (a : Point M) (r : Round Q A) (step : Then M) (commits : List (List Record)) → GoOn R p rounds a → R a r step → CommitsFrom R p (rounds ++ r ∷ []) commits → commits ≡ commits_of step
  known_commits p rounds a r step commits h k from =
      let last = step_commits p rounds a r commits h from in last.2 ∙ ap commits_of (step_is a r step last.0 k last.1)

-- How the names that lead to one are found, each once.
use mathlib.Core.Bool.{true≢false}
use Rattle.std.specs.Prelude.{◌≡◌, ◌⊎◌, ℕ, suc, ◌+◌, ◌-◌, ◌<◌, ◌≤◌, List, [], ◌∷◌, ◌++◌, Bool, true, false, ◌||◌, cond, if◌then◌else◌, Option, Some, None, is_some, unwrap_or, option_and_then, map, take, get_or, length}
use Rattle.std.proofs.Common.{refl, sym, ap, ◌∙◌, subst, arith, inl, inr, ⊎_elim}
use Rattle.std.specs.Str.{bytes_eq}
use Rattle.std.specs.List.Sorted.{IsStrictlySortedBy}
use Rattle.std.specs.Ordering.{is_eq}
use Rattle.std.specs.Cmp.{eq_by_cmp_equiv}
use Rattle.std.specs.Cmp.Lexicographic.{bytes_decides, texts_ties, nat_list_eq_equiv}
use Rattle.std.proofs.lemmas.List.{take_more}
use Rattle.std.proofs.lemmas.List.Folds.{list_any-append}
use Rattle.std.proofs.Math.ListN.{length-map}
use Rattle.std.proofs.lemmas.Map.Keys.{IsDistinct-from_sorted}
use Rattle.std.proofs.lemmas.Map.Steps.{length-le_from_keys}
use Rattle.std.proofs.lemmas.Bool.{or_cases, or_left, or_right}
use Rattle.fsl_order.specs.Names.{bytes_cmp, has}
use Rattle.fsl_order.specs.Rows.{steps_on}
use Rattle.fsl_order.proofs.Orders.{bytes_cmp-IsTotalOrder}
use Rattle.fsl_order.proofs.Walks.{steps_on-first}
use Rattle.fsl_order.proofs.Booleans.{or_false}
use Rattle.fsl_table.specs.declared.key.Pair.{Pair}
use Rattle.fsl_table.specs.Contents.{value_at}
use Rattle.fsl_table.specs.Pairs.{put_first, seconds}
use Rattle.fsl_table.proofs.Noting.{has-contains}
use Rattle.fsl_forum.specs.Reached.{AreLed, IsReached, IsReaching, IsVisited, extent}

has-last : (names : List (List ℕ)) (name q : List ℕ) → has (names ++ name ∷ []) q ≡ (has names q || bytes_eq q name)
has-last names name q = list_any-append (bytes_eq q) names (name ∷ []) ∙ ap (λ b. has names q || b) (or_false (bytes_eq q name))

length-last : (xs : List (List ℕ)) (x : List ℕ) → length (xs ++ x ∷ []) ≡ length xs + 1
length-last [] x = refl
length-last (y ∷ xs) x = let h = length-last xs x in omega (arith, h)

-- ---- one name is visited

pub visited-seen : (name : List ℕ) (seen waiting : List (List ℕ)) → has seen name ≡ true → IsVisited (name ∷ []) seen waiting seen waiting
visited-seen name seen waiting there = record {
  are = λ q. sym (ap (λ b. b || has seen q) (or_false (bytes_eq q name)) ∙ elim (bytes_eq q name) as (λ b. bytes_eq q name ≡ b → (b || has seen q) ≡ has seen q) [
    | true ↦ λ h. sym (ap (has seen) ((bytes_decides q name).0 h) ∙ there)
    | false ↦ λ _. refl
  ] refl);
  new = λ q h. inl h;
  stays = λ q h. h;
  within = λ q h. inl h;
  balance = omega arith;
}

pub visited-new : (name : List ℕ) (seen waiting after more : List (List ℕ)) → ((q : List ℕ) → has after q ≡ (bytes_eq q name || has seen q)) → more ≡ waiting ++ name ∷ [] → length after ≡ length seen + 1
    → IsVisited (name ∷ []) seen waiting after more
visited-new name seen waiting after more put last longer =
    let ends : (q : List ℕ) → has more q ≡ (has waiting q || bytes_eq q name) = λ q. ap (λ l. has l q) last ∙ has-last waiting name q in
    let long : length more ≡ length waiting + 1 = ap length last ∙ length-last waiting name in
    record {
      are = λ q. put q ∙ ap (λ b. b || has seen q) (sym (or_false (bytes_eq q name)));
      new = λ q h. ⊎_elim {C = (has seen q ≡ true) ⊎ (has more q ≡ true)}
          (λ (e : bytes_eq q name ≡ true). inr (ends q ∙ or_right (has waiting q) (bytes_eq q name) e)) (λ (e : has seen q ≡ true). inl e)
          (or_cases (bytes_eq q name) (has seen q) (sym (put q) ∙ h));
      stays = λ q h. ends q ∙ or_left (has waiting q) (bytes_eq q name) h;
      within = λ q h. ⊎_elim {C = (has waiting q ≡ true) ⊎ (has (name ∷ []) q ≡ true)}
          (λ (e : has waiting q ≡ true). inl e) (λ (e : bytes_eq q name ≡ true). inr (or_left (bytes_eq q name) false e))
          (or_cases (has waiting q) (bytes_eq q name) (sym (ends q) ∙ h));
      balance = omega (arith, long, longer);
    }

-- ---- several names

pub visited-none : (seen waiting : List (List ℕ)) → IsVisited [] seen waiting seen waiting
visited-none seen waiting = record { are = λ q. refl; new = λ q h. inl h; stays = λ q h. h; within = λ q h. inl h; balance = omega arith }

or-assoc : (a b c : Bool) → (b || (a || c)) ≡ ((a || b) || c)
or-assoc true true c = refl
or-assoc true false c = refl
or-assoc false b c = refl

pub visited-more : (names : List (List ℕ)) (name : List ℕ) (seen waiting mid most after more : List (List ℕ)) → IsVisited names seen waiting mid most → IsVisited (name ∷ []) mid most after more
    → IsVisited (names ++ name ∷ []) seen waiting after more
visited-more names name seen waiting mid most after more v w = record {
  are = λ q. w.are q ∙ (λ i. (or_false (bytes_eq q name) i || v.are q i)) ∙ or-assoc (has names q) (bytes_eq q name) (has seen q) ∙ ap (λ b. b || has seen q) (sym (has-last names name q));
  new = λ q h. ⊎_elim {C = (has seen q ≡ true) ⊎ (has more q ≡ true)}
      (λ (e : has mid q ≡ true). ⊎_elim {C = (has seen q ≡ true) ⊎ (has more q ≡ true)} (λ (f : has seen q ≡ true). inl f) (λ (f : has most q ≡ true). inr (w.stays q f)) (v.new q e))
      (λ (e : has more q ≡ true). inr e)
      (w.new q h);
  stays = λ q h. w.stays q (v.stays q h);
  within = λ q h. ⊎_elim {C = (has waiting q ≡ true) ⊎ (has (names ++ name ∷ []) q ≡ true)}
      (λ (e : has most q ≡ true). ⊎_elim {C = (has waiting q ≡ true) ⊎ (has (names ++ name ∷ []) q ≡ true)}
      (λ (f : has waiting q ≡ true). inl f) (λ (f : has names q ≡ true). inr (has-last names name q ∙ or_left (has names q) (bytes_eq q name) f)) (v.within q e))
      (λ (e : has (name ∷ []) q ≡ true). inr (has-last names name q ∙ or_right (has names q) (bytes_eq q name) (sym (or_false (bytes_eq q name)) ∙ e)))
      (w.within q h);
  balance = omega (arith, v.balance, w.balance);
}

pub visited-next : (names : List (List ℕ)) (i : ℕ) (name : List ℕ) (seen waiting mid most after more : List (List ℕ)) → i < length names → name ≡ get_or names i name
    → IsVisited (take i names) seen waiting mid most → IsVisited (name ∷ []) mid most after more → IsVisited (take (i + 1) names) seen waiting after more
visited-next names i name seen waiting mid most after more within is v w =
    subst (λ l. IsVisited l seen waiting after more) (sym (take_more names i name within ∙ ap (λ n. take i names ++ n ∷ []) (sym is))) (visited-more (take i names) name seen waiting mid most after more v w)

-- ---- the followers of one that waited

module _ (followers : List (Pair × Unit {0})) (root : List ℕ) where
  -- the root is seen first
  pub reaching-begins : (seen waiting after more : List (List ℕ)) → ((q : List ℕ) → has seen q ≡ false) → ((q : List ℕ) → has waiting q ≡ false) → IsVisited (root ∷ []) seen waiting after more → IsReaching followers root after more
  reaching-begins seen waiting after more none idle v =
      let only : (q : List ℕ) → has after q ≡ true → q ≡ root = λ q h.
      (bytes_decides q root).0 (⊎_elim {C = bytes_eq q root ≡ true} (λ (e : has (root ∷ []) q ≡ true). sym (or_false (bytes_eq q root)) ∙ e) (λ (e : has seen q ≡ true). absurd (true≢false (sym e ∙ none q))) (or_cases (has (root ∷ []) q) (has seen q) (sym (v.are q) ∙ h))) in
      let own : has after root ≡ true = v.are root ∙ or_left (has (root ∷ []) root) (has seen root) (or_left (bytes_eq root root) false (nat_list_eq_equiv.refl root)) in
      record {
        own = own;
        led = λ go step x h. (0, ap (λ (y : List ℕ). Some y) (only x h));
        closed = λ x y k h. ⊎_elim {C = (has after x ≡ true) ⊎ (has more y ≡ true)} (λ (e : has seen y ≡ true). absurd (true≢false (sym e ∙ none y))) (λ (e : has more y ≡ true). inr e) (v.new y h);
        waits = λ x h. ⊎_elim {C = has after x ≡ true} (λ (e : has waiting x ≡ true). absurd (true≢false (sym e ∙ idle x))) (λ (e : has (root ∷ []) x ≡ true). v.are x ∙ or_left (has (root ∷ []) x) (has seen x) e) (v.within x h);
      }

  module _ (at : List ℕ) (seen waiting old after more : List (List ℕ)) (cut : old ≡ waiting ++ at ∷ []) (r : IsReaching followers root seen old) (v : IsVisited (seconds at followers) seen waiting after more) where
    old-is : (q : List ℕ) → has old q ≡ (has waiting q || bytes_eq q at)
    old-is q = ap (λ l. has l q) cut ∙ has-last waiting at q

    still : (q : List ℕ) → has seen q ≡ true → has after q ≡ true
    still q h = v.are q ∙ or_right (has (seconds at followers) q) (has seen q) h

    at-seen : has seen at ≡ true
    at-seen = r.waits at (old-is at ∙ or_right (has waiting at) (bytes_eq at at) (nat_list_eq_equiv.refl at))

    led-next : AreLed followers root after
    led-next go step x h =
        elim (has seen x) as (λ b. has seen x ≡ b → (n : ℕ) × (steps_on go x n ≡ Some root)) [
          | true ↦ λ s. r.led go step x s
          | false ↦ λ s.
              let kid : has (seconds at followers) x ≡ true = sym (or_false (has (seconds at followers) x)) ∙ ap (λ b. has (seconds at followers) x || b) (sym s) ∙ sym (v.are x) ∙ h in
              let other : bytes_eq x root ≡ false = elim (bytes_eq x root) as (λ b. bytes_eq x root ≡ b → b ≡ false) [
                | true ↦ λ e. absurd (true≢false (sym (ap (has seen) ((bytes_decides x root).0 e) ∙ r.own) ∙ s))
                | false ↦ λ _. refl
              ] refl in
              let up = r.led go step at at-seen in
              (suc up.0, steps_on-first go x up.0 ∙ ap (option_and_then (λ y. steps_on go y up.0)) (step x at other kid) ∙ up.1)
        ] refl

    closed-old : (x y : List ℕ) → has (seconds y followers) x ≡ true → has old y ≡ true → (has after x ≡ true) ⊎ (has more y ≡ true)
    closed-old x y k h =
        ⊎_elim {C = (has after x ≡ true) ⊎ (has more y ≡ true)}
        (λ (e : has waiting y ≡ true). inr (v.stays y e))
        (λ (e : bytes_eq y at ≡ true). inl (v.are x ∙ or_left (has (seconds at followers) x) (has seen x) (ap (λ z. has (seconds z followers) x) (sym ((bytes_decides y at).0 e)) ∙ k)))
        (or_cases (has waiting y) (bytes_eq y at) (sym (old-is y) ∙ h))

    pub reaching-next : IsReaching followers root after more
    reaching-next = record {
      own = still root r.own;
      led = led-next;
      closed = λ x y k h. ⊎_elim {C = (has after x ≡ true) ⊎ (has more y ≡ true)}
          (λ (e : has seen y ≡ true). ⊎_elim {C = (has after x ≡ true) ⊎ (has more y ≡ true)} (λ (f : has seen x ≡ true). inl (still x f)) (λ (f : has old y ≡ true). closed-old x y k f) (r.closed x y k e))
          (λ (e : has more y ≡ true). inr e)
          (v.new y h);
      waits = λ x h. ⊎_elim {C = has after x ≡ true}
          (λ (e : has waiting x ≡ true). still x (r.waits x (old-is x ∙ or_left (has waiting x) (bytes_eq x at) e)))
          (λ (e : has (seconds at followers) x ≡ true). v.are x ∙ or_left (has (seconds at followers) x) (has seen x) e)
          (v.within x h);
    }

  -- none waits
  pub reaching-ends : (seen waiting : List (List ℕ)) → waiting ≡ [] → IsReaching followers root seen waiting → IsReached followers root seen
  reaching-ends seen waiting none r = record {
    own = r.own;
    led = r.led;
    closed = λ x y k h. ⊎_elim {C = has seen x ≡ true} (λ (e : has seen x ≡ true). e) (λ (e : has waiting y ≡ true). absurd (true≢false (sym e ∙ ap (λ l. has l y) none))) (r.closed x y k h);
  }

-- ---- there are no more to be seen than there are pairs

abbrev rest : List (Pair × Unit {0}) → List (List ℕ × Unit {0})
rest followers = map (λ e. (unwrap_or e.0.second [], tt)) followers

found : {X : Type 0} (b : Bool) (v : X) (r : Option X) → (b ≡ true) ⊎ (is_some r ≡ true) → is_some (cond b (Some v) r) ≡ true
found true v r s = refl
found false v r (inl s) = absurd (true≢false (sym s))
found false v r (inr s) = s

pick : (q : List ℕ) (b : Bool) (s : Option (List ℕ)) (ks : List (List ℕ)) → has (put_first (if b then s else None) ks) q ≡ true → (bytes_eq q (unwrap_or s []) ≡ true) ⊎ (has ks q ≡ true)
pick q false s ks h = inr h
pick q true None ks h = inr h
pick q true (Some c) ks h = or_cases (bytes_eq q c) (has ks q) h

named-second : (p q : List ℕ) (es : List (Pair × Unit {0})) → has (seconds p es) q ≡ true → is_some (value_at bytes_cmp q (rest es)) ≡ true
named-second p q [] h = absurd (true≢false (sym h))
named-second p q (e ∷ es) h =
    found (is_eq (bytes_cmp q (unwrap_or e.0.second []))) tt (value_at bytes_cmp q (rest es))
    (⊎_elim {C = (is_eq (bytes_cmp q (unwrap_or e.0.second [])) ≡ true) ⊎ (is_some (value_at bytes_cmp q (rest es)) ≡ true)}
    (λ (a : bytes_eq q (unwrap_or e.0.second []) ≡ true). inl (sym (texts_ties q (unwrap_or e.0.second [])) ∙ a))
    (λ (k : has (seconds p es) q ≡ true). inr (named-second p q es k))
    (pick q (bytes_eq e.0.first p) e.0.second (seconds p es) h))

abbrev AreKnown : List ℕ → List (Pair × Unit {0}) → List (List ℕ) → Type 0
AreKnown root followers seen = (q : List ℕ) → has seen q ≡ true → is_some (value_at bytes_cmp q (extent root followers)) ≡ true

module _ (root : List ℕ) (followers : List (Pair × Unit {0})) where
  pub known-begins : (seen waiting after more : List (List ℕ)) → ((q : List ℕ) → has seen q ≡ false) → IsVisited (root ∷ []) seen waiting after more → AreKnown root followers after
  known-begins seen waiting after more none v q h =
      found (is_eq (bytes_cmp q root)) tt (value_at bytes_cmp q (rest followers))
      (inl (sym (texts_ties q root) ∙ ⊎_elim {C = bytes_eq q root ≡ true} (λ (e : has (root ∷ []) q ≡ true). sym (or_false (bytes_eq q root)) ∙ e) (λ (e : has seen q ≡ true). absurd (true≢false (sym e ∙ none q))) (or_cases (has (root ∷ []) q) (has seen q) (sym (v.are q) ∙ h))))

  pub known-next : (at : List ℕ) (seen waiting after more : List (List ℕ)) → AreKnown root followers seen → IsVisited (seconds at followers) seen waiting after more → AreKnown root followers after
  known-next at seen waiting after more known v q h =
      ⊎_elim {C = is_some (value_at bytes_cmp q (extent root followers)) ≡ true}
      (λ (e : has (seconds at followers) q ≡ true). found (is_eq (bytes_cmp q root)) tt (value_at bytes_cmp q (rest followers)) (inr (named-second at q followers e)))
      (λ (e : has seen q ≡ true). known q e)
      (or_cases (has (seconds at followers) q) (has seen q) (sym (v.are q) ∙ h))

  pub few : (seen : List (List ℕ)) → IsStrictlySortedBy bytes_cmp seen → AreKnown root followers seen → length seen ≤ 1 + length followers
  few seen rising known =
      let most = length-le_from_keys (eq_by_cmp_equiv bytes_cmp-IsTotalOrder) seen (extent root followers) (IsDistinct-from_sorted bytes_cmp seen rising) (λ q h. known q (has-contains seen q ∙ h)) in
      let long : length (rest followers) ≡ length followers = length-map followers (λ e. (unwrap_or e.0.second [], tt)) in
      omega (arith, most, long)

-- a name less waits, or is seen more
pub nearer : (names seen waiting old after more : List (List ℕ)) (at : List ℕ) (most : ℕ) → old ≡ waiting ++ at ∷ [] → IsVisited names seen waiting after more → length seen ≤ 1 + most → length after ≤ 1 + most
    → length more + (1 + most - length after) < length old + (1 + most - length seen)
nearer names seen waiting old after more at most cut v few then_few =
    let long : length old ≡ length waiting + 1 = ap length cut ∙ length-last waiting at in
    omega (arith, long, v.balance, few, then_few)

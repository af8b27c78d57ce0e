-- Each step of the keeper keeps the rule: it makes passes, takes them back, and opens and closes the table.
use Rattle.std.proofs.Common.{◌≡◌, ◌≢◌, ℕ, zero, suc, ◌+◌, ◌-◌, ◌*◌, ◌<◌, List, [], ◌∷◌, ◌++◌, map, length, set, Option as Maybe, Some, refl, sym, ap, ◌∙◌, subst, arith, length-append, length-set, ⊎_elim}
use mathlib.Core.Logic.{dite}
use mathlib.Core.Option.{Option, some, some-ne-none, some-injective}
use native.Mathlib.Decide.{ℕ_discrete}
use lib.ListN.{get_elem?}
use Rattle.atomic_table.specs.Table.{State, Me, Splits, Joins, Final, Seen, opening}
use Rattle.atomic_table.proofs.Lists.{set_else, set_here}
use Rattle.fsl_history.specs.declared.view.Tale.{Tale}
use Rattle.fsl_history.specs.declared.view.Stage.TheVariants.{Idle}
use Rattle.fsl_history.specs.declared.view.View.{View}
use Rattle.fsl_history.specs.declared.view.View.TheVariants.{Keeper, Pass, Spent}
use Rattle.fsl_history.specs.Entries.{Entry, IsTaleOf, AllTales, IsClosed, newcomer, shares_in}
use Rattle.fsl_history.specs.Rule.{most_turns, tale_in, Phase, home, total, lives, tickets, room, shares, IsTold, IsHomed, Knows, Ruled}
use Rattle.fsl_history.specs.Plays.{sat, after_issue, issued, gathered}
use Rattle.fsl_history.proofs.Lists.{total_set, total_snoc, total_none, at_end, at_front, at_inside, shares_in-snoc, views_set}
use Rattle.fsl_history.proofs.Beside.{holder_with, holder_with-here, holder_with-else, apart}

module _ {M E A : Type 0} (may : M → E → A → M → Type 0) (count : M → ℕ) (births : List (M × ℕ)) where
  abbrev V : Type 0
  V = View M E A

  abbrev St : Type 0
  St = State (Maybe M) V

  abbrev Rule : St → Type 0
  Rule = Ruled may count births

  abbrev P : Type 0
  P = Phase M E A

  -- what a seat knows, where one more pass is made
  know_issued : (log : List (Entry E A)) (most : ℕ) (holder : ℕ → ℕ) (phase : P) (made : ℕ) (seats seats' : ℕ → ℕ) → ((n : ℕ) → n < made → seats' n ≡ seats n) → (j : ℕ) (u : V)
      → Knows log most holder phase made seats j u → Knows log most holder phase (made + 1) seats' j u
  know_issued log most holder phase made seats seats' same j (Keeper m b) k = k
  know_issued log most holder phase made seats seats' same j (Pass t l st) k =
      let told = k.0 in
      let number = told.number in
      (record { number = omega arith; seat = same t.number number ∙ told.seat; tale = told.tale }, k.1)
  know_issued log most holder phase made seats seats' same j Spent k = tt

  abbrev made_of : V → ℕ
  made_of (Keeper m b) = m
  made_of (Pass t l st) = 0
  made_of Spent = 0

  abbrev back_of : V → List (Tale E A)
  back_of (Keeper m b) = b
  back_of (Pass t l st) = []
  back_of Spent = []

  pub issues : (made : ℕ) (back : List (Tale E A)) → made < 16 → Splits Rule 0 (Keeper made back) (Keeper (made + 1) back) (Pass (newcomer made) most_turns Idle)
  issues made back few s r at =
      let now : Keeper made back ≡ Keeper r.made r.back = some-injective (Keeper made back) (Keeper r.made r.back) (sym at ∙ r.keeping) in
      let made_is : made ≡ r.made = ap (λ (v : V). made_of v) now in
      let back_is : back ≡ r.back = ap (λ (v : V). back_of v) now in
      let v : V = Keeper made back in
      let w : V = Keeper (made + 1) back in
      let u : V = Pass (newcomer made) most_turns Idle in
      let front : List V = set s.views 0 w in
      let there : length s.views ≡ length front = sym (length-set s.views 0 w) in
      let id : ℕ = length s.views in
      let seats : ℕ → ℕ = holder_with made id r.seats in
      let some_tickets : total tickets front + 0 ≡ total tickets s.views + 0 = total_set tickets s.views 0 v w at in
      let some_room : total room front + (16 - made) * 288230376151711744 ≡ total room s.views + (16 - (made + 1)) * 288230376151711744 = total_set room s.views 0 v w at in
      let some_shares : total shares front + shares_in back ≡ total shares s.views + shares_in back = total_set shares s.views 0 v w at in
      let some_lives : total lives front + 0 ≡ total lives s.views + 0 = total_set lives s.views 0 v w at in
      let end_tickets : total tickets (front ++ u ∷ []) ≡ total tickets front + 0 = total_snoc tickets front u in
      let end_room : total room (front ++ u ∷ []) ≡ total room front + 288230376151711744 = total_snoc room front u in
      let end_shares : total shares (front ++ u ∷ []) ≡ total shares front + 0 = total_snoc shares front u in
      let end_lives : total lives (front ++ u ∷ []) ≡ total lives front + 1 = total_snoc lives front u in
      let waiting = r.waiting in
      let roomy = r.roomy in
      let shared = r.shared in
      let living = r.living in
      let same : (n : ℕ) → n < r.made → seats n ≡ r.seats n = λ n below. holder_with-else made id r.seats n (λ e. omega arith) in
      let inside : 0 < length s.views = at_inside s.views 0 v at in
      record {
        log = r.log;
        drawn = r.drawn;
        first = r.first;
        state = r.state;
        phase = r.phase;
        holder = r.holder;
        seats = seats;
        made = r.made + 1;
        back = r.back;
        born = r.born;
        begun = r.begun;
        words = r.words;
        history = r.history;
        homed = r.homed;
        free = r.free;
        waiting = omega arith;
        roomy = omega arith;
        shared = omega arith;
        few = omega arith;
        unmade = λ n le. r.unmade n (omega (arith, le));
        keeping = at_front front (u ∷ []) (Keeper (r.made + 1) r.back) (set_here s.views 0 w inside ∙ ap some (λ i. Keeper (made_is i + 1) (back_is i)));
        living = omega arith;
        returned = λ k t a. let told = r.returned k t a in let number = told.number in record { number = omega arith; seat = same t.number number ∙ told.seat; tale = told.tale };
        apart = r.apart;
        each_view = λ j x a.
            ⊎_elim
            (λ (b : get_elem? front j ≡ some x). views_set (Knows r.log r.drawn r.holder r.phase (r.made + 1) seats) s.views 0 w refl
            (λ i y _ c. know_issued r.log r.drawn r.holder r.phase r.made r.seats seats same i y (r.each_view i y c)) j x b)
            (λ (b : (j ≡ length front) × (u ≡ x)). subst (λ (y : ℕ × V). Knows r.log r.drawn r.holder r.phase (r.made + 1) seats y.0 y.1) (λ i. (sym b.0 i, b.1 i))
            (record { number = omega (arith, made_is); seat = holder_with-here made id r.seats made refl ∙ there; tale = record { seen = (r.log, refl); mine = r.unmade made (omega (arith, made_is)); own = refl } }, tt))
            (at_end front u x j a);
      }

  -- what a seat knows, where a pass came back
  know_gathered : (log : List (Entry E A)) (most : ℕ) (holder : ℕ → ℕ) (phase : P) (made : ℕ) (seats : ℕ → ℕ) (number other : ℕ) → seats number ≡ other → (j : ℕ) (u : V) → j ≢ other
      → Knows log most holder phase made seats j u → Knows log most holder phase made (holder_with number 0 seats) j u
  know_gathered log most holder phase made seats number other mine j (Keeper m b) apart k = k
  know_gathered log most holder phase made seats number other mine j (Pass t l st) apart k =
      let told = k.0 in
      (record { number = told.number; seat = holder_with-else number 0 seats t.number (λ e. apart (sym told.seat ∙ ap seats e ∙ mine)) ∙ told.seat; tale = told.tale }, k.1)
  know_gathered log most holder phase made seats number other mine j Spent apart k = tt

  still_back : (log : List (Entry E A)) (made : ℕ) (seats : ℕ → ℕ) (number : ℕ) (t : Tale E A) → IsTold log made seats 0 t → IsTold log made (holder_with number 0 seats) 0 t
  still_back log made seats number t told =
      record {
        number = told.number;
        seat = dite (ℕ_discrete t.number number) (λ e. holder_with-here number 0 seats t.number e) (λ ne. holder_with-else number 0 seats t.number ne ∙ told.seat);
        tale = told.tale;
      }

  pub gatherings : (made : ℕ) (back : List (Tale E A)) (other : ℕ) (t : Tale E A) (left : ℕ) → Joins Rule 0 (Keeper made back) other (Pass t left Idle) (Keeper made (back ++ t ∷ [])) Spent
  gatherings made back other t left s r at far_off at_other =
      let now : Keeper made back ≡ Keeper r.made r.back = some-injective (Keeper made back) (Keeper r.made r.back) (sym at ∙ r.keeping) in
      let made_is : made ≡ r.made = ap (λ (v : V). made_of v) now in
      let back_is : back ≡ r.back = ap (λ (v : V). back_of v) now in
      let v : V = Keeper made back in
      let w : V = Keeper made (back ++ t ∷ []) in
      let x : V = Pass t left Idle in
      let y : V = Spent in
      let front : List V = set s.views 0 w in
      let views : List V = set front other y in
      let there : get_elem? s.views other ≡ some x = sym (set_else s.views 0 other w far_off) ∙ at_other in
      let told = (r.each_view other x there).0 in
      let seats : ℕ → ℕ = holder_with t.number 0 r.seats in
      let t1 : total tickets front + 0 ≡ total tickets s.views + 0 = total_set tickets s.views 0 v w at in
      let t2 : total tickets views + 0 ≡ total tickets front + 0 = total_set tickets front other x y at_other in
      let r1 : total room front + (16 - made) * 288230376151711744 ≡ total room s.views + (16 - made) * 288230376151711744 = total_set room s.views 0 v w at in
      let r2 : total room views + left ≡ total room front + 0 = total_set room front other x y at_other in
      let s1 : total shares front + shares_in back ≡ total shares s.views + shares_in (back ++ t ∷ []) = total_set shares s.views 0 v w at in
      let s2 : total shares views + t.share ≡ total shares front + 0 = total_set shares front other x y at_other in
      let s3 : shares_in (back ++ t ∷ []) ≡ shares_in back + t.share = shares_in-snoc back t in
      let l1 : total lives front + 0 ≡ total lives s.views + 0 = total_set lives s.views 0 v w at in
      let l2 : total lives views + 1 ≡ total lives front + 0 = total_set lives front other x y at_other in
      let long : length (back ++ t ∷ []) ≡ length back + 1 = length-append back (t ∷ []) in
      let back_long : length back ≡ length r.back = ap (λ (l : List (Tale E A)). length l) back_is in
      let waiting = r.waiting in
      let roomy = r.roomy in
      let shared = r.shared in
      let living = r.living in
      let inside : 0 < length s.views = at_inside s.views 0 v at in
      record {
        log = r.log;
        drawn = r.drawn;
        first = r.first;
        state = r.state;
        phase = r.phase;
        holder = r.holder;
        seats = seats;
        made = r.made;
        back = back ++ t ∷ [];
        born = r.born;
        begun = r.begun;
        words = r.words;
        history = r.history;
        homed = r.homed;
        free = r.free;
        waiting = omega arith;
        roomy = omega arith;
        shared = omega arith;
        few = r.few;
        unmade = r.unmade;
        keeping = set_else front other 0 y (λ e. far_off (sym e)) ∙ set_here s.views 0 w inside ∙ ap (λ (n : ℕ). some (Keeper n (back ++ t ∷ []))) made_is;
        living = omega arith;
        returned = λ k u a.
            ⊎_elim
            (λ (b : get_elem? back k ≡ some u). still_back r.log r.made r.seats t.number u (r.returned k u (ap (λ (l : List (Tale E A)). get_elem? l k) (sym back_is) ∙ b)))
            (λ (b : (k ≡ length back) × (t ≡ u)). subst (λ (z : Tale E A). IsTold r.log r.made seats 0 z) b.1 (record { number = told.number; seat = holder_with-here t.number 0 r.seats t.number refl; tale = told.tale }))
            (at_end back t u k a);
        apart = λ i j x y p q same.
            let on_back : (k : ℕ) (u : Tale E A) → get_elem? back k ≡ some u → get_elem? r.back k ≡ some u = λ k u b. ap (λ (l : List (Tale E A)). get_elem? l k) (sym back_is) ∙ b in
            ⊎_elim
            (λ (a : get_elem? back i ≡ some x). ⊎_elim
            (λ (b : get_elem? back j ≡ some y). r.apart i j x y (on_back i x a) (on_back j y b) same)
            (λ (b : (j ≡ length back) × (t ≡ y)). absurd (far_off (sym told.seat ∙ ap r.seats (ap (λ (z : Tale E A). z.number) b.1 ∙ sym same) ∙ (r.returned i x (on_back i x a)).seat)))
            (at_end back t y j q))
            (λ (a : (i ≡ length back) × (t ≡ x)). ⊎_elim
            (λ (b : get_elem? back j ≡ some y). absurd (far_off (sym told.seat ∙ ap r.seats (ap (λ (z : Tale E A). z.number) a.1 ∙ same) ∙ (r.returned j y (on_back j y b)).seat)))
            (λ (b : (j ≡ length back) × (t ≡ y)). a.0 ∙ sym b.0)
            (at_end back t y j q))
            (at_end back t x i p);
        each_view = views_set (Knows r.log r.drawn r.holder r.phase r.made seats) front other y tt
            (λ j u far b. views_set (λ (i : ℕ) (z : V). i ≢ other → Knows r.log r.drawn r.holder r.phase r.made seats i z) s.views 0 w (λ _. refl)
            (λ i z _ d off. know_gathered r.log r.drawn r.holder r.phase r.made r.seats t.number other told.seat i z off (r.each_view i z d)) j u b far);
      }

  -- where no pass is left, nobody has a ticket
  no_lives : (v : V) → lives v ≡ 0 → tickets v ≡ 0
  no_lives (Keeper m b) e = refl
  no_lives (Pass t l st) e = absurd (omega (arith, e))
  no_lives Spent e = refl

  -- and no share is left but the keeper's
  no_shares : (vs : List V) → total lives vs ≡ 0 → ((j m : ℕ) (b : List (Tale E A)) → get_elem? vs j ≢ some (Keeper m b)) → total shares vs ≡ 0
  no_shares [] e off = refl
  no_shares (Keeper m b ∷ vs) e off = absurd (off 0 m b refl)
  no_shares (Pass t l st ∷ vs) e off = absurd (omega (arith, e))
  no_shares (Spent ∷ vs) e off = let rest = no_shares vs (omega (arith, e)) (λ j m b a. off (suc j) m b a) in omega (arith, rest)

  keeper_alone : (vs : List V) (made : ℕ) (back : List (Tale E A)) → get_elem? vs 0 ≡ some (Keeper made back) → total lives vs ≡ 0 → ((j m : ℕ) (b : List (Tale E A)) → get_elem? vs j ≡ some (Keeper m b) → j ≡ 0) → total shares vs ≡ shares_in back
  keeper_alone [] made back e none_left alone = absurd (some-ne-none (Keeper made back) (sym e))
  keeper_alone (v ∷ vs) made back e none_left alone =
      let here : shares v ≡ shares_in back = ap (λ (u : V). shares u) (some-injective v (Keeper made back) e) in
      let rest : total shares vs ≡ 0 = no_shares vs (omega (arith, none_left)) (λ j m b a. let i = alone (suc j) m b a in omega (arith, i)) in
      omega (arith, here, rest)

  all_back : (log : List (Entry E A)) (ts : List (Tale E A)) → ((k : ℕ) (t : Tale E A) → get_elem? ts k ≡ some t → IsTaleOf log t) → AllTales log ts
  all_back log [] each = tt
  all_back log (t ∷ ts) each = (each 0 t refl, all_back log ts (λ k u a. each (suc k) u a))

  pub closes : (made : ℕ) (back : List (Tale E A)) (ws : List ℕ) (xs : List (Maybe M)) → length back ≡ made → Final (Seen Rule 0 (Keeper made back)) ws xs
      → (m : M) × (get_elem? xs 0 ≡ some (Some m)) × IsClosed may count births back m
  closes made back ws xs all final =
      let s = final.0 in
      let r = final.1.0 in
      let at = final.1.1 in
      let now : Keeper made back ≡ Keeper r.made r.back = some-injective (Keeper made back) (Keeper r.made r.back) (sym at ∙ r.keeping) in
      let made_is : made ≡ r.made = ap (λ (v : V). made_of v) now in
      let back_is : back ≡ r.back = ap (λ (v : V). back_of v) now in
      let back_long : length back ≡ length r.back = ap (λ (l : List (Tale E A)). length l) back_is in
      let living = r.living in
      let waiting = r.waiting in
      let shared = r.shared in
      let none_left : total lives s.views ≡ 0 = omega arith in
      let no_tickets : total tickets s.views ≡ 0 = total_none lives tickets no_lives s.views none_left in
      let rests : r.phase ≡ home = r.free (omega arith) in
      let homes : s.homes ≡ some (Some r.state) ∷ [] = subst (λ (p : P). IsHomed may s.homes r.state p) rests r.homed in
      let kept : total shares s.views ≡ shares_in back = keeper_alone s.views made back at none_left (λ j m b a. r.each_view j (Keeper m b) a) in (
        r.state,
        final.4 0 (Some r.state) (ap (λ (hs : List (Option (Maybe M))). get_elem? hs 0) homes),
        record {
          first = r.first;
          born = r.born;
          begun = r.begun;
          finished = record {
            log = r.log;
            history = r.history;
            tales = all_back r.log back (λ k t a. (r.returned k t (ap (λ (l : List (Tale E A)). get_elem? l k) (sym back_is) ∙ a)).tale);
            numbers = λ n le. r.unmade n (omega (arith, le));
            apart = λ i j x y p q same. r.apart i j x y (ap (λ (l : List (Tale E A)). get_elem? l i) (sym back_is) ∙ p) (ap (λ (l : List (Tale E A)). get_elem? l j) (sym back_is) ∙ q) same;
            share = omega arith;
          };
        },
      )

  -- the table at the start
  pub begins : (m : M) → map (λ b. b.0) births ≡ m ∷ [] → map (λ b. b.1) births ≡ count m ∷ [] → Rule (opening (0 ∷ 0 ∷ []) (Some m ∷ []) (Keeper 0 []))
  begins m born begun =
      record {
        log = [];
        drawn = 0;
        first = m;
        state = m;
        phase = home;
        holder = λ n. n;
        seats = λ n. n;
        made = 0;
        back = [];
        born = born;
        begun = begun;
        words = refl;
        history = refl;
        homed = refl;
        free = λ _. refl;
        waiting = refl;
        roomy = omega arith;
        shared = omega arith;
        few = omega arith;
        unmade = λ n _. refl;
        keeping = refl;
        living = refl;
        returned = λ k t a. absurd (some-ne-none t (sym a));
        apart = λ i j x y p q same. absurd (some-ne-none x (sym p));
        each_view = one;
      }
    where
      one : (id : ℕ) (v : V) → get_elem? (Keeper 0 [] ∷ []) id ≡ some v → Knows [] 0 (λ n. n) home 0 (λ n. n) id v
      one zero v e = subst (λ (u : V). Knows [] 0 (λ n. n) home 0 (λ n. n) 0 u) (some-injective (Keeper 0 []) v e) refl
      one (suc id) v e = absurd (some-ne-none v (sym e))

  pub splits_at : (id : ℕ) (v : V) (n : ℕ) (back : List (Tale E A)) → id ≡ 0 → v ≡ Keeper n back → n < 16 → Splits Rule id v (after_issue v) (issued v)
  splits_at id v n back zero_id is few = subst (λ (x : ℕ × V). Splits Rule x.0 x.1 (after_issue x.1) (issued x.1)) (λ i. (sym zero_id i, sym is i)) (issues n back few)

  pub joins_at : (id : ℕ) (v : V) (n : ℕ) (back : List (Tale E A)) (other : ℕ) (w : V) (t : Tale E A) (left : ℕ) → id ≡ 0 → v ≡ Keeper n back → w ≡ Pass t left Idle → Joins Rule id v other w (gathered v w) Spent
  joins_at id v n back other w t left zero_id is pass = subst (λ (x : ℕ × V × V). Joins Rule x.0 x.1 other x.2 (gathered x.1 x.2) Spent) (λ i. (sym zero_id i, sym is i, sym pass i)) (gatherings n back other t left)

  -- a pass that rests, by its own view
  pub settled : (me : Me (Maybe M) V) (t : Tale E A) (left : ℕ) → me ≡ sat t left Idle → me ≡ sat (tale_in me.0) left Idle
  settled me t left e = e ∙ ap (λ (x : Me (Maybe M) V). sat (tale_in x.0) left Idle) (sym e)

  pub closes_at : (id : ℕ) (v : V) (made : ℕ) (back : List (Tale E A)) (ws : List ℕ) (xs : List (Maybe M)) → id ≡ 0 → v ≡ Keeper made back → length back ≡ made → Final (Seen Rule id v) ws xs
      → (m : M) × (get_elem? xs 0 ≡ some (Some m)) × IsClosed may count births back m
  closes_at id v made back ws xs zero_id is all final = closes made back ws xs all (subst (λ (x : ℕ × V). Final (Seen Rule x.0 x.1) ws xs) (λ i. (zero_id i, is i)) final)

-- Each step of a pass keeps the rule.
use Rattle.std.proofs.Common.{◌≡◌, ◌≢◌, ℕ, ◌+◌, ◌-◌, ◌%◌, ◌<◌, ◌≤◌, ◌==◌, List, [], ◌∷◌, ◌++◌, map, length, set, get_or, Option as Maybe, Some, None, Bool, true, false, refl, sym, ap, ◌∙◌, subst, arith, eq-eqb, ne_eqb, if◌then◌else◌, length-append, append-nil}
use mathlib.Core.Logic.{dite}
use mathlib.Core.Option.{Option, some, none, some-injective}
use native.Mathlib.Decide.{ℕ_discrete}
use lib.ListN.{get_elem?}
use Rattle.atomic_table.specs.Table.{State, Me, step, keeps, takes, gives, Allows}
use Rattle.atomic_table.proofs.Lists.{set_else}
use Rattle.fsl_history.specs.declared.view.Tale.{Tale}
use Rattle.fsl_history.specs.declared.view.Stage.{Stage}
use Rattle.fsl_history.specs.declared.view.Stage.TheVariants.{Idle, Waits, Serves, Holds, Ahead}
use Rattle.fsl_history.specs.declared.view.View.{View}
use Rattle.fsl_history.specs.declared.view.View.TheVariants.{Keeper, Pass}
use Rattle.fsl_history.specs.Entries.{Entry, calls_by, IsHistory}
use Rattle.fsl_history.specs.Rule.{Phase, home, out, ahead, total, lives, tickets, has_ticket, room, shares, IsQueued, IsAt, IsTold, IsHomed, Knows, Ruled}
use Rattle.fsl_history.specs.Plays.{sat, served, after_load, drawn, awaited, taken, given, released, looked, Leads}
use Rattle.fsl_history.proofs.Lists.{total_set, views_set, calls_by-append, none_behind, calls_by-own, calls_by-other, history_snoc}
use Rattle.fsl_history.proofs.Beside.{head_or, holder_with, holder_with-here, holder_with-else, told_on, know_queued, know_moved, know_next}

module _ {M E A : Type 0} (may : M → E → A → M → Type 0) (count : M → ℕ) (births : List (M × ℕ)) where
  abbrev V : Type 0
  V = View M E A

  abbrev St : Type 0
  St = State (Maybe M) V

  abbrev Rule : St → Type 0
  Rule = Ruled may count births

  -- a pass isn't the keeper
  away : (s : St) → Rule s → (id : ℕ) (t : Tale E A) (left : ℕ) (st : Stage M E A) → get_elem? s.views id ≡ some (Pass t left st) → id ≢ 0
  away s r id t left st at e =
      let there : get_elem? s.views 0 ≡ some (Pass t left st) = subst (λ (k : ℕ). get_elem? s.views k ≡ some (Pass t left st)) e at in
      let one : 1 ≡ 0 = ap (λ (v : V). lives v) (some-injective (Pass t left st) (Keeper r.made r.back) (sym there ∙ r.keeping)) in
      omega (arith, one)

  pub draws : (n id : ℕ) (me : Me (Maybe M) V) (t : Tale E A) (left : ℕ) → 0 < left → me ≡ sat t left Idle
      → Allows Rule n id me 1 (λ k. (k + 1) % 18446744073709551616) (drawn (step n 1 1 0 none) me)
  draws n id me t left more e = subst (λ (x : Me (Maybe M) V). Allows Rule n id x 1 (λ k. (k + 1) % 18446744073709551616) (drawn (step n 1 1 0 none) x)) (sym e) (λ s r wide at small.
      let k : ℕ = get_or s.words 1 0 in
      let v : V = Pass t left Idle in
      let w : V = Pass t (left - 1) (Waits k) in
      let turn : ℕ = length r.log in
      let now : k ≡ r.drawn = ap (λ (ws : List ℕ). get_or ws 1 0) r.words in
      let holder : ℕ → ℕ = holder_with r.drawn id r.holder in
      let some_tickets = total_set tickets s.views id v w at in
      let some_room = total_set room s.views id v w at in
      let some_shares = total_set shares s.views id v w at in
      let some_lives = total_set lives s.views id v w at in
      let waiting = r.waiting in
      let roomy = r.roomy in
      let shared = r.shared in
      let living = r.living in
      let not_zero = away s r id t left Idle at in
      let seen = r.each_view id v at in
      let on : (j : ℕ) → (i : ℕ) → IsQueued turn r.drawn r.holder j i → IsQueued turn (r.drawn + 1) holder j i = λ j i q.
      let below = q.below in
      record { from = q.from; below = omega arith; held = holder_with-else r.drawn id r.holder i (λ e. omega arith) ∙ q.held } in (
        w,
        keeps,
        tt,
        record {
          log = r.log;
          drawn = r.drawn + 1;
          first = r.first;
          state = r.state;
          phase = r.phase;
          holder = holder;
          seats = r.seats;
          made = r.made;
          back = r.back;
          born = r.born;
          begun = r.begun;
          words = ap (λ (ws : List ℕ). set ws 1 ((get_or ws 1 0 + 1) % 18446744073709551616)) r.words ∙ ap (λ (z : ℕ). turn ∷ z ∷ []) (omega arith);
          history = r.history;
          homed = r.homed;
          free = λ e. absurd (omega arith);
          waiting = omega arith;
          roomy = omega arith;
          shared = omega arith;
          few = r.few;
          unmade = r.unmade;
          keeping = set_else s.views id 0 w (λ e. not_zero (sym e)) ∙ r.keeping;
          living = omega arith;
          returned = r.returned;
          apart = r.apart;
          each_view = views_set (Knows r.log (r.drawn + 1) holder r.phase r.made r.seats) s.views id w
              (seen.0, (record { from = omega arith; below = omega arith; held = holder_with-here r.drawn id r.holder k now }, λ e. r.free (sym e ∙ now)))
              (λ j u other a. know_queued r.log r.drawn (r.drawn + 1) r.holder holder r.phase r.made r.seats j (on j) u (r.each_view j u a));
        },
        refl,
      ))

  -- a step that changes no word and no history, by a pass that goes from one view to the next
  unmoved : (s : St) (r : Rule s) (id : ℕ) (t t' : Tale E A) (left : ℕ) (st st' : Stage M E A) (homes : List (Option (Maybe M))) (phase : Phase M E A) → get_elem? s.views id ≡ some (Pass t left st)
      → has_ticket st' ≡ has_ticket st → t'.share ≡ t.share → IsHomed may homes r.state phase → (length r.log ≡ r.drawn → phase ≡ home) → IsTold r.log r.made r.seats id t' → IsAt (length r.log) r.drawn r.holder phase id st'
      → ((j : ℕ) (u : V) → j ≢ id → get_elem? s.views j ≡ some u → Knows r.log r.drawn r.holder phase r.made r.seats j u)
      → Rule record { words = set s.words 0 (get_or s.words 0 0); homes = homes; views = set s.views id (Pass t' left st') }
  unmoved s r id t t' left st st' homes phase at same share homed free told stage others =
      let v : V = Pass t left st in
      let w : V = Pass t' left st' in
      let some_tickets : total tickets (set s.views id w) + has_ticket st ≡ total tickets s.views + has_ticket st' = total_set tickets s.views id v w at in
      let some_room : total room (set s.views id w) + left ≡ total room s.views + left = total_set room s.views id v w at in
      let some_shares : total shares (set s.views id w) + t.share ≡ total shares s.views + t'.share = total_set shares s.views id v w at in
      let some_lives : total lives (set s.views id w) + 1 ≡ total lives s.views + 1 = total_set lives s.views id v w at in
      let not_zero = away s r id t left st at in
      let waiting = r.waiting in
      let roomy = r.roomy in
      let shared = r.shared in
      let living = r.living in
      record {
        log = r.log;
        drawn = r.drawn;
        first = r.first;
        state = r.state;
        phase = phase;
        holder = r.holder;
        seats = r.seats;
        made = r.made;
        back = r.back;
        born = r.born;
        begun = r.begun;
        words = ap (λ (ws : List ℕ). set ws 0 (get_or ws 0 0)) r.words;
        history = r.history;
        homed = homed;
        free = free;
        waiting = omega arith;
        roomy = omega arith;
        shared = omega arith;
        few = r.few;
        unmade = r.unmade;
        keeping = set_else s.views id 0 w (λ e. not_zero (sym e)) ∙ r.keeping;
        living = omega arith;
        returned = r.returned;
        apart = r.apart;
        each_view = views_set (Knows r.log r.drawn r.holder phase r.made r.seats) s.views id w (told, stage) others;
      }

  abbrev P : Type 0
  P = Phase M E A

  -- where the number found is the ticket, it is this pass's turn
  after_await : (r-log : ℕ) (drawn : ℕ) (holder : ℕ → ℕ) (phase : P) (id n k : ℕ) → n ≡ r-log → IsAt r-log drawn holder phase id (Waits k) → IsAt r-log drawn holder phase id (after_load n k)
  after_await turn drawn holder phase id n k found a =
      dite (ℕ_discrete n k)
      (λ e. subst (λ (b : Bool). IsAt turn drawn holder phase id (if b then Serves k else Waits k)) (sym (eq-eqb n k e)) (a.0, sym e ∙ found, a.1 (sym e ∙ found)))
      (λ ne. subst (λ (b : Bool). IsAt turn drawn holder phase id (if b then Serves k else Waits k)) (sym (ne_eqb n k ne)) a)

  still_has : (n k : ℕ) → has_ticket {M = M} {E = E} {A = A} (after_load n k) ≡ 1
  still_has n k = by_test (n == k)
    where
      by_test : (b : Bool) → has_ticket {M = M} {E = E} {A = A} (if b then Serves k else Waits k) ≡ 1
      by_test true = refl
      by_test false = refl

  pub awaits : (n id : ℕ) (me : Me (Maybe M) V) (t : Tale E A) (left k : ℕ) → me ≡ sat t left (Waits k) → Allows Rule n id me 0 (λ i. i) (awaited (step n 0 0 0 none) me)
  awaits n id me t left k e = subst (λ (x : Me (Maybe M) V). Allows Rule n id x 0 (λ i. i) (awaited (step n 0 0 0 none) x)) (sym e) (λ s r wide at small.
      let found : ℕ = get_or s.words 0 0 in
      let now : found ≡ length r.log = ap (λ (ws : List ℕ). get_or ws 0 0) r.words in
      let seen = r.each_view id (Pass t left (Waits k)) at in (
        Pass t left (after_load found k),
        keeps,
        tt,
        unmoved s r id t t left (Waits k) (after_load found k) s.homes r.phase at (still_has found k) refl r.homed r.free seen.0
            (after_await (length r.log) r.drawn r.holder r.phase id found k now seen.1) (λ j u _ a. r.each_view j u a),
        refl,
      ))

  pub takings : (n id : ℕ) (me : Me (Maybe M) V) (t : Tale E A) (left k : ℕ) → n ≡ 1 → me ≡ sat t left (Serves k) → Allows Rule n id me 0 (λ i. i) (taken (step n 0 0 0 none) me)
  takings n id me t left k one e = subst (λ (x : Me (Maybe M) V). Allows Rule n id x 0 (λ i. i) (taken (step n 0 0 0 none) x)) (sym e) (λ s r wide at small.
      let seen = r.each_view id (Pass t left (Serves k)) at in
      let q = seen.1.0 in
      let turn : k ≡ length r.log = seen.1.1 in
      let mine : r.holder (length r.log) ≡ id = ap r.holder (sym turn) ∙ q.held in
      let m : M = r.state in
      let homes : s.homes ≡ some (Some m) ∷ [] = subst (λ (p : P). IsHomed may s.homes m p) seen.1.2 r.homed in (
        Pass t left (Holds k m),
        takes 0 (Some m),
        ap (λ (hs : List (Option (Maybe M))). get_elem? hs 0) homes,
        unmoved s r id t t left (Serves k) (Holds k m) (set s.homes 0 none) (out m) at refl refl (ap (λ (hs : List (Option (Maybe M))). set hs 0 none) homes, refl)
            (λ e. let below = q.below in absurd (omega (arith, e, turn))) seen.0 (q, turn, refl)
            (λ j u other a. know_moved r.log r.drawn r.holder r.phase (out m) r.made r.seats id j mine other u (r.each_view j u a)),
        (m, refl),
      ))

  pub givings : (n id : ℕ) (me : Me (Maybe M) V) (t : Tale E A) (left k : ℕ) (m m' : M) (c : Maybe (E × A)) (e : E) (a : A) → c ≡ Some (e, a) → may m e a m' → me ≡ served t left (Holds k m) (Some m')
      → Allows Rule n id me 0 (λ i. i) (given c (step n 0 0 0 none) me)
  givings n id me t left k m m' c e a is did at_me = subst (λ (y : Maybe (E × A)). Allows Rule n id me 0 (λ i. i) (given y (step n 0 0 0 none) me)) (sym is)
      (subst (λ (x : Me (Maybe M) V). Allows Rule n id x 0 (λ i. i) (given (Some (e, a)) (step n 0 0 0 none) x)) (sym at_me) (λ s r wide at small.
      let seen = r.each_view id (Pass t left (Holds k m)) at in
      let q = seen.1.0 in
      let turn : k ≡ length r.log = seen.1.1 in
      let mine : r.holder (length r.log) ≡ id = ap r.holder (sym turn) ∙ q.held in
      let gone = subst (λ (p : P). IsHomed may s.homes r.state p) seen.1.2 r.homed in
      let stepped_on : may r.state e a m' = subst (λ (x : M). may x e a m') gone.1 did in (
        Pass t left (Ahead k e a),
        gives,
        tt,
        unmoved s r id t t left (Holds k m) (Ahead k e a) (set s.homes 0 (some (Some m'))) (ahead e a) at refl refl (m', ap (λ (hs : List (Option (Maybe M))). set hs 0 (some (Some m'))) gone.0, stepped_on)
            (λ e. let below = q.below in absurd (omega (arith, e, turn))) seen.0 (q, turn, refl)
            (λ j u other b. know_moved r.log r.drawn r.holder r.phase (ahead e a) r.made r.seats id j mine other u (r.each_view j u b)),
        refl,
      )))

  leads : (first : Maybe M) (f : M) (log seen : List (Entry E A)) (state : M) → ((m : M) → first ≡ Some m → map (λ b. b.0) births ≡ m ∷ []) → map (λ b. b.0) births ≡ f ∷ [] → seen ≡ log → IsHistory may f log state → Leads may first seen state
  leads None f log seen state named born same history = tt
  leads (Some m) f log seen state named born same history =
      let now : f ∷ [] ≡ m ∷ [] = sym born ∙ named m refl in
      let it : f ≡ m = ap (λ (l : List M). head_or l f) now in
      subst (λ (l : List (Entry E A)). IsHistory may m l state) (sym same) (subst (λ (x : M). IsHistory may x log state) it history)

  pub releasings : (n id : ℕ) (me : Me (Maybe M) V) (t : Tale E A) (left k : ℕ) (e : E) (a : A) (first : Maybe M) → ((m : M) → first ≡ Some m → map (λ b. b.0) births ≡ m ∷ [])
      → ((x : M) (y : E) (z : A) (w : M) → may x y z w → count x ≤ count w) → me ≡ sat t left (Ahead k e a)
      → Allows Rule n id me 0 (λ i. (i + 1) % 18446744073709551616) (released may count first (step n 0 1 0 none) me)
  releasings n id me t left k e a first named rises at_me =
      subst (λ (x : Me (Maybe M) V). Allows Rule n id x 0 (λ i. (i + 1) % 18446744073709551616) (released may count first (step n 0 1 0 none) x)) (sym at_me) (λ s r wide at small.
      let seen = r.each_view id (Pass t left (Ahead k e a)) at in
      let told = seen.0 in
      let q = seen.1.0 in
      let below = q.below in
      let turn : k ≡ length r.log = seen.1.1 in
      let mine : r.holder (length r.log) ≡ id = ap r.holder (sym turn) ∙ q.held in
      let has = subst (λ (p : P). IsHomed may s.homes r.state p) seen.1.2 r.homed in
      let m : M = has.0 in
      let more = rises r.state e a m has.2 in
      let known = told.tale.seen in
      let entry : Entry E A = (t.number, e, a) in
      let log : List (Entry E A) = r.log ++ entry ∷ [] in
      let t' : Tale E A = record { number = t.number; seen = (t.seen ++ known.0) ++ entry ∷ []; mine = t.mine ++ (e, a) ∷ []; share = t.share + (count m - count r.state) } in
      let all_seen : t'.seen ≡ log = ap (λ (l : List (Entry E A)). l ++ entry ∷ []) known.1 in
      let all_mine : calls_by t.number log ≡ t.mine ++ (e, a) ∷ []
      = calls_by-append t.number r.log (entry ∷ []) ∙ ap (λ (l : List (E × A)). l ++ calls_by t.number (entry ∷ [])) told.tale.mine ∙ ap (λ (l : List (E × A)). t.mine ++ l) (calls_by-own t.number e a) in
      let v : V = Pass t left (Ahead k e a) in
      let w : V = Pass t' left Idle in
      let some_tickets : total tickets (set s.views id w) + 1 ≡ total tickets s.views + 0 = total_set tickets s.views id v w at in
      let some_room : total room (set s.views id w) + left ≡ total room s.views + left = total_set room s.views id v w at in
      let some_shares : total shares (set s.views id w) + t.share ≡ total shares s.views + (t.share + (count m - count r.state)) = total_set shares s.views id v w at in
      let some_lives : total lives (set s.views id w) + 1 ≡ total lives s.views + 1 = total_set lives s.views id v w at in
      let not_zero = away s r id t left (Ahead k e a) at in
      let waiting = r.waiting in
      let roomy = r.roomy in
      let shared = r.shared in
      let living = r.living in
      let long : length log ≡ length r.log + 1 = length-append r.log (entry ∷ []) in
      let short : (length r.log + 1) % 18446744073709551616 ≡ length log = omega arith in
      let history = history_snoc may r.first r.state m r.log t.number e a r.history has.2 in (
        w,
        keeps,
        tt,
        record {
          log = log;
          drawn = r.drawn;
          first = r.first;
          state = m;
          phase = home;
          holder = r.holder;
          seats = r.seats;
          made = r.made;
          back = r.back;
          born = r.born;
          begun = r.begun;
          words = ap (λ (ws : List ℕ). set ws 0 ((get_or ws 0 0 + 1) % 18446744073709551616)) r.words ∙ ap (λ (z : ℕ). z ∷ r.drawn ∷ []) short;
          history = history;
          homed = has.1;
          free = λ _. refl;
          waiting = omega arith;
          roomy = omega arith;
          shared = omega arith;
          few = r.few;
          unmade = λ i le. let number = told.number in
              calls_by-append i r.log (entry ∷ []) ∙ ap (λ (l : List (E × A)). l ++ calls_by i (entry ∷ [])) (r.unmade i le) ∙ calls_by-other i t.number e a (λ same. omega (arith, same, number, le));
          keeping = set_else s.views id 0 w (λ z. not_zero (sym z)) ∙ r.keeping;
          living = omega arith;
          returned = λ i u there. told_on r.log r.made r.seats id 0 t.number u e a told.seat (λ z. not_zero (sym z)) (r.returned i u there);
          apart = r.apart;
          each_view = views_set (Knows log r.drawn r.holder home r.made r.seats) s.views id w (
            record {
              number = told.number;
              seat = told.seat;
              tale = record {
                seen = ([], append-nil t'.seen ∙ all_seen);
                mine = all_mine;
                own = ap (λ (l : List (Entry E A)). calls_by t.number l) all_seen ∙ all_mine;
              };
            },
            tt,
          )
              (λ j u other b. know_next r.log r.drawn r.holder r.phase r.made r.seats id j t.number e a mine told.seat other u (r.each_view j u b));
        },
        (
          t',
          record {
            between = known.0;
            before = r.state;
            after = m;
            number = refl;
            seen = refl;
            mine = refl;
            alone = none_behind t.number t.seen known.0 r.log t.mine known.1 told.tale.own told.tale.mine;
            met = leads first r.first r.log (t.seen ++ known.0) r.state named r.born known.1 r.history;
            step = has.2;
            left = leads first r.first log t'.seen m named r.born all_seen history;
            share = omega arith;
          },
          refl,
        ),
      ))

  pub lookings : (n id : ℕ) (me : Me (Maybe M) V) (t : Tale E A) (left : ℕ) (first : Maybe M) → ((m : M) → first ≡ Some m → map (λ b. b.0) births ≡ m ∷ []) → me ≡ sat t left Idle
      → Allows Rule n id me 0 (λ i. i) (looked may first (step n 0 0 0 none) me)
  lookings n id me t left first named at_me =
      subst (λ (x : Me (Maybe M) V). Allows Rule n id x 0 (λ i. i) (looked may first (step n 0 0 0 none) x)) (sym at_me) (λ s r wide at small.
      let found : ℕ = get_or s.words 0 0 in
      let now : found ≡ length r.log = ap (λ (ws : List ℕ). get_or ws 0 0) r.words in
      let seen = r.each_view id (Pass t left Idle) at in
      let told = seen.0 in
      let known = told.tale.seen in
      let t' : Tale E A = record { number = t.number; seen = t.seen ++ known.0; mine = t.mine; share = t.share } in
      let own : calls_by t.number t'.seen ≡ t.mine = ap (λ (l : List (Entry E A)). calls_by t.number l) known.1 ∙ told.tale.mine in (
        Pass t' left Idle,
        keeps,
        tt,
        unmoved s r id t t' left Idle Idle s.homes r.phase at refl refl r.homed r.free
            (record { number = told.number; seat = told.seat; tale = record { seen = ([], append-nil t'.seen ∙ known.1); mine = told.tale.mine; own = own } }) tt (λ j u _ b. r.each_view j u b),
        (
          t',
          record {
            state = r.state;
            number = refl;
            seen = (known.0, refl);
            length = ap (λ (l : List (Entry E A)). length l) known.1 ∙ sym now;
            mine = refl;
            own = own;
            met = leads first r.first r.log t'.seen r.state named r.born known.1 r.history;
            share = refl;
          },
          refl,
        ),
      ))

-- A file through the steps of its writers.
use Rattle.std.proofs.Common.{◌≡◌, ◌≢◌, ◌⊎◌, inl, inr, ℕ, suc, zero, ◌+◌, ◌-◌, ◌<◌, ◌≤◌, ◌^◌, List, [], ◌∷◌, ◌++◌, length, take, drop, refl, sym, ◌∙◌, ap, subst, arith, append_assoc, length-append, take-append-drop, length-take-le, length-drop}
use Rattle.std.specs.List.{AllByRecursion}
use Rattle.std.proofs.lemmas.Bool.{cases_eq}
use Rattle.std.proofs.lemmas.List.{append-nil, take_at, drop_at, take_all}
use Rattle.std.proofs.lemmas.List.Concat.{flat_map-append}
use Rattle.fsl_disk.specs.Disk.{Begins, CutShort}
use Rattle.fsl_journal.specs.Commit.{eight, marked, carried, gated, body_of, HeldOrCarried}
use Rattle.fsl_journal.specs.File.{header, mark_1, mark_2}
use Rattle.fsl_journal.specs.Gates.{part_bytes, gate_of, HasGroups, GoesOn, Grows, KeepsGate, OpensGate, CarriesMark, Next}
use Rattle.fsl_journal.proofs.Gates.{parts, upto, length_upto, one_row}
use Rattle.fsl_journal.proofs.Versions.{carries, stays}

-- what the second has where the first has these
abbrev HasOn : ℕ → List (List ℕ) → List ℕ → Type 0
HasOn mark groups other = (later : ℕ) × ((more : List (List ℕ)) × HasGroups later (groups ++ more) other × ((later ≡ mark) ⊎ (mark ≡ mark_1)))

same_on : (m n : ℕ) (gs hs : List (List ℕ)) (other : List ℕ) → m ≡ n → gs ≡ hs → HasOn m gs other → HasOn n hs other
same_on m n gs hs other mark groups on = subst (λ (k : ℕ). HasOn k hs other) mark (subst (λ (l : List (List ℕ)). HasOn m l other) groups on)

no_more : (mark : ℕ) (groups : List (List ℕ)) (other : List ℕ) → HasGroups mark groups other → HasGroups mark (groups ++ []) other
no_more mark groups other has = subst (λ (gs : List (List ℕ)). HasGroups mark gs other) (sym (append-nil groups)) has

-- ---- steps

-- behind the same front a closed gate
pub shut_behind : (mark : ℕ) (groups : List (List ℕ)) (one other : List ℕ) (gate : ℕ) (rest : List ℕ) → HasGroups mark groups one → other ≡ upto mark groups ++ gate ∷ rest → gate ≢ 79 → HasGroups mark groups other
shut_behind mark groups one other gate rest has is shut = record { gate = gate; rest = rest; layout = is; closed = shut; sized = has.sized }

front_of : (mark : ℕ) (groups : List (List ℕ)) (c tail : List ℕ) → c ≡ upto mark groups ++ tail → take (gate_of groups) c ≡ upto mark groups
front_of mark groups c tail is = ap (λ (l : List ℕ). take (gate_of groups) l) is ∙ take_at (upto mark groups) tail (gate_of groups) (length_upto mark groups)

tail_of : (mark : ℕ) (groups : List (List ℕ)) (c tail : List ℕ) → c ≡ upto mark groups ++ tail → drop (gate_of groups) c ≡ tail
tail_of mark groups c tail is = ap (λ (l : List ℕ). drop (gate_of groups) l) is ∙ drop_at (upto mark groups) tail (gate_of groups) (length_upto mark groups)

behind_gate : (mark : ℕ) (groups : List (List ℕ)) (c : List ℕ) (gate : ℕ) (rest : List ℕ) → c ≡ upto mark groups ++ gate ∷ rest → drop (gate_of groups + 1) c ≡ rest
behind_gate mark groups c gate rest is =
    ap (λ (l : List ℕ). drop (gate_of groups + 1) l) (is ∙ sym (append_assoc (upto mark groups) (gate ∷ []) rest))
    ∙ drop_at (upto mark groups ++ gate ∷ []) rest (gate_of groups + 1) (omega (arith, length_upto mark groups, length-append (upto mark groups) (gate ∷ [])))

pub next_keep : (mark : ℕ) (groups : List (List ℕ)) (one other : List ℕ) (gate : ℕ) (rest : List ℕ) → HasGroups mark groups one → other ≡ upto mark groups ++ gate ∷ rest → gate ≢ 79 → Next one other
next_keep mark groups one other gate rest has is shut = record {
  mark = mark;
  groups = groups;
  has = has;
  step = inl (record {
    front = front_of mark groups other (gate ∷ rest) is ∙ sym (front_of mark groups one (has.gate ∷ has.rest) has.layout);
    gate = gate;
    rest = rest;
    behind = tail_of mark groups other (gate ∷ rest) is;
    closed = shut;
  });
}

pub next_same : (mark : ℕ) (groups : List (List ℕ)) (one : List ℕ) → HasGroups mark groups one → Next one one
next_same mark groups one has = next_keep mark groups one one has.gate has.rest has has.layout has.closed

pub next_mark : (groups : List (List ℕ)) (mark later : ℕ) (one : List ℕ) → mark ≡ mark_1 → HasGroups mark groups one → Next one (marked later one)
next_mark groups mark later one is has = record { mark = mark; groups = groups; has = has; step = inr (inl (is, (later, refl))) }

pub marked_has : (groups : List (List ℕ)) (mark later : ℕ) (one : List ℕ) → HasGroups mark groups one → HasGroups later groups (marked later one)
marked_has groups mark later one has = record { gate = has.gate; rest = has.rest; layout = ap (λ (l : List ℕ). marked later l) has.layout; closed = has.closed; sized = has.sized }

pub next_open : (mark : ℕ) (groups : List (List ℕ)) (one other group : List ℕ) (gate close : ℕ) (rest : List ℕ) → HasGroups mark groups one → one ≡ upto mark groups ++ gate ∷ (eight (length group) ++ group ++ close ∷ rest) → close ≢ 79 → length group < 2 ^ 64
    → other ≡ upto mark groups ++ 79 ∷ (eight (length group) ++ group ++ close ∷ rest) → Next one other
next_open mark groups one other group gate close rest has is shut fits opened =
    let behind = behind_gate mark groups one gate (eight (length group) ++ group ++ close ∷ rest) is in record {
      mark = mark;
      groups = groups;
      has = has;
      step = inr (inr (
        group,
        record { gate = close; rest = rest; layout = behind; closed = shut; sized = fits },
        opened ∙ (λ i. sym (front_of mark groups one (gate ∷ (eight (length group) ++ group ++ close ∷ rest)) is) i ++ 79 ∷ sym behind i),
      ));
    }

-- ---- a step goes on

pub with_group : (mark : ℕ) (groups : List (List ℕ)) (group tail : List ℕ) → upto mark groups ++ 79 ∷ (eight (length group) ++ group ++ tail) ≡ upto mark (groups ++ group ∷ []) ++ tail
with_group mark groups group tail =
    sym (append_assoc (upto mark groups) (part_bytes group) tail)
    ∙ ap (λ (l : List ℕ). l ++ tail) (append_assoc (header mark) (parts groups) (part_bytes group) ∙ ap (λ (l : List ℕ). header mark ++ l) (sym (flat_map-append part_bytes groups (group ∷ []) ∙ ap (λ (l : List ℕ). parts groups ++ l) (append-nil (part_bytes group)))))

pub all_with : (groups : List (List ℕ)) (group : List ℕ) → AllByRecursion (λ g. length g < 2 ^ 64) groups → length group < 2 ^ 64 → AllByRecursion (λ g. length g < 2 ^ 64) (groups ++ group ∷ [])
all_with [] group all fits = (fits, tt)
all_with (g ∷ groups) group all fits = (all.0, all_with groups group all.1 fits)

goes_keep : (mark : ℕ) (groups : List (List ℕ)) (one other : List ℕ) → HasGroups mark groups one → KeepsGate (gate_of groups) one other → HasOn mark groups other
goes_keep mark groups one other has keeps =
    let is : other ≡ upto mark groups ++ keeps.gate ∷ keeps.rest =
    sym (take-append-drop (gate_of groups) other)
    ∙ (λ i. (keeps.front ∙ front_of mark groups one (has.gate ∷ has.rest) has.layout) i ++ keeps.behind i) in
    (mark, ([], no_more mark groups other (shut_behind mark groups one other keeps.gate keeps.rest has is keeps.closed), inl refl))

goes_mark : (mark : ℕ) (groups : List (List ℕ)) (one other : List ℕ) → HasGroups mark groups one → CarriesMark mark one other → HasOn mark groups other
goes_mark mark groups one other has (is, (later, same)) =
    (later, ([], no_more later groups other (subst (λ (l : List ℕ). HasGroups later groups l) (sym same) (marked_has groups mark later one has)), inr is))

goes_open : (mark : ℕ) (groups : List (List ℕ)) (one other : List ℕ) → HasGroups mark groups one → OpensGate (gate_of groups) one other → HasOn mark groups other
goes_open mark groups one other has (group, next, same) =
    let front = front_of mark groups one (has.gate ∷ has.rest) has.layout in
    let is : other ≡ upto mark groups ++ 79 ∷ (eight (length group) ++ group ++ next.gate ∷ next.rest) = same ∙ (λ i. front i ++ 79 ∷ next.layout i) in (
      mark,
      (
        group ∷ [],
        record { gate = next.gate; rest = next.rest; layout = is ∙ with_group mark groups group (next.gate ∷ next.rest); closed = next.closed; sized = all_with groups group has.sized next.sized },
        inl refl,
      ),
    )

pub next_goes : (one other : List ℕ) → Next one other → GoesOn one other
next_goes one other next mark groups has =
    let row = one_row next.mark mark next.groups groups one next.has has in
    same_on next.mark mark next.groups groups other row.mark row.groups (by next.step)
  where
    by : KeepsGate (gate_of next.groups) one other ⊎ CarriesMark next.mark one other ⊎ OpensGate (gate_of next.groups) one other → HasOn next.mark next.groups other
    by (inl keeps) = goes_keep next.mark next.groups one other next.has keeps
    by (inr (inl carries)) = goes_mark next.mark next.groups one other next.has carries
    by (inr (inr opens)) = goes_open next.mark next.groups one other next.has opens

-- ---- any number of steps

goes_same : (one : List ℕ) → GoesOn one one
goes_same one mark groups has = (mark, ([], no_more mark groups one has, inl refl))

pub goes_far : (one two three : List ℕ) → GoesOn one two → GoesOn two three → GoesOn one three
goes_far one two three first then mark groups has =
    let a = first mark groups has in
    let b = then a.0 (groups ++ a.1.0) a.1.1 in
    (b.0, (a.1.0 ++ b.1.0, subst (λ (gs : List (List ℕ)). HasGroups b.0 gs three) (append_assoc groups a.1.0 b.1.0) b.1.1, by a.1.2 b.1.2))
  where
    by : {x y : ℕ} → (x ≡ mark) ⊎ (mark ≡ mark_1) → (y ≡ x) ⊎ (x ≡ mark_1) → (y ≡ mark) ⊎ (mark ≡ mark_1)
    by (inr old) _ = inr old
    by (inl same) (inl also) = inl (also ∙ same)
    by (inl same) (inr old) = inr (sym same ∙ old)

module _ (held : ℕ → List ℕ) (from : ℕ) (each : (n : ℕ) → from ≤ n → Next (held n) (held (n + 1))) where
  goes_by : (m d : ℕ) → from ≤ m → GoesOn (held m) (held (m + d))
  goes_by m zero le = subst (λ (n : ℕ). GoesOn (held m) (held n)) (omega arith) (goes_same (held m))
  goes_by m (suc d) le =
      goes_far (held m) (held (m + d)) (held (m + suc d)) (goes_by m d le)
      (subst (λ (n : ℕ). GoesOn (held (m + d)) (held n)) (omega arith) (next_goes (held (m + d)) (held (m + d + 1)) (each (m + d) (omega (arith, le)))))

  pub life_grows : (mark : ℕ) (groups : List (List ℕ)) → HasGroups mark groups (held from) → Grows held from
  life_grows mark groups has = record {
    mark = mark;
    groups = groups;
    first = has;
    on = λ m n since le. subst (λ (k : ℕ). GoesOn (held m) (held k)) (omega (arith, le)) (goes_by m (n - m) since);
  }

-- ---- a commit, and an opening

-- what stands up to the closed gate
pub upto_gate : (mark : ℕ) (groups : List (List ℕ)) (one : List ℕ) (has : HasGroups mark groups one) → take (gate_of groups + 1) one ≡ upto mark groups ++ has.gate ∷ []
upto_gate mark groups one has =
    ap (λ (l : List ℕ). take (gate_of groups + 1) l) (has.layout ∙ sym (append_assoc (upto mark groups) (has.gate ∷ []) has.rest))
    ∙ take_at (upto mark groups ++ has.gate ∷ []) has.rest (gate_of groups + 1) (omega (arith, length_upto mark groups, length-append (upto mark groups) (has.gate ∷ [])))

pub kept_behind : (mark : ℕ) (groups : List (List ℕ)) (one c : List ℕ) (has : HasGroups mark groups one) → take (gate_of groups + 1) c ≡ take (gate_of groups + 1) one → c ≡ upto mark groups ++ has.gate ∷ drop (gate_of groups + 1) c
kept_behind mark groups one c has same =
    sym (take-append-drop (gate_of groups + 1) c)
    ∙ ap (λ (l : List ℕ). l ++ drop (gate_of groups + 1) c) (same ∙ upto_gate mark groups one has)
    ∙ append_assoc (upto mark groups) (has.gate ∷ []) (drop (gate_of groups + 1) c)

pub cut_next : (mark : ℕ) (groups : List (List ℕ)) (one c : List ℕ) → HasGroups mark groups one → CutShort (gate_of groups + 1) one c → Next one c
cut_next mark groups one c has cut =
    next_keep mark groups one c has.gate (drop (gate_of groups + 1) c) has (kept_behind mark groups one c has cut.front) has.closed

-- three steps at most
abbrev Reached : List ℕ → List ℕ → Type 0
Reached one c = (d : List ℕ) × ((e : List ℕ) × Next one d × Next d e × Next e c)

-- from a file whose closed gate is its last byte
module _ (mark : ℕ) (groups : List (List ℕ)) (one bytes : List ℕ) (has : HasGroups mark groups one) (last : length one ≡ gate_of groups + 1) (fits : length bytes < 2 ^ 64) where
  begins_behind : (c : List ℕ) → Begins one c → c ≡ upto mark groups ++ has.gate ∷ drop (gate_of groups + 1) c
  begins_behind c begins =
      kept_behind mark groups one c has
      (ap (λ (n : ℕ). take n c) (sym last) ∙ begins ∙ sym (take_all (gate_of groups + 1) one (omega (arith, last))))

  begins_reached : (c : List ℕ) → Begins one c → (e : List ℕ) × Next one e × Next e c
  begins_reached c begins =
      let is = begins_behind c begins in
      let now = shut_behind mark groups one c has.gate (drop (gate_of groups + 1) c) has is has.closed in
      (c, next_keep mark groups one c has.gate (drop (gate_of groups + 1) c) has is has.closed, next_same mark groups c now)

  gated_is : (gate : ℕ) → gated one (gate_of groups) gate (body_of bytes) ≡ upto mark groups ++ gate ∷ body_of bytes
  gated_is gate = ap (λ (l : List ℕ). l ++ gate ∷ body_of bytes) (front_of mark groups one (has.gate ∷ has.rest) has.layout)

  gated_reached : (gate : ℕ) (c : List ℕ) → c ≡ gated one (gate_of groups) gate (body_of bytes) → (e : List ℕ) × Next one e × Next e c
  gated_reached gate c is = by (cases_eq gate 79)
    where
      shut : gate ≢ 79 → (e : List ℕ) × Next one e × Next e c
      shut other =
          let here = is ∙ gated_is gate in
          (c, next_keep mark groups one c gate (body_of bytes) has here other, next_same mark groups c (shut_behind mark groups one c gate (body_of bytes) has here other))

      not_open : (g : ℕ) → g ≡ 67 → g ≢ 79
      not_open g closed e = absurd (omega (arith, closed, e))

      by : (gate ≡ 79) ⊎ (gate ≡ 79 → ⊥) → (e : List ℕ) × Next one e × Next e c
      by (inl open_now) =
          let e = gated one (gate_of groups) 67 (body_of bytes) in
          let closed_there = shut_behind mark groups one e 67 (body_of bytes) has (gated_is 67) (not_open 67 refl) in (
            e,
            next_keep mark groups one e 67 (body_of bytes) has (gated_is 67) (not_open 67 refl),
            next_open mark groups e c bytes 67 67 [] closed_there (gated_is 67) (not_open 67 refl) fits (is ∙ gated_is gate ∙ ap (λ (g : ℕ). upto mark groups ++ g ∷ body_of bytes) open_now),
          )
      by (inr other) = shut other

  then_reached : (c : List ℕ) → (e : List ℕ) × Next one e × Next e c → Reached one c
  then_reached c (e, first, next) = (one, (e, next_same mark groups one has, first, next))

length_marked : (mark : ℕ) (held : List ℕ) → 14 ≤ length held → length (marked mark held) ≡ length held
length_marked mark held long = omega (arith, length-append (take 13 held) (mark ∷ drop 14 held), length-take-le 13 held (omega (arith, long)), length-drop 14 held, long)

module _ (mark : ℕ) (groups : List (List ℕ)) (one bytes : List ℕ) (has : HasGroups mark groups one) (last : length one ≡ gate_of groups + 1) (fits : length bytes < 2 ^ 64) where
  -- behind the carry-over
  marked_reached : (later : ℕ) (c : List ℕ) → mark ≡ mark_1 → (e : List ℕ) × Next (marked later one) e × Next e c → Reached one c
  marked_reached later c is (e, first, next) = (marked later one, (e, next_mark groups mark later one is has, first, next))

  marked_last : (later : ℕ) → length (marked later one) ≡ gate_of groups + 1
  marked_last later = length_marked later one (omega (arith, last)) ∙ last

  pub commit_reached : (c : List ℕ) → HeldOrCarried mark one (gate_of groups) (body_of bytes) c → Reached one c
  commit_reached c (inl (is, (later, begins))) =
      marked_reached later c is (begins_reached later groups (marked later one) bytes (marked_has groups mark later one has) (marked_last later) fits c begins)
  commit_reached c (inr (inl begins)) = by (cases_eq mark mark_1)
    where
      by : (mark ≡ mark_1) ⊎ (mark ≡ mark_1 → ⊥) → Reached one c
      by (inl is) =
          marked_reached mark_2 c is
          (begins_reached mark_2 groups (marked mark_2 one) bytes (marked_has groups mark mark_2 one has) (marked_last mark_2) fits c (subst (λ (l : List ℕ). Begins l c) (carries mark one is) begins))
      by (inr other) = then_reached mark groups one bytes has last fits c (begins_reached mark groups one bytes has last fits c (subst (λ (l : List ℕ). Begins l c) (stays mark one other) begins))
  commit_reached c (inr (inr (gate, gated_there))) = by (cases_eq mark mark_1)
    where
      at : (d : List ℕ) → carried mark one ≡ d → c ≡ gated d (gate_of groups) gate (body_of bytes)
      at d is = gated_there ∙ ap (λ (l : List ℕ). gated l (gate_of groups) gate (body_of bytes)) is

      by : (mark ≡ mark_1) ⊎ (mark ≡ mark_1 → ⊥) → Reached one c
      by (inl is) =
          marked_reached mark_2 c is
          (gated_reached mark_2 groups (marked mark_2 one) bytes (marked_has groups mark mark_2 one has) (marked_last mark_2) fits gate c (at (marked mark_2 one) (carries mark one is)))
      by (inr other) = then_reached mark groups one bytes has last fits c (gated_reached mark groups one bytes has last fits gate c (at one (stays mark one other)))

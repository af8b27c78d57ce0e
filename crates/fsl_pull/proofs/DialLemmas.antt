-- The connections of a dial, one more at a time.
use Rattle.std.specs.Prelude.{◌≡◌, ℕ, ◌≤◌, List, [], ◌∷◌, ◌++◌, length, Option, Some, None}
use Rattle.std.specs.List.{AllZip}
use Rattle.std.proofs.Common.{refl, sym, ap, subst, ◌∙◌, append_assoc, arith}
use Rattle.std.proofs.lemmas.List.{append-nil}
use Rattle.fsl_outside.specs.Connections.{Connection, LinkState, listed, IsTold}
use Rattle.fsl_http.specs.Responses.{Exchanged}
use Rattle.fsl_http.specs.Exchanges.{HasJoined, IsExchangeOf, Of}
use Rattle.fsl_pull.specs.Rounds.{Round}
use Rattle.fsl_pull.specs.Dialled.{Rounds, IsMet, Breaks, HasSent, Grows}
use Rattle.fsl_pull.specs.Asking.{IsIdle}

-- all connections of a dial, where they are told
abbrev pub all_of : LinkState → Option (List Connection)
all_of l = listed l.standing.earlier l.present

-- the list grew by these rounds, and perhaps by one connection that broke off
abbrev pub BreaksIn : Option (List Connection) → Option (List Connection) → Rounds → Breaks → (List ℕ → Type 0) → Type 0
BreaksIn before after rounds BreaksOff IsDue =
    (broken : List Connection) × (length broken ≤ 1) × Grows before after rounds broken × HasSent BreaksOff broken IsDue

met_behind : (met : List Connection) (rounds : Rounds) (c : Connection) (r : Round (List ℕ) Exchanged) → AllZip IsMet met rounds → IsMet c r → AllZip IsMet (met ++ c ∷ []) (rounds ++ r ∷ [])
met_behind [] [] c r h k = (k, tt)
met_behind [] (q ∷ rounds) c r h k = absurd h
met_behind (d ∷ met) [] c r h k = absurd h
met_behind (d ∷ met) (q ∷ rounds) c r h k = (h.0, met_behind met rounds c r h.1 k)

module _ (before : Option (List Connection)) (rounds : Rounds) where
  -- a round more
  grown_by : (after earlier : Option (List Connection)) (present : Option Connection) (r : Round (List ℕ) Exchanged) → Grows before after rounds [] → earlier ≡ after → IsTold earlier present → Of present (λ c. IsMet c r) → Grows before (listed earlier present) (rounds ++ r ∷ []) []
  grown_by after earlier present r grows same told is = by before earlier present (subst (λ (a : Option (List Connection)). Grows before a rounds []) (sym same) grows) told is
    where
      by : (b e : Option (List Connection)) (p : Option Connection) → Grows b e rounds [] → IsTold e p → Of p (λ c. IsMet c r) → Grows b (listed e p) (rounds ++ r ∷ []) []
      by None None p g t o = refl
      by (Some bs) None p g t o = absurd g
      by None (Some es) p g t o = absurd g
      by (Some bs) (Some es) None g t o = absurd t
      by (Some bs) (Some es) (Some c) (added, is_added, (met, are, zip, last)) t o = (
        added ++ c ∷ [],
        ap (λ (x : List Connection). x ++ c ∷ []) is_added ∙ append_assoc bs added (c ∷ []),
        (
          met ++ c ∷ [],
          ap (λ (x : List Connection). x ++ c ∷ []) (are ∙ append-nil met) ∙ sym (append-nil (met ++ c ∷ [])),
          met_behind met rounds c r zip o,
          tt,
        ),
      )

  -- a connection that broke off
  cut_by : (after earlier : Option (List Connection)) (present : Option Connection) (BreaksOff : Breaks) (IsDue : List ℕ → Type 0) (request : List ℕ) → Grows before after rounds [] → earlier ≡ after → IsTold earlier present → Of present (λ c. BreaksOff c request) → IsDue request → BreaksIn before (listed earlier present) rounds BreaksOff IsDue
  cut_by after earlier present BreaksOff IsDue request grows same told is due = by before earlier present (subst (λ (a : Option (List Connection)). Grows before a rounds []) (sym same) grows) told is
    where
      by : (b e : Option (List Connection)) (p : Option Connection) → Grows b e rounds [] → IsTold e p → Of p (λ c. BreaksOff c request) → BreaksIn b (listed e p) rounds BreaksOff IsDue
      by None None p g t o = ([], omega arith, refl, tt)
      by (Some bs) None p g t o = absurd g
      by None (Some es) p g t o = absurd g
      by (Some bs) (Some es) None g t o = absurd t
      by (Some bs) (Some es) (Some c) (added, is_added, (met, are, zip, last)) t o = (
        c ∷ [],
        omega arith,
        (
          added ++ c ∷ [],
          ap (λ (x : List Connection). x ++ c ∷ []) is_added ∙ append_assoc bs added (c ∷ []),
          (met, ap (λ (x : List Connection). x ++ c ∷ []) (are ∙ append-nil met), zip, tt),
        ),
        (request, due, o),
      )

pub grown : (l0 l l2 : LinkState) (rounds : Rounds) → Grows (all_of l0) (all_of l) rounds [] → (r : Round (List ℕ) Exchanged) → IsExchangeOf l l2 r.request r.reply → Grows (all_of l0) (all_of l2) (rounds ++ r ∷ []) []
grown l0 l l2 rounds grows r made = grown_by (all_of l0) rounds (all_of l) l2.standing.earlier l2.present r grows made.joined made.told made.is

pub cut_off : (l0 l l2 : LinkState) (rounds : Rounds) → Grows (all_of l0) (all_of l) rounds [] → (BreaksOff : Breaks) (IsDue : List ℕ → Type 0) (request : List ℕ) → HasJoined l l2 (λ c. BreaksOff c request) → IsDue request → BreaksIn (all_of l0) (all_of l2) rounds BreaksOff IsDue
cut_off l0 l l2 rounds grows BreaksOff IsDue request made due =
    cut_by (all_of l0) rounds (all_of l) l2.standing.earlier l2.present BreaksOff IsDue request grows made.joined made.told made.is due

pub idle : (l0 l l2 : LinkState) (rounds : Rounds) → Grows (all_of l0) (all_of l) rounds [] → (BreaksOff : Breaks) (IsDue : List ℕ → Type 0) → IsIdle l l2 → BreaksIn (all_of l0) (all_of l2) rounds BreaksOff IsDue
idle l0 l l2 rounds grows BreaksOff IsDue same = (
  [],
  omega arith,
  subst (λ (a : Option (List Connection)). Grows (all_of l0) a rounds []) (sym (λ i. listed ((same.1 i).earlier) (same.0 i))) grows,
  tt,
)

-- nothing joined the list
pub none_joined : (o : Option (List Connection)) → Grows o o [] []
none_joined None = refl
none_joined (Some cs) = ([], sym (append-nil cs), ([], refl, tt, tt))

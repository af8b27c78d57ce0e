-- The points of sessions, one after another.
use Rattle.std.proofs.Common.{◌≡◌, ℕ, ◌+◌, length, arith, Bool, true, false, ◌||◌, not, List, [], ◌∷◌, ◌++◌, map, Some, None, refl, ap, sym, ◌∙◌, append_assoc}
use Rattle.std.specs.Prelude.{Option, option_map, option_to_list, filter_map, if◌then◌else◌}
use Rattle.std.specs.List.{list_any}
use Rattle.std.proofs.lemmas.List.{append-nil, map-append}
use Rattle.std.proofs.lemmas.Bool.{or_from, or_parts, or_right}
use Rattle.fsl_outside.specs.declared.gate.Point.{Point}
use Rattle.fsl_outside.specs.declared.gate.Point.TheVariants as point
use Rattle.fsl_record.specs.Receipts.{Brought}
use Rattle.fsl_wire.specs.declared.Caps.{Caps}
use Rattle.fsl_wire.specs.declared.WireCard.{WireCard}
use Rattle.fsl_wire.specs.declared.WireCard.TheVariants as cards
use Rattle.fsl_repo.specs.declared.Event.{Event}
use Rattle.fsl_repo.specs.declared.Event.TheVariants as event
use Rattle.fsl_serve.specs.declared.said.Halt.{Halt}
use Rattle.fsl_serve.specs.Session.{arrival_of, mark_after, arrivals, announcement, where_so}
use Rattle.fsl_serve.specs.Calls.{Call, asked, Phase}
use Rattle.fsl_serve.specs.Calls.Phase.{all, upto, short}
use Rattle.fsl_serve.specs.Points.{Points, is_late, arrived, Passes}
use Rattle.fsl_serve.specs.Workers.{Served, points_from}
use Rattle.fsl_serve.specs.Points.{points_of}
use Rattle.fsl_serve.proofs.Phases.{asked_append}
use Rattle.fsl_serve.proofs.Runs.{filter_map_first}

-- ---- a gate's points

abbrev with_points : Option Points → Points → Option Points
with_points g more = option_map (λ ps. ps ++ more) g

pub none_passed : (g : Option Points) (n : ℕ) → Passes g g n []
none_passed None n = refl
none_passed (Some ps) n = ap Some (sym (append-nil ps))

two_lists : (g : Option Points) (a b : Points) → with_points (with_points g a) b ≡ with_points g (a ++ b)
two_lists None a b = refl
two_lists (Some ps) a b = ap Some (append_assoc ps a b)

pub points_more : (g h k : Option Points) (n : ℕ) (a b : List Point) → Passes g h n a → Passes h k n b → Passes g k n (a ++ b)
points_more g h k n a b p q =
    let f : Point → ℕ × Point = λ p. (n, p) in
    q ∙ ap (λ (o : Option Points). with_points o (map f b)) p ∙ two_lists g (map f a) (map f b) ∙ ap (λ (w : Points). with_points g w) (sym (map-append f a b))

-- the points of one more session
points_last : (n : ℕ) (xs : List Served) (s : Served) (m : ℕ) → m ≡ length xs + n → points_from n (xs ++ s ∷ []) ≡ points_from n xs ++ map (λ p. (m, p)) (points_of s.made s.end)
points_last n [] s m e =
    let same : n ≡ m = omega (arith, e) in
    append-nil (map (λ p. (n, p)) (points_of s.made s.end)) ∙ ap (λ (k : ℕ). map (λ p. (k, p)) (points_of s.made s.end)) same
points_last n (x ∷ xs) s m e =
    ap (λ (w : Points). map (λ p. (n, p)) (points_of x.made x.end) ++ w) (points_last (n + 1) xs s m (omega (arith, e)))
    ∙ sym (append_assoc (map (λ p. (n, p)) (points_of x.made x.end)) (points_from (n + 1) xs) (map (λ p. (m, p)) (points_of s.made s.end)))

pub session_more : (g h k : Option Points) (xs : List Served) (s : Served) (n : ℕ) → length xs ≡ n → h ≡ option_map (λ ps. ps ++ points_from 0 xs) g → Passes h k n (points_of s.made s.end)
    → k ≡ option_map (λ ps. ps ++ points_from 0 (xs ++ s ∷ [])) g
session_more g h k xs s n e p q =
    let more : Points = map (λ p. (n, p)) (points_of s.made s.end) in
    q ∙ ap (λ (o : Option Points). with_points o more) p ∙ two_lists g (points_from 0 xs) more
    ∙ ap (λ (w : Points). with_points g w) (sym (points_last 0 xs s n (omega (arith, e))))

pub no_session : (g : Option Points) → g ≡ option_map (λ ps. ps ++ points_from 0 []) g
no_session None = refl
no_session (Some ps) = ap Some (sym (append-nil ps))

-- ---- events behind the arrivals and announcements

abbrev any_late : List Event → Bool
any_late es = list_any is_late es

none_late : (xs ys : List Event) → any_late xs ≡ false → any_late ys ≡ false → any_late (xs ++ ys) ≡ false
none_late [] ys p q = q
none_late (x ∷ xs) ys p q =
    let parts = or_parts (is_late x) (any_late xs) p in or_from (is_late x) (any_late (xs ++ ys)) parts.0 (none_late xs ys parts.1 q)

front_not_late : (xs ys : List Event) → any_late (xs ++ ys) ≡ false → any_late xs ≡ false
front_not_late [] ys p = refl
front_not_late (x ∷ xs) ys p =
    let parts = or_parts (is_late x) (any_late (xs ++ ys)) p in or_from (is_late x) (any_late xs) parts.0 (front_not_late xs ys parts.1)

late_behind : (xs ys : List Event) → any_late ys ≡ true → any_late (xs ++ ys) ≡ true
late_behind [] ys p = p
late_behind (x ∷ xs) ys p = or_right (is_late x) (any_late (xs ++ ys)) (late_behind xs ys p)

one_arrival : (r : Brought) (b : Bool) (card : WireCard) → any_late (option_to_list (arrival_of r b card)) ≡ false
one_arrival r b (cards.Login user nonce signature tail line) = refl
one_arrival r b (cards.Push server project) = refl
one_arrival r b (cards.Pull server project) = refl
one_arrival r b (cards.Clone from) = refl
one_arrival r b (cards.CloneSeqno next) = refl
one_arrival r b (cards.File name bytes) = refl
one_arrival r b cards.Private = refl
one_arrival r b (cards.Igot name private) = refl
one_arrival r b (cards.Gimme name) = refl
one_arrival r b (cards.Error text) = refl
one_arrival r b (cards.Message text) = refl
one_arrival r b cards.SendPrivate = refl

pub arrivals_not_late : (r : Brought) (b : Bool) (m : List WireCard) → any_late (arrivals r b m) ≡ false
arrivals_not_late r b [] = refl
arrivals_not_late r b (card ∷ rest) = none_late (option_to_list (arrival_of r b card)) (arrivals r (mark_after b card) rest) (one_arrival r b card) (arrivals_not_late r (mark_after b card) rest)

maybe_announced : (b : Bool) (name : List ℕ) → any_late (option_to_list (if b then Some (event.Announce name) else None)) ≡ false
maybe_announced true name = refl
maybe_announced false name = refl

one_announcement : (caps : Caps) (card : WireCard) → any_late (option_to_list (announcement caps card)) ≡ false
one_announcement caps (cards.Login user nonce signature tail line) = refl
one_announcement caps (cards.Push server project) = refl
one_announcement caps (cards.Pull server project) = refl
one_announcement caps (cards.Clone from) = refl
one_announcement caps (cards.CloneSeqno next) = refl
one_announcement caps (cards.File name bytes) = refl
one_announcement caps cards.Private = refl
one_announcement caps (cards.Igot name private) = maybe_announced (not private || caps.private) name
one_announcement caps (cards.Gimme name) = refl
one_announcement caps (cards.Error text) = refl
one_announcement caps (cards.Message text) = refl
one_announcement caps cards.SendPrivate = refl

announcements_not_late : (caps : Caps) (m : List WireCard) → any_late (filter_map (announcement caps) m) ≡ false
announcements_not_late caps [] = refl
announcements_not_late caps (card ∷ rest) =
    ap any_late (filter_map_first (announcement caps) card rest)
    ∙ none_late (option_to_list (announcement caps card)) (filter_map (announcement caps) rest) (one_announcement caps card) (announcements_not_late caps rest)

pub where_announced_not_late : (b : Bool) (caps : Caps) (m : List WireCard) → any_late (where_so b (filter_map (announcement caps) m)) ≡ false
where_announced_not_late true caps m = announcements_not_late caps m
where_announced_not_late false caps m = refl

-- the events of a phase are a front of those that are due
phase_not_late : (due : List Event) (made : List Call) (h : Option Halt) → any_late due ≡ false → Phase due made h → any_late (asked made) ≡ false
phase_not_late due made h none (all g d e) = sym (ap any_late d) ∙ none
phase_not_late due made h none (upto front call rest k m g d q e) = front_not_late (asked made) rest (sym (ap any_late d) ∙ none)
phase_not_late due made h none (short rest g d e) = front_not_late (asked made) rest (sym (ap any_late d) ∙ none)

-- ---- whether a session passed the point before its reply

pub not_arrived : (g : Option Points) (n : ℕ) (due : List Event) (made : List Call) (h : Option Halt) → any_late due ≡ false → Phase due made h → Passes g g n (arrived made)
not_arrived g n due made h none p =
    none_passed g n ∙ ap (λ (b : Bool). with_points g (map (λ p. (n, p)) (where_so b (point.Arrived ∷ [])))) (sym (phase_not_late due made h none p))

pub not_arrived_twice : (g : Option Points) (n : ℕ) (due due' : List Event) (xs ys : List Call) (h h' : Option Halt) → any_late due ≡ false → any_late due' ≡ false → Phase due xs h → Phase due' ys h' → Passes g g n (arrived (xs ++ ys))
not_arrived_twice g n due due' xs ys h h' none none' p q =
    let both : any_late (asked (xs ++ ys)) ≡ false = ap any_late (asked_append xs ys) ∙ none_late (asked xs) (asked ys) (phase_not_late due xs h none p) (phase_not_late due' ys h' none' q) in
    none_passed g n ∙ ap (λ (b : Bool). with_points g (map (λ p. (n, p)) (where_so b (point.Arrived ∷ [])))) (sym both)

pub did_arrive : (g h : Option Points) (n : ℕ) (xs ys : List Call) → Passes g h n (point.Arrived ∷ []) → any_late (asked ys) ≡ true → Passes g h n (arrived (xs ++ ys))
did_arrive g h n xs ys p late =
    let both : any_late (asked (xs ++ ys)) ≡ true = ap any_late (asked_append xs ys) ∙ late_behind (asked xs) (asked ys) late in
    p ∙ ap (λ (b : Bool). with_points g (map (λ p. (n, p)) (where_so b (point.Arrived ∷ [])))) (sym both)

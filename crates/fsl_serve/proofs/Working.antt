-- The connections of a worker, one after another.
use Rattle.std.proofs.Common.{◌≡◌, ℕ, ◌+◌, ◌<◌, ◌≤◌, arith, Bool, true, false, List, [], ◌∷◌, ◌++◌, length, map, Some, None, refl, ap, sym, ◌∙◌, subst, append_assoc, length-append}
use Rattle.std.specs.Prelude.{Option, option_map, option_to_list}
use Rattle.std.proofs.lemmas.List.{append-nil, map-append}
use Rattle.fsl_outside.specs.Connections.{Connection, Standing, Between, listed, HasBegun, IsTold}
use Rattle.fsl_outside.specs.Memory.{next}
use Rattle.fsl_disk.specs.Disk.{DiskState}
use Rattle.fsl_login.specs.declared.User.{User}
use Rattle.fsl_serve.specs.declared.said.SessionEnd.{SessionEnd}
use Rattle.fsl_serve.specs.Calls.{Call, Gains}
use Rattle.fsl_serve.specs.Clocking.{AsksFor, AtMoment}
use Rattle.fsl_serve.specs.Sessions.{IsSession}
use Rattle.fsl_serve.specs.Sessions.IsSession.{closed, broken, replied, unread}
use Rattle.fsl_serve.specs.Points.{Points, Passes, points_of}
use Rattle.fsl_serve.specs.Workers.{Served, IsServed, AllServed, calls_of, moments_of, Lists, points_from, IsGated}
use Rattle.fsl_serve.proofs.Telling.{gains_none, gains_more}
use Rattle.fsl_serve.proofs.Clocking.{asks_more}
use Rattle.fsl_serve.proofs.Passing.{no_session, session_more}

-- what was served so far
pub record IsServing {D : Type 0} (tells : D → DiskState) (users : List User) (project : List ℕ) (n : ℕ) (p : Option Connection) (s : Standing) (q : Option Connection) (t : Standing) (told told' : Option (List Call)) (before after : Option Points) (clock clock' : Option (List ℕ)) : Type 0 where
  pub served : List Served
  pub count : length served ≡ n
  pub each : AllServed users project served
  pub lists : Lists (listed s.earlier p) (listed t.earlier q) served
  pub calls : Gains tells told told' (λ made. made ≡ calls_of served)
  pub faults : t.accept_faults ≡ s.accept_faults
  pub closings : t.closings ≡ s.closings
  pub passed : after ≡ option_map (λ ps. ps ++ points_from 0 served) before
  pub clocked : AsksFor clock clock' (moments_of served)

all_more : (users : List User) (project : List ℕ) (xs : List Served) (s : Served) → AllServed users project xs → IsServed users project s → AllServed users project (xs ++ s ∷ [])
all_more users project [] s p q = (q, tt)
all_more users project (x ∷ xs) s p q = (p.0, all_more users project xs s p.1 q)

calls_more : (xs : List Served) (s : Served) → calls_of (xs ++ s ∷ []) ≡ calls_of xs ++ s.made
calls_more [] s = append-nil s.made
calls_more (x ∷ xs) s = ap (λ w. x.made ++ w) (calls_more xs s) ∙ sym (append_assoc x.made (calls_of xs) s.made)

moments_more : (xs : List Served) (s : Served) → moments_of (xs ++ s ∷ []) ≡ moments_of xs ++ option_to_list s.moment
moments_more [] s = append-nil (option_to_list s.moment)
moments_more (x ∷ xs) s =
    ap (λ w. option_to_list x.moment ++ w) (moments_more xs s) ∙ sym (append_assoc (option_to_list x.moment) (moments_of xs) (option_to_list s.moment))

lists_none : (o : Option (List Connection)) → Lists o o []
lists_none None = tt
lists_none (Some cs) = ([], ap Some (sym (append-nil cs)), refl)

pub serving_none : {D : Type 0} {tells : D → DiskState} (users : List User) (project : List ℕ) (p : Option Connection) (s : Standing) (told : Option (List Call)) (passed : Option Points) (clock : Option (List ℕ)) → IsServing tells users project 0 p s p s told told passed passed clock clock
serving_none users project p s told passed clock = record {
  served = [];
  count = refl;
  each = tt;
  lists = lists_none (listed s.earlier p);
  calls = gains_none told (λ made. made ≡ []) refl;
  faults = refl;
  closings = refl;
  passed = no_session passed;
  clocked = refl;
}

-- a told connection stays told in a session
between_some : (c : Connection) (d : Option Connection) (P : Connection → Connection → Type 0) → Between (Some c) d P → (e : Connection) × (d ≡ Some e)
between_some c None P b = absurd b
between_some c (Some e) P b = (e, refl)

stays_told : (users : List User) (project : List ℕ) (c : Connection) (d : Option Connection) (moment : Option ℕ) (made : List Call) (end : SessionEnd) → IsSession users project (Some c) d moment made end → (e : Connection) × (d ≡ Some e)
stays_told users project c d moment made end (closed b n m e) = between_some c d _ b
stays_told users project c d moment made end (broken b n m e) = between_some c d _ b
stays_told users project c d moment made end (replied request reply r b e) = between_some c d _ b
stays_told users project c d moment made end (unread n m b e) = between_some c d _ b

-- the list of a door, after one more connection and its session
lists_one : (users : List User) (project : List ℕ) (before : Option (List Connection)) (earlier : Option (List Connection)) (begun after : Option Connection) (xs : List Served) (moment : Option ℕ) (made : List Call) (end : SessionEnd)
    → Lists before earlier xs → IsTold earlier begun → IsSession users project begun after moment made end → Lists before (listed earlier after) (xs ++ record { connection = after; moment = moment; made = made; end = end } ∷ [])
lists_one users project None earlier begun after xs moment made end l t s = tt
lists_one users project (Some cs) earlier begun after xs moment made end l t s = more begun (subst (λ e. IsTold e begun) l.1 t) s
  where
    one : (c : Connection) → after ≡ Some c → (ds : List Connection) × (listed earlier after ≡ Some (cs ++ ds)) × (map Some ds ≡ map (λ s. s.connection) (xs ++ record { connection = after; moment = moment; made = made; end = end } ∷ []))
    one c p = (
      l.0 ++ c ∷ [],
      (let F : Option (List Connection) → Type 0 = λ e. listed e after ≡ Some (cs ++ (l.0 ++ c ∷ [])) in
          subst F (sym l.1) (let G : Option Connection → Type 0 = λ a. listed (Some (cs ++ l.0)) a ≡ Some (cs ++ (l.0 ++ c ∷ [])) in subst G (sym p) (ap Some (append_assoc cs l.0 (c ∷ []))))),
      map-append Some l.0 (c ∷ []) ∙ ap (λ w. w ++ Some c ∷ []) l.2 ∙ (let H : Option Connection → Type 0 = λ a. map (λ (s : Served). s.connection) xs ++ Some c ∷ [] ≡ map (λ (s : Served). s.connection) xs ++ a ∷ [] in subst H (sym p) refl) ∙ sym (map-append (λ (s : Served). s.connection) xs (record { connection = after; moment = moment; made = made; end = end } ∷ [])),
    )

    more : (b : Option Connection) → IsTold (Some (cs ++ l.0)) b → IsSession users project b after moment made end → (ds : List Connection) × (listed earlier after ≡ Some (cs ++ ds)) × (map Some ds ≡ map (λ s. s.connection) (xs ++ record { connection = after; moment = moment; made = made; end = end } ∷ []))
    more None u v = absurd u
    more (Some c) u v = let w = stays_told users project c after moment made end v in one w.0 w.1

pub serving_more : {D : Type 0} {tells : D → DiskState} (users : List User) (project : List ℕ) (n : ℕ) (p : Option Connection) (s : Standing) (q : Option Connection) (t : Standing) (b : Option Connection) (u : Standing) (r : Option Connection) (v : Standing) (o o' o'' : Option (List Call)) (h h' h'' : Option Points) (k k' k'' : Option (List ℕ)) (end : SessionEnd)
    → IsServing tells users project n p s q t o o' h h' k k' → HasBegun b → IsTold u.earlier b → u.earlier ≡ listed t.earlier q → u.accept_faults ≡ t.accept_faults → u.closings ≡ t.closings → v ≡ u
    → Gains tells o' o'' (λ made. AtMoment k' k'' (λ moment. IsSession users project b r moment made end) × Passes h' h'' n (points_of made end)) → IsServing tells users project (n + 1) p s r v o o'' h h'' k k''
serving_more users project n p s q t b u r v o o' o'' h h' h'' k k' k'' end w begun told earlier faults closings same g =
    let one : Served = record { connection = r; moment = g.3.0.0; made = g.0; end = end } in
    let lists : Lists (listed s.earlier p) (listed u.earlier r) (w.served ++ one ∷ []) =
    lists_one users project (listed s.earlier p) u.earlier b r w.served g.3.0.0 g.0 end (subst (λ e. Lists (listed s.earlier p) e w.served) (sym earlier) w.lists) told g.3.0.1 in
    record {
      served = w.served ++ one ∷ [];
      count = length-append w.served (one ∷ []) ∙ ap (λ m. m + 1) w.count;
      each = all_more users project w.served one w.each (b, begun, g.3.0.1);
      lists = subst (λ (z : Standing). Lists (listed s.earlier p) (listed z.earlier r) (w.served ++ one ∷ [])) (sym same) lists;
      calls = gains_more o o' o'' (λ made. made ≡ calls_of w.served) (λ made. made ≡ g.0) (λ made. made ≡ calls_of (w.served ++ one ∷ [])) w.calls (g.0, g.1, g.2, refl) (λ xs ys e f. rw (e, f) (sym (calls_more w.served one)));
      faults = ap (λ (z : Standing). z.accept_faults) same ∙ faults ∙ w.faults;
      closings = ap (λ (z : Standing). z.closings) same ∙ closings ∙ w.closings;
      passed = session_more h h' h'' w.served one n w.count w.passed g.3.1;
      clocked = subst (λ (l : List ℕ). AsksFor k k'' l) (sym (moments_more w.served one)) (asks_more k k' k'' (moments_of w.served) (option_to_list one.moment) w.clocked g.3.0.2);
    }

-- ---- the end of a worker

abbrev is_false : Bool → Type 0
is_false false = Unit {0}
is_false true = ⊥

pub never : {X : Type 0} → false ≡ true → X
never {X} e = absurd (subst is_false e tt)

module _ {D : Type 0} {tells : D → DiskState} (users : List User) (project : List ℕ) (n : ℕ) (p : Option Connection) (s : Standing) (q : Option Connection) (t : Standing) (o o' : Option (List Call)) (h h' : Option Points) (k k' : Option (List ℕ)) (w : IsServing tells users project n p s q t o o' h h' k k') where
  pub gated : (requests m : ℕ) (failed : Bool) (q' : Option Connection) (t' : Standing) → m ≡ n → n ≤ requests → q' ≡ q → t'.earlier ≡ t.earlier
      → (failed ≡ true → (t'.accept_faults ≡ next t.accept_faults) × (t'.closings ≡ t.closings) × (n < requests)) → (failed ≡ false → t'.accept_faults ≡ t.accept_faults)
      → (failed ≡ false → n < requests → t'.closings ≡ next t.closings) → (n ≡ requests → t'.closings ≡ t.closings)
      → IsGated tells users project requests p s q' t' o o' (record { sessions = m; failed = failed }) h h' k k'
  gated requests m failed q' t' count within present earlier fails not_fails closes not_closes =
      record {
        worked = record {
          served = w.served;
          count = w.count ∙ sym count;
          within = omega (arith, count, within);
          each = w.each;
          lists =
              subst (λ (e : Option (List Connection)). Lists (listed s.earlier p) (listed e q') w.served) (sym earlier)
              (subst (λ (c : Option Connection). Lists (listed s.earlier p) (listed t.earlier c) w.served) (sym present) w.lists);
          calls = w.calls;
          failed = λ e. (fails e).0 ∙ ap next w.faults;
          kept = λ e. (fails e).1 ∙ w.closings;
          not_failed = λ e. not_fails e ∙ w.faults;
          early = λ e. let less = (fails e).2 in omega (arith, count, less);
          closed = λ e l. closes e (omega (arith, count, l)) ∙ ap next w.closings;
          not_closed = λ e. not_closes (sym count ∙ e) ∙ w.closings;
        };
        passed = w.passed;
        clocked = w.clocked;
      }

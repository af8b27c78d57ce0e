-- The history of all crews, from what the turns and the jobs tell.
use Rattle.std.proofs.Common.{◌≡◌, ℕ, zero, suc, ◌<◌, List, [], ◌∷◌, ◌++◌, map, length, length-append, get_or, Option, Some, refl, sym, ap, ◌∙◌, subst, arith}
use Rattle.std.specs.Prelude.{Result, Ok, Err, IfErr}
use mathlib.Core.Logic.{dite}
use native.Mathlib.Decide.{ℕ_discrete}
use Rattle.std.proofs.lemmas.List.{length-map}
use Rattle.fsl_disk.specs.Disk.{DiskState}
use Rattle.fsl_outside.specs.Connections.{LinkState}
use Rattle.fsl_login.specs.declared.User.{User}
use Rattle.fsl_repo.specs.declared.Event.{Event}
use Rattle.fsl_repo.specs.declared.Event.TheVariants as event
use Rattle.fsl_repo.specs.declared.Answer.{Answer}
use Rattle.fsl_repo.specs.Whole.{Whole}
use Rattle.fsl_history.specs.declared.view.Tale.{Tale}
use Rattle.fsl_history.specs.Entries.{Entry, calls_by, IsTaleOf, AllTales, IsFinished, newcomer, newcomers}
use Rattle.fsl_history.proofs.Lists.{history_snoc, some_or}
use Rattle.fsl_serve.specs.declared.work.Work.{Work}
use Rattle.fsl_serve.specs.Calls.{Call}
use Rattle.fsl_serve.specs.Points.{Points}
use Rattle.fsl_serve.specs.Workers.{IsGated}
use Rattle.fsl_serve.specs.Ordered.{steps_by, IsOneHistory}

map_at : {X Y : Type 0} (f : X → Y) (xs : List X) (i : ℕ) (d : X) → i < length xs → (e : Y) → get_or (map f xs) i e ≡ f (get_or xs i d)
map_at f [] i d l e = absurd (omega (arith, l))
map_at f (x ∷ xs) zero d l e = refl
map_at f (x ∷ xs) (suc i) d l e = map_at f xs i d (omega (arith, l)) e

append_at : {X : Type 0} (xs : List X) (x : X) (i : ℕ) (d : X) → i < length xs → get_or (xs ++ x ∷ []) i d ≡ get_or xs i d
append_at [] x i d l = absurd (omega (arith, l))
append_at (y ∷ ys) x zero d l = refl
append_at (y ∷ ys) x (suc i) d l = append_at ys x i d (omega (arith, l))

append_last : {X : Type 0} (xs : List X) (x : X) (i : ℕ) (d : X) → i ≡ length xs → get_or (xs ++ x ∷ []) i d ≡ x
append_last [] x zero d e = refl
append_last [] x (suc i) d e = absurd (omega (arith, e))
append_last (y ∷ ys) x zero d e = absurd (omega (arith, e))
append_last (y ∷ ys) x (suc i) d e = append_last ys x i d (omega (arith, e))

module _ {E A : Type 0} where
  told_at : (log : List (Entry E A)) (ts : List (Tale E A)) → AllTales log ts → (i : ℕ) (d : Tale E A) → i < length ts → IsTaleOf log (get_or ts i d)
  told_at log [] all i d l = absurd (omega (arith, l))
  told_at log (t ∷ ts) all zero d l = all.0
  told_at log (t ∷ ts) all (suc i) d l = told_at log ts all.1 i d (omega (arith, l))

module _ {D C J : Type 0} (tells : D → DiskState) (crew : J → C) (work : J → Work) (door : C → LinkState) (passed : C → Option Points) (clock : C → Option (List ℕ)) (users : List User) (project : List ℕ) (requests : ℕ) where
  abbrev pub JobTold : Option (List Call) → Option (List Call) → J → J → Type 0
  JobTold o o' j k = IsGated tells users project requests (door (crew j)).present (door (crew j)).standing (door (crew k)).present (door (crew k)).standing o o' (work k) (passed (crew j)) (passed (crew k)) (clock (crew j)) (clock (crew k))

  ordered_at : (told : ℕ → Option (List Call)) (js ks : List J) → length ks ≡ length js → ((i : ℕ) (d : J) → i < length js → JobTold (Some []) (told i) (get_or js i d) (get_or ks i d))
      → (i : ℕ) (d : C) (w : Work) → i < length js
      → IsGated tells users project requests (door (get_or (map crew js) i d)).present (door (get_or (map crew js) i d)).standing (door (get_or (map crew ks) i d)).present (door (get_or (map crew ks) i d)).standing (Some []) (told i) (get_or (map work ks) i w) (passed (get_or (map crew js) i d)) (passed (get_or (map crew ks) i d)) (clock (get_or (map crew js) i d)) (clock (get_or (map crew ks) i d))
  ordered_at told [] ks len h i d w l = absurd (omega (arith, l))
  ordered_at told (j ∷ js) [] len h i d w l = absurd (omega (arith, len))
  ordered_at told (j ∷ js) (k ∷ ks) len h zero d w l = h 0 j l
  ordered_at told (j ∷ js) (k ∷ ks) len h (suc i) d w l = ordered_at (λ n. told (suc n)) js ks (omega (arith, len)) (λ n e m. h (suc n) e (omega (arith, m))) i d w (omega (arith, l))

  pub one_history : (count : Whole D → ℕ) (pass : J → Tale Event Answer) (repo mid last : Whole D) (answer : Answer) (js ks : List J) (cs ds : List C) (ws : List Work) (ts : List (Tale Event Answer))
      → map crew js ≡ cs → map crew ks ≡ ds → map work ks ≡ ws → map pass ks ≡ ts → length ks ≡ length js → length cs ≡ length js
      → ((i : ℕ) (d : J) → i < length js → (pass (get_or js i d)).mine ≡ []) → ((i : ℕ) (d : J) → i < length js → (pass (get_or ks i d)).number ≡ i)
      → ((i : ℕ) (d : J) → i < length js → JobTold (Some (pass (get_or js i d)).mine) (Some (pass (get_or ks i d)).mine) (get_or js i d) (get_or ks i d))
      → IsFinished (steps_by tells) count repo ts mid → steps_by tells mid event.Commit answer last
      → IsOneHistory tells door passed clock users project requests ws cs ds repo last
  one_history count pass repo mid last answer js ks cs ds ws ts p q r t len clen fresh numbered each done closed =
      let log = done.log in
      let told : (i : ℕ) (d : J) → i < length js → calls_by i log ≡ (pass (get_or ks i d)).mine = λ i d l.
      let here : i < length (map pass ks) = omega (arith, l, len, length-map ks pass) in
      let tales : AllTales log (map pass ks) = subst (λ (x : List (Tale Event Answer)). AllTales log x) (sym t) done.tales in
      let it = told_at log (map pass ks) tales i (pass d) here in
      let same : get_or (map pass ks) i (pass d) ≡ pass (get_or ks i d) = map_at pass ks i d (omega (arith, l, len)) (pass d) in
      let tale : IsTaleOf log (pass (get_or ks i d)) = subst (λ (x : Tale Event Answer). IsTaleOf log x) same it in
      ap (λ (n : ℕ). calls_by n log) (sym (numbered i d l)) ∙ tale.mine in
      let crews : (i : ℕ) (d : C) (w : Work) → i < length js → IsGated tells users project requests (door (get_or (map crew js) i d)).present (door (get_or (map crew js) i d)).standing (door (get_or (map crew ks) i d)).present (door (get_or (map crew ks) i d)).standing (Some []) (Some (calls_by i log)) (get_or (map work ks) i w) (passed (get_or (map crew js) i d)) (passed (get_or (map crew ks) i d)) (clock (get_or (map crew js) i d)) (clock (get_or (map crew ks) i d))
      = ordered_at (λ i. Some (calls_by i log)) js ks len (λ i d l. subst (λ (x : List Call). JobTold (Some []) (Some x) (get_or js i d) (get_or ks i d)) (sym (told i d l))
      (subst (λ (x : List Call). JobTold (Some x) (Some (pass (get_or ks i d)).mine) (get_or js i d) (get_or ks i d)) (fresh i d l) (each i d l))) in
      let many : length ts ≡ length js = sym (ap (λ (l : List (Tale Event Answer)). length l) t) ∙ length-map ks pass ∙ len in
      record {
        turns = log;
        answer = answer;
        history = history_snoc (steps_by tells) repo mid last log (length cs) event.Commit answer done.history closed;
        crew = λ i d w l. subst (λ (x : List C × List C × List Work). IsGated tells users project requests (door (get_or x.0 i d)).present (door (get_or x.0 i d)).standing (door (get_or x.1 i d)).present (door (get_or x.1 i d)).standing (Some []) (Some (calls_by i log)) (get_or x.2 i w) (passed (get_or x.0 i d)) (passed (get_or x.1 i d)) (clock (get_or x.0 i d)) (clock (get_or x.1 i d)))
            (λ k. (p k, q k, r k)) (crews i d w (omega (arith, l, clen)));
        others = λ n le. done.numbers n (omega (arith, le, many, clen));
      }

pub length-newcomers : (E A : Type 0) (n : ℕ) → length (newcomers {E = E} {A = A} n) ≡ n
length-newcomers E A zero = refl
length-newcomers E A (suc n) = let rest = length-newcomers E A n in let last = length-append (newcomers {E = E} {A = A} n) (newcomer n ∷ []) in omega (arith, rest, last)

-- the passes before the work are new, each with the number of its place
pub newcomer_at : {E A : Type 0} (n i : ℕ) (d : Tale E A) → i < n → get_or (newcomers n) i d ≡ newcomer i
newcomer_at zero i d l = absurd (omega (arith, l))
newcomer_at {E} {A} (suc n) i d l =
    let long = length-newcomers E A n in
    dite (ℕ_discrete i n)
    (λ e. append_last (newcomers n) (newcomer n) i d (omega (arith, e, long)) ∙ ap (λ (k : ℕ). newcomer k) (sym e))
    (λ ne. let below : i < n = omega (arith, l, ne) in append_at (newcomers n) (newcomer n) i d (omega (arith, below, long)) ∙ newcomer_at n i d below)

-- what the passes of the jobs were and are
pub job_pass : {J E A : Type 0} (pass : J → Tale E A) (js : List J) (n : ℕ) → map pass js ≡ newcomers n → length js ≡ n → (i : ℕ) (d : J) → i < length js → pass (get_or js i d) ≡ newcomer i
job_pass {J} {E} {A} pass js n e len i d l = sym (map_at pass js i d l (pass d)) ∙ ap (λ (ts : List (Tale E A)). get_or ts i (pass d)) e ∙ newcomer_at n i (pass d) (omega (arith, l, len))

-- what comes back where memory ran out is what came
pub err_first : {S X C : Type 0} (r : Result S (X × C)) (o : Option X) (m : X) (P : C → Type 0) → o ≡ Some m → IfErr r (λ e. (o ≡ Some e.0) × P e.1) → IfErr r (λ e. (e.0 ≡ m) × P e.1)
err_first (Ok s) o m P is e = tt
err_first (Err x) o m P is e = (ap (λ (y : Option _). some_or y m) (sym e.0 ∙ is), e.1)

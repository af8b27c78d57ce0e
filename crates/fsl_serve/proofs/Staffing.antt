-- The jobs of all crews, as lists.
use Rattle.std.proofs.Common.{◌≡◌, ℕ, zero, suc, ◌<◌, List, [], ◌∷◌, map, length, get_or, sym, ◌∙◌, subst, arith}
use Rattle.std.specs.Prelude.{Option}
use Rattle.std.proofs.lemmas.List.{length-map}
use Rattle.fsl_disk.specs.Disk.{DiskState}
use Rattle.fsl_outside.specs.Connections.{Connection, Standing}
use Rattle.fsl_login.specs.declared.User.{User}
use Rattle.fsl_serve.specs.declared.work.Work.{Work}
use Rattle.fsl_serve.specs.Calls.{Call}
use Rattle.fsl_serve.specs.Points.{Points}
use Rattle.fsl_serve.specs.Workers.{IsWorked, IsGated}
use Rattle.fsl_serve.specs.Crews.{AllWorked, AllGated}

module _ {D C J : Type 0} (tells : D → DiskState) (crew : J → C) (work : J → Work) (present : C → Option Connection) (standing : C → Standing) (users : List User) (project : List ℕ) (requests : ℕ) (told : J → Option (List Call)) where
  abbrev pub JobWorked : J → J → Type 0
  JobWorked j k = IsWorked tells users project requests (present (crew j)) (standing (crew j)) (present (crew k)) (standing (crew k)) (told j) (told k) (work k)

  worked_at : (js ks : List J) → length ks ≡ length js → ((i : ℕ) (d : J) → i < length js → JobWorked (get_or js i d) (get_or ks i d))
      → (i : ℕ) (d : C) (w : Work) → i < length js
      → (o : Option (List Call)) × (o' : Option (List Call)) × IsWorked tells users project requests (present (get_or (map crew js) i d)) (standing (get_or (map crew js) i d)) (present (get_or (map crew ks) i d)) (standing (get_or (map crew ks) i d)) o o' (get_or (map work ks) i w)
  worked_at [] ks len h i d w l = absurd (omega arith)
  worked_at (j ∷ js) [] len h i d w l = absurd (omega arith)
  worked_at (j ∷ js) (k ∷ ks) len h zero d w l = (told j, told k, h 0 j l)
  worked_at (j ∷ js) (k ∷ ks) len h (suc i) d w l = worked_at js ks (omega arith) (λ n e m. h (suc n) e (omega arith)) i d w (omega arith)

  pub all_worked : (js ks : List J) (cs ds : List C) (ws : List Work) → map crew js ≡ cs → map crew ks ≡ ds → map work ks ≡ ws → length ks ≡ length js → ((i : ℕ) (d : J) → i < length js → JobWorked (get_or js i d) (get_or ks i d))
      → AllWorked tells present standing users project requests ws cs ds
  all_worked js ks cs ds ws p q r len h =
      let F : List C → Type 0 = λ xs. AllWorked tells present standing users project requests ws xs ds in
      let G : List C → Type 0 = λ ys. AllWorked tells present standing users project requests ws (map crew js) ys in
      let H : List Work → Type 0 = λ zs. AllWorked tells present standing users project requests zs (map crew js) (map crew ks) in
      subst F p (subst G q (subst H r (
        length-map ks crew ∙ len ∙ sym (length-map js crew),
        length-map ks work ∙ len ∙ sym (length-map js crew),
        λ i d w l. worked_at js ks len h i d w (omega (arith, l, length-map js crew)),
      )))

module _ {D C J : Type 0} (tells : D → DiskState) (crew : J → C) (work : J → Work) (present : C → Option Connection) (standing : C → Standing) (passed : C → Option Points) (clock : C → Option (List ℕ)) (users : List User) (project : List ℕ) (requests : ℕ) (told : J → Option (List Call)) where
  abbrev pub JobGated : J → J → Type 0
  JobGated j k = IsGated tells users project requests (present (crew j)) (standing (crew j)) (present (crew k)) (standing (crew k)) (told j) (told k) (work k) (passed (crew j)) (passed (crew k)) (clock (crew j)) (clock (crew k))

  gated_at : (js ks : List J) → length ks ≡ length js → ((i : ℕ) (d : J) → i < length js → JobGated (get_or js i d) (get_or ks i d))
      → (i : ℕ) (d : C) (w : Work) → i < length js
      → (o : Option (List Call)) × (o' : Option (List Call)) × IsGated tells users project requests (present (get_or (map crew js) i d)) (standing (get_or (map crew js) i d)) (present (get_or (map crew ks) i d)) (standing (get_or (map crew ks) i d)) o o' (get_or (map work ks) i w) (passed (get_or (map crew js) i d)) (passed (get_or (map crew ks) i d)) (clock (get_or (map crew js) i d)) (clock (get_or (map crew ks) i d))
  gated_at [] ks len h i d w l = absurd (omega arith)
  gated_at (j ∷ js) [] len h i d w l = absurd (omega arith)
  gated_at (j ∷ js) (k ∷ ks) len h zero d w l = (told j, told k, h 0 j l)
  gated_at (j ∷ js) (k ∷ ks) len h (suc i) d w l = gated_at js ks (omega arith) (λ n e m. h (suc n) e (omega arith)) i d w (omega arith)

  pub all_gated : (js ks : List J) (cs ds : List C) (ws : List Work) → map crew js ≡ cs → map crew ks ≡ ds → map work ks ≡ ws → length ks ≡ length js → ((i : ℕ) (d : J) → i < length js → JobGated (get_or js i d) (get_or ks i d))
      → AllGated tells present standing passed clock users project requests ws cs ds
  all_gated js ks cs ds ws p q r len h =
      let F : List C → Type 0 = λ xs. AllGated tells present standing passed clock users project requests ws xs ds in
      let G : List C → Type 0 = λ ys. AllGated tells present standing passed clock users project requests ws (map crew js) ys in
      let H : List Work → Type 0 = λ zs. AllGated tells present standing passed clock users project requests zs (map crew js) (map crew ks) in
      subst F p (subst G q (subst H r (λ i d w l. gated_at js ks len h i d w (omega (arith, l, length-map js crew)))))

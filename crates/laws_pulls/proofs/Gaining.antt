-- What arrivals of public artifacts of a peer leave of the contents.
use Rattle.std.specs.Prelude.{◌≡◌, ℕ, ◌||◌, Bool, true, false, not, cond, List, [], ◌∷◌, ◌++◌, Option, Some, None, is_some, Result, Ok, Err}
use Rattle.std.proofs.Common.{refl, sym, ap, subst, ◌∙◌}
use Rattle.std.specs.Option.{option_map_or}
use Rattle.std.specs.Str.{bytes_eq}
use Rattle.std.specs.Ordering.{eq_by_cmp}
use Rattle.std.specs.FinMap as map_of
use Rattle.std.specs.FinSet as set
use Rattle.std.specs.Cmp.Lexicographic.{bytes_decides, texts_ties}
use Rattle.std.proofs.lemmas.List.Sums.{fold-append}
use Rattle.fsl_order.specs.Names.{bytes_cmp}
use Rattle.fsl_order.proofs.Orders.{bytes_cmp-IsTotalOrder}
use Rattle.fsl_record.specs.declared.Record.{Record}
use Rattle.fsl_record.specs.declared.Record.TheVariants as record_of
use Rattle.fsl_blobs.specs.Fold.{Held, Contents, contents, nothing, after, is_new}
use Rattle.fsl_repo.specs.declared.Arrival.{Arrival}
use Rattle.fsl_repo.specs.declared.Arrival.TheVariants as arrival
use Rattle.fsl_repo.specs.declared.ArriveFault.{ArriveFault}
use Rattle.fsl_repo.specs.Machine.{State, now, arrived}
use Rattle.laws_pulls.specs.Shown.{StaysHeld, Gains}

-- ---- artifacts that may be held

abbrev pub some_held : Held → Option Held
some_held a = Some a

pub held_is : (a b : Held) → some_held a ≡ Some b → a ≡ b
held_is a b e = cc

pub no_held : {P : Type 0} (a : Held) → some_held a ≡ None → P
no_held a e = absurd (no a e)
  where
    no : (a : Held) → some_held a ≡ None → ⊥
    no a e = cc

pub not_true : {P : Type 0} → false ≡ true → P
not_true e = absurd cc

-- a public artifact
abbrev pub blob : List ℕ → Held
blob bytes = record { private = false; bytes = bytes }

-- two public artifacts with one content are the same
pub same_held : (a b : Held) → a.private ≡ b.private → a.bytes ≡ b.bytes → a ≡ b
same_held a b p q = λ i. record { private = p i; bytes = q i }

-- ---- no change, and one change behind the other

pub no_gain : (c there : Contents) → Gains c there c
no_gain c there =
    record {
      kept = λ name a e. record { now = a; is_held = e; same = refl; public = λ p. p };
      brought = λ name a none some. no_held a (sym some ∙ none);
      shunned = refl;
      config = refl;
    }

-- from one contents to the next that are the same
pub gain_to : (before there c d : Contents) → c ≡ d → Gains before there c → Gains before there d
gain_to before there c d e g = subst (Gains before there) e g

module _ (there a b c : Contents) (f : Gains a there b) (g : Gains b there c) where
  still : (name : List ℕ) (x : Held) → map_of.get a.held name ≡ Some x → StaysHeld c name x
  still name x e =
      let y = f.kept name x e in
      let z = g.kept name y.now y.is_held in
      record { now = z.now; is_held = z.is_held; same = z.same ∙ y.same; public = λ p. z.public (y.public p) }

  came : (name : List ℕ) (x : Held) → map_of.get a.held name ≡ None → map_of.get c.held name ≡ Some x → (x.private ≡ false) × (map_of.get there.held name ≡ Some x)
  came name x none some = by (map_of.get b.held name) refl
    where
      by : (o : Option Held) → map_of.get b.held name ≡ o → (x.private ≡ false) × (map_of.get there.held name ≡ Some x)
      by None e = g.brought name x e some
      by (Some y) e =
          let first = f.brought name y none e in
          let z = g.kept name y e in
          let is : z.now ≡ x = held_is z.now x (sym z.is_held ∙ some) in
          let public : x.private ≡ false = sym (ap (λ (h : Held). h.private) is) ∙ z.public first.0 in
          let same : y ≡ x = same_held y x (first.0 ∙ sym public) (sym z.same ∙ ap (λ (h : Held). h.bytes) is) in
          (public, first.1 ∙ ap some_held same)

  pub both_gain : Gains a there c
  both_gain = record { kept = still; brought = came; shunned = g.shunned ∙ f.shunned; config = g.config ∙ f.config }

-- ---- one artifact more

-- of a map with one name more
at_name : (c : Contents) (name : List ℕ) (v : Held) (q : List ℕ) → map_of.get (map_of.insert c.held name v) q ≡ cond (bytes_eq q name) (Some v) (map_of.get c.held q)
at_name c name v q =
    map_of.get-insert bytes_cmp-IsTotalOrder c.held name v q ∙ ap (λ (b : Bool). cond b (Some v) (map_of.get c.held q)) (sym (texts_ties q name))

module _ (c there : Contents) (name : List ℕ) (v : Held) where
  abbrev With : Contents
  With = record c { held = map_of.insert c.held name v }

  module _ (stays : (a : Held) → map_of.get c.held name ≡ Some a → (v.bytes ≡ a.bytes) × (v.private ≡ false))
      (comes : map_of.get c.held name ≡ None → (v.private ≡ false) × (map_of.get there.held name ≡ Some v)) where
    kept_by : (q : List ℕ) (a : Held) → map_of.get c.held q ≡ Some a → (b : Bool) → bytes_eq q name ≡ b → StaysHeld With q a
    kept_by q a e true same =
        let is : q ≡ name = (bytes_decides q name).0 same in
        let s = stays a (ap (map_of.get c.held) (sym is) ∙ e) in
        record {
          now = v;
          is_held = at_name c name v q ∙ ap (λ (b : Bool). cond b (some_held v) (map_of.get c.held q)) same;
          same = s.0;
          public = λ p. s.1;
        }
    kept_by q a e false other =
        record {
          now = a;
          is_held = at_name c name v q ∙ ap (λ (b : Bool). cond b (some_held v) (map_of.get c.held q)) other ∙ e;
          same = refl;
          public = λ p. p;
        }

    came_by : (q : List ℕ) (a : Held) → map_of.get c.held q ≡ None → map_of.get (map_of.insert c.held name v) q ≡ Some a → (b : Bool) → bytes_eq q name ≡ b
        → (a.private ≡ false) × (map_of.get there.held q ≡ Some a)
    came_by q a none some true same =
        let is : q ≡ name = (bytes_decides q name).0 same in
        let k = comes (ap (map_of.get c.held) (sym is) ∙ none) in
        let this : v ≡ a = held_is v a (sym (at_name c name v q ∙ ap (λ (b : Bool). cond b (some_held v) (map_of.get c.held q)) same) ∙ some) in
        (sym (ap (λ (h : Held). h.private) this) ∙ k.0, ap (map_of.get there.held) is ∙ k.1 ∙ ap some_held this)
    came_by q a none some false other =
        no_held a (sym some ∙ at_name c name v q ∙ ap (λ (b : Bool). cond b (some_held v) (map_of.get c.held q)) other ∙ none)

    pub one_gain : Gains c there With
    one_gain =
        record {
          kept = λ q a e. kept_by q a e (bytes_eq q name) refl;
          brought = λ q a none some. came_by q a none some (bytes_eq q name) refl;
          shunned = refl;
          config = refl;
        }

-- what is new isn't held
new_not_held : (o : Option Held) (s : Bool) (a : Held) → not (is_some o || s) ≡ true → o ≡ Some a → ⊥
new_not_held None s a new e = absurd (none_some a e)
  where
    none_some : (a : Held) → None ≡ some_held a → ⊥
    none_some a e = cc
new_not_held (Some b) s a new e = not_true new

-- a blob that the peer holds as public
blob_gains : (c there : Contents) (name bytes : List ℕ) → map_of.get there.held name ≡ Some (blob bytes) → Gains c there (after c (record_of.Blob false name None bytes))
blob_gains c there name bytes given =
    elim (is_new c name) as (λ b. is_new c name ≡ b → Gains c there (cond b (record c { held = map_of.insert c.held name (blob bytes) }) c)) [
      | true ↦ λ new. one_gain c there name (blob bytes) (λ a e. absurd (new_not_held (map_of.get c.held name) (set.contains c.shunned name) a new e)) (λ none. (refl, given))
      | false ↦ λ old. no_gain c there
    ] refl

-- a publication
publish_gains : (c there : Contents) (name : List ℕ) → Gains c there (after c (record_of.Publish name))
publish_gains c there name = by (map_of.get c.held name) refl
  where
    by : (o : Option Held) → map_of.get c.held name ≡ o → Gains c there (option_map_or (λ a. record c { held = map_of.insert c.held name (record a { private = false }) }) o c)
    by None e = no_gain c there
    by (Some a) e =
        one_gain c there name (record a { private = false })
        (λ x f. (ap (λ (h : Held). h.bytes) (held_is a x (sym e ∙ f)), refl))
        (λ none. no_held a (sym e ∙ none))

-- ---- one arrival

one_more : (records : List Record) (r : Record) → contents (records ++ r ∷ []) ≡ after (contents records) r
one_more records r = fold-append after nothing records (r ∷ [])

pub arrival_gains : (s : State) (there : Contents) (name bytes : List ℕ) (answer : Result Arrival ArriveFault) → map_of.get there.held name ≡ Some (blob bytes)
    → Gains (now s) there (now (arrived s name None bytes false answer))
arrival_gains s there name bytes (Ok arrival.Published) given =
    gain_to (now s) there _ _ (sym (one_more s.records (record_of.Publish name))) (publish_gains (now s) there name)
arrival_gains s there name bytes (Ok arrival.Stored) given =
    gain_to (now s) there _ _ (sym (one_more s.records (record_of.Blob false name None bytes))) (blob_gains (now s) there name bytes given)
arrival_gains s there name bytes (Ok arrival.Shunned) given = no_gain (now s) there
arrival_gains s there name bytes (Ok arrival.Present) given = no_gain (now s) there
arrival_gains s there name bytes (Err e) given = no_gain (now s) there

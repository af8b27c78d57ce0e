-- Files that arrive, none of which is shunned, are held under their names, where two texts of one name are one.
use Rattle.std.proofs.Common.{◌≡◌, ℕ, ◌^◌, Bool, true, false, cond, not, List, [], ◌∷◌, ◌++◌, length, Option, Some, None, Result, Ok, Err, refl, sym, ap, subst, ◌∙◌, append_assoc}
use Rattle.std.specs.Prelude.{◌&&◌, ◌||◌, nat_lt, is_some, if◌then◌else◌, option_map, MatchBool, MatchOption}
use Rattle.std.specs.List.{AllByRecursion}
use Rattle.std.specs.Str.{bytes_eq}
use Rattle.std.specs.Ordering.{is_eq}
use Rattle.std.specs.Cmp.{tied_itself}
use Rattle.std.specs.FinMap as map_of
use Rattle.std.specs.FinSet as set
use Rattle.std.specs.FinSet.{FinSet}
use Rattle.std.proofs.lemmas.List.{append-nil}
use Rattle.fsl_order.specs.Names.{bytes_cmp}
use Rattle.fsl_order.proofs.Orders.{bytes_cmp-IsTotalOrder}
use Rattle.fsl_name.specs.Name.{name_of}
use Rattle.fsl_record.specs.Receipts.{Brought}
use Rattle.fsl_record.specs.declared.Record.{Record}
use Rattle.fsl_record.specs.declared.Record.TheVariants as record_of
use Rattle.fsl_blobs.specs.Fold.{Held, HeldSet, Contents, contents, after, is_new}
use Rattle.fsl_blobs.specs.Kept.{is_same}
use Rattle.fsl_blobs.proofs.KeptLemmas.{is_same-means, shown, blob-get, blob-shunned, publish-get, publish-shunned}
use Rattle.fsl_repo.specs.declared.Arrival.{Arrival}
use Rattle.fsl_repo.specs.declared.Arrival.TheVariants as arrival
use Rattle.fsl_repo.specs.declared.ArriveFault.{ArriveFault}
use Rattle.fsl_repo.specs.declared.ArriveFault.TheVariants as arrive_fault
use Rattle.fsl_repo.specs.Machine.{State, IsRoom, IsArrival, IsArrivalOf, again, arrived, now}
use Rattle.fsl_repo.proofs.HeldMore.{contents_more}
use Rattle.fsl_checkin.specs.Exports.{held_at}
use Rattle.fossil.specs.declared.reading.message.MessageFile.{MessageFile}
use Rattle.fossil.specs.Printed.{Printed}
use Rattle.fossil.specs.Arrivals.{Taken, refusal_of, and_taken, Arrive}

abbrev Told : Type 0
Told = Result Arrival ArriveFault

-- ---- what a record leaves under a name

itself : (name : List ℕ) → is_same name name ≡ true
itself name = ap is_eq (tied_itself bytes_cmp-IsTotalOrder name)

mapped : (b : Bool) (a : Held) (o : Option Held) → option_map (λ (x : Held). x.bytes) (cond (b && true) (Some a) o) ≡ cond b (Some a.bytes) (option_map (λ (x : Held). x.bytes) o)
mapped true a o = refl
mapped false a o = refl

bytes_shown : (name q : List ℕ) (o : Option Held) → option_map (λ (x : Held). x.bytes) (option_map (shown name q) o) ≡ option_map (λ (x : Held). x.bytes) o
bytes_shown name q None = refl
bytes_shown name q (Some a) = elim (is_same name q) as (λ b. Some (if b then record a { private = false } else a).bytes ≡ Some a.bytes) [ true ↦ refl | false ↦ refl ]

module _ (c : Contents) (name : List ℕ) where
  -- a blob of a name that is neither held nor shunned
  blob_at : (private : Bool) (receipt : Option Brought) (bytes q : List ℕ) → map_of.get c.held name ≡ None → set.contains c.shunned name ≡ false
      → held_at (after c (record_of.Blob private name receipt bytes)).held q ≡ cond (is_same name q) (Some bytes) (held_at c.held q)
  blob_at private receipt bytes q none out =
      let a : Held = record { private = private; bytes = bytes } in
      let new : is_new c name ≡ true = λ i. not (is_some (none i) || out i) in
      ap (λ (o : Option Held). option_map (λ (x : Held). x.bytes) o) (blob-get c name private receipt bytes q ∙ ap (λ (b : Bool). cond (is_same name q && b) (Some a) (map_of.get c.held q)) new)
      ∙ mapped (is_same name q) a (map_of.get c.held q)

  publish_at : (q : List ℕ) → held_at (after c (record_of.Publish name)).held q ≡ held_at c.held q
  publish_at q = ap (λ (o : Option Held). option_map (λ (x : Held). x.bytes) o) (publish-get c name q) ∙ bytes_shown name q (map_of.get c.held q)

-- ---- an arrival that is neither refused nor shunned

module _ (name bytes : List ℕ) (private : Bool) where
  abbrev Came : Option Held → Told → Type 0
  Came held r = MatchOption held (r ≡ Ok arrival.Stored) (λ a. r ≡ Ok (again a private))

  fits : (b n w : ℕ) (t : Bool) (r : Told) → refusal_of name r ≡ None → r ≡ (if t then Err (arrive_fault.Full b n w) else Ok arrival.Stored) → r ≡ Ok arrival.Stored
  fits b n w true r plain is = absurd (let no : refusal_of name (Err (arrive_fault.Full b n w)) ≡ None = ap (refusal_of name) (sym is) ∙ plain in cc)
  fits b n w false r plain is = is

  has_room : (c : Contents) (r : Told) → refusal_of name r ≡ None → IsRoom c r → r ≡ Ok arrival.Stored
  has_room c r plain (items, are, is) = fits _ _ _ _ r plain is

  came_by : (size : ℕ) (found : List ℕ) (c : Contents) (large same shunned : Bool) (held : Option Held) (r : Told) → refusal_of name r ≡ None → shunned ≡ false
      → MatchBool large (r ≡ Err (arrive_fault.TooLarge size))
      (MatchBool same (MatchBool shunned (r ≡ Ok arrival.Shunned) (MatchOption held (IsRoom c r) (λ a. r ≡ Ok (again a private)))) (r ≡ Err (arrive_fault.NameWrong found))) → Came held r
  came_by size found c true same shunned held r plain out h = absurd (let no : refusal_of name (Err (arrive_fault.TooLarge size)) ≡ None = ap (refusal_of name) (sym h) ∙ plain in cc)
  came_by size found c false false shunned held r plain out h = absurd (let no : refusal_of name (Err (arrive_fault.NameWrong found)) ≡ None = ap (refusal_of name) (sym h) ∙ plain in cc)
  came_by size found c false true true held r plain out h = absurd cc
  came_by size found c false true false None r plain out h = has_room c r plain h
  came_by size found c false true false (Some a) r plain out h = h

  abbrev ArrivalBy : Option ℕ → List Record → Told → Type 0
  ArrivalBy stopped records r =
      MatchOption stopped
      (MatchBool (nat_lt (2 ^ 24) (length bytes)) (r ≡ Err (arrive_fault.TooLarge (length bytes)))
      (MatchBool (bytes_eq (name_of bytes) name) (IsArrivalOf (contents records) name bytes private r) (r ≡ Err (arrive_fault.NameWrong (name_of bytes)))))
      (λ faults. r ≡ Err (arrive_fault.Stopped faults))

  came : (s : State) (r : Told) → s.stopped ≡ None → set.contains (now s).shunned name ≡ false → refusal_of name r ≡ None → IsArrival s name bytes private r → Came (map_of.get (now s).held name) r
  came s r runs out plain is =
      let c = now s in
      came_by (length bytes) (name_of bytes) (after c (record_of.Blob private name None bytes)) (nat_lt (2 ^ 24) (length bytes)) (bytes_eq (name_of bytes) name) (set.contains c.shunned name) (map_of.get c.held name) r plain out
      (subst (λ (o : Option ℕ). ArrivalBy o s.records r) runs is)

-- ---- what it leaves

-- each text that is held has the name under which it is, and is one of these
abbrev pub AreOf : (List ℕ → Type 0) → HeldSet → Type 0
AreOf Is held = (name text : List ℕ) → held_at held name ≡ Some text → (name ≡ name_of text) × Is text

module _ (Is : List ℕ → Type 0) (apart : (a b : List ℕ) → Is a → Is b → name_of a ≡ name_of b → a ≡ b) (shunned : FinSet bytes_cmp) where
  pub record Stands (s : State) : Type 0 where
    pub runs : s.stopped ≡ None
    pub shuns : (now s).shunned ≡ shunned
    pub each : AreOf Is (now s).held

  -- what was held stays, and records were appended
  pub record Goes (s new : State) : Type 0 where
    pub stands : Stands new
    pub stay : (name text : List ℕ) → held_at (now s).held name ≡ Some text → held_at (now new).held name ≡ Some text
    pub more : List Record
    pub records : new.records ≡ s.records ++ more

  module _ (s : State) (stands : Stands s) (name bytes : List ℕ) (private : Bool) (receipt : Option Brought) (named : name ≡ name_of bytes) (is : Is bytes) where
    abbrev Now : Told → Type 0
    Now r = let new = arrived s name receipt bytes private r in Goes s new × (held_at (now new).held name ≡ Some bytes)

    stays : Goes s s
    stays = record { stands = stands; stay = λ q x h. h; more = []; records = sym (append-nil s.records) }

    -- what is held under the name is this text
    here : (a : Held) → map_of.get (now s).held name ≡ Some a → held_at (now s).held name ≡ Some bytes
    here a there =
        let at : held_at (now s).held name ≡ Some a.bytes = ap (λ (o : Option Held). option_map (λ (x : Held). x.bytes) o) there in
        let one = stands.each name a.bytes at in
        at ∙ ap Some (apart a.bytes bytes one.1 is (sym one.0 ∙ named))

    published : (a : Held) → map_of.get (now s).held name ≡ Some a → Now (Ok arrival.Published)
    published a there =
        let c = now s in
        let next = contents_more s.records (record_of.Publish name) in
        let at : (q : List ℕ) → held_at (contents (s.records ++ record_of.Publish name ∷ [])).held q ≡ held_at c.held q = λ q. ap (λ (x : Contents). held_at x.held q) next ∙ publish_at c name q in (
          record {
            stands = record { runs = stands.runs; shuns = ap (λ (x : Contents). x.shunned) next ∙ publish-shunned c name ∙ stands.shuns; each = λ q x h. stands.each q x (sym (at q) ∙ h) };
            stay = λ q x h. at q ∙ h;
            more = record_of.Publish name ∷ [];
            records = refl;
          },
          at name ∙ here a there,
        )

    stored : map_of.get (now s).held name ≡ None → set.contains (now s).shunned name ≡ false → Now (Ok arrival.Stored)
    stored none out =
        let c = now s in
        let blob = record_of.Blob private name receipt bytes in
        let next = contents_more s.records blob in
        let at : (q : List ℕ) → held_at (contents (s.records ++ blob ∷ [])).held q ≡ cond (is_same name q) (Some bytes) (held_at c.held q) =
        λ q. ap (λ (x : Contents). held_at x.held q) next ∙ blob_at c name private receipt bytes q none out in (
          record {
            stands = record { runs = stands.runs; shuns = ap (λ (x : Contents). x.shunned) next ∙ blob-shunned c name private receipt bytes ∙ stands.shuns; each = λ q x h. of q x (is_same name q) refl (sym (at q) ∙ h) };
            stay = λ q x h. at q ∙ kept q x (is_same name q) refl h;
            more = blob ∷ [];
            records = refl;
          },
          at name ∙ ap (λ (b : Bool). cond b (Some bytes) (held_at c.held name)) (itself name),
        )
      where
        of : (q x : List ℕ) (b : Bool) → is_same name q ≡ b → cond b (Some bytes) (held_at (now s).held q) ≡ Some x → (q ≡ name_of x) × Is x
        of q x true e h = let same : bytes ≡ x = cc in subst (λ (y : List ℕ). (q ≡ name_of y) × Is y) same (sym (is_same-means name q e) ∙ named, is)
        of q x false e h = stands.each q x h

        kept : (q x : List ℕ) (b : Bool) → is_same name q ≡ b → held_at (now s).held q ≡ Some x → cond b (Some bytes) (held_at (now s).held q) ≡ Some x
        kept q x true e h =
            let gone : held_at (now s).held q ≡ None = ap (λ (n : List ℕ). held_at (now s).held n) (sym (is_same-means name q e)) ∙ ap (λ (o : Option Held). option_map (λ (y : Held). y.bytes) o) none in
            let no : None ≡ Some x = sym gone ∙ h in absurd cc
        kept q x false e h = h

    again_by : (a : Held) → map_of.get (now s).held name ≡ Some a → (b : Bool) → Now (Ok (if b then arrival.Present else arrival.Published))
    again_by a there true = (stays, here a there)
    again_by a there false = published a there

    by : (o : Option Held) (r : Told) → map_of.get (now s).held name ≡ o → set.contains (now s).shunned name ≡ false → Came name bytes private o r → Now r
    by None r none out h = subst Now (sym h) (stored none out)
    by (Some a) r there out h = subst Now (sym h) (again_by a there (not a.private || private))

    pub one_arrived : (r : Told) → set.contains shunned name ≡ false → refusal_of name r ≡ None → IsArrival s name bytes private r → Now r
    one_arrived r out plain arrives =
        let clear : set.contains (now s).shunned name ≡ false = ap (λ (x : FinSet bytes_cmp). set.contains x name) stands.shuns ∙ out in
        by (map_of.get (now s).held name) r refl clear (came name bytes private s r stands.runs clear plain arrives)

  -- ---- one file after another

  -- a file under the name of its text, which isn't shunned
  pub record IsWelcome (f : MessageFile) : Type 0 where
    pub named : f.name ≡ name_of f.bytes
    pub is : Is f.bytes
    pub out : set.contains shunned f.name ≡ false

  pub record HaveArrived (s new : State) (files : List MessageFile) : Type 0 where
    pub goes : Goes s new
    pub here : AllByRecursion (λ f. held_at (now new).held f.name ≡ Some f.bytes) files

  goes_on : (a b c : State) → Goes a b → Goes b c → Goes a c
  goes_on a b c x y = record {
    stands = y.stands;
    stay = λ q t h. y.stay q t (x.stay q t h);
    more = x.more ++ y.more;
    records = y.records ∙ ap (λ (rs : List Record). rs ++ y.more) x.records ∙ append_assoc a.records x.more y.more;
  }

  pub all_arrived : (receipt : Option Brought) (files : List MessageFile) (t done : Taken) → Stands t.state → AllByRecursion IsWelcome files → Arrive receipt t files (Ok done) → HaveArrived t.state done.state files
  all_arrived receipt [] t done stands welcome h =
      let same : done ≡ t = cc in
      subst (λ (x : Taken). HaveArrived t.state x.state []) (sym same) (record { goes = record { stands = stands; stay = λ q x k. k; more = []; records = sym (append-nil t.state.records) }; here = tt })
  all_arrived receipt (f ∷ files) t done stands welcome h =
      by (refusal_of f.name h.0) refl h.2 (λ start. all_arrived receipt files (and_taken receipt t f h.0) done start welcome.1)
    where
      by : (o : Option Printed) → refusal_of f.name h.0 ≡ o → MatchOption o (Arrive receipt (and_taken receipt t f h.0) files (Ok done)) (λ refusal. Ok done ≡ Err refusal)
          → (Stands (and_taken receipt t f h.0).state → Arrive receipt (and_taken receipt t f h.0) files (Ok done) → HaveArrived (and_taken receipt t f h.0).state done.state files) → HaveArrived t.state done.state (f ∷ files)
      by (Some refusal) e k more = absurd cc
      by None e k more =
          let one = one_arrived t.state stands f.name f.bytes f.private receipt (welcome.0).named (welcome.0).is h.0 (welcome.0).out e h.1 in
          let rest = more one.0.stands k in
          record { goes = goes_on t.state (and_taken receipt t f h.0).state done.state one.0 rest.goes; here = (rest.goes.stay f.name f.bytes one.1, rest.here) }

-- Facts on what is read and written as a whole.
use Rattle.std.proofs.Common.{◌≡◌, ◌≤◌, ◌<◌, ℕ, ◌+◌, ◌-◌, Bool, true, List, ◌++◌, length, take, drop, Option, Some, None, sym, ap, subst, ◌∙◌, arith, append_assoc, append-nil}
use Rattle.std.specs.Prelude.{if◌then◌else◌}
use Rattle.std.specs.Io.KnownBytes.{Appends, Consumes, Keeps}
use Rattle.std.proofs.lemmas.List.{take-append-drop, length-append, length-take-le, take_rest}

-- the text is what was taken, and the rest
pub record IsWrittenTo (old now : Option (List ℕ)) (text rest : List ℕ) : Type 0 where
  pub front : List ℕ
  pub whole : text ≡ front ++ rest
  pub taken : Appends old now front

-- the text so far was read from what was left, at least a byte each turn, and no fault came
pub record IsReadTo (old now : Option (List ℕ)) (faults_old faults_now turns limit : ℕ) (text : List ℕ) : Type 0 where
  pub read : Consumes old now text
  pub same : faults_now ≡ faults_old
  pub turn : turns ≤ length text
  pub within : length text ≤ limit

-- one piece after another
pub Appends-twice : (old mid new : Option (List ℕ)) (a b : List ℕ) → Appends old mid a → Appends mid new b → Appends old new (a ++ b)
Appends-twice None mid new a b p q = tt
Appends-twice (Some xs) None new a b p q = absurd p
Appends-twice (Some xs) (Some ys) None a b p q = absurd q
Appends-twice (Some xs) (Some ys) (Some zs) a b p q = q ∙ ap (λ (l : List ℕ). l ++ b) p ∙ append_assoc xs a b

pub Consumes-twice : (old mid new : Option (List ℕ)) (a b : List ℕ) → Consumes old mid a → Consumes mid new b → Consumes old new (a ++ b)
Consumes-twice None mid new a b p q = tt
Consumes-twice (Some xs) None new a b p q = absurd p
Consumes-twice (Some xs) (Some ys) None a b p q = absurd q
Consumes-twice (Some xs) (Some ys) (Some zs) a b p q = p ∙ ap (λ (l : List ℕ). a ++ l) q ∙ sym (append_assoc a b zs)

-- the turn of a loop that writes
pub write_more : (old mid new : Option (List ℕ)) (text rest : List ℕ) (n : ℕ) → IsWrittenTo old mid text rest
    → Appends mid new (take n rest) → IsWrittenTo old new text (take (length rest - n) (drop n rest))
write_more old mid new text rest n w p = record {
  front = w.front ++ take n rest;
  whole =
      w.whole ∙ ap (λ (l : List ℕ). w.front ++ l) (sym (take-append-drop n rest)) ∙ sym (append_assoc w.front (take n rest) (drop n rest))
      ∙ ap (λ (l : List ℕ). (w.front ++ take n rest) ++ l) (sym (take_rest rest n));
  taken = Appends-twice old mid new w.front (take n rest) w.taken p;
}

-- the text is all that was read where the last read gave nothing
pub read_to_end : (old mid new : Option (List ℕ)) (text result into : List ℕ) (n : ℕ) → Consumes old mid text → Consumes mid new (take n into) → n ≡ 0 → result ≡ text
    → Consumes old new result
read_to_end old mid new text result into n read last none is =
    subst (λ t. Consumes old new t) (ap (λ (k : ℕ). text ++ take k into) none ∙ append-nil text ∙ sym is) (Consumes-twice old mid new text (take n into) read last)

-- a read that failed took nothing
pub read_kept : (old mid new : Option (List ℕ)) (text : List ℕ) → Consumes old mid text → Keeps mid new → Consumes old new text
read_kept None mid new text p q = tt
read_kept (Some xs) None new text p q = absurd p
read_kept (Some xs) (Some ys) None text p q = absurd q
read_kept (Some xs) (Some ys) (Some zs) text p q = p ∙ ap (λ (l : List ℕ). text ++ l) (sym q)

-- where a piece was stored, the text is followed by it
pub stored_is : (text now into : List ℕ) (n : ℕ) (stored : Bool) → stored ≡ true → now ≡ (if stored then text ++ take n into else text) → now ≡ text ++ take n into
stored_is text now into n stored is_stored joined = joined ∙ ap (λ (t : Bool). if t then text ++ take n into else text) is_stored

-- the text with a piece behind it was read
pub read_more : (old mid new : Option (List ℕ)) (text now into : List ℕ) (n : ℕ) → Consumes old mid text → Consumes mid new (take n into) → now ≡ text ++ take n into → Consumes old new now
read_more old mid new text now into n read last is = subst (λ t. Consumes old new t) (sym is) (Consumes-twice old mid new text (take n into) read last)

some : (n : ℕ) → (n ≡ 0 → ⊥) → 0 < n
some n h = grind (arith, h)

-- the turn of a loop that reads
pub read_on : (old mid new : Option (List ℕ)) (first before after turns limit : ℕ) (text now into : List ℕ) (n : ℕ) → IsReadTo old mid first before turns limit text
    → Consumes mid new (take n into) → n ≤ length into → (n ≡ 0 → ⊥) → after ≡ before → now ≡ text ++ take n into → length now ≤ limit → IsReadTo old new first after (turns + 1) limit now
read_on old mid new first before after turns limit text now into n so_far last fits none same is within = record {
  read = read_more old mid new text now into n so_far.read last is;
  same = same ∙ so_far.same;
  turn =
      (let turn = so_far.turn in
      let longer : length now ≡ length text + n = ap length is ∙ length-append text (take n into) ∙ ap (λ (k : ℕ). length text + k) (length-take-le n into fits) in
      let more = some n none in omega (arith, turn, longer, more));
  within = within;
}

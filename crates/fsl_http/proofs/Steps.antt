-- Facts on connections, step after step.
use Rattle.std.proofs.Common.{◌≡◌, ℕ, ◌<◌, ◌≤◌, Bool, true, List, [], ◌∷◌, ◌++◌, length, take, drop, min, Option, Some, None, refl, sym, ap, ◌∙◌, arith, append_assoc, append-nil}
use Rattle.std.specs.Prelude.{◌≢◌, if◌then◌else◌}
use Rattle.std.proofs.lemmas.List.{take-append-drop, take_at, take-append-le, length-take-le}
use Rattle.fsl_outside.specs.Connections.{Connection, Between, IsRead, IsFailed}
use Rattle.fsl_http.specs.Limits.{most_piece}
use Rattle.fsl_http.specs.Reading.{SendsNothing, IsPiece}

pub reads_nothing : (a : Option Connection) → Between a a (λ c d. IsRead c d [])
reads_nothing None = tt
reads_nothing (Some c) = record { left = refl; read = sym (append-nil c.read); taken = refl; failed = refl }

pub read_twice : (c d e : Connection) (x y : List ℕ) → IsRead c d x → IsRead d e y → IsRead c e (x ++ y)
read_twice c d e x y p q = record {
  left = p.left ∙ ap (λ (t : List ℕ). x ++ t) q.left ∙ sym (append_assoc x y e.left);
  read = q.read ∙ ap (λ (t : List ℕ). t ++ y) p.read ∙ append_assoc c.read x y;
  taken = q.taken ∙ p.taken;
  failed = q.failed ∙ p.failed;
}

-- two steps of a connection are one
pub Between-twice : {P Q R : Connection → Connection → Type 0} (a b c : Option Connection)
    → ((x y z : Connection) → P x y → Q y z → R x z) → Between a b P → Between b c Q → Between a c R
Between-twice None None None f p q = tt
Between-twice None None (Some z) f p q = absurd q
Between-twice None (Some y) c f p q = absurd p
Between-twice (Some x) None c f p q = absurd p
Between-twice (Some x) (Some y) None f p q = absurd q
Between-twice (Some x) (Some y) (Some z) f p q = f x y z p q

pub Between-map : {P Q : Connection → Connection → Type 0} (a b : Option Connection)
    → ((x y : Connection) → P x y → Q x y) → Between a b P → Between a b Q
Between-map None None f p = tt
Between-map None (Some y) f p = absurd p
Between-map (Some x) None f p = absurd p
Between-map (Some x) (Some y) f p = f x y p

-- a read that brought n bytes to that place
abbrev pub Brings : Option Connection → Option Connection → ℕ → List ℕ → Type 0
Brings a b n into = Between a b (λ c d. IsRead c d (take n into) × (n ≡ 0 → 0 < length into → d.left ≡ []))

-- what it brought joined the text
pub piece_joined : (a b : Option Connection) (into rest text now : List ℕ) (stored : Bool) (room most n : ℕ) → 0 < room → most ≡ min room most_piece → length into ≡ most → n ≤ length into
    → stored ≡ true → now ≡ (if stored then text ++ take n (into ++ rest) else text) → Brings a b n into → IsPiece a b text now room n
piece_joined a b into rest text now stored room most n some is_most size fits is_stored joined moves = record {
  bytes = take n into;
  joined = joined ∙ ap (λ (t : Bool). if t then text ++ take n (into ++ rest) else text) is_stored
      ∙ ap (λ (t : List ℕ). text ++ t) (take-append-le n into rest fits);
  count = length-take-le n into fits;
  fits = omega (arith, is_most, size, fits);
  few = omega (arith, is_most, size, fits);
  moved =
      Between-map {P = λ c d. IsRead c d (take n into) × (n ≡ 0 → 0 < length into → d.left ≡ [])} {Q = λ c d. IsRead c d (take n into) × (n ≡ 0 → d.left ≡ [])} a b
      (λ c d m. (m.0, λ none. m.1 none (omega (arith, some, is_most, size)))) moves;
}

pub piece_sends_nothing : (a b : Option Connection) (n : ℕ) (into : List ℕ) → Brings a b n into → SendsNothing a b
piece_sends_nothing a b n into moves =
    Between-map {P = λ c d. IsRead c d (take n into) × (n ≡ 0 → 0 < length into → d.left ≡ [])} {Q = λ c d. d.taken ≡ c.taken} a b (λ c d m. m.0.taken) moves

pub failed_sends_nothing : (a b : Option Connection) → Between a b (λ c d. IsFailed c d) → SendsNothing a b
failed_sends_nothing a b moves = Between-map {P = λ c d. IsFailed c d} {Q = λ c d. d.taken ≡ c.taken} a b (λ c d f. ap (λ (k : Connection). k.taken) f) moves

-- a piece was read behind those bytes
pub read_piece_more : (a b c : Option Connection) (x s t : List ℕ) (room n : ℕ) → Between a b (λ u v. IsRead u v x) → (p : IsPiece b c s t room n)
    → Between a c (λ u v. IsRead u v (x ++ p.bytes))
read_piece_more a b c x s t room n m p =
    Between-twice {P = λ u v. IsRead u v x} {Q = λ u v. IsRead u v p.bytes × (n ≡ 0 → v.left ≡ [])} {R = λ u v. IsRead u v (x ++ p.bytes)} a b c
    (λ u v w i j. read_twice u v w x p.bytes i j.0) m p.moved

pub sends_nothing_after : (a b c : Option Connection) (x : List ℕ) → Between a b (λ u v. IsRead u v x) → SendsNothing b c → SendsNothing a c
sends_nothing_after a b c x m p =
    Between-twice {P = λ u v. IsRead u v x} {Q = λ u v. v.taken ≡ u.taken} {R = λ u v. v.taken ≡ u.taken} a b c
    (λ u v w i j. j ∙ i.taken) m p

pub sends_nothing_moved : (a b : Option Connection) (x : List ℕ) → Between a b (λ u v. IsRead u v x) → SendsNothing a b
sends_nothing_moved a b x m = Between-map {P = λ u v. IsRead u v x} {Q = λ u v. v.taken ≡ u.taken} a b (λ u v i. i.taken) m

-- ---- lists

pub some_front : (xs ys : List ℕ) → xs ≢ [] → xs ++ ys ≢ []
some_front [] ys n e = n refl
some_front (x ∷ xs) ys n e = cc

pub not_empty : (xs : List ℕ) → 0 < length xs → xs ≢ []
not_empty xs lt e = let l = ap length e in omega (arith, l)

pub no_byte : (xs : List ℕ) → length xs ≡ 0 → xs ≡ []
no_byte [] e = refl
no_byte (x ∷ xs) e = absurd (omega (arith, e))

-- a text that ends within the front stands there
pub within_front : (a b p r : List ℕ) → a ++ b ≡ p ++ r → length p ≤ length a → a ≡ p ++ drop (length p) a
within_front a b p r same fits =
    sym (take-append-drop (length p) a)
    ∙ ap (λ (t : List ℕ). t ++ drop (length p) a)
    (sym (take-append-le (length p) a b fits) ∙ ap (take (length p)) same ∙ take_at p r (length p) refl)

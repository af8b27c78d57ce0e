-- Facts on what is read of a body, piece after piece.
use Rattle.std.proofs.Common.{◌≡◌, ℕ, ◌+◌, ◌<◌, ◌≤◌, List, [], ◌++◌, length, take, drop, Option, refl, sym, ap, subst, ◌∙◌, arith, append_assoc, append-nil, length-append}
use Rattle.std.proofs.lemmas.List.{take-append-drop, length-take-le}
use Rattle.std.proofs.Math.ListN.{drop_of_length-le}
use Rattle.fsl_outside.specs.Connections.{Connection, IsRead}
use Rattle.fsl_http.specs.Reading.{IsPiece}
use Rattle.fsl_http.specs.Bodies.{IsBehind, IsBodyTo, IsBody, ReadsBody}
use Rattle.fsl_http.proofs.Steps.{Between-twice, Between-map, reads_nothing, read_twice, read_piece_more}

-- the body at its start
pub body_start : (a : Option Connection) (front : List ℕ) (here size : ℕ) → here ≤ length front → here ≤ size → (here < size → length front ≤ here)
    → (body : List ℕ) → body ≡ take here front → IsBodyTo a a front body size
body_start a front here size fits within all body is = record {
  bytes = [];
  moved = reads_nothing a;
  behind = record {
    after = drop here front;
    whole = append-nil front ∙ sym (take-append-drop here front) ∙ ap (λ (t : List ℕ). t ++ drop here front) (sym is);
    rest = λ lt. drop_of_length-le front (all (let l : length body ≡ here = long in omega (arith, l, lt)));
    fits = let l : length body ≡ here = long in omega (arith, l, within);
    needed = record { before = []; last = []; few = omega arith; whole = refl; short = λ n. absurd (n refl) };
  };
}
  where
    long : length body ≡ here
    long = ap length is ∙ length-take-le here front fits

-- the body so far is all that stands behind the head
all_behind : (front bytes s : List ℕ) (size : ℕ) → IsBehind front bytes s size → length s < size → front ++ bytes ≡ s
all_behind front bytes s size b lt = b.whole ∙ ap (λ (x : List ℕ). s ++ x) (b.rest lt) ∙ append-nil s

-- a piece more
behind_more : (b c : Option Connection) (front bytes s t : List ℕ) (room size n : ℕ) → IsBehind front bytes s size → length s < size
    → (p : IsPiece b c s t room n) → room + length s ≤ size → IsBehind front (bytes ++ p.bytes) t size
behind_more b c front bytes s t room size n r lt p space = record {
  after = [];
  whole =
      sym (append_assoc front bytes p.bytes) ∙ ap (λ (x : List ℕ). x ++ p.bytes) (all_behind front bytes s size r lt)
      ∙ sym p.joined ∙ sym (append-nil t);
  rest = λ _. refl;
  fits = let l = ap length p.joined in let k = p.count in let m = length-append s p.bytes in let f = p.fits in omega (arith, l, k, m, f, space);
  needed = record {
    before = bytes;
    last = p.bytes;
    few = (let k = p.count in let f = p.few in omega (arith, k, f));
    whole = refl;
    short = λ _. subst (λ (x : List ℕ). length x < size) (sym (all_behind front bytes s size r lt)) lt;
  };
}

pub body_more : (a b c : Option Connection) (front s t : List ℕ) (room size n : ℕ) → IsBodyTo a b front s size → length s < size → IsPiece b c s t room n
    → room + length s ≤ size → IsBodyTo a c front t size
body_more a b c front s t room size n r lt p space = record {
  bytes = r.bytes ++ p.bytes;
  moved = read_piece_more a b c r.bytes s t room n r.moved p;
  behind = behind_more b c front r.bytes s t room size n r.behind lt p space;
}

pub body_ended : (a b c : Option Connection) (front s t : List ℕ) (room size n : ℕ) → IsBodyTo a b front s size → length s < size → IsPiece b c s t room n
    → room + length s ≤ size → n ≡ 0 → ReadsBody a c front size t
body_ended a b c front s t room size n r lt p space none =
    Between-twice {P = λ u v. IsRead u v r.bytes} {Q = λ u v. IsRead u v p.bytes × (n ≡ 0 → v.left ≡ [])} {R = λ u v. IsBody u v front t size} a b c
    (λ u v w i j. record {
      bytes = r.bytes ++ p.bytes;
      moved = read_twice u v w r.bytes p.bytes i j.0;
      behind = behind_more b c front r.bytes s t room size n r.behind lt p space;
      end = λ _. j.1 none;
    })
    r.moved p.moved

pub body_whole : (a b : Option Connection) (front s : List ℕ) (size : ℕ) → IsBodyTo a b front s size → size ≤ length s → ReadsBody a b front size s
body_whole a b front s size r le =
    Between-map {P = λ u v. IsRead u v r.bytes} {Q = λ u v. IsBody u v front s size} a b
    (λ u v i. record { bytes = r.bytes; moved = i; behind = r.behind; end = λ lt. absurd (omega (arith, lt, le)) }) r.moved
